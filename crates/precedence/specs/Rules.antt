-- How two grounds stand to one another under each rule, and two alarms. Cited by the rules' `standing`.
use Rattle.std.specs.Prelude.{slice_index}
use Rattle.order.specs.Standings.{higher_first, lower_first, in_turn}
use Rattle.order.specs.declared.standing.Standing.{Standing}
use Rattle.precedence.specs.Grounds.{kind_number}
use Rattle.precedence.specs.declared.grounds.Ground.{Ground}
use Rattle.precedence.specs.declared.grading.GradeTable.{GradeTable}
use Rattle.precedence.specs.declared.alarms.Alarm.{Alarm}

-- plain: the higher priority is ahead
abbrev pub by_priority : Ground → Ground → Standing
by_priority a b = higher_first a.priority b.priority

-- urgent: the higher kind is ahead, and of one kind the higher priority
abbrev pub by_kind : Ground → Ground → Standing
by_kind a b = in_turn (higher_first (kind_number a.kind) (kind_number b.kind)) (higher_first a.priority b.priority)

-- grading: the ground with its grade in the place of its priority
abbrev pub regraded : GradeTable → Ground → Ground
regraded table g = record { kind = g.kind; priority = slice_index table.grades g.priority }

-- alarms: the earlier is ahead
abbrev pub by_due : Alarm → Alarm → Standing
by_due a b = lower_first a.due b.due
