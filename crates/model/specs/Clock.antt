-- The clock, which stops at each alarm. Cited by `clock_to`.
use Rattle.std.specs.Prelude.{ℕ, max, true, cond, Some, None, Ok, Option, nat_le, nat_lt, find}
use Rattle.order.specs.Lines.{at_place}
use Rattle.precedence.specs.declared.alarms.Alarm.{Alarm}
use Rattle.precedence.specs.declared.alarms.AlarmKind.{AlarmKind}
use Rattle.precedence.specs.declared.alarms.AlarmKind.TheVariants.{Talk, Grace}
use Rattle.model.specs.Lookups.{numbered}
use Rattle.model.specs.Answers.{Answer, accepted_with, refused_for, rows_stay}
use Rattle.model.specs.State.{Tables, State, with_clock, with_tables}
use Rattle.model.specs.Transmissions.{drop_alarm, end_of, recall_of, revoke_act}
use Rattle.model.specs.declared.acts.Acts.{Acts}
use Rattle.model.specs.declared.acts.Acts.TheVariants.{Zero, One}
use Rattle.model.specs.declared.causes.EndCause.TheVariants as end
use Rattle.model.specs.declared.causes.RecallCause.TheVariants as recall
use Rattle.model.specs.declared.refusals.Refusal.TheVariants.{ClockBack, ClockBeyond}
use Rattle.model.specs.declared.tables.Transmission.{Transmission}

-- a talk alarm recalls, a grace alarm ends, each because the time is over
abbrev pub act_by : State → Transmission → AlarmKind → State × Acts
act_by s x Talk = (with_tables s (recall_of s.tables x recall.TimeOut), One (revoke_act x recall.TimeOut))
act_by s x Grace = end_of s x end.TimeOut

-- an alarm of no open transmission is dropped without an act
abbrev pub act_on : State → Alarm → Option Transmission → State × Acts
act_on s a None = (with_tables s (drop_alarm s.tables a.grant), Zero)
act_on s a (Some x) = act_by s x a.kind

-- the alarm alone acts
abbrev pub expire_alarm : State → Alarm → State × Acts
expire_alarm s a = act_on s a (find (numbered a.grant) s.tables.transmissions)

-- the clock moves to the alarm's due second, unless it is past it already, and the reply says that there is more
abbrev pub stop_at : State → Alarm → State × Answer
stop_at s a =
    let after = expire_alarm (with_tables s (with_clock s.tables (max s.tables.clock a.due))) a in
    (after.0, Ok (record { more = true; acts = after.1 }))

-- the clock moves all the way
abbrev pub reach_second : Tables → ℕ → Tables × Answer
reach_second t to = accepted_with (with_clock t to, Zero)

-- it stops at the first alarm if that is due by then
abbrev pub go_to : State → ℕ → Option Alarm → State × Answer
go_to s to None = rows_stay s (reach_second s.tables to)
go_to s to (Some a) = cond (nat_le a.due to) (stop_at s a) (rows_stay s (reach_second s.tables to))

abbrev pub clock_to : State → ℕ → State × Answer
clock_to s to =
    cond (nat_lt to s.tables.clock) (refused_for s ClockBack)
    (cond (nat_lt 4000000000 to) (refused_for s ClockBeyond)
    (go_to s to (at_place 1 s.tables.alarms)))
