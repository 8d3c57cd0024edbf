use Rattle.std.proofs.Common.{◌≡◌, take}
use Rattle.model.specs.Preemption.{last_standing}
use Rattle.call.proofs.preemption.last_standing.Given as goal

abbrev pub invariant-loop-i : goal.invariant-loop-i
invariant-loop-i g l = l.last ≡ last_standing (g.R.Ordering.standing l.rule) (take l.i l.transmissions)
