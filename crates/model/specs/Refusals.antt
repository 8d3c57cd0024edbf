-- The numbers of the refusals. Cited by `Refusal`.
use Rattle.std.specs.Prelude.{ℕ}
use Rattle.model.specs.declared.refusals.Refusal.{Refusal}
use Rattle.model.specs.declared.refusals.Refusal.TheVariants.{Setting, BadJoin, CallFull, NotInCall, BadKind, NothingOpen, NotWaiting, ClockBack, ClockBeyond, NoSuchRow}

abbrev pub refusal_number : Refusal → ℕ
refusal_number Setting = 11
refusal_number BadJoin = 13
refusal_number CallFull = 14
refusal_number NotInCall = 15
refusal_number BadKind = 16
refusal_number NothingOpen = 17
refusal_number NotWaiting = 18
refusal_number ClockBack = 19
refusal_number ClockBeyond = 20
refusal_number NoSuchRow = 23
