-- The numbers of the classes. Cited by `Class`.
use Rattle.std.specs.Prelude.{ℕ, cond, Some, None, Option, ◌==◌}
use Rattle.model.specs.declared.tables.Class.{Class}
use Rattle.model.specs.declared.tables.Class.TheVariants.{ReceiveOnly, MayTransmit}

-- no number above 1 is a class's
abbrev pub class_of : ℕ → Option Class
class_of n = cond (n == 0) (Some ReceiveOnly) (cond (n == 1) (Some MayTransmit) None)
