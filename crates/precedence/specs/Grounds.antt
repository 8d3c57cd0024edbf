-- The numbers of the kinds. Cited by `Kind` and by the urgent rule.
use Rattle.std.specs.Prelude.{ℕ, cond, Some, None, Option, ◌==◌}
use Rattle.precedence.specs.declared.grounds.Kind.{Kind}
use Rattle.precedence.specs.declared.grounds.Kind.TheVariants.{Normal, ImminentPeril, Emergency}

abbrev pub kind_number : Kind → ℕ
kind_number Normal = 0
kind_number ImminentPeril = 1
kind_number Emergency = 2

-- no number above 2 is a kind's
abbrev pub kind_of : ℕ → Option Kind
kind_of n = cond (n == 0) (Some Normal) (cond (n == 1) (Some ImminentPeril) (cond (n == 2) (Some Emergency) None))
