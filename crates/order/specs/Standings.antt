-- Standings by themselves, and of numbers. Cited by the functions of `standing` and by the rules of precedence.
use Rattle.std.specs.Prelude.{ℕ, Bool, true, false, cond, nat_lt}
use Rattle.order.specs.declared.standing.Standing.{Standing}
use Rattle.order.specs.declared.standing.Standing.TheVariants.{Ahead, Level, Behind}

-- ahead or level
abbrev pub not_behind : Standing → Bool
not_behind Ahead = true
not_behind Level = true
not_behind Behind = false

abbrev pub is_ahead : Standing → Bool
is_ahead Ahead = true
is_ahead Level = false
is_ahead Behind = false

abbrev pub is_level : Standing → Bool
is_level Ahead = false
is_level Level = true
is_level Behind = false

-- how the other stands to the one
abbrev pub turned : Standing → Standing
turned Ahead = Behind
turned Level = Level
turned Behind = Ahead

-- the second standing decides where the first is level
abbrev pub in_turn : Standing → Standing → Standing
in_turn Ahead next = Ahead
in_turn Level next = next
in_turn Behind next = Behind

-- of two numbers the higher is ahead
abbrev pub higher_first : ℕ → ℕ → Standing
higher_first a b = cond (nat_lt b a) Ahead (cond (nat_lt a b) Behind Level)

-- of two numbers the lower is ahead
abbrev pub lower_first : ℕ → ℕ → Standing
lower_first a b = higher_first b a
