-- What the lines of a script are. Cited by `Lines`.
use Rattle.std.specs.Prelude.{◌≡◌, ℕ, ◌+◌, ◌-◌, ◌^◌, ◌<◌, min, not, ◌==◌, List, [], length, take, drop, Option, MatchOption}
use Rattle.std.specs.List.{prefix_len}
use Rattle.script.specs.declared.lines.Lines.{Lines}
use Rattle.script.specs.declared.lines.Numbered.{Numbered}

-- the octets that are left, and the number of the line that was taken last
abbrev pub octets_left : Lines → List ℕ
octets_left lines = lines.rest.now

abbrev pub last_number : Lines → ℕ
last_number lines = lines.number

-- how many octets come before the first line end, or how many there are
abbrev pub line_end : List ℕ → ℕ
line_end octets = prefix_len (λ octet. not (octet == 10)) octets

-- the octets before the first line end are taken, under the next number; what follows that line end is left
pub record TakesFirst (before : Lines) (taken : Numbered) (after : Lines) : Type 0 where
  pub line : taken.line.now ≡ take (line_end (octets_left before)) (octets_left before)
  pub number : taken.number ≡ min (last_number before + 1) (2 ^ 64 - 1)
  pub counted : last_number after ≡ taken.number
  pub left : octets_left after ≡ drop (line_end (octets_left before) + 1) (octets_left before)
  pub shorter : length (octets_left after) < length (octets_left before)

-- nothing is taken, since nothing is left, and nothing changes
pub record TakesNone (before after : Lines) : Type 0 where
  pub none_left : octets_left before ≡ []
  pub none_after : octets_left after ≡ []
  pub same_number : last_number after ≡ last_number before

-- the first line is taken, if an octet is left
abbrev pub TakesLine : Lines → Option Numbered → Lines → Type 0
TakesLine before taken after = MatchOption taken (TakesNone before after) (λ numbered. TakesFirst before numbered after)
