-- The rows of the register: blank at the opening, opened by a grant, closed by an end, and read. Cited by the making
-- of a call, by what grants and ends, and by the reading of a row.
use Rattle.std.specs.Prelude.{ℕ, min, List, ◌++◌, length, take, drop, replicate, Some, None, Ok, Err, Option, Result}
use Rattle.order.specs.Lines.{at_place, put_at}
use Rattle.precedence.specs.declared.grounds.Ground.{Ground}
use Rattle.precedence.specs.declared.grounds.Kind.TheVariants.{Normal}
use Rattle.model.specs.declared.causes.EndCause.{EndCause}
use Rattle.model.specs.declared.refusals.Refusal.{Refusal}
use Rattle.model.specs.declared.refusals.Refusal.TheVariants.{NoSuchRow}
use Rattle.model.specs.declared.register.End.{End}
use Rattle.model.specs.declared.register.Row.{Row}
use Rattle.model.specs.Causes.{end_number}

-- a row not yet granted
abbrev pub blank : Row
blank = record { camera = 0; ground = record { kind = Normal; priority = 0 }; granted = 0; end = None }

-- the first n rows are blank, or all where there are fewer, and the others are as they were
abbrev pub blanked : ℕ → List Row → List Row
blanked n rows = replicate (min n (length rows)) blank ++ drop n rows

-- a row just opened
abbrev pub open_row : ℕ → (ground : Ground) → ℕ → Row
open_row camera ground second = record { camera = camera; ground = ground; granted = second; end = None }

-- a row with its end
abbrev pub ended_row : ℕ → EndCause → Row → Row
ended_row second cause row = record row { end = Some (record { second = second; cause = cause }) }

-- the second ended and the number of the end cause, both 0 while there is no end
abbrev pub second_ended : Option End → ℕ
second_ended None = 0
second_ended (Some e) = e.second

abbrev pub cause_number : Option End → ℕ
cause_number None = 0
cause_number (Some e) = end_number e.cause

-- row n when so many grants were given: there is none at 0, nor one not yet granted
abbrev pub granted_row : ℕ → ℕ → List Row → Option Row
granted_row n granted rows = at_place n (take granted rows)

-- a granted row gets its end
abbrev pub close_it : ℕ → ℕ → EndCause → Option Row → List Row → List Row
close_it n second cause None rows = rows
close_it n second cause (Some row) rows = put_at n (ended_row second cause row) rows

abbrev pub close_row : ℕ → ℕ → ℕ → EndCause → List Row → List Row
close_row n granted second cause rows = close_it n second cause (granted_row n granted rows) rows

-- a granted row is read, and any other is refused
abbrev pub read_it : Option Row → Result Row Refusal
read_it None = Err NoSuchRow
read_it (Some row) = Ok row
