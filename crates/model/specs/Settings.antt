-- The ranges of the settings. Cited by `Settings::checked`.
use Rattle.std.specs.Prelude.{ℕ, Bool, cond, ◌&&◌, Ok, Err, Result, nat_le, nat_lt}
use Rattle.model.specs.declared.refusals.Refusal.{Refusal}
use Rattle.model.specs.declared.refusals.Refusal.TheVariants.{Setting}
use Rattle.model.specs.declared.settings.Settings.{Settings}
use Rattle.model.specs.declared.settings.Wanted.{Wanted}

-- n is from 1 to m
abbrev pub up_to : ℕ → ℕ → Bool
up_to m n = nat_lt 0 n && nat_le n m

-- each setting is in its range, and at most `lent` rows are asked for
abbrev pub in_range : Wanted → ℕ → Bool
in_range w lent =
    up_to 16 w.limit && (up_to 32 w.line && (up_to 65535 w.talk && (up_to 600 w.grace && (up_to 2000 w.rows && (nat_le w.rows lent && nat_lt 0 w.server)))))

abbrev pub values : Settings → Wanted
values s = record { limit = s.limit; line = s.line; talk = s.talk; grace = s.grace; rows = s.rows; server = s.server }

-- settings that were accepted, by their values
abbrev pub read : Result Settings Refusal → Result Wanted Refusal
read (Ok s) = Ok (values s)
read (Err e) = Err e

-- accepted as asked for exactly in range
abbrev pub asked : Wanted → ℕ → Result Wanted Refusal
asked w lent = cond (in_range w lent) (Ok w) (Err Setting)
