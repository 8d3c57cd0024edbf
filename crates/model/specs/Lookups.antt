-- What is looked for in the tables of a call. Cited by what finds, changes or drops it.
use Rattle.std.specs.Prelude.{ℕ, Bool, ◌==◌}
use Rattle.precedence.specs.declared.claims.Claim.{Claim}
use Rattle.precedence.specs.declared.alarms.Alarm.{Alarm}
use Rattle.model.specs.declared.tables.Member.{Member}
use Rattle.model.specs.declared.tables.Transmission.{Transmission}

-- the member that is this camera
abbrev pub is_member : ℕ → Member → Bool
is_member camera m = m.camera == camera

-- the claim of this camera
abbrev pub claim_of : ℕ → Claim → Bool
claim_of camera w = w.camera == camera

-- the transmission of this camera
abbrev pub transmission_of : ℕ → Transmission → Bool
transmission_of camera x = x.camera == camera

-- the transmission under this grant
abbrev pub numbered : ℕ → Transmission → Bool
numbered n x = x.number == n

-- the alarm of this grant
abbrev pub alarm_of : ℕ → Alarm → Bool
alarm_of n a = a.grant == n
