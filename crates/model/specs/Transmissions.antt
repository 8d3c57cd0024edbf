-- Grant, promotion, end and recall: what opens and closes a row, and the alarms that go with it. Cited by the
-- functions of the call that grant, promote, end and recall.
use Rattle.std.specs.Prelude.{ℕ, ◌+◌, Some, None, Option}
use Rattle.order.specs.Lines.{joined, appended, at_place, without, put_at}
use Rattle.precedence.specs.Rules.{by_due}
use Rattle.precedence.specs.declared.grounds.Ground.{Ground}
use Rattle.precedence.specs.declared.claims.Claim.{Claim}
use Rattle.precedence.specs.declared.alarms.AlarmKind.{AlarmKind}
use Rattle.precedence.specs.declared.alarms.AlarmKind.TheVariants.{Talk, Grace}
use Rattle.model.specs.Words.{without_first, change_first}
use Rattle.model.specs.Lookups.{numbered, alarm_of}
use Rattle.model.specs.Acts.{grant_act, notify_act}
use Rattle.model.specs.Register.{open_row, close_row}
use Rattle.model.specs.State.{Tables, State, with_transmissions, with_claims, with_alarms, with_tables}
use Rattle.model.specs.declared.acts.Act.{Act}
use Rattle.model.specs.declared.acts.Act.TheVariants.{Revoke, Ended}
use Rattle.model.specs.declared.acts.Acts.{Acts}
use Rattle.model.specs.declared.acts.Acts.TheVariants.{One, Two, Three}
use Rattle.model.specs.declared.acts.Granted.{Granted}
use Rattle.model.specs.declared.causes.EndCause.{EndCause}
use Rattle.model.specs.declared.causes.RecallCause.{RecallCause}
use Rattle.model.specs.declared.tables.Transmission.{Transmission}

-- Alarms. There are 16 places for them, as many as transmissions may be open.

-- an alarm of grant n is set so many seconds on
abbrev pub set_alarm : Tables → ℕ → AlarmKind → ℕ → Tables
set_alarm t n kind seconds = with_alarms t (joined 16 by_due (record { due = t.clock + seconds; grant = n; kind = kind }) t.alarms)

-- the alarm of grant n is dropped
abbrev pub drop_alarm : Tables → ℕ → Tables
drop_alarm t n = with_alarms t (without_first (alarm_of n) t.alarms)

-- Grant: the next row opens, and a talk alarm is set talk seconds on.

-- what a camera is granted next
abbrev pub next_grant : Tables → ℕ → Granted
next_grant t camera = record { number = t.granted + 1; camera = camera; seconds = t.settings.talk }

-- the next number is given, and a transmission under it stands
abbrev pub numbered_next : Tables → ℕ → (ground : Ground) → Tables
numbered_next t camera ground = record t {
  transmissions = appended 16 (record { number = t.granted + 1; camera = camera; ground = ground; recall = None }) t.transmissions;
  granted = t.granted + 1;
}

abbrev pub grant_to : State → ℕ → Ground → State
grant_to s camera ground = record {
  tables = set_alarm (numbered_next s.tables camera ground) (s.tables.granted + 1) Talk s.tables.settings.talk;
  rows = put_at (s.tables.granted + 1) (open_row camera ground s.tables.clock) s.rows;
}

-- the acts of a grant
abbrev pub grant_acts : Granted → Acts
grant_acts g = Two (grant_act g) (notify_act g)

-- Promotion: if a claim waits, the first leaves the line and is granted.

abbrev pub promote : State → Option Claim → State × Option Granted
promote s None = (s, None)
promote s (Some w) = (grant_to (with_tables s (with_claims s.tables (without 1 s.tables.claims))) w.camera w.ground, Some (next_grant s.tables w.camera))

abbrev pub promote_first : State → State × Option Granted
promote_first s = promote s (at_place 1 s.tables.claims)

-- End: the row is closed, the alarm dropped, the act is ended; then the first in line is promoted.

abbrev pub close_grant : State → ℕ → EndCause → State
close_grant s n cause = record {
  tables = drop_alarm (with_transmissions s.tables (without_first (numbered n) s.tables.transmissions)) n;
  rows = close_row n s.tables.granted s.tables.clock cause s.rows;
}

-- ended, and the acts of the grant that followed it, if one did
abbrev pub end_acts : Act → Option Granted → Acts
end_acts ended None = One ended
end_acts ended (Some g) = Three ended (grant_act g) (notify_act g)

abbrev pub end_of : State → Transmission → EndCause → State × Acts
end_of s x cause =
    let after = promote_first (close_grant s x.number cause) in
    (after.0, end_acts (Ended x.number x.camera cause) after.1)

-- Recall: the transmission is under recall, and a grace alarm, grace seconds on, is in the place of the talk alarm.

abbrev pub recalled_for : RecallCause → Transmission → Transmission
recalled_for cause x = record x { recall = Some cause }

abbrev pub recall_of : Tables → Transmission → RecallCause → Tables
recall_of t x cause =
    let marked = with_transmissions t (change_first (numbered x.number) (recalled_for cause) t.transmissions) in
    set_alarm (drop_alarm marked x.number) x.number Grace t.settings.grace

abbrev pub revoke_act : Transmission → RecallCause → Act
revoke_act x cause = Revoke x.number x.camera cause
