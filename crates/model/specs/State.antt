-- A call as lists, with the rows of its register: what every event takes and gives. Cited by every event.
--
-- Compare                     what a precedence rule means
-- Tables, State               the call's tables, and the tables with the register's rows
-- with_clock .. with_alarms   the tables with one of them changed
-- opened                      the state of a call just made
-- row_read                    the reading of a row
use Rattle.std.specs.Prelude.{ℕ, List, [], Result}
use Rattle.order.specs.declared.standing.Standing.{Standing}
use Rattle.precedence.specs.declared.grounds.Ground.{Ground}
use Rattle.precedence.specs.declared.claims.Claim.{Claim}
use Rattle.precedence.specs.declared.alarms.Alarm.{Alarm}
use Rattle.model.specs.Register.{blanked, granted_row, read_it}
use Rattle.model.specs.declared.refusals.Refusal.{Refusal}
use Rattle.model.specs.declared.settings.Settings.{Settings}
use Rattle.model.specs.declared.register.Row.{Row}
use Rattle.model.specs.declared.tables.Member.{Member}
use Rattle.model.specs.declared.tables.Transmission.{Transmission}

-- how two grounds stand to one another under a precedence rule
abbrev pub Compare : Type 0
Compare = Ground → Ground → Standing

-- the tables of a call; what is said of order holds of every call that events have made from its opening on
pub record Tables : Type 0 where
  pub settings : Settings
  -- the second now
  pub clock : ℕ
  -- the cameras in the call, in joining order
  pub members : List Member
  -- the open transmissions, in the order of their grants
  pub transmissions : List Transmission
  -- the waiting claims, the first in line first
  pub claims : List Claim
  -- the alarms of the open transmissions, the first due first
  pub alarms : List Alarm
  -- how many grants were given
  pub granted : ℕ

pub record State : Type 0 where
  pub tables : Tables
  -- the rows of the register, those past the setting too
  pub rows : List Row

abbrev pub with_clock : Tables → ℕ → Tables
with_clock t second = record t { clock = second }

abbrev pub with_members : Tables → List Member → Tables
with_members t ms = record t { members = ms }

abbrev pub with_transmissions : Tables → List Transmission → Tables
with_transmissions t xs = record t { transmissions = xs }

abbrev pub with_claims : Tables → List Claim → Tables
with_claims t ws = record t { claims = ws }

abbrev pub with_alarms : Tables → List Alarm → Tables
with_alarms t due = record t { alarms = due }

-- the same rows beside other tables
abbrev pub with_tables : State → Tables → State
with_tables s t = record s { tables = t }

-- a call just made: the clock is at 0, nobody is in, nothing was granted
abbrev pub empty_tables : Settings → Tables
empty_tables z = record { settings = z; clock = 0; members = []; transmissions = []; claims = []; alarms = []; granted = 0 }

-- its register's first rows, as many as the setting says, are blank
abbrev pub opened : Settings → List Row → State
opened z lent = record { tables = empty_tables z; rows = blanked z.rows lent }

abbrev pub row_read : State → ℕ → Result Row Refusal
row_read s n = read_it (granted_row n s.tables.granted s.rows)
