-- A call as its lists. Cited by every event.
use Rattle.std.specs.Prelude.{List}
use Rattle.model.specs.State.{Tables, State}
use Rattle.model.specs.declared.register.Row.{Row}
use Rattle.call.specs.declared.tables.Call.{Call}

-- the tables, each as the list of those that it holds
abbrev pub as_lists : Call → Tables
as_lists c = record {
  settings = c.settings;
  clock = c.clock;
  members = c.members;
  transmissions = c.«open»;
  claims = c.claims;
  alarms = c.alarms;
  granted = c.grants;
}

-- with the register that is lent to it
abbrev pub view : Call → List Row → State
view c rows = record { tables = as_lists c; rows = rows }
