-- The answer to an event, and the state with it. Cited by every event.
use Rattle.std.specs.Prelude.{false, Ok, Err, Result}
use Rattle.model.specs.State.{Tables, State}
use Rattle.model.specs.declared.acts.Act.{Act}
use Rattle.model.specs.declared.acts.Acts.{Acts}
use Rattle.model.specs.declared.acts.Acts.TheVariants.{One}
use Rattle.model.specs.declared.acts.Reply.{Reply}
use Rattle.model.specs.declared.refusals.Refusal.{Refusal}

-- accepted with a reply, or refused
abbrev pub Answer : Type 0
Answer = Result Reply Refusal

-- the answer to any accepted event but a clock that stopped at an alarm
abbrev pub reply_with : Acts → Answer
reply_with acts = Ok (record { more = false; acts = acts })

-- accepted, with what the tables or the whole state then are
abbrev pub accepted_with : {S : Type 0} → S × Acts → S × Answer
accepted_with after = (after.0, reply_with after.1)

-- one act, and no change
abbrev pub only_says : {S : Type 0} → S → Act → S × Answer
only_says s act = (s, reply_with (One act))

-- refused, and no change
abbrev pub refused_for : {S : Type 0} → S → Refusal → S × Answer
refused_for s why = (s, Err why)

-- what concerns the tables alone leaves the rows as they were
abbrev pub rows_stay : State → Tables × Answer → State × Answer
rows_stay s after = (record { tables = after.0; rows = s.rows }, after.1)
