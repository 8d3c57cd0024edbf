-- The text of an answer. Cited by `answered`.
use Rattle.std.specs.Prelude.{ℕ, List, [], ◌∷◌, ◌++◌, length, codes, decimal, Result, Ok, Err}
use Rattle.std.specs.Int.{from_bool}
use Rattle.model.specs.Acts.{listed}
use Rattle.model.specs.Refusals.{refusal_number}
use Rattle.model.specs.Shown.{act_text}
use Rattle.model.specs.declared.acts.Act.{Act}
use Rattle.model.specs.declared.acts.Reply.{Reply}
use Rattle.model.specs.declared.refusals.Refusal.{Refusal}

-- a line for each act
abbrev pub act_lines : List Act → List ℕ
act_lines [] = []
act_lines (act ∷ acts) = act_text act ++ codes "\n" ++ act_lines acts

-- the line of an event that was not done, under the number of why
abbrev pub refused_text : ℕ → ℕ → List ℕ
refused_text number answer =
    codes "n=" ++ (decimal number ++ (codes " answer=" ++ (decimal answer ++ codes " more=0 acts=0\n")))

-- the line of an event that was done, and those of its acts
abbrev pub accepted_line : ℕ → ℕ → ℕ → List ℕ
accepted_line number more count =
    codes "n=" ++ (decimal number ++ (codes " answer=0 more=" ++ (decimal more ++ (codes " acts=" ++ (decimal count ++ codes "\n")))))

abbrev pub accepted_text : ℕ → Reply → List ℕ
accepted_text number reply =
    accepted_line number (from_bool reply.more) (length (listed reply.acts)) ++ act_lines (listed reply.acts)

abbrev pub answer_text : ℕ → Result Reply Refusal → List ℕ
answer_text number (Ok reply) = accepted_text number reply
answer_text number (Err refusal) = refused_text number (refusal_number refusal)
