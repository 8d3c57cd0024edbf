-- The text of an act in a listing. Cited by `Act`.
use Rattle.std.specs.Prelude.{ℕ, List, ◌++◌, codes, decimal}
use Rattle.model.specs.Acts.{act_word, act_number, act_camera, act_value}
use Rattle.model.specs.declared.acts.Act.{Act}

abbrev pub act_text : Act → List ℕ
act_text act = codes "act=" ++ act_word act ++ codes " no=" ++ decimal (act_number act)
    ++ codes " cam=" ++ decimal (act_camera act) ++ codes " value=" ++ decimal (act_value act)
