use Rattle.std.proofs.Common.{◌≡◌, ◌++◌}
use Rattle.std.specs.Prelude.{string_bytes}
use Rattle.script.specs.Text.{act_lines}
use Rattle.script.proofs.text.acts.Given as goal

abbrev pub invariant-loop-act : goal.invariant-loop-act
invariant-loop-act l =
    string_bytes l.out ++ act_lines l.act-iterator ≡ string_bytes l.initial.out ++ act_lines l.initial.act-iterator
