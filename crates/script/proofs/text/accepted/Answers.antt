use Rattle.std.proofs.Common.{append_assoc}
use Rattle.script.proofs.text.accepted.Goals as goal

pub returns : goal.returns
returns c = let line = c.in_ok-writeln.ensures.bytes in let more = c.from-more.ensures in let count = c.len-count.ensures.value in
    record { text = simp append_assoc (simp (line, more, count, append_assoc) at c.acts.ensures.text) }
