use Rattle.std.proofs.Common.{rules}
use Rattle.script.proofs.rule.sixteenth_of_each.Goals as goal

pub returns : goal.returns
returns c = record { grades = λ k h. let made = c.from_fn.ensures.items.at k 0 h in search rules }
