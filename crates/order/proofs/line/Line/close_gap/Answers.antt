use Rattle.std.proofs.Common.{sym, subst}
use Rattle.order.specs.Lines.{Ordered}
use Rattle.order.proofs.Lines.{Ordered-without}
use Rattle.order.proofs.Places.{left}
use Rattle.order.proofs.line.Line.close_gap.Goals as goal

pub returns-clause-line : goal.returns-clause-line
returns-clause-line g c = (left _ _ c.args.self.now.len _ c.args.place c.copy_within.ensures.after c.requires.some c.requires.within cc).1

pub returns-clause-slots : goal.returns-clause-slots
returns-clause-slots g c = (left _ _ c.args.self.now.len _ c.args.place c.copy_within.ensures.after c.requires.some c.requires.within cc).0

pub returns-clause-ordered : goal.returns-clause-ordered
returns-clause-ordered g c = λ cmp s. subst (Ordered cmp) (sym (returns-clause-line g c)) (Ordered-without cmp c.args.place _ s)
