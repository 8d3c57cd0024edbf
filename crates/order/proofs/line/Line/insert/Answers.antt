use Rattle.order.proofs.Places.{opened}
use Rattle.order.proofs.line.Line.insert.Goals as goal

pub returns-clause-line : goal.returns-clause-line
returns-clause-line g c = (opened _ _ c.args.self.now.len c.args.index c.args.item c.copy_within.ensures.after c.requires.within c.requires.room).1

pub returns-clause-slots : goal.returns-clause-slots
returns-clause-slots g c = (opened _ _ c.args.self.now.len c.args.index c.args.item c.copy_within.ensures.after c.requires.within c.requires.room).0
