use Rattle.order.proofs.Lines.{placed}
use Rattle.order.proofs.line.place_for.Goals as goal

pub returns-clause-ordered : goal.returns-clause-ordered
returns-clause-ordered g c = (placed g.O.Ordering.standing g.O.Ordering.laws c.args.order.now c.args.item.now _ _ c.count_ahead.ensures.place).0

pub returns-clause-amid : goal.returns-clause-amid
returns-clause-amid g c = (placed g.O.Ordering.standing g.O.Ordering.laws c.args.order.now c.args.item.now _ _ c.count_ahead.ensures.place).1
