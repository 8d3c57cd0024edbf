use Rattle.std.proofs.Common.{get_or, None, sym, ap, ◌∙◌}
use Rattle.std.proofs.lemmas.List.{take_all}
use Rattle.std.proofs.lemmas.List.Sums.{fold_more}
use Rattle.model.specs.Preemption.{later_standing, last_standing}
use Rattle.model.proofs.Preemption.{nothing}
use Rattle.call.proofs.preemption.last_standing.Goals as goal

pub loop-i-preserved : goal.loop-i-preserved
loop-i-preserved g c =
    let cmp = g.R.Ordering.standing c.args.rule.now in
    let xs = c.args.transmissions.now in
    let more = fold_more (later_standing cmp) None xs c.loop-i.i nothing c.loop-i-test.true in
    c.later-last.ensures.item ∙ ap (λ last. later_standing cmp last (get_or xs c.loop-i.i nothing)) c.loop-i.invariant ∙ sym more

pub returns : goal.returns
returns g c = record { item = c.loop-i.invariant ∙ ap (last_standing (g.R.Ordering.standing c.args.rule.now)) (take_all _ c.args.transmissions.now c.loop-i-test.false) }
