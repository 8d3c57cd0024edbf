use Rattle.std.proofs.Common.{sym, subst}
use Rattle.model.specs.Answers.{Answer}
use Rattle.model.specs.Laws.{LawfulEvent}
use Rattle.model.specs.State.{State}
use Rattle.model.specs.Step.{step}
use Rattle.model.proofs.Laws.{lawful}
use Rattle.arbiter.specs.View.{seen}
use Rattle.arbiter.proofs.arbiter.Arbiter.decide.Goals as goal

-- the state and the answer are those of the step, and of the step it is shown
pub returns-clause-lawful : goal.returns-clause-lawful
returns-clause-lawful g c =
    let cmp = g.R.Ordering.standing c.args.rule.now in
    let s = seen c.args.self.now in
    let e = c.args.event in
    let of_step = lawful g.R.Ordering.standing g.R.Ordering.laws c.args.rule.now s e in
    let answered = subst (λ (r : Answer). LawfulEvent cmp s e r (step cmp s e).0) (sym c.handle.ensures.answer) of_step in
    subst (λ (s' : State). LawfulEvent cmp s e c.handle.result s') (sym c.handle.ensures.state) answered
