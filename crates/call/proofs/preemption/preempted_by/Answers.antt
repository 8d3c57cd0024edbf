use Rattle.std.proofs.Common.{cond, Some, None, Option, sym, ap, ◌∙◌, inl, inr}
use Rattle.order.specs.Standings.{is_ahead}
use Rattle.order.specs.declared.standing.Standing.{Standing}
use Rattle.model.specs.declared.tables.Transmission.{Transmission}
use Rattle.model.proofs.Preemption.{ahead_of_last}
use Rattle.call.proofs.preemption.preempted_by.Goals as goal

-- what the claim's standing to the last makes of it
abbrev told : Transmission → Standing → Option Transmission
told last s = cond (is_ahead s) (Some last) None

pub returns-in-Ahead : goal.returns-in-Ahead
returns-in-Ahead g c =
    let way = ahead_of_last g.R.Ordering.standing g.R.Ordering.laws c.args.rule.now c.args.claim c.args.transmissions.now _ c.in_ok-last.ensures.item in
    record { item = sym (way ∙ ap (told c.in_ok-last.last) (sym c.compare.ensures.stands ∙ c.in-Ahead.is)) }

pub returns-in-Level : goal.returns-in-Level
returns-in-Level g c =
    let way = ahead_of_last g.R.Ordering.standing g.R.Ordering.laws c.args.rule.now c.args.claim c.args.transmissions.now _ c.in_ok-last.ensures.item in
    elim c.in-Level.is [
      | inl level ↦ record { item = sym (way ∙ ap (told c.in_ok-last.last) (sym c.compare.ensures.stands ∙ level)) }
      | inr behind ↦ record { item = sym (way ∙ ap (told c.in_ok-last.last) (sym c.compare.ensures.stands ∙ behind)) }
    ]
