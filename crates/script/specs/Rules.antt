-- The standings of a rule that is chosen by its name, and their laws. Cited by `NamedRule`.
use Rattle.order.specs.Laws.{Laws}
use Rattle.order.specs.declared.standing.Standing.{Standing}
use Rattle.order.proofs.Orderings.{by_higher, by_turns, at_each}
use Rattle.precedence.specs.Grounds.{kind_number}
use Rattle.precedence.specs.Rules.{by_priority, by_kind, regraded}
use Rattle.precedence.specs.declared.grounds.Ground.{Ground}
use Rattle.script.specs.declared.rule.NamedRule.{NamedRule}
use Rattle.script.specs.declared.rule.NamedRule.TheVariants.{Plain, Urgent, Graded}

abbrev pub standing_of : NamedRule → Ground → Ground → Standing
standing_of (Plain rule) a b = by_priority a b
standing_of (Urgent rule) a b = by_kind a b
standing_of (Graded rule) a b = by_priority (regraded rule.table a) (regraded rule.table b)

-- each of the three keeps the laws
pub laws_of_named : Laws standing_of
laws_of_named = at_each standing_of
    (λ o. elim o as (λ r. Laws {S = Unit {0}} {I = Ground} (λ _. standing_of r)) [
      | Plain rule ↦ by_higher (λ g. g.priority)
      | Urgent rule ↦ by_turns _ _ (by_higher (λ g. kind_number g.kind)) (by_higher (λ g. g.priority))
      | Graded rule ↦ by_higher (λ g. (regraded rule.table g).priority)
    ])
