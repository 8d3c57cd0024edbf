use Rattle.std.proofs.Common.{get_or, position, set, ap, ◌∙◌}
use Rattle.model.specs.Lookups.{numbered}
use Rattle.model.specs.State.{with_transmissions}
use Rattle.model.specs.Transmissions.{recalled_for}
use Rattle.model.proofs.Preemption.{nothing}
use Rattle.model.proofs.Words.{change_found, change_missing}
use Rattle.call.specs.View.{as_lists}
use Rattle.call.proofs.tables.Call.mark_recalled.Goals as goal

-- what is read at the index is what stands there in the table
pub returns-in-Some : goal.returns-in-Some
returns-in-Some c =
    let self = c.args.self.now in
    let xs = self.«open» in
    let k = c.in-Some.index in
    let f = recalled_for c.args.cause in
    let all = c.all-open.ensures.line in
    let found = c.in-Some.ensures.index ∙ ap (position (numbered c.args.number)) all in
    record { lists = ap (with_transmissions (as_lists self)) (c.put.ensures.line ∙ ap (λ ys. set xs k (f (get_or ys k nothing))) all ∙ change_found (numbered c.args.number) f xs k nothing found) }

pub returns-in_default : goal.returns-in_default
returns-in_default c =
    let self = c.args.self.now in
    let missing = c.in_default.ensures.index ∙ ap (position (numbered c.args.number)) c.all-open.ensures.line in
    record { lists = ap (with_transmissions (as_lists self)) (change_missing (numbered c.args.number) (recalled_for c.args.cause) self.«open» missing) }
