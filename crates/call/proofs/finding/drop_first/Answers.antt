use Rattle.std.proofs.Common.{position, ap, ◌∙◌}
use Rattle.model.proofs.Words.{without_missing}
use Rattle.call.proofs.finding.drop_first.Goals as goal

-- what is found nowhere is not in the table
pub returns-in_default-clause-entries : goal.returns-in_default-clause-entries
returns-in_default-clause-entries g c =
    without_missing _ c.args.table.now (c.in_default.ensures.index ∙ ap (position (λ entry. g.T.Keyed.has entry c.args.key.now)) c.all.ensures.line)
