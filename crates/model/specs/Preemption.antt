-- Pre-emption: whether a standing transmission is recalled for a claim, and which. Cited by `preempt`.
use Rattle.std.specs.Prelude.{ℕ, ◌+◌, Bool, cond, not, ◌&&◌, List, Some, None, fold, count_by, Option, is_none}
use Rattle.std.specs.List.{list_any}
use Rattle.order.specs.Standings.{not_behind, is_ahead}
use Rattle.order.specs.Lines.{at_place}
use Rattle.precedence.specs.declared.claims.Claim.{Claim}
use Rattle.model.specs.State.{Compare, Tables}
use Rattle.model.specs.Transmissions.{recall_of, revoke_act}
use Rattle.model.specs.declared.acts.Act.{Act}
use Rattle.model.specs.declared.causes.RecallCause.TheVariants.{PreEmption}
use Rattle.model.specs.declared.tables.Transmission.{Transmission}

-- it stands: it is open, and not under recall
abbrev pub stands : Transmission → Bool
stands x = is_none x.recall

-- how many are under recall
abbrev pub recalls : List Transmission → ℕ
recalls xs = count_by (λ x. not (stands x)) xs

-- the last in precedence of those looked at so far, and one more that stands: of level ones it is the later in the
-- table, which has the higher number where the numbers rise
abbrev pub later_of : Compare → Option Transmission → Transmission → Option Transmission
later_of cmp None x = Some x
later_of cmp (Some last) x = cond (not_behind (cmp last.ground x.ground)) (Some x) (Some last)

-- one that is under recall is passed over
abbrev pub later_standing : Compare → Option Transmission → Transmission → Option Transmission
later_standing cmp last x = cond (stands x) (later_of cmp last x) last

-- every standing transmission is looked at, and the last in precedence is found
abbrev pub last_standing : Compare → List Transmission → Option Transmission
last_standing cmp xs = fold (later_standing cmp) None xs

-- the claim is ahead of some standing transmission
abbrev pub ahead_of_some : Compare → Claim → List Transmission → Bool
ahead_of_some cmp w xs = list_any (λ x. stands x && is_ahead (cmp w.ground x.ground)) xs

-- the transmission that the claim pre-empts, if any
abbrev pub pre_empted_by : Compare → Claim → List Transmission → Option Transmission
pre_empted_by cmp w xs = cond (ahead_of_some cmp w xs) (last_standing cmp xs) None

abbrev pub recall_it : Tables → Option Transmission → Tables × Option Act
recall_it t None = (t, None)
recall_it t (Some x) = (recall_of t x PreEmption, Some (revoke_act x PreEmption))

abbrev pub pre_empt_for : Compare → Tables → Option Claim → Tables × Option Act
pre_empt_for cmp t None = (t, None)
pre_empt_for cmp t (Some w) = recall_it t (pre_empted_by cmp w t.transmissions)

-- with r transmissions under recall, which end for the first r claims, it is the claim at place r + 1 that may pre-empt
abbrev pub pre_empt : Compare → Tables → Tables × Option Act
pre_empt cmp t = pre_empt_for cmp t (at_place (recalls t.transmissions + 1) t.claims)
