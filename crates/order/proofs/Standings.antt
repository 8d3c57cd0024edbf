-- Facts on standings alone: the test `not_behind`, what it says, and what it says of the standing turned round.
use Rattle.std.proofs.Common.{◌≡◌, true, false, not, arith}
use Rattle.order.specs.Standings.{not_behind, is_ahead, turned}
use Rattle.order.specs.declared.standing.Standing.{Standing}
use Rattle.order.specs.declared.standing.Standing.TheVariants.{Behind}

pub isnt_behind : (s : Standing) → not_behind s ≡ true → s ≡ Behind → ⊥
isnt_behind s h e = grind arith

pub is_behind : (s : Standing) → not_behind s ≡ false → s ≡ Behind
is_behind s h = grind arith

pub turned_not_behind : (s t : Standing) → t ≡ turned s → not_behind s ≡ false → not_behind t ≡ true
turned_not_behind s t e h = grind arith

-- one is ahead exactly where the other is behind
pub ahead_is : (s : Standing) → is_ahead s ≡ not (not_behind (turned s))
ahead_is s = grind arith
