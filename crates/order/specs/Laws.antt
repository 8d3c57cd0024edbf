-- The two laws that every ordering owes. Cited by the trait `Ordering`.
use Rattle.std.specs.Prelude.{◌≡◌, ◌≢◌}
use Rattle.order.specs.declared.standing.Standing.{Standing}
use Rattle.order.specs.declared.standing.Standing.TheVariants.{Ahead, Behind}

-- `standing o a b` is how a stands to b under the ordering o
pub record Laws {S I : Type 0} (standing : S → I → I → Standing) : Type 0 where
  -- a is ahead of b exactly if b is behind a
  pub ahead_behind : (o : S) (a b : I) → standing o a b ≡ Ahead → standing o b a ≡ Behind
  pub behind_ahead : (o : S) (a b : I) → standing o b a ≡ Behind → standing o a b ≡ Ahead
  -- if a is not behind b, and b is not behind c, then a is not behind c
  pub chained : (o : S) (a b c : I) → (standing o a b ≢ Behind) → (standing o b c ≢ Behind) → standing o a c ≢ Behind
