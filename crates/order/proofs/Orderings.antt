-- Orderings keep the laws when they are made of others: `along`, `at_each` and `by_turns`; and numbers keep them.
-- Cited where an `impl` of `Ordering` owes its laws.
use Rattle.std.proofs.Common.{◌≡◌, ℕ, true, arith}
use Rattle.order.specs.Laws.{Laws}
use Rattle.order.specs.Standings.{turned, not_behind, in_turn, higher_first, lower_first}
use Rattle.order.specs.declared.standing.Standing.{Standing}

module _ {S I : Type 0} (standing : S → I → I → Standing) where
  -- law one as an equation
  pub mirrored : Laws standing → (o : S) (a b : I) → standing o b a ≡ turned (standing o a b)
  mirrored laws o a b = grind (arith, laws.ahead_behind o a b, laws.behind_ahead o a b, laws.ahead_behind o b a, laws.behind_ahead o b a)

  -- law two by the test
  pub chain : Laws standing → (o : S) (a b c : I) → not_behind (standing o a b) ≡ true → not_behind (standing o b c) ≡ true → not_behind (standing o a c) ≡ true
  chain laws o a b c s t = let h = laws.chained o a b c in grind arith

  -- both laws from these forms
  pub laws_of : ((o : S) (a b : I) → standing o b a ≡ turned (standing o a b)) → ((o : S) (a b c : I) → not_behind (standing o a b) ≡ true → not_behind (standing o b c) ≡ true → not_behind (standing o a c) ≡ true) → Laws standing
  laws_of mirror link = record {
    ahead_behind = λ o a b e. grind (arith, mirror o a b);
    behind_ahead = λ o a b e. grind (arith, mirror o a b);
    chained = λ o a b c s t. grind (arith, link o a b c);
  }

-- an ordering of what the items are taken for
pub along : {S I P J : Type 0} (standing : S → I → I → Standing) → Laws standing → (of : P → S) (taken : P → J → I) → Laws {S = P} {I = J} (λ o a b. standing (of o) (taken o a) (taken o b))
along standing laws of taken = record {
  ahead_behind = λ o a b. laws.ahead_behind (of o) (taken o a) (taken o b);
  behind_ahead = λ o a b. laws.behind_ahead (of o) (taken o a) (taken o b);
  chained = λ o a b c. laws.chained (of o) (taken o a) (taken o b) (taken o c);
}

-- an ordering that is chosen among orderings
pub at_each : {S I : Type 0} (standing : S → I → I → Standing) → ((o : S) → Laws {S = Unit {0}} {I = I} (λ _. standing o)) → Laws standing
at_each standing laws = record {
  ahead_behind = λ o. (laws o).ahead_behind tt;
  behind_ahead = λ o. (laws o).behind_ahead tt;
  chained = λ o. (laws o).chained tt;
}

-- one ordering decides, and where it is level the next
pub by_turns : {S I : Type 0} (f g : S → I → I → Standing) → Laws f → Laws g → Laws {S = S} {I = I} (λ o a b. in_turn (f o a b) (g o a b))
by_turns f g first second = laws_of (λ o a b. in_turn (f o a b) (g o a b))
    (λ o a b. grind (arith, mirrored f first o a b, mirrored g second o a b))
    (λ o a b c s t. grind (arith, mirrored f first, mirrored g second, chain f first, chain g second))

-- what is ordered by a number, the higher ahead
pub by_higher : {S I : Type 0} (number : I → ℕ) → Laws {S = S} {I = I} (λ _ a b. higher_first (number a) (number b))
by_higher number = laws_of (λ _ a b. higher_first (number a) (number b)) (λ o a b. grind arith) (λ o a b c s t. grind arith)

-- and the lower ahead
pub by_lower : {S I : Type 0} (number : I → ℕ) → Laws {S = S} {I = I} (λ _ a b. lower_first (number a) (number b))
by_lower number = laws_of (λ _ a b. lower_first (number a) (number b)) (λ o a b. grind arith) (λ o a b c s t. grind arith)
