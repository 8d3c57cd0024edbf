-- A newcomer's place, and what the two laws make of it.
use Rattle.std.proofs.Common.{◌≡◌, ℕ, zero, suc, ◌+◌, List, [], ◌∷◌, take, drop, sym, subst, one-add, arith}
use Rattle.std.specs.List.{insert as inserted, remove, AllByRecursion}
use Rattle.std.proofs.lemmas.Bool.{cond_both}
use Rattle.std.proofs.ByRecursion.{All-weaker, All-append, All-take, All-drop}
use Rattle.order.specs.Standings.{not_behind}
use Rattle.order.specs.Laws.{Laws}
use Rattle.order.specs.Lines.{place_of, insert, Ordered, Amid, without}
use Rattle.order.proofs.Standings.{isnt_behind, is_behind}
use Rattle.order.proofs.Orderings.{mirrored}
use Rattle.order.specs.declared.standing.Standing.{Standing}
use Rattle.order.specs.declared.standing.Standing.TheVariants.{Behind}

-- what holds of a newcomer and of all in line holds of the line with it
pub All-inserted : {X : Type 0} (P : X → Type 0) (k : ℕ) (x : X) (xs : List X) → P x → AllByRecursion P xs → AllByRecursion P (inserted xs k x)
All-inserted P k x xs p ps = All-append P (take k xs) (x ∷ drop k xs) (All-take P k xs ps) (p, All-drop P k xs ps)

-- from the two laws
module _ {S X : Type 0} (standing : S → X → X → Standing) (laws : Laws standing) (o : S) where
  -- a newcomer leaves a line in order
  Ordered-insert : (x : X) (xs : List X) → Ordered (standing o) xs → Ordered (standing o) (insert (standing o) x xs)
  Ordered-insert x [] s = (tt, tt)
  Ordered-insert x (y ∷ ys) s =
      let cmp = standing o in
      cond_both (not_behind (cmp y x)) (1 + place_of cmp x ys) 0 (λ k. Ordered cmp (inserted (y ∷ ys) k x))
      (λ e. rw one-add (All-inserted (λ z. cmp y z ≡ Behind → ⊥) (place_of cmp x ys) x ys (isnt_behind (cmp y x) e) s.0, Ordered-insert x ys s.1))
      (λ e.
      let first : cmp x y ≡ Behind → ⊥ = λ h. grind (arith, mirrored standing laws o y x) in
      ((first, All-weaker (λ z. cmp y z ≡ Behind → ⊥) (λ z. cmp x z ≡ Behind → ⊥) (λ z h. laws.chained o x y z first h) ys s.0), s))

  -- what comes after one that is behind x is behind x too
  all_behind : (x y : X) (ys : List X) → standing o y x ≡ Behind → AllByRecursion (λ z. standing o y z ≡ Behind → ⊥) ys → AllByRecursion (λ z. standing o z x ≡ Behind) ys
  all_behind x y ys e = All-weaker (λ z. standing o y z ≡ Behind → ⊥) (λ z. standing o z x ≡ Behind)
      (λ z h. let l = laws.chained o y z x h in grind arith) ys

  -- in a line in order, a newcomer comes behind all that are ahead of it or level with it, and before all others
  parted : (x : X) (xs : List X) → Ordered (standing o) xs → Amid (standing o) x (place_of (standing o) x xs) xs
  parted x [] s = (tt, tt)
  parted x (y ∷ ys) s =
      let cmp = standing o in
      cond_both (not_behind (cmp y x)) (1 + place_of cmp x ys) 0 (λ k. Amid cmp x k (y ∷ ys))
      (λ e. let t = parted x ys s.1 in rw one-add ((isnt_behind (cmp y x) e, t.0), t.1))
      (λ e. (tt, (is_behind _ e, all_behind x y ys (is_behind _ e) s.0)))

  -- both, at a place that is found
  pub placed : (x : X) (xs : List X) (k : ℕ) → k ≡ place_of (standing o) x xs → (Ordered (standing o) xs → Ordered (standing o) (inserted xs k x)) × (Ordered (standing o) xs → Amid (standing o) x k xs)
  placed x xs k e = (
    λ s. subst (λ j. Ordered (standing o) (inserted xs j x)) (sym e) (Ordered-insert x xs s),
    λ s. subst (λ j. Amid (standing o) x j xs) (sym e) (parted x xs s),
  )

-- a line stays in order without one of it

Ordered-remove : {X : Type 0} (cmp : X → X → Standing) (k : ℕ) (xs : List X) → Ordered cmp xs → Ordered cmp (remove xs k)
Ordered-remove cmp zero [] s = tt
Ordered-remove cmp (suc k) [] s = tt
Ordered-remove cmp zero (x ∷ xs) s = s.1
Ordered-remove {X} cmp (suc k) (x ∷ xs) s =
    let P : X → Type 0 = λ y. cmp x y ≡ Behind → ⊥ in
    (All-append P (take k xs) (drop (suc k) xs) (All-take P k xs s.0) (All-drop P (suc k) xs s.0), Ordered-remove cmp k xs s.1)

pub Ordered-without : {X : Type 0} (cmp : X → X → Standing) (p : ℕ) (xs : List X) → Ordered cmp xs → Ordered cmp (without p xs)
Ordered-without cmp zero xs s = s
Ordered-without cmp (suc k) xs s = Ordered-remove cmp k xs s
