-- The one at a place, who stands before it and who after, and how many are ahead of a newcomer or level with it.
use Rattle.std.proofs.Common.{◌≡◌, ℕ, zero, suc, ◌+◌, ◌-◌, ◌≤◌, Bool, true, false, cond, ◌||◌, List, [], ◌∷◌, length, take, drop, Some, None, count_by, sym, refl, ap, ◌∙◌, subst, inl, inr, add-one, arith, length-take}
use Rattle.std.specs.List.{insert as inserted, AllByRecursion, slice_get, list_any, position_or_len}
use Rattle.std.proofs.ByRecursion.{All-weaker}
use Rattle.std.proofs.lemmas.List.Sums.{sum_by-take-drop, sum_by-cons, prefix_len-le-length}
use Rattle.std.proofs.lemmas.Bool.{cases_Bool, cond-false, false≢true, eqb-true}
use Rattle.order.specs.Laws.{Laws}
use Rattle.order.specs.Lines.{Ordered, insert, place_of}
use Rattle.order.specs.Standings.{not_behind, is_ahead, is_level}
use Rattle.order.specs.declared.standing.Standing.{Standing}
use Rattle.order.specs.declared.standing.Standing.TheVariants.{Ahead, Level, Behind}
use Rattle.order.proofs.Lines.{placed}
use Rattle.order.proofs.Orderings.{along}
use Rattle.precedence.specs.declared.claims.Claim.{Claim}
use Rattle.precedence.specs.declared.grounds.Ground.{Ground}
use Rattle.model.specs.Laws.{StandsAt, ahead_of, level_with}
use Rattle.model.specs.Lookups.{claim_of}
use Rattle.model.specs.Requests.{by_ground}
use Rattle.model.specs.State.{Compare}
use Rattle.model.specs.Words.{place_of_first}
use Rattle.model.proofs.Words.{none_before, one_before, at_found}

-- two constructors differ
none_some : {X : Type 0} (x : X) → None ≡ Some x → ⊥
none_some x e = let z : ◌≡◌ {A = ℕ} 0 1 = cc in omega arith

-- what holds of all holds of the one at a place
all_nth : {X : Type 0} (P : X → Type 0) (xs : List X) (k : ℕ) (x : X) → AllByRecursion P xs → slice_get xs k ≡ Some x → P x
all_nth P [] k x ps e = absurd (none_some x e)
all_nth P (y ∷ ys) zero x ps e = let same : y ≡ x = cc in subst P same ps.0
all_nth P (y ∷ ys) (suc k) x ps e = all_nth P ys k x ps.1 e

-- counting

one_more : {X : Type 0} (p : X → Bool) (x : X) (xs : List X) → count_by p (x ∷ xs) ≡ cond (p x) 1 0 + count_by p xs
one_more p x xs = sum_by-cons (λ y. cond (p y) 1 0) x xs

count_none : {X : Type 0} (p : X → Bool) (xs : List X) → AllByRecursion (λ x. p x ≡ false) xs → count_by p xs ≡ 0
count_none p [] ps = refl
count_none p (x ∷ xs) ps =
    let nil : ◌≡◌ {A = ℕ} (cond (p x) 1 0) 0 = cond-false (p x) 1 0 ps.0 in
    omega (arith, nil, count_none p xs ps.1, one_more p x xs)

not_ahead : (s : Standing) → (s ≡ Ahead → ⊥) → is_ahead s ≡ false
not_ahead Ahead h = absurd (h refl)
not_ahead Level h = refl
not_ahead Behind h = refl

ahead_or_level : (s : Standing) → (s ≡ Behind → ⊥) → cond (is_ahead s) 1 0 + cond (is_level s) 1 0 ≡ 1
ahead_or_level Ahead h = refl
ahead_or_level Level h = refl
ahead_or_level Behind h = absurd (h refl)

neither : (s : Standing) → s ≡ Behind → cond (is_ahead s) 1 0 + cond (is_level s) 1 0 ≡ 0
neither Ahead e = let z : ◌≡◌ {A = ℕ} 0 1 = cc in absurd (omega arith)
neither Level e = let z : ◌≡◌ {A = ℕ} 0 1 = cc in absurd (omega arith)
neither Behind e = refl

-- law one, in the direction that counting uses
abbrev pub LawOne : Compare → Type 0
LawOne cmp = (a b : Ground) → cmp a b ≡ Ahead → cmp b a ≡ Behind

module _ (cmp : Compare) (one : LawOne cmp) where
  none_ahead : (w : Claim) (line : List Claim) → AllByRecursion (λ v. by_ground cmp w v ≡ Behind → ⊥) line → count_by (λ v. is_ahead (cmp v.ground w.ground)) line ≡ 0
  none_ahead w line h = count_none (λ v. is_ahead (cmp v.ground w.ground)) line
      (All-weaker (λ v. by_ground cmp w v ≡ Behind → ⊥) (λ v. is_ahead (cmp v.ground w.ground) ≡ false) (λ v k. not_ahead (cmp v.ground w.ground) (λ e. k (one v.ground w.ground e))) line h)

  -- in a line in order, those that are ahead of one, and those that are level with it and before it, are all before it
  counted : (line : List Claim) (k : ℕ) (w : Claim) → slice_get line k ≡ Some w → Ordered (by_ground cmp) line → k ≡ ahead_of cmp w.ground line + level_with cmp w.ground (take k line)
  counted [] k w e s = absurd (none_some w e)
  counted (v ∷ vs) zero w e s =
      let same : v ≡ w = cc in
      let itself : is_ahead (cmp v.ground w.ground) ≡ false = not_ahead (cmp v.ground w.ground) (λ ahead. let back = one v.ground w.ground ahead in let z : ◌≡◌ {A = ℕ} 0 1 = cc in omega arith) in
      let first : ◌≡◌ {A = ℕ} (cond (is_ahead (cmp v.ground w.ground)) 1 0) 0 = cond-false _ 1 0 itself in
      let rest = none_ahead w vs (subst (λ u. AllByRecursion (λ x. by_ground cmp u x ≡ Behind → ⊥) vs) same s.0) in
      omega (arith, first, rest, one_more (λ x. is_ahead (cmp x.ground w.ground)) v vs)
  counted (v ∷ vs) (suc k) w e s =
      let front = ahead_or_level (cmp v.ground w.ground) (all_nth (λ x. by_ground cmp v x ≡ Behind → ⊥) vs k w s.0 e) in
      let rest = counted vs k w e s.1 in
      omega (arith, front, rest, one_more (λ x. is_ahead (cmp x.ground w.ground)) v vs, one_more (λ x. is_level (cmp x.ground w.ground)) v (take k vs))

  -- a claim at a place
  stands_at : (camera k n : ℕ) (line : List Claim) (w : Claim) → n ≡ suc k → slice_get line k ≡ Some w → w.camera ≡ camera → StandsAt cmp camera n line
  stands_at camera k n line w is e its =
      let less : suc k - 1 ≡ k = omega arith in
      subst (λ m. StandsAt cmp camera m line) (sym is) (record {
        claim = w;
        its = its;
        here = e;
        place = λ s. let c = counted line k w e s in let same : take (suc k - 1) line ≡ take k line = ap (λ m. take m line) less in let level = ap (level_with cmp w.ground) same in omega (arith, c, level);
      })

-- the first that passes, at its place
first_at : {X : Type 0} (p : X → Bool) (xs : List X) → list_any p xs ≡ true → (x : X) × (slice_get xs (position_or_len p xs) ≡ Some x) × (p x ≡ true)
first_at p [] some = absurd (false≢true some)
first_at {X} p (x ∷ xs) some = elim (cases_Bool (p x)) [
  | inl is ↦ (x, ap (slice_get (x ∷ xs)) (none_before p x xs is), is)
  | inr isnt ↦
      let rest : list_any p xs ≡ true = sym (ap (λ b. b || list_any p xs) isnt) ∙ some in
      let t = first_at p xs rest in
      (t.0, ap (slice_get (x ∷ xs)) (one_before p x xs isnt) ∙ t.1, t.2)
]

nth_inserted : {X : Type 0} (xs : List X) (k : ℕ) (x : X) → k ≤ length xs → slice_get (inserted xs k x) k ≡ Some x
nth_inserted xs zero x fits = refl
nth_inserted [] (suc k) x fits = absurd (omega arith)
nth_inserted (y ∷ ys) (suc k) x fits = nth_inserted ys k x (omega arith)

module _ (cmp : Compare) (one : LawOne cmp) where
  -- a camera that waits has its claim at the place that is looked up
  pub waits_at : (camera n : ℕ) (line : List Claim) → place_of_first (claim_of camera) line ≡ Some n → StandsAt cmp camera n line
  waits_at camera n line e =
      let found = at_found (claim_of camera) line n (sym e) in
      let t = first_at (claim_of camera) line found.0 in
      stands_at cmp one camera (position_or_len (claim_of camera) line) n line t.0 (found.1 ∙ add-one (position_or_len (claim_of camera) line)) t.1 (eqb-true t.0.camera camera t.2)

  -- a newcomer is at the place that it is told
  pub enters_at : (w : Claim) (line : List Claim) → StandsAt cmp w.camera (place_of (by_ground cmp) w line + 1) (insert (by_ground cmp) w line)
  enters_at w line =
      let k = place_of (by_ground cmp) w line in
      stands_at cmp one w.camera k (k + 1) (insert (by_ground cmp) w line) w (add-one k) (nth_inserted line k w (prefix_len-le-length (λ v. not_behind (by_ground cmp v w)) line)) refl

-- from the two laws: in a line in order, those in front of a newcomer are all that are ahead of it or level with it
module _ {S : Type 0} (standing : S → Ground → Ground → Standing) (laws : Laws standing) (o : S) where
  count_front : (w : Claim) (line : List Claim) → AllByRecursion (λ v. by_ground (standing o) v w ≡ Behind → ⊥) line → length line ≡ ahead_of (standing o) w.ground line + level_with (standing o) w.ground line
  count_front w [] h = refl
  count_front w (v ∷ vs) h =
      omega (arith, ahead_or_level (standing o v.ground w.ground) h.0, count_front w vs h.1, one_more (λ x. is_ahead (standing o x.ground w.ground)) v vs, one_more (λ x. is_level (standing o x.ground w.ground)) v vs)

  count_rest : (w : Claim) (line : List Claim) → AllByRecursion (λ v. by_ground (standing o) v w ≡ Behind) line → ahead_of (standing o) w.ground line + level_with (standing o) w.ground line ≡ 0
  count_rest w [] h = refl
  count_rest w (v ∷ vs) h =
      omega (arith, neither (standing o v.ground w.ground) h.0, count_rest w vs h.1, one_more (λ x. is_ahead (standing o x.ground w.ground)) v vs, one_more (λ x. is_level (standing o x.ground w.ground)) v vs)

  pub place_counts : (w : Claim) (line : List Claim) → Ordered (by_ground (standing o)) line → place_of (by_ground (standing o)) w line ≡ ahead_of (standing o) w.ground line + level_with (standing o) w.ground line
  place_counts w line s =
      let cmp = standing o in
      let k = place_of (by_ground cmp) w line in
      let claims : Laws {S = Unit {0}} {I = Claim} (λ _ a b. standing o a.ground b.ground) = along standing laws (λ _. o) (λ _ v. v.ground) in
      let amid = (placed (λ (_ : Unit {0}) a b. standing o a.ground b.ground) claims tt w line k refl).1 s in
      let front = count_front w (take k line) amid.0 in
      let rest = count_rest w (drop k line) amid.1 in
      let ahead : ahead_of cmp w.ground (take k line) + ahead_of cmp w.ground (drop k line) ≡ ahead_of cmp w.ground line = sum_by-take-drop (λ v. cond (is_ahead (cmp v.ground w.ground)) 1 0) line k in
      let level : level_with cmp w.ground (take k line) + level_with cmp w.ground (drop k line) ≡ level_with cmp w.ground line = sum_by-take-drop (λ v. cond (is_level (cmp v.ground w.ground)) 1 0) line k in
      let size : length (take k line) ≡ k = length-take k line ∙ omega (arith, prefix_len-le-length (λ v. not_behind (by_ground cmp v w)) line) in
      omega (arith, front, rest, ahead, level, size)
