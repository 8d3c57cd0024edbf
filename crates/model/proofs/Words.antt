-- What is done at the place of the first that passes is done to the first that passes.
use Rattle.std.proofs.Common.{◌≡◌, ℕ, suc, ◌+◌, ◌<◌, ◌≤◌, Bool, true, false, not, ◌||◌, List, [], ◌∷◌, length, get_or, set, Some, None, sym, refl, ap, ◌∙◌, inl, inr, one-add, arith, option_map, position, Option, find, is_some}
use Rattle.std.specs.List.{remove, list_any, position_or_len}
use Rattle.std.proofs.lemmas.Bool.{lt-ltb, le-ltb, cases_Bool, cond-true, cond-false, cond_both, or_parts, false≢true, not_from_true, not_from_false}
use Rattle.model.specs.Words.{place_of_first, without_first, change_first}

module _ {X : Type 0} (p : X → Bool) where
  -- how many come before the first that passes

  pub none_before : (x : X) (xs : List X) → p x ≡ true → position_or_len p (x ∷ xs) ≡ 0
  none_before x xs is = cond-false (not (p x)) (1 + position_or_len p xs) 0 (not_from_true (p x) is)

  pub one_before : (x : X) (xs : List X) → p x ≡ false → position_or_len p (x ∷ xs) ≡ suc (position_or_len p xs)
  one_before x xs isnt = cond-true (not (p x)) (1 + position_or_len p xs) 0 (not_from_false (p x) isnt) ∙ one-add (position_or_len p xs)

  -- one passes where fewer than all come before
  some_within : (xs : List X) → list_any p xs ≡ true → position_or_len p xs < length xs
  some_within [] some = absurd (false≢true some)
  some_within (x ∷ xs) some = elim (cases_Bool (p x)) [
    | inl is ↦ let n = none_before x xs is in omega arith
    | inr isnt ↦ let n = one_before x xs isnt in let l = some_within xs (sym (ap (λ b. b || list_any p xs) isnt) ∙ some) in omega arith
  ]

  none_within : (xs : List X) → list_any p xs ≡ false → length xs ≤ position_or_len p xs
  none_within [] none = omega arith
  none_within (x ∷ xs) none =
      let parts = or_parts (p x) (list_any p xs) none in
      let n = one_before x xs parts.0 in
      let l = none_within xs parts.1 in
      omega arith

  -- one is found where one passes
  pub some_found : (xs : List X) → is_some (find p xs) ≡ list_any p xs
  some_found [] = refl
  some_found (x ∷ xs) = elim (cases_Bool (p x)) [
    | inl is ↦ ap is_some (cond-true (p x) (Some x) (find p xs) is) ∙ sym (ap (λ b. b || list_any p xs) is)
    | inr isnt ↦ ap is_some (cond-false (p x) (Some x) (find p xs) isnt) ∙ some_found xs ∙ sym (ap (λ b. b || list_any p xs) isnt)
  ]

  -- where an index was found, one passes, and so many come before it

  found : (xs : List X) (k : ℕ) → Some k ≡ position p xs → (list_any p xs ≡ true) × (k ≡ position_or_len p xs)
  found xs k e = elim (cases_Bool (list_any p xs)) [
    | inl some ↦ (some, (let f : Some k ≡ Some (position_or_len p xs) = e ∙ cond-true _ (Some (position_or_len p xs)) None (lt-ltb _ _ (some_within xs some)) in cc))
    | inr none ↦ absurd (let f : Some k ≡ None = e ∙ cond-false _ (Some (position_or_len p xs)) None (le-ltb _ _ (none_within xs none)) in let z : ◌≡◌ {A = ℕ} 0 1 = cc in omega arith)
  ]

  missing : (xs : List X) → None ≡ position p xs → list_any p xs ≡ false
  missing xs e = elim (cases_Bool (list_any p xs)) [
    | inl some ↦ absurd (let f : None ≡ Some (position_or_len p xs) = e ∙ cond-true _ (Some (position_or_len p xs)) None (lt-ltb _ _ (some_within xs some)) in let z : ◌≡◌ {A = ℕ} 0 1 = cc in omega arith)
    | inr none ↦ none
  ]

  -- the same of a place

  found_behind : (xs : List X) (n : ℕ) (o : Option ℕ) → o ≡ position p xs → Some n ≡ option_map (λ k. k + 1) o → (list_any p xs ≡ true) × (n ≡ position_or_len p xs + 1)
  found_behind xs n None e is = absurd (let z : ◌≡◌ {A = ℕ} 0 1 = cc in omega arith)
  found_behind xs n (Some k) e is = let t = found xs k e in let f : n ≡ k + 1 = cc in (t.0, omega (arith, f, t.1))

  pub at_found : (xs : List X) (n : ℕ) → Some n ≡ place_of_first p xs → (list_any p xs ≡ true) × (n ≡ position_or_len p xs + 1)
  at_found xs n is = found_behind xs n (position p xs) refl is

  missing_behind : (xs : List X) (o : Option ℕ) → o ≡ position p xs → None ≡ option_map (λ k. k + 1) o → list_any p xs ≡ false
  missing_behind xs None e is = missing xs e
  missing_behind xs (Some k) e is = absurd (let z : ◌≡◌ {A = ℕ} 0 1 = cc in omega arith)

  pub not_found : (xs : List X) → None ≡ place_of_first p xs → list_any p xs ≡ false
  not_found xs is = missing_behind xs (position p xs) refl is

  -- the list without it

  present : (xs : List X) → list_any p xs ≡ true → remove xs (position_or_len p xs) ≡ without_first p xs
  present [] some = absurd (false≢true some)
  present (x ∷ xs) some = elim (cases_Bool (p x)) [
    | inl is ↦ ap (remove (x ∷ xs)) (none_before x xs is) ∙ sym (cond-true (p x) xs (x ∷ without_first p xs) is)
    | inr isnt ↦
        let rest : list_any p xs ≡ true = sym (ap (λ b. b || list_any p xs) isnt) ∙ some in
        ap (remove (x ∷ xs)) (one_before x xs isnt) ∙ ap (λ ys. x ∷ ys) (present xs rest) ∙ sym (cond-false (p x) xs (x ∷ without_first p xs) isnt)
  ]

  absent : (xs : List X) → list_any p xs ≡ false → without_first p xs ≡ xs
  absent [] none = refl
  absent (x ∷ xs) none =
      let parts = or_parts (p x) (list_any p xs) none in
      cond-false (p x) xs (x ∷ without_first p xs) parts.0 ∙ ap (λ ys. x ∷ ys) (absent xs parts.1)

  pub without_found : (xs : List X) (k : ℕ) → Some k ≡ position p xs → remove xs k ≡ without_first p xs
  without_found xs k e = let t = found xs k e in ap (remove xs) t.1 ∙ present xs t.0

  pub without_missing : (xs : List X) → None ≡ position p xs → xs ≡ without_first p xs
  without_missing xs e = sym (absent xs (missing xs e))

  -- the list with f of it in its place

  changed : (f : X → X) (xs : List X) (d : X) → list_any p xs ≡ true → set xs (position_or_len p xs) (f (get_or xs (position_or_len p xs) d)) ≡ change_first p f xs
  changed f [] d some = absurd (false≢true some)
  changed f (x ∷ xs) d some = elim (cases_Bool (p x)) [
    | inl is ↦ ap (λ i. set (x ∷ xs) i (f (get_or (x ∷ xs) i d))) (none_before x xs is) ∙ sym (cond-true (p x) (f x ∷ xs) (x ∷ change_first p f xs) is)
    | inr isnt ↦
        let rest : list_any p xs ≡ true = sym (ap (λ b. b || list_any p xs) isnt) ∙ some in
        ap (λ i. set (x ∷ xs) i (f (get_or (x ∷ xs) i d))) (one_before x xs isnt) ∙ ap (λ ys. x ∷ ys) (changed f xs d rest) ∙ sym (cond-false (p x) (f x ∷ xs) (x ∷ change_first p f xs) isnt)
  ]

  unchanged : (f : X → X) (xs : List X) → list_any p xs ≡ false → change_first p f xs ≡ xs
  unchanged f [] none = refl
  unchanged f (x ∷ xs) none =
      let parts = or_parts (p x) (list_any p xs) none in
      cond-false (p x) (f x ∷ xs) (x ∷ change_first p f xs) parts.0 ∙ ap (λ ys. x ∷ ys) (unchanged f xs parts.1)

  pub change_found : (f : X → X) (xs : List X) (k : ℕ) (d : X) → Some k ≡ position p xs → set xs k (f (get_or xs k d)) ≡ change_first p f xs
  change_found f xs k d e = let t = found xs k e in ap (λ i. set xs i (f (get_or xs i d))) t.1 ∙ changed f xs d t.0

  pub change_missing : (f : X → X) (xs : List X) → None ≡ position p xs → xs ≡ change_first p f xs
  change_missing f xs e = sym (unchanged f xs (missing xs e))

-- a list is no longer without one of it
pub length-without_first : {X : Type 0} (p : X → Bool) (xs : List X) → length (without_first p xs) ≤ length xs
length-without_first p [] = omega arith
length-without_first p (x ∷ xs) = cond_both (p x) xs (x ∷ without_first p xs) (λ ys. length ys ≤ length (x ∷ xs)) (λ _. omega arith) (λ _. let h = length-without_first p xs in omega arith)
