-- Words on lists, beside those of the library: what is done to the first that passes a test. Cited by what looks
-- entries up and changes or drops them.
use Rattle.std.specs.Prelude.{◌≡◌, ℕ, ◌+◌, Bool, cond, ◌⊎◌, List, [], ◌∷◌, Option, option_map, position}

-- x is in the list
abbrev pub In : {X : Type 0} → X → List X → Type 0
In x [] = ⊥
In x (y ∷ ys) = (x ≡ y) ⊎ In x ys

-- the place of the first that passes, from 1, if one does
abbrev pub place_of_first : {X : Type 0} → (X → Bool) → List X → Option ℕ
place_of_first p xs = option_map (λ before. before + 1) (position p xs)

-- the list without it
abbrev pub without_first : {X : Type 0} → (X → Bool) → List X → List X
without_first p [] = []
without_first p (x ∷ xs) = cond (p x) xs (x ∷ without_first p xs)

-- the list with f of it in its place
abbrev pub change_first : {X : Type 0} → (X → Bool) → (X → X) → List X → List X
change_first p f [] = []
change_first p f (x ∷ xs) = cond (p x) (f x ∷ xs) (x ∷ change_first p f xs)
