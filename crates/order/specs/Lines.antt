-- A line as a list, the first at its head, and the slice whose first places hold it. Cited by the methods of `Line`.
--
-- place_of, insert        how many stand in front of a newcomer, and the line with it there
-- Ordered, Amid           a line in order, and who stands in front of a newcomer and who behind it
-- joined, told, appended  the line after a newcomer, what the newcomer is told, and the line after one that stands last
-- at_place, without       the one at a place, and the line without it
-- put_at                  the line with another in the place of the one at a place
-- lined, laid             the line that a slice holds, and the slice with a line laid over its first places
use Rattle.std.specs.Prelude.{◌≡◌, ℕ, zero, suc, ◌+◌, cond, List, [], ◌∷◌, ◌++◌, length, take, drop, Some, None, Option, ◌≢◌, nat_lt, slice_set}
use Rattle.std.specs.List.{prefix_len, insert as inserted, remove, AllByRecursion, slice_get}
use Rattle.order.specs.Standings.{not_behind}
use Rattle.order.specs.declared.standing.Standing.{Standing}
use Rattle.order.specs.declared.standing.Standing.TheVariants.{Behind}
use Rattle.order.specs.declared.line.Line.{Line}

-- how many stand in front of the first that is behind x
abbrev pub place_of : {X : Type 0} → (X → X → Standing) → X → List X → ℕ
place_of cmp x xs = prefix_len (λ y. not_behind (cmp y x)) xs

-- x stands there
abbrev pub insert : {X : Type 0} → (X → X → Standing) → X → List X → List X
insert cmp x xs = inserted xs (place_of cmp x xs) x

-- no one is behind another that comes after it
abbrev pub Ordered : {X : Type 0} → (X → X → Standing) → List X → Type 0
Ordered cmp [] = Unit {0}
Ordered cmp (x ∷ xs) = AllByRecursion (λ y. cmp x y ≢ Behind) xs × Ordered cmp xs

-- the first k are ahead of x or level with it, and all others are behind it
abbrev pub Amid : {X : Type 0} → (X → X → Standing) → X → ℕ → List X → Type 0
Amid cmp x k xs = AllByRecursion (λ y. cmp y x ≢ Behind) (take k xs) × AllByRecursion (λ y. cmp y x ≡ Behind) (drop k xs)

-- if one of the n places is free, x takes its place in line; else nothing changes
abbrev pub joined : {X : Type 0} → ℕ → (X → X → Standing) → X → List X → List X
joined n cmp x xs = cond (nat_lt (length xs) n) (insert cmp x xs) xs

-- x is told its place, counted from 1, or is turned away
abbrev pub told : {X : Type 0} → ℕ → (X → X → Standing) → X → List X → Option ℕ
told n cmp x xs = cond (nat_lt (length xs) n) (Some (place_of cmp x xs + 1)) None

-- if one of the n places is free, x stands last; else nothing changes
abbrev pub appended : {X : Type 0} → ℕ → X → List X → List X
appended n x xs = cond (nat_lt (length xs) n) (inserted xs (length xs) x) xs

-- the one at a place, counted from 1, if any
abbrev pub at_place : {X : Type 0} → ℕ → List X → Option X
at_place zero xs = None
at_place (suc k) xs = slice_get xs k

-- the line without that one
abbrev pub without : {X : Type 0} → ℕ → List X → List X
without zero xs = xs
without (suc k) xs = remove xs k

-- the line with x in the place of that one; where nobody stands there, nothing changes
abbrev pub put_at : {X : Type 0} → ℕ → X → List X → List X
put_at zero x xs = xs
put_at (suc k) x xs = slice_set xs k x

-- those in line: a line that counts more than it has places has all of them
abbrev pub lined : {X : Type 0} → Line → List X → List X
lined line places = take line.len places

-- the places with a line laid over the first of them, and the others as they were
abbrev pub laid : {X : Type 0} → List X → List X → List X
laid line places = line ++ drop (length line) places
