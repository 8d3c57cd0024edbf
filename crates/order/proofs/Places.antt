-- What a shift of the places of a slice makes of the line that it holds.
use Rattle.std.proofs.Common.{◌≡◌, ℕ, zero, suc, ◌+◌, ◌-◌, ◌<◌, ◌≤◌, List, ◌∷◌, ◌++◌, length, take, drop, set, sym, ap, ◌∙◌, append_assoc, add-one, arith, length-drop}
use lib.Seq.{paste}
use Rattle.std.specs.List.{insert, remove}
use Rattle.std.proofs.lemmas.List.{set_split, take_at, take_min, length-take, take-append-le, take-take, drop_at, length-take-le}
use Rattle.std.proofs.lemmas.List.Edits.{length-paste, length-insert, length-remove}
use Rattle.std.proofs.lemmas.Slice.{between_is}
use Rattle.order.specs.Lines.{laid, without}

-- a line laid over the places is what their first places then hold
pub taken : {X : Type 0} (line xs : List X) (m : ℕ) → m ≡ length line → take m (laid line xs) ≡ line
taken line xs m e = take_at line (drop (length line) xs) m (sym e)

-- the slice ys after the shift, with x written at k, and the line that it then holds
pub opened : {X : Type 0} (xs ys : List X) (n k : ℕ) (x : X) → ys ≡ paste xs (k + 1) (drop k xs) (n - k) → k ≤ length (take n xs) → length (take n xs) < length xs → (set ys k x ≡ laid (insert (take n xs) k x) xs) × (take (n + 1) (set ys k x) ≡ insert (take n xs) k x)
opened xs ys n k x shifted within room =
    let count : length (take n xs) ≡ n = length-take-le n xs (omega (arith, room, length-take n xs)) in
    let front = take (k + 1) xs in
    let moved = take (n - k) (drop k xs) in
    let rest = drop (k + 1 + (n - k)) xs in
    let size : length front ≡ k + 1 = length-take-le (k + 1) xs (omega arith) in
    let long : length ys ≡ length xs = ap length shifted ∙ length-paste xs (k + 1) (drop k xs) (n - k) (omega arith) (simp length-drop (omega arith)) in
    let parts : ys ≡ front ++ (moved ++ rest) = shifted ∙ append_assoc front moved rest in
    let before : take k ys ≡ take k xs = ap (take k) parts ∙ take-append-le k front (moved ++ rest) (omega arith) ∙ take-take k (k + 1) xs (omega arith) in
    let after : drop (suc k) ys ≡ moved ++ rest = ap (drop (suc k)) parts ∙ drop_at front (moved ++ rest) (suc k) (size ∙ add-one k) in
    let cut : set ys k x ≡ take k ys ++ (x ∷ drop (suc k) ys) = set_split ys k x (omega arith) in
    let line = insert (take n xs) k x in
    let more : length line ≡ k + 1 + (n - k) = length-insert (take n xs) k x within ∙ omega arith in
    let joins : laid line xs ≡ take k (take n xs) ++ (x ∷ (drop k (take n xs) ++ drop (length line) xs)) = append_assoc (take k (take n xs)) (x ∷ drop k (take n xs)) (drop (length line) xs) in
    let same : take k (take n xs) ≡ take k xs = take-take k n xs (omega arith) in
    let mid : moved ≡ drop k (take n xs) = between_is xs k n in
    let slots : set ys k x ≡ laid line xs = cc in
    (slots, ap (take (n + 1)) slots ∙ taken line xs (n + 1) (omega arith))

-- those past k move down by one
closed : {X : Type 0} (xs : List X) (n m k : ℕ) → k < m → m ≡ length (take n xs) → (paste xs k (drop (suc k) xs) (m - suc k) ≡ laid (remove (take n xs) k) xs) × (m - 1 ≡ length (remove (take n xs) k))
closed xs n m k lt is =
    let moved = take (m - suc k) (drop (suc k) xs) in
    let line = remove (take n xs) k in
    let fewer : length line + 1 ≡ length (take n xs) = length-remove (take n xs) k (omega arith) in
    let size : length line ≡ k + (m - suc k) = omega arith in
    let same : take k (take n xs) ≡ take k xs = take-take k n xs (omega (arith, length-take n xs)) in
    let short : take m xs ≡ take n xs = rw (is, length-take) (take_min n xs) in
    let mid : moved ≡ drop (suc k) (take m xs) = between_is xs (suc k) m in
    (cc, omega arith)

-- the slice ys after the shift of those behind the place p, and the line that it then holds
pub left : {X : Type 0} (xs ys : List X) (n m p : ℕ) → ys ≡ paste xs (p - 1) (drop p xs) (m - p) → 0 < p → p ≤ length (take n xs) → m ≡ length (take n xs) → (ys ≡ laid (without p (take n xs)) xs) × (take (m - 1) ys ≡ without p (take n xs))
left xs ys n m zero shifted some within is = absurd (omega arith)
left xs ys n m (suc k) shifted some within is =
    let e : suc k - 1 ≡ k = omega arith in
    let t = closed xs n m k (omega arith) is in
    let slots : ys ≡ laid (remove (take n xs) k) xs = (rw e at shifted) ∙ t.0 in
    (slots, ap (take (m - 1)) slots ∙ taken (remove (take n xs) k) xs (m - 1) t.1)
