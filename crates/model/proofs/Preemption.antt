-- Pre-emption: why it is enough to look at the last in precedence.
use Rattle.std.proofs.Common.{◌≡◌, Bool, true, false, cond, not, ◌&&◌, ◌||◌, List, [], ◌∷◌, Some, None, fold, Option, sym, refl, ap, ◌∙◌, inl, inr}
use Rattle.std.proofs.lemmas.Bool.{cases_Bool, cond-true, cond-false, both_ways, not-true, not_from_false}
use Rattle.order.specs.Laws.{Laws}
use Rattle.order.specs.Standings.{not_behind, is_ahead}
use Rattle.order.specs.declared.standing.Standing.{Standing}
use Rattle.order.proofs.Standings.{ahead_is, turned_not_behind}
use Rattle.order.proofs.Orderings.{mirrored, chain}
use Rattle.precedence.specs.declared.claims.Claim.{Claim}
use Rattle.precedence.specs.declared.grounds.Ground.{Ground}
use Rattle.precedence.specs.declared.grounds.Kind.TheVariants.{Normal}
use Rattle.model.specs.Preemption.{stands, later_of, later_standing, last_standing, ahead_of_some, pre_empted_by}
use Rattle.model.specs.declared.tables.Transmission.{Transmission}

-- what is read where there is no transmission
abbrev pub nothing : Transmission
nothing = record { number = 0; camera = 0; ground = record { kind = Normal; priority = 0 }; recall = None }

-- a or b is a, where b says no more than a
or_same : (a b : Bool) → (b ≡ true → a ≡ true) → (a || b) ≡ a
or_same true b h = refl
or_same false true h = sym (h refl)
or_same false false h = refl

-- a or b is b, where a says no more than b
or_other : (a b : Bool) → (a ≡ true → b ≡ true) → (a || b) ≡ b
or_other true b h = sym (h refl)
or_other false b h = refl

or_assoc : (a b c : Bool) → ((a || b) || c) ≡ (a || (b || c))
or_assoc true b c = refl
or_assoc false b c = refl

-- from the two laws
module _ {S : Type 0} (standing : S → Ground → Ground → Standing) (laws : Laws standing) (o : S) where
  ahead_turned : (a b : Ground) → is_ahead (standing o a b) ≡ not (not_behind (standing o b a))
  ahead_turned a b = ahead_is (standing o a b) ∙ ap (λ s. not (not_behind s)) (sym (mirrored standing laws o a b))

  -- who is ahead of one is ahead of all that it is not behind
  ahead_on : (w l x : Ground) → not_behind (standing o l x) ≡ true → is_ahead (standing o w l) ≡ true → is_ahead (standing o w x) ≡ true
  ahead_on w l x before ahead = elim (cases_Bool (not_behind (standing o x w))) [
    | inl link ↦ absurd (both_ways (not_behind (standing o l w)) (not-true _ (sym (ahead_turned w l) ∙ ahead)) (chain standing laws o l x w before link))
    | inr isnt ↦ ahead_turned w x ∙ not_from_false _ isnt
  ]

  -- and of all that are behind it
  ahead_back : (w l x : Ground) → not_behind (standing o l x) ≡ false → is_ahead (standing o w x) ≡ true → is_ahead (standing o w l) ≡ true
  ahead_back w l x behind ahead = elim (cases_Bool (not_behind (standing o l w))) [
    | inl link ↦
        let link' : not_behind (standing o w x) ≡ true = turned_not_behind (standing o x w) (standing o w x) (mirrored standing laws o x w) (not-true _ (sym (ahead_turned w x) ∙ ahead)) in
        absurd (both_ways (not_behind (standing o l x)) behind (chain standing laws o l w x link link'))
    | inr isnt ↦ ahead_turned w l ∙ not_from_false _ isnt
  ]

  -- the claim is ahead of the one found so far
  abbrev pub ahead_of_it : Claim → Option Transmission → Bool
  ahead_of_it w None = false
  ahead_of_it w (Some x) = is_ahead (standing o w.ground x.ground)

  ahead_later : (w : Claim) (b : Option Transmission) (x : Transmission) → ahead_of_it w (later_of (standing o) b x) ≡ (ahead_of_it w b || is_ahead (standing o w.ground x.ground))
  ahead_later w None x = refl
  ahead_later w (Some l) x = elim (cases_Bool (not_behind (standing o l.ground x.ground))) [
    | inl is ↦ ap (ahead_of_it w) (cond-true (not_behind (standing o l.ground x.ground)) (Some x) (Some l) is) ∙ sym (or_other _ _ (ahead_on w.ground l.ground x.ground is))
    | inr isnt ↦ ap (ahead_of_it w) (cond-false (not_behind (standing o l.ground x.ground)) (Some x) (Some l) isnt) ∙ sym (or_same _ _ (ahead_back w.ground l.ground x.ground isnt))
  ]

  ahead_next : (w : Claim) (b : Option Transmission) (x : Transmission) (s : Bool) → ahead_of_it w (cond s (later_of (standing o) b x) b) ≡ (ahead_of_it w b || (s && is_ahead (standing o w.ground x.ground)))
  ahead_next w b x true = ahead_later w b x
  ahead_next w b x false = sym (or_same (ahead_of_it w b) false (λ e. absurd (both_ways false refl e)))

  ahead_all : (w : Claim) (b : Option Transmission) (xs : List Transmission) → ahead_of_it w (fold (later_standing (standing o)) b xs) ≡ (ahead_of_it w b || ahead_of_some (standing o) w xs)
  ahead_all w b [] = sym (or_same (ahead_of_it w b) false (λ e. absurd (both_ways false refl e)))
  ahead_all w b (x ∷ xs) =
      ahead_all w (later_standing (standing o) b x) xs
      ∙ ap (λ t. t || ahead_of_some (standing o) w xs) (ahead_next w b x (stands x))
      ∙ or_assoc (ahead_of_it w b) _ _

  -- a claim is ahead of some standing transmission exactly if it is ahead of the last in precedence
  pub ahead_of_last : (w : Claim) (xs : List Transmission) (last : Option Transmission) → last ≡ last_standing (standing o) xs → pre_empted_by (standing o) w xs ≡ cond (ahead_of_it w last) last None
  ahead_of_last w xs last e =
      let some : ahead_of_some (standing o) w xs ≡ ahead_of_it w last = sym (ap (ahead_of_it w) e ∙ ahead_all w None xs) in
      ap (λ t. cond t (last_standing (standing o) xs) None) some ∙ ap (λ l. cond (ahead_of_it w last) l None) (sym e)
