-- What holds of every event, of `step`.
use Rattle.std.proofs.Common.{◌≡◌, ℕ, ◌+◌, ◌≤◌, Bool, true, false, length, Some, None, Ok, Err, Option, sym, refl, ap, subst, arith}
use Rattle.std.specs.List.{AllByRecursion, list_any}
use Rattle.std.proofs.lemmas.Bool.{both_ways, false≢true}
use Rattle.order.specs.Laws.{Laws}
use Rattle.order.specs.Lines.{Ordered, at_place, place_of, insert}
use Rattle.order.specs.declared.standing.Standing.{Standing}
use Rattle.precedence.specs.Grounds.{kind_of}
use Rattle.precedence.specs.declared.claims.Claim.{Claim}
use Rattle.precedence.specs.declared.grounds.Ground.{Ground}
use Rattle.precedence.specs.declared.grounds.Kind.{Kind}
use Rattle.model.specs.Acts.{listed}
use Rattle.model.specs.Answers.{Answer, accepted_with, rows_stay}
use Rattle.model.specs.Laws.{acts_of, asks_again, ahead_of, level_with, ToldPlace, Newcomer, AtMore, AtClock, KeepsTime, LawfulEvent}
use Rattle.model.specs.Lookups.{claim_of}
use Rattle.model.specs.Preemption.{recall_it, pre_empt_for, pre_empted_by, recalls}
use Rattle.model.specs.Requests.{by_ground, queued_acts, wait_for}
use Rattle.model.specs.State.{Compare, Tables, State, with_claims}
use Rattle.model.specs.Step.{request_of, step}
use Rattle.model.specs.Transmissions.{grant_to, grant_acts, next_grant}
use Rattle.model.specs.declared.acts.Act.TheVariants.{Queued}
use Rattle.model.specs.declared.acts.Acts.{Acts}
use Rattle.model.specs.declared.acts.Acts.TheVariants.{Zero, One, Two, Three}
use Rattle.model.specs.declared.events.CameraEvent.TheVariants as its
use Rattle.model.specs.declared.events.Event.{Event}
use Rattle.model.specs.declared.events.Event.TheVariants.{Join, Leave, Request, Release, Cancel, Position, Clock}
use Rattle.model.specs.declared.tables.Transmission.{Transmission}
use Rattle.model.proofs.Cases.{Outcomes, WaitsNot, never, asked_outcomes, camera_cases, request_cases}
use Rattle.model.proofs.Lawful.{Lawful, of_camera, of_request, of_join}
use Rattle.model.proofs.Orderly.{in_order}
use Rattle.model.proofs.Places.{place_counts}
use Rattle.model.proofs.Timely.{of_clock}
use Rattle.model.proofs.Words.{at_found, not_found}

-- at most three acts

few : (acts : Acts) → length (listed acts) ≤ 3
few Zero = omega arith
few (One a) = omega arith
few (Two a b) = omega arith
few (Three a b c) = omega arith

few_acts : (answer : Answer) → length (acts_of answer) ≤ 3
few_acts (Ok reply) = few reply.acts
few_acts (Err why) = omega arith

-- the clock never goes back

more_forward : (t t' : Tables) (to : ℕ) (more : Bool) (acts : Acts) → AtMore t to more acts t' → t.clock ≤ t'.clock
more_forward t t' to true acts h = h.forward
more_forward t t' to false acts h = omega (arith, h.there, h.forward)

clock_forward : (t t' : Tables) (to : ℕ) (answer : Answer) → AtClock t to answer t' → t.clock ≤ t'.clock
clock_forward t t' to (Ok reply) h = more_forward t t' to reply.more reply.acts h
clock_forward t t' to (Err why) h = omega (arith, h.stays)

-- asking for a place that is known

module _ (cmp : Compare) (s : State) (c : ℕ) where
  abbrev Same : State × Answer → Type 0
  Same x = x.0 ≡ s

  -- a camera that waits does not come anew
  waits_already : (P : Type 0) → list_any (claim_of c) s.tables.claims ≡ true → WaitsNot s c → P
  waits_already P waits none = absurd (both_ways _ (not_found (claim_of c) s.tables.claims (sym none)) waits)

  again : (ground : Ground) → list_any (claim_of c) s.tables.claims ≡ true → Outcomes cmp s Same c (its.Request ground)
  again ground waits =
      asked_outcomes cmp s Same c ground (λ _. refl) (λ _. refl) (λ _. refl) (λ _ _. refl)
      (waits_already (Same (accepted_with (grant_to s c ground, grant_acts (next_grant s.tables c)))) waits)
      (waits_already (Same (rows_stay s (accepted_with (wait_for cmp s.tables (record { camera = c; ground = ground }))))) waits)

  position : Outcomes cmp s Same c its.Position
  position = record {
    refused = λ _. refl;
    rejected = λ _. refl;
    resent = λ _. refl;
    placed = λ _ _. refl;
    granted = λ g e _. never (cc);
    queued = λ g e _. never (cc);
    left = λ e. never (cc);
    left_line = λ e. never (cc);
    left_open = λ e x. never (cc);
    released = λ e x. never (cc);
    cancelled = λ e. never (cc);
  }

again_nothing : (cmp : Compare) (s : State) (e : Event) → asks_again s.tables e ≡ true → (step cmp s e).0 ≡ s
again_nothing cmp s (Join c class) h = absurd (false≢true h)
again_nothing cmp s (Leave c) h = absurd (false≢true h)
again_nothing cmp s (Request c number priority) h = request_cases cmp s (Same cmp s c) c number priority (λ _. refl) (λ kind _. again cmp s c (record { kind = kind; priority = priority }) h)
again_nothing cmp s (Release c) h = absurd (false≢true h)
again_nothing cmp s (Cancel c) h = absurd (false≢true h)
again_nothing cmp s (Position c) h = camera_cases cmp s (Same cmp s c) c its.Position (position cmp s c)
again_nothing cmp s (Clock to) h = absurd (false≢true h)

-- the place of a claim that joins the line, from the two laws
module _ {S : Type 0} (standing : S → Ground → Ground → Standing) (laws : Laws standing) (o : S) (s : State) (c : ℕ) where
  -- if a place is told, it is this one
  abbrev Told : ℕ → State × Answer → Type 0
  Told place x = AllByRecursion (ToldPlace place) (acts_of x.1)

  recalled : (t : Tables) (place n : ℕ) → place ≡ n → (x : Option Transmission) → Told n (rows_stay s (accepted_with ((recall_it t x).0, queued_acts (Queued c place) (recall_it t x).1)))
  recalled t place n is None = (is, tt)
  recalled t place n is (Some x) = (is, (tt, tt))

  joins : (t : Tables) (place n : ℕ) → place ≡ n → (w : Option Claim) → Told n (rows_stay s (accepted_with ((pre_empt_for (standing o) t w).0, queued_acts (Queued c place) (pre_empt_for (standing o) t w).1)))
  joins t place n is None = recalled t place n is None
  joins t place n is (Some w) = recalled t place n is (pre_empted_by (standing o) w t.transmissions)

  abbrev its_place : Ground → ℕ
  its_place ground = ahead_of (standing o) ground s.tables.claims + level_with (standing o) ground s.tables.claims + 1

  comes : (ground : Ground) → Ordered (by_ground (standing o)) s.tables.claims → Told (its_place ground) (rows_stay s (accepted_with (wait_for (standing o) s.tables (record { camera = c; ground = ground }))))
  comes ground ordered =
      let t = s.tables in
      let cmp = standing o in
      let w : Claim = record { camera = c; ground = ground } in
      let t' = with_claims t (insert (by_ground cmp) w t.claims) in
      let place = place_of (by_ground cmp) w t.claims + 1 in
      joins t' place (its_place ground) (ap (λ k. k + 1) (place_counts standing laws o w t.claims ordered)) (at_place (recalls t'.transmissions + 1) t'.claims)

  -- a camera that does not wait is told no place but this
  newcomer : (ground : Ground) → Ordered (by_ground (standing o)) s.tables.claims → list_any (claim_of c) s.tables.claims ≡ false → Outcomes (standing o) s (Told (its_place ground)) c (its.Request ground)
  newcomer ground ordered none =
      asked_outcomes (standing o) s (Told (its_place ground)) c ground (λ _. tt) (λ _. (tt, tt)) (λ _. (tt, tt))
      (λ k is. absurd (both_ways _ none (at_found (claim_of c) s.tables.claims k (sym is)).0))
      (λ _. (tt, (tt, tt)))
      (λ _. comes ground ordered)

  told_newcomer : (number priority : ℕ) (kind : Kind) → kind_of number ≡ Some kind → list_any (claim_of c) s.tables.claims ≡ false → Ordered (by_ground (standing o)) s.tables.claims → Told (its_place (record { kind = kind; priority = priority })) (request_of (standing o) s c number priority)
  told_newcomer number priority kind is none ordered =
      let place = its_place (record { kind = kind; priority = priority }) in
      request_cases (standing o) s (Told place) c number priority (λ _. tt)
      (λ k found.
      let same : kind ≡ k = cc in
      subst (λ (j : Kind). Outcomes (standing o) s (Told place) c (its.Request (record { kind = j; priority = priority }))) same (newcomer (record { kind = kind; priority = priority }) ordered none))

-- all of this, of one event

module _ {S : Type 0} (standing : S → Ground → Ground → Standing) (laws : Laws standing) (o : S) (s : State) where
  -- of an event but the clock's
  no_clock : (e : Event) → Lawful (standing o) s (step (standing o) s e) → KeepsTime s.tables e (step (standing o) s e).1 (step (standing o) s e).0.tables → Newcomer (standing o) s.tables e (step (standing o) s e).1 → LawfulEvent (standing o) s e (step (standing o) s e).1 (step (standing o) s e).0
  no_clock e h time newcomer =
      let order = in_order standing laws o s e in
      record {
        nothing_changes = h.nothing_changes;
        nothing_changes_again = again_nothing (standing o) s e;
        at_most_three = few_acts (step (standing o) s e).1;
        forward = omega (arith, h.time.stays);
        time = time;
        in_line = order.in_line;
        on_time = order.on_time;
        numbers_rise = order.numbers_rise;
        places = h.places;
        newcomer = newcomer;
      }

  pub lawful : (e : Event) → LawfulEvent (standing o) s e (step (standing o) s e).1 (step (standing o) s e).0
  lawful (Join c class) = let h = of_join (standing o) (laws.ahead_behind o) s c class in no_clock (Join c class) h h.time tt
  lawful (Leave c) = let h = of_camera (standing o) (laws.ahead_behind o) s c its.Leave in no_clock (Leave c) h h.time tt
  lawful (Request c number priority) =
      let h = of_request (standing o) (laws.ahead_behind o) s c number priority in
      no_clock (Request c number priority) h h.time (told_newcomer standing laws o s c number priority)
  lawful (Release c) = let h = of_camera (standing o) (laws.ahead_behind o) s c its.Release in no_clock (Release c) h h.time tt
  lawful (Cancel c) = let h = of_camera (standing o) (laws.ahead_behind o) s c its.Cancel in no_clock (Cancel c) h h.time tt
  lawful (Position c) = let h = of_camera (standing o) (laws.ahead_behind o) s c its.Position in no_clock (Position c) h h.time tt
  lawful (Clock to) =
      let h = of_clock (standing o) s to in
      let order = in_order standing laws o s (Clock to) in
      record {
        nothing_changes = h.nothing_changes;
        nothing_changes_again = again_nothing (standing o) s (Clock to);
        at_most_three = few_acts (step (standing o) s (Clock to)).1;
        forward = clock_forward s.tables (step (standing o) s (Clock to)).0.tables to (step (standing o) s (Clock to)).1 h.time;
        time = h.time;
        in_line = order.in_line;
        on_time = order.on_time;
        numbers_rise = order.numbers_rise;
        places = h.places;
        newcomer = tt;
      }
