-- Claims, alarms and transmissions in order stay in order, and no alarm gets overdue.
use Rattle.std.proofs.Common.{◌≡◌, ℕ, ◌+◌, ◌<◌, ◌≤◌, max, Bool, ltb, List, [], ◌∷◌, length, Some, None, Option, refl, subst, arith, find}
use Rattle.std.specs.List.{insert as inserted, AllByRecursion}
use Rattle.std.proofs.lemmas.Bool.{cond_both}
use Rattle.order.specs.Laws.{Laws}
use Rattle.order.specs.Lines.{Ordered, at_place, insert, joined, appended, place_of, without}
use Rattle.order.specs.declared.standing.Standing.{Standing}
use Rattle.order.specs.declared.standing.Standing.TheVariants.{Behind}
use Rattle.order.proofs.Lines.{placed, All-inserted, Ordered-without}
use Rattle.order.proofs.Orderings.{along, by_lower}
use Rattle.precedence.specs.Rules.{by_due}
use Rattle.precedence.specs.declared.alarms.Alarm.{Alarm}
use Rattle.precedence.specs.declared.alarms.AlarmKind.{AlarmKind}
use Rattle.precedence.specs.declared.alarms.AlarmKind.TheVariants.{Talk, Grace}
use Rattle.precedence.specs.declared.claims.Claim.{Claim}
use Rattle.precedence.specs.declared.grounds.Ground.{Ground}
use Rattle.model.specs.Answers.{Answer, accepted_with, rows_stay}
use Rattle.model.specs.Clock.{act_by, act_on, stop_at, clock_to}
use Rattle.model.specs.Laws.{InLine, OnTime, Rise, NumbersRise}
use Rattle.model.specs.Lookups.{claim_of, numbered, alarm_of}
use Rattle.model.specs.Preemption.{recall_it, pre_empt_for, pre_empted_by, recalls}
use Rattle.model.specs.Requests.{by_ground, wait_for}
use Rattle.model.specs.State.{Compare, Tables, State, with_clock, with_claims, with_tables}
use Rattle.model.specs.Step.{step}
use Rattle.model.specs.Transmissions.{grant_to, promote, close_grant, recalled_for, recall_of}
use Rattle.model.specs.Words.{without_first, change_first}
use Rattle.model.specs.declared.causes.EndCause.{EndCause}
use Rattle.model.specs.declared.causes.EndCause.TheVariants as end
use Rattle.model.specs.declared.causes.RecallCause.{RecallCause}
use Rattle.model.specs.declared.causes.RecallCause.TheVariants as recall
use Rattle.model.specs.declared.events.CameraEvent.{CameraEvent}
use Rattle.model.specs.declared.events.CameraEvent.TheVariants as its
use Rattle.model.specs.declared.events.Event.{Event}
use Rattle.model.specs.declared.events.Event.TheVariants.{Join, Leave, Request, Release, Cancel, Position, Clock}
use Rattle.model.specs.declared.tables.Transmission.{Transmission}
use Rattle.model.proofs.Cases.{Outcomes, camera_cases, request_cases, join_cases, clock_cases}
use Rattle.model.proofs.Timely.{none_before, none_there}

-- a list without one of it

All-without_first : {X : Type 0} (P : X → Type 0) (p : X → Bool) (xs : List X) → AllByRecursion P xs → AllByRecursion P (without_first p xs)
All-without_first P p [] ps = tt
All-without_first P p (x ∷ xs) ps = cond_both (p x) xs (x ∷ without_first p xs) (λ ys. AllByRecursion P ys) (λ _. ps.1) (λ _. (ps.0, All-without_first P p xs ps.1))

Ordered-without_first : {X : Type 0} (cmp : X → X → Standing) (p : X → Bool) (xs : List X) → Ordered cmp xs → Ordered cmp (without_first p xs)
Ordered-without_first cmp p [] s = tt
Ordered-without_first cmp p (x ∷ xs) s =
    cond_both (p x) xs (x ∷ without_first p xs) (λ ys. Ordered cmp ys) (λ _. s.1)
    (λ _. (All-without_first (λ y. cmp x y ≡ Behind → ⊥) p xs s.0, Ordered-without_first cmp p xs s.1))

-- alarms in order, none overdue

abbrev Fine : ℕ → List Alarm → Type 0
Fine clock alarms = Ordered by_due alarms × AllByRecursion (λ a. clock ≤ a.due) alarms

set_fine : (clock seconds n : ℕ) (kind : AlarmKind) (alarms : List Alarm) → Fine clock alarms → Fine clock (joined 16 by_due (record { due = clock + seconds; grant = n; kind = kind }) alarms)
set_fine clock seconds n kind alarms h =
    let a : Alarm = record { due = clock + seconds; grant = n; kind = kind } in
    let laws : Laws {S = Unit {0}} {I = Alarm} (λ _ x y. by_due x y) = by_lower (λ (x : Alarm). x.due) in
    cond_both (ltb (length alarms) 16) (insert by_due a alarms) alarms (λ xs. Fine clock xs)
    (λ _. ((placed (λ (_ : Unit {0}) x y. by_due x y) laws tt a alarms (place_of by_due a alarms) refl).0 h.0, All-inserted (λ x. clock ≤ x.due) (place_of by_due a alarms) a alarms (omega arith) h.1))
    (λ _. h)

drop_fine : (clock : ℕ) (p : Alarm → Bool) (alarms : List Alarm) → Fine clock alarms → Fine clock (without_first p alarms)
drop_fine clock p alarms h = (Ordered-without_first by_due p alarms h.0, All-without_first (λ a. clock ≤ a.due) p alarms h.1)

-- the first is not overdue
first_due : (clock : ℕ) (alarms : List Alarm) (a : Alarm) → at_place 1 alarms ≡ Some a → AllByRecursion (λ b. clock ≤ b.due) alarms → clock ≤ a.due
first_due clock [] a e h = absurd (let z : ◌≡◌ {A = ℕ} 0 1 = cc in omega arith)
first_due clock (b ∷ bs) a e h = let same : b ≡ a = cc in subst (λ (x : Alarm). clock ≤ x.due) same h.0

-- numbers that rise

rise_more : (n : ℕ) (xs : List Transmission) → Rise n xs → Rise (n + 1) xs
rise_more n [] h = tt
rise_more n (x ∷ xs) h = let le = h.0 in (omega arith, h.1, rise_more n xs h.2)

rise_last : (n : ℕ) (x : Transmission) (xs : List Transmission) → x.number ≡ n + 1 → Rise n xs → Rise (n + 1) (inserted xs (length xs) x)
rise_last n x [] is h = (omega (arith, is), tt, tt)
rise_last n x (y ∷ ys) is h =
    let le = h.0 in
    (omega arith, All-inserted (λ z. y.number < z.number) (length ys) x ys (omega (arith, is)) h.1, rise_last n x ys is h.2)

rise_next : (n : ℕ) (x : Transmission) (xs : List Transmission) → x.number ≡ n + 1 → Rise n xs → Rise (n + 1) (appended 16 x xs)
rise_next n x xs is h = cond_both (ltb (length xs) 16) (inserted xs (length xs) x) xs (λ ys. Rise (n + 1) ys) (λ _. rise_last n x xs is h) (λ _. rise_more n xs h)

rise_without : (n : ℕ) (p : Transmission → Bool) (xs : List Transmission) → Rise n xs → Rise n (without_first p xs)
rise_without n p [] h = tt
rise_without n p (x ∷ xs) h =
    cond_both (p x) xs (x ∷ without_first p xs) (λ ys. Rise n ys) (λ _. h.2)
    (λ _. (h.0, All-without_first (λ y. x.number < y.number) p xs h.1, rise_without n p xs h.2))

above_recalled : (m : ℕ) (p : Transmission → Bool) (cause : RecallCause) (xs : List Transmission) → AllByRecursion (λ y. m < y.number) xs → AllByRecursion (λ y. m < y.number) (change_first p (recalled_for cause) xs)
above_recalled m p cause [] h = tt
above_recalled m p cause (x ∷ xs) h = cond_both (p x) (recalled_for cause x ∷ xs) (x ∷ change_first p (recalled_for cause) xs) (λ ys. AllByRecursion (λ y. m < y.number) ys) (λ _. h) (λ _. (h.0, above_recalled m p cause xs h.1))

rise_recalled : (n : ℕ) (p : Transmission → Bool) (cause : RecallCause) (xs : List Transmission) → Rise n xs → Rise n (change_first p (recalled_for cause) xs)
rise_recalled n p cause [] h = tt
rise_recalled n p cause (x ∷ xs) h =
    cond_both (p x) (recalled_for cause x ∷ xs) (x ∷ change_first p (recalled_for cause) xs) (λ ys. Rise n ys) (λ _. h)
    (λ _. (h.0, above_recalled x.number p cause xs h.1, rise_recalled n p cause xs h.2))

-- what keeps the claims in order, the alarms, and the transmissions
pub record Keeps (cmp : Compare) (t t' : Tables) : Type 0 where
  pub in_line : InLine cmp t → InLine cmp t'
  pub on_time : OnTime t → OnTime t'
  pub numbers_rise : NumbersRise t → NumbersRise t'

module _ {S : Type 0} (standing : S → Ground → Ground → Standing) (laws : Laws standing) (o : S) where
  -- one change and then another
  then : (a b c : Tables) → Keeps (standing o) a b → Keeps (standing o) b c → Keeps (standing o) a c
  then a b c f g = record { in_line = λ h. g.in_line (f.in_line h); on_time = λ h. g.on_time (f.on_time h); numbers_rise = λ h. g.numbers_rise (f.numbers_rise h) }

  -- the pieces

  grants : (s : State) (c : ℕ) (ground : Ground) → Keeps (standing o) s.tables (grant_to s c ground).tables
  grants s c ground =
      let t = s.tables in
      record {
        in_line = λ h. h;
        on_time = set_fine t.clock t.settings.talk (t.granted + 1) Talk t.alarms;
        numbers_rise = rise_next t.granted (record { number = t.granted + 1; camera = c; ground = ground; recall = None }) t.transmissions refl;
      }

  promotes : (s : State) (w : Option Claim) → Keeps (standing o) s.tables (promote s w).0.tables
  promotes s None = record { in_line = λ h. h; on_time = λ h. h; numbers_rise = λ h. h }
  promotes s (Some w) =
      let t = s.tables in
      let s' = with_tables s (with_claims t (without 1 t.claims)) in
      let leaves : Keeps (standing o) t s'.tables = record { in_line = Ordered-without (by_ground (standing o)) 1 t.claims; on_time = λ h. h; numbers_rise = λ h. h } in
      then t s'.tables (grant_to s' w.camera w.ground).tables leaves (grants s' w.camera w.ground)

  ends : (s : State) (n : ℕ) (cause : EndCause) → Keeps (standing o) s.tables (promote (close_grant s n cause) (at_place 1 s.tables.claims)).0.tables
  ends s n cause =
      let t = s.tables in
      let s' = close_grant s n cause in
      let w = at_place 1 t.claims in
      let closes : Keeps (standing o) t s'.tables = record { in_line = λ h. h; on_time = drop_fine t.clock (alarm_of n) t.alarms; numbers_rise = rise_without t.granted (numbered n) t.transmissions } in
      then t s'.tables (promote s' w).0.tables closes (promotes s' w)

  recalls_it : (t : Tables) (x : Transmission) (cause : RecallCause) → Keeps (standing o) t (recall_of t x cause)
  recalls_it t x cause = record {
    in_line = λ h. h;
    on_time = λ h. set_fine t.clock t.settings.grace x.number Grace (without_first (alarm_of x.number) t.alarms) (drop_fine t.clock (alarm_of x.number) t.alarms h);
    numbers_rise = rise_recalled t.granted (numbered x.number) cause t.transmissions;
  }

  gives : (t : Tables) (x : Option Transmission) → Keeps (standing o) t (recall_it t x).0
  gives t None = record { in_line = λ h. h; on_time = λ h. h; numbers_rise = λ h. h }
  gives t (Some x) = recalls_it t x recall.PreEmption

  pre_empts : (t : Tables) (w : Option Claim) → Keeps (standing o) t (pre_empt_for (standing o) t w).0
  pre_empts t None = record { in_line = λ h. h; on_time = λ h. h; numbers_rise = λ h. h }
  pre_empts t (Some w) = gives t (pre_empted_by (standing o) w t.transmissions)

  inserts : (t : Tables) (w : Claim) → Keeps (standing o) t (with_claims t (insert (by_ground (standing o)) w t.claims))
  inserts t w =
      let claims : Laws {S = Unit {0}} {I = Claim} (λ _ a b. standing o a.ground b.ground) = along standing laws (λ _. o) (λ _ v. v.ground) in
      record { in_line = (placed (λ (_ : Unit {0}) a b. standing o a.ground b.ground) claims tt w t.claims (place_of (by_ground (standing o)) w t.claims) refl).0; on_time = λ h. h; numbers_rise = λ h. h }

  drops : (t : Tables) (c : ℕ) → Keeps (standing o) t (with_claims t (without_first (claim_of c) t.claims))
  drops t c = record { in_line = Ordered-without_first (by_ground (standing o)) (claim_of c) t.claims; on_time = λ h. h; numbers_rise = λ h. h }

  -- the events

  abbrev Kept : State → State × Answer → Type 0
  Kept s x = Keeps (standing o) s.tables x.0.tables

  same : (t : Tables) → Keeps (standing o) t t
  same t = record { in_line = λ h. h; on_time = λ h. h; numbers_rise = λ h. h }

  waits : (s : State) (w : Claim) → Kept s (rows_stay s (accepted_with (wait_for (standing o) s.tables w)))
  waits s w =
      let t = s.tables in
      let t' = with_claims t (insert (by_ground (standing o)) w t.claims) in
      let first = at_place (recalls t'.transmissions + 1) t'.claims in
      then t t' (pre_empt_for (standing o) t' first).0 (inserts t w) (pre_empts t' first)

  outcomes : (s : State) (c : ℕ) (e : CameraEvent) → Outcomes (standing o) s (Kept s) c e
  outcomes s c e = record {
    refused = λ _. same s.tables;
    rejected = λ _. same s.tables;
    resent = λ _. same s.tables;
    placed = λ _ _. same s.tables;
    granted = λ ground _ _. grants s c ground;
    queued = λ ground _ _. waits s (record { camera = c; ground = ground });
    left = λ _. record { in_line = λ h. h; on_time = λ h. h; numbers_rise = λ h. h };
    left_line = λ _. record { in_line = (drops s.tables c).in_line; on_time = λ h. h; numbers_rise = λ h. h };
    left_open = λ _ x. let k = ends s x.number end.Leave in record { in_line = k.in_line; on_time = k.on_time; numbers_rise = k.numbers_rise };
    released = λ _ x. ends s x.number end.Release;
    cancelled = λ _. drops s.tables c;
  }

  -- the clock

  acts : (s : State) (x : Transmission) (k : AlarmKind) → Keeps (standing o) s.tables (act_by s x k).0.tables
  acts s x Talk = recalls_it s.tables x recall.TimeOut
  acts s x Grace = ends s x.number end.TimeOut

  rings : (s : State) (a : Alarm) (x : Option Transmission) → Keeps (standing o) s.tables (act_on s a x).0.tables
  rings s a None = let t = s.tables in record { in_line = λ h. h; on_time = drop_fine t.clock (alarm_of a.grant) t.alarms; numbers_rise = λ h. h }
  rings s a (Some x) = acts s x a.kind

  stops : (s : State) (a : Alarm) → at_place 1 s.tables.alarms ≡ Some a → Kept s (stop_at s a)
  stops s a first =
      let t = s.tables in
      let now = max t.clock a.due in
      let s' = with_tables s (with_clock t now) in
      let x = find (numbered a.grant) t.transmissions in
      let moves : Keeps (standing o) t s'.tables = record {
        in_line = λ h. h;
        on_time = λ h. let due = first_due t.clock t.alarms a first h.1 in (h.0, none_before (λ n. now ≤ n) a t.alarms first h.0 (λ n le. omega arith));
        numbers_rise = λ h. h;
      } in
      then t s'.tables (act_on s' a x).0.tables moves (rings s' a x)

  clock : (s : State) (to : ℕ) → Kept s (clock_to s to)
  clock s to =
      let alarms = s.tables.alarms in
      clock_cases s (Kept s) to (λ _. same s.tables) (λ _. same s.tables)
      (λ _ _ none. record { in_line = λ h. h; on_time = λ h. (h.0, none_there (λ a. to ≤ a.due) alarms none); numbers_rise = λ h. h })
      (λ _ _ a first later. record { in_line = λ h. h; on_time = λ h. (h.0, none_before (λ n. to ≤ n) a alarms first h.0 (λ n le. omega arith)); numbers_rise = λ h. h })
      (λ _ _ a first _. stops s a first)

  pub in_order : (s : State) (e : Event) → Kept s (step (standing o) s e)
  in_order s (Join c number) = join_cases s (Kept s) c number (λ _. same s.tables) (λ _. record { in_line = λ h. h; on_time = λ h. h; numbers_rise = λ h. h })
  in_order s (Leave c) = camera_cases (standing o) s (Kept s) c its.Leave (outcomes s c its.Leave)
  in_order s (Request c number priority) = request_cases (standing o) s (Kept s) c number priority (λ _. same s.tables) (λ kind _. outcomes s c (its.Request (record { kind = kind; priority = priority })))
  in_order s (Release c) = camera_cases (standing o) s (Kept s) c its.Release (outcomes s c its.Release)
  in_order s (Cancel c) = camera_cases (standing o) s (Kept s) c its.Cancel (outcomes s c its.Cancel)
  in_order s (Position c) = camera_cases (standing o) s (Kept s) c its.Position (outcomes s c its.Position)
  in_order s (Clock to) = clock s to
