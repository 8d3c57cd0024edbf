-- The cases of each event. What holds of every outcome holds of the step: the tests and the look-ups that lead to an
-- outcome are gone through once, here, and a law is shown outcome by outcome.
use Rattle.std.proofs.Common.{◌≡◌, ℕ, ◌+◌, ◌<◌, ◌≤◌, cond, eqb, ltb, leb, length, Some, None, Option, refl, subst, arith, find}
use Rattle.std.proofs.lemmas.Bool.{cond_both, ltb-true, ltb-false, leb-true, leb-false}
use Rattle.order.specs.Lines.{at_place, appended}
use Rattle.precedence.specs.Grounds.{kind_of}
use Rattle.precedence.specs.declared.alarms.Alarm.{Alarm}
use Rattle.precedence.specs.declared.claims.Claim.{Claim}
use Rattle.precedence.specs.declared.grounds.Ground.{Ground}
use Rattle.precedence.specs.declared.grounds.Kind.{Kind}
use Rattle.model.specs.Answers.{Answer, accepted_with, only_says, refused_for, rows_stay}
use Rattle.model.specs.Cameras.{by_claim, by_phase, by_transmission, state_of_camera}
use Rattle.model.specs.Clock.{stop_at, reach_second, go_to, clock_to}
use Rattle.model.specs.Lookups.{is_member, claim_of, transmission_of}
use Rattle.model.specs.Requests.{wait_for, ask_line, ask_first, resend_act}
use Rattle.model.specs.State.{Compare, State, with_members}
use Rattle.model.specs.Step.{may_not_join, admit, join_as, leave_idle, leave_waiting, leave_open, cancel_claim, in_state, if_member, of_member, by_class, by_kind_of, request_by, request_of}
use Rattle.model.specs.Tables.{class_of}
use Rattle.model.specs.Transmissions.{grant_to, grant_acts, next_grant, end_of}
use Rattle.model.specs.Words.{place_of_first}
use Rattle.model.specs.declared.acts.Act.TheVariants.{Queued, Reject}
use Rattle.model.specs.declared.acts.Acts.TheVariants.{Zero}
use Rattle.model.specs.declared.causes.EndCause.TheVariants as end
use Rattle.model.specs.declared.causes.RejectCause.{RejectCause}
use Rattle.model.specs.declared.causes.RejectCause.TheVariants as reject
use Rattle.model.specs.declared.events.CameraEvent.{CameraEvent}
use Rattle.model.specs.declared.events.CameraEvent.TheVariants as its
use Rattle.model.specs.declared.refusals.Refusal.{Refusal}
use Rattle.model.specs.declared.refusals.Refusal.TheVariants.{BadJoin, CallFull, NotInCall, BadKind, NothingOpen, NotWaiting, ClockBack, ClockBeyond}
use Rattle.model.specs.declared.tables.Class.{Class}
use Rattle.model.specs.declared.tables.Class.TheVariants.{ReceiveOnly, MayTransmit}
use Rattle.model.specs.declared.tables.Member.{Member}
use Rattle.model.specs.declared.causes.RecallCause.{RecallCause}
use Rattle.model.specs.declared.tables.Transmission.{Transmission}

-- the outcomes of a camera's event

abbrev pub Waits : State → ℕ → ℕ → Type 0
Waits s c n = place_of_first (claim_of c) s.tables.claims ≡ Some n

abbrev pub WaitsNot : State → ℕ → Type 0
WaitsNot s c = place_of_first (claim_of c) s.tables.claims ≡ None

pub record Outcomes (cmp : Compare) (s : State) (P : State × Answer → Type 0) (c : ℕ) (e : CameraEvent) : Type 0 where
  pub refused : (why : Refusal) → P (refused_for s why)
  pub rejected : (cause : RejectCause) → P (only_says s (Reject c cause))
  pub resent : (x : Transmission) → P (only_says s (resend_act s.tables x))
  -- a camera that waits is told its place
  pub placed : (n : ℕ) → Waits s c n → P (only_says s (Queued c n))
  pub granted : (ground : Ground) → e ≡ its.Request ground → WaitsNot s c → P (accepted_with (grant_to s c ground, grant_acts (next_grant s.tables c)))
  pub queued : (ground : Ground) → e ≡ its.Request ground → WaitsNot s c → P (rows_stay s (accepted_with (wait_for cmp s.tables (record { camera = c; ground = ground }))))
  pub left : e ≡ its.Leave → P (rows_stay s (leave_idle s.tables c))
  pub left_line : e ≡ its.Leave → P (rows_stay s (leave_waiting s.tables c))
  pub left_open : e ≡ its.Leave → (x : Transmission) → P (leave_open s c x)
  pub released : e ≡ its.Release → (x : Transmission) → P (accepted_with (end_of s x end.Release))
  pub cancelled : e ≡ its.Cancel → P (rows_stay s (cancel_claim s.tables c))

-- two events differ
pub never : {A : Type 0} → ◌≡◌ {A = ℕ} 0 1 → A
never e = absurd (omega arith)

module _ (cmp : Compare) (s : State) (P : State × Answer → Type 0) where
  -- those of a request
  pub asked_outcomes : (c : ℕ) (ground : Ground)
      → ((why : Refusal) → P (refused_for s why))
      → ((cause : RejectCause) → P (only_says s (Reject c cause)))
      → ((x : Transmission) → P (only_says s (resend_act s.tables x)))
      → ((n : ℕ) → Waits s c n → P (only_says s (Queued c n)))
      → (WaitsNot s c → P (accepted_with (grant_to s c ground, grant_acts (next_grant s.tables c))))
      → (WaitsNot s c → P (rows_stay s (accepted_with (wait_for cmp s.tables (record { camera = c; ground = ground })))))
      → Outcomes cmp s P c (its.Request ground)
  asked_outcomes c ground refused rejected resent placed granted queued = record {
    refused = refused;
    rejected = rejected;
    resent = resent;
    placed = placed;
    granted = λ g e idle. let same : ground ≡ g = cc in subst (λ (h : Ground). P (accepted_with (grant_to s c h, grant_acts (next_grant s.tables c)))) same (granted idle);
    queued = λ g e idle. let same : ground ≡ g = cc in subst (λ (h : Ground). P (rows_stay s (accepted_with (wait_for cmp s.tables (record { camera = c; ground = h }))))) same (queued idle);
    left = λ e. never (cc);
    left_line = λ e. never (cc);
    left_open = λ e x. never (cc);
    released = λ e x. never (cc);
    cancelled = λ e. never (cc);
  }

  -- the first that fits
  ask_cases : (c : ℕ) (ground : Ground) → Outcomes cmp s P c (its.Request ground) → WaitsNot s c → P (ask_first cmp s (record { camera = c; ground = ground }))
  ask_cases c ground o idle =
      let t = s.tables in
      let w : Claim = record { camera = c; ground = ground } in
      let granting = accepted_with (grant_to s c ground, grant_acts (next_grant t c)) in
      let waits = rows_stay s (ask_line cmp t w) in
      cond_both (eqb (t.granted + length t.claims) t.settings.rows) (only_says s (Reject c reject.NoRow)) (cond (ltb (length t.transmissions) t.settings.limit) granting waits) P
      (λ _. o.rejected reject.NoRow)
      (λ _.
      cond_both (ltb (length t.transmissions) t.settings.limit) granting waits P
      (λ _. o.granted ground refl idle)
      (λ _.
      cond_both (ltb (length t.claims) t.settings.line) (accepted_with (wait_for cmp t w)) (only_says t (Reject c reject.LineFull)) (λ x. P (rows_stay s x))
      (λ _. o.queued ground refl idle)
      (λ _. o.rejected reject.LineFull)))

  -- the camera's state, as it is looked up, and the event together

  open_cases : (c : ℕ) (e : CameraEvent) (x : Transmission) (recall : Option RecallCause) → Outcomes cmp s P c e → P (in_state cmp s c (by_phase x recall) e)
  open_cases c its.Leave x None o = o.left_open refl x
  open_cases c its.Leave x (Some cause) o = o.left_open refl x
  open_cases c (its.Request ground) x None o = o.resent x
  open_cases c (its.Request ground) x (Some cause) o = o.rejected (reject.Recalled cause)
  open_cases c its.Release x None o = o.released refl x
  open_cases c its.Release x (Some cause) o = o.released refl x
  open_cases c its.Cancel x None o = o.refused NotWaiting
  open_cases c its.Cancel x (Some cause) o = o.refused NotWaiting
  open_cases c its.Position x None o = o.refused NotWaiting
  open_cases c its.Position x (Some cause) o = o.refused NotWaiting

  line_cases : (c : ℕ) (e : CameraEvent) (place : Option ℕ) → place_of_first (claim_of c) s.tables.claims ≡ place → Outcomes cmp s P c e → P (in_state cmp s c (by_claim place) e)
  line_cases c its.Leave None is o = o.left refl
  line_cases c its.Leave (Some n) is o = o.left_line refl
  line_cases c (its.Request ground) None is o = ask_cases c ground o is
  line_cases c (its.Request ground) (Some n) is o = o.placed n is
  line_cases c its.Release None is o = o.refused NothingOpen
  line_cases c its.Release (Some n) is o = o.refused NothingOpen
  line_cases c its.Cancel None is o = o.refused NotWaiting
  line_cases c its.Cancel (Some n) is o = o.cancelled refl
  line_cases c its.Position None is o = o.refused NotWaiting
  line_cases c its.Position (Some n) is o = o.placed n is

  state_cases : (c : ℕ) (e : CameraEvent) (x : Option Transmission) → Outcomes cmp s P c e → P (in_state cmp s c (by_transmission x (place_of_first (claim_of c) s.tables.claims)) e)
  state_cases c e None o = line_cases c e (place_of_first (claim_of c) s.tables.claims) refl o
  state_cases c e (Some x) o = open_cases c e x x.recall o

  its_cases : (c : ℕ) (e : CameraEvent) → Outcomes cmp s P c e → P (in_state cmp s c (state_of_camera s.tables c) e)
  its_cases c e o = state_cases c e (find (transmission_of c) s.tables.transmissions) o

  if_cases : (c : ℕ) (e : CameraEvent) (m : Option Member) → Outcomes cmp s P c e → P (if_member cmp s c e m)
  if_cases c e None o = o.refused NotInCall
  if_cases c e (Some m) o = its_cases c e o

  pub camera_cases : (c : ℕ) (e : CameraEvent) → Outcomes cmp s P c e → P (of_member cmp s c e)
  camera_cases c e o = if_cases c e (find (is_member c) s.tables.members) o

  -- a request, on a ground of a kind that there is

  abbrev pub Asked : ℕ → ℕ → ℕ → Type 0
  Asked c number priority = (kind : Kind) → kind_of number ≡ Some kind → Outcomes cmp s P c (its.Request (record { kind = kind; priority = priority }))

  class_cases : (c : ℕ) (ground : Ground) (k : Class) → Outcomes cmp s P c (its.Request ground) → P (by_class cmp s c ground k)
  class_cases c ground ReceiveOnly o = o.rejected reject.ReceiveOnly
  class_cases c ground MayTransmit o = its_cases c (its.Request ground) o

  kind_cases : (c : ℕ) (k : Class) (number priority : ℕ) (kind : Option Kind) → kind_of number ≡ kind → ((why : Refusal) → P (refused_for s why)) → Asked c number priority → P (by_kind_of cmp s c k priority kind)
  kind_cases c k number priority None is refused o = refused BadKind
  kind_cases c k number priority (Some kind) is refused o = class_cases c (record { kind = kind; priority = priority }) k (o kind is)

  member_cases : (c number priority : ℕ) (m : Option Member) → ((why : Refusal) → P (refused_for s why)) → Asked c number priority → P (request_by cmp s c number priority m)
  member_cases c number priority None refused o = refused NotInCall
  member_cases c number priority (Some m) refused o = kind_cases c m.class number priority (kind_of number) refl refused o

  pub request_cases : (c number priority : ℕ) → ((why : Refusal) → P (refused_for s why)) → Asked c number priority → P (request_of cmp s c number priority)
  request_cases c number priority refused o = member_cases c number priority (find (is_member c) s.tables.members) refused o

module _ (s : State) (P : State × Answer → Type 0) where
  -- joining

  class_known : (c : ℕ) (class : Option Class) → ((why : Refusal) → P (refused_for s why)) → ((m : Member) → P (rows_stay s (accepted_with (with_members s.tables (appended 64 m s.tables.members), Zero)))) → P (rows_stay s (join_as s.tables c class))
  class_known c None refused joined = refused BadJoin
  class_known c (Some class) refused joined =
      let t = s.tables in
      let m : Member = record { camera = c; class = class } in
      cond_both (may_not_join t c) (refused_for t BadJoin) (admit t m) (λ x. P (rows_stay s x))
      (λ _. refused BadJoin)
      (λ _.
      cond_both (ltb (length t.members) 64) (accepted_with (with_members t (appended 64 m t.members), Zero)) (refused_for t CallFull) (λ x. P (rows_stay s x))
      (λ _. joined m)
      (λ _. refused CallFull))

  pub join_cases : (c number : ℕ) → ((why : Refusal) → P (refused_for s why)) → ((m : Member) → P (rows_stay s (accepted_with (with_members s.tables (appended 64 m s.tables.members), Zero)))) → P (rows_stay s (join_as s.tables c (class_of number)))
  join_cases c number refused joined = class_known c (class_of number) refused joined

  -- the clock

  go_cases : (to : ℕ) (first : Option Alarm) → at_place 1 s.tables.alarms ≡ first
      → (at_place 1 s.tables.alarms ≡ None → P (rows_stay s (reach_second s.tables to)))
      → ((a : Alarm) → at_place 1 s.tables.alarms ≡ Some a → to < a.due → P (rows_stay s (reach_second s.tables to)))
      → ((a : Alarm) → at_place 1 s.tables.alarms ≡ Some a → a.due ≤ to → P (stop_at s a))
      → P (go_to s to first)
  go_cases to None is none later due = none is
  go_cases to (Some a) is none later due =
      cond_both (leb a.due to) (stop_at s a) (rows_stay s (reach_second s.tables to)) P
      (λ e. due a is (leb-true a.due to e))
      (λ e. later a is (leb-false a.due to e))

  pub clock_cases : (to : ℕ)
      → (to < s.tables.clock → P (refused_for s ClockBack))
      → (4000000000 < to → P (refused_for s ClockBeyond))
      → (s.tables.clock ≤ to → to ≤ 4000000000 → at_place 1 s.tables.alarms ≡ None → P (rows_stay s (reach_second s.tables to)))
      → (s.tables.clock ≤ to → to ≤ 4000000000 → (a : Alarm) → at_place 1 s.tables.alarms ≡ Some a → to < a.due → P (rows_stay s (reach_second s.tables to)))
      → (s.tables.clock ≤ to → to ≤ 4000000000 → (a : Alarm) → at_place 1 s.tables.alarms ≡ Some a → a.due ≤ to → P (stop_at s a))
      → P (clock_to s to)
  clock_cases to back beyond none later due =
      let first = at_place 1 s.tables.alarms in
      let go = go_to s to first in
      cond_both (ltb to s.tables.clock) (refused_for s ClockBack) (cond (ltb 4000000000 to) (refused_for s ClockBeyond) go) P
      (λ e. back (ltb-true to s.tables.clock e))
      (λ e.
      let forward = ltb-false to s.tables.clock e in
      cond_both (ltb 4000000000 to) (refused_for s ClockBeyond) go P
      (λ f. beyond (ltb-true 4000000000 to f))
      (λ f. let within = ltb-false 4000000000 to f in go_cases to first refl (none forward within) (later forward within) (due forward within)))
