-- What the clock keeps: it never goes back, it stops at the first alarm that is due, and that alarm alone acts.
use Rattle.std.proofs.Common.{◌≡◌, ℕ, zero, suc, ◌+◌, ◌<◌, ◌≤◌, max, Bool, true, false, cond, ltb, List, [], ◌∷◌, length, drop, Some, None, Option, sym, refl, ap, ◌∙◌, subst, inl, inr, arith, find, is_some}
use Rattle.std.specs.List.{insert as inserted, AllByRecursion, list_any}
use Rattle.std.proofs.ByRecursion.{All-weaker}
use Rattle.std.proofs.lemmas.Bool.{cases_lt, cases_Bool, cond_both, cond-true, cond-false, both_ways, lt-ltb, le-ltb, eqb-true, eq-eqb}
use Rattle.order.specs.Lines.{Ordered, at_place, insert, joined, place_of}
use Rattle.order.specs.declared.standing.Standing.TheVariants.{Ahead, Level, Behind}
use Rattle.precedence.specs.Rules.{by_due}
use Rattle.precedence.specs.declared.alarms.Alarm.{Alarm}
use Rattle.precedence.specs.declared.alarms.AlarmKind.{AlarmKind}
use Rattle.precedence.specs.declared.alarms.AlarmKind.TheVariants.{Talk, Grace}
use Rattle.precedence.specs.declared.claims.Claim.{Claim}
use Rattle.model.specs.Acts.{listed}
use Rattle.model.specs.Answers.{Answer, rows_stay}
use Rattle.model.specs.Clock.{act_by, act_on, expire_alarm, stop_at, reach_second, clock_to}
use Rattle.model.specs.Laws.{no_effect, resend_or_reject, alarms_shown, ByTime, AtClock, ToldItsPlace, PlacesTold}
use Rattle.model.specs.Lookups.{numbered, alarm_of}
use Rattle.model.specs.State.{Compare, Tables, State, with_clock, with_tables}
use Rattle.model.specs.Transmissions.{promote, close_grant, end_acts}
use Rattle.model.specs.Words.{In, without_first}
use Rattle.model.specs.declared.acts.Act.TheVariants.{Ended}
use Rattle.model.specs.declared.acts.Acts.{Acts}
use Rattle.model.specs.declared.causes.EndCause.TheVariants as end
use Rattle.model.specs.declared.tables.Transmission.{Transmission}
use Rattle.model.proofs.Cases.{clock_cases}
use Rattle.model.proofs.Words.{some_found}

-- one that is not behind another by due second is not due later
not_later : (a b : Alarm) → (by_due a b ≡ Behind → ⊥) → a.due ≤ b.due
not_later a b h = elim (cases_lt b.due a.due) [
  | inl later ↦
      let first : ltb a.due b.due ≡ false = le-ltb a.due b.due (omega arith) in
      let second : ltb b.due a.due ≡ true = lt-ltb b.due a.due later in
      absurd (h (cond-false (ltb a.due b.due) Ahead (cond (ltb b.due a.due) Behind Level) first ∙ cond-true (ltb b.due a.due) Behind Level second))
  | inr h ↦ h
]

-- in alarms in order, what is before the first's due second is before the others'
pub none_before : (P : ℕ → Type 0) (a : Alarm) (alarms : List Alarm) → at_place 1 alarms ≡ Some a → Ordered by_due alarms → ((n : ℕ) → a.due ≤ n → P n) → AllByRecursion (λ b. P b.due) alarms
none_before P a [] e s h = tt
none_before P a (b ∷ bs) e s h =
    let same : b ≡ a = cc in
    let due : b.due ≡ a.due = ap (λ (x : Alarm). x.due) same in
    (h b.due (omega (arith, due)), All-weaker (λ x. by_due b x ≡ Behind → ⊥) (λ x. P x.due) (λ x g. let le : b.due ≤ x.due = not_later b x g in h x.due (omega (arith, due, le))) bs s.0)

pub none_there : {X : Type 0} (P : X → Type 0) (xs : List X) → at_place 1 xs ≡ None → AllByRecursion P xs
none_there P [] e = tt
none_there P (x ∷ xs) e = absurd (let z : ◌≡◌ {A = ℕ} 0 1 = cc in omega arith)

-- whether one passes, by the first that does
missing : {X : Type 0} (p : X → Bool) (xs : List X) → find p xs ≡ None → list_any p xs ≡ false
missing p xs e = sym (some_found p xs) ∙ ap is_some e

passes : {X : Type 0} (p : X → Bool) (xs : List X) (y : X) → find p xs ≡ Some y → p y ≡ true
passes p [] y e = absurd (let z : ◌≡◌ {A = ℕ} 0 1 = cc in omega arith)
passes p (x ∷ xs) y e = elim (cases_Bool (p x)) [
  | inl is ↦ let same : Some x ≡ Some y = sym (cond-true (p x) (Some x) (find p xs) is) ∙ e in let one : x ≡ y = cc in ap p (sym one) ∙ is
  | inr isnt ↦ passes p xs y (sym (cond-false (p x) (Some x) (find p xs) isnt) ∙ e)
]

present : {X : Type 0} (p : X → Bool) (xs : List X) (y : X) → find p xs ≡ Some y → (list_any p xs ≡ true) × (p y ≡ true)
present p xs y e = (sym (some_found p xs) ∙ ap is_some e, passes p xs y e)

-- the others stay when the first alarm is dropped, and when one is set

all_in : {X : Type 0} (xs : List X) → AllByRecursion (λ x. In x xs) xs
all_in [] = tt
all_in (x ∷ xs) = (inl refl, All-weaker (λ y. In y xs) (λ y. In y (x ∷ xs)) (λ y h. inr h) xs (all_in xs))

in_inserted : {X : Type 0} (xs : List X) (k : ℕ) (x y : X) → In y xs → In y (inserted xs k x)
in_inserted xs zero x y h = inr h
in_inserted [] (suc k) x y h = absurd h
in_inserted (z ∷ zs) (suc k) x y (inl e) = inl e
in_inserted (z ∷ zs) (suc k) x y (inr h) = inr (in_inserted zs k x y h)

still_set : (a : Alarm) (alarms : List Alarm) → AllByRecursion (λ b. In b (joined 16 by_due a alarms)) alarms
still_set a alarms =
    cond_both (ltb (length alarms) 16) (insert by_due a alarms) alarms (λ xs. AllByRecursion (λ b. In b xs) alarms)
    (λ _. All-weaker (λ b. In b alarms) (λ b. In b (insert by_due a alarms)) (λ b h. in_inserted alarms (place_of by_due a alarms) a b h) alarms (all_in alarms))
    (λ _. all_in alarms)

first_dropped : (a : Alarm) (n : ℕ) (alarms : List Alarm) → at_place 1 alarms ≡ Some a → a.grant ≡ n → without_first (alarm_of n) alarms ≡ drop 1 alarms
first_dropped a n [] e its = refl
first_dropped a n (b ∷ bs) e its =
    let same : b ≡ a = cc in
    let is : alarm_of n b ≡ true = eq-eqb b.grant n (ap (λ (x : Alarm). x.grant) same ∙ its) in
    cond-true (alarm_of n b) bs (b ∷ without_first (alarm_of n) bs) is

-- what an alarm does: no time goes by, the acts show it, none is recalled or ended for another cause, nobody is told a
-- place, and the other alarms stay
record Expired (t : Tables) (shown : List (ℕ × AlarmKind)) (x : State × Acts) : Type 0 where
  stays : x.0.tables.clock ≡ t.clock
  shows : alarms_shown (listed x.1) ≡ shown
  effect : list_any resend_or_reject (listed x.1) ≡ false
  by_time : AllByRecursion ByTime (listed x.1)
  places : (cmp : Compare) (line : List Claim) → AllByRecursion (ToldItsPlace cmp line) (listed x.1)
  others : AllByRecursion (λ a. In a x.0.tables.alarms) (drop 1 t.alarms)

ended : (t : Tables) (s : State) (n c : ℕ) (o : Option Claim) → s.tables.clock ≡ t.clock → s.tables.alarms ≡ drop 1 t.alarms → Expired t ((n, Grace) ∷ []) ((promote s o).0, end_acts (Ended n c end.TimeOut) (promote s o).1)
ended t s n c None same left = record {
  stays = same;
  shows = refl;
  effect = refl;
  by_time = (refl, tt);
  places = λ cmp line. (tt, tt);
  others = subst (λ (xs : List Alarm). AllByRecursion (λ a. In a s.tables.alarms) xs) left (all_in s.tables.alarms);
}
ended t s n c (Some w) same left = record {
  stays = same;
  shows = refl;
  effect = refl;
  by_time = (refl, (tt, (tt, tt)));
  places = λ cmp line. (tt, (tt, (tt, tt)));
  others = subst (λ (xs : List Alarm). AllByRecursion (λ a. In a (promote s (Some w)).0.tables.alarms) xs) left (still_set (record { due = s.tables.clock + s.tables.settings.talk; grant = s.tables.granted + 1; kind = Talk }) s.tables.alarms);
}

kind : (s : State) (x : Transmission) (k : AlarmKind) → without_first (alarm_of x.number) s.tables.alarms ≡ drop 1 s.tables.alarms → Expired s.tables ((x.number, k) ∷ []) (act_by s x k)
kind s x Talk left = record {
  stays = refl;
  shows = refl;
  effect = refl;
  by_time = (refl, tt);
  places = λ cmp line. (tt, tt);
  others = subst (λ (xs : List Alarm). AllByRecursion (λ a. In a (act_by s x Talk).0.tables.alarms) xs) left (still_set (record { due = s.tables.clock + s.tables.settings.grace; grant = x.number; kind = Grace }) (without_first (alarm_of x.number) s.tables.alarms));
}
kind s x Grace left = ended s.tables (close_grant s x.number end.TimeOut) x.number x.camera (at_place 1 s.tables.claims) refl left

abbrev shown_by : Alarm → Tables → List (ℕ × AlarmKind)
shown_by a t = cond (list_any (numbered a.grant) t.transmissions) ((a.grant, a.kind) ∷ []) []

expired_by : (s : State) (a : Alarm) (o : Option Transmission) → at_place 1 s.tables.alarms ≡ Some a → find (numbered a.grant) s.tables.transmissions ≡ o → Expired s.tables (shown_by a s.tables) (act_on s a o)
expired_by s a None first e =
    let left = first_dropped a a.grant s.tables.alarms first refl in
    record {
      stays = refl;
      shows = sym (cond-false (list_any (numbered a.grant) s.tables.transmissions) _ [] (missing (numbered a.grant) s.tables.transmissions e));
      effect = refl;
      by_time = tt;
      places = λ cmp line. tt;
      others = subst (λ (xs : List Alarm). AllByRecursion (λ b. In b (without_first (alarm_of a.grant) s.tables.alarms)) xs) left (all_in (without_first (alarm_of a.grant) s.tables.alarms));
    }
expired_by s a (Some x) first e =
    let found = present (numbered a.grant) s.tables.transmissions x e in
    let same : x.number ≡ a.grant = eqb-true x.number a.grant found.1 in
    let it = kind s x a.kind (first_dropped a x.number s.tables.alarms first (sym same)) in
    record {
      stays = it.stays;
      shows = it.shows ∙ ap (λ n. (n, a.kind) ∷ []) same ∙ sym (cond-true (list_any (numbered a.grant) s.tables.transmissions) ((a.grant, a.kind) ∷ []) [] found.0);
      effect = it.effect;
      by_time = it.by_time;
      places = it.places;
      others = it.others;
    }

expired : (s : State) (a : Alarm) → at_place 1 s.tables.alarms ≡ Some a → Expired s.tables (shown_by a s.tables) (expire_alarm s a)
expired s a first = expired_by s a (find (numbered a.grant) s.tables.transmissions) first refl

pub record AtSecond (cmp : Compare) (s : State) (to : ℕ) (x : State × Answer) : Type 0 where
  pub nothing_changes : no_effect x.1 ≡ true → x.0 ≡ s
  pub time : AtClock s.tables to x.1 x.0.tables
  pub places : PlacesTold cmp x.1 x.0.tables

module _ (cmp : Compare) (s : State) (to : ℕ) where
  stopped : (a : Alarm) → s.tables.clock ≤ to → to ≤ 4000000000 → at_place 1 s.tables.alarms ≡ Some a → a.due ≤ to → AtSecond cmp s to (stop_at s a)
  stopped a forward within first due =
      let now = max s.tables.clock a.due in
      let s' = with_tables s (with_clock s.tables now) in
      let it = expired s' a first in
      record {
        nothing_changes = λ e. absurd (both_ways _ it.effect e);
        time = record {
          alarm = a;
          first = first;
          due = due;
          within = within;
          forward = omega (arith, it.stays);
          no_further = omega (arith, it.stays);
          at_due = λ h. it.stays ∙ omega arith;
          alone = it.shows;
          by_time = it.by_time;
          others_stay = it.others;
          none_passed = λ ordered h. none_before (λ n. (expire_alarm s' a).0.tables.clock ≤ n) a s.tables.alarms first ordered (λ n le. omega (arith, it.stays));
        };
        places = it.places cmp (expire_alarm s' a).0.tables.claims;
      }

  reached : s.tables.clock ≤ to → to ≤ 4000000000 → (Ordered by_due s.tables.alarms → AllByRecursion (λ a. to < a.due) s.tables.alarms) → AtSecond cmp s to (rows_stay s (reach_second s.tables to))
  reached forward within none = record {
    nothing_changes = λ e. absurd (both_ways false refl e);
    time = record { there = refl; forward = forward; within = within; no_act = refl; none_due = none };
    places = tt;
  }

  pub of_clock : AtSecond cmp s to (clock_to s to)
  of_clock =
      let alarms = s.tables.alarms in
      clock_cases s (AtSecond cmp s to) to
      (λ back. record { nothing_changes = λ _. refl; time = record { stays = refl; cause = inl (refl, back) }; places = tt })
      (λ beyond. record { nothing_changes = λ _. refl; time = record { stays = refl; cause = inr (refl, beyond) }; places = tt })
      (λ forward within none. reached forward within (λ _. none_there (λ a. to < a.due) alarms none))
      (λ forward within a first later. reached forward within (λ ordered. none_before (λ n. to < n) a alarms first ordered (λ n le. omega arith)))
      (λ forward within a first due. stopped a forward within first due)
