-- What every event but the clock's keeps: an answer without effect changes nothing, no time goes by, and a place that is
-- told is the claim's place.
use Rattle.std.proofs.Common.{◌≡◌, ℕ, ◌+◌, true, false, [], ◌++◌, Some, None, Err, Option, refl, ap}
use Rattle.std.proofs.lemmas.Bool.{both_ways}
use Rattle.order.specs.Lines.{at_place, insert, place_of, appended}
use Rattle.precedence.specs.declared.claims.Claim.{Claim}
use Rattle.model.specs.Answers.{Answer, accepted_with, refused_for, rows_stay, reply_with}
use Rattle.model.specs.Laws.{acts_of, no_effect, alarms_shown, by_end, NoTime, StandsAt, PlacesTold}
use Rattle.model.specs.Preemption.{recall_it, pre_empt_for, pre_empted_by, recalls}
use Rattle.model.specs.Requests.{by_ground, queued_acts, wait_for, resend_act}
use Rattle.model.specs.State.{Compare, Tables, State, with_claims, with_members, with_tables}
use Rattle.model.specs.Step.{join_as, drop_member, leave_idle, leave_waiting, cancel_claim, of_member, request_of}
use Rattle.model.specs.Tables.{class_of}
use Rattle.model.specs.Transmissions.{grant_to, grant_acts, next_grant, promote, close_grant, end_acts}
use Rattle.model.specs.declared.acts.Act.TheVariants.{Queued, Reject, Ended}
use Rattle.model.specs.declared.acts.Acts.TheVariants.{Zero, One}
use Rattle.model.specs.declared.causes.EndCause.{EndCause}
use Rattle.model.specs.declared.causes.EndCause.TheVariants as end
use Rattle.model.specs.declared.events.CameraEvent.{CameraEvent}
use Rattle.model.specs.declared.events.CameraEvent.TheVariants as its
use Rattle.model.specs.declared.refusals.Refusal.{Refusal}
use Rattle.model.specs.declared.tables.Transmission.{Transmission}
use Rattle.model.proofs.Cases.{Outcomes, camera_cases, request_cases, join_cases}
use Rattle.model.proofs.Places.{LawOne, waits_at, enters_at}

pub record Lawful (cmp : Compare) (s : State) (x : State × Answer) : Type 0 where
  pub nothing_changes : no_effect x.1 ≡ true → x.0 ≡ s
  pub time : NoTime s.tables x.1 x.0.tables
  pub places : PlacesTold cmp x.1 x.0.tables

module _ (cmp : Compare) (one : LawOne cmp) where
  -- what changes nothing
  keeps : (s : State) (answer : Answer) → alarms_shown (acts_of answer) ≡ [] → PlacesTold cmp answer s.tables → Lawful cmp s (s, answer)
  keeps s answer none places = record { nothing_changes = λ _. refl; time = record { stays = refl; no_alarm = none }; places = places }

  -- what has an effect
  changes : (s : State) (x : State × Answer) → no_effect x.1 ≡ false → x.0.tables.clock ≡ s.tables.clock → alarms_shown (acts_of x.1) ≡ [] → PlacesTold cmp x.1 x.0.tables → Lawful cmp s x
  changes s x effect same none places = record { nothing_changes = λ e. absurd (both_ways _ effect e); time = record { stays = same; no_alarm = none }; places = places }

  -- an end that no alarm makes
  ending : (s s' : State) (n c : ℕ) (cause : EndCause) (o : Option Claim) → by_end n cause ≡ [] → s'.tables.clock ≡ s.tables.clock → Lawful cmp s (accepted_with ((promote s' o).0, end_acts (Ended n c cause) (promote s' o).1))
  ending s s' n c cause None none same = changes s _ refl same (ap (λ l. l ++ []) none) (tt, tt)
  ending s s' n c cause (Some w) none same = changes s _ refl same (ap (λ l. l ++ []) none) (tt, (tt, (tt, tt)))

  leaving : (s s' : State) (n c d : ℕ) (cause : EndCause) (o : Option Claim) → by_end n cause ≡ [] → s'.tables.clock ≡ s.tables.clock → Lawful cmp s (accepted_with (with_tables (promote s' o).0 (drop_member (promote s' o).0.tables d), end_acts (Ended n c cause) (promote s' o).1))
  leaving s s' n c d cause None none same = changes s _ refl same (ap (λ l. l ++ []) none) (tt, tt)
  leaving s s' n c d cause (Some w) none same = changes s _ refl same (ap (λ l. l ++ []) none) (tt, (tt, (tt, tt)))

  -- a claim that joins the line, whether a transmission is recalled for it or not
  came : (s : State) (t : Tables) (c n : ℕ) → t.clock ≡ s.tables.clock → StandsAt cmp c n t.claims → (o : Option Transmission) → Lawful cmp s (rows_stay s (accepted_with ((recall_it t o).0, queued_acts (Queued c n) (recall_it t o).1)))
  came s t c n same h None = changes s _ refl same refl (h, tt)
  came s t c n same h (Some x) = changes s _ refl same refl (h, (tt, tt))

  comes : (s : State) (t : Tables) (c n : ℕ) → t.clock ≡ s.tables.clock → StandsAt cmp c n t.claims → (o : Option Claim) → Lawful cmp s (rows_stay s (accepted_with ((pre_empt_for cmp t o).0, queued_acts (Queued c n) (pre_empt_for cmp t o).1)))
  comes s t c n same h None = came s t c n same h None
  comes s t c n same h (Some w) = came s t c n same h (pre_empted_by cmp w t.transmissions)

  waiting : (s : State) (w : Claim) → Lawful cmp s (rows_stay s (accepted_with (wait_for cmp s.tables w)))
  waiting s w =
      let t = s.tables in
      let t' = with_claims t (insert (by_ground cmp) w t.claims) in
      comes s t' w.camera (place_of (by_ground cmp) w t.claims + 1) refl (enters_at cmp one w t.claims) (at_place (recalls t'.transmissions + 1) t'.claims)

  refusal : (s : State) (why : Refusal) → Lawful cmp s (refused_for s why)
  refusal s why = keeps s (Err why) refl tt

  outcomes : (s : State) (c : ℕ) (e : CameraEvent) → Outcomes cmp s (Lawful cmp s) c e
  outcomes s c e = record {
    refused = refusal s;
    rejected = λ cause. keeps s (reply_with (One (Reject c cause))) refl (tt, tt);
    resent = λ x. keeps s (reply_with (One (resend_act s.tables x))) refl (tt, tt);
    placed = λ n is. keeps s (reply_with (One (Queued c n))) refl (waits_at cmp one c n s.tables.claims is, tt);
    granted = λ ground _ _. changes s (accepted_with (grant_to s c ground, grant_acts (next_grant s.tables c))) refl refl refl (tt, (tt, tt));
    queued = λ ground _ _. waiting s (record { camera = c; ground = ground });
    left = λ _. changes s (rows_stay s (leave_idle s.tables c)) refl refl refl tt;
    left_line = λ _. changes s (rows_stay s (leave_waiting s.tables c)) refl refl refl tt;
    left_open = λ _ x. leaving s (close_grant s x.number end.Leave) x.number x.camera c end.Leave (at_place 1 s.tables.claims) refl refl;
    released = λ _ x. ending s (close_grant s x.number end.Release) x.number x.camera end.Release (at_place 1 s.tables.claims) refl refl;
    cancelled = λ _. changes s (rows_stay s (cancel_claim s.tables c)) refl refl refl (tt, tt);
  }

  pub of_camera : (s : State) (c : ℕ) (e : CameraEvent) → Lawful cmp s (of_member cmp s c e)
  of_camera s c e = camera_cases cmp s (Lawful cmp s) c e (outcomes s c e)

  pub of_request : (s : State) (c number priority : ℕ) → Lawful cmp s (request_of cmp s c number priority)
  of_request s c number priority = request_cases cmp s (Lawful cmp s) c number priority (refusal s) (λ kind _. outcomes s c (its.Request (record { kind = kind; priority = priority })))

  pub of_join : (s : State) (c number : ℕ) → Lawful cmp s (rows_stay s (join_as s.tables c (class_of number)))
  of_join s c number = join_cases s (Lawful cmp s) c number (refusal s) (λ m. changes s (rows_stay s (accepted_with (with_members s.tables (appended 64 m s.tables.members), Zero))) refl refl refl tt)
