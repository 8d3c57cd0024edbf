-- A request of an idle camera that may transmit: the first case that fits. Cited by `ask`.
use Rattle.std.specs.Prelude.{ℕ, ◌+◌, ◌-◌, cond, length, Some, None, Option, ◌==◌, nat_lt, find}
use Rattle.order.specs.Lines.{place_of, insert}
use Rattle.order.specs.declared.standing.Standing.{Standing}
use Rattle.precedence.specs.declared.alarms.Alarm.{Alarm}
use Rattle.precedence.specs.declared.claims.Claim.{Claim}
use Rattle.model.specs.Lookups.{alarm_of}
use Rattle.model.specs.Answers.{Answer, accepted_with, only_says, rows_stay}
use Rattle.model.specs.Preemption.{pre_empt}
use Rattle.model.specs.State.{Compare, Tables, State, with_claims}
use Rattle.model.specs.Transmissions.{grant_to, grant_acts, next_grant}
use Rattle.model.specs.declared.acts.Act.{Act}
use Rattle.model.specs.declared.acts.Act.TheVariants.{Resend, Queued, Reject}
use Rattle.model.specs.declared.acts.Acts.{Acts}
use Rattle.model.specs.declared.acts.Acts.TheVariants.{One, Two}
use Rattle.model.specs.declared.causes.RejectCause.TheVariants.{NoRow, LineFull}
use Rattle.model.specs.declared.tables.Transmission.{Transmission}

-- claims by precedence: they compare by their grounds
abbrev pub by_ground : Compare → Claim → Claim → Standing
by_ground cmp a b = cmp a.ground b.ground

-- queued, and the revoke that followed, if one did
abbrev pub queued_acts : Act → Option Act → Acts
queued_acts queued None = One queued
queued_acts queued (Some revoke) = Two queued revoke

-- the claim joins the line, and then the recall test is made
abbrev pub wait_for : Compare → Tables → Claim → Tables × Acts
wait_for cmp t w =
    let after = pre_empt cmp (with_claims t (insert (by_ground cmp) w t.claims)) in
    (after.0, queued_acts (Queued w.camera (place_of (by_ground cmp) w t.claims + 1)) after.1)

-- 4. the claim waits; 3. unless the line is full
abbrev pub ask_line : Compare → Tables → Claim → Tables × Answer
ask_line cmp t w = cond (nat_lt (length t.claims) t.settings.line) (accepted_with (wait_for cmp t w)) (only_says t (Reject w.camera LineFull))

-- 2. fewer than the limit are open
abbrev pub ask_grant : Compare → State → Claim → State × Answer
ask_grant cmp s w =
    cond (nat_lt (length s.tables.transmissions) s.tables.settings.limit)
    (accepted_with (grant_to s w.camera w.ground, grant_acts (next_grant s.tables w.camera)))
    (rows_stay s (ask_line cmp s.tables w))

-- 1. every row is granted or waited for
abbrev pub ask_first : Compare → State → Claim → State × Answer
ask_first cmp s w = cond (s.tables.granted + length s.tables.claims == s.tables.settings.rows) (only_says s (Reject w.camera NoRow)) (ask_grant cmp s w)

-- the seconds until an alarm is due, or 0 where there is none
abbrev pub until_due : ℕ → Option Alarm → ℕ
until_due clock None = 0
until_due clock (Some a) = a.due - clock

-- a standing camera that asks again is told its number and the seconds left
abbrev pub resend_act : Tables → Transmission → Act
resend_act t x = Resend x.number x.camera (until_due t.clock (find (alarm_of x.number) t.alarms))
