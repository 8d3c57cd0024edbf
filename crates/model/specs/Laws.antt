-- What holds of every event, in the words of the subject. Cited by the arbiter's `handle`, beside `step`.
--
-- acts_of        the acts of an answer, in their order
-- no_effect      a refusal, or an answer with a resend or a reject
-- asks_again     a position, or a request of a camera that waits
-- StandsAt       a camera's claim has its place in the line
-- Newcomer       the place of a claim that joins the line
-- KeepsTime      how an event moves the clock, and which alarm acts
-- InLine         the claims are in order
-- OnTime         the alarms are in order, and none is overdue
-- NumbersRise    the open transmissions are in the order of their numbers
-- LawfulEvent    all of this, of one event
use Rattle.std.specs.Prelude.{◌≡◌, ℕ, ◌+◌, ◌-◌, ◌<◌, ◌≤◌, Bool, true, false, cond, ◌⊎◌, List, [], ◌∷◌, ◌++◌, length, take, drop, Some, Ok, Err, count_by}
use Rattle.std.specs.List.{AllByRecursion, list_any}
use Rattle.order.specs.Lines.{Ordered, at_place}
use Rattle.order.specs.Standings.{is_ahead, is_level}
use Rattle.precedence.specs.Grounds.{kind_of}
use Rattle.precedence.specs.Rules.{by_due}
use Rattle.precedence.specs.declared.alarms.Alarm.{Alarm}
use Rattle.precedence.specs.declared.alarms.AlarmKind.{AlarmKind}
use Rattle.precedence.specs.declared.alarms.AlarmKind.TheVariants.{Talk, Grace}
use Rattle.precedence.specs.declared.claims.Claim.{Claim}
use Rattle.precedence.specs.declared.grounds.Ground.{Ground}
use Rattle.precedence.specs.declared.grounds.Kind.{Kind}
use Rattle.model.specs.Acts.{listed}
use Rattle.model.specs.Answers.{Answer}
use Rattle.model.specs.Lookups.{claim_of, numbered}
use Rattle.model.specs.Requests.{by_ground}
use Rattle.model.specs.State.{Compare, Tables, State}
use Rattle.model.specs.Words.{In}
use Rattle.model.specs.declared.acts.Act.{Act}
use Rattle.model.specs.declared.acts.Act.TheVariants.{Grant, Notify, Resend, Queued, Reject, Revoke, Ended, Cancelled}
use Rattle.model.specs.declared.acts.Acts.{Acts}
use Rattle.model.specs.declared.causes.EndCause.{EndCause}
use Rattle.model.specs.declared.causes.EndCause.TheVariants as end
use Rattle.model.specs.declared.causes.RecallCause.{RecallCause}
use Rattle.model.specs.declared.causes.RecallCause.TheVariants as recall
use Rattle.model.specs.declared.events.Event.{Event}
use Rattle.model.specs.declared.events.Event.TheVariants.{Join, Leave, Request, Release, Cancel, Position, Clock}
use Rattle.model.specs.declared.refusals.Refusal.{Refusal}
use Rattle.model.specs.declared.refusals.Refusal.TheVariants.{ClockBack, ClockBeyond}
use Rattle.model.specs.declared.tables.Transmission.{Transmission}

-- the acts of an answer, in their order; a refusal has none
abbrev pub acts_of : Answer → List Act
acts_of (Ok reply) = listed reply.acts
acts_of (Err why) = []

-- What changes nothing

abbrev pub resend_or_reject : Act → Bool
resend_or_reject (Grant number camera seconds) = false
resend_or_reject (Notify number camera) = false
resend_or_reject (Resend number camera seconds) = true
resend_or_reject (Queued camera place) = false
resend_or_reject (Reject camera cause) = true
resend_or_reject (Revoke number camera cause) = false
resend_or_reject (Ended number camera cause) = false
resend_or_reject (Cancelled camera) = false

-- a refusal, or an answer with a resend or a reject
abbrev pub no_effect : Answer → Bool
no_effect (Ok reply) = list_any resend_or_reject (listed reply.acts)
no_effect (Err why) = true

-- a position, or a request of a camera that waits
abbrev pub asks_again : Tables → Event → Bool
asks_again t (Join c class) = false
asks_again t (Leave c) = false
asks_again t (Request c kind priority) = list_any (claim_of c) t.claims
asks_again t (Release c) = false
asks_again t (Cancel c) = false
asks_again t (Position c) = true
asks_again t (Clock to) = false

-- Places

-- of a line, how many claims are ahead of a ground, and how many level with it
abbrev pub ahead_of : Compare → Ground → List Claim → ℕ
ahead_of cmp ground line = count_by (λ w. is_ahead (cmp w.ground ground)) line

abbrev pub level_with : Compare → Ground → List Claim → ℕ
level_with cmp ground line = count_by (λ w. is_level (cmp w.ground ground)) line

-- the camera's claim is at place n of the line; in a line in order, that is 1 plus the claims that are ahead of it, or
-- level with it and earlier in the line
pub record StandsAt (cmp : Compare) (camera n : ℕ) (line : List Claim) : Type 0 where
  pub claim : Claim
  pub its : claim.camera ≡ camera
  pub here : at_place n line ≡ Some claim
  pub place : Ordered (by_ground cmp) line → n ≡ ahead_of cmp claim.ground line + level_with cmp claim.ground (take (n - 1) line) + 1

-- a place that an act tells is that of the camera's claim in the line
abbrev pub ToldItsPlace : Compare → List Claim → Act → Type 0
ToldItsPlace cmp line (Grant number camera seconds) = Unit {0}
ToldItsPlace cmp line (Notify number camera) = Unit {0}
ToldItsPlace cmp line (Resend number camera seconds) = Unit {0}
ToldItsPlace cmp line (Queued camera n) = StandsAt cmp camera n line
ToldItsPlace cmp line (Reject camera cause) = Unit {0}
ToldItsPlace cmp line (Revoke number camera cause) = Unit {0}
ToldItsPlace cmp line (Ended number camera cause) = Unit {0}
ToldItsPlace cmp line (Cancelled camera) = Unit {0}

abbrev pub PlacesTold : Compare → Answer → Tables → Type 0
PlacesTold cmp answer t = AllByRecursion (ToldItsPlace cmp t.claims) (acts_of answer)

-- a place that an act tells is n
abbrev pub ToldPlace : ℕ → Act → Type 0
ToldPlace n (Grant number camera seconds) = Unit {0}
ToldPlace n (Notify number camera) = Unit {0}
ToldPlace n (Resend number camera seconds) = Unit {0}
ToldPlace n (Queued camera place) = place ≡ n
ToldPlace n (Reject camera cause) = Unit {0}
ToldPlace n (Revoke number camera cause) = Unit {0}
ToldPlace n (Ended number camera cause) = Unit {0}
ToldPlace n (Cancelled camera) = Unit {0}

-- a camera that did not wait, and whose claim joins a line in order, is told 1 plus the claims that were in the line
-- and are ahead of its own or level with it: all of these came earlier
abbrev pub Newcomer : Compare → Tables → Event → Answer → Type 0
Newcomer cmp t (Join c class) answer = Unit {0}
Newcomer cmp t (Leave c) answer = Unit {0}
Newcomer cmp t (Request c number priority) answer =
    (kind : Kind) → kind_of number ≡ Some kind → list_any (claim_of c) t.claims ≡ false → Ordered (by_ground cmp) t.claims
    → let ground : Ground = record { kind = kind; priority = priority } in
    AllByRecursion (ToldPlace (ahead_of cmp ground t.claims + level_with cmp ground t.claims + 1)) (acts_of answer)
Newcomer cmp t (Release c) answer = Unit {0}
Newcomer cmp t (Cancel c) answer = Unit {0}
Newcomer cmp t (Position c) answer = Unit {0}
Newcomer cmp t (Clock to) answer = Unit {0}

-- Time

-- the grant and the kind of the alarm that an act shows: because the time is over, a talk alarm recalls and a grace
-- alarm ends
abbrev pub by_recall : ℕ → RecallCause → List (ℕ × AlarmKind)
by_recall n recall.TimeOut = (n, Talk) ∷ []
by_recall n recall.PreEmption = []

abbrev pub by_end : ℕ → EndCause → List (ℕ × AlarmKind)
by_end n end.NotEnded = []
by_end n end.Release = []
by_end n end.TimeOut = (n, Grace) ∷ []
by_end n end.Leave = []

abbrev pub alarms_shown : List Act → List (ℕ × AlarmKind)
alarms_shown [] = []
alarms_shown (Grant number camera seconds ∷ acts) = alarms_shown acts
alarms_shown (Notify number camera ∷ acts) = alarms_shown acts
alarms_shown (Resend number camera seconds ∷ acts) = alarms_shown acts
alarms_shown (Queued camera place ∷ acts) = alarms_shown acts
alarms_shown (Reject camera cause ∷ acts) = alarms_shown acts
alarms_shown (Revoke number camera cause ∷ acts) = by_recall number cause ++ alarms_shown acts
alarms_shown (Ended number camera cause ∷ acts) = by_end number cause ++ alarms_shown acts
alarms_shown (Cancelled camera ∷ acts) = alarms_shown acts

-- no time goes by, and no alarm acts
pub record NoTime (t : Tables) (answer : Answer) (t' : Tables) : Type 0 where
  pub stays : t'.clock ≡ t.clock
  pub no_alarm : alarms_shown (acts_of answer) ≡ []

-- the clock reaches the second asked for, which it may, and no alarm acts: with the alarms in order, none was due by
-- then
pub record Reached (t : Tables) (to : ℕ) (acts : Acts) (t' : Tables) : Type 0 where
  pub there : t'.clock ≡ to
  pub forward : t.clock ≤ to
  pub within : to ≤ 4000000000
  pub no_act : listed acts ≡ []
  pub none_due : Ordered by_due t.alarms → AllByRecursion (λ a. to < a.due) t.alarms

-- every recall and every end of these acts is because the time is over
abbrev pub ByTime : Act → Type 0
ByTime (Grant number camera seconds) = Unit {0}
ByTime (Notify number camera) = Unit {0}
ByTime (Resend number camera seconds) = Unit {0}
ByTime (Queued camera place) = Unit {0}
ByTime (Reject camera cause) = Unit {0}
ByTime (Revoke number camera cause) = cause ≡ recall.TimeOut
ByTime (Ended number camera cause) = cause ≡ end.TimeOut
ByTime (Cancelled camera) = Unit {0}

-- the clock stops at the first alarm, which is due by then. If the alarm's transmission is open, it is recalled or
-- ended, and no other is; all other alarms stay. With the alarms in order, and none overdue, none is overdue then
pub record Stopped (t : Tables) (to : ℕ) (acts : Acts) (t' : Tables) : Type 0 where
  pub alarm : Alarm
  pub first : at_place 1 t.alarms ≡ Some alarm
  pub due : alarm.due ≤ to
  pub within : to ≤ 4000000000
  pub forward : t.clock ≤ t'.clock
  pub no_further : t'.clock ≤ to
  pub at_due : t.clock ≤ alarm.due → t'.clock ≡ alarm.due
  pub alone : alarms_shown (listed acts) ≡ cond (list_any (numbered alarm.grant) t.transmissions) ((alarm.grant, alarm.kind) ∷ []) []
  pub by_time : AllByRecursion ByTime (listed acts)
  pub others_stay : AllByRecursion (λ a. In a t'.alarms) (drop 1 t.alarms)
  pub none_passed : Ordered by_due t.alarms → t.clock ≤ alarm.due → AllByRecursion (λ a. t'.clock ≤ a.due) t.alarms

-- a clock event is refused exactly if the second asked for is before the clock, or beyond the last
pub record ClockRefused (t : Tables) (to : ℕ) (why : Refusal) (t' : Tables) : Type 0 where
  pub stays : t'.clock ≡ t.clock
  pub cause : ((why ≡ ClockBack) × (to < t.clock)) ⊎ ((why ≡ ClockBeyond) × (4000000000 < to))

abbrev pub AtMore : Tables → ℕ → Bool → Acts → Tables → Type 0
AtMore t to true acts t' = Stopped t to acts t'
AtMore t to false acts t' = Reached t to acts t'

abbrev pub AtClock : Tables → ℕ → Answer → Tables → Type 0
AtClock t to (Ok reply) t' = AtMore t to reply.more reply.acts t'
AtClock t to (Err why) t' = ClockRefused t to why t'

-- only a clock event moves the clock and lets an alarm act
abbrev pub KeepsTime : Tables → Event → Answer → Tables → Type 0
KeepsTime t (Join c class) answer t' = NoTime t answer t'
KeepsTime t (Leave c) answer t' = NoTime t answer t'
KeepsTime t (Request c kind priority) answer t' = NoTime t answer t'
KeepsTime t (Release c) answer t' = NoTime t answer t'
KeepsTime t (Cancel c) answer t' = NoTime t answer t'
KeepsTime t (Position c) answer t' = NoTime t answer t'
KeepsTime t (Clock to) answer t' = AtClock t to answer t'

-- Order

-- the claims are by precedence
abbrev pub InLine : Compare → Tables → Type 0
InLine cmp t = Ordered (by_ground cmp) t.claims

-- the alarms are by due second, and none is overdue
abbrev pub OnTime : Tables → Type 0
OnTime t = Ordered by_due t.alarms × AllByRecursion (λ a. t.clock ≤ a.due) t.alarms

-- the open transmissions are in the order of their numbers, and no number is above that of the last grant
abbrev pub Rise : ℕ → List Transmission → Type 0
Rise n [] = Unit {0}
Rise n (x ∷ xs) = (x.number ≤ n) × AllByRecursion (λ y. x.number < y.number) xs × Rise n xs

abbrev pub NumbersRise : Tables → Type 0
NumbersRise t = Rise t.granted t.transmissions

-- All of this, of one event

pub record LawfulEvent (cmp : Compare) (s : State) (event : Event) (answer : Answer) (s' : State) : Type 0 where
  -- a refusal, a resend and a reject change nothing
  pub nothing_changes : no_effect answer ≡ true → s' ≡ s
  -- nor does a position, or a request of a camera that waits
  pub nothing_changes_again : asks_again s.tables event ≡ true → s' ≡ s
  -- there are at most three acts; so the type of the answer has it
  pub at_most_three : length (acts_of answer) ≤ 3
  -- the clock never goes back
  pub forward : s.tables.clock ≤ s'.tables.clock
  -- only a clock event moves it, to the second asked for or to the first alarm
  pub time : KeepsTime s.tables event answer s'.tables
  -- claims in order stay in order under the rule that is lent
  pub in_line : InLine cmp s.tables → InLine cmp s'.tables
  -- alarms in order, none overdue, stay so under any rule
  pub on_time : OnTime s.tables → OnTime s'.tables
  -- transmissions that are in the order of their numbers stay so
  pub numbers_rise : NumbersRise s.tables → NumbersRise s'.tables
  -- a place that is told is that of the camera's claim
  pub places : PlacesTold cmp answer s'.tables
  pub newcomer : Newcomer cmp s.tables event answer
