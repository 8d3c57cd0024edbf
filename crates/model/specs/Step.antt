-- What each event makes of a call, and its answer. Cited by `handle`.
--
-- join_as       a camera joins
-- in_state      an event of a camera in the call, by its state and the event together
-- of_member     an event of a camera, which has to be in the call
-- request_of    a request, which has to be of a kind, and of a camera that may transmit
-- step          every event
use Rattle.std.specs.Prelude.{ℕ, Bool, cond, ◌||◌, length, Some, None, Option, ◌==◌, nat_lt, find}
use Rattle.std.specs.List.{list_any}
use Rattle.order.specs.Lines.{appended}
use Rattle.precedence.specs.Grounds.{kind_of}
use Rattle.precedence.specs.declared.grounds.Ground.{Ground}
use Rattle.precedence.specs.declared.grounds.Kind.{Kind}
use Rattle.model.specs.Words.{without_first}
use Rattle.model.specs.Lookups.{is_member, claim_of}
use Rattle.model.specs.Answers.{Answer, accepted_with, only_says, refused_for, rows_stay}
use Rattle.model.specs.Cameras.{state_of_camera}
use Rattle.model.specs.Clock.{clock_to}
use Rattle.model.specs.Requests.{ask_first, resend_act}
use Rattle.model.specs.State.{Compare, Tables, State, with_members, with_claims, with_tables}
use Rattle.model.specs.Tables.{class_of}
use Rattle.model.specs.Transmissions.{end_of}
use Rattle.model.specs.declared.acts.Act.TheVariants.{Queued, Reject, Cancelled}
use Rattle.model.specs.declared.acts.Acts.TheVariants.{Zero, One}
use Rattle.model.specs.declared.causes.EndCause.TheVariants as end
use Rattle.model.specs.declared.causes.RejectCause.TheVariants as reject
use Rattle.model.specs.declared.events.CameraEvent.{CameraEvent}
use Rattle.model.specs.declared.events.CameraEvent.TheVariants as its
use Rattle.model.specs.declared.events.Event.{Event}
use Rattle.model.specs.declared.events.Event.TheVariants.{Join, Leave, Request, Release, Cancel, Position, Clock}
use Rattle.model.specs.declared.refusals.Refusal.TheVariants.{BadJoin, CallFull, NotInCall, BadKind, NothingOpen, NotWaiting}
use Rattle.model.specs.declared.tables.State.{State as CameraState}
use Rattle.model.specs.declared.tables.State.TheVariants as camera
use Rattle.model.specs.declared.tables.Class.{Class}
use Rattle.model.specs.declared.tables.Class.TheVariants.{ReceiveOnly, MayTransmit}
use Rattle.model.specs.declared.tables.Member.{Member}
use Rattle.model.specs.declared.tables.Transmission.{Transmission}

-- Joining

-- 0, the server and who is in already may not join
abbrev pub may_not_join : Tables → ℕ → Bool
may_not_join t c = c == 0 || (c == t.settings.server || list_any (is_member c) t.members)

-- a call holds 64 cameras; who joins is last in joining order
abbrev pub admit : Tables → Member → Tables × Answer
admit t m = cond (nat_lt (length t.members) 64) (accepted_with (with_members t (appended 64 m t.members), Zero)) (refused_for t CallFull)

abbrev pub join_as : Tables → ℕ → Option Class → Tables × Answer
join_as t c None = refused_for t BadJoin
join_as t c (Some class) = cond (may_not_join t c) (refused_for t BadJoin) (admit t (record { camera = c; class = class }))

-- Leaving the call, and leaving the line

abbrev pub drop_member : Tables → ℕ → Tables
drop_member t c = with_members t (without_first (is_member c) t.members)

abbrev pub drop_claim : Tables → ℕ → Tables
drop_claim t c = with_claims t (without_first (claim_of c) t.claims)

-- an idle camera is gone without an act
abbrev pub leave_idle : Tables → ℕ → Tables × Answer
leave_idle t c = accepted_with (drop_member t c, Zero)

-- a waiting one too, and its claim with it
abbrev pub leave_waiting : Tables → ℕ → Tables × Answer
leave_waiting t c = leave_idle (drop_claim t c) c

-- an open transmission ends, and then its camera is gone
abbrev pub leave_open : State → ℕ → Transmission → State × Answer
leave_open s c x =
    let after = end_of s x end.Leave in
    accepted_with (with_tables after.0 (drop_member after.0.tables c), after.1)

abbrev pub cancel_claim : Tables → ℕ → Tables × Answer
cancel_claim t c = accepted_with (drop_claim t c, One (Cancelled c))

-- The camera's state and the event together

abbrev pub in_state : Compare → State → ℕ → CameraState → CameraEvent → State × Answer
-- a request
in_state cmp s c camera.Idle (its.Request ground) = ask_first cmp s (record { camera = c; ground = ground })
in_state cmp s c (camera.Waiting place) (its.Request ground) = only_says s (Queued c place)
in_state cmp s c (camera.Standing x) (its.Request ground) = only_says s (resend_act s.tables x)
in_state cmp s c (camera.Recalled x cause) (its.Request ground) = only_says s (Reject c (reject.Recalled cause))
-- leaving
in_state cmp s c camera.Idle its.Leave = rows_stay s (leave_idle s.tables c)
in_state cmp s c (camera.Waiting place) its.Leave = rows_stay s (leave_waiting s.tables c)
in_state cmp s c (camera.Standing x) its.Leave = leave_open s c x
in_state cmp s c (camera.Recalled x cause) its.Leave = leave_open s c x
-- a release ends an open transmission
in_state cmp s c camera.Idle its.Release = refused_for s NothingOpen
in_state cmp s c (camera.Waiting place) its.Release = refused_for s NothingOpen
in_state cmp s c (camera.Standing x) its.Release = accepted_with (end_of s x end.Release)
in_state cmp s c (camera.Recalled x cause) its.Release = accepted_with (end_of s x end.Release)
-- a cancel drops the claim
in_state cmp s c camera.Idle its.Cancel = refused_for s NotWaiting
in_state cmp s c (camera.Waiting place) its.Cancel = rows_stay s (cancel_claim s.tables c)
in_state cmp s c (camera.Standing x) its.Cancel = refused_for s NotWaiting
in_state cmp s c (camera.Recalled x cause) its.Cancel = refused_for s NotWaiting
-- a position is the claim's place
in_state cmp s c camera.Idle its.Position = refused_for s NotWaiting
in_state cmp s c (camera.Waiting place) its.Position = only_says s (Queued c place)
in_state cmp s c (camera.Standing x) its.Position = refused_for s NotWaiting
in_state cmp s c (camera.Recalled x cause) its.Position = refused_for s NotWaiting

-- Events of a camera

abbrev pub if_member : Compare → State → ℕ → CameraEvent → Option Member → State × Answer
if_member cmp s c e None = refused_for s NotInCall
if_member cmp s c e (Some m) = in_state cmp s c (state_of_camera s.tables c) e

abbrev pub of_member : Compare → State → ℕ → CameraEvent → State × Answer
of_member cmp s c e = if_member cmp s c e (find (is_member c) s.tables.members)

-- a camera that only receives is rejected
abbrev pub by_class : Compare → State → ℕ → (ground : Ground) → Class → State × Answer
by_class cmp s c ground ReceiveOnly = only_says s (Reject c reject.ReceiveOnly)
by_class cmp s c ground MayTransmit = in_state cmp s c (state_of_camera s.tables c) (its.Request ground)

abbrev pub by_kind_of : Compare → State → ℕ → Class → ℕ → Option Kind → State × Answer
by_kind_of cmp s c class priority None = refused_for s BadKind
by_kind_of cmp s c class priority (Some kind) = by_class cmp s c (record { kind = kind; priority = priority }) class

abbrev pub request_by : Compare → State → ℕ → ℕ → ℕ → Option Member → State × Answer
request_by cmp s c kind priority None = refused_for s NotInCall
request_by cmp s c kind priority (Some m) = by_kind_of cmp s c m.class priority (kind_of kind)

abbrev pub request_of : Compare → State → ℕ → ℕ → ℕ → State × Answer
request_of cmp s c kind priority = request_by cmp s c kind priority (find (is_member c) s.tables.members)

-- Every event

abbrev pub step : Compare → State → Event → State × Answer
step cmp s (Join c class) = rows_stay s (join_as s.tables c (class_of class))
step cmp s (Leave c) = of_member cmp s c its.Leave
step cmp s (Request c kind priority) = request_of cmp s c kind priority
step cmp s (Release c) = of_member cmp s c its.Release
step cmp s (Cancel c) = of_member cmp s c its.Cancel
step cmp s (Position c) = of_member cmp s c its.Position
step cmp s (Clock to) = clock_to s to
