-- What a listing shows of an act, and the acts of an answer as a list. Cited by `Act`,
-- `Granted` and `Acts`.
use Rattle.std.specs.Prelude.{ℕ, List, [], ◌∷◌, codes}
use Rattle.model.specs.Causes.{recall_number, end_number, reject_number}
use Rattle.model.specs.declared.acts.Act.{Act}
use Rattle.model.specs.declared.acts.Act.TheVariants.{Grant, Notify, Resend, Queued, Reject, Revoke, Ended, Cancelled}
use Rattle.model.specs.declared.acts.Granted.{Granted}
use Rattle.model.specs.declared.acts.Acts.{Acts}
use Rattle.model.specs.declared.acts.Acts.TheVariants.{Zero, One, Two, Three}

-- its word in a listing
abbrev pub act_word : Act → List ℕ
act_word (Grant number camera seconds) = codes "grant"
act_word (Notify number camera) = codes "notify"
act_word (Resend number camera seconds) = codes "resend"
act_word (Queued camera place) = codes "queued"
act_word (Reject camera cause) = codes "reject"
act_word (Revoke number camera cause) = codes "revoke"
act_word (Ended number camera cause) = codes "ended"
act_word (Cancelled camera) = codes "cancelled"

-- the grant number, or 0 where the act is about no grant
abbrev pub act_number : Act → ℕ
act_number (Grant number camera seconds) = number
act_number (Notify number camera) = number
act_number (Resend number camera seconds) = number
act_number (Queued camera place) = 0
act_number (Reject camera cause) = 0
act_number (Revoke number camera cause) = number
act_number (Ended number camera cause) = number
act_number (Cancelled camera) = 0

-- whom the act is about
abbrev pub act_camera : Act → ℕ
act_camera (Grant number camera seconds) = camera
act_camera (Notify number camera) = camera
act_camera (Resend number camera seconds) = camera
act_camera (Queued camera place) = camera
act_camera (Reject camera cause) = camera
act_camera (Revoke number camera cause) = camera
act_camera (Ended number camera cause) = camera
act_camera (Cancelled camera) = camera

-- seconds left, place or cause, or 0 where the act has none of them
abbrev pub act_value : Act → ℕ
act_value (Grant number camera seconds) = seconds
act_value (Notify number camera) = 0
act_value (Resend number camera seconds) = seconds
act_value (Queued camera place) = place
act_value (Reject camera cause) = reject_number cause
act_value (Revoke number camera cause) = recall_number cause
act_value (Ended number camera cause) = end_number cause
act_value (Cancelled camera) = 0

-- the acts of a grant: the camera is told, and the others are told
abbrev pub grant_act : Granted → Act
grant_act g = Grant g.number g.camera g.seconds

abbrev pub notify_act : Granted → Act
notify_act g = Notify g.number g.camera

-- in their order
abbrev pub listed : Acts → List Act
listed Zero = []
listed (One a) = a ∷ []
listed (Two a b) = a ∷ b ∷ []
listed (Three a b c) = a ∷ b ∷ c ∷ []
