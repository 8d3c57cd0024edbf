-- The state of one camera in the call. Cited by `state_of`.
use Rattle.std.specs.Prelude.{ℕ, Some, None, Option, find}
use Rattle.model.specs.Words.{place_of_first}
use Rattle.model.specs.Lookups.{claim_of, transmission_of}
use Rattle.model.specs.State.{Tables}
use Rattle.model.specs.declared.tables.State.{State as CameraState}
use Rattle.model.specs.declared.tables.State.TheVariants as camera
use Rattle.model.specs.declared.causes.RecallCause.{RecallCause}
use Rattle.model.specs.declared.tables.Transmission.{Transmission}

-- who has no open transmission waits if a claim of it is in line, and else is idle
abbrev pub by_claim : Option ℕ → CameraState
by_claim None = camera.Idle
by_claim (Some place) = camera.Waiting place

-- who has one stands, or is recalled
abbrev pub by_phase : Transmission → Option RecallCause → CameraState
by_phase x None = camera.Standing x
by_phase x (Some cause) = camera.Recalled x cause

abbrev pub by_transmission : Option Transmission → Option ℕ → CameraState
by_transmission None place = by_claim place
by_transmission (Some x) place = by_phase x x.recall

abbrev pub state_of_camera : Tables → ℕ → CameraState
state_of_camera t camera = by_transmission (find (transmission_of camera) t.transmissions) (place_of_first (claim_of camera) t.claims)
