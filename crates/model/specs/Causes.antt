-- The numbers of the causes. Cited by the enums of `causes` and by the acts.
use Rattle.std.specs.Prelude.{ℕ}
use Rattle.model.specs.declared.causes.RecallCause.{RecallCause}
use Rattle.model.specs.declared.causes.RecallCause.TheVariants as recall
use Rattle.model.specs.declared.causes.EndCause.{EndCause}
use Rattle.model.specs.declared.causes.EndCause.TheVariants as end
use Rattle.model.specs.declared.causes.RejectCause.{RejectCause}
use Rattle.model.specs.declared.causes.RejectCause.TheVariants as reject

abbrev pub recall_number : RecallCause → ℕ
recall_number recall.TimeOut = 2
recall_number recall.PreEmption = 4

-- 0 while it has not ended
abbrev pub end_number : EndCause → ℕ
end_number end.NotEnded = 0
end_number end.Release = 1
end_number end.TimeOut = 2
end_number end.Leave = 3

-- a recalled camera's request is rejected with the cause of the recall
abbrev pub reject_number : RejectCause → ℕ
reject_number (reject.Recalled cause) = recall_number cause
reject_number reject.ReceiveOnly = 5
reject_number reject.NoRow = 6
reject_number reject.LineFull = 7
