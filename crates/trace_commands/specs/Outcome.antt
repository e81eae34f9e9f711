-- What a command comes to: its status, its line on the error stream, and what it wrote.
use Rattle.std.specs.Prelude.{◌≡◌, ℕ, ◌++◌, List, [], codes, take, Option, Result, MatchResult}
use Rattle.std.specs.Fmt.{decimal}
use Rattle.std.specs.Io.KnownBytes.{Appends, Keeps}
use Rattle.rv32_image.specs.declared.fault.ImageFault.{ImageFault}
use Rattle.rv32_image.specs.declared.fault.ImageFaultKind.{ImageFaultKind}
use Rattle.rv32_image.specs.declared.fault.ImageFaultKind.TheVariants as kind
use Rattle.rv32_exec.specs.declared.sequential.End.{End}
use Rattle.rv32_exec.specs.declared.sequential.End.TheVariants as end
use Rattle.rv32_image.specs.Image.{LoadedImage}
use Rattle.rv32_image.specs.ImageText.{image_text}
use Rattle.rv32_image.specs.Reading.{name_of, IsReadFaultOf}
use Rattle.rv32_exec.specs.Sequential.{sequential_result}
use Rattle.trace_text.specs.declared.fault.TraceFault.{TraceFault}
use Rattle.trace_text.specs.declared.fault.TraceFaultKind.{TraceFaultKind}
use Rattle.trace_text.specs.declared.fault.TraceFaultKind.TheVariants as trace
use Rattle.trace_text.specs.Reading.{name_of as trace_name_of}
use Rattle.trace_commands.specs.declared.outcome.Outcome.{Outcome}
use Rattle.trace_commands.specs.declared.outcome.Outcome.TheVariants.{Reported, Audited, Usage, BadImage, BadTrace, Open, BadTurns, Differs, Stopped}
use Rattle.trace_commands.specs.declared.outcome.Verdict.{Verdict}
use Rattle.trace_commands.specs.declared.outcome.Verdict.TheVariants.{Legal, Illegal}
use Rattle.trace_commands.specs.declared.outcome.CommandStop.{CommandStop}
use Rattle.trace_commands.specs.declared.outcome.CommandStop.TheVariants.{Write, NoMemory, HistoryFull, NoThread, Spent, Shut}
use Rattle.trace_commands.specs.Report.{report_of}

abbrev pub cause_name : CommandStop → List ℕ
cause_name Write = codes "Write"
cause_name NoMemory = codes "NoMemory"
cause_name HistoryFull = codes "HistoryFull"
cause_name NoThread = codes "NoThread"
cause_name Spent = codes "Spent"
cause_name Shut = codes "Shut"

abbrev pub status_of_end : End → ℕ
status_of_end (end.Done epochs) = 0
status_of_end (end.Exit epoch) = 0
status_of_end (end.Fault epoch cause pc) = 1

abbrev pub status_of_verdict : Verdict → ℕ
status_of_verdict (Legal entries homefree) = 0
status_of_verdict (Illegal place refusal) = 4

abbrev pub status_of : Outcome → ℕ
status_of (Reported end) = status_of_end end
status_of (Audited verdict) = status_of_verdict verdict
status_of Usage = 2
status_of (BadImage fault) = 2
status_of (BadTrace fault) = 2
status_of (Open homefree) = 0
status_of (BadTurns fault) = 2
status_of (Differs place) = 4
status_of (Stopped cause) = 3

abbrev pub image_line : ImageFault → List ℕ
image_line fault = codes "image " ++ decimal fault.line ++ codes " " ++ name_of fault.kind ++ codes "\n"

abbrev pub trace_line : TraceFault → List ℕ
trace_line fault = codes "trace " ++ decimal fault.line ++ codes " " ++ trace_name_of fault.kind ++ codes "\n"

abbrev pub turns_line : TraceFault → List ℕ
turns_line fault = codes "turns " ++ decimal fault.line ++ codes " " ++ trace_name_of fault.kind ++ codes "\n"

abbrev pub differs_line : ℕ → List ℕ
differs_line place = codes "differs " ++ decimal place ++ codes "\n"

abbrev pub stopped_line : CommandStop → List ℕ
stopped_line cause = codes "stopped " ++ cause_name cause ++ codes "\n"

-- the line on the error stream, or nothing
abbrev pub error_line : Outcome → List ℕ
error_line (Reported end) = []
error_line (Audited verdict) = []
error_line Usage = codes "usage\n"
error_line (BadImage fault) = image_line fault
error_line (BadTrace fault) = trace_line fault
error_line (Open homefree) = []
error_line (BadTurns fault) = turns_line fault
error_line (Differs place) = differs_line place
error_line (Stopped cause) = stopped_line cause

-- known bytes grow by some of the first of these
abbrev pub AppendsPrefix : Option (List ℕ) → Option (List ℕ) → List ℕ → Type 0
AppendsPrefix old new bytes = (n : ℕ) × Appends old new (take n bytes)

-- the text has this fault, or its reading has; want of memory is no fault of a text
abbrev pub IsRefusal : {A : Type 0} → ImageFaultKind → ImageFault → Result A ImageFault → Type 0
IsRefusal kind.NoMemory fault read = ⊥
IsRefusal kind fault read = IsReadFaultOf kind fault read

-- what `seq` came to is right for this input, and this was written
abbrev pub IsSeqOutcome : List ℕ → Option (List ℕ) → Option (List ℕ) → Outcome → Type 0
IsSeqOutcome text old new (Reported end) =
    MatchResult (image_text text)
    (λ image. (end ≡ (sequential_result image).end) × Appends old new (report_of image (sequential_result image)))
    (λ fault. ⊥)
IsSeqOutcome text old new (Audited verdict) = ⊥
IsSeqOutcome text old new Usage = ⊥
IsSeqOutcome text old new (BadImage fault) = IsRefusal fault.kind fault (image_text text) × Keeps old new
IsSeqOutcome text old new (BadTrace fault) = ⊥
IsSeqOutcome text old new (Open homefree) = ⊥
IsSeqOutcome text old new (BadTurns fault) = ⊥
IsSeqOutcome text old new (Differs place) = ⊥
IsSeqOutcome text old new (Stopped NoMemory) = Keeps old new
IsSeqOutcome text old new (Stopped Write) =
    MatchResult (image_text text) (λ image. AppendsPrefix old new (report_of image (sequential_result image))) (λ fault. ⊥)
IsSeqOutcome text old new (Stopped other) = ⊥

-- what a fault of the image comes to
abbrev pub outcome_of_fault : ImageFaultKind → ImageFault → Outcome
outcome_of_fault kind.NoMemory fault = Stopped NoMemory
outcome_of_fault other fault = BadImage fault

-- what a fault of the trace comes to
abbrev pub outcome_of_trace_fault : TraceFaultKind → TraceFault → Outcome
outcome_of_trace_fault trace.NoMemory fault = Stopped NoMemory
outcome_of_trace_fault other fault = BadTrace fault

-- what a fault of the lines of turns comes to
abbrev pub outcome_of_turns_fault : TraceFaultKind → TraceFault → Outcome
outcome_of_turns_fault trace.NoMemory fault = Stopped NoMemory
outcome_of_turns_fault other fault = BadTurns fault

-- what running this image came to is right, and this was written
abbrev pub IsImageOutcome : LoadedImage → Option (List ℕ) → Option (List ℕ) → Outcome → Type 0
IsImageOutcome image old new (Reported end) =
    (end ≡ (sequential_result image).end) × Appends old new (report_of image (sequential_result image))
IsImageOutcome image old new (Stopped Write) = AppendsPrefix old new (report_of image (sequential_result image))
IsImageOutcome image old new (Stopped NoMemory) = Keeps old new
IsImageOutcome image old new other = ⊥

-- how a command concludes, whose right outcomes are these
pub record Conclusion (Is : Outcome → Type 0) (errors errors' : Option (List ℕ)) (answer : ℕ) : Type 0 where
  -- what the command came to
  pub outcome : Outcome
  -- that is right, and it wrote what belongs to it
  pub output : Is outcome
  -- the answer is its status
  pub status : answer ≡ status_of outcome
  -- the error stream has grown by its line, or by the first bytes of it
  pub line : AppendsPrefix errors errors' (error_line outcome)

-- what `seq` answers for an input
abbrev pub SeqAnswers : List ℕ → Option (List ℕ) → Option (List ℕ) → Option (List ℕ) → Option (List ℕ) → ℕ → Type 0
SeqAnswers text old new errors errors' status = Conclusion (IsSeqOutcome text old new) errors errors' status

-- the words of a command line can't be told: one is no UTF-8, or memory ran out
abbrev pub IsNoWords : Outcome → Type 0
IsNoWords Usage = Unit {0}
IsNoWords (Stopped NoMemory) = Unit {0}
IsNoWords outcome = ⊥
