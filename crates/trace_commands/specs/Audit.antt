-- What an audit comes to, and what it wrote.
use Rattle.std.specs.Prelude.{◌≡◌, ◌≢◌, ◌<◌, ◌≤◌, ℕ, ◌++◌, List, length, codes, Option, Some, Ok, Err, MatchResult}
use Rattle.std.specs.Fmt.{decimal}
use Rattle.std.specs.Io.KnownBytes.{Appends, Keeps}
use Rattle.rv32_image.specs.Image.{LoadedImage}
use Rattle.rv32_image.specs.ImageText.{image_text}
use Rattle.spec_history.specs.declared.entry.Entry.{Entry}
use Rattle.spec_history.specs.declared.illegal.Illegal.TheVariants as why
use Rattle.spec_history.specs.FlatState.{FlatState}
use Rattle.spec_history.specs.Names.{name_of}
use Rattle.spec_history.specs.Replay.{replay}
use Rattle.spec_history.specs.View.{IsRefusedAt}
use Rattle.trace_text.specs.declared.fault.TraceFault.{TraceFault}
use Rattle.trace_text.specs.declared.fault.TraceFaultKind.{TraceFaultKind}
use Rattle.trace_text.specs.declared.fault.TraceFaultKind.TheVariants as kind
use Rattle.trace_text.specs.TraceText.{image_part, longest_trace_text, trace_text}
use Rattle.trace_commands.specs.declared.outcome.Outcome.{Outcome}
use Rattle.trace_commands.specs.declared.outcome.Outcome.TheVariants.{Audited, BadImage, BadTrace, Stopped}
use Rattle.trace_commands.specs.declared.outcome.CommandStop.TheVariants.{Write, NoMemory}
use Rattle.trace_commands.specs.declared.outcome.Verdict.{Verdict}
use Rattle.trace_commands.specs.declared.outcome.Verdict.TheVariants.{Legal, Illegal}
use Rattle.trace_commands.specs.Outcome.{Conclusion, AppendsPrefix}

abbrev pub verdict_line : Verdict → List ℕ
verdict_line (Legal entries homefree) = codes "legal " ++ decimal entries ++ codes " " ++ decimal homefree ++ codes "\n"
verdict_line (Illegal place refusal) = codes "illegal " ++ decimal place ++ codes " " ++ name_of refusal ++ codes "\n"

-- the verdict on a history: it replays, to this homefree epoch; or this entry is the first that is refused
abbrev pub IsVerdict : LoadedImage → ℕ → List Entry → Verdict → Type 0
IsVerdict image cores history (Legal entries homefree) =
    (s : FlatState) × (replay image cores history ≡ Some s) × (homefree ≡ s.homefree) × (entries ≡ length history)
IsVerdict image cores history (Illegal place refusal) = IsRefusedAt image cores history place refusal × (refusal ≢ why.NoMemory)

-- the verdict on the image and the trace that an input says
abbrev pub IsVerdictOn : List ℕ → Verdict → Type 0
IsVerdictOn text verdict =
    MatchResult (image_text (image_part text))
    (λ image. MatchResult (trace_text image.version text) (λ trace. IsVerdict image trace.cores trace.entries verdict) (λ fault. ⊥))
    (λ fault. ⊥)

-- the image and the trace that an input says
pub record IsTracedBy (text : List ℕ) (image : LoadedImage) (cores : ℕ) (entries : List Entry) : Type 0 where
  pub image_said : image_text (image_part text) ≡ Ok image
  pub trace_said : trace_text image.version text ≡ Ok (record { cores = cores; entries = entries })

-- the trace is refused: the input is too long, a read failed, or the trace beside the image has this fault
abbrev pub IsTraceRefusal : TraceFaultKind → TraceFault → List ℕ → Type 0
IsTraceRefusal kind.TooLong fault text = (fault.line ≡ 0) × (longest_trace_text < length text)
IsTraceRefusal kind.Read fault text = fault.line ≡ 0
IsTraceRefusal kind.NoMemory fault text = ⊥
IsTraceRefusal kind fault text = MatchResult (image_text (image_part text)) (λ image. trace_text image.version text ≡ Err fault) (λ fault. ⊥)

-- there is no verdict, since the image or the trace of the input is refused, or memory ran out
abbrev pub IsNoVerdict : List ℕ → Outcome → Type 0
IsNoVerdict text (BadImage fault) = (image_text (image_part text) ≡ Err fault) × (length text ≤ longest_trace_text)
IsNoVerdict text (BadTrace fault) = IsTraceRefusal fault.kind fault text
IsNoVerdict text (Stopped NoMemory) = Unit {0}
IsNoVerdict text outcome = ⊥

-- what auditing this trace came to is right, and this was written
abbrev pub IsTracedOutcome : LoadedImage → ℕ → List Entry → Option (List ℕ) → Option (List ℕ) → Outcome → Type 0
IsTracedOutcome image cores history old new (Audited verdict) = IsVerdict image cores history verdict × Appends old new (verdict_line verdict)
IsTracedOutcome image cores history old new (Stopped Write) =
    (verdict : Verdict) × IsVerdict image cores history verdict × AppendsPrefix old new (verdict_line verdict)
IsTracedOutcome image cores history old new (Stopped NoMemory) = Keeps old new
IsTracedOutcome image cores history old new outcome = ⊥

-- what `audit` came to is right for this input, and this was written
abbrev pub IsAuditOutcome : List ℕ → Option (List ℕ) → Option (List ℕ) → Outcome → Type 0
IsAuditOutcome text old new (Audited verdict) = IsVerdictOn text verdict × Appends old new (verdict_line verdict)
IsAuditOutcome text old new (Stopped Write) = (verdict : Verdict) × IsVerdictOn text verdict × AppendsPrefix old new (verdict_line verdict)
IsAuditOutcome text old new outcome = IsNoVerdict text outcome × Keeps old new

-- what `audit` answers for an input
abbrev pub AuditAnswers : List ℕ → Option (List ℕ) → Option (List ℕ) → Option (List ℕ) → Option (List ℕ) → ℕ → Type 0
AuditAnswers text old new errors errors' status = Conclusion (IsAuditOutcome text old new) errors errors' status
