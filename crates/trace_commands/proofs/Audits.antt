-- What an audit comes to, from what its parts answer.
use Rattle.std.proofs.Common.{◌≡◌, ℕ, ◌<◌, ◌≤◌, List, length, Option, Some, None, Ok, IfSome, refl, subst}
use Rattle.std.specs.Io.KnownBytes.{Keeps}
use Rattle.rv32_image.specs.declared.input.InputFault.{InputFault}
use Rattle.rv32_image.specs.declared.input.InputFault.TheVariants as input
use Rattle.rv32_image.specs.Image.{LoadedImage}
use Rattle.rv32_image.specs.ImageText.{image_text}
use Rattle.rv32_image.specs.Reading.{ForText}
use Rattle.rv32_image.proofs.Inputs.{long_text}
use Rattle.trace_text.specs.declared.fault.TraceFaultKind.{TraceFaultKind}
use Rattle.trace_text.specs.declared.fault.TraceFaultKind.TheVariants as trace
use Rattle.trace_text.specs.TraceText.{image_part, longest_trace_text, trace_text}
use Rattle.trace_text.specs.Reading.{IsFaultOf, input_fault}
use Rattle.trace_text.proofs.FaultKinds.{never_too_long}
use Rattle.spec_history.specs.declared.entry.Entry.{Entry}
use Rattle.trace_commands.specs.declared.outcome.Outcome.{Outcome}
use Rattle.trace_commands.specs.declared.outcome.Outcome.TheVariants.{Audited, BadImage, BadTrace, Stopped}
use Rattle.trace_commands.specs.declared.outcome.CommandStop.TheVariants.{Write, NoMemory}
use Rattle.trace_commands.specs.declared.outcome.Verdict.{Verdict}
use Rattle.trace_commands.specs.Outcome.{outcome_of_trace_fault}
use Rattle.trace_commands.specs.Audit.{IsAuditOutcome, IsNoVerdict, IsTracedBy, IsTracedOutcome, IsVerdict, IsVerdictOn}

-- the trace beside an image is refused
pub refused_trace : (line : ℕ) (kind : TraceFaultKind) (text : List ℕ) (image : LoadedImage) → length text ≤ longest_trace_text
    → image_text (image_part text) ≡ Ok image → IsFaultOf kind (record { line = line; kind = kind }) (trace_text image.version text)
    → IsNoVerdict text (outcome_of_trace_fault kind (record { line = line; kind = kind }))
refused_trace line trace.Head text image short is said = rw is said
refused_trace line trace.Line text image short is said = rw is said
refused_trace line trace.TooLong text image short is said = absurd (never_too_long image.version text _ short said refl)
refused_trace line trace.Read text image short is said = absurd said
refused_trace line trace.NoMemory text image short is said = tt

-- what holds of the text that was read holds of the input
pub for_input : (P : List ℕ → Type 0) (known : Option (List ℕ)) (text : List ℕ) → IfSome known (λ whole. text ≡ whole) → P text → ForText known P
for_input P None text whole p = (text, p)
for_input P (Some input) text whole p = subst P whole p

-- what follows for each text follows for the input
pub for_each : (P Q : List ℕ → Type 0) (known : Option (List ℕ)) → ((text : List ℕ) → P text → Q text) → ForText known P → ForText known Q
for_each P Q None f p = (p.0, f p.0 p.1)
for_each P Q (Some text) f p = f text p

pub keeps_itself : (known : Option (List ℕ)) → Keeps known known
keeps_itself None = tt
keeps_itself (Some bytes) = refl

-- ---- an input that could not be read whole

refused : (fault : InputFault) (text : List ℕ) → (fault ≡ input.TooLong → longest_trace_text < length text)
    → IsNoVerdict text (outcome_of_trace_fault (input_fault fault).kind (input_fault fault))
refused input.TooLong text long = (refl, long refl)
refused input.Read text long = refl
refused input.NoMemory text long = tt

pub refused_input : (known : Option (List ℕ)) (fault : InputFault) → (fault ≡ input.TooLong → IfSome known (λ whole. longest_trace_text < length whole))
    → ForText known (λ text. IsNoVerdict text (outcome_of_trace_fault (input_fault fault).kind (input_fault fault)))
refused_input None fault long = let text = long_text longest_trace_text in (text.0, refused fault text.0 (λ _. text.1))
refused_input (Some text) fault long = refused fault text long

-- ---- what an audit comes to

-- there is no verdict
pub without_verdict : (text : List ℕ) (output : Option (List ℕ)) (outcome : Outcome) → IsNoVerdict text outcome → IsAuditOutcome text output output outcome
without_verdict text output (BadImage fault) is = (is, keeps_itself output)
without_verdict text output (BadTrace fault) is = (is, keeps_itself output)
without_verdict text output (Stopped NoMemory) is = (is, keeps_itself output)
without_verdict text output outcome is = absurd is

-- the verdict on the trace that was read is that on the input
pub verdict_on : (text : List ℕ) (image : LoadedImage) (cores : ℕ) (history : List Entry) (verdict : Verdict)
    → IsTracedBy text image cores history → IsVerdict image cores history verdict → IsVerdictOn text verdict
verdict_on text image cores history verdict by is = rw (by.image_said, by.trace_said) is

pub traced_outcome : (text : List ℕ) (image : LoadedImage) (cores : ℕ) (history : List Entry) (old new : Option (List ℕ)) (outcome : Outcome)
    → IsTracedBy text image cores history → IsTracedOutcome image cores history old new outcome → IsAuditOutcome text old new outcome
traced_outcome text image cores history old new (Audited verdict) by is = (verdict_on text image cores history verdict by is.0, is.1)
traced_outcome text image cores history old new (Stopped Write) by is = (is.0, verdict_on text image cores history is.0 by is.1, is.2)
traced_outcome text image cores history old new (Stopped NoMemory) by is = (tt, is)
traced_outcome text image cores history old new outcome by is = absurd is
