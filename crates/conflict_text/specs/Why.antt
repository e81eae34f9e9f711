-- What `why` comes to, and what it wrote.
use Rattle.std.specs.Prelude.{◌≡◌, ◌⊎◌, ℕ, Bool, List, [], ◌++◌, Option, None, Some, length, map, All}
use Rattle.std.specs.Io.KnownBytes.{Appends, Keeps}
use Rattle.rv32_image.specs.Image.{LoadedImage}
use Rattle.rv32_image.specs.Machine.{IsMachineFor}
use Rattle.spec_history.specs.declared.entry.Entry.{Entry}
use Rattle.spec_history.specs.FlatState.{FlatState}
use Rattle.trace_commands.specs.declared.outcome.Outcome.{Outcome}
use Rattle.trace_commands.specs.declared.outcome.Outcome.TheVariants.{Audited, Stopped, Usage}
use Rattle.trace_commands.specs.declared.outcome.CommandStop.TheVariants.{Write, NoMemory}
use Rattle.trace_commands.specs.declared.outcome.Verdict.{Verdict}
use Rattle.trace_commands.specs.declared.outcome.Verdict.TheVariants.{Legal, Illegal}
use Rattle.trace_commands.specs.Audit.{IsNoVerdict, IsTracedBy, IsVerdict, verdict_line}
use Rattle.trace_commands.specs.Outcome.{AppendsPrefix, Conclusion}
use Rattle.trace_commands.specs.Stores.{machine_with, on_machine}
use Rattle.conflicts.specs.declared.explanation.Explanation.{Explanation}
use Rattle.conflicts.specs.declared.standing.Site.{Site}
use Rattle.conflicts.specs.Explained.{IsExplained, places_of, violations_before}
use Rattle.conflict_findings.specs.declared.ended.Ended.{Ended}
use Rattle.conflict_findings.specs.declared.ended.Running.{Running}
use Rattle.conflict_findings.specs.Ends.{ended_before, running_after}
use Rattle.conflict_findings.specs.Findings.{finding_of, further_in}
use Rattle.conflict_findings.specs.declared.sums.Sums.{Sums}
use Rattle.conflict_findings.specs.AllSums.{AreAllSums}
use Rattle.conflict_findings.specs.Rollbacks.{rollback_at}
use Rattle.conflict_text.specs.declared.command.WhyAsked.{WhyAsked}
use Rattle.conflict_text.specs.AllAttempts.{AreWanted}
use Rattle.conflict_text.specs.Ends.{attempt_lines}
use Rattle.conflict_text.specs.Lines.{told_lines, violation_lines}
use Rattle.conflict_text.specs.declared.report.Totals.{Totals}
use Rattle.conflict_text.specs.Totals.{AreTotals}
use Rattle.conflict_text.specs.Explaining.{IsReport, found_of}

-- these explain the violations before a place of the history, one each, in order, and each is right
pub record AreExplained (image : LoadedImage) (cores : ℕ) (history : List Entry) (place : ℕ) (found : List Explanation) : Type 0 where
  pub each_once : places_of found ≡ violations_before history place
  pub explained : All (IsExplained image cores history) found

-- of one right explanation for each of those violations, with these sites, these are the lines and the sums
pub record AreFound (image : LoadedImage) (cores : ℕ) (history : List Entry) (sites : List (Option Site)) (place : ℕ) (lines : List ℕ) (sums : Sums) : Type 0 where
  pub found : List Explanation
  pub are : AreExplained image cores history place found
  pub told : lines ≡ told_lines (map (found_of image cores history sites) found)
  pub summed : AreAllSums (map (rollback_at image history sites) found) sums

-- the lines of an explanation, in the state before the violation, if there is one
abbrev pub lines_of : LoadedImage → FlatState → List Entry → List (Option Site) → Option Explanation → List ℕ
lines_of image s history sites None = []
lines_of image s history sites (Some e) = violation_lines (finding_of image history sites e) (further_in image history sites e (Some s))

-- the lines that are wanted of all attempts stand at the end of a text
pub record AreToldBelow (wanted : Bool) (history : List Entry) (ended : List Ended) (running : List Running) (old new : List ℕ) : Type 0 where
  pub told : List ℕ
  pub are : AreWanted wanted history ended running told
  pub printed : new ≡ old ++ told

-- the lines of the violations of the history, those of its attempts, and the sums over its violations
pub record AreCounted (wanted : Bool) (image : LoadedImage) (cores : ℕ) (history : List Entry) (sites : List (Option Site)) (homefree : ℕ) (lines attempts : List ℕ) (sums : Totals) : Type 0 where
  pub found : List Explanation
  pub are : AreExplained image cores history (length history) found
  pub told : lines ≡ told_lines (map (found_of image cores history sites) found)
  pub counted : AreTotals image homefree (map (rollback_at image history sites) found) (ended_before image cores history (length history)) (running_after image cores history) sums
  pub all : List ℕ
  pub all_are : AreWanted wanted history (ended_before image cores history (length history)) (running_after image cores history) all
  pub printed : attempts ≡ attempt_lines (ended_before image cores history (length history)) (running_after image cores history) ++ all

-- what is written of a history by the verdict of its audit: the report, or the line of the entry that is refused
abbrev pub IsTold : Bool → LoadedImage → ℕ → List Entry → Verdict → List ℕ → Type 0
IsTold wanted image cores history (Legal entries homefree) told = IsReport wanted image cores history homefree told
IsTold wanted image cores history (Illegal place refusal) told = told ≡ verdict_line (Illegal place refusal)

-- the verdict is that of the audit, and this is to be written
pub record IsAnswer (wanted : Bool) (image : LoadedImage) (cores : ℕ) (history : List Entry) (verdict : Verdict) (told : List ℕ) : Type 0 where
  pub audited : IsVerdict image cores history verdict
  pub told_is : IsTold wanted image cores history verdict told

-- the writing of what is told came to this: all of it was written, or some of the first of it
abbrev pub IsToldBy : Verdict → List ℕ → Option (List ℕ) → Option (List ℕ) → Outcome → Type 0
IsToldBy verdict told old new (Audited given) = (given ≡ verdict) × Appends old new told
IsToldBy verdict told old new (Stopped Write) = AppendsPrefix old new told
IsToldBy verdict told old new outcome = ⊥

-- what explaining this trace came to is right, and this was written
abbrev pub IsTracedOutcome : Bool → LoadedImage → ℕ → List Entry → Option (List ℕ) → Option (List ℕ) → Outcome → Type 0
IsTracedOutcome wanted image cores history old new (Audited verdict) =
    (told : List ℕ) × IsAnswer wanted image cores history verdict told × Appends old new told
IsTracedOutcome wanted image cores history old new (Stopped Write) =
    (verdict : Verdict) × (told : List ℕ) × IsAnswer wanted image cores history verdict told × AppendsPrefix old new told
IsTracedOutcome wanted image cores history old new (Stopped NoMemory) = Keeps old new
IsTracedOutcome wanted image cores history old new outcome = ⊥

-- so it is on the machine that is asked for; or there is no such machine, or memory isn't a whole number of its lines
abbrev pub IsOutcomeOn : WhyAsked → LoadedImage → ℕ → List Entry → Option (List ℕ) → Option (List ℕ) → Outcome → Type 0
IsOutcomeOn asked image cores history old new outcome =
    (IsMachineFor image.size (machine_with asked.machine image.machine) × IsTracedOutcome asked.attempts (on_machine asked.machine image) cores history old new outcome)
    ⊎ ((IsMachineFor image.size (machine_with asked.machine image.machine) → ⊥) × (outcome ≡ Usage) × Keeps old new)

-- the input says an image and a trace, and what explaining the trace came to is right
pub record IsExplainedOutcome (asked : WhyAsked) (text : List ℕ) (old new : Option (List ℕ)) (outcome : Outcome) : Type 0 where
  pub image : LoadedImage
  pub cores : ℕ
  pub history : List Entry
  pub said : IsTracedBy text image cores history
  pub came : IsOutcomeOn asked image cores history old new outcome

-- what `why` came to is right for this input, and this was written: that of its trace, or, where an audit has no verdict, nothing
abbrev pub IsWhyOutcome : WhyAsked → List ℕ → Option (List ℕ) → Option (List ℕ) → Outcome → Type 0
IsWhyOutcome asked text old new outcome = IsExplainedOutcome asked text old new outcome ⊎ (IsNoVerdict text outcome × Keeps old new)

-- what `why` answers for an input
abbrev pub WhyAnswers : WhyAsked → List ℕ → Option (List ℕ) → Option (List ℕ) → Option (List ℕ) → Option (List ℕ) → ℕ → Type 0
WhyAnswers asked text old new errors errors' status = Conclusion (IsWhyOutcome asked text old new) errors errors' status
