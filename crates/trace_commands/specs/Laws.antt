-- What the law of audits says.
use Rattle.std.specs.Prelude.{◌≡◌, ℕ, ◌≤◌, true, List, ◌++◌, length, codes, Option, Some, Ok}
use Rattle.rv32_image.specs.Image.{LoadedImage}
use Rattle.rv32_image.specs.ImageText.{image_text}
use Rattle.spec_history.specs.declared.entry.Entry.{Entry}
use Rattle.spec_history.specs.FlatState.{FlatState}
use Rattle.spec_history.specs.Replay.{replay}
use Rattle.trace_text.specs.declared.fault.TraceFaultKind.TheVariants as kind
use Rattle.trace_text.specs.Laws.{AreEntries, IsRead}
use Rattle.trace_text.specs.Printing.{printed_trace}
use Rattle.trace_text.specs.TraceText.{is_core_count, longest_trace_text}
use Rattle.trace_commands.specs.declared.outcome.Outcome.{Outcome}
use Rattle.trace_commands.specs.declared.outcome.Outcome.TheVariants.{Audited, BadTrace, Stopped}
use Rattle.trace_commands.specs.declared.outcome.CommandStop.TheVariants.{Write, NoMemory}
use Rattle.trace_commands.specs.declared.outcome.Verdict.TheVariants.{Legal}
use Rattle.trace_commands.specs.Audit.{IsAuditOutcome}

-- so many entries are found legal, up to this homefree epoch, unless a read or a write failed or memory ran out
abbrev pub FindsLegal : ℕ → ℕ → Outcome → Type 0
FindsLegal entries homefree (Audited verdict) = verdict ≡ Legal entries homefree
FindsLegal entries homefree (BadTrace fault) = fault.kind ≡ kind.Read
FindsLegal entries homefree (Stopped Write) = Unit {0}
FindsLegal entries homefree (Stopped NoMemory) = Unit {0}
FindsLegal entries homefree outcome = ⊥

-- the text is read as this image and these entries, and what its audit comes to finds them legal
pub record IsFoundLegal (text lines : List ℕ) (image : LoadedImage) (cores : ℕ) (entries : List Entry) (homefree : ℕ) : Type 0 where
  pub reads : IsRead text lines image.version cores entries
  pub finds : (old new : Option (List ℕ)) (outcome : Outcome) → IsAuditOutcome text old new outcome → FindsLegal (length entries) homefree outcome

-- a history that replays, printed below the text of its image, which ends in a line feed, is found legal
abbrev pub PrintedIsLegal : Type 0
PrintedIsLegal =
    (lines : List ℕ) (image : LoadedImage) (cores : ℕ) (entries : List Entry) (s : FlatState)
    → image_text (lines ++ codes "\n") ≡ Ok image → is_core_count image.version cores ≡ true → AreEntries entries → replay image cores entries ≡ Some s
    → length (lines ++ codes "\n" ++ printed_trace cores entries) ≤ longest_trace_text
    → IsFoundLegal (lines ++ codes "\n" ++ printed_trace cores entries) (lines ++ codes "\n") image cores entries s.homefree
