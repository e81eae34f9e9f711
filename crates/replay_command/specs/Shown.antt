-- What is printed of a history.
-- Source: this project.
use Rattle.std.specs.Prelude.{◌≡◌, ℕ, ◌++◌, List, Option, Some, None}
use Rattle.rv32_image.specs.Image.{LoadedImage}
use Rattle.rv32_exec.specs.declared.sequential.End.{End}
use Rattle.rv32_exec.specs.Sequential.{sequential_result}
use Rattle.spec_history.specs.declared.entry.Entry.{Entry}
use Rattle.spec_history.specs.FlatState.{FlatState}
use Rattle.spec_history.specs.Laws.{IsPublished}
use Rattle.spec_history.specs.Replay.{replay}
use Rattle.homefree.specs.Counted.{counted_in}
use Rattle.trace_text.specs.Laws.{AreEntries}
use Rattle.trace_text.specs.Printing.{printed_trace}
use Rattle.trace_commands.specs.declared.outcome.Outcome.{Outcome}
use Rattle.trace_commands.specs.declared.outcome.Outcome.TheVariants.{Reported, Open}
use Rattle.trace_commands.specs.Report.{open_report, report_of}
use Rattle.run_command.specs.Run.{counts_line}

-- the loop's end, or the homefree epoch where it isn't over
abbrev pub outcome_at : Option End → ℕ → Outcome
outcome_at (Some end) homefree = Reported end
outcome_at None homefree = Open homefree

-- where the loop is over, the report of the sequential loop; else the homefree epoch, and memory as the epochs before it and the
-- instructions that it has published leave it when they run in order
abbrev pub IsReport : LoadedImage → FlatState → Option End → List ℕ → Type 0
IsReport image s (Some end) report = (end ≡ (sequential_result image).end) × (report ≡ report_of image (sequential_result image))
IsReport image s None report = (so : IsPublished image s) × (report ≡ open_report image s.homefree so.memory)

-- the history replays on the one-thread machine to a state, and its numbers are of 32 bits; the text is the report of that state,
-- the counts of the history and its trace
pub record IsShown (image : LoadedImage) (cores : ℕ) (history : List Entry) (outcome : Outcome) (text : List ℕ) : Type 0 where
  pub state : FlatState
  pub replays : replay image cores history ≡ Some state
  pub numbers : AreEntries history
  pub outcome_is : outcome ≡ outcome_at state.end state.homefree
  pub report : List ℕ
  pub reports : IsReport image state state.end report
  pub text_is : text ≡ report ++ counts_line (counted_in history) ++ printed_trace cores history
