-- What is printed of a book.
use Rattle.std.proofs.Common.{◌≡◌, ℕ, List, ◌++◌, Option, Some, None, sym, ap, subst, ◌∙◌}
use Rattle.rv32_image.specs.Image.{LoadedImage}
use Rattle.rv32_image.proofs.SmallFacts.{one_value}
use Rattle.rv32_exec.specs.declared.sequential.End.{End}
use Rattle.spec_history.specs.FlatState.{FlatState}
use Rattle.spec_history.specs.Laws.{IsPublished}
use Rattle.spec_history.specs.Replay.{replay}
use Rattle.spec_history.proofs.Replay.Replays.{replayed}
use Rattle.violations.specs.View.{StoreView, IsCommitted}
use Rattle.homefree.specs.BookView.{BookView, ReplaysTo}
use Rattle.homefree.specs.Driven.{IsInOrder}
use Rattle.homefree.specs.InStep.{InStep}
use Rattle.homefree.proofs.Books.Drives.{in_order}
use Rattle.trace_commands.specs.declared.outcome.Outcome.{Outcome}
use Rattle.trace_commands.specs.Report.{open_report, report_of}
use Rattle.trace_text.specs.Laws.{AreEntries}
use Rattle.trace_text.specs.Printing.{printed_trace}
use Rattle.run_command.specs.Run.{counts_line}
use Rattle.run_command.proofs.Committing.{committed_is_memory}
use Rattle.run_command.proofs.Printing.{result_is}
use Rattle.replay_command.specs.Shown.{IsReport, IsShown, outcome_at}

module _ {S : Type 0} (view : S → StoreView) (image : LoadedImage) (b : BookView S) (i : InStep view b) (image_is : b.image ≡ image)
    (bytes : List ℕ) (so : IsCommitted (view b.store) bytes) (size : (view b.store).shape.size ≡ image.size) (s : FlatState) (replays : ReplaysTo b s) where
  state_is : i.state ≡ s
  state_is = one_value (replay b.image b.cores b.history) i.state s i.replays replays

  -- the loop is over
  pub of_ended : (end : End) → Some end ≡ s.end → IsReport image s s.end (report_of image (record { end = end; bytes = bytes }))
  of_ended end over =
      let ends = in_order view b end i (ap (λ t. t.end) state_is ∙ sym over) in
      let ordered : IsInOrder image end (view b.store).committed = subst (λ (l : LoadedImage). IsInOrder l end (view b.store).committed) image_is ends in
      subst (λ (e : Option End). IsReport image s e (report_of image (record { end = end; bytes = bytes }))) over
      (ordered.end_is, result_is image end (view b.store) bytes ordered so size)

  committed : (a : ℕ) → (view b.store).committed a ≡ s.committed a
  committed a = i.agrees.committed a ∙ ap (λ t. t.committed a) state_is

  -- it isn't
  pub of_open : (homefree : ℕ) → None ≡ s.end → homefree ≡ s.homefree → IsReport image s s.end (open_report image homefree bytes)
  of_open homefree going is =
      let published : IsPublished image s = subst (λ (l : LoadedImage). IsPublished l s) image_is (replayed b.image b.cores b.history s i.is_image replays).published in
      let same : bytes ≡ published.memory = committed_is_memory (view b.store) image s.committed bytes published.memory so size committed published.holds in
      subst (λ (e : Option End). IsReport image s e (open_report image homefree bytes)) going (published, (λ k. open_report image (is k) (same k)))

-- with the counts and the trace below the report
pub shown : {S : Type 0} (view : S → StoreView) (image : LoadedImage) (cores : ℕ) (b : BookView S) (outcome : Outcome) (report text : List ℕ) → InStep view b
    → b.image ≡ image → b.cores ≡ cores → AreEntries b.history
    → ((s : FlatState) → ReplaysTo b s → outcome ≡ outcome_at s.end s.homefree)
    → ((s : FlatState) → ReplaysTo b s → IsReport image s s.end report)
    → text ≡ report ++ counts_line b.totals ++ printed_trace cores b.history → IsShown image cores b.history outcome text
shown view image cores b outcome report text i image_is cores_are numbers outcome_is reports text_is = record {
  state = i.state;
  replays = (λ k. replay (sym image_is k) (sym cores_are k) b.history) ∙ i.replays;
  numbers = numbers;
  outcome_is = outcome_is i.state i.replays;
  report = report;
  reports = reports i.state i.replays;
  text_is = text_is ∙ ap (λ c. report ++ counts_line c ++ printed_trace cores b.history) i.counted;
}
