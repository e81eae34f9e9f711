-- What is printed of a run whose loop is over.
use Rattle.std.proofs.Common.{◌≡◌, ℕ, ◌≤◌, List, ◌++◌, length, Bool, true, Some, Result, Ok, Err, IfOk, OnOk, refl, sym, ap, subst, ◌∙◌, append_assoc}
use Rattle.rv32_image.specs.Image.{LoadedImage}
use Rattle.rv32_exec.specs.declared.sequential.End.{End}
use Rattle.rv32_exec.specs.Sequential.{sequential_result}
use Rattle.run_ledger.specs.declared.counts.Counts.{Counts}
use Rattle.spec_history.specs.Replay.{replay}
use Rattle.violations.specs.View.{StoreView, IsCommitted}
use Rattle.homefree.specs.BookView.{BookView}
use Rattle.homefree.specs.Counted.{counted_in}
use Rattle.homefree.specs.Driven.{IsInOrder}
use Rattle.homefree.specs.Missed.{IsOfCaches}
use Rattle.homefree.specs.declared.book.Loop.{Loop}
use Rattle.homefree.specs.LockView.{loop_of}
use Rattle.core_threads.specs.Sentence.{Explains, Finishes}
use Rattle.trace_commands.specs.declared.store.MachineAsked.{MachineAsked}
use Rattle.trace_commands.specs.Report.{report_of}
use Rattle.trace_commands.specs.Stores.{machine_with, on_machine}
use Rattle.trace_text.specs.Laws.{AreEntries}
use Rattle.trace_text.specs.Printing.{printed_trace}
use Rattle.run_command.specs.declared.options.RunOptions.{RunOptions}
use Rattle.run_command.specs.Run.{IsBelow, IsMade, IsPrinted, IsWholeHistory, counts_line, loop_asked}
use Rattle.run_command.proofs.AnyMachine.{sequential_same}
use Rattle.run_command.proofs.Committing.{committed_is_memory}

-- a value of which two things hold
pub both_ok : {A E : Type 0} (r : Result A E) (P : A → Type 0) (Q : Type 0) → IfOk r P → OnOk r Q → IfOk r (λ x. P x × Q)
both_ok (Ok x) P Q so is = (so, is)
both_ok (Err e) P Q so is = tt

-- the end and the copy of committed memory are the sequential loop's
pub result_is : (image : LoadedImage) (end : End) (v : StoreView) (bytes : List ℕ) → IsInOrder image end v.committed → IsCommitted v bytes → v.shape.size ≡ image.size
    → report_of image (record { end = end; bytes = bytes }) ≡ report_of image (sequential_result image)
result_is image end v bytes in_order so size =
    let same : bytes ≡ (sequential_result image).bytes = committed_is_memory v image v.committed bytes (sequential_result image).bytes so size (λ a. refl) in_order.holds in
    (λ i. report_of image (record { end = in_order.end_is i; bytes = same i }))

-- on a machine that is asked for the report is that of the image
pub report_same : (image : LoadedImage) (asked : MachineAsked) → report_of (on_machine asked image) (sequential_result (on_machine asked image)) ≡ report_of image (sequential_result image)
unfolding report_of
report_same image asked = ap (report_of image) (sequential_same image (machine_with asked image.machine))

-- what is printed on that machine is printed of the image
pub printed_on : (OfCaches : Type 0) (asked : MachineAsked) (image : LoadedImage) (l : Loop) (trace : Bool) (text : List ℕ)
    → IsPrinted OfCaches (on_machine asked image) l trace text → IsPrinted OfCaches image l trace text
printed_on OfCaches asked image l trace text is = (is.0, is.1, is.2 ∙ ap (λ report. report ++ is.0) (report_same image asked))

-- what is beside the sentence holds of the book's history
pub made : {S : Type 0} (view : S → StoreView) (b : BookView S) (l : Loop) → loop_of b ≡ l → Explains view b → IsMade (IsOfCaches view) l b.history
made view b l is so =
    let of_book : IsMade (IsOfCaches view) (loop_of b) b.history = record { caused = so.caused; known = so.known; starts = so.starts; passes = so.passes } in
    subst (λ (it : Loop). IsMade (IsOfCaches view) it b.history) is of_book

-- and so it is within the room
pub within_room : {S : Type 0} (view : S → StoreView) (b : BookView S) (l : Loop) → loop_of b ≡ l → Explains view b → length b.history ≤ l.room
within_room view b l is so = subst (λ (it : Loop). length b.history ≤ it.room) is so.within

module _ {S : Type 0} (view : S → StoreView) (image : LoadedImage) (options : RunOptions) (b : BookView S) (end : End) (totals counted : Counts)
    (run : Finishes view (loop_asked image options) b end totals counted) (so : Explains view b) where
  pub image_is : b.image ≡ image
  image_is = ap (λ l. l.image) run.loop

  cores_are : b.cores ≡ options.cores
  cores_are = ap (λ l. l.cores) run.loop

  whole : AreEntries b.history → IsWholeHistory (loop_asked image options) b.history
  whole numbers = record {
    within = within_room view b (loop_asked image options) run.loop so;
    numbers = numbers;
    state = run.state;
    replays = (λ i. replay (sym image_is i) (sym cores_are i) b.history) ∙ run.stands.replays;
    over = run.over ∙ ap (λ e. Some e) run.in_order.end_is;
  }

  pub counted_is : counted ≡ counted_in b.history
  counted_is = run.counted_are ∙ run.stands.totals

  -- with a trace
  pub printed_traced : (report text : List ℕ) → AreEntries b.history → options.trace ≡ true → report ≡ report_of image (sequential_result image)
      → text ≡ (report ++ counts_line counted) ++ printed_trace options.cores b.history → IsPrinted (IsOfCaches view) image (loop_asked image options) options.trace text
  printed_traced report text numbers on first is =
      let l : Loop = loop_asked image options in
      let below : List ℕ = counts_line counted ++ printed_trace options.cores b.history in (
        below,
        subst (λ (t : Bool). IsBelow (IsOfCaches view) t l below) (sym on)
            (b.history, whole numbers, made view b l run.loop so, ap (λ c. counts_line c ++ printed_trace options.cores b.history) counted_is),
        is ∙ (append_assoc report (counts_line counted) (printed_trace options.cores b.history) ∙ ap (λ r. r ++ below) first),
      )
