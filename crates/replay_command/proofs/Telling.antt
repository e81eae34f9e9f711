-- A schedule whose turns are told was driven.
use Rattle.std.proofs.Common.{◌≡◌, ℕ, suc, false, List, [], ◌∷◌, ◌++◌, length, take, codes, Option, None, Ok, Err, refl, sym, ap, subst}
use Rattle.std.proofs.Math.Seq.{take-length}
use Rattle.rv32_image.specs.Image.{LoadedImage}
use Rattle.rv32_exec.specs.declared.sequential.End.{End}
use Rattle.rv32_exec.specs.Hart.{HartState}
use Rattle.spec_history.specs.declared.entry.Entry.{Entry}
use Rattle.violations.specs.View.{StoreView, Waits}
use Rattle.violations.specs.Calls.{Call}
use Rattle.homefree.specs.declared.answer.Answer.TheVariants.{Go, Again, Left, Over, Stopped}
use Rattle.homefree.specs.declared.book.Loop.{Loop}
use Rattle.homefree.specs.declared.fault.TurnFault.{TurnFault}
use Rattle.homefree.specs.declared.fault.TurnFault.TheVariants.{HistoryFull, NoMemory}
use Rattle.run_ledger.specs.declared.counts.Counts.{Counts}
use Rattle.run_ledger.specs.Counts.{no_counts}
use Rattle.homefree.specs.BookView.{BookView}
use Rattle.homefree.specs.Driven.{Driver, Driven, driver, held_after, with_held}
use Rattle.turn_steps.specs.Stepped.{Stepped}
use Rattle.turn_steps.specs.Writing.{AppendsFirst}
use Rattle.turn_steps.specs.Writing as turns
use Rattle.turn_steps.proofs.Written.{no_more_written}
use Rattle.replay_command.specs.declared.detail.Detail.TheVariants.{Steps}
use Rattle.homefree.specs.Retraced.{IsNew}
use Rattle.all_schedules.specs.Made.{IsFault, Makes}
use Rattle.replay_command.specs.Told.{HasBegun, IsHead}

module _ {S : Type 0} (makes : S → Call → S → Type 0) (view : S → StoreView) (waits : S → Waits) (changes : ℕ → S → S → List ℕ) where
  was_driven : (n : ℕ) (held : ℕ → Option HartState) (old : Driver S) (schedule : List ℕ) (end : Option End) (new : Driver S) (text : List ℕ)
      → Stepped makes view waits changes n held old schedule end new text → Driven makes view waits held old schedule (Ok end) new
  was_driven n held old [] end new text (same, none, nothing) = (same, ap Ok none)
  was_driven n held old (core ∷ rest) end new text (mid, Go hart, first, below, turned, told, is, more) =
      (mid, Ok (Go hart), turned, was_driven (suc n) (with_held held core (held_after (Go hart) (held core))) mid rest end new below more)
  was_driven n held old (core ∷ rest) end new text (mid, Again cause, first, below, turned, told, is, more) =
      (mid, Ok (Again cause), turned, was_driven (suc n) (with_held held core (held_after (Again cause) (held core))) mid rest end new below more)
  was_driven n held old (core ∷ rest) end new text (mid, Left, first, below, turned, told, is, more) =
      (mid, Ok Left, turned, was_driven (suc n) (with_held held core (held_after Left (held core))) mid rest end new below more)
  was_driven n held old (core ∷ rest) end new text (mid, Over over, first, below, turned, told, is, more) = (mid, Ok (Over over), turned, (more.0, sym more.1))
  was_driven n held old (core ∷ rest) end new text (mid, Stopped cause, first, below, turned, told, is, more) = (mid, Ok (Stopped cause), turned, (more.0, sym more.1))

  pub driven_by : (old : Driver S) (schedule : List ℕ) (end : Option End) (new : Driver S) (text : List ℕ)
      → Stepped makes view waits changes 0 (λ _. None) old schedule end new text → Driven makes view waits (λ _. None) old schedule (Ok end) new
  driven_by old schedule end new text = was_driven 0 (λ _. None) old schedule end new text

-- where the turns fail, their history is full, or memory ran out
pub told_fault : {S : Type 0} (starts : LoadedImage → ℕ → S → Type 0) (makes : S → Call → S → Type 0) (view : S → StoreView) (waits : S → Waits) (l : Loop) (schedule : List ℕ) (history : List Entry) (fault : TurnFault)
    → (fault ≡ HistoryFull → Makes starts makes view waits l schedule (Err HistoryFull) history) → IsFault starts makes view waits l schedule fault
told_fault starts makes view waits l schedule history HistoryFull made = (history, made refl)
told_fault starts makes view waits l schedule history NoMemory made = tt

-- where they fail, some of the first turns' text was written
pub has_begun : {S : Type 0} (starts : LoadedImage → ℕ → S → Type 0) (makes : S → Call → S → Type 0) (view : S → StoreView) (waits : S → Waits) (changes : ℕ → S → S → List ℕ) (l : Loop) (schedule : List ℕ) (first : BookView S) (counts : Counts)
    (old new : Option (List ℕ)) → IsNew starts view l first → counts ≡ no_counts → turns.HasBegun makes view waits changes (driver first counts) schedule old new
    → HasBegun (IsHead starts makes view waits changes Steps) l schedule old new
has_begun starts makes view waits changes l schedule first counts old new is_new none begun =
    let n = begun.0 in
    let last = begun.1 in
    let text = begun.2 in (
      n,
      last.book.history,
      text ++ codes "end\n",
      (
        text,
        record {
          first = first;
          last = last;
          end = None;
          is_new = is_new;
          stepped = subst (λ (c : Counts). Stepped makes view waits changes 0 (λ _. None) (driver first c) (take n schedule) None last text) none begun.3;
          history_is = refl;
        },
        refl,
      ),
      no_more_written old old new text (codes "end\n") false refl begun.4,
    )

-- where the text's end finds no memory, some of the first of it was written
pub has_told : {S : Type 0} (starts : LoadedImage → ℕ → S → Type 0) (makes : S → Call → S → Type 0) (view : S → StoreView) (waits : S → Waits) (changes : ℕ → S → S → List ℕ) (l : Loop) (schedule : List ℕ) (first : BookView S) (counts : Counts)
    (end : Option End) (last : Driver S) (text : List ℕ) (old new : Option (List ℕ)) → IsNew starts view l first → counts ≡ no_counts
    → Stepped makes view waits changes 0 (λ _. None) (driver first counts) schedule end last text → AppendsFirst old new text → HasBegun (IsHead starts makes view waits changes Steps) l schedule old new
has_told starts makes view waits changes l schedule first counts end last text old new is_new none stepped written = (
  length schedule,
  last.book.history,
  text ++ codes "end\n",
  subst (λ s. IsHead starts makes view waits changes Steps l s last.book.history (text ++ codes "end\n")) (sym (take-length schedule)) (
    text,
    record {
      first = first;
      last = last;
      end = end;
      is_new = is_new;
      stepped = subst (λ (c : Counts). Stepped makes view waits changes 0 (λ _. None) (driver first c) schedule end last text) none stepped;
      history_is = refl;
    },
    refl,
  ),
  no_more_written old old new text (codes "end\n") false refl written,
)
