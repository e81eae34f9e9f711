-- That the text of what a schedule's turns do is fixed, from that its turns are.
use Rattle.std.proofs.Common.{ℕ, List, None, sym, ◌∙◌}
use Rattle.rv32_image.specs.Image.{LoadedImage}
use Rattle.run_ledger.specs.Counts.{no_counts}
use Rattle.violations.specs.View.{StoreView, Waits}
use Rattle.violations.specs.Calls.{Call}
use Rattle.homefree.specs.Driven.{driver}
use Rattle.turn_steps.specs.Fixed.{StepsAreFixed}
use Rattle.all_schedules.proofs.Fixed.{new_twins}
use Rattle.replay_command.specs.Fixed.{TextIsFixed}

pub text_fixed : {S : Type 0} (starts : LoadedImage → ℕ → S → Type 0) (makes : S → Call → S → Type 0) (alike : S → S → Type 0) (view : S → StoreView) (waits : S → Waits)
    → ((image : LoadedImage) (cores : ℕ) (s t : S) → starts image cores s → starts image cores t → alike s t)
    → (changes : ℕ → S → S → List ℕ) → StepsAreFixed makes alike view waits changes → TextIsFixed starts makes view waits changes
text_fixed starts makes alike view waits same changes law l schedule history history' text text' one two =
    let twins = new_twins starts makes alike view waits same l one.first two.first one.is_new two.is_new in
    let run = law 0 (λ _. None) (driver one.first no_counts) one.last (driver two.first no_counts) two.last schedule one.end two.end text text' twins one.stepped two.stepped in
    (sym two.history_is ∙ (run.twins.books.history ∙ one.history_is), run.text_is)
