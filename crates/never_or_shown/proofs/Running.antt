-- Turns of a core, one after another, for as long as it goes on with its epoch.
use Rattle.std.proofs.Common.{◌≡◌, ◌+◌, ℕ, refl, sym, ap, subst, ◌∙◌}
use Rattle.rv32_image.specs.Image.{LoadedImage}
use Rattle.rv32_exec.specs.Hart.{HartState}
use Rattle.spec_history.specs.FlatState.{FlatState}
use Rattle.violations.specs.Plain.{PlainView}
use Rattle.homefree.specs.declared.answer.Answer.{Answer}
use Rattle.homefree.specs.declared.answer.Answer.TheVariants.{Go, Again, Left, Over, Stopped}
use Rattle.homefree.specs.BookView.{BookView, ReplaysTo}
use Rattle.never_or_shown.specs.declared.drive.Drive.{Drive}
use Rattle.never_or_shown.specs.Drives.{IsAfter, IsTurn}
use Rattle.never_or_shown.specs.Quiet.{AreOthers, ComesTo, GoesOn, HasReadAll, IsQuiet, PassesOver, RunsEpoch}
use Rattle.never_or_shown.proofs.Books.{goes_on}

-- the history leads to a state in which the core has gone on with its epoch, from this one
pub record HasGoneOn (b : BookView PlainView) (s : FlatState) (core epoch : ℕ) : Type 0 where
  pub state : FlatState
  pub replays : ReplaysTo b state
  pub on : GoesOn s state core epoch

pub at_first : (b : BookView PlainView) (s : FlatState) (core epoch : ℕ) → ReplaysTo b s → IsQuiet s → RunsEpoch s core epoch → HasGoneOn b s core epoch
at_first b s core epoch replays quiet runs = record { state = s; replays = replays; on = record { quiet = quiet; homefree = refl; next = refl; runs = runs; others = λ k other. refl } }

module _ (image : LoadedImage) (s t u : FlatState) (core epoch : ℕ) (was : GoesOn s t core epoch) where
  others_too : AreOthers t u core → AreOthers s u core
  others_too others k other = others k other ∙ was.others k other

  passes_too : PassesOver image t core epoch → PassesOver image s core epoch
  passes_too passes k c a other at stores = passes k c a other (was.others k other ∙ at) stores

  on_too : GoesOn t u core epoch → GoesOn s u core epoch
  on_too on = record { quiet = on.quiet; homefree = on.homefree ∙ was.homefree; next = on.next ∙ was.next; runs = on.runs; others = others_too on.others }

  comes_too : (answer : Answer) → ComesTo image t u core epoch answer → ComesTo image s u core epoch answer
  comes_too (Go hart) x = on_too x
  comes_too (Again cause) x = record {
    on = on_too x.on;
    later = λ is. x.later (is ∙ sym was.homefree);
    read = subst (λ h. HasReadAll image u core epoch h) was.homefree x.read;
  }
  comes_too Left x = record {
    quiet = x.quiet;
    is_homefree = x.is_homefree ∙ was.homefree;
    homefree = x.homefree ∙ ap (λ h. h + 1) was.homefree;
    next = x.next ∙ was.next;
    idle = x.idle;
    others = others_too x.others;
    passes = passes_too x.passes;
  }
  comes_too (Over end) x = record { is_homefree = x.is_homefree ∙ was.homefree; last = x.last; passes = passes_too x.passes }
  comes_too (Stopped cause) x = x

module _ (image : LoadedImage) (old new : Drive) (core : ℕ) (answer : Answer) (same : old.book.image ≡ image) (turn : IsTurn old new core answer) (s : FlatState) (epoch : ℕ)
    (was : HasGoneOn old.book s core epoch) where
  pub comes : IsAfter image new.book s core epoch answer
  comes =
      let a = subst (λ i. IsAfter i new.book was.state core epoch answer) same (goes_on old new core answer turn was.state was.replays was.on.quiet epoch was.on.runs) in
      record { state = a.state; replays = a.replays; comes = comes_too image s was.state a.state core epoch was.on answer a.comes }

  went_on : (hart : HartState) → IsAfter image new.book s core epoch (Go hart) → HasGoneOn new.book s core epoch
  went_on hart a = record { state = a.state; replays = a.replays; on = a.comes }

  -- where it is to go on it has
  pub on_by : (hart : HartState) → answer ≡ Go hart → HasGoneOn new.book s core epoch
  on_by hart is = went_on hart (subst (λ a. IsAfter image new.book s core epoch a) is comes)
