-- That what a schedule makes is fixed, from that its turns are.
use Rattle.std.proofs.Common.{◌≡◌, ◌≢◌, ◌⊎◌, ℕ, ◌<◌, ◌&&◌, is_some, List, length, slice_get, None, Some, Option, Result, Ok, Err, refl, sym, ap, subst, ◌∙◌, inl, inr, arith}
use native.Mathlib.Decide.{dec_lt}
use Rattle.rv32_image.specs.Image.{LoadedImage}
use Rattle.rv32_exec.specs.declared.sequential.End.{End}
use Rattle.run_ledger.specs.Counts.{no_counts}
use Rattle.violations.specs.View.{StoreView, Waits}
use Rattle.violations.specs.Calls.{Call}
use Rattle.homefree.specs.declared.book.Loop.{Loop}
use Rattle.spec_history.specs.declared.entry.Entry.{Entry}
use Rattle.homefree.specs.BookView.{BookView}
use Rattle.homefree.specs.InStep.{InStep}
use Rattle.homefree.specs.LockView.{loop_of}
use Rattle.homefree.specs.declared.fault.TurnFault.{TurnFault}
use Rattle.homefree.specs.declared.fault.TurnFault.TheVariants.{NoMemory}
use Rattle.homefree.specs.Driven.{Driver, Driven, driver}
use Rattle.homefree.specs.DriveFixed.{AreTwinDrivers, DriveIsFixed}
use Rattle.turn_costs.specs.Prices.{Prices}
use Rattle.even_speed.specs.Even.{at_first}
use Rattle.even_speed.specs.Fixed.{RunIsFixed}
use Rattle.all_schedules.specs.Drawn.{DrivesDrawn, drawn, most_turns}
use Rattle.all_schedules.specs.Fixed.{DrawnHistoryIsFixed, EvenHistoryIsFixed, HistoryIsFixed}
use Rattle.homefree.specs.Retraced.{IsNew, IsRetraced, book_over, turns_of}
use Rattle.all_schedules.specs.MadeAgain.{IsMadeAgain, Parts}

-- a run ends, or goes to the most turns
is_ended : (result : Result (Option End) TurnFault) → (result ≡ Ok None) ⊎ (result ≢ Ok None)
is_ended (Ok None) = inl refl
is_ended (Ok (Some end)) = inr (λ is. absurd cc)
is_ended (Err fault) = inr (λ is. absurd cc)

module _ {S : Type 0} (starts : LoadedImage → ℕ → S → Type 0) (makes : S → Call → S → Type 0) (alike : S → S → Type 0) (view : S → StoreView) (waits : S → Waits)
    (same : (image : LoadedImage) (cores : ℕ) (s t : S) → starts image cores s → starts image cores t → alike s t) where
  -- two empty histories of a loop
  pub new_twins : (l : Loop) (b c : BookView S) → IsNew starts view l b → IsNew starts view l c → AreTwinDrivers alike (driver b no_counts) (driver c no_counts)
  new_twins l b c one two = record {
    books = record {
      image = ap (λ (x : Loop). x.image) (two.loop ∙ sym one.loop);
      cores = ap (λ (x : Loop). x.cores) (two.loop ∙ sym one.loop);
      room = ap (λ (x : Loop). x.room) (two.loop ∙ sym one.loop);
      history = two.history ∙ sym one.history;
      totals = two.totals ∙ sym one.totals;
      stopped = two.stopped ∙ sym one.stopped;
      stores = same l.image l.cores b.store c.store one.started two.started;
    };
    shares_are = refl;
  }

  pub history_fixed : DriveIsFixed makes alike view waits → HistoryIsFixed starts makes alike view waits
  history_fixed law l schedule result result' history history' fed fed' one two =
      let run = law (λ _. None) (driver one.first no_counts) one.last (driver two.first no_counts) two.last schedule result result' (new_twins l one.first two.first one.is_new two.is_new) one.driven two.driven fed fed' in
      record { result_is = run.result_is; history_is = sym two.history_is ∙ (run.twins.books.history ∙ one.history_is); twins = run.twins }

  pub even_history_fixed : (prices : S → Prices) (keeps : S → Type 0) → RunIsFixed makes alike view waits prices keeps → EvenHistoryIsFixed starts makes view waits prices keeps
  even_history_fixed prices keeps law holding queues costs l schedule schedule' result result' history history' done done' one two =
      let run = law holding (is_some costs && queues) costs at_first (driver one.makes.first no_counts) one.makes.last (driver two.makes.first no_counts) two.makes.last schedule schedule' result result'
      (new_twins l one.makes.first two.makes.first one.makes.is_new two.makes.is_new) one.evenly two.evenly done done' in
      record { result_is = run.result_is; schedule_is = run.schedule_is; history_is = sym two.makes.history_is ∙ (run.twins.books.history ∙ one.makes.history_is) }

  -- a run that ends goes no further than another
  no_longer : DriveIsFixed makes alike view waits → (cores seed : ℕ) (first last first' last' : Driver S) (schedule schedule' : List ℕ) (result result' : Result (Option End) TurnFault)
      → AreTwinDrivers alike first first' → result ≢ Err NoMemory → result ≢ Ok None → DrivesDrawn makes view waits cores seed first schedule result last
      → DrivesDrawn makes view waits cores seed first' schedule' result' last' → length schedule < length schedule' → ⊥
  no_longer law cores seed first last first' last' schedule schedule' result result' twins fed ends one two below =
      let further = two.goes_on (length schedule) below in
      let same = law (λ _. None) first last first' further.0 (drawn cores seed (length schedule)) result (Ok None) twins
      (subst (λ xs. Driven makes view waits (λ _. None) first xs result last) one.is_drawn one.driven) further.1 fed (λ is. absurd cc) in
      ends (sym same.result_is)

  -- both have the same number of turns
  one_length : DriveIsFixed makes alike view waits → (cores seed : ℕ) (first last first' last' : Driver S) (schedule schedule' : List ℕ) (result result' : Result (Option End) TurnFault)
      → AreTwinDrivers alike first first' → AreTwinDrivers alike first' first → first.book.stopped ≡ None → first'.book.stopped ≡ None → result ≢ Err NoMemory → result' ≡ result
      → DrivesDrawn makes view waits cores seed first schedule result last → DrivesDrawn makes view waits cores seed first' schedule' result' last' → length schedule' ≡ length schedule
  one_length law cores seed first last first' last' schedule schedule' result result' twins back going going' fed same one two = by_end (is_ended result)
    where
      by_end : (result ≡ Ok None) ⊎ (result ≢ Ok None) → length schedule' ≡ length schedule
      by_end (inl none) = two.most (same ∙ none) going' ∙ sym (one.most none going)
      by_end (inr ends) = elim (dec_lt (length schedule) (length schedule')) [
        | yes more ↦ absurd (no_longer law cores seed first last first' last' schedule schedule' result result' twins fed ends one two more)
        | no most ↦ elim (dec_lt (length schedule') (length schedule)) [
          | yes fewer ↦ absurd (no_longer law cores seed first' last' first last schedule' schedule result' result back (subst (λ r. r ≢ Err NoMemory) (sym same) fed)
              (subst (λ r. r ≢ Ok None) (sym same) ends) two one fewer)
          | no least ↦ omega (arith, most, least)
        ]
      ]

  pub drawn_history_fixed : DriveIsFixed makes alike view waits → DrawnHistoryIsFixed starts makes view waits
  drawn_history_fixed law l seed schedule schedule' result result' history history' fed fed' one two =
      let b = driver one.makes.first no_counts in
      let c = driver two.makes.first no_counts in
      let twins = new_twins l one.makes.first two.makes.first one.makes.is_new two.makes.is_new in
      let back = new_twins l two.makes.first one.makes.first two.makes.is_new one.makes.is_new in
      let run = law (λ _. None) b one.makes.last c two.makes.last (drawn l.cores seed most_turns) result result' twins one.drives.all two.drives.all fed fed' in
      let count = one_length law l.cores seed b one.makes.last c two.makes.last schedule schedule' result result' twins back one.makes.is_new.stopped two.makes.is_new.stopped fed run.result_is one.drives two.drives in
      record {
        result_is = run.result_is;
        schedule_is = two.drives.is_drawn ∙ (ap (drawn l.cores seed) count ∙ sym one.drives.is_drawn);
        history_is = sym two.makes.history_is ∙ (run.twins.books.history ∙ one.makes.history_is);
      }

-- ---- the turns that a history shows

pub made_again : {S : Type 0} (starts : LoadedImage → ℕ → S → Type 0) (makes : S → Call → S → Type 0) (view : S → StoreView) (waits : S → Waits) (b : BookView S) → InStep view b
    → IsRetraced starts makes view waits b → IsMadeAgain starts makes view waits (loop_of b) b.history
made_again starts makes view waits b i r = (
  r.result,
  record {
    first = r.first;
    last = driver (book_over b r.store) r.shares;
    is_new = r.is_new;
    driven = r.drives;
    history_is = refl;
    of_turns = record { caused = i.caused; kinds = i.kinds; starts = i.starts; passes = i.passes; within = i.within };
  },
)

-- what is fixed is no other history
pub never_another : {S : Type 0} (starts : LoadedImage → ℕ → S → Type 0) (makes : S → Call → S → Type 0) (alike : S → S → Type 0) (view : S → StoreView) (waits : S → Waits) (l : Loop) (history : List Entry)
    → HistoryIsFixed starts makes alike view waits → IsMadeAgain starts makes view waits l history → (place : ℕ) → Parts starts makes view waits l history place → ⊥
never_another starts makes alike view waits l history law again place parts =
    let one = law l (turns_of l.cores history) (Ok again.0) (Ok parts.result) history parts.history (not_refused again.0) (not_refused parts.result) again.1 parts.makes in
    parts.part.other (ap (λ xs. slice_get xs place) one.history_is)
  where
    not_refused : (end : Option End) → (let result : Result (Option End) TurnFault = Ok end in result ≢ Err NoMemory)
    not_refused end is = cc
