-- Histories without a violation, up to any place: the epochs that run are on their paths.
use Rattle.std.proofs.Common.{◌≡◌, ℕ, zero, suc, ◌<◌, ◌++◌, List, [], ◌∷◌, length, slice_get, take, Bool, true, false, cond, Some, None, refl, ap, subst, ◌∙◌, inl, inr, arith}
use Rattle.std.proofs.lemmas.List.{take_all}
use Rattle.memory_bytes.proofs.SmallFacts.{in_front}
use Rattle.rv32_image.specs.Image.{LoadedImage, IsImage}
use Rattle.spec_history.specs.declared.entry.Entry.{Entry}
use Rattle.spec_history.specs.declared.entry.What.TheVariants.{Start, Cancel}
use Rattle.spec_history.specs.FlatState.{FlatState, first_state}
use Rattle.spec_history.specs.Effect.{effect}
use Rattle.spec_history.specs.Refusal.{refusal_of}
use Rattle.spec_history.specs.Replay.{replay}
use Rattle.spec_history.specs.Conflict.{is_hurt}
use Rattle.spec_history.proofs.OneEntry.Going.{Going}
use Rattle.spec_history.proofs.OneEntry.Legal.{legal_entry}
use Rattle.spec_history.proofs.Replay.Replays.{first_whole, one_entry, replayed}
use Rattle.homefree.specs.Ending.{NoneStartsAfterCancel}
use Rattle.homefree.specs.Hurts.{entry_for_each}
use Rattle.dependences.specs.Conflict.{Conflict}
use Rattle.dependences.specs.Laws.{NoneIsHurt}
use Rattle.dependences.proofs.Histories.{along, says, cancels_none, starts_or}
use Rattle.dependences.proofs.Keeping.{orderly_still}
use Rattle.dependences.proofs.Starting.{IsOrderly, first_orderly}
use Rattle.dependences.proofs.Windows.{AllRun, IsInWindow, all_run_still, first_all_run, near_of, near_still}

-- ---- entries of two histories

pub starts_before : (history first later : List Entry) → history ≡ first ++ later → NoneStartsAfterCancel history → NoneStartsAfterCancel first
starts_before history first later is starts place then by core cancelled started at_place at_then =
    starts place then by core cancelled started (ap (λ h. slice_get h place) is ∙ in_front first later place _ at_place) (ap (λ h. slice_get h then) is ∙ in_front first later then _ at_then)

pub unhurt-append : (xs ys : List Entry) → NoneIsHurt xs → NoneIsHurt ys → NoneIsHurt (xs ++ ys)
unhurt-append [] ys first second place entry at = second place entry at
unhurt-append (x ∷ xs) ys first second zero entry at = first zero entry at
unhurt-append (x ∷ xs) ys first second (suc place) entry at = unhurt-append xs ys (λ n e there. first (suc n) e there) second place entry at

pub unhurt-none : NoneIsHurt []
unhurt-none place entry at = absurd cc

pub unhurt-one : (one : Entry) → is_hurt one.what ≡ false → NoneIsHurt (one ∷ [])
unhurt-one one is zero entry at = let same : one ≡ entry = cc in subst (λ (e : Entry). is_hurt e.what ≡ false) same is
unhurt-one one is (suc place) entry at = absurd cc

pub unhurt-cancels : (by : ℕ) (these : ℕ → Bool) (epochs : ℕ → ℕ) (n : ℕ) → NoneIsHurt (entry_for_each by these (λ k. Cancel (epochs k)) n)
unhurt-cancels by these epochs zero = unhurt-none
unhurt-cancels by these epochs (suc n) =
    unhurt-append (entry_for_each by these (λ k. Cancel (epochs k)) n) (cond (these n) (record { by = by; what = Cancel (epochs n) } ∷ []) []) (unhurt-cancels by these epochs n) (last (these n))
  where
    last : (b : Bool) → NoneIsHurt (cond b (record { by = by; what = Cancel (epochs n) } ∷ []) [])
    last true = unhurt-one (record { by = by; what = Cancel (epochs n) }) refl
    last false = unhurt-none

-- ---- all entries

abbrev NoneCancelled : List Entry → ℕ → Type 0
NoneCancelled history n = (place by epoch : ℕ) → place < n → slice_get history place ≡ Some (record { by = by; what = Cancel epoch }) → ⊥

record IsCalmAt (image : LoadedImage) (cores : ℕ) (history : List Entry) (n : ℕ) (s : FlatState) : Type 0 where
  pub all_run : NoneCancelled history n → AllRun cores s
  pub window : IsInWindow cores s
  pub orderly : s.end ≡ None → IsOrderly image cores s

-- where the loop goes on, each epoch that runs is in the window and on its path
pub record IsCalm (image : LoadedImage) (cores : ℕ) (s : FlatState) : Type 0 where
  pub going : Going image cores s
  pub window : IsInWindow cores s
  pub orderly : IsOrderly image cores s

module _ (image : LoadedImage) (cores : ℕ) (is : IsImage image) (free : Conflict image cores → ⊥) (history : List Entry) (starts : NoneStartsAfterCancel history) (unhurt : NoneIsHurt history) where
  step : (n : ℕ) (s : FlatState) (entry : Entry) → slice_get history n ≡ Some entry → replay image cores (take n history) ≡ Some s
      → refusal_of image cores s entry ≡ None → IsCalmAt image cores history n s → IsCalmAt image cores history (suc n) (effect image s entry)
  step n s entry at before refusal was =
      let legal = legal_entry image cores s entry refusal in
      let whole = replayed image cores (take n history) s is before in
      let going = whole.going legal.going in
      let run : NoneCancelled history (suc n) → AllRun cores (effect image s entry) =
      λ none. all_run_still image cores s entry.by entry.what legal going
      (cancels_none entry.what (λ epoch cancels. none n entry.by epoch (omega arith) (says history n entry (Cancel epoch) at cancels)))
      (was.all_run (λ place by epoch below there. none place by epoch (omega (arith, below)) there)) in
      let window : IsInWindow cores (effect image s entry) = elim (starts_or entry.what) [
        | inl start ↦ near_of cores (effect image s entry) (run (λ place by epoch below there.
            let first = starts place n by entry.by epoch start.0 there (says history n entry (Start start.0) at start.1) in omega (arith, below, first)))
        | inr other ↦ near_still image cores s entry.by entry.what other was.window
      ] in record {
        all_run = run;
        window = window;
        orderly = λ none. orderly_still image cores s going was.window (was.orderly legal.going) free entry.by entry.what legal (unhurt n entry at) window none
            ((one_entry image cores s entry refusal whole).going none);
      }

  begin : IsCalmAt image cores history 0 (first_state image)
  begin = record {
    all_run = λ none. first_all_run image cores;
    window = near_of cores (first_state image) (first_all_run image cores);
    orderly = λ none. first_orderly image cores ((first_whole image cores is).going none);
  }

  pub calm_of : (last : FlatState) → replay image cores history ≡ Some last → last.end ≡ None → IsCalm image cores last
  calm_of last replays goes_on =
      let all = along image cores history last replays (IsCalmAt image cores history) begin step (length history) last (omega arith)
      (ap (replay image cores) (take_all (length history) history (omega arith)) ∙ replays) in record {
        going = (replayed image cores history last is replays).going goes_on;
        window = all.window;
        orderly = all.orderly goes_on;
      }
