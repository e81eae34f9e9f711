-- Histories, entry by entry: what each legal entry keeps, the whole history keeps.
use Rattle.std.proofs.Common.{◌≡◌, ℕ, zero, suc, ◌<◌, ◌≤◌, ◌++◌, List, [], ◌∷◌, length, slice_get, take, drop, false, Some, None, refl, sym, ap, subst, ◌∙◌, inl, inr, ◌⊎◌, arith}
use Rattle.std.proofs.lemmas.Bool.{cases_eq}
use Rattle.std.proofs.lemmas.List.{take-append-drop}
use Rattle.rv32_image.specs.Image.{LoadedImage, IsImage}
use Rattle.rv32_image.proofs.SmallFacts.{one_value}
use Rattle.spec_history.specs.declared.entry.Entry.{Entry}
use Rattle.spec_history.specs.declared.entry.What.{What}
use Rattle.spec_history.specs.declared.entry.What.TheVariants.{Start, Load, Store, Hurt, Cancel, Restart, Publish, Commit, Fault}
use Rattle.spec_history.specs.FlatState.{FlatState, first_state}
use Rattle.spec_history.specs.Effect.{effect}
use Rattle.spec_history.specs.Refusal.{refusal_of}
use Rattle.spec_history.specs.Replay.{replay}
use Rattle.spec_history.specs.Conflict.{is_hurt}
use Rattle.spec_history.proofs.OneEntry.Legal.{legal_entry}
use Rattle.spec_history.proofs.Replay.Joining.{splits}
use Rattle.spec_history.proofs.Replay.Reaching.{no_entries}
use Rattle.spec_history.proofs.Replay.Replays.{first_whole, one_entry, replayed, one_legal}
use Rattle.dependences.specs.Conflict.{Conflict}
use Rattle.homefree.specs.Ending.{NoneStartsAfterCancel}
use Rattle.dependences.proofs.Windows.{AllRun, CancelsNone, IsInWindow, StartsNone, all_run_still, first_all_run, near_of, near_still}
use Rattle.dependences.proofs.Starting.{IsOrderly, first_orderly}
use Rattle.dependences.proofs.Keeping.{orderly_still}

-- ---- places

take_more : (entries : List Entry) (n : ℕ) (entry : Entry) → slice_get entries n ≡ Some entry → take (suc n) entries ≡ take n entries ++ entry ∷ []
take_more [] n entry is = absurd cc
take_more (first ∷ rest) zero entry is = let same : first ≡ entry = cc in ap (λ e. e ∷ []) same
take_more (first ∷ rest) (suc n) entry is = ap (λ es. first ∷ es) (take_more rest n entry is)

pub entry_at : (entries : List Entry) (n : ℕ) → n < length entries → (entry : Entry) × (slice_get entries n ≡ Some entry)
entry_at [] n below = absurd (omega (arith, below))
entry_at (first ∷ rest) zero below = (first, refl)
entry_at (first ∷ rest) (suc n) below = entry_at rest n (omega (arith, below))

pub there_below : (entries : List Entry) (n : ℕ) (entry : Entry) → slice_get entries n ≡ Some entry → n < length entries
there_below [] n entry is = absurd cc
there_below (first ∷ rest) zero entry is = omega arith
there_below (first ∷ rest) (suc n) entry is = let below = there_below rest n entry is in omega (arith, below)

-- ---- states

-- the state before a place
pub prefix : (image : LoadedImage) (count : ℕ) (history : List Entry) (last : FlatState) (n : ℕ) → replay image count history ≡ Some last
    → (s : FlatState) × (replay image count (take n history) ≡ Some s)
prefix image count history last n replays =
    let parts = splits image count (take n history) (drop n history) last (ap (replay image count) (take-append-drop n history) ∙ replays) in
    (parts.between, parts.first_replays)

-- the entry at a place is legal there
pub record IsNext (image : LoadedImage) (count : ℕ) (history : List Entry) (n : ℕ) (s : FlatState) (entry : Entry) : Type 0 where
  pub legal : refusal_of image count s entry ≡ None
  pub replays : replay image count (take (suc n) history) ≡ Some (effect image s entry)

pub next_entry : (image : LoadedImage) (count : ℕ) (history : List Entry) (last : FlatState) (n : ℕ) (s : FlatState) (entry : Entry) → replay image count history ≡ Some last
    → slice_get history n ≡ Some entry → replay image count (take n history) ≡ Some s → IsNext image count history n s entry
next_entry image count history last n s entry replays at before =
    let later = prefix image count history last (suc n) replays in
    let parts = splits image count (take n history) (entry ∷ []) later.0 (sym (ap (replay image count) (take_more history n entry at)) ∙ later.1) in
    let same : parts.between ≡ s = one_value (replay image count (take n history)) parts.between s parts.first_replays before in
    let one = one_legal image count s later.0 entry (rw same at parts.later_replays) in
    record { legal = one.0; replays = later.1 ∙ ap Some (sym one.1) }

-- what holds at first, and what each legal entry keeps, holds before each place
pub along : (image : LoadedImage) (count : ℕ) (history : List Entry) (last : FlatState) → replay image count history ≡ Some last
    → (P : ℕ → FlatState → Type 0) → P 0 (first_state image)
    → ((n : ℕ) (s : FlatState) (entry : Entry) → slice_get history n ≡ Some entry → replay image count (take n history) ≡ Some s
    → refusal_of image count s entry ≡ None → P n s → P (suc n) (effect image s entry))
    → (n : ℕ) (s : FlatState) → n ≤ length history → replay image count (take n history) ≡ Some s → P n s
along image count history last replays P begin step zero s most at =
    let start : replay image count (take 0 history) ≡ Some (first_state image) = no_entries image count in
    subst (P 0) (one_value (replay image count (take 0 history)) (first_state image) s start at) begin
along image count history last replays P begin step (suc n) s most at =
    let entry = entry_at history n (omega (arith, most)) in
    let before = prefix image count history last n replays in
    let next = next_entry image count history last n before.0 entry.0 replays entry.1 before.1 in
    let same : effect image before.0 entry.0 ≡ s = one_value (replay image count (take (suc n) history)) _ s next.replays at in
    subst (P (suc n)) same (step n before.0 entry.0 entry.1 before.1 next.legal
    (along image count history last replays P begin step n before.0 (omega (arith, most)) before.1))

-- ---- what an entry is not

pub cancels_none : (what : What) → ((epoch : ℕ) → what ≡ Cancel epoch → ⊥) → CancelsNone what
cancels_none (Start epoch) other = tt
cancels_none (Load address width value) other = tt
cancels_none (Store address width value) other = tt
cancels_none (Hurt epoch) other = tt
cancels_none (Cancel epoch) other = other epoch refl
cancels_none Restart other = tt
cancels_none Publish other = tt
cancels_none Commit other = tt
cancels_none (Fault cause pc) other = tt

-- what starts no epoch, or starts this one
pub starts_or : (what : What) → ((epoch : ℕ) × (what ≡ Start epoch)) ⊎ StartsNone what
starts_or (Start epoch) = inl (epoch, refl)
starts_or (Load address width value) = inr tt
starts_or (Store address width value) = inr tt
starts_or (Hurt epoch) = inr tt
starts_or (Cancel epoch) = inr tt
starts_or Restart = inr tt
starts_or Publish = inr tt
starts_or Commit = inr tt
starts_or (Fault cause pc) = inr tt

-- an entry that says this
pub says : (history : List Entry) (n : ℕ) (entry : Entry) (what : What) → slice_get history n ≡ Some entry → entry.what ≡ what
    → slice_get history n ≡ Some (record { by = entry.by; what = what })
says history n entry what at is = at ∙ ap (λ (w : What). let e : Entry = record { by = entry.by; what = w } in Some e) is

-- none of the entries before this place cancels an epoch
abbrev NoneCancelled : List Entry → ℕ → Type 0
NoneCancelled history n = (place by epoch : ℕ) → place < n → slice_get history place ≡ Some (record { by = by; what = Cancel epoch }) → ⊥

-- ---- all entries

-- what holds before each place where nothing is violated
pub record IsCalm (image : LoadedImage) (cores : ℕ) (history : List Entry) (n : ℕ) (s : FlatState) : Type 0 where
  pub none_hurt : (place : ℕ) (entry : Entry) → place < n → slice_get history place ≡ Some entry → is_hurt entry.what ≡ false
  pub all_run : NoneCancelled history n → AllRun cores s
  pub window : IsInWindow cores s
  pub orderly : s.end ≡ None → IsOrderly image cores s

-- no legal entry of a calm state violates
abbrev pub HurtsNone : LoadedImage → ℕ → List Entry → Type 0
HurtsNone image cores history =
    (n : ℕ) (s : FlatState) (entry : Entry) → slice_get history n ≡ Some entry → replay image cores (take n history) ≡ Some s → refusal_of image cores s entry ≡ None
    → IsInWindow cores s → IsOrderly image cores s → is_hurt entry.what ≡ false

module _ (image : LoadedImage) (cores : ℕ) (history : List Entry) (is : IsImage image) (starts : NoneStartsAfterCancel history) (free : Conflict image cores → ⊥)
    (calm : HurtsNone image cores history) where
  hurt_up_to : (n place : ℕ) (first entry : Entry) → slice_get history n ≡ Some first → is_hurt first.what ≡ false
      → ((p : ℕ) (e : Entry) → p < n → slice_get history p ≡ Some e → is_hurt e.what ≡ false)
      → place < suc n → slice_get history place ≡ Some entry → is_hurt entry.what ≡ false
  hurt_up_to n place first entry at here before below there = elim (cases_eq place n) [
    | inl e ↦
        (let same : first ≡ entry = one_value (slice_get history n) first entry at (sym (ap (slice_get history) e) ∙ there) in
        sym (ap (λ (x : Entry). is_hurt x.what) same) ∙ here)
    | inr other ↦ before place entry (omega (arith, below, other)) there
  ]

  step : (n : ℕ) (s : FlatState) (entry : Entry) → slice_get history n ≡ Some entry → replay image cores (take n history) ≡ Some s
      → refusal_of image cores s entry ≡ None → IsCalm image cores history n s → IsCalm image cores history (suc n) (effect image s entry)
  step n s entry at before refusal was =
      let legal = legal_entry image cores s entry refusal in
      let whole = replayed image cores (take n history) s is before in
      let going = whole.going legal.going in
      let orderly = was.orderly legal.going in
      let unhurt = calm n s entry at before refusal was.window orderly in
      let run : NoneCancelled history (suc n) → AllRun cores (effect image s entry) =
      λ none. all_run_still image cores s entry.by entry.what legal going
      (cancels_none entry.what (λ epoch cancels. none n entry.by epoch (omega arith) (says history n entry (Cancel epoch) at cancels)))
      (was.all_run (λ place by epoch below there. none place by epoch (omega (arith, below)) there)) in
      let window : IsInWindow cores (effect image s entry) = elim (starts_or entry.what) [
        | inl start ↦ near_of cores (effect image s entry) (run (λ place by epoch below there.
            let first = starts place n by entry.by epoch start.0 there (says history n entry (Start start.0) at start.1) in omega (arith, below, first)))
        | inr other ↦ near_still image cores s entry.by entry.what other was.window
      ] in record {
        none_hurt = λ place e below there. hurt_up_to n place entry e at unhurt was.none_hurt below there;
        all_run = run;
        window = window;
        orderly = λ none. orderly_still image cores s going was.window orderly free entry.by entry.what legal unhurt window none
            ((one_entry image cores s entry refusal whole).going none);
      }

  begin : IsCalm image cores history 0 (first_state image)
  begin = record {
    none_hurt = λ place entry below there. absurd (omega (arith, below));
    all_run = λ none. first_all_run image cores;
    window = near_of cores (first_state image) (first_all_run image cores);
    orderly = λ none. first_orderly image cores ((first_whole image cores is).going none);
  }

  -- so nothing is violated
  pub none_is_hurt : (last : FlatState) → replay image cores history ≡ Some last → (place : ℕ) (entry : Entry) → slice_get history place ≡ Some entry → is_hurt entry.what ≡ false
  none_is_hurt last replays place entry at =
      let below = there_below history place entry at in
      let later = prefix image cores history last (suc place) replays in
      let all = along image cores history last replays (IsCalm image cores history) begin step (suc place) later.0 (omega (arith, below)) later.1 in
      all.none_hurt place entry (omega arith) at
