-- A fault in a history is its last entry, and is that of the sequential loop.
use Rattle.std.proofs.Common.{◌≡◌, ℕ, ◌++◌, List, [], ◌∷◌, Option, Some, None, refl, sym, ap, subst, eqb-true}
use Rattle.rv32_exec.specs.declared.sequential.End.{End}
use Rattle.rv32_exec.specs.declared.sequential.End.TheVariants as end
use Rattle.rv32_image.specs.Image.{LoadedImage, IsImage}
use Rattle.rv32_exec.specs.Sequential.{SequentialResult, first_epochs}
use Rattle.spec_history.specs.declared.entry.Entry.{Entry}
use Rattle.spec_history.specs.declared.entry.What.TheVariants.{Fault}
use Rattle.spec_history.specs.declared.illegal.Illegal.{Illegal}
use Rattle.spec_history.specs.declared.illegal.Illegal.TheVariants.{Over}
use Rattle.spec_history.specs.FlatState.{CoreState, FlatState, first_state}
use Rattle.spec_history.specs.Effect.{effect}
use Rattle.spec_history.specs.Refusal.{refusal_of}
use Rattle.spec_history.specs.Replay.{where_legal, replay_from, replay}
use Rattle.spec_history.specs.Laws.{FaultsInOrder}
use Rattle.spec_history.proofs.OneEntry.Legal.{IsLegalEntry, legal_entry}
use Rattle.spec_history.proofs.OneEntry.Going.{Going}
use Rattle.spec_history.proofs.Replay.Replays.{Whole, effect-on, on_core, not_running, one_entry, legal_by, first_whole}

abbrev fault_by : ℕ → ℕ → ℕ → Entry
fault_by by cause pc = record { by = by; what = Fault cause pc }

-- a fault ends the loop at the homefree epoch
fault_ends_at : (image : LoadedImage) (count : ℕ) (s : FlatState) (by cause pc : ℕ) (core : Option CoreState) → s.cores by ≡ core
    → IsLegalEntry image count s (fault_by by cause pc)
    → (effect image s (fault_by by cause pc)).end ≡ Some (end.Fault (effect image s (fault_by by cause pc)).homefree cause pc)
fault_ends_at image count s by cause pc None at legal = absurd (not_running (s.cores by) _ at legal.there)
fault_ends_at image count s by cause pc (Some c) at legal =
    let homefree = eqb-true _ _ (on_core (s.cores by) c _ at legal.homefree) in
    rw (effect-on image s by (Fault cause pc) c at) (ap (λ n. Some (end.Fault n cause pc)) homefree)

-- the epochs before it are done
all_before : (image : LoadedImage) (count : ℕ) (s : FlatState) (by cause pc : ℕ) (core : Option CoreState) → s.cores by ≡ core
    → IsLegalEntry image count s (fault_by by cause pc) → Going image count s
    → (first_epochs image (effect image s (fault_by by cause pc)).homefree).end ≡ end.Done (effect image s (fault_by by cause pc)).homefree
all_before image count s by cause pc None at legal going = absurd (not_running (s.cores by) _ at legal.there)
all_before image count s by cause pc (Some c) at legal going =
    rw (effect-on image s by (Fault cause pc) c at) (ap (λ (r : SequentialResult). r.end) going.shown.done)

-- nothing is legal once the loop is over
refused_over : (image : LoadedImage) (count : ℕ) (s : FlatState) (entry : Entry) (e : End) → s.end ≡ Some e → refusal_of image count s entry ≡ Some Over
unfolding refusal_of
refused_over image count s entry e is = rw is refl

not_replayed : (refusal : Option Illegal) (illegal : Illegal) (next : Option FlatState) (last : FlatState) → refusal ≡ Some illegal → where_legal refusal next ≡ Some last → ⊥
not_replayed (Some refusal) illegal next last is replays = cc
not_replayed None illegal next last is replays = cc

over_is_last : (image : LoadedImage) (count : ℕ) (s last : FlatState) (cause pc : ℕ) (later : List Entry) → Whole image count s → (first_epochs image s.homefree).end ≡ end.Done s.homefree
    → s.end ≡ Some (end.Fault s.homefree cause pc) → replay_from image count s later ≡ Some last → FaultsInOrder image last cause pc later
unfolding replay_from
over_is_last image count s last cause pc [] whole before ends replays =
    let same : s ≡ last = cc in
    subst (λ x. FaultsInOrder image x cause pc []) same (record { last = refl; end_is = sym ((whole.ends _ ends).end_is); before = before })
over_is_last image count s last cause pc (entry ∷ rest) whole before ends replays =
    absurd (not_replayed (refusal_of image count s entry) Over _ last (refused_over image count s entry _ ends) replays)

fault_from : (image : LoadedImage) (count : ℕ) (before later : List Entry) (s last : FlatState) (by cause pc : ℕ) → Whole image count s
    → replay_from image count s (before ++ fault_by by cause pc ∷ later) ≡ Some last → FaultsInOrder image last cause pc later
unfolding replay_from
fault_from image count [] later s last by cause pc whole replays =
    let fault = fault_by by cause pc in
    legal_by image count s fault later last (refusal_of image count s fault) refl replays
    (λ legal rest. over_is_last image count (effect image s fault) last cause pc later (one_entry image count s fault legal whole)
    (all_before image count s by cause pc (s.cores by) refl (legal_entry image count s fault legal) (whole.going (legal_entry image count s fault legal).going))
    (fault_ends_at image count s by cause pc (s.cores by) refl (legal_entry image count s fault legal)) rest)
fault_from image count (entry ∷ before) later s last by cause pc whole replays =
    legal_by image count s entry (before ++ fault_by by cause pc ∷ later) last (refusal_of image count s entry) refl replays
    (λ legal rest. fault_from image count before later (effect image s entry) last by cause pc (one_entry image count s entry legal whole) rest)

pub fault_in_order : (image : LoadedImage) (count : ℕ) (before later : List Entry) (s : FlatState) (by cause pc : ℕ) → IsImage image
    → replay image count (before ++ fault_by by cause pc ∷ later) ≡ Some s → FaultsInOrder image s cause pc later
unfolding replay
fault_in_order image count before later s by cause pc is replays =
    fault_from image count before later (first_state image) s by cause pc (first_whole image count is) replays
