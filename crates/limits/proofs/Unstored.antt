-- What no epoch stores in order from one epoch on is the same before a later one; and a core that isn't held reads nothing else.
use Rattle.std.proofs.Common.{◌≡◌, ◌⊎◌, ℕ, zero, suc, ◌+◌, ◌-◌, ◌<◌, ◌≤◌, ◌==◌, ◌&&◌, not, nat_le, is_none, Bool, true, false, length, slice_index, Option, Some, None, refl, sym, ap, subst, ◌∙◌, inl, inr, true≢false, arith, add-one, eq-eqb, ne_eqb, le-leb}
use Rattle.std.proofs.lemmas.Bool.{cases_eq, or_right}
use Rattle.std.proofs.lemmas.List.Folds.{list_any_at}
use Rattle.rv32_exec.specs.declared.stop.Stop.TheVariants as stop
use Rattle.rv32_image.specs.Image.{IsImage, LoadedImage}
use Rattle.rv32_exec.specs.Hart.{HartState}
use Rattle.rv32_exec.specs.NextEvent.{next_event}
use Rattle.spec_history.proofs.Searches.Tests.{one_passes}
use Rattle.epoch_paths.specs.declared.pieces.Pieces.TheVariants.{Bytes}
use Rattle.epoch_paths.specs.InOrder.{IsInOrder, memory_before}
use Rattle.epoch_paths.specs.Paths.{Stores}
use Rattle.epoch_paths.specs.Stored.{StoresInOrder, piece_in}
use Rattle.epoch_paths.proofs.Alike.{alike}
use Rattle.epoch_paths.proofs.InOrder.{before_in_order, ends_with, memory_none}
use Rattle.even_speed.specs.Held.{Holding, is_held, is_stored, reads_stored, waits_by}
use Rattle.limits.specs.HeldBound.{HoldsInOrder}

-- the epoch stores the byte in order
abbrev pub IsStored : LoadedImage → ℕ → ℕ → Type 0
IsStored image d a = StoresInOrder image (piece_in Bytes image) d a

-- none of the epochs from this one on, and before that one, does
abbrev pub IsUnstored : LoadedImage → ℕ → ℕ → ℕ → Type 0
IsUnstored image from to a = (d : ℕ) → from ≤ d → d < to → IsStored image d a → ⊥

-- ---- memory before epochs

more : (image : LoadedImage) (e : ℕ) → IsInOrder image (suc e) → length (memory_before image e) ≡ image.size
    → (length (memory_before image (e + 1)) ≡ image.size)
    × ((a : ℕ) → (slice_index (memory_before image (e + 1)) a ≡ slice_index (memory_before image e) a) ⊎ Stores image e (memory_before image e) a)
more image e order long =
    ends_with image e (memory_before image e) order (alike image e (memory_before image e) (memory_before image e) long long (λ a reads. refl) (image.limit + 1))

pub all_long : (image : LoadedImage) (e : ℕ) → IsImage image → IsInOrder image e → length (memory_before image e) ≡ image.size
all_long image zero is order = memory_none image is
all_long image (suc e) is order =
    subst (λ n. length (memory_before image n) ≡ image.size) (add-one e) (more image e order (all_long image e is (before_in_order image e order))).0

pub unstored_same : (image : LoadedImage) (h e a : ℕ) → IsImage image → h ≤ e → e ≤ image.epochs → IsInOrder image e → IsUnstored image h e a
    → slice_index (memory_before image e) a ≡ slice_index (memory_before image h) a
unstored_same image h zero a is low most order none =
    let same : 0 ≡ h = omega (arith, low) in ap (λ n. slice_index (memory_before image n) a) same
unstored_same image h (suc e) a is low most order none = elim (cases_eq h (suc e)) [
  | inl same ↦ ap (λ n. slice_index (memory_before image n) a) (sym same)
  | inr other ↦
      (let before = before_in_order image e order in
      let rest = unstored_same image h e a is (omega (arith, low, other)) (omega (arith, most)) before (λ d from less. none d from (omega (arith, less))) in
      ap (λ n. slice_index (memory_before image n) a) (sym (add-one e))
      ∙ (elim ((more image e order (all_long image e is before)).1 a) [
        | inl same ↦ same
        | inr stores ↦ absurd (none e (omega (arith, low, other)) (omega arith) (record { within = omega (arith, most); in_order = before; byte = a; of_piece = refl; stores = stores }))
      ] ∙ rest))
]

-- ---- tests

pub both : (a b : Bool) → a ≡ true → b ≡ true → (a && b) ≡ true
both true b first second = second
both false b first second = absurd cc

-- ---- a core that isn't held

module _ (image : LoadedImage) (holds : Holding) (h : HoldsInOrder image holds) where
  pub piece_is : (a : ℕ) → holds.piece a ≡ a
  piece_is a = ap (λ (x : Holding). x.piece a) h.is

  pub told_of : (d a : ℕ) → IsStored image d a → holds.stores d a ≡ true
  told_of d a stored =
      let c = h.are.all d a stored in
      ap (λ (x : Holding). x.stores d a) h.is
      ∙ list_any_at (λ (s : ℕ × ℕ). (s.0 == a) && (s.1 == d)) h.stores c.0 (a, d) c.1
      (ap (λ (s : ℕ × ℕ). (s.0 == a) && (s.1 == d)) c.2 ∙ both (a == a) (d == d) (eq-eqb a a refl) (eq-eqb d d refl))

  pub reads_unstored : (homefree epoch : ℕ) (own : ℕ → Option ℕ) (hart : HartState) (address width rd : ℕ) (signed : Bool)
      → (next_event image hart).at ≡ stop.Load address width signed rd → is_held holds image homefree (Some epoch) own (Some hart) ≡ false
      → (a : ℕ) → address ≤ a → a < address + width → own a ≡ None → IsUnstored image homefree epoch a
  reads_unstored homefree epoch own hart address width rd signed next free a from below none d low before stored =
      let pc = (next_event image hart).now.pc in
      let here : is_stored holds homefree epoch (holds.piece a) ≡ true =
      one_passes epoch (λ e. nat_le homefree e && holds.stores e (holds.piece a)) d before
      (both (nat_le homefree d) (holds.stores d (holds.piece a)) (le-leb homefree d low) (ap (holds.stores d) (piece_is a) ∙ told_of d a stored)) in
      let sum : a ≡ address + (a - address) = omega (arith, from) in
      let reads : reads_stored holds homefree epoch own address width ≡ true =
      one_passes width (λ i. is_none (own (address + i)) && is_stored holds homefree epoch (holds.piece (address + i))) (a - address) (omega (arith, from, below))
      (subst (λ n. (is_none (own n) && is_stored holds homefree epoch (holds.piece n)) ≡ true) sum
      (both (is_none (own a)) (is_stored holds homefree epoch (holds.piece a)) (ap (λ o. is_none o) none) here)) in
      let waits : waits_by holds homefree epoch own pc (next_event image hart).at ≡ true =
      ap (waits_by holds homefree epoch own pc) next ∙ or_right (holds.places pc) (reads_stored holds homefree epoch own address width) reads in
      true≢false (sym (both (not (epoch == homefree)) (waits_by holds homefree epoch own pc (next_event image hart).at)
      (ap (λ b. not b) (ne_eqb epoch homefree (λ same. omega (arith, same, low, before)))) waits) ∙ free)
