-- What a turn makes of the state, the bus has too.
use Rattle.std.proofs.Common.{◌≡◌, ◌≢◌, ℕ, ◌+◌, ◌-◌, ◌*◌, ◌%◌, ◌<◌, true, Option, Some, None, sym, ap, subst, ◌∙◌, inl, inr, arith}
use Rattle.std.proofs.lemmas.Bool.{cases_eq}
use Rattle.std.proofs.lemmas.Bool.Decides.{nat_tests}
use Rattle.std.proofs.lemmas.Option.{same_Some}
use Rattle.memory_bytes.specs.Bytes.{IsWidth}
use Rattle.memory_bytes.specs.Maps.{joined, stored}
use Rattle.rv32_image.specs.Image.{LoadedImage}
use Rattle.rv32_image.specs.Machine.{IsMachineFor}
use Rattle.spec_history.specs.FlatState.{CoreState, FlatState}
use Rattle.spec_history.specs.Effect.{with_core}
use Rattle.spec_history.proofs.OneEntry.Keeping.{at_core, with_core_other, with_core_same}
use Rattle.spec_states.specs.Mask.{has, is_within}
use Rattle.bus_states.specs.Bus.{Bus}
use Rattle.bus_states.specs.Speculative.{own}
use Rattle.epoch_paths.proofs.Paths.{covered, either}
use Rattle.never_or_shown.proofs.Accesses.{Goes}
use Rattle.never_or_shown.proofs.Speculating.{goes-tidy}
use Rattle.never_or_shown.proofs.Straights.{Sets, sets-tidy}
use Rattle.never_or_shown.proofs.Lines.{Reads, Shares, Writes}
use Rattle.never_or_shown.proofs.Epochs.{IsSeen, attempt_by, line_at, line_is, offset_at, offset_is}

module _ (image : LoadedImage) (cores : ℕ) (s : FlatState) (old new : Bus) (seen : IsSeen image cores s old) (by : ℕ) where
  -- the bus has a byte that the core owns
  abbrev pub Has : CoreState → Bus → ℕ → Type 0
  Has c b k = (a byte : ℕ) → c.own a ≡ Some byte → has ((b.core k).copy (line_at image a)).marks.bytes (offset_at image a) ≡ true

  own_with : (next : Option CoreState) → ((k : ℕ) (c : CoreState) → k ≢ by → s.cores k ≡ Some c → Has c new k) → ((c : CoreState) → next ≡ Some c → Has c new by)
      → (k : ℕ) (c : CoreState) (a byte : ℕ) → with_core s.cores by next k ≡ Some c → c.own a ≡ Some byte → has ((new.core k).copy (line_at image a)).marks.bytes (offset_at image a) ≡ true
  own_with next others mine k c a byte at is = elim (at_core s.cores by next k c at) [
    | inl here ↦ subst (λ (n : ℕ). has ((new.core n).copy (line_at image a)).marks.bytes (offset_at image a) ≡ true) (sym here.0) (mine c here.1 a byte is)
    | inr there ↦ others k c there.0 there.1 a byte is
  ]

  attempt_with : (next : Option CoreState) (k : ℕ) → (k ≢ by → (new.core k).attempt ≡ attempt_by (s.cores k)) → (new.core by).attempt ≡ attempt_by next
      → (new.core k).attempt ≡ attempt_by (with_core s.cores by next k)
  attempt_with next k others mine = elim (cases_eq k by) [
    | inl same ↦ ap (λ n. (new.core n).attempt) same ∙ (mine ∙ ap attempt_by (sym (ap (with_core s.cores by next) same ∙ with_core_same s.cores by next)))
    | inr away ↦ others away ∙ ap attempt_by (sym (with_core_other s.cores by next k away))
  ]

  -- a core goes on with its attempt
  pub goes-seen : (t : FlatState) (c next : CoreState) → s.cores by ≡ Some c → t.cores ≡ with_core s.cores by (Some next) → next.epoch ≡ c.epoch → next.straight ≡ c.straight
      → Goes (Reads image cores) (Writes image cores) (Shares image cores) old new → Has next new by → IsSeen image cores t new
  goes-seen t c next at cores_are epoch straight goes mine = record {
    length = goes.length ∙ seen.length;
    attempt = λ k. attempt_with (Some next) k (λ away. (goes.core k).attempt ∙ seen.attempt k)
        ((goes.core by).attempt ∙ (seen.attempt by ∙ (ap attempt_by at ∙ (λ i. attempt_by (Some (record c { epoch = sym epoch i; straight = sym straight i }))))))
        ∙ ap (λ f. attempt_by (f k)) (sym cores_are);
    limit = λ k below. (goes.core k).limit ∙ seen.limit k below;
    own = λ k d a byte at_k is. own_with (Some next) (λ j e away at_j x b is_own. (goes.core j).masks (line_at image x) (offset_at image x) (seen.own j e x b at_j is_own))
        (λ e same x b is_own. mine x b (ap (λ (y : CoreState). y.own x) (same_Some next e same) ∙ is_own)) k d a byte (sym (ap (λ f. f k) cores_are) ∙ at_k) is;
    tidy = goes-tidy (Reads image cores) (Writes image cores) (Shares image cores) old new goes;
  }

  -- what it owned it still has
  pub still-has : (c : CoreState) → s.cores by ≡ Some c → Goes (Reads image cores) (Writes image cores) (Shares image cores) old new → Has c new by
  still-has c at goes a byte is = (goes.core by).masks (line_at image a) (offset_at image a) (seen.own by c a byte at is)

  -- its attempt begins, becomes straight or ends
  pub sets-seen : (t : FlatState) (next : Option CoreState) → t.cores ≡ with_core s.cores by next → ((c : CoreState) → next ≡ Some c → (a : ℕ) → c.own a ≡ None)
      → Sets (Reads image cores) (Writes image cores) (Shares image cores) old new by (attempt_by next) → IsSeen image cores t new
  sets-seen t next cores_are none sets = record {
    length = sets.beside.length ∙ seen.length;
    attempt = λ k. attempt_with next k (λ away. (sets.beside.others k away).attempt ∙ seen.attempt k) sets.attempt_is ∙ ap (λ f. attempt_by (f k)) (sym cores_are);
    limit = λ k below. elim (cases_eq k by) [
      | inl same ↦ subst (λ (n : ℕ). (new.core n).buffer.limit ≡ image.machine.buffer_lines) (sym same) (sets.limit ∙ seen.limit by (subst (λ (n : ℕ). n < cores) same below))
      | inr away ↦ (sets.beside.others k away).limit ∙ seen.limit k below
    ];
    own = λ k d a byte at_k is. own_with next (λ j e away at_j x b is_own. (sets.beside.others j away).masks (line_at image x) (offset_at image x) (seen.own j e x b at_j is_own))
        (λ e same x b is_own. let out = sym (none e same x) ∙ is_own in absurd cc) k d a byte (sym (ap (λ f. f k) cores_are) ∙ at_k) is;
    tidy = sets-tidy (Reads image cores) (Writes image cores) (Shares image cores) old new by (attempt_by next) sets;
  }

  -- the bytes of a store
  pub store-has : (c : CoreState) (address width value : ℕ) → IsMachineFor image.size image.machine → IsWidth width → address % width ≡ 0 → s.cores by ≡ Some c
      → Goes (Reads image cores) (Writes image cores) (Shares image cores) old new
      → ((x : ℕ) → is_within (offset_at image address) width x ≡ true → has (own new by (line_at image address)).marks.bytes x ≡ true)
      → (a byte : ℕ) → joined (stored address width value) c.own a ≡ Some byte → has ((new.core by).copy (line_at image a)).marks.bytes (offset_at image a) ≡ true
  store-has c address width value machine wide aligned at goes masks a byte is = elim (either (stored address width value a) (c.own a) byte is) [
    | inl now ↦
        (let within = covered address width value a now.0 now.1 in
        let from = within.0 in
        let to = within.1 in
        let i : ℕ = a - address in
        let below : i < width = omega (arith, from, to) in
        let at_a : address + i ≡ a = omega (arith, from) in
        subst (λ (n : ℕ). has ((new.core by).copy (line_at image n)).marks.bytes (offset_at image n) ≡ true) at_a (there i below))
    | inr before ↦ still-has c at goes a byte before
  ]
    where
      in_range : (offset i : ℕ) → i < width → is_within offset width (offset + i) ≡ true
      in_range offset i below = grind (arith, nat_tests)

      there : (i : ℕ) → i < width → has ((new.core by).copy (line_at image (address + i))).marks.bytes (offset_at image (address + i)) ≡ true
      there i below =
          subst (λ (m : ℕ). has ((new.core by).copy (image.machine.line_length * m)).marks.bytes (offset_at image (address + i)) ≡ true)
          (sym (line_is image machine address width wide aligned i below))
          (subst (λ (y : ℕ). has ((new.core by).copy (line_at image address)).marks.bytes y ≡ true) (sym (offset_is image machine address width wide aligned i below))
          (masks (offset_at image address + i) (in_range (offset_at image address) i below)))
