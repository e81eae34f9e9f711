-- The epochs that run, and the bus that has their bytes: they may tell each other of their lines.
use Rattle.std.proofs.Common.{◌≡◌, ◌≢◌, ◌⊎◌, ℕ, ◌+◌, ◌-◌, ◌*◌, ◌/◌, ◌%◌, ◌<◌, ◌≤◌, not, nat_lt, Bool, true, false, is_none, Option, Some, None, refl, sym, ap, subst, ◌∙◌, inl, inr, arith, ltb-true}
use Rattle.std.proofs.Math.Path.{fun_ext}
use Rattle.std.proofs.lemmas.Bool.{both_ways, cases_Bool, cases_eq, cases_lt, not-false, not-true}
use Rattle.std.proofs.lemmas.Bool.Decides.{nat_tests}
use Rattle.memory_bytes.specs.Bytes.{IsWidth}
use Rattle.rv32_image.specs.Image.{LoadedImage}
use Rattle.rv32_image.specs.Machine.{IsMachineFor, is_line_length}
use Rattle.rv32_image.specs.Places.{place}
use Rattle.rv32_image.proofs.Bounds.{by_length}
use Rattle.rv32_image.proofs.Places.{place-word, place-aligned}
use Rattle.rv32_image.proofs.SmallFacts.{none_of, value_of}
use Rattle.rv32_exec.specs.declared.stop.Stop.{Stop}
use Rattle.rv32_exec.specs.declared.stop.Stop.TheVariants as stop
use Rattle.rv32_exec.specs.Execute.{IsAccess, IsStore, IsStopOf}
use Rattle.rv32_exec.specs.Hart.{HartState}
use Rattle.rv32_exec.specs.NextEvent.{next_event}
use Rattle.rv32_exec.proofs.Accesses.{stop_of_event}
use Rattle.spec_history.specs.FlatState.{CoreState, FlatState}
use Rattle.spec_history.specs.Conflict.{line_number}
use Rattle.spec_history.specs.Refusal.{any_below}
use Rattle.spec_history.proofs.OneEntry.Going.{Going}
use Rattle.spec_history.proofs.OneEntry.Legal.{none_below, some_below}
use Rattle.spec_states.specs.Mask.{has, has_all, is_within}
use Rattle.spec_states.specs.Tables.{marks_of}
use Rattle.spec_states.proofs.MaskLaws.{access-within, has_all-from, width-bounds}
use Rattle.violations.specs.declared.attempt.Attempt.{Attempt}
use Rattle.violations.specs.View.{attempt_of, epoch_of}
use Rattle.bus_states.specs.declared.notice.Notice.{Notice}
use Rattle.bus_states.specs.declared.notice.Notice.TheVariants.{Load, Publish}
use Rattle.bus_states.specs.Bus.{Bus, line_of, offset_of}
use Rattle.bus_states.specs.Coherent.{speculates}
use Rattle.bus_states.specs.Speculative.{own}
use Rattle.bus_states.proofs.Addresses.{offset-aligned, offset-in_line}
use Rattle.dependences.specs.Conflict.{LineConflict, StoresIn, path_memory}
use Rattle.dependences.specs.Shared.{RunBeside, SharedOverflow, TouchesIn}
use Rattle.dependences.proofs.Meetings.{two_beside}
use Rattle.epoch_paths.specs.Kept.{IsAt}
use Rattle.epoch_paths.proofs.Paths.{loads_there, reads_there, stores_there}
use Rattle.dependences.proofs.Starting.{IsOrderly}
use Rattle.dependences.proofs.Windows.{IsInWindow}
use Rattle.never_or_shown.proofs.Messages.{MayHear}
use Rattle.never_or_shown.proofs.Accesses.{AreTidy, MayTell, attempts, limits}
use Rattle.never_or_shown.proofs.Tidy.{carried-mask}
use Rattle.never_or_shown.proofs.Lines.{Reads, Shares, Writes, conflict_of, fits_of, share_of}

-- where a byte of memory lies on the bus
abbrev pub line_at : LoadedImage → ℕ → ℕ
line_at image a = line_of image.machine.line_length (place image.machine image.size a)

abbrev pub offset_at : LoadedImage → ℕ → ℕ
offset_at image a = offset_of image.machine.line_length (place image.machine image.size a)

-- what a core attempts
abbrev pub attempt_by : Option CoreState → Option Attempt
attempt_by None = None
attempt_by (Some c) = Some (attempt_of c.epoch c.straight)

-- the cores of the bus are those of the state, have its bytes, and are in order
pub record IsSeen (image : LoadedImage) (cores : ℕ) (s : FlatState) (bus : Bus) : Type 0 where
  pub length : bus.line_length ≡ image.machine.line_length
  pub attempt : (k : ℕ) → (bus.core k).attempt ≡ attempt_by (s.cores k)
  pub limit : (k : ℕ) → k < cores → (bus.core k).buffer.limit ≡ image.machine.buffer_lines
  pub own : (k : ℕ) (c : CoreState) (a byte : ℕ) → s.cores k ≡ Some c → c.own a ≡ Some byte → has ((bus.core k).copy (line_at image a)).marks.bytes (offset_at image a) ≡ true
  pub tidy : AreTidy (Reads image cores) (Writes image cores) (Shares image cores) bus

-- ---- an access, and its bytes in their line

in_line : (n p i : ℕ) → is_line_length n ≡ true → p % n + i < n → ((p + i) / n ≡ p / n) × ((p + i) % n ≡ p % n + i)
in_line n p i h =
    by_length (λ m. p % m + i < m → ((p + i) / m ≡ p / m) × ((p + i) % m ≡ p % m + i)) n h
    (λ b. (omega (arith, b), omega (arith, b))) (λ b. (omega (arith, b), omega (arith, b))) (λ b. (omega (arith, b), omega (arith, b)))

module _ (image : LoadedImage) (machine : IsMachineFor image.size image.machine) (address width : ℕ) (wide : IsWidth width) (aligned : address % width ≡ 0) where
  pub some_byte : 0 < width
  some_byte = (width-bounds width wide).0

  lies : offset_at image address + width ≤ image.machine.line_length
  lies =
      let n : ℕ = image.machine.line_length in
      let p : ℕ = place image.machine image.size address in
      access-within (offset_of n p) width n wide
      (offset-aligned n p width machine.is.line_length wide (place-aligned image.machine image.size width address machine wide aligned))
      (offset-in_line n p machine.is.line_length)
      (by_length (λ m. m % 4 ≡ 0) n machine.is.line_length (omega arith) (omega arith) (omega arith))

  byte_in : (i : ℕ) → i < width → place image.machine image.size (address + i) ≡ place image.machine image.size address + i
  byte_in i below = place-word image.machine image.size width address i machine (record { wide = wide; aligned = aligned; inside = below })

  in_its : (i : ℕ) → i < width → (line_number image (address + i) ≡ line_number image address) × (offset_at image (address + i) ≡ offset_at image address + i)
  in_its i below =
      let n : ℕ = image.machine.line_length in
      let p : ℕ = place image.machine image.size address in
      let fits = lies in
      let both = in_line n p i machine.is.line_length (omega (arith, fits, below)) in
      (ap (λ q. q / n) (byte_in i below) ∙ both.0, ap (λ q. q % n) (byte_in i below) ∙ both.1)

  pub line_is : (i : ℕ) → i < width → line_number image (address + i) ≡ line_number image address
  line_is i below = (in_its i below).0

  pub offset_is : (i : ℕ) → i < width → offset_at image (address + i) ≡ offset_at image address + i
  offset_is i below = (in_its i below).1

pub load_access : (image : LoadedImage) (h : HartState) (address width : ℕ) (signed : Bool) (rd : ℕ) → (next_event image h).at ≡ stop.Load address width signed rd
    → IsAccess image (next_event image h).now address width
load_access image h address width signed rd is = subst (λ (a : Stop). IsStopOf image (next_event image h).now a) is (stop_of_event image h)

pub store_access : (image : LoadedImage) (h : HartState) (address width value : ℕ) → (next_event image h).at ≡ stop.Store address width value
    → IsAccess image (next_event image h).now address width
store_access image h address width value is = let store : IsStore image (next_event image h).now address width value = subst (λ (a : Stop). IsStopOf image (next_event image h).now a) is (stop_of_event image h) in store.access

-- ---- the epochs that run

-- a core that speculates on the bus runs
pub runs_so : (o : Option CoreState) → speculates (attempt_by o) ≡ true → (c : CoreState) × (o ≡ Some c) × (c.straight ≡ false)
runs_so None is = absurd cc
runs_so (Some c) is = (c, refl, not-true c.straight is)

pub speculates_so : (o : Option CoreState) (c : CoreState) → o ≡ Some c → c.straight ≡ false → speculates (attempt_by o) ≡ true
speculates_so o c is speculative = ap (λ x. speculates (attempt_by x)) is ∙ ap not speculative

pub quiet_so : (o : Option CoreState) (c : CoreState) → o ≡ Some c → c.straight ≡ true → speculates (attempt_by o) ≡ false
quiet_so o c is straight = ap (λ x. speculates (attempt_by x)) is ∙ ap not straight

module _ (image : LoadedImage) (cores : ℕ) (machine : IsMachineFor image.size image.machine) (s : FlatState) (going : Going image cores s) (window : IsInWindow cores s)
    (orderly : IsOrderly image cores s) where
  pub beside_of : (j k : ℕ) (c d : CoreState) → s.cores j ≡ Some c → s.cores k ≡ Some d → j ≢ k → RunBeside image cores c.epoch d.epoch
  beside_of j k c d at_j at_k away = elim (cases_lt c.epoch d.epoch) [
    | inl lower ↦ inl (two_beside image cores s going window orderly j k c d at_j at_k lower)
    | inr up ↦ elim (cases_eq c.epoch d.epoch) [
      | inl same ↦ absurd (away (going.kept.apart j k c d at_j at_k same))
      | inr other ↦ inr (two_beside image cores s going window orderly k j d c at_k at_j (omega (arith, up, other)))
    ]
  ]

  at_event : (k : ℕ) (c : CoreState) → s.cores k ≡ Some c → (own_bytes : ℕ → Option ℕ) × IsAt image c.epoch (path_memory image cores c.epoch) c.hart own_bytes
  at_event k c at = elim (cases_Bool c.straight) [
    | inl straight ↦ (orderly.shown, (orderly.core k c at).published straight)
    | inr speculative ↦ (c.own, (orderly.core k c at).speculates speculative)
  ]

  -- ---- what its next event touches

  pub load_touches : (k : ℕ) (c : CoreState) (address width : ℕ) (signed : Bool) (rd : ℕ) → s.cores k ≡ Some c → (next_event image c.hart).at ≡ stop.Load address width signed rd
      → TouchesIn image c.epoch (path_memory image cores c.epoch) (line_number image address)
  load_touches k c address width signed rd at is =
      let own_bytes = at_event k c at in
      let some = (width-bounds width (load_access image c.hart address width signed rd is).wide).0 in record {
        at = address;
        in_line = refl;
        touches = record {
          step = (next_event image c.hart).now.done;
          there = inl (loads_there image c.epoch (path_memory image cores c.epoch) c.hart own_bytes.0 own_bytes.1 address width signed rd address is (omega arith) (omega (arith, some)));
        };
      }

  pub store_stores : (k : ℕ) (c : CoreState) (address width value : ℕ) → s.cores k ≡ Some c → (next_event image c.hart).at ≡ stop.Store address width value
      → StoresIn image c.epoch (path_memory image cores c.epoch) (line_number image address)
  store_stores k c address width value at is =
      let own_bytes = at_event k c at in
      let some = (width-bounds width (store_access image c.hart address width value is).wide).0 in record {
        at = address;
        in_line = refl;
        stores = record {
          step = (next_event image c.hart).now.done;
          there = stores_there image c.epoch (path_memory image cores c.epoch) c.hart own_bytes.0 own_bytes.1 address width value address is (omega arith) (omega (arith, some));
        };
      }

  -- ---- messages

  module _ (bus : Bus) (seen : IsSeen image cores s bus) (free : LineConflict image cores → ⊥) (room : SharedOverflow image cores → ⊥) where
    pub attempts_are : attempts bus ≡ (λ k. attempt_by (s.cores k))
    attempts_are = fun_ext seen.attempt

    pub limits_are : (k : ℕ) → speculates (attempt_by (s.cores k)) ≡ true → limits bus k ≡ image.machine.buffer_lines
    limits_are k is = let found = runs_so (s.cores k) is in seen.limit k (going.kept.core k found.0 found.1).there

    module _ (by : ℕ) (c : CoreState) (at : s.cores by ≡ Some c) (addr n : ℕ) (line : addr ≡ image.machine.line_length * n) (notice : Notice)
        (touches : TouchesIn image c.epoch (path_memory image cores c.epoch) n) (writes : notice ≢ Load → Writes image cores c.epoch addr)
        (first : notice ≡ Publish → c.epoch ≡ s.homefree) where
      before : (k : ℕ) (d : CoreState) → k ≢ by → s.cores k ≡ Some d → (notice ≡ Publish) ⊎ (nat_lt (epoch_of (attempt_by (s.cores by))) d.epoch ≡ true) → c.epoch < d.epoch
      before k d away at_k (inl publish) =
          let homefree = first publish in
          let from = (going.kept.core k d at_k).from in
          elim (cases_eq c.epoch d.epoch) [
            | inl same ↦ absurd (away (sym (going.kept.apart by k c d at at_k same)))
            | inr other ↦ omega (arith, homefree, from, other)
          ]
      before k d away at_k (inr later) = ltb-true c.epoch d.epoch (sym (ap (λ o. nat_lt (epoch_of (attempt_by o)) d.epoch) at) ∙ later)

      hear : (k : ℕ) → k ≢ by → (o : Option CoreState) → s.cores k ≡ o → speculates (attempt_by o) ≡ true
          → MayHear (Reads image cores (epoch_of (attempt_by o))) (Writes image cores (epoch_of (attempt_by o))) (Shares image cores (epoch_of (attempt_by o))) notice addr
          (nat_lt (epoch_of (attempt_by (s.cores by))) (epoch_of (attempt_by o))) image.machine.buffer_lines
      hear k away None at_k is = absurd cc
      hear k away (Some d) at_k is = record {
        share = share_of image cores machine.is.line_length c.epoch d.epoch n addr line (beside_of by k c d at at_k (λ same. away (sym same))) touches;
        spares = λ why load reads. conflict_of image cores machine.is.line_length free c.epoch d.epoch addr
            (two_beside image cores s going window orderly by k c d at at_k (before k d away at_k why)) (writes load) reads;
        fits = λ later. fits_of image cores machine.is.line_length room c.epoch d.epoch n addr line
            (two_beside image cores s going window orderly by k c d at at_k (before k d away at_k (inr later))) touches;
      }

      pub may_tell : MayTell (Reads image cores) (Writes image cores) (Shares image cores) (attempts bus) (limits bus) by notice addr image.machine.buffer_lines
      may_tell = subst (λ (x : ℕ → Option Attempt). MayTell (Reads image cores) (Writes image cores) (Shares image cores) x (limits bus) by notice addr image.machine.buffer_lines)
          (sym attempts_are) (record { hear = λ k away. hear k away (s.cores k) refl; limits_are = limits_are })

    -- ---- the core's own bytes

    -- a load of a byte that isn't in the mask reads the line from outside
    pub load_reads : (k : ℕ) (c : CoreState) (address width : ℕ) (signed : Bool) (rd : ℕ) → s.cores k ≡ Some c → c.straight ≡ false
        → (next_event image c.hart).at ≡ stop.Load address width signed rd
        → has_all (marks_of (own bus k (line_at image address)).state (own bus k (line_at image address)).marks).bytes (offset_at image address) width ≡ false
        → Reads image cores c.epoch (line_at image address)
    load_reads k c address width signed rd at speculative is out = elim (cases_Bool (any_below width (λ i. is_none (c.own (address + i))))) [
      | inl some ↦
          (let found = some_below width (λ i. is_none (c.own (address + i))) some in
          record {
            number = line_number image address;
            is = refl;
            holds_of = record {
              at = address + found.0;
              in_line = line_is image machine address width access.wide access.aligned found.0 found.1;
              reads = reads_there image c.epoch (path_memory image cores c.epoch) c.hart c.own ((orderly.core k c at).speculates speculative) address width signed rd (address + found.0) is
                  (omega arith) (let below = found.1 in omega (arith, below)) (none_of (c.own (address + found.0)) (not-true _ found.2));
            };
          })
      | inr none ↦ absurd (both_ways (has_all (marks_of (own bus k (line_at image address)).state (own bus k (line_at image address)).marks).bytes (offset_at image address) width) out
          (has_all-from (marks_of (own bus k (line_at image address)).state (own bus k (line_at image address)).marks).bytes (offset_at image address) width (λ x within. all none x within)))
    ]
      where
        access : IsAccess image (next_event image c.hart).now address width
        access = load_access image c.hart address width signed rd is

        all : any_below width (λ i. is_none (c.own (address + i))) ≡ false → (x : ℕ) → is_within (offset_at image address) width x ≡ true
            → has (marks_of (own bus k (line_at image address)).state (own bus k (line_at image address)).marks).bytes x ≡ true
        all none x within =
            let low : offset_at image address ≤ x = grind (arith, nat_tests) in
            let high : x < offset_at image address + width = grind (arith, nat_tests) in
            let i : ℕ = x - offset_at image address in
            let below : i < width = omega (arith, low, high) in
            let byte = value_of (c.own (address + i)) (not-false _ (none_below width (λ j. is_none (c.own (address + j))) none i below)) in
            let had = seen.own k c (address + i) byte.0 at byte.1 in
            let line = line_is image machine address width access.wide access.aligned i below in
            let offset : offset_at image (address + i) ≡ x = offset_is image machine address width access.wide access.aligned i below ∙ omega (arith, low) in
            carried-mask (own bus k (line_at image address)).state (own bus k (line_at image address)).marks x ((seen.tidy k).fit (line_at image address)).right
            (subst (λ (y : ℕ). has ((bus.core k).copy (line_at image address)).marks.bytes y ≡ true) offset
            (subst (λ (m : ℕ). has ((bus.core k).copy (image.machine.line_length * m)).marks.bytes (offset_at image (address + i)) ≡ true) line had))
