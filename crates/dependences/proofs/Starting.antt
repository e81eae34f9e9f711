-- What holds of the epochs that run, as long as nothing has been violated: each is on its path, and committed memory is that of the
-- run in order. At the start of the loop, and of an epoch.
use Rattle.std.proofs.Common.{◌≡◌, ◌≢◌, ◌⊎◌, ℕ, ◌+◌, ◌<◌, ◌≤◌, true, false, length, slice_index, Option, Some, None, refl, sym, ap, subst, ◌∙◌, inl, inr, true≢false, arith}
use Rattle.std.proofs.lemmas.Option.{same_Some}
use Rattle.rv32_image.specs.Image.{LoadedImage}
use Rattle.memory_bytes.specs.Maps.{nothing, over}
use Rattle.spec_history.specs.FlatState.{CoreState, FlatState, begun, first_state}
use Rattle.spec_history.specs.Effect.{with_core, effect_idle}
use Rattle.spec_history.specs.declared.entry.What.TheVariants.{Start}
use Rattle.spec_history.specs.Laws.{IsKept}
use Rattle.spec_history.proofs.OneEntry.Keeping.{at_core, with_core_other}
use Rattle.spec_history.proofs.OneEntry.Going.{Going}
use Rattle.epoch_paths.specs.InOrder.{IsInOrder, memory_before}
use Rattle.dependences.specs.Conflict.{AreBeside, Conflict, PathReads, PathStores, first_beside, path_memory}
use Rattle.epoch_paths.specs.Kept.{IsAt}
use Rattle.epoch_paths.proofs.Paths.{at_start}
use Rattle.dependences.proofs.Windows.{IsInWindow}
use Rattle.epoch_paths.proofs.Cores.{fresh}

-- a core is on the path of its epoch: with its own bytes, or, once it has published, with those that are shown
pub record OnPath (image : LoadedImage) (cores : ℕ) (shown : ℕ → Option ℕ) (c : CoreState) : Type 0 where
  pub unhurt : c.hurt ≡ false
  pub speculates : c.straight ≡ false → IsAt image c.epoch (path_memory image cores c.epoch) c.hart c.own
  pub published : c.straight ≡ true → IsAt image c.epoch (path_memory image cores c.epoch) c.hart shown
  pub reads : (a byte : ℕ) → c.outside a ≡ Some byte → PathReads image cores c.epoch a

-- the byte is as it was before this epoch, or one from it on, and before that one, stores it
abbrev pub IsWritten : LoadedImage → ℕ → ℕ → ℕ → ℕ → Type 0
IsWritten image cores from to a =
    (slice_index (memory_before image to) a ≡ slice_index (memory_before image from) a)
    ⊎ ((x : ℕ) × (from ≤ x) × (x < to) × PathStores image cores x a)

pub record IsOrderly (image : LoadedImage) (cores : ℕ) (s : FlatState) : Type 0 where
  -- the bytes that the homefree epoch has published
  pub shown : ℕ → Option ℕ
  pub committed : (a : ℕ) → s.committed a ≡ over shown (λ b. slice_index (memory_before image s.homefree) b) a
  pub by_straight : (a byte : ℕ) → shown a ≡ Some byte → (k : ℕ) × (c : CoreState) × (s.cores k ≡ Some c) × (c.straight ≡ true)
  pub done : (d : ℕ) → d ≤ s.homefree → IsInOrder image d
  pub long : (d : ℕ) → d ≤ s.homefree → length (memory_before image d) ≡ image.size
  pub written : (d : ℕ) → d ≤ s.homefree → (a : ℕ) → IsWritten image cores d s.homefree a
  pub core : (k : ℕ) (c : CoreState) → s.cores k ≡ Some c → OnPath image cores shown c

-- ---- the window

-- the first epoch beside one that runs is reached
pub reached : (cores homefree next_epoch epoch : ℕ) → next_epoch ≤ homefree + cores → epoch < next_epoch → homefree ≤ epoch → first_beside cores epoch ≤ homefree
reached cores homefree next_epoch epoch near below from = omega (arith, near, below, from)

pub core_reached : (image : LoadedImage) (cores : ℕ) (s : FlatState) (k : ℕ) (c : CoreState) → IsKept image cores s → IsInWindow cores s → s.cores k ≡ Some c
    → first_beside cores c.epoch ≤ s.homefree
core_reached image cores s k c kept window at =
    let was = kept.core k c at in reached cores s.homefree s.next_epoch c.epoch window.near was.below was.from

-- an epoch that is homefree, or committed in the window, is beside one that runs
pub beside : (image : LoadedImage) (cores : ℕ) (s : FlatState) (k : ℕ) (c : CoreState) (earlier : ℕ) → IsKept image cores s → IsInWindow cores s → IsOrderly image cores s
    → s.cores k ≡ Some c → first_beside cores c.epoch ≤ earlier → earlier < c.epoch → AreBeside image cores earlier c.epoch
beside image cores s k c earlier kept window orderly at from before =
    let was = kept.core k c at in record {
      from = from;
      before = before;
      within = omega (arith, was.below, kept.started);
      starts = orderly.done (first_beside cores c.epoch) (core_reached image cores s k c kept window at);
    }

-- a byte that a core reads from outside is, before the homefree epoch, as it is in the memory of its path
pub unwritten : (image : LoadedImage) (cores : ℕ) (s : FlatState) (k : ℕ) (c : CoreState) (a : ℕ) → IsKept image cores s → IsInWindow cores s → IsOrderly image cores s
    → (Conflict image cores → ⊥) → s.cores k ≡ Some c → PathReads image cores c.epoch a
    → slice_index (memory_before image s.homefree) a ≡ slice_index (path_memory image cores c.epoch) a
unwritten image cores s k c a kept window orderly free at reads =
    let was = kept.core k c at in
    elim (orderly.written (first_beside cores c.epoch) (core_reached image cores s k c kept window at) a) [
      | inl same ↦ same
      | inr x ↦ absurd (free (record {
        earlier = x.0;
        later = c.epoch;
        byte = a;
        beside = beside image cores s k c x.0 kept window orderly at x.1 (omega (arith, x.2, was.from));
        in_order = orderly.done x.0 (omega (arith, x.2));
        stores = x.3;
        reads = reads;
      }))
    ]

-- ---- one core changed

pub cores_with : (image : LoadedImage) (cores : ℕ) (shown : ℕ → Option ℕ) (old : ℕ → Option CoreState) (by : ℕ) (new : CoreState) → OnPath image cores shown new
    → ((k : ℕ) (c : CoreState) → k ≢ by → old k ≡ Some c → OnPath image cores shown c)
    → (k : ℕ) (c : CoreState) → with_core old by (Some new) k ≡ Some c → OnPath image cores shown c
cores_with image cores shown old by new here others k c at = elim (at_core old by (Some new) k c at) [
  | inl same ↦ subst (λ x. OnPath image cores shown x) (same_Some new c same.1) here
  | inr other ↦ others k c other.0 other.1
]

-- a core that has not published is on its path whatever is shown
pub whatever_shown : (image : LoadedImage) (cores : ℕ) (shown shown' : ℕ → Option ℕ) (c : CoreState) → c.straight ≡ false → OnPath image cores shown c → OnPath image cores shown' c
whatever_shown image cores shown shown' c speculative on = record {
  unhurt = on.unhurt;
  speculates = on.speculates;
  published = λ straight. absurd (true≢false (sym straight ∙ speculative));
  reads = on.reads;
}

-- ---- the loop's start

up_to_none : (P : ℕ → Type 0) (d : ℕ) → d ≤ 0 → P 0 → P d
up_to_none P d most here = let none : 0 ≡ d = omega (arith, most) in subst P none here

pub first_orderly : (image : LoadedImage) (cores : ℕ) → Going image cores (first_state image) → IsOrderly image cores (first_state image)
first_orderly image cores going =
    let begin = fresh image cores (first_state image) going refl in record {
      shown = nothing;
      committed = begin.same;
      by_straight = λ a byte is. absurd cc;
      done = λ d most. up_to_none (λ n. IsInOrder image n) d most begin.done;
      long = λ d most. up_to_none (λ n. length (memory_before image n) ≡ image.size) d most begin.long;
      written = λ d most a. up_to_none (λ n. IsWritten image cores n 0 a) d most (inl refl);
      core = λ k c at. absurd cc;
    }

-- ---- an epoch's start

begun_on : (image : LoadedImage) (cores epoch : ℕ) (shown : ℕ → Option ℕ) → length (path_memory image cores epoch) ≡ image.size → OnPath image cores shown (begun image epoch)
begun_on image cores epoch shown long = record {
  unhurt = refl;
  speculates = λ same. at_start image epoch (path_memory image cores epoch) long;
  published = λ straight. absurd (true≢false (sym straight));
  reads = λ a byte is. absurd cc;
}

idle_is_other : (s : FlatState) (by k : ℕ) (c : CoreState) → s.cores by ≡ None → s.cores k ≡ Some c → k ≢ by
idle_is_other s by k c idle at same = let here : s.cores k ≡ s.cores by = ap s.cores same in cc

pub start_orderly : (image : LoadedImage) (cores : ℕ) (s : FlatState) (by epoch : ℕ) → s.cores by ≡ None → first_beside cores epoch ≤ s.homefree
    → IsOrderly image cores s → IsOrderly image cores (effect_idle image s by (Start epoch))
start_orderly image cores s by epoch idle low orderly =
    let new = begun image epoch in record {
      shown = orderly.shown;
      committed = orderly.committed;
      by_straight = λ a byte is. let old = orderly.by_straight a byte is in
          (old.0, old.1, with_core_other s.cores by (Some new) old.0 (idle_is_other s by old.0 old.1 idle old.2) ∙ old.2, old.3);
      done = orderly.done;
      long = orderly.long;
      written = orderly.written;
      core = cores_with image cores orderly.shown s.cores by new (begun_on image cores epoch orderly.shown (orderly.long (first_beside cores epoch) low))
          (λ k c other at. orderly.core k c at);
    }
