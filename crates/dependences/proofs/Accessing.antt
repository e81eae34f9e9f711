-- What a legal load or store keeps.
use Rattle.std.proofs.Common.{◌≡◌, ◌≢◌, ◌⊎◌, ℕ, ◌+◌, ◌<◌, ◌≤◌, ◌&&◌, Bool, true, false, cond, is_none, nat_le, nat_lt, slice_index, Option, Some, None, unwrap_or, refl, sym, ap, subst, ◌∙◌, inl, inr, true≢false, arith}
use Rattle.std.proofs.lemmas.Bool.{cases_Bool, cases_eq}
use Rattle.std.proofs.lemmas.Bool.Decides.{nat_tests}
use Rattle.rv32_image.specs.Image.{LoadedImage}
use Rattle.rv32_image.proofs.SmallFacts.{one_value}
use Rattle.memory_bytes.specs.Bytes.{number_at}
use Rattle.memory_bytes.specs.Maps.{joined, over, read_outside, stored}
use Rattle.memory_bytes.proofs.Bytes.{number_at_same, over-joined}
use Rattle.memory_bytes.proofs.SmallFacts.{seen_by}
use Rattle.rv32_exec.specs.declared.stop.Stop.TheVariants as stop
use Rattle.rv32_exec.specs.Hart.{stepped}
use Rattle.rv32_exec.specs.NextEvent.{next_event}
use Rattle.rv32_exec.specs.Arrival.{after_number}
use Rattle.spec_history.specs.declared.entry.What.TheVariants.{Load, Store}
use Rattle.spec_history.specs.FlatState.{CoreState, FlatState}
use Rattle.spec_history.specs.Effect.{with_core, effect_on}
use Rattle.spec_history.specs.Laws.{IsKept}
use Rattle.spec_history.proofs.OneEntry.Keeping.{with_core_same, with_core_other}
use Rattle.spec_history.proofs.OneEntry.Entries.{store_as}
use Rattle.epoch_paths.specs.InOrder.{memory_before}
use Rattle.dependences.specs.Conflict.{Conflict, PathReads, path_memory}
use Rattle.epoch_paths.specs.Kept.{IsAt}
use Rattle.epoch_paths.proofs.Paths.{either, past_load, past_store, path_stores, reads_there}
use Rattle.dependences.proofs.Windows.{IsInWindow}
use Rattle.dependences.proofs.Starting.{IsOrderly, OnPath, beside, core_reached, cores_with, unwritten, whatever_shown}
use Rattle.epoch_paths.proofs.Cores.{others_not}

-- ---- straight cores

-- a core that has published is another than one that has not
pub straight_is_other : (s : FlatState) (by k : ℕ) (c d : CoreState) → s.cores by ≡ Some c → c.straight ≡ false → s.cores k ≡ Some d → d.straight ≡ true → k ≢ by
straight_is_other s by k c d at speculative at_k straight e =
    let same : c ≡ d = one_value (s.cores by) c d at (sym (ap s.cores e) ∙ at_k) in
    true≢false (sym straight ∙ (sym (ap (λ (x : CoreState). x.straight) same) ∙ speculative))

-- a core that stays as straight as it was
still_straight : (s : FlatState) (by : ℕ) (c new : CoreState) → s.cores by ≡ Some c → new.straight ≡ c.straight → (k : ℕ) (d : CoreState) → s.cores k ≡ Some d → d.straight ≡ true
    → (j : ℕ) × (x : CoreState) × (with_core s.cores by (Some new) j ≡ Some x) × (x.straight ≡ true)
still_straight s by c new at stays k d at_k straight = elim (cases_eq k by) [
  | inl e ↦
      (let same : c ≡ d = one_value (s.cores by) c d at (sym (ap s.cores e) ∙ at_k) in
      (by, new, with_core_same s.cores by (Some new), stays ∙ (ap (λ (x : CoreState). x.straight) same ∙ straight)))
  | inr other ↦ (k, d, with_core_other s.cores by (Some new) k other ∙ at_k, straight)
]

-- ---- what a load gives

-- the homefree epoch has stored the byte, which a later one reads from outside
shown_conflicts : (image : LoadedImage) (cores : ℕ) (s : FlatState) (by : ℕ) (c : CoreState) (a byte : ℕ) → IsKept image cores s → IsInWindow cores s
    → (orderly : IsOrderly image cores s) → s.cores by ≡ Some c → c.straight ≡ false → PathReads image cores c.epoch a → orderly.shown a ≡ Some byte → Conflict image cores
shown_conflicts image cores s by c a byte kept window orderly at speculative reads is =
    let from = orderly.by_straight a byte is in
    let homefree : from.1.epoch ≡ s.homefree = (kept.core from.0 from.1 from.2).straight_homefree from.3 in
    let other = straight_is_other s by from.0 c from.1 at speculative from.2 from.3 in
    let apart : from.1.epoch ≢ c.epoch = λ same. other (kept.apart from.0 by from.1 c from.2 at same) in
    let was = kept.core by c at in
    let low = core_reached image cores s by c kept window at in record {
      earlier = from.1.epoch;
      later = c.epoch;
      byte = a;
      beside = beside image cores s by c from.1.epoch kept window orderly at (omega (arith, low, homefree)) (omega (arith, homefree, was.from, apart));
      in_order = orderly.done from.1.epoch (omega (arith, homefree));
      stores = path_stores ((orderly.core from.0 from.1 from.2).published from.3) a byte is;
      reads = reads;
    }

committed_by : (image : LoadedImage) (cores : ℕ) (s : FlatState) (by : ℕ) (c : CoreState) (a : ℕ) → IsKept image cores s → IsInWindow cores s
    → (orderly : IsOrderly image cores s) → (Conflict image cores → ⊥) → s.cores by ≡ Some c → c.straight ≡ false → PathReads image cores c.epoch a
    → (o : Option ℕ) → orderly.shown a ≡ o → s.committed a ≡ slice_index (path_memory image cores c.epoch) a
committed_by image cores s by c a kept window orderly free at speculative reads None is =
    orderly.committed a ∙ (ap (λ o. unwrap_or o (slice_index (memory_before image s.homefree) a)) is
    ∙ unwritten image cores s by c a kept window orderly free at reads)
committed_by image cores s by c a kept window orderly free at speculative reads (Some byte) is =
    absurd (free (shown_conflicts image cores s by c a byte kept window orderly at speculative reads is))

module _ (image : LoadedImage) (cores : ℕ) (s : FlatState) (by : ℕ) (c : CoreState) (kept : IsKept image cores s) (window : IsInWindow cores s)
    (orderly : IsOrderly image cores s) (free : Conflict image cores → ⊥) (runs : s.cores by ≡ Some c) where
  load_speculating : (address width : ℕ) (signed : Bool) (rd value : ℕ) → (next_event image c.hart).at ≡ stop.Load address width signed rd
      → number_at (over c.own s.committed) address width ≡ value → c.straight ≡ false
      → IsAt image c.epoch (path_memory image cores c.epoch) (after_number (next_event image c.hart).now (next_event image c.hart).at value) c.own
  load_speculating address width signed rd value is number speculative =
      let memory = path_memory image cores c.epoch in
      let on = (orderly.core by c runs).speculates speculative in
      past_load image c.epoch memory c.hart c.own address width signed rd value on is
      (number_at_same (over c.own (λ b. slice_index memory b)) (over c.own s.committed) address width
      (λ a low high. seen_by (c.own a) (slice_index memory a) (s.committed a)
      (λ none. sym (committed_by image cores s by c a kept window orderly free runs speculative
      (reads_there image c.epoch memory c.hart c.own on address width signed rd a is low high none) (orderly.shown a) refl))) ∙ number)

  load_straight : (address width : ℕ) (signed : Bool) (rd value : ℕ) → (next_event image c.hart).at ≡ stop.Load address width signed rd
      → number_at (over c.own s.committed) address width ≡ value → c.straight ≡ true
      → IsAt image c.epoch (path_memory image cores c.epoch) (after_number (next_event image c.hart).now (next_event image c.hart).at value) orderly.shown
  load_straight address width signed rd value is number straight =
      let memory = path_memory image cores c.epoch in
      let on = (orderly.core by c runs).published straight in
      past_load image c.epoch memory c.hart orderly.shown address width signed rd value on is
      (number_at_same (over orderly.shown (λ b. slice_index memory b)) (over c.own s.committed) address width
      (λ a low high. seen_by (orderly.shown a) (slice_index memory a) (slice_index (memory_before image s.homefree) a)
      (λ none. sym (unwritten image cores s by c a kept window orderly free runs
      (reads_there image c.epoch memory c.hart orderly.shown on address width signed rd a is low high none)))
      ∙ (sym (orderly.committed a) ∙ sym (ap (λ o. unwrap_or o (s.committed a)) ((kept.core by c runs).straight_owns straight a)))) ∙ number)

-- ---- loads

pub read_parts : (low high : Bool) (own : Option ℕ) (address width a byte here : ℕ) → nat_le address a ≡ low → nat_lt a (address + width) ≡ high
    → cond ((low && high) && is_none own) (Some here) None ≡ Some byte → (address ≤ a) × (a < address + width) × (own ≡ None)
read_parts true true None address width a byte here from below is = (grind (arith, nat_tests), grind (arith, nat_tests), refl)
read_parts true true (Some b) address width a byte here from below is = absurd cc
read_parts true false own address width a byte here from below is = absurd cc
read_parts false high own address width a byte here from below is = absurd cc

outside_by : (b : Bool) (f g : ℕ → Option ℕ) (a byte : ℕ) → cond b f g a ≡ Some byte → (f a ≡ Some byte) ⊎ ((b ≡ false) × (g a ≡ Some byte))
outside_by true f g a byte is = inl is
outside_by false f g a byte is = inr (refl, is)

read_now : (image : LoadedImage) (cores : ℕ) (s : FlatState) (shown : ℕ → Option ℕ) (c : CoreState) (address width : ℕ) (signed : Bool) (rd a byte : ℕ) → OnPath image cores shown c
    → c.straight ≡ false → (next_event image c.hart).at ≡ stop.Load address width signed rd
    → ((b : ℕ) × (read_outside address width c.own s.committed a ≡ Some b)) ⊎ (c.outside a ≡ Some byte) → PathReads image cores c.epoch a
read_now image cores s shown c address width signed rd a byte on speculative is (inl now) =
    let parts = read_parts (nat_le address a) (nat_lt a (address + width)) (c.own a) address width a now.0 (s.committed a) refl refl now.1 in
    reads_there image c.epoch (path_memory image cores c.epoch) c.hart c.own (on.speculates speculative) address width signed rd a is parts.0 parts.1 parts.2
read_now image cores s shown c address width signed rd a byte on speculative is (inr before) = on.reads a byte before

read_still : (image : LoadedImage) (cores : ℕ) (s : FlatState) (shown : ℕ → Option ℕ) (c : CoreState) (address width : ℕ) (signed : Bool) (rd a byte : ℕ) → OnPath image cores shown c
    → (next_event image c.hart).at ≡ stop.Load address width signed rd
    → (c.outside a ≡ Some byte) ⊎ ((c.straight ≡ false) × (joined (read_outside address width c.own s.committed) c.outside a ≡ Some byte)) → PathReads image cores c.epoch a
read_still image cores s shown c address width signed rd a byte on is (inl before) = on.reads a byte before
read_still image cores s shown c address width signed rd a byte on is (inr both) =
    read_now image cores s shown c address width signed rd a byte on both.0 is (either (read_outside address width c.own s.committed a) (c.outside a) byte both.1)

pub load_orderly : (image : LoadedImage) (cores : ℕ) (s : FlatState) (by : ℕ) (c : CoreState) → IsKept image cores s → IsInWindow cores s → IsOrderly image cores s
    → (Conflict image cores → ⊥) → s.cores by ≡ Some c → (address width : ℕ) (signed : Bool) (rd value : ℕ) → (next_event image c.hart).at ≡ stop.Load address width signed rd
    → number_at (over c.own s.committed) address width ≡ value → IsOrderly image cores (effect_on image s by c (Load address width value))
load_orderly image cores s by c kept window orderly free at address width signed rd value is number =
    let on = orderly.core by c at in
    let new : CoreState = record c {
      hart = after_number (next_event image c.hart).now (next_event image c.hart).at value;
      outside = cond c.straight c.outside (joined (read_outside address width c.own s.committed) c.outside);
    } in
    let here : OnPath image cores orderly.shown new = record {
      unhurt = on.unhurt;
      speculates = load_speculating image cores s by c kept window orderly free at address width signed rd value is number;
      published = load_straight image cores s by c kept window orderly free at address width signed rd value is number;
      reads = λ a byte some. read_still image cores s orderly.shown c address width signed rd a byte on is
          (outside_by c.straight c.outside (joined (read_outside address width c.own s.committed) c.outside) a byte some);
    } in record {
      shown = orderly.shown;
      committed = orderly.committed;
      by_straight = λ a byte some. let from = orderly.by_straight a byte some in still_straight s by c new at refl from.0 from.1 from.2 from.3;
      done = orderly.done;
      long = orderly.long;
      written = orderly.written;
      core = cores_with image cores orderly.shown s.cores by new here (λ k d other at_k. orderly.core k d at_k);
    }

-- ---- stores

store_speculating : (image : LoadedImage) (cores : ℕ) (s : FlatState) (by : ℕ) (c : CoreState) → IsOrderly image cores s → s.cores by ≡ Some c
    → (address width value : ℕ) → (next_event image c.hart).at ≡ stop.Store address width value → c.straight ≡ false
    → IsOrderly image cores (effect_on image s by c (Store address width value))
store_speculating image cores s by c orderly at address width value is speculative =
    let on = orderly.core by c at in
    let new : CoreState = record c { hart = stepped (next_event image c.hart).now; own = joined (stored address width value) c.own } in
    let here : OnPath image cores orderly.shown new = record {
      unhurt = on.unhurt;
      speculates = λ same. past_store image c.epoch (path_memory image cores c.epoch) c.hart c.own address width value (on.speculates speculative) is;
      published = λ straight. absurd (true≢false (sym straight ∙ speculative));
      reads = on.reads;
    } in
    subst (λ t. IsOrderly image cores t) (sym (store_as image s by c address width value false speculative)) (record {
      shown = orderly.shown;
      committed = orderly.committed;
      by_straight = λ a byte some. let from = orderly.by_straight a byte some in still_straight s by c new at refl from.0 from.1 from.2 from.3;
      done = orderly.done;
      long = orderly.long;
      written = orderly.written;
      core = cores_with image cores orderly.shown s.cores by new here (λ k d other at_k. orderly.core k d at_k);
    })

store_straight : (image : LoadedImage) (cores : ℕ) (s : FlatState) (by : ℕ) (c : CoreState) → IsKept image cores s → IsOrderly image cores s → s.cores by ≡ Some c
    → (address width value : ℕ) → (next_event image c.hart).at ≡ stop.Store address width value → c.straight ≡ true
    → IsOrderly image cores (effect_on image s by c (Store address width value))
store_straight image cores s by c kept orderly at address width value is straight =
    let on = orderly.core by c at in
    let homefree = (kept.core by c at).straight_homefree straight in
    let shown = joined (stored address width value) orderly.shown in
    let new : CoreState = record c { hart = stepped (next_event image c.hart).now } in
    let here : OnPath image cores shown new = record {
      unhurt = on.unhurt;
      speculates = λ speculative. absurd (true≢false (sym straight ∙ speculative));
      published = λ same. past_store image c.epoch (path_memory image cores c.epoch) c.hart orderly.shown address width value (on.published straight) is;
      reads = on.reads;
    } in
    subst (λ t. IsOrderly image cores t) (sym (store_as image s by c address width value true straight)) (record {
      shown = shown;
      committed = λ a. ap (unwrap_or (stored address width value a)) (orderly.committed a)
          ∙ sym (over-joined (stored address width value) orderly.shown (λ b. slice_index (memory_before image s.homefree) b) a);
      by_straight = λ a byte some. (by, new, with_core_same s.cores by (Some new), straight);
      done = orderly.done;
      long = orderly.long;
      written = orderly.written;
      core = cores_with image cores shown s.cores by new here
          (λ k d other at_k. whatever_shown image cores orderly.shown shown d (others_not image cores s by c kept at homefree k d other at_k) (orderly.core k d at_k));
    })

pub store_orderly : (image : LoadedImage) (cores : ℕ) (s : FlatState) (by : ℕ) (c : CoreState) → IsKept image cores s → IsOrderly image cores s → s.cores by ≡ Some c
    → (address width value : ℕ) → (next_event image c.hart).at ≡ stop.Store address width value
    → IsOrderly image cores (effect_on image s by c (Store address width value))
store_orderly image cores s by c kept orderly at address width value is = elim (cases_Bool c.straight) [
  | inl straight ↦ store_straight image cores s by c kept orderly at address width value is straight
  | inr speculative ↦ store_speculating image cores s by c orderly at address width value is speculative
]
