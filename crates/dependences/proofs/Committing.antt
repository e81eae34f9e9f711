-- What a legal publishing, commit or cancellation keeps.
use Rattle.std.proofs.Common.{◌≡◌, ◌≢◌, ◌⊎◌, ℕ, ◌+◌, ◌<◌, ◌≤◌, true, false, slice_index, Option, Some, None, unwrap_or, refl, sym, ap, subst, ◌∙◌, inl, inr, true≢false, arith}
use Rattle.std.proofs.lemmas.Bool.{cases_Bool, cases_eq}
use Rattle.std.proofs.lemmas.Option.{none-some}
use Rattle.rv32_image.specs.Image.{LoadedImage}
use Rattle.memory_bytes.specs.Maps.{nothing, over}
use Rattle.spec_history.specs.declared.entry.What.TheVariants.{Cancel, Publish, Commit}
use Rattle.spec_history.specs.FlatState.{CoreState, FlatState}
use Rattle.spec_history.specs.Effect.{effect_on}
use Rattle.spec_history.specs.Laws.{IsKept}
use Rattle.spec_history.proofs.OneEntry.Keeping.{at_core, with_core_same}
use Rattle.spec_history.proofs.OneEntry.Entries.{still_runs, runs_on}
use Rattle.spec_history.proofs.OneEntry.Going.{Going}
use Rattle.epoch_paths.specs.InOrder.{IsInOrder, memory_before}
use Rattle.dependences.specs.Conflict.{PathStores}
use Rattle.epoch_paths.proofs.Paths.{path_stores}
use Rattle.epoch_paths.proofs.Cores.{fresh, others_not}
use Rattle.dependences.proofs.Starting.{IsOrderly, IsWritten, OnPath, cores_with, whatever_shown}
use Rattle.dependences.proofs.Accessing.{straight_is_other}

-- ---- publishing

none_by : (image : LoadedImage) (cores : ℕ) (s : FlatState) (by : ℕ) (c : CoreState) (a : ℕ) → IsKept image cores s → (orderly : IsOrderly image cores s) → s.cores by ≡ Some c
    → c.epoch ≡ s.homefree → c.straight ≡ false → (o : Option ℕ) → orderly.shown a ≡ o → orderly.shown a ≡ None
none_by image cores s by c a kept orderly at homefree speculative None is = is
none_by image cores s by c a kept orderly at homefree speculative (Some byte) is =
    let from = orderly.by_straight a byte is in
    let other = straight_is_other s by from.0 c from.1 at speculative from.2 from.3 in
    absurd (true≢false (sym from.3 ∙ others_not image cores s by c kept at homefree from.0 from.1 other from.2))

pub publish_orderly : (image : LoadedImage) (cores : ℕ) (s : FlatState) (by : ℕ) (c : CoreState) → IsKept image cores s → IsOrderly image cores s → s.cores by ≡ Some c
    → c.epoch ≡ s.homefree → c.straight ≡ false → IsOrderly image cores (effect_on image s by c Publish)
publish_orderly image cores s by c kept orderly at homefree speculative =
    let on = orderly.core by c at in
    let new : CoreState = record c { own = nothing; outside = nothing; straight = true } in
    let here : OnPath image cores c.own new = record {
      unhurt = on.unhurt;
      speculates = λ same. absurd (true≢false same);
      published = λ same. on.speculates speculative;
      reads = λ a byte is. absurd cc;
    } in record {
      shown = c.own;
      committed = λ a. ap (unwrap_or (c.own a)) (orderly.committed a
          ∙ ap (λ o. unwrap_or o (slice_index (memory_before image s.homefree) a)) (none_by image cores s by c a kept orderly at homefree speculative (orderly.shown a) refl));
      by_straight = λ a byte some. (by, new, with_core_same s.cores by (Some new), refl);
      done = orderly.done;
      long = orderly.long;
      written = orderly.written;
      core = cores_with image cores c.own s.cores by new here
          (λ k d other at_k. whatever_shown image cores orderly.shown c.own d (others_not image cores s by c kept at homefree k d other at_k) (orderly.core k d at_k));
    }

-- ---- commits

-- a byte that a core has stored and not committed, its path stores
pub own_stored : (image : LoadedImage) (cores : ℕ) (s : FlatState) (by : ℕ) (c : CoreState) (a byte : ℕ) → IsKept image cores s → IsOrderly image cores s → s.cores by ≡ Some c
    → c.own a ≡ Some byte → PathStores image cores c.epoch a
own_stored image cores s by c a byte kept orderly at is = elim (cases_Bool c.straight) [
  | inl straight ↦ (let none = (kept.core by c at).straight_owns straight a in absurd cc)
  | inr speculative ↦ path_stores ((orderly.core by c at).speculates speculative) a byte is
]

-- what a commit changes, its epoch's path stores
now_by : (image : LoadedImage) (cores : ℕ) (s : FlatState) (by : ℕ) (c : CoreState) (a : ℕ) → IsKept image cores s → (orderly : IsOrderly image cores s) → s.cores by ≡ Some c
    → c.epoch ≡ s.homefree → over c.own s.committed a ≡ slice_index (memory_before image (s.homefree + 1)) a → (own shown : Option ℕ) → c.own a ≡ own → orderly.shown a ≡ shown
    → (slice_index (memory_before image (s.homefree + 1)) a ≡ slice_index (memory_before image s.homefree) a) ⊎ PathStores image cores s.homefree a
now_by image cores s by c a kept orderly at homefree same (Some byte) shown is_own is_shown =
    inr (subst (λ e. PathStores image cores e a) homefree (own_stored image cores s by c a byte kept orderly at is_own))
now_by image cores s by c a kept orderly at homefree same None (Some byte) is_own is_shown =
    let from = orderly.by_straight a byte is_shown in
    let homefree' : from.1.epoch ≡ s.homefree = (kept.core from.0 from.1 from.2).straight_homefree from.3 in
    inr (subst (λ e. PathStores image cores e a) homefree' (path_stores ((orderly.core from.0 from.1 from.2).published from.3) a byte is_shown))
now_by image cores s by c a kept orderly at homefree same None None is_own is_shown =
    inl (sym same ∙ (ap (λ o. unwrap_or o (s.committed a)) is_own
    ∙ (orderly.committed a ∙ ap (λ o. unwrap_or o (slice_index (memory_before image s.homefree) a)) is_shown)))

pub later_by : (image : LoadedImage) (cores d h a : ℕ) → d ≤ h → (slice_index (memory_before image (h + 1)) a ≡ slice_index (memory_before image h) a) ⊎ PathStores image cores h a
    → IsWritten image cores d h a → IsWritten image cores d (h + 1) a
later_by image cores d h a most (inr stores) before = inr (h, most, omega arith, stores)
later_by image cores d h a most (inl same) (inl before) = inl (same ∙ before)
later_by image cores d h a most (inl same) (inr x) = inr (x.0, x.1, omega (arith, x.2), x.3)

-- for each epoch up to the next one, where it is so up to this one and of the next one
pub up_to_next : (P : ℕ → Type 0) (h : ℕ) → ((d : ℕ) → d ≤ h → P d) → P (h + 1) → (d : ℕ) → d ≤ h + 1 → P d
up_to_next P h before next d most = elim (cases_eq d (h + 1)) [
  | inl e ↦ subst P (sym e) next
  | inr other ↦ before d (omega (arith, most, other))
]

pub commit_orderly : (image : LoadedImage) (cores : ℕ) (s : FlatState) (by : ℕ) (c : CoreState) → IsKept image cores s → IsOrderly image cores s → s.cores by ≡ Some c
    → c.epoch ≡ s.homefree → Going image cores (effect_on image s by c Commit) → IsOrderly image cores (effect_on image s by c Commit)
commit_orderly image cores s by c kept orderly at homefree going =
    let now = fresh image cores (effect_on image s by c Commit) going refl in record {
      shown = nothing;
      committed = now.same;
      by_straight = λ a byte is. absurd cc;
      done = up_to_next (λ d. IsInOrder image d) s.homefree orderly.done now.done;
      long = up_to_next _ s.homefree orderly.long now.long;
      written = λ d most a. up_to_next (λ n. IsWritten image cores n (s.homefree + 1) a) s.homefree
          (λ n low. later_by image cores n s.homefree a low
          (now_by image cores s by c a kept orderly at homefree (now.same a) (c.own a) (orderly.shown a) refl refl) (orderly.written n low a))
          (inl refl) d most;
      core = λ k d at_k. elim (at_core s.cores by None k d at_k) [
        | inl same ↦ absurd (none-some d same.1)
        | inr other ↦ whatever_shown image cores orderly.shown nothing d (others_not image cores s by c kept at homefree k d other.0 other.1) (orderly.core k d other.1)
      ];
    }

-- ---- cancellations

pub cancel_orderly : (image : LoadedImage) (cores : ℕ) (s : FlatState) (by : ℕ) (c : CoreState) (epoch : ℕ) → IsKept image cores s → IsOrderly image cores s → s.homefree < epoch
    → IsOrderly image cores (effect_on image s by c (Cancel epoch))
cancel_orderly image cores s by c epoch kept orderly later = record {
  shown = orderly.shown;
  committed = orderly.committed;
  by_straight = λ a byte is. let from = orderly.by_straight a byte is in
      let homefree : from.1.epoch ≡ s.homefree = (kept.core from.0 from.1 from.2).straight_homefree from.3 in
      let other : from.1.epoch ≢ epoch = omega (arith, homefree, later) in
      (from.0, from.1, runs_on epoch (s.cores from.0) from.1 from.2 other, from.3);
  done = orderly.done;
  long = orderly.long;
  written = orderly.written;
  core = λ k d at. orderly.core k d (still_runs epoch (s.cores k) d at);
}
