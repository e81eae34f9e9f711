-- What a legal entry keeps of the whole machine, while the loop is not over.
use Rattle.std.proofs.Common.{◌≡◌, ◌≢◌, ℕ, ◌≤◌, true, false, List, length, slice_index, Option, Some, unwrap_or, refl, sym, ap, subst, ◌∙◌, inl, inr, true≢false, arith}
use Rattle.std.proofs.lemmas.Bool.{cases_eq, cases_Bool}
use Rattle.rv32_image.proofs.SmallFacts.{one_value}
use Rattle.rv32_exec.specs.declared.sequential.End.TheVariants as end
use Rattle.rv32_image.specs.Image.{LoadedImage}
use Rattle.rv32_exec.specs.Hart.{HartState, start_of}
use Rattle.rv32_exec.specs.Sequential.{Runs, after_steps, first_epochs}
use Rattle.memory_bytes.specs.Maps.{over}
use Rattle.spec_history.specs.FlatState.{CoreState, FlatState}
use Rattle.spec_history.specs.Effect.{with_core}
use Rattle.spec_history.specs.Laws.{Holds, IsKeptCore, IsKept}
use Rattle.spec_history.proofs.OneEntry.Keeping.{at_core, with_core_other, with_core_same, Keeps, keeps_with, moves_on}

-- how committed memory came about
pub record Shown (image : LoadedImage) (committed : ℕ → ℕ) (homefree published : ℕ) (cores : ℕ → Option CoreState) : Type 0 where
  -- memory before the homefree epoch
  pub before : List ℕ
  -- and where it is published
  pub memory : List ℕ
  pub hart : HartState
  pub done : first_epochs image homefree ≡ record { end = end.Done homefree; bytes = before }
  pub long : length before ≡ image.size
  pub runs : after_steps image published (start_of image homefree) before ≡ Runs hart memory
  pub holds : Holds image committed memory
  -- a straight core is there
  pub straight : (k : ℕ) (c : CoreState) → cores k ≡ Some c → c.straight ≡ true → (c.hart ≡ hart) × (published ≡ c.hart.done)
  -- without one nothing is published
  pub unpublished : ((k : ℕ) (c : CoreState) → cores k ≡ Some c → c.straight ≡ false) → published ≡ 0

pub record Going (image : LoadedImage) (count : ℕ) (s : FlatState) : Type 0 where
  pub kept : IsKept image count s
  pub shown : Shown image s.committed s.homefree s.published s.cores

-- ---- the rest of the state

-- no other core has read, and is not hurt, a byte that changes
abbrev pub Spares : FlatState → ℕ → (ℕ → ℕ) → Type 0
Spares s by committed = (k : ℕ) (c : CoreState) → s.cores k ≡ Some c → k ≢ by → c.hurt ≡ false
    → (a byte : ℕ) → c.outside a ≡ Some byte → committed a ≡ s.committed a

pub rest_kept : (image : LoadedImage) (count : ℕ) (s : FlatState) (by : ℕ) (committed : ℕ → ℕ) (next_epoch : ℕ) → IsKept image count s → s.next_epoch ≤ next_epoch
    → Spares s by committed → (k : ℕ) (c : CoreState) → k ≢ by → s.cores k ≡ Some c → IsKeptCore image count committed s.homefree next_epoch k c
rest_kept image count s by committed next_epoch kept more spares k c other at =
    let was = kept.core k c at in
    moves_on image count s.committed committed s.homefree s.homefree s.next_epoch next_epoch k c was.from was.straight_homefree more (spares k c at other) was

pub same_spares : (s : FlatState) (by : ℕ) → Spares s by s.committed
same_spares s by k c at other unhurt a byte read = refl

here : (P : CoreState → Type 0) (new c : CoreState) → P new → Some new ≡ Some c → P c
here P new c holds is = let same : new ≡ c = cc in subst P same holds

pub keeps_changed : (image : LoadedImage) (count : ℕ) (s : FlatState) (by : ℕ) (committed : ℕ → ℕ) (new : CoreState) → IsKept image count s
    → Spares s by committed → IsKeptCore image count committed s.homefree s.next_epoch by new
    → Keeps image count committed s.homefree s.next_epoch (with_core s.cores by (Some new))
keeps_changed image count s by committed new kept spares is_kept =
    keeps_with image count committed s.homefree s.next_epoch s.cores by (Some new)
    (λ c is. here (λ x. IsKeptCore image count committed s.homefree s.next_epoch by x) new c is_kept is)
    (rest_kept image count s by committed s.next_epoch kept (omega arith) spares)

-- one more core that isn't straight, in place of one that wasn't
shown_by : (new c : CoreState) (hart : HartState) (published : ℕ) → new.straight ≡ false → Some new ≡ Some c → c.straight ≡ true → (c.hart ≡ hart) × (published ≡ c.hart.done)
shown_by new c hart published speculative is straight =
    let same : new ≡ c = cc in absurd (true≢false (sym straight ∙ (sym (ap (λ (x : CoreState). x.straight) same) ∙ speculative)))

pub shown_with : (image : LoadedImage) (committed : ℕ → ℕ) (homefree published : ℕ) (cores : ℕ → Option CoreState) (by : ℕ) (new : CoreState) → new.straight ≡ false
    → ((c : CoreState) → cores by ≡ Some c → c.straight ≡ false)
    → Shown image committed homefree published cores → Shown image committed homefree published (with_core cores by (Some new))
shown_with image committed homefree published cores by new speculative was shown = record {
  before = shown.before;
  memory = shown.memory;
  hart = shown.hart;
  done = shown.done;
  long = shown.long;
  runs = shown.runs;
  holds = shown.holds;
  straight = λ k c at straight. elim (at_core cores by (Some new) k c at) [
    | inl same ↦ shown_by new c shown.hart published speculative same.1 straight
    | inr other ↦ shown.straight k c other.1 straight
  ];
  unpublished = λ none. shown.unpublished (λ k c at. elim (cases_eq k by) [
    | inl e ↦ was c (sym (ap cores e) ∙ at)
    | inr other ↦ none k c (with_core_other cores by (Some new) k other ∙ at)
  ]);
}

-- ---- the homefree core

-- no other core is straight
pub others_speculate : (image : LoadedImage) (count : ℕ) (s : FlatState) (by : ℕ) (c : CoreState) → IsKept image count s → s.cores by ≡ Some c → c.epoch ≡ s.homefree
    → (k : ℕ) (d : CoreState) → k ≢ by → s.cores k ≡ Some d → d.straight ≡ true → ⊥
others_speculate image count s by c kept runs homefree k d other at straight =
    other (kept.apart k by d c at runs ((kept.core k d at).straight_homefree straight ∙ sym homefree))

-- one more straight core, which is the homefree one
pub shown_straight : (image : LoadedImage) (count : ℕ) (s : FlatState) (by : ℕ) (c new : CoreState) (committed : ℕ → ℕ) (memory : List ℕ)
    → (going : Going image count s) → s.cores by ≡ Some c → c.epoch ≡ s.homefree → new.straight ≡ true
    → after_steps image new.hart.done (start_of image s.homefree) going.shown.before ≡ Runs new.hart memory → Holds image committed memory
    → Shown image committed s.homefree new.hart.done (with_core s.cores by (Some new))
shown_straight image count s by c new committed memory going at_by homefree is_straight runs holds = record {
  before = going.shown.before;
  memory = memory;
  hart = new.hart;
  done = going.shown.done;
  long = going.shown.long;
  runs = runs;
  holds = holds;
  straight = λ k d at straight. elim (at_core s.cores by (Some new) k d at) [
    | inl same ↦ here (λ x. (x.hart ≡ new.hart) × (new.hart.done ≡ x.hart.done)) new d (refl, refl) same.1
    | inr other ↦ absurd (others_speculate image count s by c going.kept at_by homefree k d other.0 other.1 straight)
  ];
  unpublished = λ none. absurd (true≢false (sym is_straight ∙ none by new (with_core_same s.cores by (Some new))));
}

-- how far the homefree epoch has come on its core, with that core's own bytes
pub record HomefreeRun (image : LoadedImage) (s : FlatState) (c : CoreState) (before : List ℕ) : Type 0 where
  pub after : List ℕ
  pub runs : after_steps image c.hart.done (start_of image s.homefree) before ≡ Runs c.hart after
  pub holds : Holds image (over c.own s.committed) after

run_straight : (image : LoadedImage) (count : ℕ) (s : FlatState) (by : ℕ) (c : CoreState) (going : Going image count s) → s.cores by ≡ Some c → c.straight ≡ true
    → HomefreeRun image s c going.shown.before
run_straight image count s by c going at straight =
    let there = going.shown.straight by c at straight in
    let owns = (going.kept.core by c at).straight_owns straight in record {
      after = going.shown.memory;
      runs = ap (λ n. after_steps image n (start_of image s.homefree) going.shown.before) (sym there.1)
          ∙ (going.shown.runs ∙ ap (λ h. Runs h going.shown.memory) (sym there.0));
      holds = record {
        long = going.shown.holds.long;
        bytes = λ a. ap (λ o. unwrap_or o (s.committed a)) (owns a) ∙ going.shown.holds.bytes a;
      };
    }

memory_same : (image : LoadedImage) (h h' : HartState) (memory memory' : List ℕ) → after_steps image 0 h memory ≡ Runs h' memory' → memory ≡ memory'
unfolding after_steps
memory_same image h h' memory memory' runs = cc

none_straight : (image : LoadedImage) (count : ℕ) (s : FlatState) (by : ℕ) (c : CoreState) → IsKept image count s → s.cores by ≡ Some c → c.epoch ≡ s.homefree → c.straight ≡ false
    → (k : ℕ) (d : CoreState) → s.cores k ≡ Some d → d.straight ≡ false
none_straight image count s by c kept at_by homefree speculative k d at = elim (cases_eq k by) [
  | inl e ↦ let same : c ≡ d = one_value (s.cores by) c d at_by (sym (ap s.cores e) ∙ at) in sym (ap (λ (x : CoreState). x.straight) same) ∙ speculative
  | inr other ↦ elim (cases_Bool d.straight) [
    | inl straight ↦ absurd (others_speculate image count s by c kept at_by homefree k d other at straight)
    | inr is ↦ is
  ]
]

run_speculative : (image : LoadedImage) (count : ℕ) (s : FlatState) (by : ℕ) (c : CoreState) (going : Going image count s) → s.cores by ≡ Some c → c.epoch ≡ s.homefree
    → c.hurt ≡ false → c.straight ≡ false → HomefreeRun image s c going.shown.before
run_speculative image count s by c going at homefree unhurt speculative =
    let shown = going.shown in
    let was = going.kept.core by c at in
    let none = shown.unpublished (none_straight image count s by c going.kept at homefree speculative) in
    let same : shown.before ≡ shown.memory =
    memory_same image (start_of image s.homefree) shown.hart shown.before shown.memory
    (sym (ap (λ n. after_steps image n (start_of image s.homefree) shown.before) none) ∙ shown.runs) in
    let bytes = λ (a : ℕ). shown.holds.bytes a ∙ sym (ap (λ m. slice_index m a) same) in
    let lead = was.runs_alone unhurt speculative shown.before (record { long = shown.long; bytes = λ a byte read. sym (bytes a) ∙ was.reads_stand unhurt a byte read }) in record {
      after = lead.after;
      runs = sym (ap (λ e. after_steps image c.hart.done (start_of image e) shown.before) homefree) ∙ lead.runs;
      holds = record { long = lead.holds.long; bytes = λ a. ap (unwrap_or (c.own a)) (bytes a) ∙ lead.holds.bytes a };
    }

pub homefree_run : (image : LoadedImage) (count : ℕ) (s : FlatState) (by : ℕ) (c : CoreState) (going : Going image count s) → s.cores by ≡ Some c → c.epoch ≡ s.homefree
    → c.hurt ≡ false → HomefreeRun image s c going.shown.before
homefree_run image count s by c going at homefree unhurt = elim (cases_Bool c.straight) [
  | inl straight ↦ run_straight image count s by c going at straight
  | inr speculative ↦ run_speculative image count s by c going at homefree unhurt speculative
]

-- a straight core keeps nothing that could change
pub straight_kept : (image : LoadedImage) (count : ℕ) (committed committed' : ℕ → ℕ) (homefree next_epoch k : ℕ) (c : CoreState) (hart : HartState) → c.straight ≡ true
    → IsKeptCore image count committed homefree next_epoch k c → IsKeptCore image count committed' homefree next_epoch k (record c { hart = hart })
straight_kept image count committed committed' homefree next_epoch k c hart straight was = record {
  there = was.there;
  from = was.from;
  below = was.below;
  straight_homefree = was.straight_homefree;
  straight_unhurt = was.straight_unhurt;
  straight_owns = was.straight_owns;
  straight_read = was.straight_read;
  within = was.within;
  reads_stand = λ unhurt a byte read. let none = was.straight_read straight a in absurd cc;
  runs_alone = λ unhurt speculative. absurd (true≢false (sym straight ∙ speculative));
}
