-- What each legal entry keeps that is no violation.
use Rattle.std.proofs.Common.{◌≡◌, ℕ, ◌+◌, ◌<◌, ◌≤◌, ◌==◌, not, nat_lt, false, Option, Some, None, refl, sym, ◌∙◌, true≢false, arith, eqb-true, ltb-true}
use Rattle.std.proofs.lemmas.Bool.{and_parts, not-true}
use Rattle.rv32_image.specs.Image.{LoadedImage}
use Rattle.spec_history.specs.declared.entry.What.{What}
use Rattle.spec_history.specs.declared.entry.What.TheVariants.{Start, Load, Store, Hurt, Cancel, Restart, Publish, Commit, Fault}
use Rattle.spec_history.specs.FlatState.{CoreState, FlatState}
use Rattle.spec_history.specs.Effect.{effect, effect_on, effect_idle}
use Rattle.spec_history.specs.Refusal.{runs_and}
use Rattle.spec_history.specs.Conflict.{is_hurt}
use Rattle.spec_history.proofs.OneEntry.Legal.{IsLegalEntry, that_load, that_store}
use Rattle.spec_history.proofs.OneEntry.Going.{Going}
use Rattle.spec_history.proofs.Replay.Replays.{effect-on, effect-idle, on_core, runs_so}
use Rattle.dependences.specs.Conflict.{Conflict}
use Rattle.dependences.proofs.Windows.{IsInWindow}
use Rattle.dependences.proofs.Starting.{IsOrderly, reached, start_orderly}
use Rattle.dependences.proofs.Accessing.{load_orderly, store_orderly}
use Rattle.dependences.proofs.Committing.{cancel_orderly, commit_orderly, publish_orderly}

module _ (image : LoadedImage) (cores : ℕ) (s : FlatState) (going : Going image cores s) (window : IsInWindow cores s) (orderly : IsOrderly image cores s)
    (free : Conflict image cores → ⊥) where
  on_core_orderly : (by : ℕ) (what : What) (c : CoreState) → s.cores by ≡ Some c → IsLegalEntry image cores s (record { by = by; what = what }) → is_hurt what ≡ false
      → (effect_on image s by c what).end ≡ None → Going image cores (effect_on image s by c what) → IsOrderly image cores (effect_on image s by c what)
  on_core_orderly by (Start epoch) c at legal unhurt none next = orderly
  on_core_orderly by (Load address width value) c at legal unhurt none next =
      let load = that_load address width _ (on_core (s.cores by) c _ at legal.next) in
      let number = eqb-true _ _ (on_core (s.cores by) c _ at legal.value) in
      load_orderly image cores s by c going.kept window orderly free at address width load.0 load.1 value load.2 number
  on_core_orderly by (Store address width value) c at legal unhurt none next =
      let store = that_store address width value _ (on_core (s.cores by) c _ at legal.next) in
      store_orderly image cores s by c going.kept orderly at address width value store
  on_core_orderly by (Hurt epoch) c at legal unhurt none next = absurd (true≢false unhurt)
  on_core_orderly by (Cancel epoch) c at legal unhurt none next =
      let both = and_parts (runs_and (s.cores by) (λ x. nat_lt x.epoch epoch)) _ legal.there in
      let later : c.epoch < epoch = ltb-true _ _ (runs_so (s.cores by) c (λ x. nat_lt x.epoch epoch) at both.0).passes in
      cancel_orderly image cores s by c epoch going.kept orderly (omega (arith, later, (going.kept.core by c at).from))
  on_core_orderly by Restart c at legal unhurt none next =
      absurd (true≢false (sym (on_core (s.cores by) c (λ x. x.hurt) at legal.there) ∙ (orderly.core by c at).unhurt))
  on_core_orderly by Publish c at legal unhurt none next =
      let homefree = eqb-true _ _ (on_core (s.cores by) c _ at legal.homefree) in
      let speculative = not-true c.straight (runs_so (s.cores by) c (λ x. not x.straight) at legal.there).passes in
      publish_orderly image cores s by c going.kept orderly at homefree speculative
  on_core_orderly by Commit c at legal unhurt none next =
      let homefree = eqb-true _ _ (on_core (s.cores by) c _ at legal.homefree) in
      commit_orderly image cores s by c going.kept orderly at homefree next
  on_core_orderly by (Fault cause pc) c at legal unhurt none next = absurd cc

  idle_orderly : (by : ℕ) (what : What) → s.cores by ≡ None → IsLegalEntry image cores s (record { by = by; what = what })
      → IsInWindow cores (effect_idle image s by what) → IsOrderly image cores (effect_idle image s by what)
  idle_orderly by (Start epoch) at legal near =
      let next = and_parts (epoch == s.next_epoch) (nat_lt epoch image.epochs) legal.next in
      let number : epoch ≡ s.next_epoch = eqb-true _ _ next.0 in
      let most : s.next_epoch + 1 ≤ s.homefree + cores = near.near in
      start_orderly image cores s by epoch at
      (reached cores s.homefree (s.next_epoch + 1) epoch most (omega (arith, number)) (omega (arith, number, going.kept.homefree_started))) orderly
  idle_orderly by (Load address width value) at legal near = orderly
  idle_orderly by (Store address width value) at legal near = orderly
  idle_orderly by (Hurt epoch) at legal near = orderly
  idle_orderly by (Cancel epoch) at legal near = orderly
  idle_orderly by Restart at legal near = orderly
  idle_orderly by Publish at legal near = orderly
  idle_orderly by Commit at legal near = orderly
  idle_orderly by (Fault cause pc) at legal near = orderly

  orderly_by : (by : ℕ) (what : What) (core : Option CoreState) → s.cores by ≡ core → IsLegalEntry image cores s (record { by = by; what = what }) → is_hurt what ≡ false
      → IsInWindow cores (effect image s (record { by = by; what = what }))
      → (effect image s (record { by = by; what = what })).end ≡ None → Going image cores (effect image s (record { by = by; what = what }))
      → IsOrderly image cores (effect image s (record { by = by; what = what }))
  orderly_by by what None at legal unhurt near none next =
      let same = effect-idle image s by what at in rw same (idle_orderly by what at legal (rw same at near))
  orderly_by by what (Some c) at legal unhurt near none next =
      let same = effect-on image s by what c at in rw same (on_core_orderly by what c at legal unhurt (rw same at none) (rw same at next))

  pub orderly_still : (by : ℕ) (what : What) → IsLegalEntry image cores s (record { by = by; what = what }) → is_hurt what ≡ false
      → IsInWindow cores (effect image s (record { by = by; what = what }))
      → (effect image s (record { by = by; what = what })).end ≡ None → Going image cores (effect image s (record { by = by; what = what }))
      → IsOrderly image cores (effect image s (record { by = by; what = what }))
  orderly_still by what = orderly_by by what (s.cores by) refl
