-- An epoch commits, or faults as the homefree one: it is one more of the timing.
use Rattle.std.proofs.Common.{◌≡◌, ◌≢◌, ℕ, ◌+◌, ◌-◌, ◌<◌, ◌≤◌, true, false, is_some, List, length, slice_index, Some, None, refl, sym, ap, subst, ◌∙◌, inl, inr, arith}
use Rattle.std.proofs.lemmas.Bool.{cases_Bool, cases_eq}
use Rattle.std.proofs.lemmas.Option.{none-some, same_Some}
use Rattle.rv32_image.specs.Image.{LoadedImage}
use Rattle.rv32_image.proofs.SmallFacts.{one_value, none_and_some}
use Rattle.rv32_exec.specs.NextEvent.{next_event}
use Rattle.rv32_exec.specs.Sequential.{after_stop}
use Rattle.rv32_exec.specs.Laws.{HasStopped}
use Rattle.rv32_exec.proofs.LawsOfRuns.{later_event}
use Rattle.spec_history.specs.FlatState.{CoreState, FlatState}
use Rattle.spec_history.specs.Effect.{with_core}
use Rattle.spec_history.specs.Laws.{HasBytes}
use Rattle.spec_history.proofs.OneEntry.Going.{Going}
use Rattle.spec_history.proofs.OneEntry.Keeping.{at_core, with_core_other}
use Rattle.epoch_paths.specs.InOrder.{memory_before}
use Rattle.epoch_paths.specs.Flow.{DependsAt}
use Rattle.epoch_paths.specs.Lengths.{Lasts}
use Rattle.epoch_paths.specs.Paths.{ReadsOutside, StoresAt}
use Rattle.epoch_paths.proofs.Cores.{others_not, fresh}
use Rattle.epoch_paths.proofs.Following.{all_loaded, all_stored_early}
use Rattle.epoch_paths.proofs.Outside.{lasts}
use Rattle.limits.specs.declared.limit.Waits.{Waits}
use Rattle.limits.specs.declared.limit.Waits.TheVariants.{Commit, Store}
use Rattle.limits.specs.Limits.{Timing, awaited}
use Rattle.limits.proofs.Marks.{IsDone, IsOn, IsOwned, IsPath, IsTimed, IsTimedIn, IsUnder, Marks}
use Rattle.limits.proofs.Marking.{Alters, awaited_still, done_still, other_on, owned_still}
use Rattle.limits.proofs.Beginning.{one_here, one_other, with_one}
use Rattle.limits.proofs.Events.{at_before, at_event, event_alters, event_marks, rises_first, rises_next}
use Rattle.limits.proofs.Pathing.{own_stored, shown_by, shown_here, shown_more, shown_past}

-- ---- what the homefree core has read

still_none : (s : FlatState) (by k : ℕ) (c d : CoreState) → s.cores by ≡ Some c → c.straight ≡ false → s.cores k ≡ Some d → k ≡ by → d.straight ≡ false
still_none s by k c d at speculates at_k same =
    let is : c ≡ d = one_value (s.cores by) c d at (sym (ap s.cores same) ∙ at_k) in sym (ap (λ (x : CoreState). x.straight) is) ∙ speculates

-- it is what the run in order has there
pub homefree_read : (image : LoadedImage) (cores : ℕ) (s : FlatState) (by : ℕ) (c : CoreState) → Going image cores s → s.cores by ≡ Some c → c.epoch ≡ s.homefree → c.hurt ≡ false
    → HasBytes image c.outside (memory_before image c.epoch)
homefree_read image cores s by c going at homefree unhurt = elim (cases_Bool c.straight) [
  | inl straight ↦
      (let none = (going.kept.core by c at).straight_read straight in
      let long : length (memory_before image s.homefree) ≡ image.size = ap (λ r. length r.bytes) going.shown.done ∙ going.shown.long in
      record { long = ap (λ e. length (memory_before image e)) homefree ∙ long; bytes = λ a byte is. absurd (none_and_some (c.outside a) byte (none a) is) })
  | inr speculates ↦
      (let none = going.shown.unpublished (λ k d at_k. elim (cases_eq k by) [
        | inl e ↦ still_none s by k c d at speculates at_k e
        | inr other ↦ others_not image cores s by c going.kept at homefree k d other at_k
      ]) in
      let begin = fresh image cores s going none in
      let same = ap (memory_before image) homefree in record {
        long = ap (λ x. length x) same ∙ begin.long;
        bytes = λ a byte is. ap (λ x. slice_index x a) same ∙ (sym (begin.same a) ∙ (going.kept.core by c at).reads_stand unhurt a byte is);
      })
]

-- ---- marks

abbrev pub left_marks : Marks → ℕ → ℕ → ℕ → ℕ → ℕ → (ℕ → ℕ) → Marks
left_marks m by epoch done event now shown =
    let x = event_marks m by epoch done event now shown in record x {
      timing = record { begin = x.timing.begin; at = x.timing.at; commit = with_one m.timing.commit epoch now };
    }

awaited_most : (w : Waits) (t : Timing) (e step bound : ℕ) → t.at e step ≤ bound → t.commit e ≤ bound → awaited w t e step ≤ bound
awaited_most Store t e step bound at commit = at
awaited_most Commit t e step bound at commit = commit

awaited_at : (w : Waits) (t : Timing) (e step bound : ℕ) → w ≡ Store → t.at e step ≤ bound → awaited w t e step ≤ bound
awaited_at w t e step bound is at = subst (λ v. awaited v t e step ≤ bound) (sym is) at

module _ (image : LoadedImage) (waits : Waits) (cores now : ℕ) (s : FlatState) (m : Marks) (by : ℕ) (c : CoreState) (going : Going image cores s) (x : IsTimedIn image waits cores now s m)
    (at : s.cores by ≡ Some c) (homefree : c.epoch ≡ s.homefree) (unhurt : c.hurt ≡ false) (due : m.from by + ((next_event image c.hart).now.done - c.hart.done) ≤ now) where
  abbrev memory : List ℕ
  memory = memory_before image c.epoch

  abbrev event : ℕ
  event = (next_event image c.hart).now.done

  abbrev shown : ℕ → ℕ
  shown = shown_by c.own m.shown now

  abbrev m' : Marks
  m' = left_marks m by c.epoch c.hart.done event now shown

  pub on : IsOn image waits m by c
  on = x.core by c at

  pub under : IsUnder image waits m by c
  under = on.under unhurt

  pub path : IsPath image waits m c
  path = under.path (homefree_read image cores s by c going at homefree unhurt)

  pub alters : Alters m m' by c.epoch now
  alters =
      let a = event_alters m by c.epoch c.hart.done event now shown (x.begun c.epoch) (shown_more c.own m.shown now x.past) (shown_past c.own m.shown now x.past) in record {
        begin = a.begin;
        begin_on = a.begin_on;
        begin_by = a.begin_by;
        at = a.at;
        commit = λ d other. one_other m.timing.commit c.epoch now d other;
        from = a.from;
        shown = a.shown;
        past = a.past;
      }

  done : (d : ℕ) → d < c.epoch → IsDone image waits now m d
  done d low = x.done d (omega (arith, low, homefree))

  still : (d step : ℕ) → d < c.epoch → awaited waits m'.timing d step ≡ awaited waits m.timing d step
  still d step low = awaited_still image waits m m' by c.epoch now alters d step (λ same. omega (arith, low, same))

  -- it came after all that it needs
  ready_by : (place byte : ℕ) (reads : ReadsOutside image c.epoch memory byte) → reads.step ≡ place → place < c.hart.done → (d step : ℕ) → d < c.epoch
      → StoresAt image d (memory_before image d) step byte → awaited waits m.timing d step ≤ m.timing.at c.epoch place
  ready_by place byte reads is low d step before there =
      let here = ap (m.timing.at c.epoch) is in
      elim (cases_Bool c.straight) [
        | inl straight ↦ (let was = path.after straight byte reads (omega (arith, is, low)) d step before there in omega (arith, was, here))
        | inr speculates ↦
            (let was = (path.guarded speculates byte reads (omega (arith, is, low))).1 in
            let one = (done d before).stored byte step there in omega (arith, was, one, here))
      ]

  module _ (stopped : HasStopped (after_stop (next_event image c.hart).now path.at.after (next_event image c.hart).at)) where
    pub it_lasts : Lasts image c.epoch event
    it_lasts = lasts image c.epoch memory path.at.after c.hart (record { own = path.own; at = path.at; is = refl }) refl stopped

    ready : (place byte earlier stored : ℕ) → DependsAt image c.epoch place byte earlier stored → awaited waits m'.timing earlier stored ≤ m'.timing.at c.epoch place
    ready place byte earlier stored depends =
        let low = all_loaded image c.epoch memory c.hart path.own path.at stopped byte place depends.there in
        let less = depends.store.before in
        let was = ready_by place byte (record { step = place; there = depends.there; exposed = depends.exposed }) refl low earlier stored less depends.store.there in
        let is = still earlier stored less in
        let here = at_before m by c.epoch c.hart.done event now shown place low in omega (arith, was, is, here)

    stored : (a step : ℕ) → StoresAt image c.epoch memory step a → awaited waits m'.timing c.epoch step ≤ shown a
    stored a step there =
        let low = all_stored_early image c.epoch memory c.hart path.own path.at stopped a step there in
        let here = at_before m by c.epoch c.hart.done event now shown step low in
        elim (cases_Bool c.straight) [
          | inl straight ↦
              (let was = path.written straight a step low there in
              let more = shown_more c.own m.shown now x.past a in
              awaited_at waits m'.timing c.epoch step (shown a) (on.kind straight) (omega (arith, here, was, more)))
          | inr speculates ↦
              (let is = shown_here c.own m.shown now a (own_stored image waits m by now c x.past speculates path a step low there) in
              let before = under.steps step low in
              let commit = one_here m.timing.commit c.epoch now in
              awaited_most waits m'.timing c.epoch step (shown a) (omega (arith, here, is, before, due)) (omega (arith, commit, is)))
        ]

    pub it_is_done : IsDone image waits now m' c.epoch
    it_is_done =
        let some = later_event image c.hart in
        let commit = one_here m.timing.commit c.epoch now in record {
          length = event;
          lasts = it_lasts;
          first = rises_first m by c.epoch c.hart.done event now shown under.begun under.steps under.first under.next some due;
          next = rises_next m by c.epoch c.hart.done event now shown under.begun under.steps under.first under.next some due;
          ends = (let here = at_event m by c.epoch c.hart.done event now shown event some (omega arith) in omega (arith, here, commit));
          by = omega (arith, commit);
          ready = ready;
          stored = stored;
        }

    -- so are all up to it
    pub all_done : (d : ℕ) → d < s.homefree + 1 → IsDone image waits now m' d
    all_done d low = elim (cases_eq d c.epoch) [
      | inl e ↦ subst (IsDone image waits now m') (sym e) it_is_done
      | inr other ↦ done_still image waits m m' by c.epoch now alters d (omega (arith, low, other, homefree)) (done d (omega (arith, low, other, homefree)))
    ]

    pub all_in_order : (d : ℕ) → d + 1 < s.homefree + 1 → m'.timing.commit d ≤ m'.timing.commit (d + 1)
    all_in_order d low =
        let here = one_other m.timing.commit c.epoch now d (λ same. omega (arith, low, same, homefree)) in
        elim (cases_eq (d + 1) c.epoch) [
          | inl e ↦
              (let there : m'.timing.commit (d + 1) ≡ now = ap m'.timing.commit e ∙ one_here m.timing.commit c.epoch now in
              let was = (done d (omega (arith, e))).by in omega (arith, here, there, was))
          | inr other ↦
              (let there = one_other m.timing.commit c.epoch now (d + 1) other in
              let was = x.in_order d (omega (arith, low, other, homefree)) in omega (arith, here, there, was))
        ]

    pub all_begin : (d : ℕ) → d + cores < s.next_epoch → (d < s.homefree) × (m'.timing.commit d < m'.timing.begin (d + cores))
    all_begin d low =
        let was = x.begins d low in
        let less = was.0 in
        let same = one_other m.timing.commit c.epoch now d (λ e. omega (arith, less, e, homefree)) in
        let before = was.1 in (was.0, omega (arith, before, same))

    owned : (d : ℕ) → IsOwned cores now s.homefree m d → IsOwned cores now (s.homefree + 1) m' d
    owned d o = elim (owned_still image waits m m' by c.epoch now alters cores s.homefree d (omega (arith, homefree)) refl o) [
      | inl before ↦ (let low = before.0 in inl (omega (arith, low), before.1))
      | inr is ↦ inr is
    ]

    -- the core is idle
    pub leaves : ((k : ℕ) (d : CoreState) → k ≢ by → s.cores k ≡ Some d → d.hurt ≡ false → d.straight ≡ false → (a : ℕ) → is_some (d.outside a) ≡ true → shown a ≤ m.shown a)
        → IsTimed image waits cores now (s.homefree + 1) s.next_epoch (with_core s.cores by None) m'
    leaves unread = record {
      past = alters.past;
      done = all_done;
      in_order = all_in_order;
      begins = λ d low. let was = all_begin d low in let less = was.0 in (omega (arith, less), was.1);
      begun = x.begun;
      owned = λ d low. owned d (x.owned d low);
      core = λ k d is. elim (at_core s.cores by None k d is) [
        | inl here ↦ absurd (none-some d here.1)
        | inr other ↦ other_on image waits cores now s m m' by c going.kept x at alters refl unread k d other.0 other.1
      ];
      idle = λ k none d is. elim (cases_eq k by) [
        | inl e ↦
            (let epoch = same_Some d c.epoch (sym is ∙ (ap m.last e ∙ on.last)) in
            let commit : m'.timing.commit d ≡ now = ap m'.timing.commit epoch ∙ one_here m.timing.commit c.epoch now in
            let from : m'.from k ≡ now + 1 = ap m'.from e ∙ one_here m.from by (now + 1) in (omega (arith, epoch, homefree), omega (arith, commit, from)))
        | inr other ↦
            (let was = x.idle k (sym (with_core_other s.cores by None k other) ∙ none) d is in
            let low = was.0 in
            let before = was.1 in
            let commit = one_other m.timing.commit c.epoch now d (λ same. omega (arith, low, same, homefree)) in
            let from = one_other m.from by (now + 1) k other in (omega (arith, low), omega (arith, before, commit, from)))
      ];
    }
