-- Lines at hand, in which an access of the epoch changes little: what a load and a store leave of them.
use Rattle.std.proofs.Common.{◌≡◌, ℕ, ◌+◌, ◌<◌, ◌≤◌, false, List, slice_index, refl, sym, ap, subst, ◌∙◌, inl, inr, arith}
use Rattle.std.proofs.lemmas.Bool.{cases_eq}
use Rattle.rv32_image.specs.Image.{LoadedImage, IsImage}
use Rattle.rv32_exec.specs.Hart.{HartState}
use Rattle.spec_history.specs.Conflict.{line_count, line_number}
use Rattle.dependences.specs.declared.watch.Watch.{Watch}
use Rattle.dependences.specs.Conflict.{first_beside}
use Rattle.dependences.specs.KeptLines.{AreStored, IsAllowed, IsLineNoted, LastTwo, MeetsLine, other_before}
use Rattle.dependences.specs.KeptTouches.{IsInside, Touched, after_store, after_touch}
use Rattle.dependences.specs.KeptWatch.{AreAtHand, IsQuiet, IsStoredIn, IsWatched}
use Rattle.dependences.proofs.Buffering.{inside_at}
use Rattle.dependences.proofs.Sharing.{store_here, store_two, touch_last, touch_others, touch_stored}
use Rattle.dependences.proofs.Words.{stored_unmarked, written_word}

-- a line that the epoch touches stays one by another touch
still_touched : (t : Touched) (limit cores e line : ℕ) → IsInside t e line → (l : ℕ) → slice_index t.two.last l ≡ e + 1 → slice_index (after_touch t limit cores e line).two.last l ≡ e + 1
still_touched t limit cores e line inside l was = elim (cases_eq l line) [
  | inl same ↦ subst (λ n. slice_index (after_touch t limit cores e line).two.last n ≡ e + 1) (sym same) (touch_last t limit cores e line inside)
  | inr other ↦ touch_others t limit cores e line inside l other ∙ was
]

-- the lists have room for the line
pub touches_inside : (image : LoadedImage) (watch : Watch) (h : HartState) (memory : List ℕ) (line : ℕ) → IsWatched image watch h memory → watch.has_met ≡ false → line < line_count image
    → IsInside watch.touches watch.epoch line
touches_inside image watch h memory line x none within =
    let kept = x.kept none in inside_at image watch.epoch line watch.touches x.limits kept.in_buffers.long x.within within

-- a load in a quiet line meets nothing
pub quiet_unmet : (image : LoadedImage) (watch : Watch) (address width : ℕ) → IsImage image → IsAllowed image address width → IsQuiet watch (line_number image address)
    → MeetsLine image watch.lines watch.epoch (first_beside watch.cores watch.epoch) address width → ⊥
quiet_unmet image watch address width limits access quiet meets =
    let written = written_word image limits address width (line_number image address) access.wide access.aligned refl watch.lines watch.epoch (first_beside watch.cores watch.epoch) meets in
    let alone = quiet.alone in omega (arith, written, alone)

pub hand_load : (old new : Watch) (limit line : ℕ) → IsInside old.touches old.epoch line → AreAtHand old → new.cores ≡ old.cores → new.epoch ≡ old.epoch → new.lines ≡ old.lines
    → new.touches ≡ after_touch old.touches limit old.cores old.epoch line → new.stored ≡ old.stored
    → ((l : ℕ) → new.quiet ≡ l + 1 → (l ≡ line) × (other_before old.lines.two old.epoch l ≤ first_beside old.cores old.epoch)) → AreAtHand new
hand_load old new limit line inside hand cores epoch lines touches stored quiet = record {
  quiet = λ l is.
      let q = quiet l is in record {
        touched = rw (touches, epoch) (subst (λ n. slice_index (after_touch old.touches limit old.cores old.epoch line).two.last n ≡ old.epoch + 1) (sym q.0)
            (touch_last old.touches limit old.cores old.epoch line inside));
        alone = rw (lines, epoch, cores) q.1;
      };
  stored = λ l is.
      let s = hand.stored l (sym stored ∙ is) in record {
        alone = rw (lines, epoch, cores) s.alone;
        last = rw (lines, epoch) s.last;
        touched = rw (touches, epoch) (still_touched old.touches limit old.cores old.epoch line inside l s.touched);
        stored = rw (touches, epoch) (ap (λ (xs : List ℕ). slice_index xs l) (touch_stored old.touches limit old.cores old.epoch line inside) ∙ s.stored);
      };
}

pub hand_store : (old new : Watch) (limit line : ℕ) → IsInside old.touches old.epoch line → IsInside (after_touch old.touches limit old.cores old.epoch line) old.epoch line → AreAtHand old
    → new.cores ≡ old.cores → new.epoch ≡ old.epoch → IsLineNoted old.lines.two new.lines.two old.epoch line
    → new.touches ≡ after_store (after_touch old.touches limit old.cores old.epoch line) limit old.cores old.epoch line → new.quiet ≡ old.quiet
    → ((l : ℕ) → new.stored ≡ l + 1 → (l ≡ line) × (other_before new.lines.two old.epoch line ≤ first_beside old.cores old.epoch)) → AreAtHand new
hand_store old new limit line inside inside' hand cores epoch noted touches quiet stored = record {
  quiet = λ l is.
      let q = hand.quiet l (sym quiet ∙ is) in record {
        touched = rw (touches, epoch) (by_two l ∙ still_touched old.touches limit old.cores old.epoch line inside l q.touched);
        alone = rw (epoch, cores) (subst (λ n. n ≤ first_beside old.cores old.epoch) (sym (noted.other l)) q.alone);
      };
  stored = λ l is.
      let now = stored l is in
      let same = now.0 in record {
        alone = rw (epoch, cores) (subst (λ n. other_before new.lines.two old.epoch n ≤ first_beside old.cores old.epoch) (sym same) now.1);
        last = rw epoch (subst (λ n. slice_index new.lines.two.last n ≡ old.epoch + 1) (sym same) noted.here);
        touched = rw (touches, epoch) (by_two l ∙ subst (λ n. slice_index touched.two.last n ≡ old.epoch + 1) (sym same) (touch_last old.touches limit old.cores old.epoch line inside));
        stored = rw (touches, epoch) (subst (λ n. slice_index (after_store touched limit old.cores old.epoch line).stored n ≡ old.epoch + 1) (sym same)
            (store_here touched limit old.cores old.epoch line inside'));
      };
}
  where
    touched : Touched
    touched = after_touch old.touches limit old.cores old.epoch line

    by_two : (l : ℕ) → slice_index (after_store touched limit old.cores old.epoch line).two.last l ≡ slice_index touched.two.last l
    by_two l = ap (λ (s : LastTwo). slice_index s.last l) (store_two touched limit old.cores old.epoch line inside')

-- nor does a store in a line in which the epoch stores alone change anything
pub stored_alone : (image : LoadedImage) (watch : Watch) (address width : ℕ) → IsImage image → IsAllowed image address width → IsStoredIn watch (line_number image address)
    → AreStored image watch.lines watch.lines watch.epoch (first_beside watch.cores watch.epoch) address width
stored_alone image watch address width limits access stored =
    stored_unmarked image limits address width (line_number image address) access.wide access.aligned refl watch.lines watch.lines watch.epoch (first_beside watch.cores watch.epoch) refl stored.alone
    (record { last_long = refl; before_long = refl; here = stored.last; others = λ l other. refl; other = λ l. refl })

pub hand_again : (old new : Watch) → AreAtHand old → new.cores ≡ old.cores → new.epoch ≡ old.epoch → new.lines.two ≡ old.lines.two → new.touches ≡ old.touches → new.quiet ≡ old.quiet
    → new.stored ≡ old.stored → AreAtHand new
hand_again old new hand cores epoch two touches quiet stored = record {
  quiet = λ l is. let q = hand.quiet l (sym quiet ∙ is) in record { touched = rw (touches, epoch) q.touched; alone = rw (two, epoch, cores) q.alone };
  stored = λ l is.
      let s = hand.stored l (sym stored ∙ is) in record {
        alone = rw (two, epoch, cores) s.alone;
        last = rw (two, epoch) s.last;
        touched = rw (touches, epoch) s.touched;
        stored = rw (touches, epoch) s.stored;
      };
}

-- at its start an epoch has none at hand
pub none_at_hand : (watch : Watch) → watch.quiet ≡ 0 → watch.stored ≡ 0 → AreAtHand watch
none_at_hand watch quiet stored = record {
  quiet = λ l is. absurd (omega (arith, is, quiet));
  stored = λ l is. absurd (omega (arith, is, stored));
}
