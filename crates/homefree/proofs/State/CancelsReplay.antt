-- The entries of a core that exits the loop: each cancels one other core, and then none but it runs.
use Rattle.std.proofs.Common.{◌≡◌, ◌≢◌, ℕ, zero, suc, ◌<◌, ◌≤◌, ◌==◌, ◌&&◌, not, nat_lt, is_some, Bool, true, false, cond, List, [], ◌∷◌, ◌++◌, Option, Some, None, refl, sym, ap, ◌∙◌, inl, inr, arith, append-nil, eq-eqb, ne_eqb, lt-ltb, le-ltb}
use Rattle.std.proofs.Math.Path.{fun_ext}
use Rattle.std.proofs.lemmas.Bool.{cases_eq, and_right, and_parts}
use Rattle.rv32_image.specs.Image.{LoadedImage}
use Rattle.rv32_image.proofs.SmallFacts.{value_of}
use Rattle.rv32_exec.specs.NextEvent.{next_event}
use Rattle.spec_history.specs.declared.entry.Entry.{Entry}
use Rattle.spec_history.specs.declared.entry.What.TheVariants.{Cancel}
use Rattle.spec_history.specs.FlatState.{CoreState, FlatState}
use Rattle.spec_history.specs.Effect.{by_core, effect, idle_at}
use Rattle.spec_history.specs.Refusal.{refusal_of, is_at, is_an_exit}
use Rattle.spec_history.specs.Replay.{replay_from}
use Rattle.spec_history.proofs.OneEntry.Legal.{legal_is}
use Rattle.spec_history.proofs.Replay.Joining.{one_entry, no_entry, then_entries, not_same}
use Rattle.spec_history.proofs.OneEntry.Keeping.{IsApart}
use Rattle.spec_history.proofs.Searches.Tests.{one_passes}
use Rattle.spec_history.proofs.Searches.Missing.{quiet_misses}
use Rattle.spec_history.proofs.Replay.Replays.{effect-on}
use Rattle.homefree.specs.Hurts.{entry_for_each, epoch_on, cancels, is_other, idle_if, with_cancels}
use Rattle.homefree.proofs.State.Legality.{by_it}
use Rattle.homefree.proofs.State.HurtsReplay.{below, below_other, below_this, below_not_yet, with_cores, no_more}

-- what the homefree core needs to cancel the others
pub record MayCancel (image : LoadedImage) (count : ℕ) (s : FlatState) (by : ℕ) (c : CoreState) : Type 0 where
  pub going : s.end ≡ None
  pub at : s.cores by ≡ Some c
  pub unhurt : c.hurt ≡ false
  pub homefree : c.epoch ≡ s.homefree
  pub exit : is_an_exit image (next_event image c.hart) ≡ true
  pub apart : IsApart s.cores
  pub there : (k : ℕ) (d : CoreState) → s.cores k ≡ Some d → k < count
  pub from : (k : ℕ) (d : CoreState) → s.cores k ≡ Some d → s.homefree ≤ d.epoch

-- ---- one entry

cancel_legal : (image : LoadedImage) (count : ℕ) (t : FlatState) (by k : ℕ) (c d : CoreState) → t.end ≡ None → t.cores by ≡ Some c → c.hurt ≡ false → c.epoch ≡ t.homefree
    → is_an_exit image (next_event image c.hart) ≡ true → t.cores k ≡ Some d → c.epoch < d.epoch → k < count
    → refusal_of image count t (record { by = by; what = Cancel d.epoch }) ≡ None
cancel_legal image count t by k c d going at unhurt homefree exit at_k later within =
    legal_is image count t (record { by = by; what = Cancel d.epoch }) (record {
      going = going;
      there = rw (by_it (t.cores by) c (λ x. not x.hurt && nat_lt x.epoch d.epoch) at (rw (unhurt, lt-ltb c.epoch d.epoch later) refl))
          (one_passes count (λ j. is_at d.epoch (t.cores j)) k within (by_it (t.cores k) d (λ x. x.epoch == d.epoch) at_k (eq-eqb d.epoch d.epoch refl)));
      next = by_it (t.cores by) c (λ x. is_an_exit image (next_event image x.hart)) at exit;
      homefree = by_it (t.cores by) c (λ x. x.epoch == t.homefree) at (eq-eqb c.epoch t.homefree homefree);
      value = refl;
      spares = quiet_misses image count t by (Cancel d.epoch) c at tt;
      cancelled = refl;
    })

-- ---- one more idle core

other_idle : (b : Bool) (epoch : ℕ) (core : Option CoreState) → ((x : CoreState) → core ≡ Some x → x.epoch ≢ epoch) → idle_at epoch (idle_if b core) ≡ idle_if b core
other_idle true epoch core other = refl
other_idle false epoch None other = refl
other_idle false epoch (Some x) other = ap (λ b. cond b None (Some x)) (ne_eqb x.epoch epoch (other x refl))

this_idle : (b : Bool) (epoch : ℕ) (core : Option CoreState) (x : CoreState) → core ≡ Some x → x.epoch ≡ epoch → b ≡ false → idle_at epoch (idle_if b core) ≡ idle_if true core
this_idle true epoch core x at same off = absurd cc
this_idle false epoch core x at same off = rw (at, eq-eqb x.epoch epoch same) refl

pub not_other : (cores : ℕ → Option CoreState) (by : ℕ) → is_other cores by by ≡ false
not_other cores by = ap (λ b. not b && is_some (cores by)) (eq-eqb by by refl)

-- ---- all of them

module _ (image : LoadedImage) (count : ℕ) (s : FlatState) (by : ℕ) (c : CoreState) (may : MayCancel image count s by c) where
  abbrev others : ℕ → Bool
  others k = is_other s.cores by k

  abbrev state : ℕ → FlatState
  state n = record s { cores = λ k. idle_if (below others n k) (s.cores k) }

  abbrev entries : ℕ → List Entry
  entries n = entry_for_each by others (λ k. Cancel (epoch_on s.cores k)) n

  same_state : (f g : ℕ → Bool) → ((k : ℕ) → f k ≡ g k) → (let t : FlatState = record s { cores = λ k. idle_if (f k) (s.cores k) } in t) ≡ record s { cores = λ k. idle_if (g k) (s.cores k) }
  same_state f g same = ap (λ (h : ℕ → Bool). record s { cores = λ k. idle_if (h k) (s.cores k) }) (fun_ext same)

  one_more : (n k : ℕ) (d : CoreState) → s.cores n ≡ Some d → others n ≡ true → idle_at d.epoch (idle_if (below others n k) (s.cores k)) ≡ idle_if (below others (suc n) k) (s.cores k)
  one_more n k d at_n is = elim (cases_eq k n) [
    | inl e ↦ rw e (rw (below_this others n true is) (this_idle (below others n n) d.epoch (s.cores n) d at_n refl (below_not_yet others n)))
    | inr other ↦ rw (below_other others n k other) (other_idle (below others n k) d.epoch (s.cores k) (λ x at_k same. other (may.apart k n x d at_k at_n same)))
  ]

  own_stays : (n : ℕ) → (state n).cores by ≡ Some c
  own_stays n = ap (λ b. idle_if b (s.cores by)) (and_right (nat_lt by n) (others by) (not_other s.cores by)) ∙ may.at

  step : (n : ℕ) → (b : Bool) → others n ≡ b → replay_from image count s (entries n) ≡ Some (state n)
      → replay_from image count s (entries n ++ cond b (record { by = by; what = Cancel (epoch_on s.cores n) } ∷ []) []) ≡ Some (state (suc n))
  step n false is so_far = rw append-nil (so_far ∙ ap Some (same_state (below others n) (below others (suc n)) (λ k. no_more others n k is)))
  step n true is so_far =
      let both = and_parts (not (n == by)) (is_some (s.cores n)) is in
      let found = value_of (s.cores n) both.1 in
      let d = found.0 in
      let t = state n in
      let epoch : epoch_on s.cores n ≡ d.epoch = ap (λ o. by_core o 0 (λ x. x.epoch)) found.1 in
      let from = may.from n d found.1 in
      let home = may.homefree in
      let apart : d.epoch ≢ c.epoch = λ same. not_same n by both.0 (may.apart n by d c found.1 may.at same) in
      let later : c.epoch < d.epoch = omega (arith, from, home, apart) in
      let n_t : t.cores n ≡ Some d = ap (λ b. idle_if b (s.cores n)) (below_not_yet others n) ∙ found.1 in
      let legal = cancel_legal image count t by n c d may.going (own_stays n) may.unhurt may.homefree may.exit n_t later (may.there n d found.1) in
      let becomes : effect image t (record { by = by; what = Cancel d.epoch }) ≡ state (suc n) =
      effect-on image t by (Cancel d.epoch) c (own_stays n)
      ∙ with_cores s (λ k. idle_at d.epoch (idle_if (below others n k) (s.cores k))) (λ k. idle_if (below others (suc n) k) (s.cores k)) (λ k. one_more n k d found.1 is) in
      rw epoch (then_entries image count (entries n) (record { by = by; what = Cancel d.epoch } ∷ []) s t (state (suc n))
      so_far (one_entry image count t (record { by = by; what = Cancel d.epoch }) legal ∙ ap Some becomes))

  below_zero : (k : ℕ) → below others 0 k ≡ false
  below_zero k = rw (le-ltb k 0 (omega arith)) refl

  cancels_below : (n : ℕ) → replay_from image count s (entries n) ≡ Some (state n)
  cancels_below zero = no_entry image count s ∙ ap Some (sym (same_state (below others 0) (λ _. false) below_zero))
  cancels_below (suc n) = step n (others n) refl (cancels_below n)

  all_below_by : (k : ℕ) (b : Bool) → others k ≡ b → below others count k ≡ others k
  all_below_by k true is =
      let both = and_parts (not (k == by)) (is_some (s.cores k)) is in
      let found = value_of (s.cores k) both.1 in rw (lt-ltb k count (may.there k found.0 found.1)) refl
  all_below_by k false is = and_right (nat_lt k count) (others k) is ∙ sym is

  -- the entries of all other cores replay, and lead to the state in which the core alone runs
  pub cancels_replay : replay_from image count s (cancels count s by) ≡ Some (with_cancels by s)
  cancels_replay = cancels_below count ∙ ap Some (same_state (below others count) others (λ k. all_below_by k (others k) refl))

  pub still_alone : (with_cancels by s).cores by ≡ Some c
  still_alone = ap (λ b. idle_if b (s.cores by)) (not_other s.cores by) ∙ may.at

  -- every other core is idle
  pub idle_by : (k : ℕ) → k ≢ by → (o : Option CoreState) → idle_if (not (k == by) && is_some o) o ≡ None
  idle_by k other None = ap (λ b. idle_if (b && false) None) (ap not (ne_eqb k by other))
  idle_by k other (Some d) = ap (λ b. idle_if (b && true) (Some d)) (ap not (ne_eqb k by other))

  pub others_idle : (k : ℕ) → k ≢ by → (with_cancels by s).cores k ≡ None
  others_idle k other = idle_by k other (s.cores k)
