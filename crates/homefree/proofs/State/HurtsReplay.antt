-- The entries of hurt cores are legal, and hurt these cores; those of cancelled cores make them idle.
use Rattle.std.proofs.Common.{◌≡◌, ◌≢◌, ℕ, zero, suc, ◌<◌, ◌==◌, ◌&&◌, not, nat_lt, Bool, true, false, cond, List, [], ◌∷◌, ◌++◌, Option, Some, None, refl, sym, ap, ◌∙◌, inl, inr, arith, append-nil, eq-eqb, ne_eqb, lt-ltb, le-ltb}
use Rattle.std.proofs.Math.Path.{fun_ext}
use Rattle.std.proofs.lemmas.Bool.{cases_eq, and_right}
use Rattle.std.proofs.lemmas.Bool.Decides.{nat_tests}
use Rattle.rv32_image.specs.Image.{LoadedImage}
use Rattle.rv32_image.proofs.SmallFacts.{or_false}
use Rattle.spec_history.specs.declared.entry.Entry.{Entry}
use Rattle.spec_history.specs.declared.entry.What.TheVariants.{Hurt}
use Rattle.spec_history.specs.FlatState.{CoreState, FlatState}
use Rattle.spec_history.specs.Effect.{by_core, effect, hurt_at}
use Rattle.spec_history.specs.Refusal.{refusal_of, can_be_hurt}
use Rattle.spec_history.specs.Replay.{replay_from}
use Rattle.spec_history.specs.Laws.{IsKept}
use Rattle.spec_history.proofs.OneEntry.Legal.{legal_is}
use Rattle.spec_history.proofs.Replay.Joining.{one_entry, no_entry, then_entries}
use Rattle.spec_history.proofs.OneEntry.Keeping.{IsApart}
use Rattle.spec_history.proofs.Searches.Tests.{one_passes}
use Rattle.spec_history.proofs.Searches.Missing.{quiet_misses}
use Rattle.spec_history.proofs.Replay.Replays.{effect-on}
use Rattle.homefree.specs.Hurts.{entry_for_each, hurts, epoch_on, hurt_if, with_hurts}
use Rattle.homefree.proofs.State.Legality.{by_it}

-- a core that a call may hurt
pub record CanBeHurt (s : FlatState) (c : CoreState) (k : ℕ) : Type 0 where
  pub core : CoreState
  pub at : s.cores k ≡ Some core
  pub unhurt : core.hurt ≡ false
  pub speculates : core.straight ≡ false
  pub later : c.epoch < core.epoch

-- the cores below n that are hurt
abbrev pub below : (ℕ → Bool) → ℕ → ℕ → Bool
below hurt n k = nat_lt k n && hurt k

-- ---- one entry

pub hurt_legal : (image : LoadedImage) (count : ℕ) (t : FlatState) (by k : ℕ) (c d : CoreState) → t.end ≡ None → t.cores by ≡ Some c → c.hurt ≡ false
    → t.cores k ≡ Some d → d.hurt ≡ false → d.straight ≡ false → c.epoch < d.epoch → k < count
    → refusal_of image count t (record { by = by; what = Hurt d.epoch }) ≡ None
hurt_legal image count t by k c d going at unhurt at_k unhurt_k speculates later within =
    legal_is image count t (record { by = by; what = Hurt d.epoch }) (record {
      going = going;
      there = rw (by_it (t.cores by) c (λ x. not x.hurt && nat_lt x.epoch d.epoch) at (rw (unhurt, lt-ltb c.epoch d.epoch later) refl))
          (one_passes count (λ j. can_be_hurt d.epoch (t.cores j)) k within
          (by_it (t.cores k) d (λ x. not x.hurt && ((x.epoch == d.epoch) && not x.straight)) at_k (rw (unhurt_k, speculates, eq-eqb d.epoch d.epoch refl) refl)));
      next = refl;
      homefree = refl;
      value = refl;
      spares = quiet_misses image count t by (Hurt d.epoch) c at tt;
      cancelled = refl;
    })

-- ---- one more hurt core

other_hurt : (b : Bool) (epoch : ℕ) (core : Option CoreState) → ((x : CoreState) → core ≡ Some x → x.epoch ≢ epoch) → hurt_at epoch (hurt_if b core) ≡ hurt_if b core
other_hurt true epoch None other = refl
other_hurt false epoch None other = refl
other_hurt true epoch (Some x) other = refl
other_hurt false epoch (Some x) other = rw (ne_eqb x.epoch epoch (other x refl), or_false x.hurt) refl

this_hurt : (b : Bool) (epoch : ℕ) (core : Option CoreState) (x : CoreState) → core ≡ Some x → x.epoch ≡ epoch → x.hurt ≡ false → b ≡ false
    → hurt_at epoch (hurt_if b core) ≡ hurt_if true core
this_hurt true epoch core x at same unhurt off = absurd cc
this_hurt false epoch core x at same unhurt off = rw (at, unhurt, eq-eqb x.epoch epoch same) refl

pub below_other : (hurt : ℕ → Bool) (n k : ℕ) → k ≢ n → below hurt (suc n) k ≡ below hurt n k
below_other hurt n k other = ap (λ b. b && hurt k) (lt_same k n other)
  where
    lt_same : (k n : ℕ) → k ≢ n → nat_lt k (suc n) ≡ nat_lt k n
    lt_same k n other = grind (arith, nat_tests)

pub below_this : (hurt : ℕ → Bool) (n : ℕ) (b : Bool) → hurt n ≡ b → below hurt (suc n) n ≡ b
below_this hurt n b is = rw (lt-ltb n (suc n) (omega arith)) is

pub below_not_yet : (hurt : ℕ → Bool) (n : ℕ) → below hurt n n ≡ false
below_not_yet hurt n = rw (le-ltb n n (omega arith)) refl

one_more : (hurt : ℕ → Bool) (s : FlatState) (n k : ℕ) (d : CoreState) → IsApart s.cores → s.cores n ≡ Some d → d.hurt ≡ false → hurt n ≡ true
    → hurt_at d.epoch (hurt_if (below hurt n k) (s.cores k)) ≡ hurt_if (below hurt (suc n) k) (s.cores k)
one_more hurt s n k d apart at unhurt is = elim (cases_eq k n) [
  | inl e ↦ rw e (rw (below_this hurt n true is) (this_hurt (below hurt n n) d.epoch (s.cores n) d at refl unhurt (below_not_yet hurt n)))
  | inr other ↦ rw (below_other hurt n k other) (other_hurt (below hurt n k) d.epoch (s.cores k) (λ x at_k same. other (apart k n x d at_k at same)))
]

pub no_more : (hurt : ℕ → Bool) (n k : ℕ) → hurt n ≡ false → below hurt n k ≡ below hurt (suc n) k
no_more hurt n k is = elim (cases_eq k n) [
  | inl e ↦ rw e (below_not_yet hurt n ∙ sym (below_this hurt n false is))
  | inr other ↦ sym (below_other hurt n k other)
]

same_hurts : (f g : ℕ → Bool) (s : FlatState) → ((k : ℕ) → f k ≡ g k) → with_hurts f s ≡ with_hurts g s
same_hurts f g s same = ap (λ (h : ℕ → Bool). with_hurts h s) (fun_ext same)

pub with_cores : (s : FlatState) (f g : ℕ → Option CoreState) → ((k : ℕ) → f k ≡ g k) → (let t : FlatState = record s { cores = f } in t) ≡ record s { cores = g }
with_cores s f g same = ap (λ (x : ℕ → Option CoreState). record s { cores = x }) (fun_ext same)

-- ---- all of them

module _ (image : LoadedImage) (count : ℕ) (s : FlatState) (by : ℕ) (c : CoreState) (hurt : ℕ → Bool)
    (going : s.end ≡ None) (kept : IsKept image count s) (at : s.cores by ≡ Some c) (unhurt : c.hurt ≡ false) (itself : hurt by ≡ false)
    (can : (k : ℕ) → hurt k ≡ true → CanBeHurt s c k) where
  abbrev entries : ℕ → List Entry
  entries n = entry_for_each by hurt (λ k. Hurt (epoch_on s.cores k)) n

  by_stays : (b : Bool) → b ≡ false → hurt_if b (s.cores by) ≡ Some c
  by_stays true is = absurd cc
  by_stays false is = at

  step : (n : ℕ) → (b : Bool) → hurt n ≡ b → replay_from image count s (entries n) ≡ Some (with_hurts (below hurt n) s)
      → replay_from image count s (entries n ++ cond b (record { by = by; what = Hurt (epoch_on s.cores n) } ∷ []) []) ≡ Some (with_hurts (below hurt (suc n)) s)
  step n false is so_far = rw append-nil (so_far ∙ ap Some (same_hurts (below hurt n) (below hurt (suc n)) s (λ k. no_more hurt n k is)))
  step n true is so_far =
      let one = can n is in
      let d = one.core in
      let t = with_hurts (below hurt n) s in
      let epoch : epoch_on s.cores n ≡ d.epoch = ap (λ o. by_core o 0 (λ x. x.epoch)) one.at in
      let by_t : t.cores by ≡ Some c = by_stays (below hurt n by) (and_right (nat_lt by n) (hurt by) itself) in
      let n_t : t.cores n ≡ Some d = ap (λ b. hurt_if b (s.cores n)) (below_not_yet hurt n) ∙ one.at in
      let legal = hurt_legal image count t by n c d going by_t unhurt n_t one.unhurt one.speculates one.later (kept.core n d one.at).there in
      let becomes : effect image t (record { by = by; what = Hurt d.epoch }) ≡ with_hurts (below hurt (suc n)) s =
      effect-on image t by (Hurt d.epoch) c by_t
      ∙ with_cores s (λ k. hurt_at d.epoch (hurt_if (below hurt n k) (s.cores k))) (λ k. hurt_if (below hurt (suc n) k) (s.cores k))
      (λ k. one_more hurt s n k d kept.apart one.at one.unhurt is) in
      rw epoch (then_entries image count (entries n) (record { by = by; what = Hurt d.epoch } ∷ []) s t (with_hurts (below hurt (suc n)) s)
      so_far (one_entry image count t (record { by = by; what = Hurt d.epoch }) legal ∙ ap Some becomes))

  below_zero : (k : ℕ) → below hurt 0 k ≡ false
  below_zero k = rw (le-ltb k 0 (omega arith)) refl

  same_none : with_hurts (λ _. false) s ≡ s
  same_none = refl

  hurts_below : (n : ℕ) → replay_from image count s (entries n) ≡ Some (with_hurts (below hurt n) s)
  hurts_below zero = no_entry image count s ∙ ap Some (sym (same_hurts (below hurt 0) (λ _. false) s below_zero))
  hurts_below (suc n) = step n (hurt n) refl (hurts_below n)

  pub all_below_by : (k : ℕ) (b : Bool) → hurt k ≡ b → below hurt count k ≡ hurt k
  all_below_by k true is = let one = can k is in rw (lt-ltb k count (kept.core k one.core one.at).there) refl
  all_below_by k false is = and_right (nat_lt k count) (hurt k) is ∙ sym is

  -- the entries of all hurt cores replay, and lead to the state with these hurt
  pub hurts_replay : replay_from image count s (hurts count s by hurt) ≡ Some (with_hurts hurt s)
  hurts_replay = hurts_below count ∙ ap Some (same_hurts (below hurt count) hurt s (λ k. all_below_by k (hurt k) refl))

  pub still_runs : (with_hurts hurt s).cores by ≡ Some c
  still_runs = by_stays (hurt by) itself
