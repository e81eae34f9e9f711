-- The cause of a violation: what its core did next, in a state that differs in who is violated and cancelled alone.
use Rattle.std.proofs.Common.{◌≡◌, ℕ, zero, suc, ◌+◌, ◌-◌, ◌<◌, ◌≤◌, ◌==◌, ◌&&◌, not, nat_lt, Bool, true, false, cond, List, length, slice_get, take, Option, Some, None, option_and_then, option_map, refl, sym, ap, subst, ◌∙◌, inl, inr, arith, eqb-true, ltb-true}
use Rattle.std.proofs.lemmas.Bool.{and_parts, cases_eq, not-false}
use Rattle.std.proofs.lemmas.Bool.Decides.{nat_tests}
use Rattle.rv32_image.specs.Image.{LoadedImage}
use Rattle.rv32_image.proofs.SmallFacts.{one_value}
use Rattle.spec_history.specs.declared.entry.Entry.{Entry}
use Rattle.spec_history.specs.declared.entry.What.{What}
use Rattle.spec_history.specs.declared.entry.What.TheVariants.{Start, Load, Store, Hurt, Cancel, Restart, Publish, Commit, Fault}
use Rattle.spec_history.specs.FlatState.{CoreState, FlatState}
use Rattle.spec_history.specs.Effect.{effect, effect_on, effect_idle, hurt_at}
use Rattle.spec_history.specs.Refusal.{refusal_of}
use Rattle.spec_history.specs.Replay.{replay}
use Rattle.spec_history.specs.Conflict.{can_cause, cause_of, entry_is, is_notice, next_act, passes, what_at}
use Rattle.rv32_exec.specs.Hart.{HartState}
use Rattle.spec_history.proofs.OneEntry.Entries.{still_runs}
use Rattle.spec_history.proofs.OneEntry.Legal.{and_false}
use Rattle.spec_history.proofs.Replay.Replays.{effect-on, effect-idle}
use Rattle.spec_history.proofs.Searches.Tests.{first_found}
use Rattle.dependences.proofs.Histories.{entry_at, next_entry, prefix, there_below}

-- ---- a search from the front

-- ---- the entry that is the cause

passes_is : (o : Option Entry) (test : Entry → Bool) → passes o test ≡ true → (entry : Entry) × (o ≡ Some entry) × (test entry ≡ true)
passes_is None test is = absurd cc
passes_is (Some entry) test is = (entry, refl, is)

-- the entry at a place is what the core does, and only notices stand between
pub record CauseAt (history : List Entry) (place by : ℕ) (what : What) : Type 0 where
  pub at : ℕ
  pub after : place < at
  pub entry : slice_get history at ≡ Some (record { by = by; what = what })
  pub can : can_cause what ≡ true
  pub notices : (i : ℕ) (entry : Entry) → place < i → i < at → slice_get history i ≡ Some entry → is_notice entry.what ≡ true

abbrev acts : List Entry → ℕ → ℕ → Bool
acts history place j = nat_lt place j && entry_is history j (λ entry. not (is_notice entry.what))

abbrev does : ℕ → Entry → Bool
does by entry = (entry.by == by) && can_cause entry.what

abbrev chosen : ℕ → Bool → Option ℕ
chosen j b = cond b (Some j) None

between : (history : List Entry) (place i : ℕ) (entry : Entry) → place < i → slice_get history i ≡ Some entry → acts history place i ≡ false → is_notice entry.what ≡ true
between history place i entry after at is =
    let low : nat_lt place i ≡ true = grind (arith, nat_tests) in
    let none = and_false (nat_lt place i) (entry_is history i (λ e. not (is_notice e.what))) is low in
    not-false (is_notice entry.what) (sym (ap (λ o. passes o (λ e. not (is_notice e.what))) at) ∙ none)

what_is : (o : Option Entry) (entry : Entry) (what : What) → o ≡ Some entry → option_map (λ (e : Entry). e.what) o ≡ Some what → entry.what ≡ what
what_is o entry what at is = let there : option_map (λ (e : Entry). e.what) (Some entry) ≡ Some what = sym (ap (option_map (λ (e : Entry). e.what)) at) ∙ is in cc

picked : (history : List Entry) (place by : ℕ) (what : What) (j : ℕ) (b : Bool) → next_act history place ≡ Some j → entry_is history j (does by) ≡ b
    → what_at history (chosen j b) ≡ Some what → CauseAt history place by what
picked history place by what j false next does_not is = absurd cc
picked history place by what j true next it_does is =
    let first = first_found (length history) (acts history place) j next in
    let found = passes_is (slice_get history j) (does by) it_does in
    let parts = and_parts (found.0.by == by) (can_cause found.0.what) found.2 in
    let same = what_is (slice_get history j) found.0 what found.1 is in
    let core : found.0.by ≡ by = eqb-true _ _ parts.0 in
    let late = and_parts (nat_lt place j) _ first.passes in record {
      at = j;
      after = ltb-true _ _ late.0;
      entry = found.1 ∙ (ap (λ (x : ℕ). let e : Entry = record { by = x; what = found.0.what } in Some e) core
          ∙ ap (λ (w : What). let e : Entry = record { by = by; what = w } in Some e) same);
      can = sym (ap can_cause same) ∙ parts.1;
      notices = λ i entry after below at. between history place i entry after at (first.first i below);
    }

cause_by : (history : List Entry) (place by : ℕ) (what : What) (o : Option ℕ) → next_act history place ≡ o
    → what_at history (option_and_then (λ j. chosen j (entry_is history j (does by))) o) ≡ Some what → CauseAt history place by what
cause_by history place by what None next is = absurd cc
cause_by history place by what (Some j) next is = picked history place by what j (entry_is history j (does by)) next refl is

pub cause_at : (history : List Entry) (place by : ℕ) (what : What) → what_at history (cause_of history place by) ≡ Some what → CauseAt history place by what
cause_at history place by what is = cause_by history place by what (next_act history place) refl is

-- ---- the states up to it

-- the core, if it still runs, has come as far as it had, and the homefree epoch is the same
pub record IsAsFar (by : ℕ) (s t : FlatState) : Type 0 where
  pub homefree : t.homefree ≡ s.homefree
  pub core : (d : CoreState) → t.cores by ≡ Some d → (c : CoreState) × (s.cores by ≡ Some c) × (d.hart ≡ c.hart) × (d.epoch ≡ c.epoch)

as_far_here : (by : ℕ) (s : FlatState) → IsAsFar by s s
as_far_here by s = record { homefree = refl; core = λ d at. (d, at, refl, refl) }

as_far_on : (by : ℕ) (s t u : FlatState) → IsAsFar by s t → IsAsFar by t u → IsAsFar by s u
as_far_on by s t u one two = record {
  homefree = two.homefree ∙ one.homefree;
  core = λ e at. let d = two.core e at in let c = one.core d.0 d.1 in (c.0, c.1, d.2 ∙ c.2, d.3 ∙ c.3);
}

abbrev hart_or : Option CoreState → HartState → HartState
hart_or None other = other
hart_or (Some c) other = c.hart

abbrev epoch_or : Option CoreState → ℕ → ℕ
epoch_or None other = other
epoch_or (Some c) other = c.epoch

was_hurt : (epoch : ℕ) (core : Option CoreState) (d : CoreState) → hurt_at epoch core ≡ Some d → (c : CoreState) × (core ≡ Some c) × (d.hart ≡ c.hart) × (d.epoch ≡ c.epoch)
was_hurt epoch None d is = absurd cc
was_hurt epoch (Some c) d is =
    let hart : c.hart ≡ d.hart = ap (λ (o : Option CoreState). hart_or o c.hart) is in
    let number : c.epoch ≡ d.epoch = ap (λ (o : Option CoreState). epoch_or o c.epoch) is in (c, refl, sym hart, sym number)

notice_on : (image : LoadedImage) (by : ℕ) (s : FlatState) (core : ℕ) (c : CoreState) (what : What) → is_notice what ≡ true → IsAsFar by s (effect_on image s core c what)
notice_on image by s core c (Start epoch) is = absurd cc
notice_on image by s core c (Load address width value) is = absurd cc
notice_on image by s core c (Store address width value) is = absurd cc
notice_on image by s core c (Hurt epoch) is = record { homefree = refl; core = λ d at. was_hurt epoch (s.cores by) d at }
notice_on image by s core c (Cancel epoch) is = record { homefree = refl; core = λ d at. (d, still_runs epoch (s.cores by) d at, refl, refl) }
notice_on image by s core c Restart is = absurd cc
notice_on image by s core c Publish is = absurd cc
notice_on image by s core c Commit is = absurd cc
notice_on image by s core c (Fault cause pc) is = absurd cc

notice_idle : (image : LoadedImage) (by : ℕ) (s : FlatState) (core : ℕ) (what : What) → is_notice what ≡ true → IsAsFar by s (effect_idle image s core what)
notice_idle image by s core (Start epoch) is = absurd cc
notice_idle image by s core (Load address width value) is = absurd cc
notice_idle image by s core (Store address width value) is = absurd cc
notice_idle image by s core (Hurt epoch) is = as_far_here by s
notice_idle image by s core (Cancel epoch) is = as_far_here by s
notice_idle image by s core Restart is = absurd cc
notice_idle image by s core Publish is = absurd cc
notice_idle image by s core Commit is = absurd cc
notice_idle image by s core (Fault cause pc) is = absurd cc

notice_by : (image : LoadedImage) (by : ℕ) (s : FlatState) (core : ℕ) (what : What) (o : Option CoreState) → s.cores core ≡ o → is_notice what ≡ true
    → IsAsFar by s (effect image s (record { by = core; what = what }))
notice_by image by s core what None at is = rw (effect-idle image s core what at) (notice_idle image by s core what is)
notice_by image by s core what (Some c) at is = rw (effect-on image s core what c at) (notice_on image by s core c what is)

module _ (image : LoadedImage) (count : ℕ) (history : List Entry) (last : FlatState) (replays : replay image count history ≡ Some last) (by place at : ℕ) (s : FlatState)
    (before : replay image count (take place history) ≡ Some s) (within : at < length history)
    (notices : (i : ℕ) (entry : Entry) → place ≤ i → i < at → slice_get history i ≡ Some entry → is_notice entry.what ≡ true) where
  as_far_up_to : (d : ℕ) (t : FlatState) → place + d ≤ at → replay image count (take (place + d) history) ≡ Some t → IsAsFar by s t
  as_far_up_to zero t most there =
      let none : place + 0 ≡ place = omega arith in
      let same : s ≡ t = one_value (replay image count (take place history)) s t before (sym (ap (λ n. replay image count (take n history)) none) ∙ there) in
      subst (λ x. IsAsFar by s x) same (as_far_here by s)
  as_far_up_to (suc d) t most there =
      let more : place + suc d ≡ suc (place + d) = omega arith in
      let entry = entry_at history (place + d) (omega (arith, most, within)) in
      let was = prefix image count history last (place + d) replays in
      let next = next_entry image count history last (place + d) was.0 entry.0 replays entry.1 was.1 in
      let same : effect image was.0 entry.0 ≡ t = one_value (replay image count (take (suc (place + d)) history)) _ t next.replays
      (sym (ap (λ n. replay image count (take n history)) more) ∙ there) in
      let notice = notices (place + d) entry.0 (omega arith) (omega (arith, most)) entry.1 in
      as_far_on by s was.0 t (as_far_up_to d was.0 (omega (arith, most)) was.1)
      (subst (λ x. IsAsFar by was.0 x) same (notice_by image by was.0 entry.0.by entry.0.what (was.0.cores entry.0.by) refl notice))

-- the cause of a violation is legal where it stands
pub record IsLegalAt (image : LoadedImage) (count : ℕ) (s : FlatState) (by : ℕ) (what : What) : Type 0 where
  pub later : FlatState
  pub far : IsAsFar by s later
  pub legal : refusal_of image count later (record { by = by; what = what }) ≡ None

notice_here : (history : List Entry) (place by : ℕ) (what : What) (cause : CauseAt history place by what) (first : Entry) → slice_get history place ≡ Some first → is_notice first.what ≡ true
    → (i : ℕ) (entry : Entry) → place ≤ i → i < cause.at → slice_get history i ≡ Some entry → is_notice entry.what ≡ true
notice_here history place by what cause first at_first notice i entry from below at = elim (cases_eq i place) [
  | inl e ↦
      (let same : first ≡ entry = one_value (slice_get history place) first entry at_first (sym (ap (slice_get history) e) ∙ at) in
      sym (ap (λ (x : Entry). is_notice x.what) same) ∙ notice)
  | inr other ↦ cause.notices i entry (omega (arith, from, other)) below at
]

pub cause_is_legal : (image : LoadedImage) (count : ℕ) (history : List Entry) (last : FlatState) (place by : ℕ) (what : What) (s : FlatState) (first : Entry)
    → replay image count history ≡ Some last → replay image count (take place history) ≡ Some s → slice_get history place ≡ Some first → is_notice first.what ≡ true
    → CauseAt history place by what → IsLegalAt image count s by what
cause_is_legal image count history last place by what s first replays before at_first notice cause =
    let there = prefix image count history last cause.at replays in
    let within = there_below history cause.at _ cause.entry in
    let legal = (next_entry image count history last cause.at there.0 _ replays cause.entry there.1).legal in
    let after = cause.after in
    let sum : place + (cause.at - place) ≡ cause.at = omega (arith, after) in record {
      later = there.0;
      far = as_far_up_to image count history last replays by place cause.at s before within (notice_here history place by what cause first at_first notice)
          (cause.at - place) there.0 (omega (arith, sum)) (ap (λ n. replay image count (take n history)) sum ∙ there.1);
      legal = legal;
    }
