-- The attempts of the cores stay ordered through every call, and what every store keeps follows.
use Rattle.std.proofs.Common.{◌≡◌, ◌≢◌, inl, inr, ℕ, ◌%◌, ◌<◌, ◌≤◌, nat_lt, Bool, true, false, Option, Some, refl, sym, ap, subst, ◌∙◌, arith}
use Rattle.std.proofs.lemmas.Bool.{cases_eq, lt-ltb}
use Rattle.std.proofs.lemmas.Bool.Decides.{nat_tests}
use Rattle.rv32_image.proofs.SmallFacts.{one_value, none_and_some}
use Rattle.spec_states.specs.States.{is_speculative}
use Rattle.violations.specs.declared.attempt.Attempt.{Attempt}
use Rattle.violations.specs.View.{attempt_of, epoch_of, IsClear, IsSettled, MayBegin, MayPublish, Runs}
use Rattle.violations.specs.Rule.{Begins, Ends, HurtsLater, Publishes}
use Rattle.bus_states.specs.Bus.{CoreState, Bus, line_of, offset_of}
use Rattle.bus_states.specs.Coherent.{IsCoherent, speculates}
use Rattle.bus_states.specs.Views.{view_of, AreOrdered}
use Rattle.bus_states.proofs.Addresses.{line-aligned}
use Rattle.bus_states.proofs.Coherence.{sees-unmodified}
use Rattle.bus_states.proofs.Guarding.{guards-lines}
use Rattle.bus_states.proofs.Hurting.{running}
use Rattle.bus_states.proofs.Showing.{none_in}
use Rattle.bus_states.proofs.StraightAccesses.{IsFirst}

-- ---- what every store keeps

-- a core without an attempt, or with a straight one, keeps nothing
pub clear-of : (bus : Bus) (k : ℕ) → IsCoherent bus → speculates (bus.core k).attempt ≡ false → IsClear (view_of bus) k
clear-of bus k h calm =
    record {
      own = λ a. none_in ((bus.core k).copy (line a)).marks.bytes (offset_of bus.line_length a) (unmodified a);
      guarded = λ a. ((h.lines (line a) (aligned a)).up_to_date k).not_loaded (unmarked a);
      sees = λ a. sees-unmodified bus k (line a) (unmodified a) (offset_of bus.line_length a);
    }
  where
    line : ℕ → ℕ
    line a = line_of bus.line_length a

    aligned : (a : ℕ) → line_of bus.line_length a % bus.line_length ≡ 0
    aligned a = line-aligned bus.line_length a h.length_is

    unmarked : (a : ℕ) → is_speculative ((bus.core k).copy (line_of bus.line_length a)).state ≡ false
    unmarked a = (h.cores k).unmarked (line_of bus.line_length a) calm

    unmodified : (a : ℕ) → ((bus.core k).copy (line_of bus.line_length a)).marks.bytes ≡ 0
    unmodified a = ((h.lines (line a) (aligned a)).up_to_date k).not_modified (unmarked a)

-- a core that runs an attempt is there
pub runs-there : (bus : Bus) (k : ℕ) (x : Attempt) → IsCoherent bus → (bus.core k).attempt ≡ Some x → k < bus.shape.cores
runs-there bus k x h runs =
    elim (nat_lt k bus.shape.cores) as (λ b. nat_lt k bus.shape.cores ≡ b → k < bus.shape.cores) [
      | true ↦ λ e. grind (arith, nat_tests)
      | false ↦ λ e.
          let past : bus.shape.cores ≤ k = grind (arith, nat_tests) in
          absurd (none_and_some (bus.core k).attempt x (ap (λ (core : CoreState). core.attempt) (h.absent k past)) runs)
    ] refl

pub settled : (bus : Bus) → IsCoherent bus → AreOrdered bus → IsSettled (view_of bus)
settled bus h ordered =
    record {
      there = λ k x runs. runs-there bus k x h runs;
      apart = ordered.apart;
      straight_first = ordered.straight_first;
      idle = λ k none. clear-of bus k h (ap speculates none);
      straight = λ k x runs is. clear-of bus k h (ap speculates runs ∙ rw is refl);
      whole_lines = λ cached. guards-lines bus h;
    }

-- ---- the order of the attempts

-- no attempt is new
pub ordered-stays : (old new : Bus) → AreOrdered old
    → ((k : ℕ) (x : Attempt) → (new.core k).attempt ≡ Some x → (old.core k).attempt ≡ Some x) → AreOrdered new
ordered-stays old new h same =
    record {
      apart = λ j k x y at_j at_k e. h.apart j k x y (same j x at_j) (same k y at_k) e;
      straight_first = λ j k x y at_j straight at_k away. h.straight_first j k x y (same j x at_j) straight (same k y at_k) away;
    }

-- an attempt of another core, after a call that violates attempts at most, is the one that it had
hurt-had : (old new : Bus) (core : ℕ) (hurt : ℕ → Bool) → HurtsLater (view_of old) (view_of new) core hurt
    → (k : ℕ) (x : Attempt) → k ≢ core → (new.core k).attempt ≡ Some x → (old.core k).attempt ≡ Some x
hurt-had old new core hurt others k x away at =
    elim (hurt k) as (λ b. hurt k ≡ b → (old.core k).attempt ≡ Some x) [
      | true ↦ λ e. absurd (none_and_some (new.core k).attempt x (others.hurts k e).none at)
      | false ↦ λ e. sym (others.spares k away e).attempt ∙ at
    ] refl

-- each attempt was there before, where this core's was, and where each other core's was
each-had : (old new : Bus) (core : ℕ) → ((x : Attempt) → (new.core core).attempt ≡ Some x → (old.core core).attempt ≡ Some x)
    → ((k : ℕ) (x : Attempt) → k ≢ core → (new.core k).attempt ≡ Some x → (old.core k).attempt ≡ Some x)
    → (k : ℕ) (x : Attempt) → (new.core k).attempt ≡ Some x → (old.core k).attempt ≡ Some x
each-had old new core own others k x at = elim (cases_eq k core) [
  | inl here ↦ subst (λ (j : ℕ). (new.core j).attempt ≡ Some x → (old.core j).attempt ≡ Some x) (sym here) (own x) at
  | inr away ↦ others k x away at
]

pub ordered-hurts : (old new : Bus) (core : ℕ) (hurt : ℕ → Bool) → AreOrdered old
    → HurtsLater (view_of old) (view_of new) core hurt → (new.core core).attempt ≡ (old.core core).attempt → AreOrdered new
ordered-hurts old new core hurt h others stays =
    ordered-stays old new h (each-had old new core (λ x at. sym stays ∙ at) (hurt-had old new core hurt others))

-- an attempt ends
pub ordered-ends : (old new : Bus) (core : ℕ) → AreOrdered old → Ends (view_of old) (view_of new) core → AreOrdered new
ordered-ends old new core h ends =
    ordered-stays old new h
    (each-had old new core (λ x at. absurd (none_and_some (new.core core).attempt x ends.attempt at)) (λ k x away at. sym (ends.others k away).attempt ∙ at))

-- a core has this attempt now, each other one the attempt that it had
record HasNow (old new : Bus) (core : ℕ) (attempt : Attempt) : Type 0 where
  pub own : (new.core core).attempt ≡ Some attempt
  pub others : (k : ℕ) (x : Attempt) → k ≢ core → (new.core k).attempt ≡ Some x → (old.core k).attempt ≡ Some x

-- it is of another epoch than all others, of a later one than straight ones, and of an earlier one where it is straight
record FitsIn (old : Bus) (core : ℕ) (attempt : Attempt) : Type 0 where
  pub new : (k : ℕ) (y : Attempt) → k ≢ core → (old.core k).attempt ≡ Some y → attempt.epoch ≢ y.epoch
  pub after_straight : (k : ℕ) (y : Attempt) → k ≢ core → (old.core k).attempt ≡ Some y → y.straight ≡ true → y.epoch < attempt.epoch
  pub first : attempt.straight ≡ true → (k : ℕ) (y : Attempt) → k ≢ core → (old.core k).attempt ≡ Some y → attempt.epoch < y.epoch

ordered-with : (old new : Bus) (core : ℕ) (attempt : Attempt) → AreOrdered old → HasNow old new core attempt → FitsIn old core attempt
    → AreOrdered new
ordered-with old new core attempt h now fits = record { apart = apart; straight_first = straight_first }
  where
    mine : (k : ℕ) (x : Attempt) → k ≡ core → (new.core k).attempt ≡ Some x → x ≡ attempt
    mine k x here at = one_value (new.core core).attempt x attempt (ap (λ (k : ℕ). (new.core k).attempt) (sym here) ∙ at) now.own

    apart : (j k : ℕ) (x y : Attempt) → (new.core j).attempt ≡ Some x → (new.core k).attempt ≡ Some y → x.epoch ≡ y.epoch → j ≡ k
    apart j k x y at_j at_k e = elim (cases_eq j core) [
      | inl j_here ↦ elim (cases_eq k core) [
        | inl k_here ↦ j_here ∙ sym k_here
        | inr k_away ↦ absurd (fits.new k y k_away (now.others k y k_away at_k) (ap (λ (x : Attempt). x.epoch) (sym (mine j x j_here at_j)) ∙ e))
      ]
      | inr j_away ↦ elim (cases_eq k core) [
        | inl k_here ↦ absurd (fits.new j x j_away (now.others j x j_away at_j) (ap (λ (x : Attempt). x.epoch) (sym (mine k y k_here at_k)) ∙ sym e))
        | inr k_away ↦ h.apart j k x y (now.others j x j_away at_j) (now.others k y k_away at_k) e
      ]
    ]

    straight_first : (j k : ℕ) (x y : Attempt) → (new.core j).attempt ≡ Some x → x.straight ≡ true
        → (new.core k).attempt ≡ Some y → k ≢ j → x.epoch < y.epoch
    straight_first j k x y at_j straight at_k away = elim (cases_eq j core) [
      | inl j_here ↦
          let is : x ≡ attempt = mine j x j_here at_j in
          let k_away : k ≢ core = λ k_here. away (k_here ∙ sym j_here) in
          subst (λ (x : Attempt). x.epoch < y.epoch) (sym is)
          (fits.first (ap (λ (x : Attempt). x.straight) (sym is) ∙ straight) k y k_away (now.others k y k_away at_k))
      | inr j_away ↦ elim (cases_eq k core) [
        | inl k_here ↦
            subst (λ (y : Attempt). x.epoch < y.epoch) (sym (mine k y k_here at_k))
            (fits.after_straight j x j_away (now.others j x j_away at_j) straight)
        | inr k_away ↦ h.straight_first j k x y (now.others j x j_away at_j) straight (now.others k y k_away at_k) away
      ]
    ]

-- an attempt begins
pub ordered-begins : (old new : Bus) (core epoch : ℕ) → AreOrdered old → MayBegin (view_of old) core epoch
    → Begins (view_of old) (view_of new) core epoch → AreOrdered new
ordered-begins old new core epoch h may begins =
    ordered-with old new core (attempt_of epoch false) h
    (record { own = begins.attempt; others = λ k x away at. sym (begins.others k away).attempt ∙ at })
    (record {
      new = λ k y away at e. may.new k y at (sym e);
      after_straight = λ k y away at straight. may.after_straight k y at straight;
      first = λ e. cc;
    })

-- every other attempt is later than that of a core that may publish
publish-first : (bus : Bus) (core : ℕ) → AreOrdered bus → (may : MayPublish (view_of bus) core) → (k : ℕ) (y : Attempt) → k ≢ core
    → (bus.core k).attempt ≡ Some y → may.epoch < y.epoch
publish-first bus core h may k y away at =
    before (may.first k y at) (λ e. away (h.apart k core y (attempt_of may.epoch false) at may.is (sym e)))
  where
    before : {m n : ℕ} → m ≤ n → m ≢ n → m < n
    before le apart = omega arith

-- the first attempt is straight now
pub ordered-publishes : (old new : Bus) (core : ℕ) (hurt : ℕ → Bool) → AreOrdered old → MayPublish (view_of old) core
    → Publishes (view_of old) (view_of new) core hurt → AreOrdered new
ordered-publishes old new core hurt h may publishes =
    ordered-with old new core (attempt_of may.epoch true) h
    (record {
      own = publishes.attempt ∙ ap (λ (o : Option Attempt). Some (attempt_of (epoch_of o) true)) may.is;
      others = hurt-had old new core hurt publishes.others;
    })
    (record {
      new = λ k y away at e. away (h.apart k core y (attempt_of may.epoch false) at may.is (sym e));
      after_straight = λ k y away at straight. h.straight_first k core y (attempt_of may.epoch false) at straight may.is (λ e. away (sym e));
      first = λ e. publish-first old core h may;
    })

-- ---- the first core

later-than : (o p : Option Attempt) (x y : Attempt) → o ≡ Some x → p ≡ Some y → x.epoch < y.epoch → nat_lt (epoch_of o) (epoch_of p) ≡ true
later-than o p x y e f lt = rw (e, f) (lt-ltb x.epoch y.epoch lt)

-- a core is the first where the attempts of all others are later
first-core : (bus : Bus) (core : ℕ) (x : Attempt) → (bus.core core).attempt ≡ Some x
    → ((k : ℕ) (y : Attempt) → k ≢ core → (bus.core k).attempt ≡ Some y → x.epoch < y.epoch) → IsFirst bus core
first-core bus core x runs before =
    record {
      later =
          λ k away speculative.
          let other = running (bus.core k).attempt speculative in
          later-than (bus.core core).attempt (bus.core k).attempt x other.0 runs other.1 (before k other.0 away other.1);
    }

-- as those beside a straight one are
pub first-straight : (bus : Bus) (core : ℕ) → AreOrdered bus → Runs (view_of bus) core true → IsFirst bus core
first-straight bus core h runs =
    first-core bus core (attempt_of runs.epoch true) runs.is
    (λ k y away at. h.straight_first core k (attempt_of runs.epoch true) y runs.is refl at away)

-- and those beside one that may publish
pub first-publish : (bus : Bus) (core : ℕ) → AreOrdered bus → MayPublish (view_of bus) core → IsFirst bus core
first-publish bus core h may = first-core bus core (attempt_of may.epoch false) may.is (publish-first bus core h may)
