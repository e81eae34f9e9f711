-- New plain stores, and room in them.
use Rattle.std.proofs.Common.{◌≡◌, ℕ, zero, suc, ◌<◌, ◌≤◌, List, [], ◌∷◌, length, slice_get, slice_index, Option, Some, is_some, unwrap_or, refl, sym, ap, ◌∙◌, inl, inr, arith, true≢false}
use Rattle.std.proofs.lemmas.Bool.{cases_lt}
use Rattle.std.proofs.lemmas.Option.{slice_get_past}
use Rattle.rv32_image.proofs.SmallFacts.{none_and_some}
use Rattle.violations.specs.declared.attempt.Attempt.{Attempt}
use Rattle.violations.specs.declared.core_state.CoreState.{CoreState}
use Rattle.violations.specs.View.{IsSettled}
use Rattle.violations.specs.Rule.{IsSameView}
use Rattle.violations.specs.CoreState.{HaveRoom, AreWithin, IsSameState, AreIdle, AreSame}
use Rattle.violations.specs.Plain.{PlainView, attempt_in, own_in, guarded_in, store_view, IsFit}
use Rattle.violations.proofs.Plains.{clear_of, shape_same, IsBare, IsQuiet, quiet_of, CameFrom, settled_from}
use Rattle.violations.proofs.Publishing.{IsOut, out_by}

-- ---- room

there_is : (states : List CoreState) (k : ℕ) → k < length states → (state : CoreState) × (slice_get states k ≡ Some state)
there_is [] k below = absurd (omega arith)
there_is (first ∷ rest) zero below = (first, refl)
there_is (first ∷ rest) (suc k) below = there_is rest k (omega arith)

-- contracts see the same of both
record LooksAlike (x y : Option CoreState) : Type 0 where
  pub attempt : attempt_in y ≡ attempt_in x
  pub own : (a : ℕ) → own_in y a ≡ own_in x a
  pub guarded : (a : ℕ) → guarded_in y a ≡ guarded_in x a

alike_by : (x y : Option CoreState) (l m : CoreState) → x ≡ Some l → y ≡ Some m → IsSameState l m → LooksAlike x y
alike_by x y l m is_x is_y same = record {
  attempt = ap attempt_in is_y ∙ (same.attempt ∙ sym (ap attempt_in is_x));
  own = λ a. ap (λ z. own_in z a) is_y ∙ (same.own a ∙ sym (ap (λ z. own_in z a) is_x));
  guarded = λ a. ap (λ z. guarded_in z a) is_y ∙ (same.guarded a ∙ sym (ap (λ z. guarded_in z a) is_x));
}

looks_alike : (old new : List CoreState) → AreSame old new → (k : ℕ) → LooksAlike (slice_get old k) (slice_get new k)
looks_alike old new same k = elim (cases_lt k (length old)) [
  | inl below ↦
      let l = there_is old k below in
      let m = there_is new k (omega (arith, same.long, below)) in
      alike_by (slice_get old k) (slice_get new k) l.0 m.0 l.1 m.1 (same.each k l.0 m.0 l.1 m.1)
  | inr past ↦
      let none = slice_get_past old k past in
      let none' = slice_get_past new k (omega (arith, same.long, past)) in record {
        attempt = ap attempt_in (none' ∙ sym none);
        own = λ a. ap (λ z. own_in z a) (none' ∙ sym none);
        guarded = λ a. ap (λ z. guarded_in z a) (none' ∙ sym none);
      }
]

abbrev pub with_states : PlainView → List CoreState → ℕ → PlainView
with_states p states budget = record { code = p.code; machine = p.machine; committed = p.committed; states = states; budget = budget }

pub same_view : (p : PlainView) (states : List CoreState) (budget : ℕ) → AreSame p.states states → IsSameView (store_view p) (store_view (with_states p states budget))
same_view p states budget same =
    let alike = looks_alike p.states states same in record {
      shape = shape_same p (with_states p states budget) (record { code = refl; machine = refl; committed = refl; states = same.long });
      cached = refl;
      committed = λ a. refl;
      cores = λ k. record {
        attempt = (alike k).attempt;
        own = λ a. ap is_some ((alike k).own a);
        guarded = λ a. ap is_some ((alike k).guarded a);
        sees = λ a. ap (λ o. unwrap_or o (slice_index p.committed a)) ((alike k).own a);
      };
    }

bare_alike : (x y : Option CoreState) → LooksAlike x y → IsBare x → IsBare y
bare_alike x y alike bare = record { own = λ a. alike.own a ∙ bare.own a; guarded = λ a. alike.guarded a ∙ bare.guarded a }

quiet_alike : (x y : Option CoreState) → LooksAlike x y → IsQuiet x → IsQuiet y
quiet_alike x y alike quiet = record {
  idle = λ none. bare_alike x y alike (quiet.idle (sym alike.attempt ∙ none));
  straight = λ t at is. bare_alike x y alike (quiet.straight t (sym alike.attempt ∙ at) is);
}

came_alike : (p : PlainView) (k : ℕ) (y : Option CoreState) (now : Attempt) → LooksAlike (slice_get p.states k) y → attempt_in y ≡ Some now → CameFrom p k now
came_alike p k y now alike at = record { was = now; is = sym alike.attempt ∙ at; epoch = refl; straight = λ is. inl is }

pub same_settled : (p : PlainView) (states : List CoreState) (budget : ℕ) → AreSame p.states states → IsSettled (store_view p) → IsSettled (store_view (with_states p states budget))
same_settled p states budget same settled =
    let alike = looks_alike p.states states same in
    settled_from p (with_states p states budget) settled same.long (λ k now at. came_alike p k (slice_get states k) now (alike k) at)
    (λ k. quiet_alike (slice_get p.states k) (slice_get states k) (alike k) (quiet_of p k settled))

pub same_fit : (p : PlainView) (states : List CoreState) (budget : ℕ) → AreSame p.states states → AreWithin (length p.committed) states
    → (1 ≤ budget → HaveRoom (length p.committed) budget states) → IsFit p → IsFit (with_states p states budget)
same_fit p states budget same within room fit = record {
  least = fit.least;
  small = fit.small;
  count = omega (arith, fit.count, same.long);
  within = within;
  room = room;
}

-- ---- new stores

pub idle_out : (size : ℕ) (states : List CoreState) → AreIdle size states → (k : ℕ) → IsOut (slice_get states k)
idle_out size states idle k = out_by (slice_get states k) (λ state at. (idle.each k state at).0)

pub fresh_settled : (p : PlainView) (size : ℕ) → AreIdle size p.states → IsSettled (store_view p)
fresh_settled p size idle =
    let out = idle_out size p.states idle in record {
      there = λ k x at. absurd (none_and_some _ x (out k).attempt at);
      apart = λ j k x y at_j at_k same. absurd (none_and_some _ x (out j).attempt at_j);
      straight_first = λ j k x y at_j straight at_k other. absurd (none_and_some _ x (out j).attempt at_j);
      idle = λ k none. clear_of p k (out k).bare;
      straight = λ k x at straight. clear_of p k (out k).bare;
      whole_lines = λ cached k a b same guarded. absurd (true≢false (sym cached));
    }

pub fresh_fit : (p : PlainView) → p.budget ≡ 0 → 16 ≤ length p.committed → length p.committed ≤ 1048576 → length p.states ≤ 16 → AreIdle (length p.committed) p.states → IsFit p
fresh_fit p none least small few idle = record {
  least = least;
  small = small;
  count = few;
  within = record { each = λ k state at. (idle.each k state at).1 };
  room = λ some. absurd (omega (arith, some, none));
}
