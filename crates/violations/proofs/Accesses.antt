-- Loads and stores of the plain store, over its view.
use Rattle.std.proofs.Common.{◌≡◌, ℕ, ◌+◌, ◌^◌, ◌<◌, ◌-◌, ◌&&◌, ◌||◌, not, nat_le, nat_lt, Bool, true, false, cond, slice_get, slice_index, Option, Some, None, is_some, is_none, unwrap_or, refl, sym, ap, ◌∙◌, true≢false}
use Rattle.memory_bytes.specs.Bytes.{byte_of, number_at}
use Rattle.memory_bytes.specs.Maps.{first_of, joined, over, stored, read_outside}
use Rattle.memory_bytes.specs.Shadow.{byte_in}
use Rattle.memory_bytes.proofs.Bytes.{over-joined, number_at_same}
use Rattle.memory_bytes.proofs.SmallFacts.{some_first}
use Rattle.rv32_image.proofs.SmallFacts.{none_of}
use Rattle.violations.specs.declared.core_state.CoreState.{CoreState}
use Rattle.violations.specs.View.{attempt_of, IsSettled, Runs, is_accessed}
use Rattle.violations.specs.Rule.{HurtsLater, TakesIn, Loads, Stores, LoadsStraight}
use Rattle.violations.specs.Plain.{PlainView, GuardsLoaded, attempt_in, own_in, guarded_in, store_view}
use Rattle.violations.proofs.Changing.{get_set_other}
use Rattle.violations.proofs.Plains.{none_hurt, alike_state, shape_same, with_state, here}
use Rattle.violations.proofs.Calls.{straight_bare}

abbrev committed_of : PlainView → ℕ → ℕ
committed_of p a = slice_index p.committed a

-- the others at a speculative access
access_others : (p : PlainView) (by budget : ℕ) (state : CoreState) (hurt : ℕ → Bool) → ((k : ℕ) → hurt k ≡ false) → HurtsLater (store_view p) (store_view (with_state p p.committed by state budget)) by hurt
access_others p by budget state hurt none = none_hurt p (with_state p p.committed by state budget) by hurt none (λ k other. get_set_other p.states by k state other) (λ a. refl)

-- is there a byte, of two
either_some : (first second : Option ℕ) → is_some (first_of first second) ≡ (is_some second || is_some first)
either_some None None = refl
either_some None (Some byte) = refl
either_some (Some byte) None = refl
either_some (Some byte) (Some other) = refl

pub stored_by : (b : Bool) (x : ℕ) → is_some (cond b (Some x) None) ≡ b
stored_by true x = refl
stored_by false x = refl

-- ---- loads

guarded_now : (address width a committed : ℕ) (own before : Option ℕ) → is_accessed address width a ≡ true → is_some own ≡ false
    → is_some (first_of (cond ((nat_le address a && nat_lt a (address + width)) && is_none own) (Some committed) None) before) ≡ true
guarded_now address width a committed own before inside outside = rw (inside, none_of own outside) refl

-- a byte that is guarded now and was not is one of those that are read from outside
taken_now : (accessed : Bool) (own before : Option ℕ) (committed : ℕ) → is_some before ≡ false
    → is_some (first_of (cond (accessed && is_none own) (Some committed) None) before) ≡ true → (accessed ≡ true) × (is_some own ≡ false)
taken_now false own before committed not_before now = absurd (true≢false (sym now ∙ not_before))
taken_now true None before committed not_before now = (refl, refl)
taken_now true (Some byte) before committed not_before now = absurd (true≢false (sym now ∙ not_before))

takes_in : (p : PlainView) (by address width a : ℕ) (state : CoreState) → slice_get p.states by ≡ Some state
    → (is_accessed address width a ≡ true) × (is_some (byte_in state.own.cells a) ≡ false) → TakesIn (store_view p) by address width a
takes_in p by address width a state there taken = record {
  at = a;
  accessed = taken.0;
  in_line = refl;
  outside = ap (λ x. is_some (own_in x a)) there ∙ taken.1;
  itself = λ alone. refl;
}

-- the bytes that are guarded then
none_is_not : (o : Option ℕ) → is_none o ≡ not (is_some o)
none_is_not None = refl
none_is_not (Some byte) = refl

joined_guards : (accessed : Bool) (own before : Option ℕ) (committed : ℕ)
    → is_some (first_of (cond (accessed && is_none own) (Some committed) None) before) ≡ (is_some before || (accessed && not (is_some own)))
joined_guards accessed own before committed =
    either_some (cond (accessed && is_none own) (Some committed) None) before
    ∙ ap (λ is. is_some before || is) (stored_by (accessed && is_none own) committed ∙ ap (λ none. accessed && none) (none_is_not own))

pub guards_loaded : (p : PlainView) (by address width budget : ℕ) (state state' : CoreState) → IsSettled (store_view p) → Runs (store_view p) by false
    → slice_get p.states by ≡ Some state
    → ((a : ℕ) → byte_in state'.guarded.cells a ≡ joined (read_outside address width (byte_in state.own.cells) (committed_of p)) (byte_in state.guarded.cells) a)
    → GuardsLoaded (store_view p) (store_view (with_state p p.committed by state' budget)) by address width
guards_loaded p by address width budget state state' settled runs there guards = record {
  guarded = λ a.
      ap (λ x. is_some (guarded_in x a)) (here p by state' (settled.there by (attempt_of runs.epoch false) runs.is)) ∙ (ap is_some (guards a)
      ∙ (joined_guards (is_accessed address width a) (byte_in state.own.cells a) (byte_in state.guarded.cells a) (committed_of p a)
      ∙ ap (λ x. is_some (guarded_in x a) || (is_accessed address width a && not (is_some (own_in x a)))) (sym there)));
}

pub loads : (p : PlainView) (by address width value budget : ℕ) (state state' : CoreState) (hurt : ℕ → Bool) → ((k : ℕ) → hurt k ≡ false) → IsSettled (store_view p) → Runs (store_view p) by false
    → slice_get p.states by ≡ Some state → state'.attempt ≡ state.attempt → state'.own ≡ state.own
    → ((a : ℕ) → byte_in state'.guarded.cells a ≡ joined (read_outside address width (byte_in state.own.cells) (committed_of p)) (byte_in state.guarded.cells) a)
    → value ≡ number_at (over (byte_in state.own.cells) (committed_of p)) address width → value < 256 ^ width
    → Loads (store_view p) (store_view (with_state p p.committed by state' budget)) by address width value hurt
loads p by address width value budget state state' hurt none settled runs there same own guards is small =
    let below = settled.there by (attempt_of runs.epoch false) runs.is in
    let now = here p by state' below in record {
      shape = shape_same p (with_state p p.committed by state' budget) (alike_state p p.committed by state' budget refl);
      cached = refl;
      others = access_others p by budget state' hurt none;
      committed = λ a. refl;
      value_is = is ∙ ap (λ x. number_at (over (own_in x) (committed_of p)) address width) (sym there);
      small = small;
      attempt = ap attempt_in now ∙ (same ∙ sym (ap attempt_in there));
      own = λ a. ap (λ x. is_some (own_in x a)) now ∙ (ap (λ o. is_some (byte_in o.cells a)) own ∙ sym (ap (λ x. is_some (own_in x a)) there));
      sees = λ a. ap (λ x. over (own_in x) (committed_of p) a) now ∙ (ap (λ o. over (byte_in o.cells) (committed_of p) a) own ∙ sym (ap (λ x. over (own_in x) (committed_of p) a) there));
      guards = λ a loaded outside.
          ap (λ x. is_some (guarded_in x a)) now ∙ (ap is_some (guards a)
          ∙ guarded_now address width a (committed_of p a) (byte_in state.own.cells a) (byte_in state.guarded.cells a) loaded (sym (ap (λ x. is_some (own_in x a)) there) ∙ outside));
      guards_still = λ a was.
          ap (λ x. is_some (guarded_in x a)) now ∙ (ap is_some (guards a)
          ∙ some_first (read_outside address width (byte_in state.own.cells) (committed_of p) a) (byte_in state.guarded.cells a) (sym (ap (λ x. is_some (guarded_in x a)) there) ∙ was));
      guards_only = λ a is was_not.
          takes_in p by address width a state there (taken_now (is_accessed address width a) (byte_in state.own.cells a) (byte_in state.guarded.cells a) (committed_of p a)
          (sym (ap (λ x. is_some (guarded_in x a)) there) ∙ was_not)
          (sym (ap is_some (guards a)) ∙ (sym (ap (λ x. is_some (guarded_in x a)) now) ∙ is)));
      crowded = λ k is. absurd (true≢false (sym is ∙ none k));
    }

-- ---- stores

-- which bytes a store has
pub stored_there : (address width value a : ℕ) → is_some (stored address width value a) ≡ is_accessed address width a
unfolding stored
stored_there address width value a = stored_by (nat_le address a && nat_lt a (address + width)) (byte_of value (a - address))

pub stores : (p : PlainView) (by address width value budget : ℕ) (state state' : CoreState) (hurt : ℕ → Bool) → ((k : ℕ) → hurt k ≡ false) → IsSettled (store_view p) → Runs (store_view p) by false
    → slice_get p.states by ≡ Some state → state'.attempt ≡ state.attempt → state'.guarded ≡ state.guarded
    → ((a : ℕ) → byte_in state'.own.cells a ≡ joined (stored address width value) (byte_in state.own.cells) a)
    → Stores (store_view p) (store_view (with_state p p.committed by state' budget)) by address width value hurt
stores p by address width value budget state state' hurt none settled runs there same guarded keeps =
    let below = settled.there by (attempt_of runs.epoch false) runs.is in
    let now = here p by state' below in record {
      shape = shape_same p (with_state p p.committed by state' budget) (alike_state p p.committed by state' budget refl);
      cached = refl;
      others = access_others p by budget state' hurt none;
      committed = λ a. refl;
      attempt = ap attempt_in now ∙ (same ∙ sym (ap attempt_in there));
      sees = λ a.
          ap (λ x. over (own_in x) (committed_of p) a) now ∙ (ap (λ o. unwrap_or o (committed_of p a)) (keeps a)
          ∙ (over-joined (stored address width value) (byte_in state.own.cells) (committed_of p) a
          ∙ sym (ap (λ x. over (stored address width value) (over (own_in x) (committed_of p)) a) there)));
      own = λ a.
          ap (λ x. is_some (own_in x a)) now ∙ (ap is_some (keeps a)
          ∙ (either_some (stored address width value a) (byte_in state.own.cells a)
          ∙ (ap (λ is. is_some (byte_in state.own.cells a) || is) (stored_there address width value a)
          ∙ ap (λ x. is_some (own_in x a) || is_accessed address width a) (sym there))));
      guarded = λ a. ap (λ x. is_some (guarded_in x a)) now ∙ (ap (λ o. is_some (byte_in o.cells a)) guarded ∙ sym (ap (λ x. is_some (guarded_in x a)) there));
      meets = λ k is. absurd (true≢false (sym is ∙ none k));
      eager = λ k is. absurd (true≢false (sym is ∙ none k));
      told = λ owns k. none k;
      tells = λ cached untold k other later guards. absurd (true≢false (sym cached));
    }

-- ---- straight loads

pub loads_straight : (p : PlainView) (by address width value : ℕ) (state : CoreState) (hurt : ℕ → Bool) → ((k : ℕ) → hurt k ≡ false) → IsSettled (store_view p) → Runs (store_view p) by true
    → slice_get p.states by ≡ Some state → value ≡ number_at (over (byte_in state.own.cells) (committed_of p)) address width → value < 256 ^ width
    → LoadsStraight (store_view p) (store_view p) by address width value hurt
loads_straight p by address width value state hurt none settled runs there is small =
    let bare = straight_bare p by state settled runs there in record {
      shape = refl;
      cached = refl;
      others = none_hurt p p by hurt none (λ k other. refl) (λ a. refl);
      committed = λ a. refl;
      small = small;
      value_is = is ∙ number_at_same (over (byte_in state.own.cells) (committed_of p)) (committed_of p) address width (λ a low high. ap (λ o. unwrap_or o (committed_of p a)) (bare.own a));
      attempt = refl;
      crowded = λ k is. absurd (true≢false (sym is ∙ none k));
    }
