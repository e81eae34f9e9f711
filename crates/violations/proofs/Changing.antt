-- CoreStates that change one after the other.
use Rattle.std.proofs.Common.{◌≡◌, ◌≢◌, ℕ, zero, suc, ◌+◌, ◌<◌, ◌≤◌, ◌++◌, Bool, true, false, List, [], ◌∷◌, length, set, get_or, slice_get, Option, Some, None, is_some, refl, sym, ap, ◌∙◌, inl, inr, arith, length-set, true≢false, ne_eqb, eq-eqb, ◌==◌, ◌||◌, ◌&&◌, ◌-◌, nat_le, nat_lt}
use Rattle.std.proofs.lemmas.Bool.{cases_eq}
use Rattle.std.proofs.lemmas.Bool.Decides.{nat_tests}
use Rattle.std.proofs.lemmas.Option.{slice_get_read, slice_get_within}
use Rattle.memory_bytes.specs.Shadow.{byte_in}
use Rattle.rv32_image.proofs.SmallFacts.{one_value}
use Rattle.violations.specs.declared.core_state.CoreState.{CoreState}
use Rattle.violations.specs.CoreState.{IsWithin, HasRoom, IsIdle, IsSameState, AreWithin, HaveRoom, AreIdle, AreSame, AreReaders, AreDropped, GuardsOne}
use Rattle.violations.specs.View.{is_accessed}

-- ---- lists

pub get_set_same : (states : List CoreState) (i : ℕ) (state : CoreState) → i < length states → slice_get (set states i state) i ≡ Some state
get_set_same [] i state below = absurd (omega arith)
get_set_same (first ∷ rest) zero state below = refl
get_set_same (first ∷ rest) (suc i) state below = get_set_same rest i state (omega arith)

pub get_set_other : (states : List CoreState) (i k : ℕ) (state : CoreState) → k ≢ i → slice_get (set states i state) k ≡ slice_get states k
get_set_other [] i k state other = refl
get_set_other (first ∷ rest) zero zero state other = absurd (other refl)
get_set_other (first ∷ rest) zero (suc k) state other = refl
get_set_other (first ∷ rest) (suc i) zero state other = refl
get_set_other (first ∷ rest) (suc i) (suc k) state other = get_set_other rest i k state (λ e. other (ap suc e))

-- the state at a place of the list
pub state_there : (states xs : List CoreState) (i : ℕ) (state : CoreState) → xs ≡ states → i < length xs → state ≡ get_or xs i state → slice_get states i ≡ Some state
state_there states xs i state same below is = slice_get_read states (length xs) i state (ap length same) below (is ∙ ap (λ ys. get_or ys i state) same)

-- what holds of the new state and of all others holds of all
pub all_set : (P : CoreState → Type 0) (states : List CoreState) (i : ℕ) (state : CoreState) → i < length states → P state
    → ((k : ℕ) (l : CoreState) → slice_get states k ≡ Some l → P l) → (k : ℕ) (l : CoreState) → slice_get (set states i state) k ≡ Some l → P l
all_set P states i state below holds all k l at = elim (cases_eq k i) [
  | inl e ↦ let same : state ≡ l = one_value _ state l (get_set_same states i state below) (sym (ap (slice_get (set states i state)) e) ∙ at) in rw (← same) holds
  | inr other ↦ all k l (sym (get_set_other states i k state other) ∙ at)
]

-- ---- new states

idle_at : (size : ℕ) (states : List CoreState) (state : CoreState) → IsIdle state × IsWithin size state → ((k : ℕ) (l : CoreState) → slice_get states k ≡ Some l → IsIdle l × IsWithin size l)
    → (k : ℕ) (l : CoreState) → slice_get (states ++ state ∷ []) k ≡ Some l → IsIdle l × IsWithin size l
idle_at size [] state idle each zero l at = let same : state ≡ l = cc in rw (← same) idle
idle_at size [] state idle each (suc k) l at = absurd cc
idle_at size (first ∷ rest) state idle each zero l at = each 0 l at
idle_at size (first ∷ rest) state idle each (suc k) l at = idle_at size rest state idle (λ j m is. each (suc j) m is) k l at

pub idle_more : (size : ℕ) (states : List CoreState) (state : CoreState) → IsIdle state → IsWithin size state → AreIdle size states → AreIdle size (states ++ state ∷ [])
idle_more size states state idle within are = record { each = idle_at size states state (idle, within) are.each }

-- ---- room

pub same_states : (states : List CoreState) → AreSame states states
same_states states = record {
  long = refl;
  each = λ k was is at at'. let same = one_value _ was is at at' in
      record { attempt = ap (λ (l : CoreState). l.attempt) (sym same); own = λ a. ap (λ (l : CoreState). byte_in l.own.cells a) (sym same); guarded = λ a. ap (λ (l : CoreState). byte_in l.guarded.cells a) (sym same) };
}

pub same_set : (old new : List CoreState) (i : ℕ) (state state' : CoreState) → i < length new → slice_get new i ≡ Some state → IsSameState state state'
    → AreSame old new → AreSame old (set new i state')
same_set old new i state state' below there same are = record {
  long = length-set new i state' ∙ are.long;
  each = λ k was is at at'. elim (cases_eq k i) [
    | inl e ↦
        let here : state' ≡ is = one_value _ state' is (get_set_same new i state' below) (sym (ap (slice_get (set new i state')) e) ∙ at') in
        let before = are.each i was state (sym (ap (slice_get old) e) ∙ at) there in
        rw (← here) (record { attempt = same.attempt ∙ before.attempt; own = λ a. same.own a ∙ before.own a; guarded = λ a. same.guarded a ∙ before.guarded a })
    | inr other ↦ are.each k was is at (sym (get_set_other new i k state' other) ∙ at')
  ];
}

pub within_set : (size : ℕ) (states : List CoreState) (i : ℕ) (state : CoreState) → i < length states → IsWithin size state → AreWithin size states → AreWithin size (set states i state)
within_set size states i state below within are = record { each = all_set (IsWithin size) states i state below within are.each }

-- the states so far have room
pub record Reserving (size accesses : ℕ) (old new : List CoreState) (i : ℕ) : Type 0 where
  pub same : AreSame old new
  pub within : AreWithin size new
  pub room : (k : ℕ) (state : CoreState) → k < i → slice_get new k ≡ Some state → HasRoom size accesses state

pub reserving_start : (size accesses : ℕ) (states : List CoreState) → AreWithin size states → Reserving size accesses states states 0
reserving_start size accesses states within = record { same = same_states states; within = within; room = λ k state below at. absurd (omega arith) }

pub reserving_more : (size accesses : ℕ) (old new : List CoreState) (i : ℕ) (state state' : CoreState) → i < length new → slice_get new i ≡ Some state → IsSameState state state' → IsWithin size state'
    → HasRoom size accesses state' → Reserving size accesses old new i → Reserving size accesses old (set new i state') (i + 1)
reserving_more size accesses old new i state state' below there same within room reserving = record {
  same = same_set old new i state state' below there same reserving.same;
  within = within_set size new i state' below within reserving.within;
  room = λ k l under at. elim (cases_eq k i) [
    | inl e ↦ let here : state' ≡ l = one_value _ state' l (get_set_same new i state' below) (sym (ap (slice_get (set new i state')) e) ∙ at) in rw (← here) room
    | inr other ↦ reserving.room k l (omega arith) (sym (get_set_other new i k state' other) ∙ at)
  ];
}

pub reserving_end : (size accesses : ℕ) (old new : List CoreState) (i : ℕ) → length new ≤ i → Reserving size accesses old new i → HaveRoom size accesses new
reserving_end size accesses old new i all reserving = record { each = λ k state at. let below = slice_get_within new k state at in reserving.room k state (omega arith) at }

-- ---- attempts that end

pub record Dropping (hurt : ℕ → Bool) (old new : List CoreState) (i : ℕ) : Type 0 where
  pub long : length new ≡ length old
  pub dropped : (k : ℕ) (state : CoreState) → k < i → hurt k ≡ true → slice_get new k ≡ Some state → IsIdle state
  pub kept : (k : ℕ) → hurt k ≡ false → slice_get new k ≡ slice_get old k
  pub within : (size : ℕ) → AreWithin size old → AreWithin size new
  pub room : (size accesses : ℕ) → HaveRoom size accesses old → HaveRoom size accesses new

pub dropping_more : (hurt : ℕ → Bool) (old new : List CoreState) (i : ℕ) (state state' : CoreState) → i < length new → slice_get new i ≡ Some state → hurt i ≡ true → IsIdle state'
    → ((size : ℕ) → IsWithin size state → IsWithin size state') → ((size n : ℕ) → HasRoom size n state → HasRoom size n state') → Dropping hurt old new i → Dropping hurt old (set new i state') (i + 1)
dropping_more hurt old new i state state' below there is idle within room dropping = record {
  long = length-set new i state' ∙ dropping.long;
  dropped = λ k l under hurt_k at. elim (cases_eq k i) [
    | inl e ↦ let here : state' ≡ l = one_value _ state' l (get_set_same new i state' below) (sym (ap (slice_get (set new i state')) e) ∙ at) in rw (← here) idle
    | inr other ↦ dropping.dropped k l (omega arith) hurt_k (sym (get_set_other new i k state' other) ∙ at)
  ];
  kept = λ k unhurt. elim (cases_eq k i) [
    | inl e ↦ absurd (true≢false (sym is ∙ (sym (ap hurt e) ∙ unhurt)))
    | inr other ↦ get_set_other new i k state' other ∙ dropping.kept k unhurt
  ];
  within = λ size are. let now = dropping.within size are in record { each = all_set (IsWithin size) new i state' below (within size (now.each i state there)) now.each };
  room = λ size accesses have. let now = dropping.room size accesses have in record { each = all_set (HasRoom size accesses) new i state' below (room size accesses (now.each i state there)) now.each };
}

pub dropping_on : (hurt : ℕ → Bool) (old new : List CoreState) (i : ℕ) → hurt i ≡ false → Dropping hurt old new i → Dropping hurt old new (i + 1)
dropping_on hurt old new i unhurt dropping = record {
  long = dropping.long;
  dropped = λ k l under hurt_k at. elim (cases_eq k i) [
    | inl e ↦ absurd (true≢false (sym hurt_k ∙ (ap hurt e ∙ unhurt)))
    | inr other ↦ dropping.dropped k l (omega arith) hurt_k at
  ];
  kept = dropping.kept;
  within = dropping.within;
  room = dropping.room;
}

pub dropping_end : (hurt : ℕ → Bool) (old new : List CoreState) (i : ℕ) → length new ≤ i → Dropping hurt old new i → AreDropped hurt old new
dropping_end hurt old new i all dropping = record {
  long = dropping.long;
  dropped = λ k state hurt_k at. let below = slice_get_within new k state at in dropping.dropped k state (omega arith) hurt_k at;
  kept = dropping.kept;
  within = dropping.within;
  room = dropping.room;
}

-- ---- readers

pub record Reading (core : ℕ) (bytes : ℕ → Bool) (states : List CoreState) (hurt : ℕ → Bool) (i : ℕ) : Type 0 where
  pub others : hurt core ≡ false
  pub run : (k : ℕ) → hurt k ≡ true → (state : CoreState) × (slice_get states k ≡ Some state) × GuardsOne bytes state
  pub spared : (k a : ℕ) (state : CoreState) → k < i → k ≢ core → hurt k ≡ false → slice_get states k ≡ Some state → is_some state.attempt ≡ true
      → bytes a ≡ true → byte_in state.guarded.cells a ≡ None

pub reading_insert : (core : ℕ) (bytes : ℕ → Bool) (states : List CoreState) (hurt hurt' : ℕ → Bool) (i : ℕ) (state : CoreState) → slice_get states i ≡ Some state → i ≢ core → GuardsOne bytes state
    → ((k : ℕ) → hurt' k ≡ (k == i || hurt k)) → Reading core bytes states hurt i → Reading core bytes states hurt' (i + 1)
reading_insert core bytes states hurt hurt' i state at other runs more reading =
    let as_before : (k : ℕ) → k ≢ i → hurt' k ≡ hurt k = λ k apart. more k ∙ ap (λ b. b || hurt k) (ne_eqb k i apart) in
    let now : hurt' i ≡ true = more i ∙ ap (λ b. b || hurt i) (eq-eqb i i refl) in record {
      others = as_before core (λ e. other (sym e)) ∙ reading.others;
      run = λ k is. elim (cases_eq k i) [
        | inl e ↦ (state, ap (slice_get states) e ∙ at, runs)
        | inr apart ↦ reading.run k (sym (as_before k apart) ∙ is)
      ];
      spared = λ k a l under apart_core unhurt at_k runs_k byte. elim (cases_eq k i) [
        | inl e ↦ absurd (true≢false (sym now ∙ (sym (ap hurt' e) ∙ unhurt)))
        | inr apart ↦ reading.spared k a l (omega arith) apart_core (sym (as_before k apart) ∙ unhurt) at_k runs_k byte
      ];
    }

pub reading_on : (core : ℕ) (bytes : ℕ → Bool) (states : List CoreState) (hurt : ℕ → Bool) (i : ℕ) (state : CoreState) → slice_get states i ≡ Some state
    → (i ≢ core → is_some state.attempt ≡ true → (a : ℕ) → bytes a ≡ true → byte_in state.guarded.cells a ≡ None) → Reading core bytes states hurt i → Reading core bytes states hurt (i + 1)
reading_on core bytes states hurt i state at spares reading = record {
  others = reading.others;
  run = reading.run;
  spared = λ k a l under apart_core unhurt at_k runs_k byte. elim (cases_eq k i) [
    | inl e ↦
        let same : state ≡ l = one_value _ state l at (sym (ap (slice_get states) e) ∙ at_k) in
        rw (← same) (spares (λ f. apart_core (e ∙ f)) (ap (λ (x : CoreState). is_some x.attempt) same ∙ runs_k) a byte)
    | inr apart ↦ reading.spared k a l (omega arith) apart_core unhurt at_k runs_k byte
  ];
}

pub reading_end : (core : ℕ) (bytes : ℕ → Bool) (states : List CoreState) (hurt : ℕ → Bool) (i : ℕ) → length states ≤ i → Reading core bytes states hurt i → AreReaders core bytes states hurt
reading_end core bytes states hurt i all reading = record {
  others = reading.others;
  run = reading.run;
  spared = λ k a state other unhurt at runs byte. let below = slice_get_within states k state at in reading.spared k a state (omega arith) other unhurt at runs byte;
}

range_by : (address width a : ℕ) → (nat_le address a && nat_lt a (address + width)) ≡ true → (address ≤ a) × (a < address + width)
range_by address width a is = (grind (arith, nat_tests), grind (arith, nat_tests))

-- an address among those of an access
and_range : (address width a : ℕ) → (nat_le address a && nat_lt a (address + width)) ≡ true → (i : ℕ) × (address + i ≡ a) × (i < width)
and_range address width a is = let in_range = range_by address width a is in (a - address, omega (arith, in_range.0), omega (arith, in_range.0, in_range.1))

pub range_spared : (cells : List (Option ℕ)) (address width a : ℕ) → ((i : ℕ) → i < width → byte_in cells (address + i) ≡ None) → is_accessed address width a ≡ true → byte_in cells a ≡ None
range_spared cells address width a each is = let at = and_range address width a is in sym (ap (byte_in cells) at.1) ∙ each at.0 at.2
