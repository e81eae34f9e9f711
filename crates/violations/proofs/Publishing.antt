-- What a publish and a straight store of the plain store do to its view.
use Rattle.std.proofs.Common.{◌≡◌, ◌≢◌, ℕ, ◌<◌, ◌≤◌, Bool, true, false, List, length, set, take, drop, ◌++◌, slice_get, slice_index, Option, Some, None, is_some, unwrap_or, option_map, refl, sym, ap, subst, ◌∙◌, inl, inr, arith, length-set, true≢false}
use Rattle.std.proofs.lemmas.Bool.{cases_eq}
use Rattle.std.proofs.lemmas.Grind.{common_steps}
use Rattle.memory_bytes.specs.Maps.{over, stored}
use Rattle.memory_bytes.specs.Shadow.{byte_in}
use Rattle.memory_bytes.proofs.SmallFacts.{apart_by_test}
use Rattle.rv32_image.proofs.SmallFacts.{one_value, none_and_some, value_of, none_of, unwrap_none}
use Rattle.violations.specs.declared.attempt.Attempt.{Attempt}
use Rattle.violations.specs.declared.core_state.CoreState.{CoreState}
use Rattle.violations.specs.View.{attempt_of, epoch_of, IsSettled, Runs, MayPublish, is_accessed}
use Rattle.violations.specs.Rule.{HurtsLater, Guards, Publishes, StoresStraight}
use Rattle.violations.specs.CoreState.{IsWithin, HasRoom, AreWithin, HaveRoom, KeepsNothing, IsIdle, AreReaders, AreDropped, bytes_in, straightened}
use Rattle.violations.specs.Plain.{PlainView, attempt_in, own_in, guarded_in, store_view, IsFit, ViolatesReaders}
use Rattle.violations.proofs.Changing.{get_set_same, get_set_other, all_set}
use Rattle.violations.proofs.Accesses.{stored_there}
use Rattle.violations.proofs.Plains.{IsBare, bare_of, bare_state, IsQuiet, quiet_of, spared_of, shape_same, CameFrom, settled_from, came_same}

-- ---- the cores that are violated

pub record IsOut (x : Option CoreState) : Type 0 where
  pub attempt : attempt_in x ≡ None
  pub bare : IsBare x

pub out_by : (x : Option CoreState) → ((state : CoreState) → x ≡ Some state → IsIdle state) → IsOut x
out_by None idle = record { attempt = refl; bare = record { own = λ a. refl; guarded = λ a. refl } }
out_by (Some state) idle = let is = idle state refl in record { attempt = is.attempt; bare = bare_state state is.keeps }

pub out_at : (hurt : ℕ → Bool) (old new : List CoreState) → AreDropped hurt old new → (k : ℕ) → hurt k ≡ true → IsOut (slice_get new k)
out_at hurt old new dropped k is = out_by (slice_get new k) (λ state at. dropped.dropped k state is at)

-- each of them ran
ran_at : (p : PlainView) (by : ℕ) (bytes hurt : ℕ → Bool) → AreReaders by bytes p.states hurt → (k : ℕ) → hurt k ≡ true → (t : Attempt) × (attempt_in (slice_get p.states k) ≡ Some t)
ran_at p by bytes hurt readers k is =
    let found = readers.run k is in
    let t = value_of found.0.attempt found.2.runs in (t.0, ap attempt_in found.1 ∙ t.1)

-- ---- the cores that are not

guards_none : (o : Option ℕ) → o ≡ None → is_some o ≡ true → ⊥
guards_none o none some = true≢false (sym some ∙ ap is_some none)

spared_by : (p : PlainView) (by k a : ℕ) (bytes hurt : ℕ → Bool) (x : Option CoreState) → slice_get p.states k ≡ x → (o : Option Attempt) → attempt_in x ≡ o → IsSettled (store_view p) → AreReaders by bytes p.states hurt
    → k ≢ by → hurt k ≡ false → bytes a ≡ true → is_some (guarded_in x a) ≡ true → ⊥
spared_by p by k a bytes hurt x at None none settled readers other unhurt byte guarded =
    let bare = bare_of p k (settled.idle k (ap attempt_in at ∙ none)) in guards_none (guarded_in x a) (ap (λ y. guarded_in y a) (sym at) ∙ bare.guarded a) guarded
spared_by p by k a bytes hurt None at (Some t) some settled readers other unhurt byte guarded = absurd cc
spared_by p by k a bytes hurt (Some state) at (Some t) some settled readers other unhurt byte guarded =
    guards_none (byte_in state.guarded.cells a) (readers.spared k a state other unhurt at (ap is_some some) byte) guarded

written_by : (p : PlainView) (by k a now : ℕ) (bytes hurt : ℕ → Bool) → IsSettled (store_view p) → AreReaders by bytes p.states hurt → (b : Bool) → bytes a ≡ b → (bytes a ≡ false → now ≡ slice_index p.committed a)
    → k ≢ by → hurt k ≡ false → is_some (guarded_in (slice_get p.states k) a) ≡ true → now ≡ slice_index p.committed a
written_by p by k a now bytes hurt settled readers true byte same other unhurt guarded =
    absurd (spared_by p by k a bytes hurt (slice_get p.states k) refl (attempt_in (slice_get p.states k)) refl settled readers other unhurt byte guarded)
written_by p by k a now bytes hurt settled readers false byte same other unhurt guarded = same byte

-- a message of the first of all attempts, which writes these bytes
pub hurts_of : (p q : PlainView) (by epoch : ℕ) (straight : Bool) (bytes hurt : ℕ → Bool) → IsSettled (store_view p) → AreReaders by bytes p.states hurt
    → attempt_in (slice_get p.states by) ≡ Some (attempt_of epoch straight) → ((k : ℕ) (x : Attempt) → k ≢ by → attempt_in (slice_get p.states k) ≡ Some x → epoch < x.epoch)
    → ((k : ℕ) → hurt k ≡ true → attempt_in (slice_get q.states k) ≡ None) → ((k : ℕ) → k ≢ by → hurt k ≡ false → slice_get q.states k ≡ slice_get p.states k)
    → ((a : ℕ) → bytes a ≡ false → slice_index q.committed a ≡ slice_index p.committed a) → HurtsLater (store_view p) (store_view q) by hurt
hurts_of p q by epoch straight bytes hurt settled readers caller first gone same unwritten = record {
  not_itself = readers.others;
  hurts = λ k is.
      let ran = ran_at p by bytes hurt readers k is in
      let mine : epoch_of (attempt_in (slice_get p.states by)) ≡ epoch = ap epoch_of caller in
      let later = first k ran.0 (apart_by_test hurt by k readers.others is) ran.1 in
      record { attempt = ran.0; had = ran.1; later = omega (arith, later, mine); none = gone k is };
  spares = λ k other unhurt. spared_of p q k (same k other unhurt)
      (λ a guarded. written_by p by k a (slice_index q.committed a) bytes hurt settled readers (bytes a) refl (unwritten a) other unhurt guarded);
}

-- ---- exactly the readers

reads_by : (p : PlainView) (by k a : ℕ) (bytes hurt : ℕ → Bool) → IsSettled (store_view p) → AreReaders by bytes p.states hurt → k ≢ by → bytes a ≡ true → is_some (guarded_in (slice_get p.states k) a) ≡ true
    → (b : Bool) → hurt k ≡ b → hurt k ≡ true
reads_by p by k a bytes hurt settled readers other byte guarded true is = is
reads_by p by k a bytes hurt settled readers other byte guarded false is =
    absurd (spared_by p by k a bytes hurt (slice_get p.states k) refl (attempt_in (slice_get p.states k)) refl settled readers other is byte guarded)

pub violates_readers : (p : PlainView) (by : ℕ) (bytes hurt : ℕ → Bool) → IsSettled (store_view p) → AreReaders by bytes p.states hurt → ViolatesReaders by bytes hurt (store_view p)
violates_readers p by bytes hurt settled readers = record {
  guard = λ k is. let found = readers.run k is in (found.2.at, found.2.byte, ap (λ x. is_some (guarded_in x found.2.at)) found.1 ∙ found.2.guarded);
  others = readers.others;
  all = λ k a other byte guarded. reads_by p by k a bytes hurt settled readers other byte guarded (hurt k) refl;
}

-- those whom it violates guard one of these bytes
pub guards_of : (p : PlainView) (by : ℕ) (bytes hurt : ℕ → Bool) → ViolatesReaders by bytes hurt (store_view p) → (k : ℕ) → hurt k ≡ true → Guards (store_view p) k bytes
guards_of p by bytes hurt violates k is = let found = violates.guard k is in record { at = found.0; is_one = found.1; guarded = found.2 }

pub tells_of : (p : PlainView) (by : ℕ) (bytes hurt : ℕ → Bool) → ViolatesReaders by bytes hurt (store_view p) → (k : ℕ) → k ≢ by → Guards (store_view p) k bytes → hurt k ≡ true
tells_of p by bytes hurt violates k other guards = violates.all k guards.at other guards.is_one guards.guarded

-- the readers of what the caller keeps, of what its view owns
pub owned_readers : (p : PlainView) (by : ℕ) (hurt : ℕ → Bool) (state : CoreState) → IsSettled (store_view p) → AreReaders by (bytes_in state.own.cells) p.states hurt → slice_get p.states by ≡ Some state
    → ViolatesReaders by (λ a. is_some (own_in (slice_get p.states by) a)) hurt (store_view p)
owned_readers p by hurt state settled readers there =
    subst (λ x. ViolatesReaders by (λ a. is_some (own_in x a)) hurt (store_view p)) (sym there) (violates_readers p by (bytes_in state.own.cells) hurt settled readers)

-- ---- a publish

pub publisher : (p : PlainView) (by : ℕ) (state state' : CoreState) (epoch : ℕ) → slice_get p.states by ≡ Some state → attempt_in (slice_get p.states by) ≡ Some (attempt_of epoch false)
    → state'.attempt ≡ option_map straightened state.attempt → state'.attempt ≡ Some (attempt_of epoch true)
publisher p by state state' epoch there was is = is ∙ ap (option_map straightened) (sym (ap attempt_in there) ∙ was)

first_after : (p : PlainView) (by : ℕ) → IsSettled (store_view p) → (may : MayPublish (store_view p) by) → (k : ℕ) (x : Attempt) → k ≢ by → attempt_in (slice_get p.states k) ≡ Some x → may.epoch < x.epoch
first_after p by settled may k x other at =
    let apart : x.epoch ≢ may.epoch = λ e. other (settled.apart k by x (attempt_of may.epoch false) at may.is e) in omega (arith, may.first k x at, apart)

-- another core's attempt, which the call leaves or ends
came_other : (p : PlainView) (hurt : ℕ → Bool) (states : List CoreState) (k : ℕ) (now : Attempt) → AreDropped hurt p.states states → attempt_in (slice_get states k) ≡ Some now → (b : Bool) → hurt k ≡ b → CameFrom p k now
came_other p hurt states k now dropped at true is = absurd (none_and_some _ now (out_at hurt p.states states dropped k is).attempt at)
came_other p hurt states k now dropped at false is = came_same p k (slice_get states k) now (dropped.kept k is) at

quiet_out : (x : Option CoreState) → IsOut x → IsQuiet x
quiet_out x out = record { idle = λ none. out.bare; straight = λ t at is. out.bare }

quiet_other : (p : PlainView) (hurt : ℕ → Bool) (states : List CoreState) (k : ℕ) → IsSettled (store_view p) → AreDropped hurt p.states states → (b : Bool) → hurt k ≡ b → IsQuiet (slice_get states k)
quiet_other p hurt states k settled dropped true is = quiet_out (slice_get states k) (out_at hurt p.states states dropped k is)
quiet_other p hurt states k settled dropped false is = subst IsQuiet (sym (dropped.kept k is)) (quiet_of p k settled)

published_came : (p : PlainView) (by : ℕ) (hurt : ℕ → Bool) (states : List CoreState) (state' : CoreState) → AreDropped hurt p.states states → by < length states → (may : MayPublish (store_view p) by)
    → state'.attempt ≡ Some (attempt_of may.epoch true) → (k : ℕ) (now : Attempt) → attempt_in (slice_get (set states by state') k) ≡ Some now → (b : Bool) → hurt k ≡ b → CameFrom p k now
published_came p by hurt states state' dropped below may is k now at b is_b = elim (cases_eq k by) [
  | inl e ↦
      let here = ap (λ j. attempt_in (slice_get (set states by state') j)) e ∙ (ap attempt_in (get_set_same states by state' below) ∙ is) in
      let same = one_value _ now (attempt_of may.epoch true) at here in record {
        was = attempt_of may.epoch false;
        is = ap (λ j. attempt_in (slice_get p.states j)) e ∙ may.is;
        epoch = ap (λ (t : Attempt). t.epoch) same;
        straight = λ straight. inr may.first;
      }
  | inr other ↦ came_other p hurt states k now dropped (sym (ap attempt_in (get_set_other states by k state' other)) ∙ at) b is_b
]

published_quiet : (p : PlainView) (by : ℕ) (hurt : ℕ → Bool) (states : List CoreState) (state' : CoreState) → IsSettled (store_view p) → AreDropped hurt p.states states → by < length states → KeepsNothing state'
    → (k : ℕ) → IsQuiet (slice_get (set states by state') k)
published_quiet p by hurt states state' settled dropped below keeps k = elim (cases_eq k by) [
  | inl e ↦
      let bare = subst IsBare (sym (ap (slice_get (set states by state')) e ∙ get_set_same states by state' below)) (bare_state state' keeps) in
      record { idle = λ none. bare; straight = λ t at is. bare }
  | inr other ↦ subst IsQuiet (sym (get_set_other states by k state' other)) (quiet_other p hurt states k settled dropped (hurt k) refl)
]

abbrev pub published_view : PlainView → List ℕ → List CoreState → ℕ → CoreState → PlainView
published_view p committed states by state' = record { code = p.code; machine = p.machine; committed = committed; states = set states by state'; budget = p.budget }

pub published_settled : (p : PlainView) (by : ℕ) (hurt : ℕ → Bool) (committed : List ℕ) (states : List CoreState) (state state' : CoreState) → IsSettled (store_view p) → (may : MayPublish (store_view p) by)
    → AreDropped hurt p.states states → slice_get p.states by ≡ Some state → state'.attempt ≡ option_map straightened state.attempt → KeepsNothing state'
    → IsSettled (store_view (published_view p committed states by state'))
published_settled p by hurt committed states state state' settled may dropped there is keeps =
    let below : by < length states = omega (arith, settled.there by (attempt_of may.epoch false) may.is, dropped.long) in
    settled_from p (published_view p committed states by state') settled (length-set states by state' ∙ dropped.long)
    (λ k now at. published_came p by hurt states state' dropped below may (publisher p by state state' may.epoch there may.is is) k now at (hurt k) refl)
    (published_quiet p by hurt states state' settled dropped below keeps)

-- cores that were within memory and had room, and are within it and have room still
changed_fit : (p : PlainView) (committed : List ℕ) (states : List CoreState) → IsFit p → length committed ≡ length p.committed → length states ≡ length p.states
    → AreWithin (length p.committed) states → (1 ≤ p.budget → HaveRoom (length p.committed) p.budget states)
    → IsFit (record { code = p.code; machine = p.machine; committed = committed; states = states; budget = p.budget })
changed_fit p committed states fit long count within room = record {
  least = omega (arith, fit.least, long);
  small = omega (arith, fit.small, long);
  count = omega (arith, fit.count, count);
  within = rw long within;
  room = λ some. rw long (room some);
}

pub published_fit : (p : PlainView) (by : ℕ) (hurt : ℕ → Bool) (committed : List ℕ) (states : List CoreState) (state state' : CoreState) → IsFit p → AreDropped hurt p.states states → by < length states
    → slice_get states by ≡ Some state → length committed ≡ length p.committed → ((size : ℕ) → IsWithin size state → IsWithin size state')
    → ((size n : ℕ) → HasRoom size n state → HasRoom size n state') → IsFit (published_view p committed states by state')
published_fit p by hurt committed states state state' fit dropped below there long within room =
    let all_within = dropped.within (length p.committed) fit.within in
    changed_fit p committed (set states by state') fit long (length-set states by state' ∙ dropped.long)
    (record { each = all_set (IsWithin (length p.committed)) states by state' below (within (length p.committed) (all_within.each by state there)) all_within.each })
    (λ some. let all_room = dropped.room (length p.committed) p.budget (fit.room some) in
    record { each = all_set (HasRoom (length p.committed) p.budget) states by state' below (room (length p.committed) p.budget (all_room.each by state there)) all_room.each })

pub publishes : (p : PlainView) (by : ℕ) (hurt : ℕ → Bool) (committed : List ℕ) (states : List CoreState) (state state' : CoreState) → IsSettled (store_view p) → (may : MayPublish (store_view p) by)
    → AreReaders by (bytes_in state.own.cells) p.states hurt → AreDropped hurt p.states states → slice_get p.states by ≡ Some state → state'.attempt ≡ option_map straightened state.attempt
    → length committed ≡ length p.committed → ((a : ℕ) → slice_index committed a ≡ over (byte_in state.own.cells) (λ b. slice_index p.committed b) a)
    → Publishes (store_view p) (store_view (published_view p committed states by state')) by hurt
publishes p by hurt committed states state state' settled may readers dropped there is long writes =
    let q = published_view p committed states by state' in
    let below : by < length states = omega (arith, settled.there by (attempt_of may.epoch false) may.is, dropped.long) in
    let violates = owned_readers p by hurt state settled readers there in
    let gone : (k : ℕ) → hurt k ≡ true → attempt_in (slice_get q.states k) ≡ None = λ k hurt_k.
    ap attempt_in (get_set_other states by k state' (apart_by_test hurt by k readers.others hurt_k)) ∙ (out_at hurt p.states states dropped k hurt_k).attempt in record {
      shape = shape_same p q (record { code = refl; machine = refl; committed = long; states = length-set states by state' ∙ dropped.long });
      cached = refl;
      others = hurts_of p q by may.epoch false (bytes_in state.own.cells) hurt settled readers may.is (first_after p by settled may) gone
          (λ k other unhurt. get_set_other states by k state' other ∙ dropped.kept k unhurt)
          (λ a none. writes a ∙ unwrap_none (byte_in state.own.cells a) (slice_index p.committed a) none);
      committed = λ a. writes a ∙ ap (λ x. over (own_in x) (λ b. slice_index p.committed b) a) (sym there);
      attempt = ap attempt_in (get_set_same states by state' below) ∙ (publisher p by state state' may.epoch there may.is is ∙ ap (λ o. Some (attempt_of (epoch_of o) true)) (sym may.is));
      meets = guards_of p by (λ a. is_some (own_in (slice_get p.states by) a)) hurt violates;
      tells = tells_of p by (λ a. is_some (own_in (slice_get p.states by) a)) hurt violates;
    }

-- ---- a straight store

abbrev pub stored_view : PlainView → List ℕ → List CoreState → PlainView
stored_view p committed states = record { code = p.code; machine = p.machine; committed = committed; states = states; budget = p.budget }

pub stored_settled : (p : PlainView) (hurt : ℕ → Bool) (committed : List ℕ) (states : List CoreState) → IsSettled (store_view p) → AreDropped hurt p.states states
    → IsSettled (store_view (stored_view p committed states))
stored_settled p hurt committed states settled dropped =
    settled_from p (stored_view p committed states) settled dropped.long (λ k now at. came_other p hurt states k now dropped at (hurt k) refl)
    (λ k. quiet_other p hurt states k settled dropped (hurt k) refl)

pub stored_fit : (p : PlainView) (hurt : ℕ → Bool) (committed : List ℕ) (states : List CoreState) → IsFit p → AreDropped hurt p.states states → length committed ≡ length p.committed
    → IsFit (stored_view p committed states)
stored_fit p hurt committed states fit dropped long =
    changed_fit p committed states fit long dropped.long (dropped.within (length p.committed) fit.within) (λ some. dropped.room (length p.committed) p.budget (fit.room some))

-- a store has no byte outside its addresses
stored_outside : (address width value a : ℕ) → is_accessed address width a ≡ false → stored address width value a ≡ None
stored_outside address width value a outside = none_of (stored address width value a) (stored_there address width value a ∙ outside)

pub stores_straight : (p : PlainView) (by address width value : ℕ) (hurt : ℕ → Bool) (committed : List ℕ) (states : List CoreState) → IsSettled (store_view p) → (runs : Runs (store_view p) by true)
    → AreReaders by (is_accessed address width) p.states hurt → AreDropped hurt p.states states → length committed ≡ length p.committed
    → ((a : ℕ) → slice_index committed a ≡ over (stored address width value) (λ b. slice_index p.committed b) a)
    → StoresStraight (store_view p) (store_view (stored_view p committed states)) by address width value hurt
stores_straight p by address width value hurt committed states settled runs readers dropped long writes =
    let q = stored_view p committed states in
    let violates = violates_readers p by (is_accessed address width) hurt settled readers in record {
      shape = shape_same p q (record { code = refl; machine = refl; committed = long; states = dropped.long });
      cached = refl;
      others = hurts_of p q by runs.epoch true (is_accessed address width) hurt settled readers runs.is (λ k x other at. settled.straight_first by k (attempt_of runs.epoch true) x runs.is refl at other)
          (λ k hurt_k. (out_at hurt p.states states dropped k hurt_k).attempt)
          (λ k other unhurt. dropped.kept k unhurt)
          (λ a none. writes a ∙ ap (λ o. unwrap_or o (slice_index p.committed a)) (stored_outside address width value a none));
      committed = writes;
      attempt = ap attempt_in (dropped.kept by readers.others);
      meets = λ k is. inl (guards_of p by (is_accessed address width) hurt violates k is);
      tells = tells_of p by (is_accessed address width) hurt violates;
    }

-- bytes written through a vector as a slice
pub whole_items : (old new : List ℕ) (len : ℕ) → len ≡ length old → length new ≡ length old → take len (new ++ drop (length new) old) ≡ new
whole_items old new len is same = grind (arith, common_steps)
