-- Sums of dependences by pairs of instructions, of which a few are at hand.
use Rattle.std.proofs.Common.{◌≡◌, ◌≢◌, ◌⊎◌, ℕ, zero, suc, ◌+◌, ◌<◌, ◌≤◌, ◌==◌, ◌&&◌, ◌||◌, not, Bool, true, false, cond, List, [], ◌∷◌, length, set, slice_get, slice_index_or, Option, Some, None, refl, sym, ap, ◌∙◌, inl, inr, arith, eqb-true, true≢false, replicate}
use Rattle.std.proofs.lemmas.Bool.{and_parts, cases_eq}
use Rattle.std.proofs.lemmas.Option.{slice_get_read}
use Rattle.std.specs.BTreeMap.{BTreeMap, get}
use Rattle.std.specs.Ordering.{is_eq}
use Rattle.dependences.specs.declared.flow.Dependence.{Dependence}
use Rattle.dependences.specs.declared.pairs.PairSum.{PairSum}
use Rattle.dependences.specs.declared.pairs.Ready.{Ready}
use Rattle.dependences.specs.Pairs.{by_pcs, joins, sum_more, sum_with}
use Rattle.dependences.specs.KeptPairs.{at_hand, kept_sum, ready_sum, slot, sum_or}
use Rattle.dependences.proofs.Joining.{at_pcs}

-- ---- places

get_set_same : (ready : List Ready) (place : ℕ) (one : Ready) → place < length ready → slice_get (set ready place one) place ≡ Some one
get_set_same [] place one below = absurd (omega arith)
get_set_same (first ∷ rest) zero one below = refl
get_set_same (first ∷ rest) (suc place) one below = get_set_same rest place one (omega arith)

get_set_other : (ready : List Ready) (place k : ℕ) (one : Ready) → k ≢ place → slice_get (set ready place one) k ≡ slice_get ready k
get_set_other [] place k one other = refl
get_set_other (first ∷ rest) zero zero one other = absurd (other refl)
get_set_other (first ∷ rest) zero (suc k) one other = refl
get_set_other (first ∷ rest) (suc place) zero one other = refl
get_set_other (first ∷ rest) (suc place) (suc k) one other = get_set_other rest place k one (λ e. other (ap suc e))

-- the same in its place
pub set_same : (ready : List Ready) (place : ℕ) (one : Ready) → slice_get ready place ≡ Some one → set ready place one ≡ ready
set_same [] place one is = refl
set_same (first ∷ rest) zero one is = let same : first ≡ one = cc in ap (λ r. r ∷ rest) (sym same)
set_same (first ∷ rest) (suc place) one is = ap (λ l. first ∷ l) (set_same rest place one is)

-- what stands at this place, of the 256
pub stands : (ready : List Ready) (place : ℕ) (one : Ready) → length ready ≡ 256 → place < 256 → one ≡ slice_index_or ready place one → slice_get ready place ≡ Some one
stands ready place one long few value = slice_get_read ready 256 place one (sym long) few value

-- ---- the pair at hand

-- a pair that isn't at hand where one is looked for
pub not_at_hand : (one : Ready) (store load : ℕ) → (one.store ≡ store → one.load ≡ load → ⊥) → at_hand (Some one) store load ≡ None
not_at_hand one store load other = by_test ((one.store == store) && (one.load == load)) refl where
  by_test : (b : Bool) → ((one.store == store) && (one.load == load)) ≡ b → cond b (Some one.sum) None ≡ None
  by_test true is =
      let parts = and_parts (one.store == store) (one.load == load) is in absurd (other (eqb-true one.store store parts.0) (eqb-true one.load load parts.1))
  by_test false is = refl

-- of two tests one fails
one_fails : (a b : Bool) → (not a || not b) ≡ true → (a && b) ≡ false
one_fails true true is = absurd (true≢false (sym is))
one_fails true false is = refl
one_fails false b is = refl

-- none fails
none_fails : (a b : Bool) → (not a || not b) ≡ false → (a ≡ true) × (b ≡ true)
none_fails true true is = (refl, refl)
none_fails true false is = absurd (true≢false is)
none_fails false b is = absurd (true≢false is)

pub not_ready : (ready : List Ready) (place store load : ℕ) (one : Ready) → place ≡ slot store load → slice_get ready place ≡ Some one
    → (not (one.store == store) || not (one.load == load)) ≡ true → ready_sum ready store load ≡ None
not_ready ready place store load one is there other =
    ap (λ p. at_hand (slice_get ready p) store load) (sym is)
    ∙ (ap (λ o. at_hand o store load) there ∙ ap (λ b. cond b (Some one.sum) None) (one_fails (one.store == store) (one.load == load) other))

pub ready_is : (ready : List Ready) (sums : BTreeMap (ℕ × ℕ) PairSum) (place store load : ℕ) (one : Ready) → place ≡ slot store load → slice_get ready place ≡ Some one
    → (not (one.store == store) || not (one.load == load)) ≡ false → kept_sum ready sums store load ≡ Some one.sum
ready_is ready sums place store load one is there same =
    let tests = none_fails (one.store == store) (one.load == load) same in rw (ap (slice_get ready) (sym is) ∙ there, tests.0, tests.1) refl

-- ---- none is at hand

replicated : (count k : ℕ) (one : Ready) → (slice_get (replicate count one) k ≡ None) ⊎ (slice_get (replicate count one) k ≡ Some one)
replicated zero k one = inl refl
replicated (suc count) zero one = inr refl
replicated (suc count) (suc k) one = replicated count k one

-- each place has a pair that is looked for elsewhere
pub none_ready : (ready : List Ready) (first other : Ready) (store load : ℕ) → ready ≡ set (replicate 256 other) 0 first → (first.store ≡ 0) × (first.load ≡ 4)
    → (other.store ≡ 0) × (other.load ≡ 0) → ready_sum ready store load ≡ None
none_ready ready first other store load is firsts others = ap (λ r. ready_sum r store load) is ∙ by_place (cases_eq (slot store load) 0) where
  all : List Ready
  all = replicate 256 other

  by_place : (slot store load ≡ 0) ⊎ (slot store load ≢ 0) → ready_sum (set all 0 first) store load ≡ None
  by_place (inl here) =
      ap (λ p. at_hand (slice_get (set all 0 first) p) store load) here
      ∙ not_at_hand first store load (λ s l. absurd (omega (arith, here, s, l, firsts.0, firsts.1)))
  by_place (inr apart) = ap (λ o. at_hand o store load) (get_set_other all 0 (slot store load) first apart) ∙ elim (replicated 256 (slot store load) other) [
    | inl none ↦ ap (λ o. at_hand o store load) none
    | inr some ↦ ap (λ o. at_hand o store load) some ∙ not_at_hand other store load (λ s l. absurd (apart (omega (arith, s, l, others.0, others.1))))
  ]

-- ---- a sum in place of what stood there

-- the pair of this dependence, with this sum
abbrev pub row : Dependence → PairSum → Ready
row x sum = record { store = x.store_pc; load = x.load_pc; sum = sum }

module _ (ready : List Ready) (old new : BTreeMap (ℕ × ℕ) PairSum) (x : Dependence) (sum : PairSum) (long : length ready ≡ 256) where
  abbrev after : List Ready
  after = set ready (slot x.store_pc x.load_pc) (row x sum)

  here : (store load : ℕ) → slot store load ≡ slot x.store_pc x.load_pc → slice_get after (slot store load) ≡ Some (row x sum)
  here store load is = ap (slice_get after) is ∙ get_set_same ready (slot x.store_pc x.load_pc) (row x sum) (rw long (omega arith))

  of_pair : (store load : ℕ) → joins store load x ≡ true → kept_sum after new store load ≡ Some sum
  of_pair store load is =
      let parts = and_parts (x.store_pc == store) (x.load_pc == load) is in
      let first : x.store_pc ≡ store = eqb-true x.store_pc store parts.0 in
      let second : x.load_pc ≡ load = eqb-true x.load_pc load parts.1 in
      rw (here store load (rw (first, second) refl), is) refl

  of_others : (store load : ℕ) → joins store load x ≡ false
      → ((s l : ℕ) → joins s l x ≡ false → slot s l ≡ slot x.store_pc x.load_pc → get by_pcs new (s, l) ≡ kept_sum ready old s l)
      → ((s l : ℕ) → slot s l ≢ slot x.store_pc x.load_pc → get by_pcs new (s, l) ≡ get by_pcs old (s, l))
      → kept_sum after new store load ≡ kept_sum ready old store load
  of_others store load other beside far = elim (cases_eq (slot store load) (slot x.store_pc x.load_pc)) [
    | inl is ↦ rw (here store load is, other) (beside store load other is)
    | inr apart ↦ rw (get_set_other ready (slot x.store_pc x.load_pc) (slot store load) (row x sum) apart, far store load apart) refl
  ]

  added_by : (store load : ℕ) (b : Bool) → joins store load x ≡ b → sum_with (kept_sum ready old x.store_pc x.load_pc) x ≡ Some sum
      → ((s l : ℕ) → joins s l x ≡ false → slot s l ≡ slot x.store_pc x.load_pc → get by_pcs new (s, l) ≡ kept_sum ready old s l)
      → ((s l : ℕ) → slot s l ≢ slot x.store_pc x.load_pc → get by_pcs new (s, l) ≡ get by_pcs old (s, l))
      → kept_sum after new store load ≡ cond b (sum_with (kept_sum ready old x.store_pc x.load_pc) x) (kept_sum ready old store load)
  added_by store load true is more beside far = of_pair store load is ∙ sym more
  added_by store load false is more beside far = of_others store load is beside far

  -- the sum has one more, and the map has what was at hand there
  pub added : sum_with (kept_sum ready old x.store_pc x.load_pc) x ≡ Some sum
      → ((s l : ℕ) → joins s l x ≡ false → slot s l ≡ slot x.store_pc x.load_pc → get by_pcs new (s, l) ≡ kept_sum ready old s l)
      → ((s l : ℕ) → slot s l ≢ slot x.store_pc x.load_pc → get by_pcs new (s, l) ≡ get by_pcs old (s, l))
      → (store load : ℕ) → kept_sum after new store load
      ≡ cond (is_eq (by_pcs (x.store_pc, x.load_pc) (store, load))) (sum_with (kept_sum ready old x.store_pc x.load_pc) x) (kept_sum ready old store load)
  added more beside far store load =
      added_by store load (joins store load x) refl more beside far
      ∙ ap (λ b. cond b (sum_with (kept_sum ready old x.store_pc x.load_pc) x) (kept_sum ready old store load)) (sym (at_pcs store load x))

-- the pair was at hand: its sum there has one more
pub counted : (ready : List Ready) (sums : BTreeMap (ℕ × ℕ) PairSum) (x : Dependence) (one : Ready) (place : ℕ) (sum : PairSum) → length ready ≡ 256 → place ≡ slot x.store_pc x.load_pc
    → slice_get ready place ≡ Some one → (not (one.store == x.store_pc) || not (one.load == x.load_pc)) ≡ false → sum ≡ sum_more one.sum x
    → (store load : ℕ) → kept_sum (set ready place (record { store = one.store; load = one.load; sum = sum })) sums store load
    ≡ cond (is_eq (by_pcs (x.store_pc, x.load_pc) (store, load))) (sum_with (kept_sum ready sums x.store_pc x.load_pc) x) (kept_sum ready sums store load)
counted ready sums x one place sum long is at_place same sum_is store load =
    ap (λ l. kept_sum l sums store load) same_list ∙ added ready sums sums x (sum_more one.sum x) long more beside (λ s l apart. refl) store load
  where
    tests : ((one.store == x.store_pc) ≡ true) × ((one.load == x.load_pc) ≡ true)
    tests = none_fails (one.store == x.store_pc) (one.load == x.load_pc) same

    store_is : one.store ≡ x.store_pc
    store_is = eqb-true one.store x.store_pc tests.0

    load_is : one.load ≡ x.load_pc
    load_is = eqb-true one.load x.load_pc tests.1

    same_list : set ready place (record { store = one.store; load = one.load; sum = sum }) ≡ set ready (slot x.store_pc x.load_pc) (row x (sum_more one.sum x))
    same_list = rw (is, store_is, load_is, sum_is) refl

    there : slice_get ready (slot x.store_pc x.load_pc) ≡ Some one
    there = ap (slice_get ready) (sym is) ∙ at_place

    more : sum_with (kept_sum ready sums x.store_pc x.load_pc) x ≡ Some (sum_more one.sum x)
    more = ap (λ (o : Option PairSum). sum_with o x) (ready_is ready sums place x.store_pc x.load_pc one is at_place same)

    beside : (s l : ℕ) → joins s l x ≡ false → slot s l ≡ slot x.store_pc x.load_pc → get by_pcs sums (s, l) ≡ kept_sum ready sums s l
    beside s l other at = rw (at, there, store_is, load_is, other) refl

-- ---- all sums

-- those of the places so far are in the map
pub record ArePutBack (ready : List Ready) (first now : BTreeMap (ℕ × ℕ) PairSum) (places : ℕ) : Type 0 where
  pub below : (store load : ℕ) → slot store load < places → get by_pcs now (store, load) ≡ kept_sum ready first store load
  pub above : (store load : ℕ) → places ≤ slot store load → get by_pcs now (store, load) ≡ get by_pcs first (store, load)

pub none_put_back : (ready : List Ready) (sums : BTreeMap (ℕ × ℕ) PairSum) → ArePutBack ready sums sums 0
none_put_back ready sums = record { below = λ store load low. absurd (omega (arith, low)); above = λ store load from. refl }

pub more_put_back : (ready : List Ready) (first now next : BTreeMap (ℕ × ℕ) PairSum) (place : ℕ) → ArePutBack ready first now place
    → ((s l : ℕ) → slot s l ≡ place → get by_pcs next (s, l) ≡ kept_sum ready now s l)
    → ((s l : ℕ) → slot s l ≢ place → get by_pcs next (s, l) ≡ get by_pcs now (s, l)) → ArePutBack ready first next (place + 1)
more_put_back ready first now next place are here others = record {
  below = λ store load low. elim (cases_eq (slot store load) place) [
    | inl is ↦ here store load is ∙ ap (sum_or (ready_sum ready store load)) (are.above store load (omega (arith, is)))
    | inr apart ↦ others store load apart ∙ are.below store load (omega (arith, low, apart))
  ];
  above = λ store load from. others store load (λ is. absurd (omega (arith, is, from))) ∙ are.above store load (omega (arith, from));
}

pub all_put_back : (ready : List Ready) (first now : BTreeMap (ℕ × ℕ) PairSum) (places store load : ℕ) → 256 ≤ places → ArePutBack ready first now places
    → get by_pcs now (store, load) ≡ kept_sum ready first store load
all_put_back ready first now places store load all are = are.below store load (omega (arith, all))
