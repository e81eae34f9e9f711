-- What a legal entry tells.
use Rattle.std.proofs.Common.{◌≡◌, ◌≢◌, ℕ, zero, suc, ◌<◌, ◌==◌, ◌&&◌, not, Bool, true, false, cond, is_some, Option, Some, None, refl, sym, ap, ◌∙◌, inl, inr, true≢false, arith, ne_eqb, eq-eqb, eqb-true}
use Rattle.std.proofs.lemmas.Bool.{cases_eq, and_parts, or_parts, not-false}
use Rattle.rv32_image.proofs.SmallFacts.{none_of}
use Rattle.rv32_exec.specs.declared.stop.Stop.{Stop}
use Rattle.rv32_exec.specs.declared.stop.Stop.TheVariants as stop
use Rattle.rv32_image.specs.Image.{LoadedImage}
use Rattle.spec_history.specs.declared.entry.Entry.{Entry}
use Rattle.spec_history.specs.declared.entry.What.{What}
use Rattle.spec_history.specs.declared.entry.What.TheVariants.{Start, Load, Store, Hurt, Cancel, Restart, Publish, Commit, Fault}
use Rattle.rv32_exec.specs.Execute.{IsAccess, IsStore}
use Rattle.rv32_exec.specs.NextEvent.{next_event}
use Rattle.spec_history.specs.declared.illegal.Illegal.{Illegal}
use Rattle.spec_history.specs.Machine.{IsInMemory}
use Rattle.rv32_exec.proofs.Accesses.{stop_of_event}
use Rattle.spec_history.specs.FlatState.{CoreState, FlatState}
use Rattle.spec_history.specs.Effect.{by_core, effect}
use Rattle.spec_history.specs.Refusal.{any_below, is_there, is_next, is_homefree, is_value, misses_a_hurt, misses_a_cancel, has_read, other_has_read, refusal_of, is_that_load, is_that_store, is_the_end, is_that_fault}

-- ---- tests

pub and_false : (a b : Bool) → (a && b) ≡ false → a ≡ true → b ≡ false
and_false true b is held = is
and_false false b is held = absurd cc

-- none below n passes a test that some_below refuses
pub none_below : (n : ℕ) (test : ℕ → Bool) → any_below n test ≡ false → (k : ℕ) → k < n → test k ≡ false
unfolding any_below
none_below zero test none k below = absurd (omega arith)
none_below (suc n) test none k below =
    let parts = or_parts (test n) (any_below n test) none in
    elim (cases_eq k n) [
      | inl e ↦ rw e parts.0
      | inr other ↦ none_below n test parts.1 k (omega arith)
    ]

some_by : (n : ℕ) (test : ℕ → Bool) (b : Bool) → test n ≡ b → any_below (suc n) test ≡ true
    → (any_below n test ≡ true → (k : ℕ) × (k < n) × (test k ≡ true)) → (k : ℕ) × (k < suc n) × (test k ≡ true)
unfolding any_below
some_by n test true here some later = (n, omega arith, here)
some_by n test false here some later = let found = later (rw here at some) in (found.0, omega (arith, found.1), found.2)

no_zero : (test : ℕ → Bool) → any_below 0 test ≡ true → ⊥
unfolding any_below
no_zero test some = cc

-- where one passes, there it is
pub some_below : (n : ℕ) (test : ℕ → Bool) → any_below n test ≡ true → (k : ℕ) × (k < n) × (test k ≡ true)
some_below zero test some = absurd (no_zero test some)
some_below (suc n) test some = some_by n test (test n) refl some (λ rest. some_below n test rest)

-- ---- a legal entry passes each test

pub record IsLegalEntry (image : LoadedImage) (count : ℕ) (s : FlatState) (entry : Entry) : Type 0 where
  pub going : s.end ≡ None
  pub there : is_there count s entry.by entry.what ≡ true
  pub next : is_next image s entry.by entry.what ≡ true
  pub homefree : is_homefree s entry.by entry.what ≡ true
  pub value : is_value s entry.by entry.what ≡ true
  pub spares : misses_a_hurt image count s entry ≡ false
  pub cancelled : misses_a_cancel image count s entry.by entry.what ≡ false

passes : (b : Bool) (refusal : Illegal) (rest : Option Illegal) → cond b (Some refusal) rest ≡ None → (b ≡ false) × (rest ≡ None)
passes true refusal rest is = absurd cc
passes false refusal rest is = (refl, is)

pub legal_entry : (image : LoadedImage) (count : ℕ) (s : FlatState) (entry : Entry) → refusal_of image count s entry ≡ None → IsLegalEntry image count s entry
unfolding refusal_of
legal_entry image count s entry is =
    let over = passes _ _ _ is in
    let there = passes _ _ _ over.1 in
    let next = passes _ _ _ there.1 in
    let homefree = passes _ _ _ next.1 in
    let value = passes _ _ _ homefree.1 in
    let spares = passes _ _ _ value.1 in
    let cancelled = passes _ _ _ spares.1 in
    record {
      going = none_of s.end over.0;
      there = not-false _ there.0;
      next = not-false _ next.0;
      homefree = not-false _ homefree.0;
      value = not-false _ value.0;
      spares = spares.0;
      cancelled = cancelled.0;
    }

pass : (b : Bool) (refusal : Illegal) (rest : Option Illegal) → b ≡ false → rest ≡ None → cond b (Some refusal) rest ≡ None
pass true refusal rest is none = absurd cc
pass false refusal rest is none = none

-- an entry that passes each test is legal
pub legal_is : (image : LoadedImage) (count : ℕ) (s : FlatState) (entry : Entry) → IsLegalEntry image count s entry → refusal_of image count s entry ≡ None
unfolding refusal_of
legal_is image count s entry l =
    pass _ _ _ (ap is_some l.going) (pass _ _ _ (ap not l.there) (pass _ _ _ (ap not l.next) (pass _ _ _ (ap not l.homefree)
    (pass _ _ _ (ap not l.value) (pass _ _ _ l.spares (pass _ _ _ l.cancelled refl))))))

unread : (core : Option CoreState) (c : CoreState) (a byte : ℕ) → core ≡ Some c → c.hurt ≡ false → c.outside a ≡ Some byte → has_read core a ≡ true
unread core c a byte is unhurt read = rw (is, unhurt, read) refl

seen_changed : (count : ℕ) (s : FlatState) (by k a : ℕ) (c : CoreState) (byte : ℕ) → s.cores k ≡ Some c → k ≢ by → k < count → c.hurt ≡ false
    → c.outside a ≡ Some byte → other_has_read count s by a ≡ false → ⊥
seen_changed count s by k a c byte runs other there unhurt read nobody =
    let at_k : (not (k == by) && has_read (s.cores k) a) ≡ false = none_below count _ nobody k there in
    let unseen = and_false (not (k == by)) _ at_k (ap not (ne_eqb k by other)) in
    true≢false (sym (unread (s.cores k) c a byte runs unhurt read) ∙ unseen)

-- what another core has read, and isn't hurt, does not change
pub spared : (image : LoadedImage) (count : ℕ) (s : FlatState) (entry : Entry) → misses_a_hurt image count s entry ≡ false
    → (k : ℕ) (c : CoreState) → s.cores k ≡ Some c → k ≢ entry.by → k < count → c.hurt ≡ false
    → (a byte : ℕ) → c.outside a ≡ Some byte → a < image.size → (effect image s entry).committed a ≡ s.committed a
spared image count s entry none k c runs other there unhurt a byte read within =
    let changes = (effect image s entry).committed a == s.committed a in
    let here : (not changes && other_has_read count s entry.by a) ≡ false = none_below image.size _ none a within in
    elim (cases_eq ((effect image s entry).committed a) (s.committed a)) [
      | inl same ↦ same
      | inr changed ↦ absurd (seen_changed count s entry.by k a c byte runs other there unhurt read
          (and_false (not changes) _ here (ap not (ne_eqb _ _ changed))))
    ]

-- ---- the next event

pub that_load : (address width : ℕ) (at : Stop) → is_that_load address width at ≡ true → (signed : Bool) × (rd : ℕ) × (at ≡ stop.Load address width signed rd)
that_load address width (stop.Load a w signed rd) is =
    let both = and_parts (a == address) (w == width) is in
    let ea = eqb-true a address both.0 in
    let ew = eqb-true w width both.1 in (signed, rd, cc)
that_load address width (stop.Store a w v) is = absurd cc
that_load address width stop.Ended is = absurd cc
that_load address width (stop.Fault c p) is = absurd cc

pub that_store : (address width value : ℕ) (at : Stop) → is_that_store address width value at ≡ true → at ≡ stop.Store address width value
that_store address width value (stop.Load a w signed rd) is = absurd cc
that_store address width value (stop.Store a w v) is =
    let first = and_parts (a == address) ((w == width) && (v == value)) is in
    let rest = and_parts (w == width) (v == value) first.1 in
    let ea = eqb-true a address first.0 in
    let ew = eqb-true w width rest.0 in
    let ev = eqb-true v value rest.1 in cc
that_store address width value stop.Ended is = absurd cc
that_store address width value (stop.Fault c p) is = absurd cc

pub the_end : (at : Stop) → is_the_end at ≡ true → at ≡ stop.Ended
the_end (stop.Load a w signed rd) is = absurd cc
the_end (stop.Store a w v) is = absurd cc
the_end stop.Ended is = refl
the_end (stop.Fault c p) is = absurd cc

pub that_fault : (cause pc : ℕ) (at : Stop) → is_that_fault cause pc at ≡ true → at ≡ stop.Fault cause pc
that_fault cause pc (stop.Load a w signed rd) is = absurd cc
that_fault cause pc (stop.Store a w v) is = absurd cc
that_fault cause pc stop.Ended is = absurd cc
that_fault cause pc (stop.Fault c p) is =
    let both = and_parts (c == cause) (p == pc) is in
    let ec = eqb-true c cause both.0 in
    let ep = eqb-true p pc both.1 in cc

-- and the event passes the test of the entry that it is
pub load_is_that : (address width : ℕ) (signed : Bool) (rd : ℕ) → is_that_load address width (stop.Load address width signed rd) ≡ true
load_is_that address width signed rd = rw (eq-eqb address address refl, eq-eqb width width refl) refl

pub store_is_that : (address width value : ℕ) → is_that_store address width value (stop.Store address width value) ≡ true
store_is_that address width value = rw (eq-eqb address address refl, eq-eqb width width refl, eq-eqb value value refl) refl

pub fault_is_that : (cause pc : ℕ) → is_that_fault cause pc (stop.Fault cause pc) ≡ true
fault_is_that cause pc = rw (eq-eqb cause cause refl, eq-eqb pc pc refl) refl

-- ---- an entry that is next

next_by : (image : LoadedImage) (s : FlatState) (by : ℕ) (what : What) (core : Option CoreState) → s.cores by ≡ core → is_next image s by what ≡ true → IsInMemory image.size what
next_by image s by (Start epoch) core at is = tt
next_by image s by (Load address width value) None at is = absurd (true≢false (sym is ∙ ap (λ o. by_core o false (λ c. is_that_load address width (next_event image c.hart).at)) at))
next_by image s by (Load address width value) (Some c) at is =
    let next = that_load address width _ (sym (ap (λ o. by_core o false (λ x. is_that_load address width (next_event image x.hart).at)) at) ∙ is) in
    let access : IsAccess image (next_event image c.hart).now address width = rw next.2 at (stop_of_event image c.hart) in (access.wide, access.within)
next_by image s by (Store address width value) None at is = absurd (true≢false (sym is ∙ ap (λ o. by_core o false (λ c. is_that_store address width value (next_event image c.hart).at)) at))
next_by image s by (Store address width value) (Some c) at is =
    let next = that_store address width value _ (sym (ap (λ o. by_core o false (λ x. is_that_store address width value (next_event image x.hart).at)) at) ∙ is) in
    let store : IsStore image (next_event image c.hart).now address width value = rw next at (stop_of_event image c.hart) in (store.access.wide, store.access.within)
next_by image s by (Hurt epoch) core at is = tt
next_by image s by (Cancel epoch) core at is = tt
next_by image s by Restart core at is = tt
next_by image s by Publish core at is = tt
next_by image s by Commit core at is = tt
next_by image s by (Fault cause pc) core at is = tt

-- its access has a width, and lies in memory
pub next_in_memory : (image : LoadedImage) (s : FlatState) (by : ℕ) (what : What) → is_next image s by what ≡ true → IsInMemory image.size what
next_in_memory image s by what is = next_by image s by what (s.cores by) refl is
