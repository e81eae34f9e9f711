-- A store of places that keeps the store rule keeps it as it is seen by addresses.
use Rattle.std.proofs.Common.{◌≡◌, ◌≢◌, ℕ, zero, suc, ◌+◌, ◌-◌, ◌*◌, ◌%◌, ◌<◌, ◌≤◌, ◌^◌, ◌==◌, ◌&&◌, ◌||◌, nat_le, nat_lt, Bool, true, false, cond, ◌⊎◌, inl, inr, List, length, All, Option, Some, None, unwrap_or, true≢false, refl, sym, ap, subst, ◌∙◌, arith, add-zero}
use Rattle.std.proofs.lemmas.Bool.{ltb-false, ltb-true}
use Rattle.std.proofs.lemmas.Bool.Decides.{nat_tests}
use Rattle.std.proofs.lemmas.List.Elements.{All-weaker}
use Rattle.memory_bytes.specs.Bytes.{byte_of, number_at}
use Rattle.memory_bytes.specs.Maps.{over, stored}
use Rattle.memory_bytes.proofs.SmallFacts.{some_wide}
use Rattle.violations.specs.declared.attempt.Attempt.{Attempt}
use Rattle.violations.specs.Relabelled.{relabelled, IsRelabelling, OwnsBytes}
use Rattle.violations.specs.Rule.{IsSameCore, IsSpared, IsHurt, HurtsLater, Guards, OwnsIn, AreApart, IsCrowded, Begins, Ends, TakesIn, Loads, Stores, Publishes, LoadsStraight, StoresStraight}
use Rattle.violations.specs.View.{Shape, StoreView, attempt_of, epoch_of, line_of, IsClear, IsSettled, is_accessed, IsLoad, Runs}

-- the number in bytes that stand elsewhere
pub number-shifted : (f g : ℕ → ℕ) (a b width : ℕ) → ((i : ℕ) → i < width → f (a + i) ≡ g (b + i)) → number_at f a width ≡ number_at g b width
unfolding number_at
number-shifted f g a b zero same = refl
number-shifted f g a b (suc n) same =
    let first : f a ≡ g b = ap f (sym (add-zero a)) ∙ same 0 (omega arith) ∙ ap g (add-zero b) in
    let rest : number_at f (a + 1) n ≡ number_at g (b + 1) n =
    number-shifted f g (a + 1) (b + 1) n (λ i lt. ap f (next a i) ∙ same (i + 1) (omega arith) ∙ ap g (sym (next b i))) in
    rw (first, rest) refl
  where
    next : (a i : ℕ) → a + 1 + i ≡ a + (i + 1)
    next a i = omega arith

both_so : (b c : Bool) → (b ≡ true → c ≡ true) → (c ≡ true → b ≡ true) → b ≡ c
both_so true c there back = sym (there refl)
both_so false true there back = back refl
both_so false false there back = refl

accessed : (address width i : ℕ) → i < width → is_accessed address width (address + i) ≡ true
accessed address width i lt = grind (arith, nat_tests)

counted : (address width a : ℕ) → is_accessed address width a ≡ true → (a - address < width) × (address + (a - address) ≡ a)
counted address width a is = (grind (arith, nat_tests), grind (arith, nat_tests))

-- ---- accesses

-- its last byte lies in memory
ends_inside : (place : ℕ → ℕ) (shape places : Shape) → IsRelabelling place shape places → (address width : ℕ) → IsLoad shape address width
    → place address + width ≤ places.size
ends_inside place shape places h address width access =
    let some = some_wide width access.wide in
    let last : address + (width - 1) < shape.size = omega (arith, some, access.within) in
    let place_of_last = h.word address width (width - 1) access.wide access.aligned (omega (arith, some)) in
    let inside = h.inside (address + (width - 1)) last in
    omega (arith, some, place_of_last, inside)

pub load-at_place : (place : ℕ → ℕ) (shape places : Shape) → IsRelabelling place shape places → (address width : ℕ) → IsLoad shape address width
    → IsLoad places (place address) width
load-at_place place shape places h address width access = record {
  wide = access.wide;
  aligned = h.aligned address width access.wide access.aligned;
  within = ends_inside place shape places h address width access;
}

module _ (place : ℕ → ℕ) (shape places : Shape) (h : IsRelabelling place shape places) (address width : ℕ) (access : IsLoad shape address width) where
  -- the byte at a place of the access
  accessed-found : (p : ℕ) → is_accessed (place address) width p ≡ true → (a : ℕ) × (place a ≡ p) × (is_accessed address width a ≡ true)
  accessed-found p is =
      let at = counted (place address) width p is in
      (address + (p - place address), h.word address width (p - place address) access.wide access.aligned at.0 ∙ at.1, accessed address width (p - place address) at.0)

  accessed-there : (a : ℕ) → is_accessed address width a ≡ true → is_accessed (place address) width (place a) ≡ true
  accessed-there a is =
      let at = counted address width a is in
      ap (λ p. is_accessed (place address) width p) (ap place (sym at.1) ∙ h.word address width (a - address) access.wide access.aligned at.0)
      ∙ accessed (place address) width (a - address) at.0

  accessed-at : (a : ℕ) → is_accessed (place address) width (place a) ≡ is_accessed address width a
  accessed-at a =
      both_so (is_accessed (place address) width (place a)) (is_accessed address width a)
      (λ is. let found = accessed-found (place a) is in subst (λ b. is_accessed address width b ≡ true) (h.one found.0 a found.1) found.2)
      (accessed-there a)

  number-at_place : (f : ℕ → ℕ) → number_at f (place address) width ≡ number_at (λ a. f (place a)) address width
  number-at_place f =
      number-shifted f (λ a. f (place a)) (place address) address width (λ i lt. ap f (sym (h.word address width i access.wide access.aligned lt)))

  stored-at_place : (value a : ℕ) → stored (place address) width value (place a) ≡ stored address width value a
  unfolding stored
  stored-at_place value a = pick (is_accessed address width a) refl
    where
      pick : (b : Bool) → is_accessed address width a ≡ b
          → cond (is_accessed (place address) width (place a)) (Some (byte_of value (place a - place address))) None
          ≡ cond (is_accessed address width a) (Some (byte_of value (a - address))) None
      pick false e = rw (accessed-at a, e) refl
      pick true e =
          let at = counted address width a e in
          let same : place a ≡ place address + (a - address) = ap place (sym at.1) ∙ h.word address width (a - address) access.wide access.aligned at.0 in
          let offset : place a - place address ≡ a - address = omega (arith, same) in
          rw (accessed-at a, e, offset) refl

  over-at_place : (value : ℕ) (f : ℕ → ℕ) (a : ℕ) → over (stored (place address) width value) f (place a) ≡ over (stored address width value) (λ b. f (place b)) a
  over-at_place value f a = ap (λ (o : Option ℕ). unwrap_or o (f (place a))) (stored-at_place value a)

-- ---- what a core owns and guards

module _ (place : ℕ → ℕ) (shape : Shape) (v : StoreView) (h : IsRelabelling place shape v.shape) (bytes : OwnsBytes place v) where
  abbrev seen : StoreView → StoreView
  seen w = relabelled place shape w

  owned-found : (k p : ℕ) → v.own k p ≡ true → (a : ℕ) × (place a ≡ p)
  owned-found k p owned =
      elim (h.found p) [
        | inl found ↦ found
        | inr none ↦ absurd (true≢false (sym owned ∙ bytes.none k p none))
      ]

  own-line : (k line : ℕ) → OwnsIn v k line → OwnsIn (seen v) k line
  own-line k line o =
      let found = owned-found k o.at o.owned in record {
        at = found.0;
        within = pick (nat_lt found.0 shape.size) found refl o.within;
        in_line = sym (h.line found.0) ∙ (ap (line_of v.shape) found.1 ∙ o.in_line);
        owned = ap (v.own k) found.1 ∙ o.owned;
      }
    where
      pick : (b : Bool) → (found : (a : ℕ) × (place a ≡ o.at)) → nat_lt found.0 shape.size ≡ b → o.at < v.shape.size → found.0 < shape.size
      pick true found e lt = ltb-true found.0 shape.size e
      pick false found e lt =
          let out : v.shape.size ≤ o.at = subst (λ p. v.shape.size ≤ p) found.1 (h.past found.0 (ltb-false found.0 shape.size e)) in
          absurd (omega (arith, out, lt))

  line-own : (k line : ℕ) → OwnsIn (seen v) k line → OwnsIn v k line
  line-own k line o = record {
    at = place o.at;
    within = h.inside o.at o.within;
    in_line = h.line o.at ∙ o.in_line;
    owned = o.owned;
  }

  crowded-at : (k address : ℕ) → IsCrowded v k (place address) → IsCrowded (seen v) k address
  crowded-at k address c = record {
    cached = c.cached;
    here = subst (λ line. OwnsIn (seen v) k line) (h.line address) (own-line k (line_of v.shape (place address)) c.here);
    others = c.others;
    full = subst (λ n. n ≤ length c.others) h.buffer_lines c.full;
    apart = c.apart;
    each =
        All-weaker (λ line. (line ≢ line_of v.shape (place address)) × OwnsIn v k line) (λ line. (line ≢ line_of shape address) × OwnsIn (seen v) k line)
        (λ line two. ((λ same. two.0 (same ∙ sym (h.line address))), own-line k line two.1)) c.others c.each;
  }

  guards-own : (k core : ℕ) → Guards v k (v.own core) → Guards (seen v) k ((seen v).own core)
  guards-own k core g =
      let found = owned-found core g.at g.is_one in record {
        at = found.0;
        is_one = ap (v.own core) found.1 ∙ g.is_one;
        guarded = ap (v.guarded k) found.1 ∙ g.guarded;
      }

  guards-at : (k : ℕ) (mine : ℕ → Bool) → Guards (seen v) k (λ a. mine (place a)) → Guards v k mine
  guards-at k mine g = record { at = place g.at; is_one = g.is_one; guarded = g.guarded }

  module _ (address width : ℕ) (access : IsLoad shape address width) where
    guards-accessed : (k : ℕ) → Guards v k (is_accessed (place address) width) → Guards (seen v) k (is_accessed address width)
    guards-accessed k g =
        let found = accessed-found place shape v.shape h address width access g.at g.is_one in record {
          at = found.0;
          is_one = found.2;
          guarded = ap (v.guarded k) found.1 ∙ g.guarded;
        }

    accessed-guards : (k : ℕ) → Guards (seen v) k (is_accessed address width) → Guards v k (is_accessed (place address) width)
    accessed-guards k g = record { at = place g.at; is_one = accessed-there place shape v.shape h address width access g.at g.is_one; guarded = g.guarded }

    takes-at : (core a : ℕ) → TakesIn v core (place address) width (place a) → TakesIn (seen v) core address width a
    takes-at core a t =
        let found = accessed-found place shape v.shape h address width access t.at t.accessed in record {
          at = found.0;
          accessed = found.2;
          in_line = sym (h.line found.0) ∙ (ap (line_of v.shape) found.1 ∙ (t.in_line ∙ h.line a));
          outside = ap (v.own core) found.1 ∙ t.outside;
          itself = λ none. h.one found.0 a (found.1 ∙ t.itself none);
        }

-- ---- cores

module _ (place : ℕ → ℕ) (shape : Shape) where
  clear-at : (v : StoreView) (k : ℕ) → IsClear v k → IsClear (relabelled place shape v) k
  clear-at v k c = record { own = λ a. c.own (place a); guarded = λ a. c.guarded (place a); sees = λ a. c.sees (place a) }

  core-at : (v w : StoreView) (k : ℕ) → IsSameCore v w k → IsSameCore (relabelled place shape v) (relabelled place shape w) k
  core-at v w k s = record { attempt = s.attempt; own = λ a. s.own (place a); guarded = λ a. s.guarded (place a); sees = λ a. s.sees (place a) }

  hurts-at : (v w : StoreView) (core : ℕ) (hurt : ℕ → Bool) → HurtsLater v w core hurt → HurtsLater (relabelled place shape v) (relabelled place shape w) core hurt
  hurts-at v w core hurt o = record {
    not_itself = o.not_itself;
    hurts = λ k is. let one = o.hurts k is in record { attempt = one.attempt; had = one.had; later = one.later; none = one.none };
    spares = λ k away no.
        let one = o.spares k away no in record {
          attempt = one.attempt;
          own = λ a. one.own (place a);
          guarded = λ a. one.guarded (place a);
          sees_own = λ a. one.sees_own (place a);
          sees_rest = λ a. one.sees_rest (place a);
          stands = λ a. one.stands (place a);
        };
  }

  pub begins-at : (v w : StoreView) (core epoch : ℕ) → Begins v w core epoch → Begins (relabelled place shape v) (relabelled place shape w) core epoch
  begins-at v w core epoch b = record {
    shape = refl;
    cached = b.cached;
    committed = λ a. b.committed (place a);
    attempt = b.attempt;
    own = λ a. b.own (place a);
    guarded = λ a. b.guarded (place a);
    sees = λ a. b.sees (place a);
    others = λ k away. core-at v w k (b.others k away);
  }

  pub ends-at : (v w : StoreView) (core : ℕ) → Ends v w core → Ends (relabelled place shape v) (relabelled place shape w) core
  ends-at v w core e = record {
    shape = refl;
    cached = e.cached;
    committed = λ a. e.committed (place a);
    attempt = e.attempt;
    clear = clear-at w core e.clear;
    others = λ k away. core-at v w k (e.others k away);
  }

-- ---- the rule

module _ (place : ℕ → ℕ) (shape : Shape) (v : StoreView) (h : IsRelabelling place shape v.shape) where
  pub settled-at : IsSettled v → IsSettled (relabelled place shape v)
  settled-at s = record {
    there = λ k x is. subst (λ n. k < n) h.cores (s.there k x is);
    apart = s.apart;
    straight_first = s.straight_first;
    idle = λ k none. clear-at place shape v k (s.idle k none);
    straight = λ k x is straight. clear-at place shape v k (s.straight k x is straight);
    whole_lines = λ cached k a b same. s.whole_lines cached k (place a) (place b) (h.line a ∙ (same ∙ sym (h.line b)));
  }

module _ (place : ℕ → ℕ) (shape : Shape) (v w : StoreView) (h : IsRelabelling place shape v.shape) (bytes : OwnsBytes place v) where
  abbrev old : StoreView
  old = relabelled place shape v

  abbrev new : StoreView
  new = relabelled place shape w

  pub publishes-at : (core : ℕ) (hurt : ℕ → Bool) → Publishes v w core hurt → Publishes old new core hurt
  publishes-at core hurt p = record {
    shape = refl;
    cached = p.cached;
    others = hurts-at place shape v w core hurt p.others;
    committed = λ a. p.committed (place a);
    attempt = p.attempt;
    meets = λ k is. guards-own place shape v h bytes k core (p.meets k is);
    tells = λ k away g. p.tells k away (guards-at place shape v h bytes k (v.own core) g);
  }

  module _ (core address width : ℕ) (access : IsLoad shape address width) where
    pub loads-at : (value : ℕ) (hurt : ℕ → Bool) → Loads v w core (place address) width value hurt → Loads old new core address width value hurt
    loads-at value hurt l = record {
      shape = refl;
      cached = l.cached;
      others = hurts-at place shape v w core hurt l.others;
      committed = λ a. l.committed (place a);
      value_is = l.value_is ∙ number-at_place place shape v.shape h address width access (v.sees core);
      small = l.small;
      attempt = l.attempt;
      own = λ a. l.own (place a);
      sees = λ a. l.sees (place a);
      guards = λ a is. l.guards (place a) (accessed-there place shape v.shape h address width access a is);
      guards_still = λ a. l.guards_still (place a);
      guards_only = λ a is was. takes-at place shape v h bytes address width access core a (l.guards_only (place a) is was);
      crowded = λ k is. crowded-at place shape v h bytes k address (l.crowded k is);
    }

    meets-at : (k : ℕ) → Guards v k (is_accessed (place address) width) ⊎ IsCrowded v k (place address)
        → Guards old k (is_accessed address width) ⊎ IsCrowded old k address
    meets-at k (inl g) = inl (guards-accessed place shape v h bytes address width access k g)
    meets-at k (inr c) = inr (crowded-at place shape v h bytes k address c)

    pub stores-at : (value : ℕ) (hurt : ℕ → Bool) → Stores v w core (place address) width value hurt → Stores old new core address width value hurt
    stores-at value hurt s = record {
      shape = refl;
      cached = s.cached;
      others = hurts-at place shape v w core hurt s.others;
      committed = λ a. s.committed (place a);
      attempt = s.attempt;
      sees = λ a. s.sees (place a) ∙ over-at_place place shape v.shape h address width access value (v.sees core) a;
      own = λ a. s.own (place a) ∙ ap (λ b. v.own core (place a) || b) (accessed-at place shape v.shape h address width access a);
      guarded = λ a. s.guarded (place a);
      meets = λ k is. meets-at k (s.meets k is);
      eager = s.eager;
      told = λ o. s.told (subst (λ line. OwnsIn v core line) (sym (h.line address)) (line-own place shape v h bytes core (line_of shape address) o));
      tells = λ cached none k away later g. s.tells cached (none_owned none) k away later (accessed-guards place shape v h bytes address width access k g);
    }
      where
        none_owned : ((a : ℕ) → line_of shape a ≡ line_of shape address → v.own core (place a) ≡ false)
            → (p : ℕ) → line_of v.shape p ≡ line_of v.shape (place address) → v.own core p ≡ false
        none_owned none p same = pick (v.own core p) refl
          where
            pick : (b : Bool) → v.own core p ≡ b → v.own core p ≡ false
            pick false e = e
            pick true e =
                let found = owned-found place shape v h bytes core p e in
                absurd (true≢false (sym e ∙ (ap (v.own core) (sym found.1)
                ∙ none found.0 (sym (h.line found.0) ∙ (ap (line_of v.shape) found.1 ∙ (same ∙ h.line address))))))

    pub loads_straight-at : (value : ℕ) (hurt : ℕ → Bool) → LoadsStraight v w core (place address) width value hurt → LoadsStraight old new core address width value hurt
    loads_straight-at value hurt l = record {
      shape = refl;
      cached = l.cached;
      others = hurts-at place shape v w core hurt l.others;
      committed = λ a. l.committed (place a);
      value_is = l.value_is ∙ number-at_place place shape v.shape h address width access v.committed;
      small = l.small;
      attempt = l.attempt;
      crowded = λ k is. crowded-at place shape v h bytes k address (l.crowded k is);
    }

    pub stores_straight-at : (value : ℕ) (hurt : ℕ → Bool) → StoresStraight v w core (place address) width value hurt → StoresStraight old new core address width value hurt
    stores_straight-at value hurt s = record {
      shape = refl;
      cached = s.cached;
      others = hurts-at place shape v w core hurt s.others;
      committed = λ a. s.committed (place a) ∙ over-at_place place shape v.shape h address width access value v.committed a;
      attempt = s.attempt;
      meets = λ k is. meets-at k (s.meets k is);
      tells = λ k away g. s.tells k away (accessed-guards place shape v h bytes address width access k g);
    }

-- ---- what cores own

-- a core that ends owns nothing, and one that is spared what it owned
owns-hurt : (place : ℕ → ℕ) (v w : StoreView) (core : ℕ) (hurt : ℕ → Bool) → OwnsBytes place v → IsSettled w → HurtsLater v w core hurt
    → ((p : ℕ) → ((a : ℕ) → place a ≡ p → ⊥) → w.own core p ≡ false) → OwnsBytes place w
owns-hurt place v w core hurt bytes settled o mine = record { none = λ k p none. by k p none (k == core) refl (hurt k) refl }
  where
    by : (k p : ℕ) → ((a : ℕ) → place a ≡ p → ⊥) → (b : Bool) → (k == core) ≡ b → (c : Bool) → hurt k ≡ c → w.own k p ≡ false
    by k p none true e c f = let same : k ≡ core = grind (arith, nat_tests) in subst (λ j. w.own j p ≡ false) (sym same) (mine p none)
    by k p none false e true f = (settled.idle k (o.hurts k f).none).own p
    by k p none false e false f = let away : k ≢ core = grind (arith, nat_tests) in (o.spares k away f).own p ∙ bytes.none k p none

others-own : (place : ℕ → ℕ) (v w : StoreView) (core : ℕ) → OwnsBytes place v → ((k : ℕ) → k ≢ core → IsSameCore v w k)
    → ((p : ℕ) → ((a : ℕ) → place a ≡ p → ⊥) → w.own core p ≡ false) → OwnsBytes place w
others-own place v w core bytes others mine = record { none = λ k p none. by k p none (k == core) refl }
  where
    by : (k p : ℕ) → ((a : ℕ) → place a ≡ p → ⊥) → (b : Bool) → (k == core) ≡ b → w.own k p ≡ false
    by k p none true e = let same : k ≡ core = grind (arith, nat_tests) in subst (λ j. w.own j p ≡ false) (sym same) (mine p none)
    by k p none false e = let away : k ≢ core = grind (arith, nat_tests) in (others k away).own p ∙ bytes.none k p none

pub owns-begun : (place : ℕ → ℕ) (v w : StoreView) (core epoch : ℕ) → OwnsBytes place v → Begins v w core epoch → OwnsBytes place w
owns-begun place v w core epoch bytes b = others-own place v w core bytes b.others (λ p none. b.own p ∙ bytes.none core p none)

pub owns-ended : (place : ℕ → ℕ) (v w : StoreView) (core : ℕ) → OwnsBytes place v → Ends v w core → OwnsBytes place w
owns-ended place v w core bytes e = others-own place v w core bytes e.others (λ p none. e.clear.own p)

pub owns-loaded : (place : ℕ → ℕ) (v w : StoreView) (core address width value : ℕ) (hurt : ℕ → Bool) → OwnsBytes place v → IsSettled w
    → Loads v w core address width value hurt → OwnsBytes place w
owns-loaded place v w core address width value hurt bytes settled l =
    owns-hurt place v w core hurt bytes settled l.others (λ p none. l.own p ∙ bytes.none core p none)

pub owns-stored : (place : ℕ → ℕ) (shape : Shape) (v w : StoreView) (core address width value : ℕ) (hurt : ℕ → Bool) → IsRelabelling place shape v.shape
    → IsLoad shape address width → OwnsBytes place v → IsSettled w → Stores v w core (place address) width value hurt → OwnsBytes place w
owns-stored place shape v w core address width value hurt h access bytes settled s =
    owns-hurt place v w core hurt bytes settled s.others (λ p none. s.own p ∙ ap (λ b. b || is_accessed (place address) width p) (bytes.none core p none) ∙ out p none)
  where
    out : (p : ℕ) → ((a : ℕ) → place a ≡ p → ⊥) → is_accessed (place address) width p ≡ false
    out p none = pick (is_accessed (place address) width p) refl
      where
        pick : (b : Bool) → is_accessed (place address) width p ≡ b → b ≡ false
        pick false e = refl
        pick true e = let found = accessed-found place shape v.shape h address width access p e in absurd (none found.0 found.1)

-- a straight attempt owns nothing
straight-owns : (w : StoreView) (core epoch : ℕ) → IsSettled w → w.attempt core ≡ Some (attempt_of epoch true) → (p : ℕ) → w.own core p ≡ false
straight-owns w core epoch settled is p = (settled.straight core (attempt_of epoch true) is refl).own p

pub owns-published : (place : ℕ → ℕ) (v w : StoreView) (core : ℕ) (hurt : ℕ → Bool) → OwnsBytes place v → IsSettled w → Publishes v w core hurt → OwnsBytes place w
owns-published place v w core hurt bytes settled l =
    owns-hurt place v w core hurt bytes settled l.others (λ p none. straight-owns w core (epoch_of (v.attempt core)) settled l.attempt p)

pub owns-loaded_straight : (place : ℕ → ℕ) (v w : StoreView) (core address width value : ℕ) (hurt : ℕ → Bool) → OwnsBytes place v → IsSettled w → Runs v core true
    → LoadsStraight v w core address width value hurt → OwnsBytes place w
owns-loaded_straight place v w core address width value hurt bytes settled runs l =
    owns-hurt place v w core hurt bytes settled l.others (λ p none. straight-owns w core runs.epoch settled (l.attempt ∙ runs.is) p)

pub owns-stored_straight : (place : ℕ → ℕ) (v w : StoreView) (core address width value : ℕ) (hurt : ℕ → Bool) → OwnsBytes place v → IsSettled w → Runs v core true
    → StoresStraight v w core address width value hurt → OwnsBytes place w
owns-stored_straight place v w core address width value hurt bytes settled runs l =
    owns-hurt place v w core hurt bytes settled l.others (λ p none. straight-owns w core runs.epoch settled (l.attempt ∙ runs.is) p)
