-- From plain stores that hold the same, the same call leads to two that hold the same.
use Rattle.std.proofs.Common.{◌≡◌, ◌≢◌, ℕ, ◌||◌, ◌&&◌, not, Bool, true, false, Option, Some, None, refl, sym, ap, subst, ◌∙◌, inl, inr, true≢false}
use Rattle.std.proofs.lemmas.Bool.{cases_eq}
use Rattle.memory_bytes.specs.Maps.{over, stored}
use Rattle.memory_bytes.proofs.SmallFacts.{apart_by_test}
use Rattle.rv32_image.specs.Image.{LoadedImage}
use Rattle.violations.specs.View.{StoreView, never_waits, attempt_of, epoch_of, IsClear, IsSettled, Runs, is_accessed}
use Rattle.violations.specs.Rule.{IsSameCore, IsSameView, IsSpared, HurtsLater, Guards, Begins, Ends}
use Rattle.violations.specs.Calls.{Call, Reserve, Begin, Load, Store, Publish, StraightLoad, StraightStore, Leave, Cancel, IsFixed, FixWaits, RoomsJoin}
use Rattle.violations.specs.Plain.{PlainView, store_view, ViolatesReaders, MakesLoad, MakesStore, MakesPublish, MakesStraightLoad, MakesStraightStore, made_of, Makes, AreAlike, Starts}

-- ---- one core of both, after a call of each

-- the call left it as it was
same_of : (v w v' w' : StoreView) (k : ℕ) → IsSameCore v w k → IsSameCore v' w' k → IsSameCore v v' k → IsSameCore w w' k
same_of v w v' w' k one other both = record {
  attempt = other.attempt ∙ (both.attempt ∙ sym one.attempt);
  own = λ a. other.own a ∙ (both.own a ∙ sym (one.own a));
  guarded = λ a. other.guarded a ∙ (both.guarded a ∙ sym (one.guarded a));
  sees = λ a. other.sees a ∙ (both.sees a ∙ sym (one.sees a));
}

spared_of : (v w v' w' : StoreView) (k : ℕ) → IsSpared v w k → IsSpared v' w' k → IsSameCore v v' k → ((a : ℕ) → w'.committed a ≡ w.committed a) → IsSameCore w w' k
spared_of v w v' w' k one other both committed = record {
  attempt = other.attempt ∙ (both.attempt ∙ sym one.attempt);
  own = λ a. other.own a ∙ (both.own a ∙ sym (one.own a));
  guarded = λ a. other.guarded a ∙ (both.guarded a ∙ sym (one.guarded a));
  sees = λ a. seen a (v.own k a) refl;
}
  where
    seen : (a : ℕ) (b : Bool) → v.own k a ≡ b → w'.sees k a ≡ w.sees k a
    seen a true e = other.sees_own a (both.own a ∙ e) ∙ (both.sees a ∙ sym (one.sees_own a e))
    seen a false e = other.sees_rest a (both.own a ∙ e) ∙ (committed a ∙ sym (one.sees_rest a e))

-- it keeps nothing in both
clear_of : (w w' : StoreView) (k : ℕ) → w'.attempt k ≡ w.attempt k → IsClear w k → IsClear w' k → ((a : ℕ) → w'.committed a ≡ w.committed a) → IsSameCore w w' k
clear_of w w' k attempt one other committed = record {
  attempt = attempt;
  own = λ a. other.own a ∙ sym (one.own a);
  guarded = λ a. other.guarded a ∙ sym (one.guarded a);
  sees = λ a. other.sees a ∙ (committed a ∙ sym (one.sees a));
}

-- another core than the caller, violated by both calls or by neither
other_of : (v w v' w' : StoreView) (by : ℕ) (hurt hurt' : ℕ → Bool) → IsSettled w → IsSettled w' → HurtsLater v w by hurt → HurtsLater v' w' by hurt'
    → ((k : ℕ) → hurt' k ≡ hurt k) → IsSameView v v' → ((a : ℕ) → w'.committed a ≡ w.committed a) → (k : ℕ) → k ≢ by → IsSameCore w w' k
other_of v w v' w' by hurt hurt' settled settled' hurts hurts' agree same committed k other = pick (hurt k) refl
  where
    pick : (b : Bool) → hurt k ≡ b → IsSameCore w w' k
    pick true e =
        let one = hurts.hurts k e in
        let two = hurts'.hurts k (agree k ∙ e) in
        clear_of w w' k (two.none ∙ sym one.none) (settled.idle k one.none) (settled'.idle k two.none) committed
    pick false e = spared_of v w v' w' k (hurts.spares k other e) (hurts'.spares k other (agree k ∙ e)) (same.cores k) committed

-- the caller, and the others
each_core : (w w' : StoreView) (by : ℕ) → IsSameCore w w' by → ((k : ℕ) → k ≢ by → IsSameCore w w' k) → (k : ℕ) → IsSameCore w w' k
each_core w w' by own others k = elim (cases_eq k by) [
  | inl e ↦ subst (IsSameCore w w') (sym e) own
  | inr other ↦ others k other
]

-- both violate the same cores, where each violates just those that pass its test, and the tests agree
agree_by : (hurt hurt' : ℕ → Bool) (k : ℕ) → (hurt k ≡ true → hurt' k ≡ true) → (hurt' k ≡ true → hurt k ≡ true) → hurt' k ≡ hurt k
agree_by hurt hurt' k to from = pick (hurt k) (hurt' k) refl refl
  where
    pick : (b c : Bool) → hurt k ≡ b → hurt' k ≡ c → hurt' k ≡ hurt k
    pick true c e f = to e ∙ sym e
    pick false true e f = absurd (true≢false (sym (from f) ∙ e))
    pick false false e f = f ∙ sym e

guards_same : (v v' : StoreView) (k : ℕ) (bytes bytes' : ℕ → Bool) → IsSameCore v v' k → ((a : ℕ) → bytes' a ≡ bytes a) → Guards v k bytes → Guards v' k bytes'
guards_same v v' k bytes bytes' same alike guards = record {
  at = guards.at;
  is_one = alike guards.at ∙ guards.is_one;
  guarded = same.guarded guards.at ∙ guards.guarded;
}

same_back : (v v' : StoreView) (k : ℕ) → IsSameCore v v' k → IsSameCore v' v k
same_back v v' k same = record { attempt = sym same.attempt; own = λ a. sym (same.own a); guarded = λ a. sym (same.guarded a); sees = λ a. sym (same.sees a) }

-- ---- calls

-- two settled views after a call of a core, which were seen the same before it
record Pair (v w v' w' : StoreView) : Type 0 where
  settled : IsSettled w
  settled' : IsSettled w'
  same : IsSameView v v'
  cached : w'.cached ≡ w.cached

begins_same : (v w v' w' : StoreView) (by epoch : ℕ) → Pair v w v' w' → Begins v w by epoch → Begins v' w' by epoch → IsSameView w w'
begins_same v w v' w' by epoch p one other = record {
  shape = other.shape ∙ (p.same.shape ∙ sym one.shape);
  cached = p.cached;
  committed = λ a. other.committed a ∙ (p.same.committed a ∙ sym (one.committed a));
  cores = each_core w w' by
      (let both = p.same.cores by in record {
        attempt = other.attempt ∙ sym one.attempt;
        own = λ a. other.own a ∙ (both.own a ∙ sym (one.own a));
        guarded = λ a. other.guarded a ∙ (both.guarded a ∙ sym (one.guarded a));
        sees = λ a. other.sees a ∙ (both.sees a ∙ sym (one.sees a));
      })
      (λ k is. same_of v w v' w' k (one.others k is) (other.others k is) (p.same.cores k));
}

ends_same : (v w v' w' : StoreView) (by : ℕ) → Pair v w v' w' → Ends v w by → Ends v' w' by → IsSameView w w'
ends_same v w v' w' by p one other =
    let committed : (a : ℕ) → w'.committed a ≡ w.committed a = λ a. other.committed a ∙ (p.same.committed a ∙ sym (one.committed a)) in record {
      shape = other.shape ∙ (p.same.shape ∙ sym one.shape);
      cached = p.cached;
      committed = committed;
      cores = each_core w w' by (clear_of w w' by (other.attempt ∙ sym one.attempt) one.clear other.clear committed)
          (λ k is. same_of v w v' w' k (one.others k is) (other.others k is) (p.same.cores k));
    }

none_agree : (hurt hurt' : ℕ → Bool) → ((k : ℕ) → hurt k ≡ false) → ((k : ℕ) → hurt' k ≡ false) → (k : ℕ) → hurt' k ≡ hurt k
none_agree hurt hurt' none none' k = none' k ∙ sym (none k)

loads_same : (v w v' w' : StoreView) (by address width : ℕ) → Pair v w v' w' → MakesLoad v w by address width → MakesLoad v' w' by address width → IsSameView w w'
loads_same v w v' w' by address width p one other =
    let both = p.same.cores by in
    let committed : (a : ℕ) → w'.committed a ≡ w.committed a = λ a. other.loads.committed a ∙ (p.same.committed a ∙ sym (one.loads.committed a)) in record {
      shape = other.loads.shape ∙ (p.same.shape ∙ sym one.loads.shape);
      cached = p.cached;
      committed = committed;
      cores = each_core w w' by
          (record {
            attempt = other.loads.attempt ∙ (both.attempt ∙ sym one.loads.attempt);
            own = λ a. other.loads.own a ∙ (both.own a ∙ sym (one.loads.own a));
            guarded = λ a. other.guards.guarded a ∙ ((λ i. both.guarded a i || (is_accessed address width a && not (both.own a i))) ∙ sym (one.guards.guarded a));
            sees = λ a. other.loads.sees a ∙ (both.sees a ∙ sym (one.loads.sees a));
          })
          (other_of v w v' w' by one.hurt other.hurt p.settled p.settled' one.loads.others other.loads.others (none_agree one.hurt other.hurt one.nobody other.nobody) p.same committed);
    }

over_same : (m : ℕ → Option ℕ) (f g : ℕ → ℕ) (a : ℕ) → g a ≡ f a → over m g a ≡ over m f a
over_same m f g a e = elim_at (m a)
  where
    elim_at : (o : Option ℕ) → over (λ b. o) g a ≡ over (λ b. o) f a
    elim_at None = e
    elim_at (Some byte) = refl

stores_same : (v w v' w' : StoreView) (by address width value : ℕ) → Pair v w v' w' → MakesStore v w by address width value → MakesStore v' w' by address width value → IsSameView w w'
stores_same v w v' w' by address width value p one other =
    let both = p.same.cores by in
    let committed : (a : ℕ) → w'.committed a ≡ w.committed a = λ a. other.stores.committed a ∙ (p.same.committed a ∙ sym (one.stores.committed a)) in record {
      shape = other.stores.shape ∙ (p.same.shape ∙ sym one.stores.shape);
      cached = p.cached;
      committed = committed;
      cores = each_core w w' by
          (record {
            attempt = other.stores.attempt ∙ (both.attempt ∙ sym one.stores.attempt);
            own = λ a. other.stores.own a ∙ (ap (λ b. b || is_accessed address width a) (both.own a) ∙ sym (one.stores.own a));
            guarded = λ a. other.stores.guarded a ∙ (both.guarded a ∙ sym (one.stores.guarded a));
            sees = λ a. other.stores.sees a ∙ (over_same (stored address width value) (v.sees by) (v'.sees by) a (both.sees a) ∙ sym (one.stores.sees a));
          })
          (other_of v w v' w' by one.hurt other.hurt p.settled p.settled' one.stores.others other.stores.others (none_agree one.hurt other.hurt one.nobody other.nobody) p.same committed);
    }

publishes_same : (v w v' w' : StoreView) (by : ℕ) → Pair v w v' w' → MakesPublish v w by → MakesPublish v' w' by → IsSameView w w'
publishes_same v w v' w' by p one other =
    let both = p.same.cores by in
    let x = one.publishes in
    let y = other.publishes in
    let attempt : w'.attempt by ≡ w.attempt by = y.attempt ∙ (ap (λ t. Some (attempt_of (epoch_of t) true)) both.attempt ∙ sym x.attempt) in
    let committed : (a : ℕ) → w'.committed a ≡ w.committed a = λ a. y.committed a ∙ (both.sees a ∙ sym (x.committed a)) in
    let agree : (k : ℕ) → other.hurt k ≡ one.hurt k =
    λ k. agree_by one.hurt other.hurt k
    (λ e. y.tells k (apart_by_test one.hurt by k x.others.not_itself e) (guards_same v v' k (v.own by) (v'.own by) (p.same.cores k) both.own (x.meets k e)))
    (λ e. x.tells k (apart_by_test other.hurt by k y.others.not_itself e) (guards_same v' v k (v'.own by) (v.own by) (same_back v v' k (p.same.cores k)) (λ a. sym (both.own a)) (y.meets k e))) in record {
      shape = y.shape ∙ (p.same.shape ∙ sym x.shape);
      cached = p.cached;
      committed = committed;
      cores = each_core w w' by
          (clear_of w w' by attempt (p.settled.straight by (attempt_of (epoch_of (v.attempt by)) true) x.attempt refl)
          (p.settled'.straight by (attempt_of (epoch_of (v'.attempt by)) true) y.attempt refl) committed)
          (other_of v w v' w' by one.hurt other.hurt p.settled p.settled' x.others y.others agree p.same committed);
    }

-- the caller is straight before and after
straight_same : (v w v' w' : StoreView) (by : ℕ) → Pair v w v' w' → Runs v by true → w.attempt by ≡ v.attempt by → w'.attempt by ≡ v'.attempt by → ((a : ℕ) → w'.committed a ≡ w.committed a) → IsSameCore w w' by
straight_same v w v' w' by p runs one other committed =
    let both = p.same.cores by in
    let at : w.attempt by ≡ Some (attempt_of runs.epoch true) = one ∙ runs.is in
    let at' : w'.attempt by ≡ Some (attempt_of runs.epoch true) = other ∙ (both.attempt ∙ runs.is) in
    clear_of w w' by (at' ∙ sym at) (p.settled.straight by (attempt_of runs.epoch true) at refl) (p.settled'.straight by (attempt_of runs.epoch true) at' refl) committed

loads_straight_same : (v w v' w' : StoreView) (by address width : ℕ) → Pair v w v' w' → MakesStraightLoad v w by address width → MakesStraightLoad v' w' by address width → IsSameView w w'
loads_straight_same v w v' w' by address width p one other =
    let committed : (a : ℕ) → w'.committed a ≡ w.committed a = λ a. other.loads.committed a ∙ (p.same.committed a ∙ sym (one.loads.committed a)) in record {
      shape = other.loads.shape ∙ (p.same.shape ∙ sym one.loads.shape);
      cached = p.cached;
      committed = committed;
      cores = each_core w w' by (straight_same v w v' w' by p one.runs one.loads.attempt other.loads.attempt committed)
          (other_of v w v' w' by one.hurt other.hurt p.settled p.settled' one.loads.others other.loads.others (none_agree one.hurt other.hurt one.nobody other.nobody) p.same committed);
    }

stores_straight_same : (v w v' w' : StoreView) (by address width value : ℕ) → Pair v w v' w' → MakesStraightStore v w by address width value → MakesStraightStore v' w' by address width value → IsSameView w w'
stores_straight_same v w v' w' by address width value p one other =
    let committed : (a : ℕ) → w'.committed a ≡ w.committed a =
    λ a. other.stores.committed a ∙ (over_same (stored address width value) v.committed v'.committed a (p.same.committed a) ∙ sym (one.stores.committed a)) in
    let agree : (k : ℕ) → other.hurt k ≡ one.hurt k =
    λ k. agree_by one.hurt other.hurt k (met v v' one.hurt other.hurt one.violates other.violates k (p.same.cores k))
    (met v' v other.hurt one.hurt other.violates one.violates k (same_back v v' k (p.same.cores k))) in record {
      shape = other.stores.shape ∙ (p.same.shape ∙ sym one.stores.shape);
      cached = p.cached;
      committed = committed;
      cores = each_core w w' by (straight_same v w v' w' by p one.runs one.stores.attempt other.stores.attempt committed)
          (other_of v w v' w' by one.hurt other.hurt p.settled p.settled' one.stores.others other.stores.others agree p.same committed);
    }
  where
    met : (u u' : StoreView) (hurt hurt' : ℕ → Bool) → ViolatesReaders by (is_accessed address width) hurt u → ViolatesReaders by (is_accessed address width) hurt' u'
        → (k : ℕ) → IsSameCore u u' k → hurt k ≡ true → hurt' k ≡ true
    met u u' hurt hurt' x y k same e =
        let found = x.guard k e in
        y.all k found.0 (λ is. true≢false (sym e ∙ (ap hurt is ∙ x.others))) found.1 (same.guarded found.0 ∙ found.2)

-- ---- the law

pub fixed : IsFixed Makes AreAlike
fixed p q p' q' call alike one other =
    record { one = one.after; other = other.after; same = by_call call one.made other.made }
  where
    pair : Pair (store_view p) (store_view q) (store_view p') (store_view q')
    pair = record { settled = one.after; settled' = other.after; same = alike.same; cached = refl }

    by_call : (c : Call) → made_of c (store_view p) (store_view q) → made_of c (store_view p') (store_view q') → IsSameView (store_view q) (store_view q')
    by_call Reserve x y = record {
      shape = y.shape ∙ (alike.same.shape ∙ sym x.shape);
      cached = refl;
      committed = λ a. y.committed a ∙ (alike.same.committed a ∙ sym (x.committed a));
      cores = λ k. same_of (store_view p) (store_view q) (store_view p') (store_view q') k (x.cores k) (y.cores k) (alike.same.cores k);
    }
    by_call (Begin core epoch) x y = begins_same (store_view p) (store_view q) (store_view p') (store_view q') core epoch pair x y
    by_call (Load core address width) x y = loads_same (store_view p) (store_view q) (store_view p') (store_view q') core address width pair x y
    by_call (Store core address width value) x y = stores_same (store_view p) (store_view q) (store_view p') (store_view q') core address width value pair x y
    by_call (Publish core) x y = publishes_same (store_view p) (store_view q) (store_view p') (store_view q') core pair x y
    by_call (StraightLoad core address width) x y = loads_straight_same (store_view p) (store_view q) (store_view p') (store_view q') core address width pair x y
    by_call (StraightStore core address width value) x y = stores_straight_same (store_view p) (store_view q) (store_view p') (store_view q') core address width value pair x y
    by_call (Leave core) x y = ends_same (store_view p) (store_view q) (store_view p') (store_view q') core pair x y
    by_call (Cancel core) x y = ends_same (store_view p) (store_view q) (store_view p') (store_view q') core pair x y

pub joined : RoomsJoin Makes
joined p q r one two = record {
  before = one.before;
  after = two.after;
  made = record {
    shape = two.made.shape ∙ one.made.shape;
    cached = refl;
    committed = λ a. two.made.committed a ∙ one.made.committed a;
    cores = λ k. record {
      attempt = (two.made.cores k).attempt ∙ (one.made.cores k).attempt;
      own = λ a. (two.made.cores k).own a ∙ (one.made.cores k).own a;
      guarded = λ a. (two.made.cores k).guarded a ∙ (one.made.cores k).guarded a;
      sees = λ a. (two.made.cores k).sees a ∙ (one.made.cores k).sees a;
    };
  };
}

-- ---- stores as they are made

pub started : (image : LoadedImage) (cores : ℕ) (p q : PlainView) → Starts image cores p → Starts image cores q → AreAlike p q
started image cores p q one other = record {
  one = one.settled;
  other = other.settled;
  same = record {
    shape = other.fresh.shape ∙ sym one.fresh.shape;
    cached = refl;
    committed = committed;
    cores = λ k. clear_of (store_view p) (store_view q) k (other.fresh.idle k ∙ sym (one.fresh.idle k)) (one.settled.idle k (one.fresh.idle k))
        (other.settled.idle k (other.fresh.idle k)) committed;
  };
}
  where
    committed : (a : ℕ) → (store_view q).committed a ≡ (store_view p).committed a
    committed a = other.fresh.committed a ∙ sym (one.fresh.committed a)

pub views : (p q : PlainView) → AreAlike p q → IsSameView (store_view p) (store_view q)
views p q alike = alike.same

pub waiting : FixWaits Makes AreAlike (λ _. never_waits)
waiting = record {
  load = λ p q p' q' core address width alike one other. refl;
  store = λ p q p' q' core address width value alike one other. refl;
}
