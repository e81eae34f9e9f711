-- Batches of entries: by the register and by the state they are the same, and they are shorter than there are cores.
use Rattle.std.proofs.Common.{◌≡◌, ◌≤◌, ◌<◌, ℕ, zero, suc, ◌+◌, Bool, true, false, cond, not, ◌==◌, ◌&&◌, List, [], ◌∷◌, ◌++◌, length, Option, Some, None, option_map, is_some, get_or, refl, sym, ap, subst, ◌∙◌, inl, inr, arith, append-nil, eq-eqb, ne_eqb, ◌≢◌, true≢false}
use Rattle.run_ledger.specs.declared.counts.Counts.{Counts}
use Rattle.homefree.specs.Steps.{Steps}
use Rattle.homefree.proofs.Fields.Steps.{steps_none, steps_then}
use Rattle.std.proofs.Math.Path.{fun_ext}
use Rattle.std.proofs.lemmas.Bool.{cases_eq}
use Rattle.std.proofs.lemmas.List.{length-append}
use Rattle.std.proofs.lemmas.Option.{get_or_from_slice_get, slice_get_read}
use Rattle.homefree.specs.declared.register.Running.{Running}
use Rattle.spec_history.specs.declared.entry.Entry.{Entry}
use Rattle.spec_history.specs.declared.entry.What.{What}
use Rattle.spec_history.specs.declared.entry.What.TheVariants.{Hurt, Cancel}
use Rattle.spec_history.specs.FlatState.{CoreState, FlatState}
use Rattle.spec_history.specs.Effect.{by_core}
use Rattle.homefree.specs.declared.register.Register.{Register}
use Rattle.homefree.specs.Hurts.{entry, entry_for_each, hurts, cancels, is_other, epoch_on}
use Rattle.homefree.specs.Kept.{Shows, running_at, kept_of}
use Rattle.homefree.specs.Noted.{epoch_kept, epoch_in, hurts_noted, other_kept, cancels_noted, cancel_noted}

pub epochs_same : (r : Register) (s : FlatState) → Shows r s → epoch_in r.running.items ≡ epoch_on s.cores
epochs_same r s shows = fun_ext (λ k. ap epoch_kept (shows.running k) ∙ by_it (s.cores k))
  where
    by_it : (o : Option CoreState) → epoch_kept (option_map kept_of o) ≡ by_core o 0 (λ c. c.epoch)
    by_it None = refl
    by_it (Some c) = refl

-- what the register notes of hurt cores are their entries
pub hurts_same : (r : Register) (s : FlatState) (by : ℕ) (hurt : ℕ → Bool) → Shows r s
    → hurts_noted by hurt r.running.items (length r.running.items) ≡ hurts (length r.running.items) s by hurt
hurts_same r s by hurt shows = ap (λ (e : ℕ → ℕ). entry_for_each by hurt (λ k. Hurt (e k)) (length r.running.items)) (epochs_same r s shows)

-- what the register notes of cancelled cores are their entries
pub cancels_same : (r : Register) (s : FlatState) (by : ℕ) → Shows r s → cancels_noted by r.running.items (length r.running.items) ≡ cancels (length r.running.items) s by
cancels_same r s by shows =
    let others : other_kept r.running.items by ≡ is_other s.cores by = fun_ext (λ k. ap (λ b. not (k == by) && b) (ap is_some (shows.running k) ∙ some_same (s.cores k))) in
    ap (λ (o : ℕ → Bool). entry_for_each by o (λ k. Cancel (epoch_in r.running.items k)) (length r.running.items)) others
    ∙ ap (λ (e : ℕ → ℕ). entry_for_each by (is_other s.cores by) (λ k. Cancel (e k)) (length r.running.items)) (epochs_same r s shows)
  where
    some_same : (o : Option CoreState) → is_some (option_map kept_of o) ≡ is_some o
    some_same None = refl
    some_same (Some c) = refl

one_short : (b : Bool) (x : Entry) (before : List Entry) (n : ℕ) → length before ≤ n → length (before ++ cond b (x ∷ []) []) ≤ suc n
one_short true x before n less = rw (length-append before (x ∷ [])) (omega (arith, less))
one_short false x before n less = rw (length-append before []) (omega (arith, less))

pub batch_most : (by : ℕ) (these : ℕ → Bool) (what : ℕ → What) (n : ℕ) → length (entry_for_each by these what n) ≤ n
batch_most by these what zero = omega arith
batch_most by these what (suc n) = one_short (these n) _ (entry_for_each by these what n) n (batch_most by these what n)

one_more_short : (b : Bool) (x : Entry) (before : List Entry) (n : ℕ) → suc (length before) ≤ n → suc (length (before ++ cond b (x ∷ []) [])) ≤ suc n
one_more_short true x before n less = rw (length-append before (x ∷ [])) (omega (arith, less))
one_more_short false x before n less = rw (length-append before []) (omega (arith, less))

none_here : (b : Bool) (x : Entry) (before : List Entry) (n : ℕ) → b ≡ false → length before ≤ n → suc (length (before ++ cond b (x ∷ []) [])) ≤ suc n
none_here true x before n is less = absurd cc
none_here false x before n is less = rw (length-append before []) (omega (arith, less))

-- where one core is not among them, there are fewer entries than cores
pub batch_fewer : (by : ℕ) (these : ℕ → Bool) (what : ℕ → What) (n j : ℕ) → these j ≡ false → j < n → suc (length (entry_for_each by these what n)) ≤ n
batch_fewer by these what zero j spared below = absurd (omega arith)
batch_fewer by these what (suc n) j spared below = elim (cases_eq j n) [
  | inl e ↦ none_here (these n) _ (entry_for_each by these what n) n (sym (ap these e) ∙ spared) (batch_most by these what n)
  | inr other ↦ one_more_short (these n) _ (entry_for_each by these what n) n (batch_fewer by these what n j spared (omega arith))
]

pair_most : (b c : Bool) (x y : Entry) (first later : List Entry) (n : ℕ) → (b ≡ true → c ≡ false) → length first + length later ≤ n
    → length (first ++ cond b (x ∷ []) []) + length (later ++ cond c (y ∷ []) []) ≤ suc n
pair_most true true x y first later n apart less = let clash = apart refl in absurd cc
pair_most true false x y first later n apart less = rw (length-append first (x ∷ []), length-append later []) (omega (arith, less))
pair_most false true x y first later n apart less = rw (length-append first [], length-append later (y ∷ [])) (omega (arith, less))
pair_most false false x y first later n apart less = rw (length-append first [], length-append later []) (omega (arith, less))

neither_here : (b c : Bool) (x y : Entry) (first later : List Entry) (n : ℕ) → b ≡ false → c ≡ false → length first + length later ≤ n
    → length (first ++ cond b (x ∷ []) []) + length (later ++ cond c (y ∷ []) []) ≤ n
neither_here true c x y first later n out absent less = absurd cc
neither_here false true x y first later n out absent less = absurd cc
neither_here false false x y first later n out absent less = rw (length-append first [], length-append later []) (omega (arith, less))

pair_fewer : (b c : Bool) (x y : Entry) (first later : List Entry) (n : ℕ) → (b ≡ true → c ≡ false) → length first + length later < n
    → length (first ++ cond b (x ∷ []) []) + length (later ++ cond c (y ∷ []) []) < suc n
pair_fewer b c x y first later n apart less =
    let grown = pair_most b c x y first later (length first + length later) apart (omega arith) in omega (arith, grown, less)

batches_most : (by : ℕ) (these those : ℕ → Bool) (what also : ℕ → What) (n : ℕ) → ((k : ℕ) → these k ≡ true → those k ≡ false)
    → length (entry_for_each by these what n) + length (entry_for_each by those also n) ≤ n
batches_most by these those what also zero apart = omega arith
batches_most by these those what also (suc n) apart =
    pair_most (these n) (those n) (record { by = by; what = what n }) (record { by = by; what = also n }) (entry_for_each by these what n) (entry_for_each by those also n) n (apart n) (batches_most by these those what also n apart)

-- where no core is in both of two batches, and one core in neither, they have fewer entries than there are cores
pub batches_fewer : (by : ℕ) (these those : ℕ → Bool) (what also : ℕ → What) (n j : ℕ) → ((k : ℕ) → these k ≡ true → those k ≡ false)
    → these j ≡ false → those j ≡ false → j < n → length (entry_for_each by these what n) + length (entry_for_each by those also n) < n
batches_fewer by these those what also zero j apart first later below = absurd (omega arith)
batches_fewer by these those what also (suc n) j apart first later below = elim (cases_eq j n) [
  | inl e ↦
      let most = neither_here (these n) (those n) (record { by = by; what = what n }) (record { by = by; what = also n }) (entry_for_each by these what n) (entry_for_each by those also n) n
      (sym (ap these e) ∙ first) (sym (ap those e) ∙ later) (batches_most by these those what also n apart) in
      omega (arith, most)
  | inr other ↦
      pair_fewer (these n) (those n) (record { by = by; what = what n }) (record { by = by; what = also n }) (entry_for_each by these what n) (entry_for_each by those also n) n (apart n)
      (batches_fewer by these those what also n j apart first later (omega (arith, below, other)))
]

-- what a read of the list gave
pub running_read : (running : List (Option Running)) (k : ℕ) (x : Option Running) → k < length running → x ≡ get_or running k x → running_at running k ≡ x
running_read running k x there is = get_or_from_slice_get running k x None (slice_get_read running (length running) k x refl there is)

pub apart_by : (test : ℕ → Bool) (j k : ℕ) → test j ≡ false → test k ≡ true → j ≢ k
apart_by test j k off on same = true≢false (sym on ∙ (ap test (sym same) ∙ off))

-- one core more, where it is hurt, and where it is not
pub one_hurt_more : (old mid new : Register) (shares : Counts) (by k : ℕ) (hurt : ℕ → Bool) → hurt k ≡ true → running_at mid.running.items k ≡ running_at old.running.items k
    → Steps old mid shares shares (hurts_noted by hurt old.running.items k) → Steps mid new shares shares (entry by (Hurt (epoch_in mid.running.items k)))
    → Steps old new shares shares (hurts_noted by hurt old.running.items (k + 1))
one_hurt_more old mid new shares by k hurt is same before one =
    let epoch : epoch_in mid.running.items k ≡ epoch_in old.running.items k = ap epoch_kept same in
    let noted = subst (λ n. Steps mid new shares shares (entry by (Hurt n))) epoch one in
    let next : k + 1 ≡ suc k = omega arith in
    rw next (rw is (steps_then old mid new shares shares shares (hurts_noted by hurt old.running.items k) (entry by (Hurt (epoch_in old.running.items k))) before noted))

pub no_hurt_more : (old mid : Register) (shares : Counts) (by k : ℕ) (hurt : ℕ → Bool) → hurt k ≡ false
    → Steps old mid shares shares (hurts_noted by hurt old.running.items k) → Steps old mid shares shares (hurts_noted by hurt old.running.items (k + 1))
no_hurt_more old mid shares by k hurt is before = let next : k + 1 ≡ suc k = omega arith in rw next (rw is (rw append-nil before))

-- ---- cancels

-- the entry of a core that runs an epoch, and of one that is idle
pub cancelled_here : (old new : Register) (shares : Counts) (by k : ℕ) (now : Running) → running_at old.running.items k ≡ Some now
    → Steps old new shares shares (entry by (Cancel now.epoch)) → Steps old new shares shares (cancel_noted by old.running.items k)
cancelled_here old new shares by k now at one =
    subst (λ (o : Option Running). Steps old new shares shares (cond (is_some o) (entry by (Cancel (epoch_kept o))) [])) (sym at) one

pub idle_here : (old : Register) (shares : Counts) (by k : ℕ) → running_at old.running.items k ≡ None → Steps old old shares shares (cancel_noted by old.running.items k)
idle_here old shares by k at =
    subst (λ (o : Option Running). Steps old old shares shares (cond (is_some o) (entry by (Cancel (epoch_kept o))) [])) (sym at) (steps_none old shares)

-- one core more
pub one_cancel_more : (old mid new : Register) (shares : Counts) (by k : ℕ) → k ≢ by → running_at mid.running.items k ≡ running_at old.running.items k
    → Steps old mid shares shares (cancels_noted by old.running.items k) → Steps mid new shares shares (cancel_noted by mid.running.items k)
    → Steps old new shares shares (cancels_noted by old.running.items (k + 1))
one_cancel_more old mid new shares by k other same before one =
    let noted = subst (λ (o : Option Running). Steps mid new shares shares (cond (is_some o) (entry by (Cancel (epoch_kept o))) [])) same one in
    let next : k + 1 ≡ suc k = omega arith in
    rw next (rw (ne_eqb k by other) (steps_then old mid new shares shares shares (cancels_noted by old.running.items k) (cancel_noted by old.running.items k) before noted))

pub no_cancel_more : (old mid : Register) (shares : Counts) (by k : ℕ) → k ≡ by
    → Steps old mid shares shares (cancels_noted by old.running.items k) → Steps old mid shares shares (cancels_noted by old.running.items (k + 1))
no_cancel_more old mid shares by k is before = let next : k + 1 ≡ suc k = omega arith in rw next (rw (eq-eqb k by is) (rw append-nil before))
