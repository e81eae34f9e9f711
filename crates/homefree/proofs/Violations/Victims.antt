-- The cores that a call violates, and those that it passes over: which they are in each state of a turn, and what is known of them.
use Rattle.std.proofs.Common.{◌≡◌, ◌≢◌, ◌⊎◌, ℕ, suc, ◌+◌, ◌*◌, ◌%◌, ◌<◌, ◌==◌, ◌||◌, Bool, true, false, is_some, List, [], ◌++◌, Option, Some, None, option_map, option_and_then, if◌then◌else◌, refl, sym, ap, subst, ◌∙◌, inl, inr, true≢false, arith}
use Rattle.std.proofs.lemmas.Bool.{cases_eq, cases_Bool, eq-eqb, and_parts}
use Rattle.std.proofs.lemmas.List.{append_assoc}
use Rattle.std.proofs.lemmas.Option.{same_Some}
use Rattle.rv32_image.specs.Image.{LoadedImage}
use Rattle.rv32_image.specs.Machine.{IsMachineFor}
use Rattle.rv32_image.proofs.SmallFacts.{one_value, none_and_some, value_of}
use Rattle.spec_history.specs.declared.entry.Entry.{Entry}
use Rattle.spec_history.specs.declared.entry.What.{What}
use Rattle.spec_history.specs.declared.entry.What.TheVariants.{Load, Store, Hurt, Publish}
use Rattle.spec_history.specs.Effect.{by_core, effect, hurt_at}
use Rattle.spec_history.specs.FlatState.{CoreState, FlatState}
use Rattle.spec_history.specs.Laws.{IsKept}
use Rattle.spec_history.proofs.OneEntry.Keeping.{with_core_other, with_core_same}
use Rattle.spec_history.proofs.Searches.Lines.{none_passes, passing_byte, same_line_below}
use Rattle.spec_history.proofs.Replay.Replays.{effect-on}
use Rattle.spec_history.specs.declared.kind.Kind.TheVariants.{Unexplained}
use Rattle.spec_history.specs.Conflict.{line_number, line_has, own_bytes, read_bytes, meeting, written, kind_of}
use Rattle.violations.specs.declared.attempt.Attempt.{Attempt}
use Rattle.violations.specs.View.{Shape, StoreView, IsSettled, epoch_of, is_accessed}
use Rattle.violations.specs.View as view
use Rattle.violations.specs.Rule.{Guards, OwnsIn, IsCrowded, IsHurt, HurtsLater, Stores, Publishes, StoresStraight, shape_of}
use Rattle.violations.proofs.Accesses.{stored_there}
use Rattle.homefree.specs.Agrees.{AgreesCore, AgreesAt, Agrees}
use Rattle.homefree.specs.Caused.{MeetsInBytes, commits_bytes}
use Rattle.homefree.specs.Hurts.{entry, entry_for_each, epoch_on}
use Rattle.homefree.specs.Missed.{IsMissed, IsFurtherStore}
use Rattle.homefree.specs.Turned.{publishes_unless}
use Rattle.homefree.proofs.Violations.Knowing.{next_what, IsExplained, PassedHere, AllKnown}
use Rattle.homefree.proofs.State.Others.{spared_core}
use Rattle.homefree.proofs.Violations.Sharing.{is_met, is_shared_byte, line_in, load_crowded, store_crowded}
use Rattle.homefree.proofs.Violations.Notices.{writes_none, Bytes, bytes_of, Keeps, hurt_keeps, after, was_there, IsNoLess, IsHurtIn, hurt_here, hurt_still, unhurt_was, hurt_effect, all_known}

-- ---- a core that a call violates

runs_by : (m : ℕ → ℕ) (v : StoreView) (k : ℕ) (core : Option CoreState) (x : Attempt) → AgreesAt m v k core → v.attempt k ≡ Some x
    → (d : CoreState) × (core ≡ Some d) × AgreesCore m v k d
runs_by m v k None x f has = absurd (none_and_some (v.attempt k) x (f.idle refl) has)
runs_by m v k (Some d) x f has = elim (cases_Bool d.hurt) [
  | inl is ↦ absurd (none_and_some (v.attempt k) x (f.hurt d refl is) has)
  | inr unhurt ↦ (d, refl, f.runs d refl unhurt)
]

epoch_is : (epoch other : ℕ) → Hurt epoch ≡ Hurt other → epoch ≡ other
epoch_is epoch other is = cc

-- a core that was there is there
record Is (now : Option CoreState) (c : CoreState) : Type 0 where
  pub core : CoreState
  pub at : now ≡ Some core
  pub bytes : bytes_of core ≡ bytes_of c

still_there : (now was : Option CoreState) (c : CoreState) → option_map bytes_of now ≡ option_map bytes_of was → was ≡ Some c → Is now c
still_there None was c same is = let none : None ≡ Some (bytes_of c) = same ∙ ap (option_map bytes_of) is in absurd cc
still_there (Some d) was c same is = record { core = d; at = refl; bytes = same_Some (bytes_of d) (bytes_of c) (same ∙ ap (option_map bytes_of) is) }

module _ (C : Type 0) (image : LoadedImage) (count : ℕ) (s : FlatState) (v : StoreView) (by : ℕ) (c : CoreState) (going : s.end ≡ None) (kept : IsKept image count s)
    (agrees : Agrees s v) (at : s.cores by ≡ Some c) (unhurt : c.hurt ≡ false) (fits : IsMachineFor image.size image.machine) (shape : v.shape ≡ shape_of image count)
    (settled : IsSettled v) (cached : C → v.cached ≡ true) where
  abbrev long : ℕ
  long = image.machine.line_length

  mine : AgreesCore s.committed v by c
  mine = (agrees.core going by).runs c at unhurt

  -- the core that is violated, as another view of the store has it
  pub record Victim (x : StoreView) (k : ℕ) : Type 0 where
    pub core : CoreState
    pub runs : s.cores k ≡ Some core
    pub memory : ℕ → ℕ
    pub keeps : AgreesCore memory x k core
    pub same_shape : x.shape ≡ shape_of image count
    pub same_kind : x.cached ≡ v.cached

  epoch_of_victim : (x : StoreView) (k : ℕ) (q : Victim x k) → epoch_on s.cores k ≡ q.core.epoch
  epoch_of_victim x k q = ap (λ o. by_core o 0 (λ y. y.epoch)) q.runs

  here : (w : StoreView) (k : ℕ) → IsHurt v w by k → Victim v k
  here w k hurt = let found = runs_by s.committed v k (s.cores k) hurt.attempt (agrees.core going k) hurt.had in record {
    core = found.0;
    runs = found.1;
    memory = s.committed;
    keeps = found.2;
    same_shape = shape;
    same_kind = refl;
  }

  read_within : (k : ℕ) (d : CoreState) → s.cores k ≡ Some d → (x : ℕ) → is_some (d.outside x) ≡ true → x < image.size
  read_within k d runs x is = let some = value_of (d.outside x) is in (kept.core k d runs).within x some.0 some.1

  -- ---- the states in a turn

  -- before the first act, where the cores below n have been told
  pub record First (hurt : ℕ → Bool) (n : ℕ) (t : FlatState) : Type 0 where
    pub keeps : (j : ℕ) → Keeps s t j
    pub no_less : (j : ℕ) → IsNoLess s t j
    pub told : (j : ℕ) → j < n → hurt j ≡ true → IsHurtIn t j

  first_now : (hurt : ℕ → Bool) → First hurt 0 s
  first_now hurt = record {
    keeps = λ j. refl;
    no_less = λ j d e was is free. ap (λ (y : CoreState). y.hurt) (one_value (s.cores j) d e was is) ∙ free;
    told = λ j none. absurd (omega (arith, none));
  }

  caller : (hurt : ℕ → Bool) (n : ℕ) (t : FlatState) → First hurt n t → Is (t.cores by) c
  caller hurt n t p = still_there (t.cores by) (s.cores by) c (p.keeps by) at

  epoch_there : (x : StoreView) (t : FlatState) (j : ℕ) → Victim x j → Keeps s t j → (d : CoreState) → t.cores j ≡ Some d → d.epoch ≡ epoch_on s.cores j
  epoch_there x t j q keeps d is =
      let was = was_there (t.cores j) (s.cores j) d is keeps in
      ap (λ (b : Bytes). b.epoch) was.bytes ∙ (ap (λ (y : CoreState). y.epoch) (one_value (s.cores j) was.core q.core was.at q.runs) ∙ sym (epoch_of_victim x j q))

  first_tells : (x : StoreView) (hurt : ℕ → Bool) → ((j : ℕ) → hurt j ≡ true → Victim x j) → (j : ℕ) (t : FlatState) → hurt j ≡ true → First hurt j t
      → First hurt (suc j) (effect image t (record { by = by; what = Hurt (epoch_on s.cores j) }))
  first_tells x hurt victim j t is p =
      let epoch = epoch_on s.cores j in
      let me = caller hurt j t p in
      subst (First hurt (suc j)) (sym (hurt_effect image t by epoch me.core me.at)) (record {
        keeps = λ i. hurt_keeps epoch (t.cores i) ∙ p.keeps i;
        no_less = λ i d e was now free. let w = unhurt_was epoch (t.cores i) e now free in p.no_less i d w.0 was w.1 w.2;
        told = λ i below it e now. elim (cases_eq i j) [
          | inl same ↦ hurt_here epoch (t.cores i) e now (λ d there. subst (λ n. (y : CoreState) → t.cores n ≡ Some y → y.epoch ≡ epoch) (sym same) (epoch_there x t j (victim j is) (p.keeps j)) d there)
          | inr other ↦ hurt_still epoch (t.cores i) e now (p.told i (omega (arith, below, other)) it)
        ];
      })

  first_skips : (hurt : ℕ → Bool) (j : ℕ) (t : FlatState) → hurt j ≡ false → First hurt j t → First hurt (suc j) t
  first_skips hurt j t isnt p = record {
    keeps = p.keeps;
    no_less = p.no_less;
    told = λ i below it. elim (cases_eq i j) [
      | inl same ↦ absurd (true≢false (sym it ∙ (ap hurt same ∙ isnt)))
      | inr other ↦ p.told i (omega (arith, below, other)) it
    ];
  }

  -- after the caller has published, and has violated these by that
  pub record Second (first hurt : ℕ → Bool) (n : ℕ) (t : FlatState) : Type 0 where
    pub others : (j : ℕ) → j ≢ by → Keeps s t j
    pub no_less : (j : ℕ) → j ≢ by → IsNoLess s t j
    pub core : CoreState
    pub runs : t.cores by ≡ Some core
    pub epoch : core.epoch ≡ c.epoch
    pub straight : core.straight ≡ true
    pub before : (j : ℕ) → first j ≡ true → IsHurtIn t j
    pub told : (j : ℕ) → j < n → hurt j ≡ true → IsHurtIn t j

  second_tells : (x : StoreView) (first hurt : ℕ → Bool) → ((j : ℕ) → hurt j ≡ true → Victim x j) → hurt by ≡ false → (j : ℕ) (t : FlatState) → hurt j ≡ true → Second first hurt j t
      → Second first hurt (suc j) (effect image t (record { by = by; what = Hurt (epoch_on s.cores j) }))
  second_tells x first hurt victim itself j t is p =
      let epoch = epoch_on s.cores j in
      let away : j ≢ by = λ me. true≢false (sym is ∙ (ap hurt me ∙ itself)) in
      subst (Second first hurt (suc j)) (sym (hurt_effect image t by epoch p.core p.runs)) (record {
        others = λ i other. hurt_keeps epoch (t.cores i) ∙ p.others i other;
        no_less = λ i other d e was now free. let w = unhurt_was epoch (t.cores i) e now free in p.no_less i other d w.0 was w.1 w.2;
        core = record p.core { hurt = p.core.hurt || (p.core.epoch == epoch) };
        runs = ap (hurt_at epoch) p.runs;
        epoch = p.epoch;
        straight = p.straight;
        before = λ i it e now. hurt_still epoch (t.cores i) e now (p.before i it);
        told = λ i below it e now. elim (cases_eq i j) [
          | inl same ↦ hurt_here epoch (t.cores i) e now (λ d there. subst (λ n. (y : CoreState) → t.cores n ≡ Some y → y.epoch ≡ epoch) (sym same) (epoch_there x t j (victim j is) (p.others j away)) d there)
          | inr other ↦ hurt_still epoch (t.cores i) e now (p.told i (omega (arith, below, other)) it)
        ];
      })

  second_skips : (first hurt : ℕ → Bool) (j : ℕ) (t : FlatState) → hurt j ≡ false → Second first hurt j t → Second first hurt (suc j) t
  second_skips first hurt j t isnt p = record {
    others = p.others;
    no_less = p.no_less;
    core = p.core;
    runs = p.runs;
    epoch = p.epoch;
    straight = p.straight;
    before = p.before;
    told = λ i below it. elim (cases_eq i j) [
      | inl same ↦ absurd (true≢false (sym it ∙ (ap hurt same ∙ isnt)))
      | inr other ↦ p.told i (omega (arith, below, other)) it
    ];
  }

  published : (first hurt : ℕ → Bool) (t : FlatState) → ((j : ℕ) → first j ≡ true → Victim v j) → first by ≡ false → First first count t
      → Second first hurt 0 (effect image t (record { by = by; what = Publish }))
  published first hurt t victim itself p =
      let me = caller first count t p in
      subst (Second first hurt 0) (sym (effect-on image t by Publish me.core me.at)) (record {
        others = λ j other. ap (option_map bytes_of) (with_core_other t.cores by (Some (after me.core)) j other) ∙ p.keeps j;
        no_less = λ j other d e was now free. p.no_less j d e was (sym (with_core_other t.cores by (Some (after me.core)) j other) ∙ now) free;
        core = after me.core;
        runs = with_core_same t.cores by (Some (after me.core));
        epoch = ap (λ (b : Bytes). b.epoch) me.bytes;
        straight = refl;
        before = λ j it e now.
            let q = victim j it in
            p.told j (kept.core j q.core q.runs).there it e (sym (with_core_other t.cores by (Some (after me.core)) j (λ same. true≢false (sym it ∙ (ap first same ∙ itself)))) ∙ now);
        told = λ j none. absurd (omega (arith, none));
      })

  straight_now : (first hurt : ℕ → Bool) → c.straight ≡ true → ((j : ℕ) → first j ≡ false) → Second first hurt 0 s
  straight_now first hurt is none = record {
    others = λ j other. refl;
    no_less = λ j other d e was now free. ap (λ (y : CoreState). y.hurt) (one_value (s.cores j) d e was now) ∙ free;
    core = c;
    runs = at;
    epoch = refl;
    straight = is;
    before = λ j it. absurd (true≢false (sym it ∙ none j));
    told = λ j nobody. absurd (omega (arith, nobody));
  }

  -- ---- which core it is

  -- the core is the victim, in a state of these
  pub record Found (t : FlatState) (j k : ℕ) (d : CoreState) : Type 0 where
    pub same : k ≡ j
    pub reads : (a : ℕ) → read_bytes (t.cores k) a ≡ d.outside a
    pub stores : (a : ℕ) → own_bytes (t.cores k) a ≡ d.own a

  found_by : (x : StoreView) (t : FlatState) (j k : ℕ) (e : CoreState) (q : Victim x j) → t.cores k ≡ Some e → e.epoch ≡ epoch_on s.cores j → Keeps s t k → Found t j k q.core
  found_by x t j k e q runs epoch keeps =
      let was = was_there (t.cores k) (s.cores k) e runs keeps in
      let same : k ≡ j = kept.apart k j was.core q.core was.at q.runs (sym (ap (λ (b : Bytes). b.epoch) was.bytes) ∙ (epoch ∙ epoch_of_victim x j q)) in
      let it : was.core ≡ q.core = one_value (s.cores k) was.core q.core was.at (ap s.cores same ∙ q.runs) in record {
        same = same;
        reads = λ a. ap (λ o. option_and_then (λ (y : CoreState). y.outside a) o) runs ∙ (ap (λ (b : Bytes). b.outside a) was.bytes ∙ ap (λ (y : CoreState). y.outside a) it);
        stores = λ a. ap (λ o. option_and_then (λ (y : CoreState). y.own a) o) runs ∙ (ap (λ (b : Bytes). b.own a) was.bytes ∙ ap (λ (y : CoreState). y.own a) it);
      }

  found_first : (hurt : ℕ → Bool) (x : StoreView) (t : FlatState) (j k : ℕ) (e : CoreState) (q : Victim x j) → First hurt j t → t.cores k ≡ Some e → epoch_on s.cores j ≡ e.epoch → Found t j k q.core
  found_first hurt x t j k e q p runs epoch = found_by x t j k e q runs (sym epoch) (p.keeps k)

  found_second : (first hurt : ℕ → Bool) (x : StoreView) (t : FlatState) (j k : ℕ) (e : CoreState) (q : Victim x j) → j ≢ by → Second first hurt j t → t.cores k ≡ Some e
      → epoch_on s.cores j ≡ e.epoch → Found t j k q.core
  found_second first hurt x t j k e q other p runs epoch = elim (cases_eq k by) [
    | inl is ↦
        (let me = one_value (t.cores by) e p.core (ap t.cores (sym is) ∙ runs) p.runs in
        absurd (other (kept.apart j by q.core c q.runs at (sym (epoch_of_victim x j q) ∙ (epoch ∙ (ap (λ (y : CoreState). y.epoch) me ∙ p.epoch))))))
    | inr away ↦ found_by x t j k e q runs (sym epoch) (p.others k away)
  ]

  -- ---- of what kind it is

  -- what is known of it
  abbrev Explained : FlatState → ℕ → What → Type 0
  Explained t k what = IsExplained (v.cached ≡ false) image t by k (Some what)

  guards_known : (x : StoreView) (t : FlatState) (j k : ℕ) (what : What) (bytes : ℕ → Bool) (q : Victim x j) → Found t j k q.core → Guards x j bytes
      → ((a : ℕ) → bytes a ≡ true → is_some (written (t.cores by) what a) ≡ true) → kind_of image t by k (Some what) ≢ Unexplained
  guards_known x t j k what bytes q f g writes =
      is_met image count x (meeting t by what k) what q.core g.at fits q.same_shape f.reads (read_within j q.core q.runs) (writes g.at g.is_one) (q.keeps.guards_only g.at g.guarded)

  -- without caches in a byte that is committed
  guards_meet : (x : StoreView) (t : FlatState) (j k : ℕ) (what : What) (bytes : ℕ → Bool) (q : Victim x j) → Found t j k q.core → Guards x j bytes
      → ((a : ℕ) → bytes a ≡ true → is_some (written (t.cores by) what a) ≡ true) → commits_bytes (t.cores by) what ≡ true → v.cached ≡ false → MeetsInBytes image t by k (Some what)
  guards_meet x t j k what bytes q f g writes commits alone = record {
    kind = is_shared_byte image x (meeting t by what k) what q.core g.at (q.same_kind ∙ alone) f.reads (read_within j q.core q.runs) (writes g.at g.is_one) (q.keeps.guards_only g.at g.guarded);
    commits = λ other same. subst (λ w. commits_bytes (t.cores by) w ≡ true) (same_Some what other same) commits;
  }

  never_crowded : (x : StoreView) (j address : ℕ) (q : Victim x j) → IsCrowded x j address → v.cached ≡ false → ⊥
  never_crowded x j address q crowded alone = true≢false (sym crowded.cached ∙ (q.same_kind ∙ alone))

  no_store : (what : What) → ((address width value : ℕ) → what ≢ Store address width value) → (t : FlatState) (other : What) → Some what ≡ Some other
      → IsFurtherStore image t (record { by = by; what = other }) → ⊥
  no_store what isnt t other same f = isnt f.address f.width f.value (same_Some what other same ∙ f.stores)

  pub loads_known : (x : StoreView) (t : FlatState) (j k address width value : ℕ) (q : Victim x j) → Found t j k q.core → IsCrowded x j address → Explained t k (Load address width value)
  loads_known x t j k address width value q f crowded = record {
    known = record {
      kind = load_crowded image count x (meeting t by (Load address width value) k) q.core j address q.same_shape fits f.stores q.keeps.own width value crowded;
      first = no_store (Load address width value) (λ a w n same. cc) t;
    };
    meets = λ alone. absurd (never_crowded x j address q crowded alone);
  }

  store_kind : (x : StoreView) (t : FlatState) (j k address width value : ℕ) (q : Victim x j) → Found t j k q.core → Guards x j (is_accessed address width) ⊎ IsCrowded x j address
      → kind_of image t by k (Some (Store address width value)) ≢ Unexplained
  store_kind x t j k address width value q f (inl g) =
      guards_known x t j k (Store address width value) (is_accessed address width) q f g (λ a accessed. stored_there address width value a ∙ accessed)
  store_kind x t j k address width value q f (inr crowded) =
      store_crowded image count x (meeting t by (Store address width value) k) q.core j address q.same_shape fits f.stores q.keeps.own width value crowded

  store_address : (address width value a w n : ℕ) → Store address width value ≡ Store a w n → address ≡ a
  store_address address width value a w n is = cc

  -- bytes of lines of one number lie in one line of the store
  one_line : (a b : ℕ) → line_number image a ≡ line_number image b → view.line_of v.shape a ≡ view.line_of v.shape b
  one_line a b same = ap (λ (y : Shape). view.line_of y a) shape ∙ (ap (λ n. long * n) same ∙ sym (ap (λ (y : Shape). view.line_of y b) shape))

  -- a byte of the line is the caller's own
  has_stored : (t : FlatState) (address : ℕ) (d : CoreState) → address < image.size → bytes_of d ≡ bytes_of c → line_has image (line_number image address) (λ a. is_some (d.own a)) ≡ true
      → OwnsIn v by (view.line_of v.shape address)
  has_stored t address d within bytes before =
      let found = passing_byte image (line_number image address) (λ a. is_some (d.own a)) before in
      record {
        at = found.at;
        within = subst (λ n. found.at < n) (sym (ap (λ (y : Shape). y.size) shape)) found.below;
        in_line = one_line found.at address found.in_line;
        owned = mine.own found.at ∙ (ap (λ (b : Bytes). is_some (b.own found.at)) (sym bytes) ∙ found.passes);
      }

  pub stores_known : (w : StoreView) (hurt : ℕ → Bool) (t : FlatState) (n j k address width value : ℕ) (q : Victim v j) → address < image.size → Stores v w by address width value hurt → hurt j ≡ true
      → First hurt n t → Found t j k q.core → Explained t k (Store address width value)
  stores_known w hurt t n j k address width value q within l is p f = record {
    known = record {
      kind = store_kind v t j k address width value q f (l.meets j is);
      first = λ what same further.
          let me = caller hurt n t p in
          let which : address ≡ further.address = store_address address width value further.address further.width further.value (same_Some (Store address width value) what same ∙ further.stores) in
          let bytes = ap bytes_of (one_value (t.cores by) further.core me.core further.runs me.at) ∙ me.bytes in
          let own = has_stored t address further.core within bytes (ap (λ a. line_has image (line_number image a) (λ b. is_some (further.core.own b))) which ∙ further.before) in
          true≢false (sym is ∙ l.told own j);
    };
    meets = λ alone. absurd (true≢false (sym (l.eager j is) ∙ alone));
  }

  -- a straight store commits its bytes
  straight_meets : (first hurt : ℕ → Bool) (x : StoreView) (t : FlatState) (n j k address width value : ℕ) (q : Victim x j) → Second first hurt n t → Found t j k q.core
      → Guards x j (is_accessed address width) ⊎ IsCrowded x j address → v.cached ≡ false → MeetsInBytes image t by k (Some (Store address width value))
  straight_meets first hurt x t n j k address width value q p f (inl g) alone =
      guards_meet x t j k (Store address width value) (is_accessed address width) q f g (λ a accessed. stored_there address width value a ∙ accessed)
      (ap (λ o. commits_bytes o (Store address width value)) p.runs ∙ p.straight) alone
  straight_meets first hurt x t n j k address width value q p f (inr crowded) alone = absurd (never_crowded x j address q crowded alone)

  pub straight_known : (first hurt : ℕ → Bool) (x : StoreView) (t : FlatState) (n j k address width value : ℕ) (q : Victim x j) → Second first hurt n t → Found t j k q.core
      → Guards x j (is_accessed address width) ⊎ IsCrowded x j address → Explained t k (Store address width value)
  straight_known first hurt x t n j k address width value q p f meets = record {
    known = record {
      kind = store_kind x t j k address width value q f meets;
      first = λ what same further. true≢false (sym p.straight ∙ (ap (λ (y : CoreState). y.straight) (one_value (t.cores by) p.core further.core p.runs further.runs) ∙ further.speculates));
    };
    meets = straight_meets first hurt x t n j k address width value q p f meets;
  }

  own_still : (hurt : ℕ → Bool) (n : ℕ) (t : FlatState) → First hurt n t → (a : ℕ) → own_bytes (t.cores by) a ≡ c.own a
  own_still hurt n t p a =
      let me = caller hurt n t p in
      ap (λ o. option_and_then (λ (y : CoreState). y.own a) o) me.at ∙ ap (λ (b : Bytes). b.own a) me.bytes

  -- an act that commits what the caller owns
  commits_known : (hurt : ℕ → Bool) (t : FlatState) (n j k : ℕ) (what : What) (q : Victim v j) → ((core : Option CoreState) (a : ℕ) → written core what a ≡ own_bytes core a)
      → ((core : Option CoreState) → commits_bytes core what ≡ true) → ((address width value : ℕ) → what ≢ Store address width value) → First hurt n t → Found t j k q.core
      → Guards v j (v.own by) → Explained t k what
  commits_known hurt t n j k what q writes commits isnt p f g =
      let all : (a : ℕ) → v.own by a ≡ true → is_some (written (t.cores by) what a) ≡ true =
      λ a owned. ap (λ o. is_some o) (writes (t.cores by) a ∙ own_still hurt n t p a) ∙ (sym (mine.own a) ∙ owned) in record {
        known = record { kind = guards_known v t j k what (v.own by) q f g all; first = no_store what isnt t };
        meets = guards_meet v t j k what (v.own by) q f g all (commits (t.cores by));
      }

  -- ---- who has read in the line

  -- a core that isn't hurt, and has read in the line of a byte that is written
  record Reader (t : FlatState) (what : What) (k : ℕ) : Type 0 where
    pub core : CoreState
    pub runs : s.cores k ≡ Some core
    pub unharmed : core.hurt ≡ false
    pub away : k ≢ by
    pub later : c.epoch < core.epoch
    pub byte : ℕ
    pub writes : is_some (written (t.cores by) what byte) ≡ true
    pub guarded : C → v.guarded k byte ≡ true

  reader : (t : FlatState) (what : What) (k : ℕ) (e : CoreState) → t.cores by ≡ Some e → e.epoch ≡ c.epoch → ((j : ℕ) → j ≢ by → Keeps s t j) → ((j : ℕ) → j ≢ by → IsNoLess s t j)
      → IsMissed image t (record { by = by; what = what }) k → Reader t what k
  reader t what k e there epoch keeps no_less missed =
      let mine_too = one_value (t.cores by) missed.causer e missed.causer_runs there in
      let above : c.epoch < missed.core.epoch = subst (λ n. n < missed.core.epoch) (ap (λ (y : CoreState). y.epoch) mine_too ∙ epoch) missed.later in
      let other : k ≢ by = λ me. no_self e.epoch c.epoch missed.core.epoch (ap (λ (y : CoreState). y.epoch) (one_value (t.cores by) e missed.core there (ap t.cores (sym me) ∙ missed.runs))) epoch above in
      let was = was_there (t.cores k) (s.cores k) missed.core missed.runs (keeps k other) in
      let d = was.core in
      let free = no_less k other d missed.core was.at missed.runs missed.unhurt in
      let g = (agrees.core going k).runs d was.at free in
      let two = and_parts (is_some (read_bytes (t.cores k) missed.at)) _ missed.reads in
      let found = passing_byte image (line_number image missed.at) (λ a. is_some (written (t.cores by) what a)) two.1 in
      let read : is_some (d.outside missed.at) ≡ true =
      ap (λ o. is_some o) (sym (ap (λ (b : Bytes). b.outside missed.at) was.bytes) ∙ sym (ap (λ o. option_and_then (λ (y : CoreState). y.outside missed.at) o) missed.runs)) ∙ two.0 in
      let some = value_of (d.outside missed.at) read in record {
        core = d;
        runs = was.at;
        unharmed = free;
        away = other;
        later = subst (λ n. c.epoch < n) (ap (λ (b : Bytes). b.epoch) was.bytes) above;
        byte = found.at;
        writes = found.passes;
        guarded = λ holds. settled.whole_lines (cached holds) k missed.at found.at (one_line missed.at found.at (sym found.in_line)) (g.guards_read missed.at some.0 some.1);
      }
    where
      no_self : (e c m : ℕ) → e ≡ m → e ≡ c → c < m → ⊥
      no_self e c m one two above = omega (arith, one, two, above)

  reader_first : (hurt : ℕ → Bool) (t : FlatState) (what : What) (k : ℕ) → First hurt count t → IsMissed image t (record { by = by; what = what }) k → Reader t what k
  reader_first hurt t what k p missed =
      let me = caller hurt count t p in
      reader t what k me.core me.at (ap (λ (b : Bytes). b.epoch) me.bytes) (λ j other. p.keeps j) (λ j other. p.no_less j) missed

  -- whoever is told is hurt then
  not_told : (these : ℕ → Bool) (t : FlatState) (what : What) (k : ℕ) → ((j : ℕ) → j < count → these j ≡ true → IsHurtIn t j) → IsMissed image t (record { by = by; what = what }) k
      → (d : CoreState) → s.cores k ≡ Some d → these k ≡ true → ⊥
  not_told these t what k told missed d runs is = true≢false (sym (told k (kept.core k d runs).there is missed.core missed.runs) ∙ missed.unhurt)

  epoch_seen : (k : ℕ) (d : CoreState) → s.cores k ≡ Some d → d.hurt ≡ false → epoch_of (v.attempt k) ≡ d.epoch
  epoch_seen k d runs free = ap epoch_of ((agrees.core going k).runs d runs free).attempt

  -- a speculative store passes over those alone who were told of an earlier one to the line
  pub store_passes : (w : StoreView) (hurt : ℕ → Bool) (t : FlatState) (address width value : ℕ) → address < image.size → c.straight ≡ false → Stores v w by address width value hurt → First hurt count t
      → PassedHere C image t (record { by = by; what = Store address width value })
  store_passes w hurt t address width value within speculates l p holds k missed =
      let r = reader_first hurt t (Store address width value) k p missed in
      let me = caller hurt count t p in
      let g : Guards v k (is_accessed address width) =
      record { at = r.byte; is_one = sym (stored_there address width value r.byte) ∙ r.writes; guarded = r.guarded holds } in
      elim (cases_Bool (line_has image (line_number image address) (λ a. is_some (me.core.own a)))) [
        | inl before ↦ record {
          core = me.core;
          runs = me.at;
          speculates = ap (λ (b : Bytes). b.straight) me.bytes ∙ speculates;
          address = address;
          width = width;
          value = value;
          stores = refl;
          before = before;
        }
        | inr none ↦ absurd (not_told hurt t (Store address width value) k p.told missed r.core r.runs
            (l.tells (cached holds)
            (λ a same. mine.own a ∙ (ap (λ (b : Bytes). is_some (b.own a)) (sym me.bytes) ∙ unowned me.core none a same))
            k r.away
            (subst (λ n. n < epoch_of (v.attempt k)) (sym (epoch_seen by c at unhurt)) (subst (λ n. c.epoch < n) (sym (epoch_seen k r.core r.runs r.unharmed)) r.later)) g))
      ]
    where
      unowned : (core : CoreState) → line_has image (line_number image address) (λ a. is_some (core.own a)) ≡ false
          → (a : ℕ) → view.line_of v.shape a ≡ view.line_of v.shape address → is_some (core.own a) ≡ false
      unowned core none a same =
          let at : line_number image a ≡ line_number image address = line_in image count v.shape a address fits shape same in
          none_passes image (line_number image address) (λ b. is_some (core.own b)) none a (same_line_below image address a fits (sym at) within) at

  -- what commits passes over nobody
  pub commit_passes : (x : StoreView) (hurt : ℕ → Bool) (t : FlatState) (what : What) (b : Bool) → c.straight ≡ b → publishes_unless b v x by hurt
      → ((core : Option CoreState) (a : ℕ) → written core what a ≡ own_bytes core a) → First hurt count t → PassedHere C image t (record { by = by; what = what })
  commit_passes x hurt t what true is pub_it writes p holds k missed =
      writes_none C image t (record { by = by; what = what }) (λ a. writes (t.cores by) a ∙ (own_still hurt count t p a ∙ (kept.core by c at).straight_owns is a)) holds k missed
  commit_passes x hurt t what false is pub_it writes p holds k missed =
      let r = reader_first hurt t what k p missed in
      absurd (not_told hurt t what k p.told missed r.core r.runs
      (pub_it.tells k r.away (record {
        at = r.byte;
        is_one = mine.own r.byte ∙ (ap (λ o. is_some o) (sym (writes (t.cores by) r.byte ∙ own_still hurt count t p r.byte)) ∙ r.writes);
        guarded = r.guarded holds;
      })))

  -- a core that the first act spared guards what it guarded
  guards_still : (x : StoreView) (first : ℕ → Bool) (b : Bool) (k a : ℕ) → publishes_unless b v x by first → k ≢ by → first k ≡ false → v.guarded k a ≡ true → x.guarded k a ≡ true
  guards_still x first false k a p away spared is = (p.others.spares k away spared).guarded a ∙ is
  guards_still x first true k a p away spared is = ap (λ (y : StoreView). y.guarded k a) p.0 ∙ is

  pub straight_passes : (x w : StoreView) (first hurt : ℕ → Bool) (t : FlatState) (address width value : ℕ) (b : Bool) → publishes_unless b v x by first → StoresStraight x w by address width value hurt
      → Second first hurt count t → PassedHere C image t (record { by = by; what = Store address width value })
  straight_passes x w first hurt t address width value b published l p holds k missed =
      let r = reader t (Store address width value) k p.core p.runs p.epoch p.others p.no_less missed in
      let spared : first k ≡ false = elim (cases_Bool (first k)) [
        | inl is ↦ absurd (true≢false (sym (p.before k is missed.core missed.runs) ∙ missed.unhurt))
        | inr isnt ↦ isnt
      ] in
      absurd (not_told hurt t (Store address width value) k p.told missed r.core r.runs
      (l.tells k r.away (record {
        at = r.byte;
        is_one = sym (stored_there address width value r.byte) ∙ r.writes;
        guarded = guards_still x first b k r.byte published r.away spared (r.guarded holds);
      })))

  -- ---- the batches of a turn

  -- the violations of a core's first act, which is the one that this knows of
  pub first_batch : (w : StoreView) (hurt : ℕ → Bool) (what : What) (tail : List Entry) → HurtsLater v w by hurt → next_what by tail ≡ Some what
      → ((t : FlatState) (j k : ℕ) (q : Victim v j) → hurt j ≡ true → First hurt j t → Found t j k q.core → Explained t k what)
      → ((t : FlatState) → First hurt count t → AllKnown (v.cached ≡ false) C image t tail) → AllKnown (v.cached ≡ false) C image s (entry_for_each by hurt (λ j. Hurt (epoch_on s.cores j)) count ++ tail)
  first_batch w hurt what tail others later known rest =
      let victim : (j : ℕ) → hurt j ≡ true → Victim v j = λ j is. here w j (others.hurts j is) in
      all_known (v.cached ≡ false) C image by (First hurt) hurt (λ j. Hurt (epoch_on s.cores j)) what (λ j. refl) (first_tells v hurt victim) (first_skips hurt)
      (λ j k t e is p same runs. known t j k (victim j is) is p (found_first hurt v t j k e (victim j is) p runs (epoch_is (epoch_on s.cores j) e.epoch same))) count tail later rest s (first_now hurt)

  -- those of its second act, from any of the states after the first
  pub second_batch : (x w : StoreView) (first hurt : ℕ → Bool) (what : What) (tail : List Entry) → ((j : ℕ) → hurt j ≡ true → Victim x j) → hurt by ≡ false → next_what by tail ≡ Some what
      → ((t : FlatState) (j k : ℕ) (q : Victim x j) → hurt j ≡ true → Second first hurt j t → Found t j k q.core → Explained t k what)
      → ((t : FlatState) → Second first hurt count t → AllKnown (v.cached ≡ false) C image t tail) → (t : FlatState) → Second first hurt 0 t
      → AllKnown (v.cached ≡ false) C image t (entry_for_each by hurt (λ j. Hurt (epoch_on s.cores j)) count ++ tail)
  second_batch x w first hurt what tail victim itself later known rest =
      all_known (v.cached ≡ false) C image by (Second first hurt) hurt (λ j. Hurt (epoch_on s.cores j)) what (λ j. refl) (second_tells x first hurt victim itself) (second_skips first hurt)
      (λ j k t e is p same runs.
      known t j k (victim j is) is p (found_second first hurt x t j k e (victim j is) (λ me. true≢false (sym is ∙ (ap hurt me ∙ itself))) p runs (epoch_is (epoch_on s.cores j) e.epoch same)))
      count tail later rest

  -- ---- a core that is violated after the caller published

  after_publish : (x w : StoreView) (first hurt : ℕ → Bool) → Publishes v x by first → HurtsLater x w by hurt → (j : ℕ) → hurt j ≡ true → Victim x j
  after_publish x w first hurt p others j is =
      let h = others.hurts j is in
      let away : j ≢ by = λ me. true≢false (sym is ∙ (ap hurt me ∙ others.not_itself)) in
      elim (cases_Bool (first j)) [
        | inl gone ↦ absurd (none_and_some (x.attempt j) h.attempt (p.others.hurts j gone).none h.had)
        | inr stays ↦
            (let spared = p.others.spares j away stays in
            let found = runs_by s.committed v j (s.cores j) h.attempt (agrees.core going j) (sym spared.attempt ∙ h.had) in record {
              core = found.0;
              runs = found.1;
              memory = x.committed;
              keeps = spared_core s.committed x.committed v x j found.0 (p.shape, p.cached) (λ a. refl) spared found.2;
              same_shape = p.shape ∙ shape;
              same_kind = p.cached;
            })
      ]

  same_view : (x w : StoreView) (hurt : ℕ → Bool) → x ≡ v → HurtsLater x w by hurt → (j : ℕ) → hurt j ≡ true → Victim x j
  same_view x w hurt same others j is = subst (λ y. Victim y j) (sym same) (here w j (subst (λ y. IsHurt y w by j) same (others.hurts j is)))

  pub publishing : (x w : StoreView) (first hurt : ℕ → Bool) (b : Bool) → publishes_unless b v x by first → HurtsLater x w by hurt → (j : ℕ) → hurt j ≡ true → Victim x j
  publishing x w first hurt false p others = after_publish x w first hurt p others
  publishing x w first hurt true p others = same_view x w hurt p.0 others

  -- ---- what the caller commits, and an access after it

  pub commit_batch : (x : StoreView) (hurt : ℕ → Bool) (what : What) (tail : List Entry) (b : Bool) → publishes_unless b v x by hurt
      → ((core : Option CoreState) (a : ℕ) → written core what a ≡ own_bytes core a) → ((core : Option CoreState) → commits_bytes core what ≡ true)
      → ((address width value : ℕ) → what ≢ Store address width value) → next_what by tail ≡ Some what
      → ((t : FlatState) → First hurt count t → AllKnown (v.cached ≡ false) C image t tail) → AllKnown (v.cached ≡ false) C image s (entry_for_each by hurt (λ j. Hurt (epoch_on s.cores j)) count ++ tail)
  commit_batch x hurt what tail false p writes commits isnt later rest =
      first_batch x hurt what tail p.others later (λ t j k q is first f. commits_known hurt t j j k what q writes commits isnt first f (p.meets j is)) rest
  commit_batch x hurt what tail true p writes commits isnt later rest =
      all_known (v.cached ≡ false) C image by (First hurt) hurt (λ j. Hurt (epoch_on s.cores j)) what (λ j. refl) (λ j t is q. absurd (true≢false (sym is ∙ p.1 j))) (first_skips hurt)
      (λ j k t e is q same runs. absurd (true≢false (sym is ∙ p.1 j))) count tail later rest s (first_now hurt)

  pub then_access : (x : StoreView) (first hurt : ℕ → Bool) (rest : List Entry) (b : Bool) → c.straight ≡ b → publishes_unless b v x by first
      → ((t : FlatState) → Second first hurt 0 t → AllKnown (v.cached ≡ false) C image t rest)
      → AllKnown (v.cached ≡ false) C image s ((if b then [] else entry_for_each by first (λ j. Hurt (epoch_on s.cores j)) count ++ entry by Publish) ++ rest)
  then_access x first hurt rest true is p known = known s (straight_now first hurt is p.1)
  then_access x first hurt rest false is p known =
      subst (AllKnown (v.cached ≡ false) C image s) (sym (append_assoc (entry_for_each by first (λ j. Hurt (epoch_on s.cores j)) count) (entry by Publish) rest))
      (commit_batch x first Publish (entry by Publish ++ rest) false p (λ core a. refl) (λ core. refl) (λ a w n same. cc) (rw (eq-eqb by by refl) refl)
      (λ t q. (
        λ k e same runs. absurd (no_hurt e.epoch same),
        commit_passes x first t Publish false is p (λ core a. refl) q,
        known (effect image t (record { by = by; what = Publish })) (published first hurt t (λ j hurts. here x j (p.others.hurts j hurts)) p.others.not_itself q),
      )))
    where
      no_hurt : (epoch : ℕ) → Publish ≡ Hurt epoch → ⊥
      no_hurt epoch same = cc
