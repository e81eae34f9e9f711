-- One more epoch commits, each of its steps as early as it can be.
use Rattle.std.proofs.Common.{◌≡◌, ◌⊎◌, ℕ, zero, suc, ◌+◌, ◌-◌, ◌*◌, ◌==◌, ◌<◌, ◌≤◌, List, [], ◌∷◌, ◌++◌, length, length-append, max, slice_index, if◌then◌else◌, refl, sym, ap, subst, ◌∙◌, inl, inr, arith}
use Rattle.std.proofs.lemmas.Bool.{cases_lt}
use Rattle.std.proofs.lemmas.Bool.Decides.{nat_tests}
use Rattle.std.proofs.lemmas.List.{get_or_append_left, get_or_push}
use Rattle.rv32_image.specs.Image.{LoadedImage}
use Rattle.epoch_paths.specs.Lengths.{Lasts}
use Rattle.epoch_paths.specs.Flow.{DependsAt}
use Rattle.limits.specs.declared.limit.Waits.{Waits}
use Rattle.limits.specs.declared.limit.Waits.TheVariants.{Commit, Store}
use Rattle.limits.specs.Limits.{Timing, awaited}
use Rattle.limits.specs.Kept.{AreBases, HasWaited, HaveCommitted, IsBegin, IsEarliest, last_commit}

-- with the steps of this epoch
pub with_epoch : Timing → ℕ → ℕ → (ℕ → ℕ) → ℕ → Timing
with_epoch t epoch begin bases commit = record {
  begin = λ d. if d == epoch then begin else t.begin d;
  at = λ d place. if d == epoch then bases place + place else t.at d place;
  commit = λ d. if d == epoch then commit else t.commit d;
}

chosen : (d epoch x y : ℕ) → d ≡ epoch → (if d == epoch then x else y) ≡ x
chosen d epoch x y is = grind (arith, nat_tests)

other : (d epoch x y : ℕ) → d < epoch → (if d == epoch then x else y) ≡ y
other d epoch x y low = grind (arith, nat_tests)

-- steps of epochs before this one are the same
pub record AreSame (epoch : ℕ) (t t' : Timing) : Type 0 where
  pub begin : (d : ℕ) → d < epoch → t'.begin d ≡ t.begin d
  pub at : (d place : ℕ) → d < epoch → t'.at d place ≡ t.at d place
  pub commit : (d : ℕ) → d < epoch → t'.commit d ≡ t.commit d

-- and this one has these
pub record IsWith (epoch : ℕ) (t t' : Timing) (begin : ℕ) (bases : ℕ → ℕ) (commit : ℕ) : Type 0 where
  pub same : AreSame epoch t t'
  pub begin_is : t'.begin epoch ≡ begin
  pub at_is : (place : ℕ) → t'.at epoch place ≡ bases place + place
  pub commit_is : t'.commit epoch ≡ commit

pub with_it : (t : Timing) (epoch begin : ℕ) (bases : ℕ → ℕ) (commit : ℕ) → IsWith epoch t (with_epoch t epoch begin bases commit) begin bases commit
unfolding with_epoch
with_it t epoch begin bases commit = record {
  same = record {
    begin = λ d low. other d epoch begin (t.begin d) low;
    at = λ d place low. other d epoch (bases place + place) (t.at d place) low;
    commit = λ d low. other d epoch commit (t.commit d) low;
  };
  begin_is = chosen epoch epoch begin (t.begin epoch) refl;
  at_is = λ place. chosen epoch epoch (bases place + place) (t.at epoch place) refl;
  commit_is = chosen epoch epoch commit (t.commit epoch) refl;
}

-- ---- what is the same

awaited_same : (waits : Waits) (epoch : ℕ) (t t' : Timing) → AreSame epoch t t' → (d stored : ℕ) → d < epoch → awaited waits t' d stored ≡ awaited waits t d stored
awaited_same Store epoch t t' same d stored low = same.at d stored low
awaited_same Commit epoch t t' same d stored low = same.commit d low

module _ (image : LoadedImage) (waits : Waits) (cores epoch : ℕ) (t t' : Timing) (same : AreSame epoch t t') where
  -- of an epoch that is no later
  waited_same : (d place base : ℕ) → d ≤ epoch → HasWaited image waits t d place base → HasWaited image waits t' d place base
  waited_same d place base most w =
      let less = w.depends.store.before in record {
        load = w.load;
        byte = w.byte;
        earlier = w.earlier;
        stored = w.stored;
        low = w.low;
        depends = w.depends;
        is = w.is ∙ sym (awaited_same waits epoch t t' same w.earlier w.stored (omega (arith, less, most)));
      }

  bases_same : (d begin begin' : ℕ) (bases : ℕ → ℕ) → d ≤ epoch → begin' ≡ begin → AreBases image waits t d begin bases → AreBases image waits t' d begin' bases
  bases_same d begin begin' bases most is are = record {
    rise = are.rise;
    first = let first = are.first in omega (arith, first, is);
    why = λ place. elim (are.why place) [
      | inl at_once ↦ inl (omega (arith, at_once, is))
      | inr waited ↦ inr (waited_same d place (bases place) most waited)
    ];
  }

  begin_same : (d begin begin' : ℕ) → d ≤ epoch → 1 ≤ cores → begin' ≡ begin → IsBegin cores t d begin → IsBegin cores t' d begin'
  begin_same d begin begin' most some is one = record {
    early = λ low. is ∙ one.early low;
    late = λ before sum. is ∙ (one.late before sum ∙ sym (ap (λ n. n + 1) (same.commit before (omega (arith, sum, most, some)))));
  }

  earliest_same : (d : ℕ) → d < epoch → 1 ≤ cores → IsEarliest image waits cores t d → IsEarliest image waits cores t' d
  earliest_same d low some one = record {
    length = one.length;
    lasts = one.lasts;
    begin = begin_same d (t.begin d) (t'.begin d) (omega (arith, low)) some (same.begin d low) one.begin;
    bases = one.bases;
    are = bases_same d (t.begin d) (t'.begin d) one.bases (omega (arith, low)) (same.begin d low) one.are;
    at = λ place. same.at d place low ∙ one.at place;
    ready = λ place byte earlier stored depends.
        let less = depends.store.before in
        let is = awaited_same waits epoch t t' same earlier stored (omega (arith, less, low)) in
        let at = same.at d place low in
        let ready = one.ready place byte earlier stored depends in omega (arith, is, at, ready);
    ends = let at = same.at d one.length low in let commit = same.commit d low in let ends = one.ends in omega (arith, at, commit, ends);
    in_order = λ before number.
        let commit = same.commit d low in
        let commit' = same.commit before (omega (arith, number, low)) in
        let order = one.in_order before number in omega (arith, commit, commit', order);
    commits = elim one.commits [
      | inl at_end ↦ inl (same.commit d low ∙ (at_end ∙ sym (same.at d one.length low)))
      | inr after ↦
          (let number = after.1 in inr (after.0, after.1, same.commit d low ∙ (after.2 ∙ sym (same.commit after.0 (omega (arith, number, low))))))
    ];
  }

-- ---- one more epoch

pub last_none : (commits : List ℕ) → length commits ≡ 0 → last_commit commits ≡ 0
last_none [] none = refl
last_none (x ∷ xs) none = absurd cc

max_cases : (a b : ℕ) → ((max a b ≡ a) × (b ≤ a)) ⊎ ((max a b ≡ b) × (a ≤ b))
max_cases a b = elim (cases_lt a b) [
  | inl less ↦ inr (omega (arith, less), omega (arith, less))
  | inr from ↦ inl (omega (arith, from), omega (arith, from))
]

-- an epoch that began as early as it could has executed its last instruction
module _ (image : LoadedImage) (waits : Waits) (cores epoch : ℕ) (commits : List ℕ) (t : Timing) (before : HaveCommitted image waits cores epoch commits t)
    (some : 1 ≤ cores) (begin count end : ℕ) (bases : ℕ → ℕ) (is_begin : IsBegin cores t epoch begin) (are : AreBases image waits t epoch begin bases)
    (ready : (place byte earlier stored : ℕ) → DependsAt image epoch place byte earlier stored → awaited waits t earlier stored ≤ bases place + place)
    (lasts : Lasts image epoch count) (end_is : end ≡ bases count + count) (t' : Timing)
    (w : IsWith epoch t t' begin bases (max end (last_commit commits))) where
  last_is : (d : ℕ) → epoch ≡ d + 1 → last_commit commits ≡ t.commit d
  last_is d number =
      let long = before.long in
      let place : length commits - 1 ≡ d = omega (arith, long, number) in ap (slice_index commits) place ∙ before.are d (omega (arith, number))

  last_cases : (n : ℕ) → n ≡ epoch → ((epoch ≡ 0) × (last_commit commits ≡ 0)) ⊎ ((d : ℕ) × (epoch ≡ d + 1) × (last_commit commits ≡ t.commit d))
  last_cases zero is = inl (sym is, last_none commits (before.long ∙ sym is))
  last_cases (suc d) is = let number : epoch ≡ d + 1 = omega (arith, is) in inr (d, number, last_is d number)

  last_soon : last_commit commits ≤ epoch * 1000002
  last_soon = elim (last_cases epoch refl) [
    | inl none ↦ (let zeroed = none.1 in omega (arith, zeroed))
    | inr some_before ↦ (let number = some_before.1 in let is = some_before.2 in let soon = before.soon some_before.0 (omega (arith, number)) in omega (arith, is, soon))
  ]

  commits_by : (t'.commit epoch ≡ t'.at epoch count) ⊎ ((d : ℕ) × (epoch ≡ d + 1) × (t'.commit epoch ≡ t'.commit d))
  commits_by =
      let commit = w.commit_is in
      let at = w.at_is count in
      elim (max_cases end (last_commit commits)) [
        | inl own ↦ (let is = own.0 in inl (omega (arith, commit, at, is, end_is)))
        | inr last ↦
            (let is = last.0 in
            let more = last.1 in
            elim (last_cases epoch refl) [
              | inl none ↦ (let zeroed = none.1 in inl (omega (arith, commit, at, is, more, end_is, zeroed)))
              | inr some_before ↦
                  (let number = some_before.1 in
                  inr (some_before.0, number, w.commit_is ∙ (is ∙ (some_before.2 ∙ sym (w.same.commit some_before.0 (omega (arith, number)))))))
            ])
      ]

  earliest_more : IsEarliest image waits cores t' epoch
  earliest_more = record {
    length = count;
    lasts = lasts;
    begin = begin_same image waits cores epoch t t' w.same epoch begin (t'.begin epoch) (omega arith) some w.begin_is is_begin;
    bases = bases;
    are = bases_same image waits cores epoch t t' w.same epoch begin (t'.begin epoch) bases (omega arith) w.begin_is are;
    at = w.at_is;
    ready = λ place byte earlier stored depends.
        let is = awaited_same waits epoch t t' w.same earlier stored depends.store.before in
        let at = w.at_is place in
        let low = ready place byte earlier stored depends in omega (arith, is, at, low);
    ends = let at = w.at_is count in let commit = w.commit_is in omega (arith, at, commit, end_is);
    in_order = λ d number.
        let commit = w.commit_is in
        let commit' = w.same.commit d (omega (arith, number)) in
        let last = last_is d number in omega (arith, commit, commit', last);
    commits = commits_by;
  }

  pub committed_more : end ≤ epoch * 1000002 + 1000002 → HaveCommitted image waits cores (epoch + 1) (commits ++ max end (last_commit commits) ∷ []) t'
  committed_more soon = record {
    long = let sum = length-append commits (max end (last_commit commits) ∷ []) in let long = before.long in omega (arith, sum, long);
    are = λ d low. elim (cases_lt d epoch) [
      | inl less ↦ get_or_append_left commits (max end (last_commit commits) ∷ []) 0 d (let long = before.long in omega (arith, less, long)) ∙ (before.are d less ∙ sym (w.same.commit d less))
      | inr from ↦
          (let here : d ≡ epoch = omega (arith, low, from) in
          get_or_push commits (max end (last_commit commits)) 0 d (before.long ∙ sym here) ∙ (sym w.commit_is ∙ ap t'.commit (sym here)))
    ];
    soon = λ d low. elim (cases_lt d epoch) [
      | inl less ↦ (let old = before.soon d less in let same = w.same.commit d less in omega (arith, old, same))
      | inr from ↦
          (let here : d ≡ epoch = omega (arith, low, from) in
          let same = ap t'.commit here in
          let commit = w.commit_is in
          let last = last_soon in omega (arith, same, commit, soon, last))
    ];
    each = λ d low. elim (cases_lt d epoch) [
      | inl less ↦ earliest_same image waits cores epoch t t' w.same d less some (before.each d less)
      | inr from ↦ (let here : epoch ≡ d = omega (arith, low, from) in subst (λ n. IsEarliest image waits cores t' n) here earliest_more)
    ];
  }
