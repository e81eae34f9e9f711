-- What is kept of a run so far, as time goes on and its cores do.
use Rattle.std.proofs.Common.{◌≡◌, ◌≢◌, ℕ, ◌+◌, ◌<◌, ◌≤◌, Bool, true, false, is_some, Option, Some, None, refl, sym, ap, subst, ◌∙◌, inl, inr, true≢false, arith}
use Rattle.std.proofs.lemmas.Bool.{cases_eq}
use Rattle.rv32_image.specs.Image.{LoadedImage}
use Rattle.spec_history.specs.FlatState.{CoreState, FlatState}
use Rattle.spec_history.specs.Effect.{with_core}
use Rattle.spec_history.specs.Laws.{IsKept}
use Rattle.spec_history.proofs.OneEntry.Keeping.{at_core, with_core_other, with_core_same}
use Rattle.homefree.specs.Hurts.{hurt_if, with_hurts}
use Rattle.limits.specs.declared.limit.Waits.{Waits}
use Rattle.limits.specs.declared.limit.Waits.TheVariants.{Commit, Store}
use Rattle.limits.specs.Limits.{awaited}
use Rattle.limits.proofs.Marks.{IsDone, IsOn, IsOwned, IsTimed, IsTimedIn, IsUnder, Marks}

-- ---- time goes on

owned_later : (cores now now' homefree : ℕ) (m : Marks) (d : ℕ) → now ≤ now' → IsOwned cores now homefree m d → IsOwned cores now' homefree m d
owned_later cores now now' homefree m d later (inl x) = let low = x.1 in inl (x.0, omega (arith, low, later))
owned_later cores now now' homefree m d later (inr x) = inr x

pub later : (image : LoadedImage) (waits : Waits) (cores now now' homefree next_epoch : ℕ) (running : ℕ → Option CoreState) (m : Marks) → now ≤ now'
    → IsTimed image waits cores now homefree next_epoch running m → IsTimed image waits cores now' homefree next_epoch running m
later image waits cores now now' homefree next_epoch running m more x = record {
  past = λ a. let low = x.past a in omega (arith, low, more);
  done = λ d low. let one = x.done d low in let by = one.by in record {
    length = one.length;
    lasts = one.lasts;
    first = one.first;
    next = one.next;
    ends = one.ends;
    by = omega (arith, by, more);
    ready = one.ready;
    stored = one.stored;
  };
  in_order = x.in_order;
  begins = x.begins;
  begun = λ d. let by = x.begun d in omega (arith, by, more);
  owned = λ d low. owned_later cores now now' homefree m d more (x.owned d low);
  core = x.core;
  idle = x.idle;
}

-- ---- cores are hurt

pub record WasHurt (o : Option CoreState) (c : CoreState) : Type 0 where
  pub was : CoreState
  pub at : o ≡ Some was
  pub epoch : was.epoch ≡ c.epoch
  pub straight : was.straight ≡ c.straight
  pub unhurt : c.hurt ≡ false → was ≡ c

pub hurt_back : (b : Bool) (o : Option CoreState) (c : CoreState) → hurt_if b o ≡ Some c → WasHurt o c
hurt_back true None c is = absurd cc
hurt_back true (Some d) c is =
    let same : (let x : CoreState = record d { hurt = true } in x) ≡ c = cc in record {
      was = d;
      at = refl;
      epoch = ap (λ (x : CoreState). x.epoch) same;
      straight = ap (λ (x : CoreState). x.straight) same;
      unhurt = λ free. absurd (true≢false (ap (λ (x : CoreState). x.hurt) same ∙ free));
    }
hurt_back false o c is = record { was = c; at = is; epoch = refl; straight = refl; unhurt = λ free. refl }

none_hurt : (b : Bool) (o : Option CoreState) → hurt_if b o ≡ None → o ≡ None
none_hurt true None is = refl
none_hurt true (Some d) is = absurd cc
none_hurt false o is = is

pub hurt_some : (image : LoadedImage) (waits : Waits) (cores now : ℕ) (s : FlatState) (m : Marks) (hurt : ℕ → Bool) → IsTimedIn image waits cores now s m
    → IsTimedIn image waits cores now (with_hurts hurt s) m
hurt_some image waits cores now s m hurt x = record {
  past = x.past;
  done = x.done;
  in_order = x.in_order;
  begins = x.begins;
  begun = x.begun;
  owned = x.owned;
  core = λ k c is.
      let one = hurt_back (hurt k) (s.cores k) c is in
      let was = x.core k one.was one.at in record {
        last = was.last ∙ ap Some one.epoch;
        under = λ free. let same = one.unhurt free in
            subst (IsUnder image waits m k) same (was.under (ap (λ (y : CoreState). y.hurt) same ∙ free));
        kind = λ straight. was.kind (one.straight ∙ straight);
      };
  idle = λ k none d is. x.idle k (none_hurt (hurt k) (s.cores k) none) d is;
}

-- ---- the steps of one epoch change

-- what this core does with this epoch
pub record Alters (m m' : Marks) (by epoch now : ℕ) : Type 0 where
  pub begin : (d : ℕ) → d ≢ epoch → m'.timing.begin d ≡ m.timing.begin d
  pub begin_on : m.timing.begin epoch ≤ m'.timing.begin epoch
  pub begin_by : m'.timing.begin epoch ≤ now
  pub at : (d place : ℕ) → d ≢ epoch → m'.timing.at d place ≡ m.timing.at d place
  pub commit : (d : ℕ) → d ≢ epoch → m'.timing.commit d ≡ m.timing.commit d
  pub from : (k : ℕ) → k ≢ by → m'.from k ≡ m.from k
  pub shown : (a : ℕ) → m.shown a ≤ m'.shown a
  pub past : (a : ℕ) → m'.shown a ≤ now

module _ (image : LoadedImage) (waits : Waits) (m m' : Marks) (by epoch now : ℕ) (alters : Alters m m' by epoch now) where
  awaited_by : (w : Waits) (d stored : ℕ) → d ≢ epoch → awaited w m'.timing d stored ≡ awaited w m.timing d stored
  awaited_by Store d stored other = alters.at d stored other
  awaited_by Commit d stored other = alters.commit d other

  pub awaited_still : (d stored : ℕ) → d ≢ epoch → awaited waits m'.timing d stored ≡ awaited waits m.timing d stored
  awaited_still d stored other = awaited_by waits d stored other

  -- of an epoch before it that has committed
  pub done_still : (d : ℕ) → d < epoch → IsDone image waits now m d → IsDone image waits now m' d
  done_still d low one =
      let other : d ≢ epoch = λ same. omega (arith, low, same) in
      let begin = alters.begin d other in
      let commit = alters.commit d other in record {
        length = one.length;
        lasts = one.lasts;
        first = (let at = alters.at d 0 other in let first = one.first in omega (arith, first, at, begin));
        next = λ place before.
            let here = alters.at d place other in let there = alters.at d (place + 1) other in
            let next = one.next place before in omega (arith, here, there, next);
        ends = (let at = alters.at d one.length other in let ends = one.ends in omega (arith, at, commit, ends));
        by = (let was = one.by in omega (arith, was, commit));
        ready = λ place byte earlier stored depends.
            let less = depends.store.before in
            let is = awaited_still earlier stored (λ same. omega (arith, less, low, same)) in
            let at = alters.at d place other in
            let ready = one.ready place byte earlier stored depends in omega (arith, is, at, ready);
        stored = λ a stored there.
            let is = awaited_still d stored other in let was = one.stored a stored there in let more = alters.shown a in omega (arith, is, was, more);
      }

  -- of another core
  pub under_still : (k : ℕ) (c : CoreState) → k ≢ by → c.epoch ≢ epoch → (c.straight ≡ true → c.epoch ≤ epoch)
      → (c.straight ≡ false → (a : ℕ) → is_some (c.outside a) ≡ true → m'.shown a ≤ m.shown a) → IsUnder image waits m k c → IsUnder image waits m' k c
  under_still k c apart other first unread x =
      let begin = alters.begin c.epoch other in
      let from = alters.from k apart in record {
        begun = (let was = x.begun in omega (arith, was, begin, from));
        steps = λ place low. let was = x.steps place low in let at = alters.at c.epoch place other in omega (arith, was, at, from);
        first = λ some. let was = x.first some in let at = alters.at c.epoch 0 other in omega (arith, was, at, begin);
        next = λ place low.
            let was = x.next place low in let here = alters.at c.epoch place other in let there = alters.at c.epoch (place + 1) other in omega (arith, was, here, there);
        path = λ has. let p = x.path has in record {
          own = p.own;
          at = p.at;
          own_is = p.own_is;
          written = λ is a place low there.
              let was = p.written is a place low there in let at = alters.at c.epoch place other in let more = alters.shown a in omega (arith, was, at, more);
          guarded = λ is a reads low.
              let was = p.guarded is a reads low in
              let at = alters.at c.epoch reads.step other in
              let less = unread is a was.0 in let below = was.1 in (was.0, omega (arith, below, at, less));
          after = λ is a reads low d stored before there.
              let was = p.after is a reads low d stored before there in
              let at = alters.at c.epoch reads.step other in
              let most = first is in
              let same = awaited_still d stored (λ e. omega (arith, before, most, e)) in omega (arith, was, at, same);
        };
      }

  -- who owns an epoch
  pub owned_still : (cores homefree d : ℕ) → homefree ≤ epoch → m'.last ≡ m.last → IsOwned cores now homefree m d → IsOwned cores now homefree m' d
  owned_still cores homefree d low last (inl x) =
      let less = x.0 in
      let is = alters.commit d (λ same. omega (arith, less, low, same)) in
      let was = x.1 in inl (x.0, omega (arith, was, is))
  owned_still cores homefree d low last (inr x) = inr (x.0, x.1, ap (λ (f : ℕ → Option ℕ). f x.0) last ∙ x.2)

pub not_none : (c : CoreState) → Some c ≡ None → ⊥
not_none c is = cc

pub some_same : (c d : CoreState) → Some c ≡ Some d → c ≡ d
some_same c d is = cc

-- a core runs on
module _ (image : LoadedImage) (waits : Waits) (cores now : ℕ) (s : FlatState) (m m' : Marks) (by : ℕ) (c : CoreState) (kept : IsKept image cores s) (x : IsTimedIn image waits cores now s m)
    (at : s.cores by ≡ Some c) (alters : Alters m m' by c.epoch now) (last : m'.last ≡ m.last)
    (unread : (k : ℕ) (d : CoreState) → k ≢ by → s.cores k ≡ Some d → d.hurt ≡ false → d.straight ≡ false → (a : ℕ) → is_some (d.outside a) ≡ true → m'.shown a ≤ m.shown a) where
  from : s.homefree ≤ c.epoch
  from = (kept.core by c at).from

  below : c.epoch < s.next_epoch
  below = (kept.core by c at).below

  begins_by : (d e : ℕ) → e ≡ d + cores → (m.timing.commit d < m.timing.begin e) → d < s.homefree → m'.timing.commit d < m'.timing.begin e
  begins_by d e is before low =
      let commit = alters.commit d (λ same. omega (arith, low, same, from)) in
      elim (cases_eq e c.epoch) [
        | inl here ↦
            (let on = alters.begin_on in
            let was : m.timing.commit d < m.timing.begin c.epoch = subst (λ n. m.timing.commit d < m.timing.begin n) here before in
            subst (λ n. m'.timing.commit d < m'.timing.begin n) (sym here) (omega (arith, was, on, commit)))
        | inr other ↦ (let same = alters.begin e other in omega (arith, before, same, commit))
      ]

  begun_by : (d : ℕ) → m.timing.begin d ≤ now → m'.timing.begin d ≤ now
  begun_by d was = elim (cases_eq d c.epoch) [
    | inl here ↦ subst (λ n. m'.timing.begin n ≤ now) (sym here) alters.begin_by
    | inr other ↦ (let same = alters.begin d other in omega (arith, was, same))
  ]

  -- what another core has
  pub other_on : (k : ℕ) (d : CoreState) → k ≢ by → s.cores k ≡ Some d → IsOn image waits m' k d
  other_on k d other at_k =
      let was = x.core k d at_k in
      let apart : d.epoch ≢ c.epoch = λ same. other (kept.apart k by d c at_k at same) in record {
        last = ap (λ (f : ℕ → Option ℕ). f k) last ∙ was.last;
        under = λ free. under_still image waits m m' by c.epoch now alters k d other apart
            (λ straight. let home = (kept.core k d at_k).straight_homefree straight in omega (arith, home, from))
            (unread k d other at_k free) (was.under free);
        kind = was.kind;
      }

  pub goes : (new : CoreState) → new.epoch ≡ c.epoch → (new.straight ≡ true → waits ≡ Store) → (new.hurt ≡ false → IsUnder image waits m' by new)
      → IsTimed image waits cores now s.homefree s.next_epoch (with_core s.cores by (Some new)) m'
  goes new epoch kind under = record {
    past = alters.past;
    done = λ d low. done_still image waits m m' by c.epoch now alters d (omega (arith, low, from)) (x.done d low);
    in_order = λ d low.
        let here = alters.commit d (λ same. omega (arith, low, from, same)) in
        let there = alters.commit (d + 1) (λ same. omega (arith, low, from, same)) in
        let was = x.in_order d low in omega (arith, was, here, there);
    begins = λ d low. let was = x.begins d low in (was.0, begins_by d (d + cores) refl was.1 was.0);
    begun = λ d. begun_by d (x.begun d);
    owned = λ d low. owned_still image waits m m' by c.epoch now alters cores s.homefree d from last (x.owned d low);
    core = λ k d is. elim (at_core s.cores by (Some new) k d is) [
      | inl here ↦
          (let same = some_same new d here.1 in
          subst (λ n. IsOn image waits m' n d) (sym here.0)
          (subst (IsOn image waits m' by) same (record {
            last = ap (λ (f : ℕ → Option ℕ). f by) last ∙ ((x.core by c at).last ∙ ap Some (sym epoch));
            under = under;
            kind = kind;
          })))
      | inr other ↦ other_on k d other.0 other.1
    ];
    idle = λ k none d is. elim (cases_eq k by) [
      | inl here ↦ absurd (not_none new (sym (with_core_at s.cores by new k here) ∙ none))
      | inr other ↦
          (let was = x.idle k (sym (with_core_other s.cores by (Some new) k other) ∙ none) d (sym (ap (λ (f : ℕ → Option ℕ). f k) last) ∙ is) in
          let low = was.0 in
          let commit = alters.commit d (λ same. omega (arith, low, from, same)) in
          let from_is = alters.from k other in
          let less = was.1 in (was.0, omega (arith, less, commit, from_is)))
    ];
  }
    where
      with_core_at : (f : ℕ → Option CoreState) (j : ℕ) (n : CoreState) (k : ℕ) → k ≡ j → with_core f j (Some n) k ≡ Some n
      with_core_at f j n k same = ap (with_core f j (Some n)) same ∙ with_core_same f j (Some n)
