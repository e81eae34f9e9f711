-- From every schedule of so many turns to every schedule of one turn more.
use Rattle.std.proofs.Common.{◌≡◌, inl, inr, ℕ, zero, suc, ◌+◌, ◌*◌, ◌<◌, ◌≤◌, List, [], ◌∷◌, ◌++◌, All, length, get_or, take, Vec, refl, sym, ap, subst, ◌∙◌, arith, add-one}
use Rattle.std.specs.List.{Contains}
use Rattle.std.proofs.lemmas.Bool.{cases_eq}
use Rattle.std.proofs.lemmas.List.{length-append, length_push, length-take-le, map_push, take_all, take_more, append_assoc}
use Rattle.std.proofs.lemmas.List.Elements.{All-nil, All-append, All-push, All-head, All-tail, All-take, All-get_or, Contains-append_left, Contains-append_right, Contains-append_cases, Contains-push, Contains-push_cases}
use native.Mathlib.Nat.{pow-suc}
use Rattle.std.specs.declared.alloc.Global.{Global}
use Rattle.all_schedules.specs.Schedules.{AreAllSchedules, IsSchedule, lists_of}
use Rattle.all_schedules.specs.Longer.{going_on, longer}

-- ---- one schedule

pub going_on-none : (schedule : List ℕ) → going_on schedule 0 ≡ []
unfolding going_on
going_on-none schedule = refl

pub going_on-more : (schedule : List ℕ) (core : ℕ) → going_on schedule (core + 1) ≡ going_on schedule core ++ (schedule ++ core ∷ []) ∷ []
unfolding going_on
going_on-more schedule core = rw add-one refl

going_on-count : (schedule : List ℕ) (cores : ℕ) → length (going_on schedule cores) ≡ cores
unfolding going_on
going_on-count schedule zero = refl
going_on-count schedule (suc core) =
    length_push (going_on schedule core) (schedule ++ core ∷ []) ∙ (ap (λ n. n + 1) (going_on-count schedule core) ∙ add-one core)

one_longer : (cores turns core : ℕ) (schedule : List ℕ) → IsSchedule cores turns schedule → core < cores → IsSchedule cores (turns + 1) (schedule ++ core ∷ [])
one_longer cores turns core schedule is below = record {
  long = length_push schedule core ∙ ap (λ n. n + 1) is.long;
  by_cores = All-push (λ k. k < cores) schedule core is.by_cores below;
}

going_on-each : (cores turns : ℕ) (schedule : List ℕ) → IsSchedule cores turns schedule → (count : ℕ) → count ≤ cores
    → All (IsSchedule cores (turns + 1)) (going_on schedule count)
unfolding going_on
going_on-each cores turns schedule is zero few = All-nil (IsSchedule cores (turns + 1))
going_on-each cores turns schedule is (suc core) few =
    All-push (IsSchedule cores (turns + 1)) (going_on schedule core) (schedule ++ core ∷ []) (going_on-each cores turns schedule is core (omega (arith, few)))
    (one_longer cores turns core schedule is (omega (arith, few)))

going_on-every : (schedule : List ℕ) (core cores : ℕ) → core < cores → Contains (going_on schedule cores) (schedule ++ core ∷ [])
unfolding going_on
going_on-every schedule core zero below = absurd (omega (arith, below))
going_on-every schedule core (suc last) below =
    let newest = schedule ++ last ∷ [] in
    elim (cases_eq core last) [
      | inl e ↦ let at : schedule ++ core ∷ [] ≡ newest = ap (λ k. schedule ++ k ∷ []) e in
          subst (Contains (going_on schedule last ++ newest ∷ [])) (sym at) (Contains-push (going_on schedule last) newest)
      | inr other ↦ Contains-append_left (going_on schedule last) (newest ∷ []) (schedule ++ core ∷ [])
          (going_on-every schedule core last (omega (arith, below, other)))
    ]

-- ---- all of them

longer-count : (cores : ℕ) (schedules : List (List ℕ)) → length (longer cores schedules) ≡ length schedules * cores
longer-count cores [] = omega arith
longer-count cores (schedule ∷ schedules) =
    length-append (going_on schedule cores) (longer cores schedules)
    ∙ omega (arith, going_on-count schedule cores, longer-count cores schedules)

longer-each : (cores turns : ℕ) (schedules : List (List ℕ)) → All (IsSchedule cores turns) schedules → All (IsSchedule cores (turns + 1)) (longer cores schedules)
longer-each cores turns [] each = All-nil (IsSchedule cores (turns + 1))
longer-each cores turns (schedule ∷ schedules) each =
    All-append (IsSchedule cores (turns + 1)) (going_on schedule cores) (longer cores schedules)
    (going_on-each cores turns schedule (All-head (IsSchedule cores turns) schedule schedules each) cores (omega arith))
    (longer-each cores turns schedules (All-tail (IsSchedule cores turns) schedule schedules each))

no_more : {A : Type 0} (x : A) → Contains [] x → ⊥
no_more x there = absurd (omega (arith, there.1))

longer-every : (cores core : ℕ) (schedule : List ℕ) (schedules : List (List ℕ)) → core < cores → Contains schedules schedule
    → Contains (longer cores schedules) (schedule ++ core ∷ [])
longer-every cores core schedule [] below there = absurd (no_more schedule there)
longer-every cores core schedule (first ∷ others) below there =
    elim (Contains-append_cases (first ∷ []) others schedule there) [
      | inl here ↦ elim (Contains-push_cases [] first schedule here) [
        | inl none ↦ absurd (no_more schedule none)
        | inr same ↦ Contains-append_left (going_on first cores) (longer cores others) (schedule ++ core ∷ [])
            (subst (λ (s : List ℕ). Contains (going_on first cores) (s ++ core ∷ [])) same (going_on-every first core cores below))
      ]
      | inr later ↦ Contains-append_right (going_on first cores) (longer cores others) (schedule ++ core ∷ []) (longer-every cores core schedule others below later)
    ]

-- a schedule of one turn more is one of so many turns, and a turn
module _ (cores turns : ℕ) (schedule : List ℕ) (is : IsSchedule cores (turns + 1) schedule) where
  below : turns < length schedule
  below = omega (arith, is.long)

  first : List ℕ
  first = take turns schedule

  split : schedule ≡ take turns schedule ++ get_or schedule turns 0 ∷ []
  split = sym (take_all (turns + 1) schedule (omega (arith, is.long))) ∙ take_more schedule turns 0 below

  before : IsSchedule cores turns (take turns schedule)
  before = record {
    long = length-take-le turns schedule (omega (arith, is.long));
    by_cores = All-take (λ k. k < cores) turns schedule is.by_cores;
  }

  last : get_or schedule turns 0 < cores
  last = All-get_or (λ k. k < cores) schedule turns 0 below is.by_cores

  found : (schedules : List (List ℕ)) → ((s : List ℕ) → IsSchedule cores turns s → Contains schedules s) → Contains (longer cores schedules) schedule
  found schedules every =
      subst (Contains (longer cores schedules)) (sym split)
      (longer-every cores (get_or schedule turns 0) (take turns schedule) schedules last (every (take turns schedule) before))

pub all_more : (cores turns : ℕ) (schedules : List (List ℕ)) → AreAllSchedules cores turns schedules → AreAllSchedules cores (turns + 1) (longer cores schedules)
all_more cores turns schedules all = record {
  count = longer-count cores schedules ∙ (ap (λ n. n * cores) all.count ∙ sym (rw add-one (pow-suc cores turns)));
  each = longer-each cores turns schedules all.each;
  every = λ schedule is. found cores turns schedule is schedules all.every;
}

-- ---- in vectors

pub lists_of-push : (vectors : List (Vec ℕ Global)) (v : Vec ℕ Global) → lists_of (vectors ++ v ∷ []) ≡ lists_of vectors ++ v.items ∷ []
lists_of-push vectors v = map_push (λ (w : Vec ℕ Global). w.items) vectors v

-- one schedule more was gone on with
pub push_more : (old now new : List (Vec ℕ Global)) (schedule : List ℕ) (core : ℕ) (v : Vec ℕ Global) → lists_of now ≡ lists_of old ++ going_on schedule core
    → v.items ≡ schedule ++ core ∷ [] → new ≡ now ++ v ∷ [] → lists_of new ≡ lists_of old ++ going_on schedule (core + 1)
push_more old now new schedule core v so is grown =
    ap lists_of grown ∙ (lists_of-push now v
    ∙ (ap (λ l. l ++ v.items ∷ []) so
    ∙ (ap (λ s. (lists_of old ++ going_on schedule core) ++ s ∷ []) is
    ∙ (append_assoc (lists_of old) (going_on schedule core) ((schedule ++ core ∷ []) ∷ [])
    ∙ ap (λ l. lists_of old ++ l) (sym (going_on-more schedule core))))))
