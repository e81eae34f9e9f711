-- How the numbers of attempts are noted, entry by entry.
use Rattle.std.proofs.Common.{◌≡◌, ◌≢◌, ℕ, zero, suc, ◌+◌, ◌<◌, ◌≤◌, ◌==◌, ◌&&◌, Bool, true, false, cond, nat_lt, List, Option, Some, None, is_some, option_map, unwrap_or, slice_get, refl, sym, ap, subst, ◌∙◌, inl, inr, arith, add-one, lt-ltb, le-ltb, eq-eqb, ne_eqb}
use Rattle.std.proofs.lemmas.Bool.{and_right, cases_eq}
use Rattle.std.specs.BTreeMap.{BTreeMap, IsEmpty, Updates, get, is_at}
use Rattle.std.specs.Map.{lookup}
use Rattle.std.specs.Ordering.{nat_cmp}
use Rattle.spec_history.specs.declared.entry.Entry.{Entry}
use Rattle.spec_history.specs.declared.entry.What.{What}
use Rattle.spec_history.specs.declared.entry.What.TheVariants.{Start, Load, Store, Hurt, Cancel, Restart, Publish, Commit, Fault}
use Rattle.spec_history.specs.Conflict.{passes}
use Rattle.spec_history.specs.Searches.{count_below, last_below}
use Rattle.conflicts.specs.Attempts.{attempt_number, core_does, is_after, is_begin, is_start}
use Rattle.conflicts.proofs.Backwards.{last_at}
use Rattle.conflicts.proofs.Numbering.{no_one, one_in, other_in}
use Rattle.conflict_findings.specs.Numbers.{AreNumbers, begun_by, run_before}
use Rattle.conflict_findings.proofs.Grouping.{same_number}

-- ---- the entry at a place

does_there : (entries : List Entry) (core place : ℕ) (entry : Entry) (test : What → Bool) → slice_get entries place ≡ Some entry
    → core_does entries core place test ≡ ((entry.by == core) && test entry.what)
does_there entries core place entry test there = ap (λ (o : Option Entry). passes o (λ (e : Entry). (e.by == core) && test e.what)) there

own_there : (entries : List Entry) (place : ℕ) (entry : Entry) (test : What → Bool) → slice_get entries place ≡ Some entry → core_does entries entry.by place test ≡ test entry.what
own_there entries place entry test there =
    does_there entries entry.by place entry test there ∙ ap (λ b. b && test entry.what) (eq-eqb entry.by entry.by refl)

other_there : (entries : List Entry) (core place : ℕ) (entry : Entry) (test : What → Bool) → slice_get entries place ≡ Some entry → entry.by ≢ core → core_does entries core place test ≡ false
other_there entries core place entry test there apart =
    does_there entries core place entry test there ∙ ap (λ b. b && test entry.what) (ne_eqb entry.by core apart)

-- ---- the last that starts, and how many begin after it

abbrev number_of : (ℕ → Bool) → (ℕ → Bool) → ℕ → ℕ
number_of starts begins n = count_below n (λ j. is_after (last_below n starts) j && begins j) + 1

last_suc : (n : ℕ) (test : ℕ → Bool) → test n ≡ false → last_below (suc n) test ≡ last_below n test
unfolding last_below
last_suc n test fails = rw fails refl

last_same : (n : ℕ) (test : ℕ → Bool) → test n ≡ false → last_below (n + 1) test ≡ last_below n test
last_same n test fails = ap (λ k. last_below k test) (add-one n) ∙ last_suc n test fails

last_here : (n : ℕ) (test : ℕ → Bool) → test n ≡ true → last_below (n + 1) test ≡ Some n
last_here n test passes = last_at (n + 1) test n (omega arith) passes (λ j after below. absurd (omega (arith, after, below)))

bound_more : (n : ℕ) (test : ℕ → Bool) (s : ℕ) (b : Bool) → test n ≡ b → (last_below n test ≡ Some s → s < n) → last_below (suc n) test ≡ Some s → s < suc n
bound_more n test s true here before is =
    let same : Some n ≡ Some s = sym (last_here n test here) ∙ (ap (λ k. last_below k test) (add-one n) ∙ is) in
    let e : n ≡ s = cc in
    omega (arith, e)
bound_more n test s false here before is = let below : s < n = before (sym (last_suc n test here) ∙ is) in omega (arith, below)

bound : (n : ℕ) (test : ℕ → Bool) (s : ℕ) → last_below n test ≡ Some s → s < n
unfolding last_below
bound zero test s is = absurd cc
bound (suc n) test s is = bound_more n test s (test n) refl (bound n test s) is

-- none begins after the one that starts here
started_here : (starts begins : ℕ → Bool) (n : ℕ) → starts n ≡ true → number_of starts begins (n + 1) ≡ 1
started_here starts begins n is =
    let none = no_one (n + 1) (λ k. nat_lt n k && begins k) (λ k under. ap (λ b. b && begins k) (le-ltb n k (omega (arith, under)))) in
    let zeros : count_below (n + 1) (λ j. is_after (last_below (n + 1) starts) j && begins j) ≡ 0 =
    ap (λ (o : Option ℕ). count_below (n + 1) (λ j. is_after o j && begins j)) (last_here n starts is) ∙ none in
    omega (arith, zeros)

-- where it doesn't start, the same are counted, and this one too, if it begins
counted_on : (starts begins : ℕ → Bool) (n : ℕ) → starts n ≡ false
    → number_of starts begins (n + 1) ≡ count_below (n + 1) (λ j. is_after (last_below n starts) j && begins j) + 1
counted_on starts begins n is = ap (λ (o : Option ℕ). count_below (n + 1) (λ j. is_after o j && begins j) + 1) (last_same n starts is)

not_begun : (starts begins : ℕ → Bool) (n : ℕ) → starts n ≡ false → begins n ≡ false → number_of starts begins (n + 1) ≡ number_of starts begins n
not_begun starts begins n is fails =
    let after : ℕ → Bool = λ j. is_after (last_below n starts) j && begins j in
    let here : after n ≡ false = and_right (is_after (last_below n starts) n) _ fails in
    counted_on starts begins n is ∙ ap (λ k. k + 1) (other_in n after here)

by_last : (begins : ℕ → Bool) (n : ℕ) (last : Option ℕ) (started : Bool) → ((s : ℕ) → last ≡ Some s → s < n) → started ≡ is_some last → begins n ≡ true
    → count_below (n + 1) (λ j. is_after last j && begins j) + 1 ≡ cond started (count_below n (λ j. is_after last j && begins j) + 1 + 1) (count_below n (λ j. is_after last j && begins j) + 1)
by_last begins n (Some s) true below is begun =
    let here : (nat_lt s n && begins n) ≡ true = ap (λ b. b && begins n) (lt-ltb s n (below s refl)) ∙ begun in
    ap (λ k. k + 1) (one_in n (λ j. nat_lt s j && begins j) here)
by_last begins n (Some s) false below is begun = absurd cc
by_last begins n None true below is begun = absurd cc
by_last begins n None false below is begun = ap (λ k. k + 1) (other_in n (λ j. is_after None j && begins j) refl)

begun_again : (starts begins : ℕ → Bool) (n : ℕ) (started : Bool) → starts n ≡ false → begins n ≡ true → started ≡ is_some (last_below n starts)
    → number_of starts begins (n + 1) ≡ cond started (number_of starts begins n + 1) (number_of starts begins n)
begun_again starts begins n started is begun some =
    counted_on starts begins n is ∙ by_last begins n (last_below n starts) started (λ s at. bound n starts s at) some begun

-- ---- one place further

abbrev starts_in : List Entry → ℕ → ℕ → Bool
starts_in entries core j = core_does entries core j is_start

abbrev begins_in : List Entry → ℕ → ℕ → Bool
begins_in entries core j = core_does entries core j is_begin

started_run : (entries : List Entry) (core place : ℕ) → starts_in entries core place ≡ true → run_before entries core (place + 1) ≡ Some 1
started_run entries core place is =
    ap (option_map (λ (start : ℕ). attempt_number entries core (place + 1))) (last_here place (starts_in entries core) is)
    ∙ ap Some (started_here (starts_in entries core) (begins_in entries core) place is)

same_run : (entries : List Entry) (core place : ℕ) → starts_in entries core place ≡ false → begins_in entries core place ≡ false → run_before entries core (place + 1) ≡ run_before entries core place
same_run entries core place no_start no_begin =
    ap (option_map (λ (start : ℕ). attempt_number entries core (place + 1))) (last_same place (starts_in entries core) no_start)
    ∙ ap (λ (n : ℕ). option_map (λ (start : ℕ). n) (last_below place (starts_in entries core))) (not_begun (starts_in entries core) (begins_in entries core) place no_start no_begin)

next_by : (n m : ℕ) (last : Option ℕ) → m ≡ cond (is_some last) (n + 1) n → option_map (λ (start : ℕ). m) last ≡ option_map (λ k. k + 1) (option_map (λ (start : ℕ). n) last)
next_by n m None is = refl
next_by n m (Some start) is = ap Some is

next_run : (entries : List Entry) (core place : ℕ) → starts_in entries core place ≡ false → begins_in entries core place ≡ true
    → run_before entries core (place + 1) ≡ option_map (λ k. k + 1) (run_before entries core place)
next_run entries core place no_start begun =
    ap (option_map (λ (start : ℕ). attempt_number entries core (place + 1))) (last_same place (starts_in entries core) no_start)
    ∙ next_by (attempt_number entries core place) (attempt_number entries core (place + 1)) (last_below place (starts_in entries core))
    (begun_again (starts_in entries core) (begins_in entries core) place (is_some (last_below place (starts_in entries core))) no_start begun refl)

-- the run that a core is in after it did this in that run
abbrev run_after : What → Option ℕ → Option ℕ
run_after (Start epoch) run = Some 1
run_after Restart run = option_map (λ n. n + 1) run
run_after what run = run

own_run : (entries : List Entry) (core place : ℕ) (what : What) → ((test : What → Bool) → core_does entries core place test ≡ test what)
    → run_before entries core (place + 1) ≡ run_after what (run_before entries core place)
own_run entries core place (Start epoch) does = started_run entries core place (does is_start)
own_run entries core place Restart does = next_run entries core place (does is_start) (does is_begin)
own_run entries core place (Load address width value) does = same_run entries core place (does is_start) (does is_begin)
own_run entries core place (Store address width value) does = same_run entries core place (does is_start) (does is_begin)
own_run entries core place (Hurt epoch) does = same_run entries core place (does is_start) (does is_begin)
own_run entries core place (Cancel epoch) does = same_run entries core place (does is_start) (does is_begin)
own_run entries core place Publish does = same_run entries core place (does is_start) (does is_begin)
own_run entries core place Commit does = same_run entries core place (does is_start) (does is_begin)
own_run entries core place (Fault cause pc) does = same_run entries core place (does is_start) (does is_begin)

-- ---- what is kept

-- a run begins
begun_run : (what : What) (run : Option ℕ) (n : ℕ) → begun_by what run ≡ Some n → run_after what run ≡ Some n
begun_run (Start epoch) run n is = is
begun_run Restart run n is = is
begun_run what run n is = absurd cc

-- none begins
no_run : (what : What) (run : Option ℕ) → begun_by what run ≡ None → run_after what run ≡ run
no_run (Start epoch) run is = absurd cc
no_run Restart None is = refl
no_run Restart (Some n) is = absurd cc
no_run what run is = refl

few_begun : (what : What) (run : Option ℕ) (n place : ℕ) → ((m : ℕ) → run ≡ Some m → m ≤ place) → begun_by what run ≡ Some n → n ≤ place + 1
few_begun (Start epoch) run n place few is = let one : 1 ≡ n = cc in omega (arith, one)
few_begun Restart None n place few is = absurd cc
few_begun Restart (Some m) n place few is = let one : m + 1 ≡ n = cc in omega (arith, one, few m refl)
few_begun what run n place few is = absurd cc

other_run : (entries : List Entry) (core place : ℕ) (entry : Entry) → slice_get entries place ≡ Some entry → entry.by ≢ core → run_before entries core (place + 1) ≡ run_before entries core place
other_run entries core place entry there apart =
    same_run entries core place (other_there entries core place entry is_start there apart) (other_there entries core place entry is_begin there apart)

-- the entry begins this run, which is kept
pub run_noted : (entries : List Entry) (place n : ℕ) (entry : Entry) (old new : BTreeMap ℕ ℕ) → slice_get entries place ≡ Some entry → Some n ≡ begun_by entry.what (get nat_cmp old entry.by)
    → AreNumbers entries (record { place = place; runs = old }) → Updates nat_cmp old new entry.by (Some n) → AreNumbers entries (record { place = place + 1; runs = new })
run_noted entries place n entry old new there is was updates = record {
  runs_are = λ core. elim (cases_eq entry.by core) [
    | inl e ↦ subst (λ k. get nat_cmp new k ≡ run_before entries k (place + 1)) e
        (updates.1 ∙ sym (own_run entries entry.by place entry.what (λ test. own_there entries place entry test there)
        ∙ (ap (run_after entry.what) (sym (was.runs_are entry.by)) ∙ begun_run entry.what (get nat_cmp old entry.by) n (sym is))))
    | inr apart ↦ updates.2 core (same_number entry.by core ∙ ne_eqb entry.by core apart) ∙ (was.runs_are core ∙ sym (other_run entries core place entry there apart))
  ];
  few = λ core run kept. elim (cases_eq entry.by core) [
    | inl e ↦
        let same : Some n ≡ Some run = sym updates.1 ∙ (ap (get nat_cmp new) e ∙ kept) in
        let one : n ≡ run = cc in
        omega (arith, one, few_begun entry.what (get nat_cmp old entry.by) n place (λ m. was.few entry.by m) (sym is))
    | inr apart ↦ omega (arith, was.few core run (sym (updates.2 core (same_number entry.by core ∙ ne_eqb entry.by core apart)) ∙ kept))
  ];
}

-- the entry begins none
pub none_noted : (entries : List Entry) (place : ℕ) (entry : Entry) (runs : BTreeMap ℕ ℕ) → slice_get entries place ≡ Some entry → None ≡ begun_by entry.what (get nat_cmp runs entry.by)
    → AreNumbers entries (record { place = place; runs = runs }) → AreNumbers entries (record { place = place + 1; runs = runs })
none_noted entries place entry runs there is was = record {
  runs_are = λ core. elim (cases_eq entry.by core) [
    | inl e ↦ subst (λ k. get nat_cmp runs k ≡ run_before entries k (place + 1)) e
        (sym (own_run entries entry.by place entry.what (λ test. own_there entries place entry test there)
        ∙ (ap (run_after entry.what) (sym (was.runs_are entry.by)) ∙ no_run entry.what (get nat_cmp runs entry.by) (sym is))))
    | inr apart ↦ was.runs_are core ∙ sym (other_run entries core place entry there apart)
  ];
  few = λ core run kept. omega (arith, was.few core run kept);
}

-- before the history none has begun
none_run : (entries : List Entry) (core : ℕ) → run_before entries core 0 ≡ None
unfolding last_below
none_run entries core = refl

pub no_runs : (entries : List Entry) (runs : BTreeMap ℕ ℕ) → IsEmpty runs → AreNumbers entries (record { place = 0; runs = runs })
no_runs entries runs empty =
    let none : (core : ℕ) → get nat_cmp runs core ≡ None = λ core. ap (lookup (is_at (nat_cmp core))) empty in record {
      runs_are = λ core. none core ∙ sym (none_run entries core);
      few = λ core run kept. absurd (let clash : None ≡ Some run = sym (none core) ∙ kept in cc);
    }

-- ---- the answer

at_hand_by : (starts begins : ℕ → Bool) (n : ℕ) (last : Option ℕ) → last_below n starts ≡ last → unwrap_or (option_map (λ (start : ℕ). number_of starts begins n) last) 1 ≡ number_of starts begins n
at_hand_by starts begins n None is =
    let none : count_below n (λ j. is_after (last_below n starts) j && begins j) ≡ 0 =
    ap (λ (o : Option ℕ). count_below n (λ j. is_after o j && begins j)) is ∙ no_one n (λ j. is_after None j && begins j) (λ k below. refl) in
    omega (arith, none)
at_hand_by starts begins n (Some start) is = refl

pub at_hand : (entries : List Entry) (core place : ℕ) (runs : BTreeMap ℕ ℕ) → AreNumbers entries (record { place = place; runs = runs })
    → unwrap_or (get nat_cmp runs core) 1 ≡ attempt_number entries core place
at_hand entries core place runs are =
    ap (λ (o : Option ℕ). unwrap_or o 1) (are.runs_are core)
    ∙ at_hand_by (starts_in entries core) (begins_in entries core) place (last_below place (starts_in entries core)) refl
