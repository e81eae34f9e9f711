-- A survey grows by a run.
use Rattle.std.proofs.Common.{◌≡◌, ℕ, ◌+◌, ◌≤◌, nat_le, Bool, true, false, cond, List, [], ◌∷◌, ◌++◌, All, length, map, Option, Some, None, refl, sym, ap, subst, ◌∙◌, arith}
use Rattle.std.specs.List.{slice_get}
use Rattle.std.proofs.lemmas.Bool.Decides.{nat_tests}
use Rattle.std.proofs.lemmas.List.{get_or_append_left, get_or_push, length_push, map_push}
use Rattle.std.proofs.lemmas.List.Elements.{All-nil, All-push, All-weaker}
use Rattle.std.proofs.lemmas.List.Sums.{sum_by_push}
use Rattle.std.proofs.lemmas.Option.{get_or_from_slice_get, slice_get-get_or, slice_get_within}
use Rattle.replay_command.specs.declared.survey.Extreme.{Extreme}
use Rattle.replay_command.specs.declared.survey.Survey.{Survey}
use Rattle.all_schedules.specs.Schedules.{lists_of}
use Rattle.replay_command.specs.Adding.{Adds, greater, lesser}
use Rattle.replay_command.specs.Survey.{AreEachOnce, IsExtreme, IsLeast, IsMost, IsSurvey, Run, is_over, restarts_of, trace_of}
use Rattle.replay_command.proofs.Noting.{none_noted, noted}

-- a place of the runs is one of more runs
still_there : (runs : List Run) (new : Run) (i : ℕ) (run : Run) → slice_get runs i ≡ Some run → slice_get (runs ++ new ∷ []) i ≡ Some run
still_there runs new i run is =
    let below = slice_get_within runs i run is in
    slice_get-get_or (runs ++ new ∷ []) i run (omega (arith, below, length_push runs new))
    ∙ ap Some (get_or_append_left runs (new ∷ []) run i below ∙ get_or_from_slice_get runs i run run is)

newest_there : (runs : List Run) (new : Run) (i : ℕ) → i ≡ length runs → slice_get (runs ++ new ∷ []) i ≡ Some new
newest_there runs new i is =
    slice_get-get_or (runs ++ new ∷ []) i new (omega (arith, is, length_push runs new)) ∙ ap Some (get_or_push runs new new i (sym is))

still_extreme : (runs : List Run) (new : Run) (e : Extreme) → IsExtreme runs e → IsExtreme (runs ++ new ∷ []) e
still_extreme runs new e is = record {
  run = is.run;
  there = still_there runs new e.place is.run is.there;
  over = is.over;
  restarts = is.restarts;
}

abbrev extreme : ℕ → ℕ → Extreme
extreme place restarts = record { place = place; restarts = restarts }

module _ (runs : List Run) (new : Run) (place : ℕ) (at : place ≡ length runs) where
  abbrev found : Extreme
  found = extreme place (restarts_of new)

  newest_extreme : is_over new ≡ true → IsExtreme (runs ++ new ∷ []) found
  newest_extreme over = record { run = new; there = newest_there runs new place at; over = over; restarts = refl }

  -- ---- the fewest

  abbrev NotFewer : ℕ → Run → Type 0
  NotFewer n run = is_over run ≡ true → n ≤ restarts_of run

  fewest : (n m : ℕ) → m ≤ n → All (NotFewer n) runs → All (NotFewer m) runs
  fewest n m less all = All-weaker (NotFewer n) (NotFewer m) (λ run is over. omega (arith, less, is over)) runs all

  none_fewer : (n : ℕ) → All (λ run. is_over run ≡ false) runs → All (NotFewer n) runs
  none_fewer n none = All-weaker (λ run. is_over run ≡ false) (NotFewer n) (λ run off over. absurd cc) runs none

  lesser_by : (old : Extreme) (b : Bool) → IsLeast runs (Some old) → is_over new ≡ true → (b ≡ true → old.restarts ≤ restarts_of new)
      → (b ≡ false → restarts_of new ≤ old.restarts) → IsLeast (runs ++ new ∷ []) (Some (cond b old found))
  lesser_by old true is over least more =
      (still_extreme runs new old is.0, All-push (NotFewer old.restarts) runs new is.1 (λ _. least refl))
  lesser_by old false is over least more =
      (newest_extreme over, All-push (NotFewer (restarts_of new)) runs new (fewest old.restarts (restarts_of new) (more refl) is.1) (λ _. omega arith))

  least_over : (old : Option Extreme) → IsLeast runs old → is_over new ≡ true → IsLeast (runs ++ new ∷ []) (Some (lesser old found))
  least_over None none over =
      (newest_extreme over, All-push (NotFewer (restarts_of new)) runs new (none_fewer (restarts_of new) none) (λ _. omega arith))
  least_over (Some old) is over =
      lesser_by old (nat_le old.restarts (restarts_of new)) is over (λ e. grind (arith, nat_tests, e)) (λ e. grind (arith, nat_tests, e))

  least_open : (old : Option Extreme) → IsLeast runs old → is_over new ≡ false → IsLeast (runs ++ new ∷ []) old
  least_open None none off = All-push (λ run. is_over run ≡ false) runs new none off
  least_open (Some old) is off = (still_extreme runs new old is.0, All-push (NotFewer old.restarts) runs new is.1 (λ over. absurd cc))

  -- ---- the most

  abbrev NotMore : ℕ → Run → Type 0
  NotMore n run = is_over run ≡ true → restarts_of run ≤ n

  greatest : (n m : ℕ) → n ≤ m → All (NotMore n) runs → All (NotMore m) runs
  greatest n m less all = All-weaker (NotMore n) (NotMore m) (λ run is over. omega (arith, less, is over)) runs all

  none_more : (n : ℕ) → All (λ run. is_over run ≡ false) runs → All (NotMore n) runs
  none_more n none = All-weaker (λ run. is_over run ≡ false) (NotMore n) (λ run off over. absurd cc) runs none

  greater_by : (old : Extreme) (b : Bool) → IsMost runs (Some old) → is_over new ≡ true → (b ≡ true → restarts_of new ≤ old.restarts)
      → (b ≡ false → old.restarts ≤ restarts_of new) → IsMost (runs ++ new ∷ []) (Some (cond b old found))
  greater_by old true is over most less =
      (still_extreme runs new old is.0, All-push (NotMore old.restarts) runs new is.1 (λ _. most refl))
  greater_by old false is over most less =
      (newest_extreme over, All-push (NotMore (restarts_of new)) runs new (greatest old.restarts (restarts_of new) (less refl) is.1) (λ _. omega arith))

  most_over : (old : Option Extreme) → IsMost runs old → is_over new ≡ true → IsMost (runs ++ new ∷ []) (Some (greater old found))
  most_over None none over =
      (newest_extreme over, All-push (NotMore (restarts_of new)) runs new (none_more (restarts_of new) none) (λ _. omega arith))
  most_over (Some old) is over =
      greater_by old (nat_le (restarts_of new) old.restarts) is over (λ e. grind (arith, nat_tests, e)) (λ e. grind (arith, nat_tests, e))

  most_open : (old : Option Extreme) → IsMost runs old → is_over new ≡ false → IsMost (runs ++ new ∷ []) old
  most_open None none off = All-push (λ run. is_over run ≡ false) runs new none off
  most_open (Some old) is off = (still_extreme runs new old is.0, All-push (NotMore old.restarts) runs new is.1 (λ over. absurd cc))

  -- ---- either way

  least_by : (b : Bool) (old : Option Extreme) → IsLeast runs old → is_over new ≡ b → IsLeast (runs ++ new ∷ []) (cond b (Some (lesser old found)) old)
  least_by true old is over = least_over old is over
  least_by false old is off = least_open old is off

  most_by : (b : Bool) (old : Option Extreme) → IsMost runs old → is_over new ≡ b → IsMost (runs ++ new ∷ []) (cond b (Some (greater old found)) old)
  most_by true old is over = most_over old is over
  most_by false old is off = most_open old is off

-- of no runs
pub none_surveyed : (cores : ℕ) (survey : Survey) → survey.over ≡ 0 → survey.traces.keys ≡ [] → survey.least ≡ None → survey.most ≡ None → IsSurvey cores [] survey
none_surveyed cores survey over traces least most = record {
  over = over;
  traces = subst (λ l. AreEachOnce [] (lists_of l)) (sym traces) none_noted;
  least = subst (IsLeast []) (sym least) (All-nil (λ run. is_over run ≡ false));
  most = subst (IsMost []) (sym most) (All-nil (λ run. is_over run ≡ false));
}

-- of a run more
pub surveyed_more : (cores place : ℕ) (runs : List Run) (new : Run) (old now : Survey) → place ≡ length runs → IsSurvey cores runs old
    → Adds place (is_over new) (restarts_of new) (trace_of cores new) old now → IsSurvey cores (runs ++ new ∷ []) now
surveyed_more cores place runs new old now at so adds = record {
  over = adds.over ∙ (ap (λ n. n + cond (is_over new) 1 0) so.over ∙ sym (sum_by_push (λ run. cond (is_over run) 1 0) runs new));
  traces = subst (λ all. AreEachOnce all (lists_of now.traces.keys)) (sym (map_push (trace_of cores) runs new))
      (noted (map (trace_of cores) runs) (lists_of old.traces.keys) (lists_of now.traces.keys) (trace_of cores new) so.traces adds.traces);
  least = subst (IsLeast (runs ++ new ∷ [])) (sym adds.least) (least_by runs new place at (is_over new) old.least so.least refl);
  most = subst (IsMost (runs ++ new ∷ [])) (sym adds.most) (most_by runs new place at (is_over new) old.most so.most refl);
}
