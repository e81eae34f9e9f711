-- The run of a book that its schedule has made, and a survey with it.
use Rattle.std.proofs.Common.{◌≡◌, ℕ, ◌+◌, ◌<◌, List, [], ◌∷◌, ◌++◌, All, length, get_or, take, Option, Some, None, Result, Err, IfErr, Vec, refl, sym, ap, subst, ◌∙◌, arith}
use Rattle.std.specs.declared.alloc.Global.{Global}
use Rattle.std.specs.List.{Contains}
use Rattle.std.proofs.lemmas.List.{get_or-map, length-map, length-take-le, map_push, take_more}
use Rattle.std.proofs.lemmas.List.Elements.{All-get_or, All-nil, All-push, Contains-get_or}
use Rattle.rv32_image.specs.Image.{LoadedImage}
use Rattle.rv32_exec.specs.declared.sequential.End.{End}
use Rattle.spec_history.specs.Replay.{replay}
use Rattle.spec_history.proofs.Replay.Replays.{replayed}
use Rattle.violations.specs.View.{StoreView, Waits}
use Rattle.violations.specs.Calls.{Call}
use Rattle.homefree.specs.declared.book.Loop.{Loop}
use Rattle.homefree.specs.declared.fault.TurnFault.{TurnFault}
use Rattle.homefree.specs.declared.fault.TurnFault.TheVariants.{HistoryFull, NoMemory}
use Rattle.homefree.specs.BookView.{BookView}
use Rattle.homefree.specs.InStep.{InStep}
use Rattle.homefree.specs.LockView.{loop_of}
use Rattle.replay_command.specs.declared.survey.Survey.{Survey}
use Rattle.all_schedules.specs.Schedules.{lists_of}
use Rattle.all_schedules.specs.Made.{IsFault, IsMade}
use Rattle.replay_command.specs.Adding.{AddsBook}
use Rattle.replay_command.specs.Survey.{IsEnd, IsFaultOfOne, IsRun, Run, Surveys}
use Rattle.all_schedules.proofs.Every.{lists_of-push}
use Rattle.replay_command.proofs.Surveying.{none_surveyed, surveyed_more}

module _ {S : Type 0} (starts : LoadedImage → ℕ → S → Type 0) (makes : S → Call → S → Type 0) (view : S → StoreView) (waits : S → Waits) (b : BookView S) (step : InStep view b) where
  -- an end is that of the sequential loop
  ends : (end : Option End) → step.state.end ≡ end → IsEnd b.image step.state end
  ends (Some end) over =
      let e = (replayed b.image b.cores b.history step.state step.is_image step.replays).ends end over in
      record { end_is = e.end_is; holds = e.holds }
  ends None going = tt

  abbrev run_of : List ℕ → Run
  run_of schedule = record { schedule = schedule; history = b.history; end = step.state.end }

  is_run_at : (l : Loop) (schedule : List ℕ) → loop_of b ≡ l → IsMade starts makes view waits l schedule b → IsRun starts makes view waits l (run_of schedule)
  is_run_at l schedule same made = record {
    result = made.result;
    makes = made.makes;
    state = step.state;
    replays = subst (λ (m : Loop). replay m.image m.cores b.history ≡ Some step.state) same step.replays;
    end_is = refl;
    in_order = subst (λ (m : Loop). IsEnd m.image step.state step.state.end) same (ends step.state.end refl);
  }

  pub is_run : (l : Loop) (schedule : List ℕ) → IsMade starts makes view waits l schedule b → IsRun starts makes view waits l (run_of schedule)
  is_run l schedule made = is_run_at l schedule made.loop made

module _ {S : Type 0} (starts : LoadedImage → ℕ → S → Type 0) (makes : S → Call → S → Type 0) (view : S → StoreView) (waits : S → Waits) (l : Loop) where
  -- no schedule so far
  pub surveys_none : (schedules : List (Vec ℕ Global)) (survey : Survey) → survey.over ≡ 0 → survey.traces.keys ≡ [] → survey.least ≡ None → survey.most ≡ None
      → Surveys starts makes view waits l (lists_of (take 0 schedules)) survey
  surveys_none schedules survey over traces least most = record {
    runs = [];
    schedules_are = refl;
    driven = All-nil (IsRun starts makes view waits l);
    come_to = none_surveyed l.cores survey over traces least most;
  }

  module _ (schedules : List (Vec ℕ Global)) (i : ℕ) (old : Survey) (so : Surveys starts makes view waits l (lists_of (take i schedules)) old) (below : i < length schedules) where
    runs_so_far : length so.runs ≡ i
    runs_so_far =
        sym (length-map so.runs (λ (run : Run). run.schedule))
        ∙ (ap length so.schedules_are
        ∙ (length-map (take i schedules) (λ (v : Vec ℕ Global). v.items) ∙ length-take-le i schedules (omega (arith, below))))

    -- a schedule more
    pub surveys_more : (d : Vec ℕ Global) (schedule : List ℕ) (b : BookView S) (new : Survey) → schedule ≡ (get_or schedules i d).items → IsMade starts makes view waits l schedule b
        → AddsBook view l.cores i b old new → Surveys starts makes view waits l (lists_of (take (i + 1) schedules)) new
    surveys_more d schedule b new is made adds =
        let run = run_of starts makes view waits b adds.step schedule in record {
          runs = so.runs ++ run ∷ [];
          schedules_are = map_push (λ (r : Run). r.schedule) so.runs run
              ∙ (ap (λ s. s ++ schedule ∷ []) so.schedules_are
              ∙ (ap (λ x. lists_of (take i schedules) ++ x ∷ []) is
              ∙ (sym (lists_of-push (take i schedules) (get_or schedules i d)) ∙ ap lists_of (sym (take_more schedules i d below)))));
          driven = All-push (IsRun starts makes view waits l) so.runs run so.driven (is_run starts makes view waits b adds.step l schedule made);
          come_to = surveyed_more l.cores i so.runs run old new (sym runs_so_far) so.come_to adds.adds;
        }

-- ---- one of the schedules

module _ (schedules : List (Vec ℕ Global)) (i : ℕ) (v : Vec ℕ Global) (schedule : List ℕ) (below : i < length schedules) (there : v ≡ get_or schedules i v)
    (is : schedule ≡ v.items) where
  within : i < length (lists_of schedules)
  within = omega (arith, below, length-map schedules (λ (w : Vec ℕ Global). w.items))

  place_is : schedule ≡ get_or (lists_of schedules) i []
  place_is = is ∙ (ap (λ (w : Vec ℕ Global). w.items) there ∙ sym (get_or-map (λ (w : Vec ℕ Global). w.items) schedules i v [] below))

  pub at_place : (P : List ℕ → Type 0) → All P (lists_of schedules) → P schedule
  at_place P all = subst P (sym place_is) (All-get_or P (lists_of schedules) i [] within all)

  contained : Contains (lists_of schedules) schedule
  contained = subst (Contains (lists_of schedules)) (sym place_is) (Contains-get_or (lists_of schedules) i [] within)

  -- its fault is one of theirs
  fault_of_one : {S : Type 0} (starts : LoadedImage → ℕ → S → Type 0) (makes : S → Call → S → Type 0) (view : S → StoreView) (waits : S → Waits) (l : Loop) (fault : TurnFault) → IsFault starts makes view waits l schedule fault
      → IsFaultOfOne starts makes view waits l (lists_of schedules) fault
  fault_of_one starts makes view waits l HistoryFull full = (schedule, contained, full)
  fault_of_one starts makes view waits l NoMemory full = tt

  pub faults_of_one : {S : Type 0} (starts : LoadedImage → ℕ → S → Type 0) (makes : S → Call → S → Type 0) (view : S → StoreView) (waits : S → Waits) (l : Loop) (fault told : TurnFault) (result : Result Survey TurnFault) → result ≡ Err told → told ≡ fault
      → IsFault starts makes view waits l schedule fault → IfErr result (IsFaultOfOne starts makes view waits l (lists_of schedules))
  faults_of_one starts makes view waits l fault told result failed same is_fault =
      subst (λ (r : Result Survey TurnFault). IfErr r (IsFaultOfOne starts makes view waits l (lists_of schedules))) (sym failed)
      (subst (IsFaultOfOne starts makes view waits l (lists_of schedules)) (sym same) (fault_of_one starts makes view waits l fault is_fault))
