-- Which schedules there are.
-- Source: this project.
use Rattle.std.specs.Prelude.{◌≡◌, ℕ, ◌^◌, ◌<◌, List, length, map, All, Contains, Vec}
use Rattle.std.specs.declared.alloc.Global.{Global}

-- the lists that vectors hold
abbrev pub lists_of : List (Vec ℕ Global) → List (List ℕ)
lists_of vectors = map (λ (v : Vec ℕ Global). v.items) vectors

-- so many turns of these cores
pub record IsSchedule (cores turns : ℕ) (schedule : List ℕ) : Type 0 where
  pub long : length schedule ≡ turns
  pub by_cores : All (λ core. core < cores) schedule

-- every schedule of so many turns, each once: there are so many, and each is there
pub record AreAllSchedules (cores turns : ℕ) (schedules : List (List ℕ)) : Type 0 where
  pub count : length schedules ≡ cores ^ turns
  pub each : All (IsSchedule cores turns) schedules
  pub every : (schedule : List ℕ) → IsSchedule cores turns schedule → Contains schedules schedule
