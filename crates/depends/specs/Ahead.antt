-- Whose turns schedules have.
-- Source: this project.
use Rattle.std.specs.Prelude.{◌≡◌, ℕ, ◌<◌, ◌≤◌}
use Rattle.depends.specs.declared.ahead.Plan.{Plan}

-- the core whose turn comes is one of these
pub record IsPlan (cores : ℕ) (plan : Plan) : Type 0 where
  pub core : plan.core < plan.window
  pub window : plan.window ≤ cores

-- and so it stays
pub record IsNext (old new : Plan) : Type 0 where
  pub core : old.core < old.window → new.core < new.window
  pub window : new.window ≡ old.window
