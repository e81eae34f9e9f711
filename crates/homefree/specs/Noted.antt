-- What the register notes: what one entry asks for, and the entries of hurt and of cancelled cores, by what the book keeps of the cores.
use Rattle.std.specs.Prelude.{◌≡◌, ℕ, ◌<◌, ◌==◌, ◌&&◌, not, Bool, List, [], length, Option, Some, None, is_some, vec_len, vec_capacity, if◌then◌else◌}
use Rattle.spec_history.specs.declared.entry.Entry.{Entry}
use Rattle.spec_history.specs.declared.entry.What.TheVariants.{Hurt, Cancel}
use Rattle.homefree.specs.declared.register.Register.{Register}
use Rattle.homefree.specs.declared.register.Running.{Running}
use Rattle.homefree.specs.Hurts.{entry, entry_for_each}
use Rattle.homefree.specs.Kept.{running_at}

-- the core is there and runs this, and there is room for an entry
pub record MayNoteOne (r : Register) (core : ℕ) (running : Option Running) : Type 0 where
  pub there : core < length r.running.items
  pub room : vec_len r.history < vec_capacity r.history
  pub runs : running_at r.running.items core ≡ running

-- the core runs this now, and each other one what it ran
pub record SetsRunning (old new : List (Option Running)) (core : ℕ) (now : Option Running) : Type 0 where
  pub len : length new ≡ length old
  pub each : (k : ℕ) → running_at new k ≡ (if k == core then now else running_at old k)

abbrev pub epoch_kept : Option Running → ℕ
epoch_kept None = 0
epoch_kept (Some now) = now.epoch

abbrev pub epoch_in : List (Option Running) → ℕ → ℕ
epoch_in running k = epoch_kept (running_at running k)

abbrev pub hurts_noted : ℕ → (ℕ → Bool) → List (Option Running) → ℕ → List Entry
hurts_noted by hurt running n = entry_for_each by hurt (λ k. Hurt (epoch_in running k)) n

-- another core that runs an epoch
abbrev pub other_kept : List (Option Running) → ℕ → ℕ → Bool
other_kept running by k = not (k == by) && is_some (running_at running k)

abbrev pub cancels_noted : ℕ → List (Option Running) → ℕ → List Entry
cancels_noted by running n = entry_for_each by (other_kept running by) (λ k. Cancel (epoch_in running k)) n

-- the entry of a core that is cancelled where it runs an epoch
abbrev pub cancel_noted : ℕ → List (Option Running) → ℕ → List Entry
cancel_noted by running k = if is_some (running_at running k) then entry by (Cancel (epoch_in running k)) else []
