-- On how many cores, and on which machine, a loop can be run.
-- Source: this project.
use Rattle.std.specs.Prelude.{◌≡◌, ◌⊎◌, ℕ, ◌<◌}
use Rattle.rv32_image.specs.Image.{LoadedImage}
use Rattle.rv32_image.specs.Machine.{IsMachineFor}
use Rattle.rv32_image.specs.Version.{limits_of}
use Rattle.violations.specs.Rule.{IsCoreCount}
use Rattle.trace_commands.specs.declared.store.MachineAsked.{MachineAsked}
use Rattle.trace_commands.specs.Stores.{machine_with, nothing_asked}

-- the image's version allows so many cores, there is such a machine, and memory is a whole number of its lines
pub record IsRunnable (image : LoadedImage) (cores : ℕ) : Type 0 where
  pub count : IsCoreCount image cores
  pub machine : IsMachineFor image.size image.machine

-- a machine is asked for, and there is no such machine, or memory isn't a whole number of its lines
abbrev pub HasNoMachine : MachineAsked → LoadedImage → Type 0
HasNoMachine asked image = (asked ≡ nothing_asked → ⊥) × (IsMachineFor image.size (machine_with asked image.machine) → ⊥)

-- why the loop can't be run on the machine that is asked for: the version doesn't allow so many cores, or there is none
abbrev pub IsUnrunnable : MachineAsked → LoadedImage → ℕ → Type 0
IsUnrunnable asked image cores = ((limits_of image.version).most_cores < cores) ⊎ HasNoMachine asked image
