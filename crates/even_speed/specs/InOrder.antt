-- How many instructions the loop executes in order, and how many steps it takes.
-- Source: this project.
use Rattle.std.specs.Prelude.{ℕ, zero, suc, ◌+◌}
use Rattle.rv32_image.specs.Image.{LoadedImage}
use Rattle.rv32_exec.specs.Sequential.{Progress, Runs, Ends, Faults, epoch_outcome, first_epochs}

-- where an epoch ends, how many instructions it has executed
abbrev pub executed_in : Progress → ℕ
executed_in (Ends h memory) = h.done
executed_in (Runs h memory) = 0
executed_in (Faults cause pc memory) = 0

-- of this epoch, over the memory that those before it leave
abbrev pub epoch_count : LoadedImage → ℕ → ℕ
epoch_count image epoch = executed_in (epoch_outcome image epoch (first_epochs image epoch).bytes)

-- how many the first n epochs execute
unfoldable pub instructions_in_order : LoadedImage → ℕ → ℕ
instructions_in_order image zero = 0
instructions_in_order image (suc n) = instructions_in_order image n + epoch_count image n

-- the first n epochs: each takes a step to begin, one for each instruction, and one to commit
unfoldable pub steps_in_order : LoadedImage → ℕ → ℕ
steps_in_order image zero = 0
steps_in_order image (suc n) = steps_in_order image n + (epoch_count image n + 2)
