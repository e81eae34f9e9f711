-- The sequential loop: the epochs in order, each over the memory that the one before it left.
use Rattle.std.specs.Prelude.{ℕ, zero, suc, ◌+◌, ◌==◌, ◌&&◌, not, Bool, List, Option, Some, None, slice_index, option_and_then, if◌then◌else◌}
use Rattle.rv32_exec.specs.Faults.{instruction_limit}
use Rattle.rv32_exec.specs.declared.stop.Stop.{Stop}
use Rattle.rv32_exec.specs.declared.stop.Stop.TheVariants as stop
use Rattle.rv32_exec.specs.declared.sequential.End.{End}
use Rattle.rv32_exec.specs.declared.sequential.End.TheVariants.{Done, Exit, Fault}
use Rattle.memory_bytes.specs.Bytes.{number_at, with_number}
use Rattle.rv32_image.specs.Image.{LoadedImage}
use Rattle.rv32_exec.specs.Hart.{HartState, start_of, stepped}
use Rattle.rv32_exec.specs.Execute.{hart_effect, match_effect, after_load}

-- how far an epoch has come, and the memory there
pub data Progress : Type 0 where
  -- it runs, with this hart
  Runs : HartState → List ℕ → Progress
  -- it ended, with this hart
  Ends : HartState → List ℕ → Progress
  -- it faulted, with this cause and pc
  Faults : ℕ → ℕ → List ℕ → Progress

-- what comes of a stop: an access to data is made, and its instruction is complete
abbrev pub after_stop : HartState → List ℕ → Stop → Progress
after_stop h memory (stop.Load address width signed rd) =
    Runs (after_load h width signed rd (number_at (λ a. slice_index memory a) address width)) memory
after_stop h memory (stop.Store address width value) = Runs (stepped h) (with_number memory address width value)
after_stop h memory stop.Ended = Ends h memory
after_stop h memory (stop.Fault cause pc) = Faults cause pc memory

-- one whole instruction
unfoldable pub execute : LoadedImage → HartState → List ℕ → Progress
execute image h memory = match_effect (hart_effect image h) (λ after. Runs after memory) (after_stop h memory)

-- a run goes on where it has not stopped
abbrev pub go_on : Progress → (HartState → List ℕ → Progress) → Progress
go_on (Runs h memory) next = next h memory
go_on (Ends h memory) next = Ends h memory
go_on (Faults cause pc memory) next = Faults cause pc memory

-- so many whole instructions, or fewer where one stops
unfoldable pub after_steps : LoadedImage → ℕ → HartState → List ℕ → Progress
after_steps image zero h memory = Runs h memory
after_steps image (suc n) h memory = go_on (execute image h memory) (after_steps image n)

-- the epoch from its start to its end or fault, which it meets within its limit
unfoldable pub epoch_outcome : LoadedImage → ℕ → List ℕ → Progress
epoch_outcome image epoch memory = after_steps image (image.limit + 1) (start_of image epoch) memory

-- how a run of the loop ended, and its memory then
pub record SequentialResult : Type 0 where
  pub end : End
  pub bytes : List ℕ

-- an epoch that ends with this hart exits the loop: the image allows it, and x10 (a0) is not 0
abbrev pub exits : LoadedImage → HartState → Bool
exits image h = image.exit && not (slice_index h.x 10 == 0)

-- how the loop ends where the epoch that ended with this hart was its last
abbrev pub end_of : LoadedImage → ℕ → HartState → End
end_of image epoch h = if exits image h then Exit epoch else Done (epoch + 1)

-- the loop's result where this was its last epoch; that an epoch still runs past its limit never happens
abbrev pub result_of : LoadedImage → ℕ → Progress → SequentialResult
result_of image epoch (Ends h memory) = record { end = end_of image epoch h; bytes = memory }
result_of image epoch (Faults cause pc memory) = record { end = Fault epoch cause pc; bytes = memory }
result_of image epoch (Runs h memory) = record { end = Fault epoch instruction_limit h.pc; bytes = memory }

-- an epoch runs where those before it are done
abbrev pub then_epoch : SequentialResult → End → (List ℕ → SequentialResult) → SequentialResult
then_epoch before (Done n) next = next before.bytes
then_epoch before (Exit epoch) next = before
then_epoch before (Fault epoch cause pc) next = before

-- the first epochs of the loop, or those up to the first that faults or exits
unfoldable pub first_epochs : LoadedImage → ℕ → SequentialResult
first_epochs image zero = record { end = Done 0; bytes = image.bytes }
first_epochs image (suc k) =
    let before = first_epochs image k in then_epoch before before.end (λ memory. result_of image k (epoch_outcome image k memory))

-- the whole loop
unfoldable pub sequential_result : LoadedImage → SequentialResult
sequential_result image = first_epochs image image.epochs

abbrev pub memory_if_done : ℕ → SequentialResult → End → Option (List ℕ)
memory_if_done k result (Done n) = Some result.bytes
memory_if_done k result (Exit epoch) = if epoch + 1 == k then Some result.bytes else None
memory_if_done k result (Fault epoch cause pc) = None

-- memory after the first k epochs, where none of them faults and none before the last of them exits
unfoldable pub sequential_memory : LoadedImage → ℕ → Option (List ℕ)
sequential_memory image k = let result = first_epochs image k in memory_if_done k result result.end

abbrev pub memory_if_runs : Progress → Option (List ℕ)
memory_if_runs (Runs h memory) = Some memory
memory_if_runs (Ends h memory) = None
memory_if_runs (Faults cause pc memory) = None

-- memory after the epochs before `homefree` and its first k instructions, where none of them stops
unfoldable pub published_memory : LoadedImage → ℕ → ℕ → Option (List ℕ)
published_memory image homefree k =
    option_and_then (λ memory. memory_if_runs (after_steps image k (start_of image homefree) memory)) (sequential_memory image homefree)
