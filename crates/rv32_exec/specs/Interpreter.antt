-- What the interpreter's loop does with one instruction, and how far it has come.
use Rattle.std.specs.Prelude.{◌≡◌, ◌⊎◌, ℕ, ◌+◌, ◌-◌, ◌*◌, ◌/◌, ◌%◌, ◌^◌, ◌<◌, ◌≤◌, Bool, true, false, nat_lt, List, length, slice_index, if◌then◌else◌}
use Rattle.rv32_exec.specs.Faults.{misaligned_target}
use Rattle.rv32_exec.specs.declared.stop.Stop.{Stop}
use Rattle.rv32_exec.specs.declared.stop.Stop.TheVariants as stop
use Rattle.rv32_exec.specs.declared.instruction.Way.{Way}
use Rattle.rv32_exec.specs.declared.instruction.Way.TheVariants.{Following, By, To, Loaded, Stored, Fault, Access}
use Rattle.rv32_exec.specs.declared.interpreter.Left.{Left}
use Rattle.rv32_exec.specs.declared.interpreter.Why.{Why}
use Rattle.rv32_exec.specs.declared.interpreter.Why.TheVariants as why
use Rattle.rv32_exec.specs.declared.interpreter.Place.{Place}
use Rattle.rv32_image.specs.Decoded.{kept_of, word_in}
use Rattle.rv32_image.specs.Image.{LoadedImage}
use Rattle.rv32_exec.specs.Hart.{HartState}
use Rattle.rv32_exec.specs.Execute.{Effect, Executes, Stops, hart_effect, instruction_effect, match_effect}
use Rattle.rv32_exec.specs.NextEvent.{next_event}
use Rattle.rv32_exec.specs.Sequential.{Progress, Runs, after_steps, after_stop}

abbrev pub hart : List ℕ → ℕ → ℕ → HartState
hart x pc done = record { x = x; pc = pc; done = done }

-- how far the epoch is after an instruction with this effect, its access to data made
abbrev pub after_effect : HartState → List ℕ → Effect → Progress
after_effect h memory effect = match_effect effect (λ after. Runs after memory) (after_stop h memory)

-- the stop is an end or a fault
abbrev pub IsNoAccess : Stop → Type 0
IsNoAccess (stop.Load address width signed rd) = ⊥
IsNoAccess (stop.Store address width value) = ⊥
IsNoAccess stop.Ended = Unit {0}
IsNoAccess (stop.Fault cause pc) = Unit {0}

-- the stop is an access
abbrev pub IsAnAccess : Stop → Type 0
IsAnAccess (stop.Load address width signed rd) = Unit {0}
IsAnAccess (stop.Store address width value) = Unit {0}
IsAnAccess stop.Ended = ⊥
IsAnAccess (stop.Fault cause pc) = ⊥

-- so many words on, modulo 2^64, are those of an offset that is whole words
abbrev pub is_whole : ℕ → Bool
is_whole by = nat_lt ((by + 2 ^ 29) % 2 ^ 64) (2 ^ 30)

-- the effect is a stop at a load of so many bytes from this address on
abbrev pub IsLoadOf : Effect → ℕ → ℕ → Type 0
IsLoadOf (Executes after) address width = ⊥
IsLoadOf (Stops (stop.Load from wide signed rd)) address width = (from ≡ address) × (wide ≡ width)
IsLoadOf (Stops (stop.Store from wide value)) address width = ⊥
IsLoadOf (Stops stop.Ended) address width = ⊥
IsLoadOf (Stops (stop.Fault cause pc)) address width = ⊥

-- it is one at a store
abbrev pub IsStoreOf : Effect → ℕ → ℕ → Type 0
IsStoreOf (Executes after) address width = ⊥
IsStoreOf (Stops (stop.Load from wide signed rd)) address width = ⊥
IsStoreOf (Stops (stop.Store from wide value)) address width = (from ≡ address) × (wide ≡ width)
IsStoreOf (Stops stop.Ended) address width = ⊥
IsStoreOf (Stops (stop.Fault cause pc)) address width = ⊥

-- the instruction of this word, with this effect, leads to these registers and this memory, and to the word that the answer says, or it faults
-- or stops at an access; where there is no memory, no load or store is made
abbrev pub Leads : LoadedImage → ℕ → HartState → List ℕ → Effect → Way → Stop → List ℕ → List ℕ → Type 0
Leads image word h memory effect Following at x memory' =
    (effect ≡ Executes (hart x ((h.pc + 4) % 2 ^ 32) (h.done + 1))) × (memory' ≡ memory)
Leads image word h memory effect (By by) at x memory' =
    (is_whole by ≡ true → effect ≡ Executes (hart x (4 * ((word + by) % 2 ^ 30)) (h.done + 1))) × (memory' ≡ memory)
    × (is_whole by ≡ false → (x ≡ h.x) × (effect ≡ Stops (stop.Fault misaligned_target h.pc)))
Leads image word h memory effect (To to) at x memory' = (effect ≡ Executes (hart x (4 * to) (h.done + 1))) × (memory' ≡ memory)
Leads image word h memory effect (Loaded address width) at x memory' =
    (after_effect h memory effect ≡ Runs (hart x ((h.pc + 4) % 2 ^ 32) (h.done + 1)) memory') × IsLoadOf effect address width × (length memory ≡ 0 → ⊥)
Leads image word h memory effect (Stored address width) at x memory' =
    (after_effect h memory effect ≡ Runs (hart x ((h.pc + 4) % 2 ^ 32) (h.done + 1)) memory') × IsStoreOf effect address width × (length memory ≡ 0 → ⊥)
Leads image word h memory effect (Fault cause) at x memory' = (x ≡ h.x) × (memory' ≡ memory) × (effect ≡ Stops (stop.Fault cause h.pc))
Leads image word h memory effect Access at x memory' =
    (x ≡ h.x) × (memory' ≡ memory) × (effect ≡ Stops at) × IsAnAccess at × (length memory < image.size)

-- how far a jump is: by the words of an offset, or to a word that has an address
abbrev pub Lands : Way → Type 0
Lands Following = Unit {0}
Lands (By by) = (by + 2 ^ 29) % 2 ^ 64 < 2 ^ 31
Lands (To to) = to < 2 ^ 30
Lands (Loaded address width) = Unit {0}
Lands (Stored address width) = Unit {0}
Lands (Fault cause) = Unit {0}
Lands Access = Unit {0}

-- what comes of the rest of the epoch, from this hart on
abbrev pub rest : LoadedImage → HartState → List ℕ → Progress
rest image h memory = after_steps image (image.limit + 1 - h.done) h memory

-- what comes of the rest of an epoch from the second hart on, over the second memory, is what comes of it from the first
pub record LeadsTo (image : LoadedImage) (h : HartState) (memory : List ℕ) (h' : HartState) (memory' : List ℕ) : Type 0 where
  pub outcome : rest image h' memory' ≡ rest image h memory
  pub event : length memory ≡ 0 → next_event image h' ≡ next_event image h
  pub within : h.done ≤ image.limit → h'.done ≤ image.limit
  pub later : h.done ≤ h'.done

-- the hart that is to execute the word at a place
abbrev pub hart_at : LoadedImage → List ℕ → Place → HartState
hart_at image x place = hart x (4 * place.word) (place.word + image.limit - place.last)

pub record IsPlace (image : LoadedImage) (place : Place) : Type 0 where
  pub address : 4 * place.word < 2 ^ 32
  pub before_last : place.word ≤ place.last
  pub within : place.last ≤ place.word + image.limit

-- where the loop ends with a jump by so many words that is to no word of the code
abbrev pub left_by : Place → ℕ → Left
left_by place by =
    if is_whole by then record {
      place = record { word = (place.word + by) % 2 ^ 30; last = place.last + (place.word + by) % 2 ^ 30 - place.word - 1 };
      why = why.Outside;
    }
    else record { place = place; why = why.Fault misaligned_target }

-- the word's instruction faults with this cause; a trap stands for a word that is refused, and after the code
abbrev pub IsFaulting : LoadedImage → HartState → ℕ → Type 0
IsFaulting image h cause =
    (h.pc < image.code → h.done < image.limit)
    × (instruction_effect image h (λ r. slice_index h.x r) (kept_of (word_in image (h.pc / 4))) ≡ Stops (stop.Fault cause h.pc))

-- what is known of a hart where the loop has ended, by why
abbrev pub IsLeft : LoadedImage → ℕ → HartState → Why → Stop → Type 0
IsLeft image bytes h why.Near at = h.pc ≤ image.code
IsLeft image bytes h why.Outside at = (image.limit ≤ h.done) ⊎ (image.code ≤ h.pc)
IsLeft image bytes h (why.Fault cause) at = IsFaulting image h cause
IsLeft image bytes h why.Access at = (hart_effect image h ≡ Stops at) × (bytes < image.size)

-- the hart has come to its stop, but for the limit
abbrev pub IsFar : Why → Type 0
IsFar why.Near = ⊥
IsFar why.Outside = Unit {0}
IsFar (why.Fault cause) = Unit {0}
IsFar why.Access = Unit {0}

-- a run of the loop leads from a hart to these registers and this memory, to where it has ended
pub record IsRun (image : LoadedImage) (h : HartState) (memory : List ℕ) (left : Left) (at : Stop) (x memory' : List ℕ) : Type 0 where
  pub place : IsPlace image left.place
  pub leads : LeadsTo image h memory (hart_at image x left.place) memory'
  pub ends : IsLeft image (length memory) (hart_at image x left.place) left.why at
