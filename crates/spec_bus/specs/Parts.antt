-- What the parts of the machine hold, as a bus.
use Rattle.memory_bytes.specs.Bytes.{IsWidth}
use Rattle.bus_states.specs.declared.notice.Notice.{Notice}
use Rattle.bus_states.specs.Coherent.{IsCoherent, speculates}
use Rattle.std.specs.Prelude.{◌+◌, ◌%◌, ◌<◌, ◌≤◌, ◌≡◌, ◌==◌, if◌then◌else◌, ℕ, Bool, false, List, length, Option, Some, None, option_map, slice_get, slice_index}
use Rattle.rv32_image.specs.declared.machine.Machine.{Machine}
use Rattle.violations.specs.CoreSet.{is_in}
use Rattle.violations.specs.declared.step.Step.{Step}
use Rattle.cache_lines.specs.Changes.{victim_of}
use Rattle.cache_lines.specs.Lines.{Contents, geometry_of, line_in}
use Rattle.bus_states.specs.Bus.{CoreState, Bus, no_core}
use Rattle.bus_states.specs.Messages.{Room, Message, heard_core, is_busy, message_of, violates}
use Rattle.bus_states.specs.Speculative.{load_wait, store_wait}
use Rattle.spec_bus.specs.Answers.{MatchAnswer, IsLoaded, IsStored}
use Rattle.spec_bus.specs.declared.bus_core.Core.{Core}
use Rattle.spec_bus.specs.declared.messages.Sent.{Sent}
use Rattle.spec_bus.specs.declared.parts.Parts.{Parts}
use Rattle.spec_bus.specs.CoreStates.{state_of}

abbrev pub state_or_none : Option Core → CoreState
state_or_none None = no_core
state_or_none (Some core) = state_of core

abbrev pub core_at : List Core → ℕ → CoreState
core_at cores k = state_or_none (slice_get cores k)

abbrev pub bus_of : ℕ → Machine → List Core → List ℕ → Bus
bus_of code machine cores memory =
    record {
      shape = record { cores = length cores; size = length memory; code = code; machine = machine };
      line_length = machine.line_length;
      geometry = geometry_of machine;
      core = core_at cores;
      memory = slice_index memory;
    }

abbrev pub bus_in : Parts → Bus
bus_in parts = bus_of parts.code parts.machine parts.cores.items parts.memory.items

-- this way of the set of that address, with its line, in a core's cache
abbrev pub room_in : Contents → ℕ → ℕ → Room
room_in cache addr way = record { way = way; line = line_in cache addr way }

abbrev pub line_or_none : Option Core → ℕ → Option ℕ → Option Room
line_or_none None addr way = None
line_or_none (Some core) addr way = option_map (room_in core.cache addr) way

abbrev pub line_at : List Core → ℕ → ℕ → Option ℕ → Option Room
line_at cores k addr way = line_or_none (slice_get cores k) addr way

-- the way that a line of this address takes there
abbrev pub victim_or_none : Option Core → ℕ → Option ℕ
victim_or_none None addr = None
victim_or_none (Some core) addr = victim_of core.cache addr

-- the room for a line in a core's cache: the way that it takes
abbrev pub room_at : List Core → ℕ → ℕ → Option Room
room_at cores k addr = line_at cores k addr (victim_or_none (slice_get cores k) addr)

-- all cores but the sender have heard the message
pub record IsTold (old new : Bus) (message : Message) : Type 0 where
  pub count : new.shape.cores ≡ old.shape.cores
  pub core : (k : ℕ) → new.core k ≡ (if k == message.sender then old.core k else heard_core old message k)

-- a core of a coherent bus
pub record IsOnBus (p : Parts) (core : ℕ) : Type 0 where
  pub there : core < length p.cores.items
  pub coherent : IsCoherent (bus_in p)

-- such a core, and the address of a line
pub record IsAtLine (p : Parts) (core addr : ℕ) : Type 0 where
  pub there : core < length p.cores.items
  pub line : addr % p.machine.line_length ≡ 0
  pub coherent : IsCoherent (bus_in p)

-- a message of a core about a line violates these, and nobody holds it up
pub record MaySend (p : Parts) (notice : Notice) (core addr : ℕ) (hurt : ℕ → Bool) : Type 0 where
  pub hurts : (k : ℕ) → hurt k ≡ violates (bus_in p) (message_of (bus_in p) notice core addr) k
  pub free : is_busy (bus_in p) (message_of (bus_in p) notice core addr) ≡ false

-- the message that is sent so
abbrev pub message_in : Sent → Message
message_in sent = record { notice = sent.notice; sender = sent.sender; addr = sent.addr; line = slice_index sent.line }

-- a core of a coherent bus may send this about a line, which has no bytes past its length
pub record IsToSend (p : Parts) (sent : Sent) : Type 0 where
  pub at : IsAtLine p sent.sender sent.addr
  pub past : (x : ℕ) → p.machine.line_length ≤ x → slice_index sent.line x ≡ 0
  pub may : MaySend p sent.notice sent.sender sent.addr (is_in sent.hurt)

-- an access of a core within the line of memory at this address, on a coherent bus
pub record IsAccessIn (p : Parts) (core addr offset width : ℕ) : Type 0 where
  pub there : core < length p.cores.items
  pub line : addr % p.machine.line_length ≡ 0
  pub coherent : IsCoherent (bus_in p)
  pub inside : addr + p.machine.line_length ≤ length p.memory.items
  pub in_line : offset + width ≤ p.machine.line_length
  pub wide : IsWidth width
  pub aligned : offset % width ≡ 0

-- what a load of a core answers: it is done, or it waits and nothing has changed
abbrev pub LoadAnswers : Step → Parts → Parts → ℕ → ℕ → ℕ → ℕ → Type 0
LoadAnswers step old new core addr offset width =
    MatchAnswer step
    (λ value hurt. IsLoaded (bus_in old) (bus_in new) core addr offset width (room_at old.cores.items core addr) value hurt)
    (λ cause. (load_wait (bus_in old) core addr (room_at old.cores.items core addr) ≡ Some cause) × (new ≡ old))

-- what a store answers, which gives 0
abbrev pub StoreAnswers : Step → Parts → Parts → ℕ → ℕ → ℕ → ℕ → ℕ → Type 0
StoreAnswers step old new core addr offset width value =
    MatchAnswer step
    (λ answer hurt. (answer ≡ 0) × IsStored (bus_in old) (bus_in new) core addr offset width value (room_at old.cores.items core addr) hurt)
    (λ cause. (store_wait (bus_in old) core addr offset width (room_at old.cores.items core addr) ≡ Some cause) × (new ≡ old))

-- such an access of a core that doesn't speculate
pub record IsStraightIn (p : Parts) (core addr offset width : ℕ) : Type 0 where
  pub access : IsAccessIn p core addr offset width
  pub straight : speculates ((bus_in p).core core).attempt ≡ false
