-- When a core is held: at a load that waits.
-- Source: this project.
use Rattle.std.specs.Prelude.{ℕ, ◌+◌, Bool, false, not, is_none, nat_le, ◌==◌, ◌&&◌, ◌||◌, List, [], Option, Some, None, if◌then◌else◌}
use Rattle.std.specs.List.{list_any}
use Rattle.memory_bytes.specs.Maps.{nothing}
use Rattle.rv32_image.specs.Image.{LoadedImage}
use Rattle.rv32_exec.specs.declared.stop.Stop.{Stop}
use Rattle.rv32_exec.specs.declared.stop.Stop.TheVariants.{Load, Store, Ended, Fault}
use Rattle.rv32_exec.specs.Hart.{HartState}
use Rattle.rv32_exec.specs.Arrival.{Arrival}
use Rattle.spec_history.specs.FlatState.{CoreState, FlatState}
use Rattle.spec_history.specs.Refusal.{any_below}
use Rattle.spec_history.specs.Replay.{replay}
use Rattle.homefree.specs.BookView.{BookView}
use Rattle.homefree.specs.Driven.{arrival_of}

-- the epoch that a core runs: none, where it is idle, or was violated and hasn't begun again
abbrev pub epoch_run : Option CoreState → Option ℕ
epoch_run None = None
epoch_run (Some c) = if c.hurt then None else Some c.epoch

-- the bytes that it has stored and not committed
abbrev pub own_run : Option CoreState → ℕ → Option ℕ
own_run None = nothing
own_run (Some c) = c.own

-- which loads wait
pub record Holding : Type 0 where
  -- those at these addresses of code, until their epoch is the homefree one
  pub places : ℕ → Bool
  -- those of a piece of memory in which an earlier epoch stores, until it has committed: does this epoch store in this piece?
  pub stores : ℕ → ℕ → Bool
  -- the piece in which a byte lies
  pub piece : ℕ → ℕ

-- by a list of such addresses, and one of pieces with the epochs that store there
abbrev pub holding : List ℕ → List (ℕ × ℕ) → (ℕ → ℕ) → Holding
holding addresses stores piece = record {
  places = λ pc. list_any (λ address. address == pc) addresses;
  stores = λ epoch piece. list_any (λ s. (s.0 == piece) && (s.1 == epoch)) stores;
  piece = piece;
}

-- the loads at these addresses alone
abbrev pub loads_at : List ℕ → Holding
loads_at addresses = holding addresses [] (λ a. a)

-- an epoch from the homefree one up to this one, without it, stores in the piece
abbrev pub is_stored : Holding → ℕ → ℕ → ℕ → Bool
is_stored holds homefree epoch piece = any_below epoch (λ d. nat_le homefree d && holds.stores d piece)

-- of the bytes of a load, one isn't the core's own, and lies in such a piece
abbrev pub reads_stored : Holding → ℕ → ℕ → (ℕ → Option ℕ) → ℕ → ℕ → Bool
reads_stored holds homefree epoch own address width =
    any_below width (λ i. is_none (own (address + i)) && is_stored holds homefree epoch (holds.piece (address + i)))

abbrev pub waits_by : Holding → ℕ → ℕ → (ℕ → Option ℕ) → ℕ → Stop → Bool
waits_by holds homefree epoch own pc (Load address width signed rd) = holds.places pc || reads_stored holds homefree epoch own address width
waits_by holds homefree epoch own pc (Store address width value) = false
waits_by holds homefree epoch own pc Ended = false
waits_by holds homefree epoch own pc (Fault cause at) = false

-- a core of this epoch, with these bytes of its own, stands at a load that waits
abbrev pub waits_at : Holding → ℕ → ℕ → (ℕ → Option ℕ) → Arrival → Bool
waits_at holds homefree epoch own a = waits_by holds homefree epoch own a.now.pc a.at

-- a core that runs this epoch, and wasn't violated, with this hart in hand: its epoch isn't the homefree one, and its next event is such a load
abbrev pub is_held : Holding → LoadedImage → ℕ → Option ℕ → (ℕ → Option ℕ) → Option HartState → Bool
is_held holds image homefree (Some epoch) own (Some hart) = not (epoch == homefree) && waits_at holds homefree epoch own (arrival_of image hart)
is_held holds image homefree (Some epoch) own None = false
is_held holds image homefree None own hart = false

-- so each core, in the state that a history leads to
abbrev pub are_held : Holding → LoadedImage → Option FlatState → (ℕ → Option HartState) → ℕ → Bool
are_held holds image (Some s) hands k = is_held holds image s.homefree (epoch_run (s.cores k)) (own_run (s.cores k)) (hands k)
are_held holds image None hands k = false

abbrev pub held_in : {S : Type 0} → Holding → BookView S → (ℕ → Option HartState) → ℕ → Bool
held_in holds b hands = are_held holds b.image (replay b.image b.cores b.history) hands
