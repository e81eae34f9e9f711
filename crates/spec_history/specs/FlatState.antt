-- The state of the flat machine: committed memory, the homefree epoch, and what each core runs.
-- Source: ordered epochs, one of them homefree, and violation are those of Steffan, Colohan, Zhai and Mowry, "A
-- Scalable Approach to Thread-Level Speculation", ISCA 2000. There are no caches here, and no messages.
use Rattle.std.specs.Prelude.{ℕ, ◌+◌, ◌==◌, Bool, false, Option, Some, None, slice_index, if◌then◌else◌}
use Rattle.rv32_exec.specs.declared.sequential.End.{End}
use Rattle.rv32_exec.specs.declared.sequential.End.TheVariants.{Done, Exit}
use Rattle.rv32_image.specs.Image.{LoadedImage}
use Rattle.rv32_exec.specs.Hart.{HartState, start_of}
use Rattle.rv32_exec.specs.NextEvent.{next_event}
use Rattle.rv32_exec.specs.Arrival.{Arrival}
use Rattle.rv32_exec.specs.Sequential.{exits}
use Rattle.memory_bytes.specs.Maps.{nothing}

-- what a core runs
pub record CoreState : Type 0 where
  pub epoch : ℕ
  -- its hart at its last event
  pub hart : HartState
  -- the bytes that it has stored and not committed
  pub own : ℕ → Option ℕ
  -- the bytes that it has read from outside its own, with the values read
  pub outside : ℕ → Option ℕ
  -- it has published: its stores go to committed memory at once
  pub straight : Bool
  -- it was violated, and has not restarted
  pub hurt : Bool

pub record FlatState : Type 0 where
  pub committed : ℕ → ℕ
  -- the first epoch that has not committed
  pub homefree : ℕ
  -- how many of its instructions are published
  pub published : ℕ
  -- the next epoch to be started
  pub next_epoch : ℕ
  -- how the loop ended, where it is over
  pub end : Option End
  -- what each core runs; an idle one runs nothing
  pub cores : ℕ → Option CoreState

-- a core at the start of an epoch
abbrev pub begun : LoadedImage → ℕ → CoreState
begun image epoch = record {
  epoch = epoch;
  hart = start_of image epoch;
  own = nothing;
  outside = nothing;
  straight = false;
  hurt = false;
}

-- where a hart stops next, beside that hart
abbrev pub arrival_of : LoadedImage → HartState → Arrival
arrival_of image h = record { base = h; now = (next_event image h).now; at = (next_event image h).at }

-- the loop is over once all of its epochs have committed
abbrev pub end_at : LoadedImage → ℕ → Option End
end_at image homefree = if homefree == image.epochs then Some (Done homefree) else None

-- it is over, too, once an epoch has committed that exits: one that ended with this hart
abbrev pub end_after : LoadedImage → HartState → ℕ → Option End
end_after image h epoch = if exits image h then Some (Exit epoch) else end_at image (epoch + 1)

-- nothing has happened yet
abbrev pub first_state : LoadedImage → FlatState
first_state image = record {
  committed = λ a. slice_index image.bytes a;
  homefree = 0;
  published = 0;
  next_epoch = 0;
  end = end_at image 0;
  cores = λ _. None;
}
