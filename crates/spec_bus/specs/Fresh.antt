-- A new bus: memory is that of the image, and nobody holds or runs anything.
use Rattle.std.specs.Prelude.{◌≡◌, ◌<◌, ℕ, zero, suc, ◌+◌, ◌-◌, ◌++◌, List, length, replicate, [], Option, None, Some, nat_lt, if◌then◌else◌, slice_index, slice_set}
use Rattle.rv32_image.specs.declared.apart.Apart.{Apart}
use Rattle.rv32_image.specs.Places.{place, of_places}
use Rattle.spec_states.specs.Copies.{no_copy}
use Rattle.cache_lines.specs.Lines.{geometry_of}
use Rattle.rv32_image.specs.declared.machine.Machine.{Machine}
use Rattle.rv32_image.specs.Image.{LoadedImage}
use Rattle.violations.specs.Rule.{shape_of}
use Rattle.bus_states.specs.Bus.{CoreState, Bus, no_core}
use Rattle.spec_bus.specs.declared.bus_core.Core.{Core}
use Rattle.spec_bus.specs.Parts.{core_at}

-- a core of this machine that holds nothing and runs nothing
abbrev pub idle_core : Machine → CoreState
idle_core machine =
    record {
      line_length = machine.line_length;
      geometry = geometry_of machine;
      copy = λ _. no_copy;
      way = λ _. None;
      buffer = record { limit = machine.buffer_lines; lines = [] };
      attempt = None;
    }

-- the image's memory, and so many idle cores of its machine
abbrev pub fresh_bus : LoadedImage → ℕ → Bus
fresh_bus image cores =
    record {
      shape = shape_of image cores;
      line_length = image.machine.line_length;
      geometry = geometry_of image.machine;
      core = λ k. if nat_lt k cores then idle_core image.machine else no_core;
      memory = slice_index image.bytes;
    }

-- memory by places: all bytes at their addresses, nothing behind them, and then each byte of a range is put into its place, one after
-- another
unfoldable pub laid : LoadedImage → ℕ → ℕ → List ℕ
laid image first zero = image.bytes ++ replicate (place image.machine image.size image.size - image.size) 0
laid image first (suc n) =
    slice_set (laid image first n) (place image.machine image.size (first + n)) (slice_index image.bytes (first + n))

abbrev pub laid_by : LoadedImage → Option Apart → List ℕ
laid_by image None = image.bytes
laid_by image (Some apart) = laid image apart.first apart.length

-- the image as a bus knows it: its machine and memory by places
abbrev pub by_places : LoadedImage → LoadedImage
by_places image =
    record image {
      machine = of_places image.machine;
      size = place image.machine image.size image.size;
      bytes = laid_by image image.machine.apart;
    }

-- every core of the list is an idle one of this machine
pub record AreIdle (machine : Machine) (cores : List Core) : Type 0 where
  pub each : (k : ℕ) → k < length cores → core_at cores k ≡ idle_core machine
