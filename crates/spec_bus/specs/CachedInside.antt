-- What the caches on a bus keep.
use Rattle.std.specs.Prelude.{◌≡◌, ℕ, ◌≤◌, Option, length}
use Rattle.rv32_image.specs.declared.apart.Apart.{Apart}
use Rattle.rv32_image.specs.Machine.{IsMachineFor}
use Rattle.rv32_image.specs.Places.{place}
use Rattle.violations.specs.Relabelled.{OwnsBytes}
use Rattle.bus_states.specs.Coherent.{IsCoherent}
use Rattle.bus_states.specs.Views as states
use Rattle.bus_states.specs.Views.{AreOrdered}
use Rattle.spec_bus.specs.declared.cached.CachedBus.TheInside.{Inside}
use Rattle.spec_bus.specs.declared.parts.Parts.{Parts}
use Rattle.spec_bus.specs.Parts.{bus_in}
use Rattle.spec_bus.specs.Cached.{CachedView, shape_over}

abbrev pub view_of : Inside → CachedView
view_of i =
    record {
      size = i.size;
      apart = i.apart;
      code = i.parts.code;
      machine = i.parts.machine;
      cores = i.parts.cores.items;
      memory = i.parts.memory.items;
    }

-- the bus is coherent, its attempts are ordered, and its memory is not large
pub record IsBus (parts : Parts) : Type 0 where
  pub coherent : IsCoherent (bus_in parts)
  pub ordered : AreOrdered (bus_in parts)
  pub small : length parts.memory.items ≤ 134217728

-- its bytes are the places of a memory of so many bytes, and cores own no others
pub record ArePlaces (size : ℕ) (apart : Option Apart) (parts : Parts) : Type 0 where
  pub fits : IsMachineFor size (shape_over size apart (bus_in parts).shape).machine
  pub small : size ≤ 1048576
  pub long : length parts.memory.items ≡ place (shape_over size apart (bus_in parts).shape).machine size size
  pub bytes : OwnsBytes (place (shape_over size apart (bus_in parts).shape).machine size) (states.view_of (bus_in parts))

pub record IsCached (i : Inside) : Type 0 where
  pub bus : IsBus i.parts
  pub places : ArePlaces i.size i.apart i.parts
