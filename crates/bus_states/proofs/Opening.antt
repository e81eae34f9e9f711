-- A bus on which nobody holds or runs anything is coherent, and memory is what is committed.
use Rattle.std.proofs.Common.{◌≡◌, ℕ, ◌%◌, ◌≤◌, ◌<◌, true, [], None, refl, arith}
use Rattle.spec_states.specs.Copies.{no_copy}
use Rattle.spec_states.proofs.CopyLaws.{IsUpToDate-gone}
use Rattle.rv32_image.specs.Machine.{is_line_length}
use Rattle.cache_lines.specs.Lines.{geometry_of}
use Rattle.orb.specs.Lines.{largest_limit}
use Rattle.bus_states.specs.Bus.{CoreState, Bus, no_core, memory_line}
use Rattle.bus_states.specs.Coherent.{IsCoherentCore}
use Rattle.bus_states.proofs.Coherence.{IsCoherentWith}
use Rattle.bus_states.proofs.Copies.{none-in_place}

-- a core that holds nothing and runs nothing
pub record IsIdle (core : CoreState) : Type 0 where
  pub copy : (addr : ℕ) → core.copy addr ≡ no_copy
  pub lines : core.buffer.lines ≡ []
  pub limit : core.buffer.limit ≤ largest_limit
  pub attempt : core.attempt ≡ None

pub idle-with : (bus : Bus) → is_line_length bus.line_length ≡ true → bus.line_length ≡ bus.shape.machine.line_length → bus.shape.machine.apart ≡ None
    → bus.geometry ≡ geometry_of bus.shape.machine → bus.shape.size % bus.line_length ≡ 0
    → ((k : ℕ) → k < bus.shape.cores → (bus.core k).line_length ≡ bus.line_length)
    → ((k : ℕ) → k < bus.shape.cores → (bus.core k).geometry ≡ bus.geometry)
    → ((k : ℕ) → k < bus.shape.cores → (bus.core k).buffer.limit ≡ bus.shape.machine.buffer_lines)
    → ((k : ℕ) → IsIdle (bus.core k)) → ((k : ℕ) → bus.shape.cores ≤ k → bus.core k ≡ no_core)
    → IsCoherentWith bus (memory_line bus.line_length bus.memory)
idle-with bus length_is length_of of_places geometry_is whole_lines lengths geometries limits idle absent =
    record {
      length_is = length_is;
      length_of = length_of;
      of_places = of_places;
      geometry_is = geometry_is;
      whole_lines = whole_lines;
      lengths = lengths;
      geometries = geometries;
      limits = limits;
      lines =
          λ addr aligned. record {
            exclusive = λ j k n e. rw ((idle k).copy addr) refl;
            up_to_date = λ k. rw ((idle k).copy addr) (IsUpToDate-gone (λ _. 0) _);
            in_memory = λ none x. refl;
          };
      cores = λ k. idle-core (bus.core k) (idle k);
      in_place = λ k addr. rw ((idle k).copy addr) (none-in_place bus.line_length addr);
      inside = λ k addr. rw ((idle k).copy addr) (λ v. cc);
      absent = absent;
    }
  where
    idle-core : (core : CoreState) → IsIdle core → IsCoherentCore core
    idle-core core h =
        record {
          listed = λ addr. rw (h.lines, h.copy addr) refl;
          buffer = record { within = rw h.lines (omega arith); limit_is = h.limit; each_once = rw h.lines tt };
          unmarked = λ addr s. rw (h.copy addr) refl;
        }
