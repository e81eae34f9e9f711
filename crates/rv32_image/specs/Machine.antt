-- How large the caches of a machine may be. Source: this project; sets, ways and lines after Hennessy and Patterson, "Computer
-- Architecture: A Quantitative Approach", appendix B; the ownership required buffer after Steffan, Colohan, Zhai and Mowry, "A
-- Scalable Approach to Thread-Level Speculation", ISCA 2000.
use Rattle.std.specs.Prelude.{◌≡◌, ℕ, ◌^◌, ◌≤◌, ◌%◌, ◌==◌, ◌||◌, Bool, true}
use Rattle.std.specs.List.{list_any, range_with_len}
use Rattle.rv32_image.specs.declared.machine.Machine.{Machine}
use Rattle.rv32_image.specs.Places.{AllowsApart}

-- a line has 16, 32 or 64 bytes
abbrev pub is_line_length : ℕ → Bool
is_line_length bytes = (bytes == 16) || (bytes == 32) || (bytes == 64)

-- a cache has a power of two of sets, 1 to 1,024
abbrev pub is_set_count : ℕ → Bool
is_set_count sets = list_any (λ k. sets == 2 ^ k) (range_with_len 0 11)

-- the machines that there are
pub record IsMachine (machine : Machine) : Type 0 where
  pub line_length : is_line_length machine.line_length ≡ true
  pub sets : is_set_count machine.sets ≡ true
  pub some_way : 1 ≤ machine.ways
  pub few_ways : machine.ways ≤ 16
  pub some_line : 1 ≤ machine.buffer_lines
  pub few_lines : machine.buffer_lines ≤ 64

-- the machine is one that there is, and a memory of so many bytes is a whole number of its lines and has what lies apart
pub record IsMachineFor (size : ℕ) (machine : Machine) : Type 0 where
  pub is : IsMachine machine
  pub whole_lines : size % machine.line_length ≡ 0
  pub apart : AllowsApart size machine.line_length machine.apart
