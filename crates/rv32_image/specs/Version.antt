-- What each version of an image allows, and the machine of each. Source: this project.
use Rattle.std.specs.Prelude.{◌≡◌, ℕ, ◌%◌, ◌≤◌, None}
use Rattle.rv32_image.specs.declared.machine.Machine.{Machine}
use Rattle.rv32_image.specs.declared.version.Limits.{Limits}
use Rattle.rv32_image.specs.declared.version.Version.{Version}
use Rattle.rv32_image.specs.declared.version.Version.TheVariants.{One, Two}

abbrev pub limits_of : Version → Limits
limits_of One = record { least_size = 16; most_size = 65536; most_cores = 8; free_entries = 16 }
limits_of Two = record { least_size = 32; most_size = 1048576; most_cores = 16; free_entries = 32 }

-- the machine that runs an image of this version, where none is asked for
abbrev pub machine_of : Version → Machine
machine_of One = record { line_length = 16; sets = 4; ways = 2; buffer_lines = 4; apart = None }
machine_of Two = record { line_length = 32; sets = 4; ways = 2; buffer_lines = 8; apart = None }

-- memory of this version may have so many bytes
pub record IsSize (version : Version) (size : ℕ) : Type 0 where
  pub least : (limits_of version).least_size ≤ size
  pub most : size ≤ (limits_of version).most_size
  pub lines : size % (machine_of version).line_length ≡ 0
