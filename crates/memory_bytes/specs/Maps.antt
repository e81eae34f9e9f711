-- Some of memory's bytes as a map: a byte or none at each address.
use Rattle.std.specs.Prelude.{ℕ, ◌+◌, ◌-◌, ◌&&◌, Option, Some, None, unwrap_or, is_none, nat_le, nat_lt, if◌then◌else◌}
use Rattle.memory_bytes.specs.Bytes.{byte_of}

-- no bytes
abbrev pub nothing : ℕ → Option ℕ
nothing a = None

-- the first bytes, and the second where the first has none
abbrev pub first_of : Option ℕ → Option ℕ → Option ℕ
first_of None second = second
first_of (Some byte) second = Some byte

abbrev pub joined : (ℕ → Option ℕ) → (ℕ → Option ℕ) → ℕ → Option ℕ
joined first second a = first_of (first a) (second a)

-- memory with these bytes over it
abbrev pub over : (ℕ → Option ℕ) → (ℕ → ℕ) → ℕ → ℕ
over bytes memory a = unwrap_or (bytes a) (memory a)

-- the bytes of a store: the low `width` bytes of the value, little endian, from the address on
unfoldable pub stored : ℕ → ℕ → ℕ → ℕ → Option ℕ
stored address width value a =
    if nat_le address a && nat_lt a (address + width) then Some (byte_of value (a - address)) else None

-- the bytes that a load reads from outside: those that it loads and that aren't its own
abbrev pub read_outside : ℕ → ℕ → (ℕ → Option ℕ) → (ℕ → ℕ) → ℕ → Option ℕ
read_outside address width own committed a =
    if (nat_le address a && nat_lt a (address + width)) && is_none (own a) then Some (committed a) else None
