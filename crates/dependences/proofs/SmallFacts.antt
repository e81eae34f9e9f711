-- Small facts of options, and of what a hart does.
use Rattle.std.proofs.Common.{◌≡◌, ℕ, Option, Some, None, refl}
use Rattle.memory_bytes.specs.Maps.{first_of}

-- of two bytes, where the second is there
pub either_some : (first second : Option ℕ) (byte : ℕ) → second ≡ Some byte → (b : ℕ) × (first_of first second ≡ Some b)
either_some None second byte is = (byte, is)
either_some (Some b) second byte is = (b, refl)
