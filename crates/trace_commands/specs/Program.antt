-- Words of contracts: the edge of a program: its words, and what it leaves of its streams.
use Rattle.std.specs.Prelude.{◌≡◌, ◌≤◌, ◌&&◌, ℕ, List, [], ◌∷◌, Option, Some, None, Result, Ok, Err, nat_le, if◌then◌else◌}
use Rattle.std.specs.Io.KnownBytes.{Keeps}
use Rattle.rv32_image.specs.declared.fault.ImageFaultKind.{ImageFaultKind}
use Rattle.rv32_image.specs.ImageText.{number_in}
use Rattle.trace_commands.specs.declared.outcome.Outcome.{Outcome}
use Rattle.trace_commands.specs.declared.outcome.Outcome.TheVariants.{Usage}

abbrev pub IsUpTo16 : ℕ → Type 0
IsUpTo16 n = (1 ≤ n) × (n ≤ 16)

abbrev pub up_to_16 : Result ℕ ImageFaultKind → Option ℕ
up_to_16 (Ok n) = if nat_le 1 n && nat_le n 16 then Some n else None
up_to_16 (Err fault) = None

-- the number that a word writes, if it is 1 to 16
abbrev pub number_up_to_16 : List ℕ → Option ℕ
number_up_to_16 word = up_to_16 (number_in word)

-- the same of words, where there is just one
abbrev pub only_up_to_16 : List (List ℕ) → Option ℕ
only_up_to_16 (word ∷ []) = number_up_to_16 word
only_up_to_16 words = None

-- the bytes of a stream before and after a call, where it tells them
pub record Stream : Type 0 where
  pub old : Option (List ℕ)
  pub new : Option (List ℕ)

-- nothing was read, and nothing written but the error line, since of the words it came to this
abbrev pub IsUnread : (Outcome → Type 0) → Stream → Stream → Outcome → Type 0
IsUnread Is input output outcome = Is outcome × Keeps input.old input.new × Keeps output.old output.new

-- the words ask for nothing
abbrev pub IsRefused : Stream → Stream → Outcome → Type 0
IsRefused input output outcome = IsUnread (λ it. it ≡ Usage) input output outcome
