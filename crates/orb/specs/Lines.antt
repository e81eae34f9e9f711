-- The ownership required buffer of a core (Steffan, Colohan, Zhai and Mowry, "A Scalable Approach to Thread-Level
-- Speculation", ISCA 2000): the lines that a publish has to ask for, by their addresses, in the order in which they
-- entered.
use Rattle.std.specs.Prelude.{◌≡◌, ℕ, ◌≤◌, ◌==◌, Bool, false, not, List, [], ◌∷◌, filter, length}
use Rattle.std.specs.List.{list_any}

-- how many lines a buffer may have, and the addresses of those that it has
pub record Buffer : Type 0 where
  pub limit : ℕ
  pub lines : List ℕ

-- the most lines that a buffer has room for
abbrev pub largest_limit : ℕ
largest_limit = 64

-- a buffer has room for some lines
pub record IsLimit (limit : ℕ) : Type 0 where
  pub some : 1 ≤ limit
  pub few : limit ≤ largest_limit

-- has the buffer no room for another line?
abbrev pub is_full : Buffer → Bool
is_full buffer = length buffer.lines == buffer.limit

-- is the line at this address among these?
abbrev pub holds : List ℕ → ℕ → Bool
holds lines addr = list_any (λ line. line == addr) lines

-- the lines but for the one at this address, in their order
abbrev pub without : ℕ → List ℕ → List ℕ
without addr lines = filter (λ line. not (line == addr)) lines

-- each line stands once
abbrev pub IsEachOnce : List ℕ → Type 0
IsEachOnce [] = Unit {0}
IsEachOnce (line ∷ lines) = (holds lines line ≡ false) × IsEachOnce lines

-- what every buffer keeps
pub record IsBuffer (buffer : Buffer) : Type 0 where
  pub within : length buffer.lines ≤ buffer.limit
  pub limit_is : buffer.limit ≤ largest_limit
  pub each_once : IsEachOnce buffer.lines
