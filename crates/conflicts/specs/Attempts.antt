-- The attempts of a history, and the accesses in them.
-- Source: an epoch that is violated is run again from its start, in Steffan, Colohan, Zhai and Mowry, "A Scalable
-- Approach to Thread-Level Speculation", ISCA 2000; each of its runs is an attempt here.
use Rattle.std.specs.Prelude.{ℕ, ◌+◌, ◌==◌, ◌&&◌, Bool, true, false, List, take, Option, Some, None, is_none, nat_le, nat_lt}
use Rattle.rv32_image.specs.Image.{LoadedImage}
use Rattle.spec_history.specs.declared.entry.Entry.{Entry}
use Rattle.spec_history.specs.declared.entry.What.{What}
use Rattle.spec_history.specs.declared.entry.What.TheVariants.{Start, Load, Store, Restart}
use Rattle.spec_history.specs.Conflict.{entry_is}
use Rattle.spec_history.specs.FlatState.{FlatState}
use Rattle.spec_history.specs.Refusal.{is_at}
use Rattle.spec_history.specs.Replay.{replay}
use Rattle.spec_history.specs.Searches.{first_below, last_below, count_below}

-- the core that runs this epoch
abbrev pub core_at : ℕ → FlatState → ℕ → Option ℕ
core_at count s epoch = first_below count (λ k. is_at epoch (s.cores k))

-- there is one of this core
abbrev pub core_does : List Entry → ℕ → ℕ → (What → Bool) → Bool
core_does entries core place test = entry_is entries place (λ entry. (entry.by == core) && test entry.what)

-- an attempt begins
abbrev pub is_begin : What → Bool
is_begin (Start epoch) = true
is_begin Restart = true
is_begin what = false

abbrev pub is_start : What → Bool
is_start (Start epoch) = true
is_start what = false

-- the place at which the attempt began that the core runs before this place
abbrev pub attempt_place : List Entry → ℕ → ℕ → Option ℕ
attempt_place entries core before = last_below before (λ j. core_does entries core j is_begin)

abbrev pub is_after : Option ℕ → ℕ → Bool
is_after None place = false
is_after (Some start) place = nat_lt start place

-- the entry at a place is of the attempt that the core runs before another place, and passes the test
abbrev pub attempt_does : List Entry → ℕ → ℕ → (What → Bool) → ℕ → Bool
attempt_does entries core before test place =
    is_after (attempt_place entries core before) place && core_does entries core place test

-- which run of its epoch this attempt is, counted from 1
abbrev pub attempt_number : List Entry → ℕ → ℕ → ℕ
attempt_number entries core before =
    let started = last_below before (λ j. core_does entries core j is_start) in
    count_below before (λ j. is_after started j && core_does entries core j is_begin) + 1

-- an access to so many bytes is one to this byte
abbrev pub covers : ℕ → ℕ → ℕ → Bool
covers address width a = nat_le address a && nat_lt a (address + width)

abbrev pub loads_byte : ℕ → What → Bool
loads_byte a (Load address width value) = covers address width a
loads_byte a what = false

abbrev pub stores_byte : ℕ → What → Bool
stores_byte a (Store address width value) = covers address width a
stores_byte a what = false

-- the last store of the attempt to a byte: that which gave the byte the value that it has
abbrev pub last_store : List Entry → ℕ → ℕ → ℕ → Option ℕ
last_store entries core before a = last_below before (attempt_does entries core before (stores_byte a))

-- the entry at a place is a load of the attempt that reads this byte from outside: none of its stores had given it a value yet
abbrev pub reads_outside : List Entry → ℕ → ℕ → ℕ → ℕ → Bool
reads_outside entries core before a place =
    attempt_does entries core before (loads_byte a) place && is_none (last_store entries core place a)

-- the first load of the attempt that read a byte from outside
abbrev pub first_read : List Entry → ℕ → ℕ → ℕ → Option ℕ
first_read entries core before a = first_below before (reads_outside entries core before a)

-- the state before the entry at a place
abbrev pub state_before : LoadedImage → ℕ → List Entry → ℕ → Option FlatState
state_before image count entries place = replay image count (take place entries)
