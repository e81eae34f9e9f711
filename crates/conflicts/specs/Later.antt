-- False sharing that came true: the line only told sooner.
use Rattle.std.specs.Prelude.{ℕ, ◌==◌, ◌&&◌, ◌||◌, Bool, false, List, length, Option, Some, None, is_some, nat_lt, option_and_then, if◌then◌else◌}
use Rattle.rv32_image.specs.Image.{LoadedImage}
use Rattle.spec_history.specs.declared.entry.Entry.{Entry}
use Rattle.spec_history.specs.declared.entry.What.{What}
use Rattle.spec_history.specs.declared.entry.What.TheVariants.{Store}
use Rattle.spec_history.specs.FlatState.{FlatState}
use Rattle.spec_history.specs.Refusal.{any_below}
use Rattle.spec_history.specs.declared.kind.Kind.{Kind}
use Rattle.spec_history.specs.declared.kind.Kind.TheVariants.{FalseSharing}
use Rattle.spec_history.specs.Searches.{first_below}
use Rattle.spec_history.specs.Conflict.{entry_is, read_bytes}
use Rattle.conflicts.specs.Attempts.{is_begin, covers}

-- a core has read this byte from outside
abbrev pub was_read : FlatState → ℕ → ℕ → Bool
was_read s core a = is_some (read_bytes (s.cores core) a)

-- a store to a byte of memory that passes the test
abbrev pub stores_one : ℕ → (ℕ → Bool) → What → Bool
stores_one size test (Store address width value) = any_below size (λ a. covers address width a && test a)
stores_one size test what = false

-- the core stores to such a byte
abbrev pub stores_to : ℕ → ℕ → (ℕ → Bool) → Entry → Bool
stores_to size core test entry = (entry.by == core) && stores_one size test entry.what

-- the core begins another attempt, or stores to such a byte
abbrev pub ends_or_stores : ℕ → ℕ → (ℕ → Bool) → Entry → Bool
ends_or_stores size core test entry = (entry.by == core) && (is_begin entry.what || stores_one size test entry.what)

-- the first entry after the cause that does, if it is such a store
abbrev pub came_true_at : ℕ → List Entry → ℕ → ℕ → (ℕ → Bool) → Option ℕ
came_true_at size entries cause core test =
    option_and_then (λ j. if entry_is entries j (λ entry. stores_one size test entry.what) then Some j else None)
    (first_below (length entries) (λ j. nat_lt cause j && entry_is entries j (ends_or_stores size core test)))

-- later: the causer of false sharing stores to a byte that the victim had read, before it begins another attempt
abbrev pub later_by : LoadedImage → FlatState → List Entry → ℕ → ℕ → Kind → Option ℕ → Option ℕ
later_by image s entries causer victim FalseSharing cause = option_and_then (λ j. came_true_at image.size entries j causer (was_read s victim)) cause
later_by image s entries causer victim kind cause = None
