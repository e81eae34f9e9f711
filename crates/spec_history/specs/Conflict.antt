-- What a violation was about: its cause, the bytes that meet, their lines, and its kind.
-- Source: true and false sharing are those of Torrellas, Lam and Hennessy, "False Sharing and Spatial Locality in
-- Multiprocessor Caches", IEEE Transactions on Computers, 1994; a silent store is that of Lepak and Lipasti, "On the Value Locality of
-- Store Instructions", ISCA 2000; the ownership required buffer is that of Steffan, Colohan, Zhai and Mowry, "A Scalable
-- Approach to Thread-Level Speculation", ISCA 2000.
use Rattle.std.specs.Prelude.{◌≡◌, ◌≢◌, ℕ, ◌+◌, ◌/◌, ◌==◌, ◌&&◌, not, Bool, true, false, List, length, take, Option, Some, None, is_some, nat_le, nat_lt, option_and_then, option_map, slice_get, if◌then◌else◌}
use Rattle.memory_bytes.specs.Maps.{nothing, over, stored}
use Rattle.rv32_image.specs.Image.{LoadedImage}
use Rattle.rv32_image.specs.Places.{place}
use Rattle.spec_history.specs.declared.entry.Entry.{Entry}
use Rattle.spec_history.specs.declared.entry.What.{What}
use Rattle.spec_history.specs.declared.entry.What.TheVariants.{Load, Store, Hurt, Cancel, Publish, Commit, Fault}
use Rattle.spec_history.specs.declared.kind.Kind.{Kind}
use Rattle.spec_history.specs.declared.kind.Kind.TheVariants.{TrueSharing, SilentStore, FalseSharing, FullBuffer, Unexplained}
use Rattle.spec_history.specs.FlatState.{CoreState, FlatState}
use Rattle.spec_history.specs.Refusal.{any_below}
use Rattle.spec_history.specs.Replay.{replay}
use Rattle.spec_history.specs.Searches.{first_below, count_below}

abbrev pub passes : Option Entry → (Entry → Bool) → Bool
passes None test = false
passes (Some entry) test = test entry

-- there is an entry at this place, and it passes the test
abbrev pub entry_is : List Entry → ℕ → (Entry → Bool) → Bool
entry_is entries place test = passes (slice_get entries place) test

-- what the entry at this place says, if there is one
abbrev pub what_at : List Entry → Option ℕ → Option What
what_at entries place = option_and_then (λ j. option_map (λ (entry : Entry). entry.what) (slice_get entries j)) place

abbrev pub is_hurt : What → Bool
is_hurt (Hurt epoch) = true
is_hurt what = false

-- what a turn tells of other cores before it acts
abbrev pub is_notice : What → Bool
is_notice (Hurt epoch) = true
is_notice (Cancel epoch) = true
is_notice what = false

-- what can violate a later epoch
abbrev pub can_cause : What → Bool
can_cause (Load address width value) = true
can_cause (Store address width value) = true
can_cause Publish = true
can_cause Commit = true
can_cause (Fault cause pc) = true
can_cause what = false

-- the first entry after a place that is no notice
abbrev pub next_act : List Entry → ℕ → Option ℕ
next_act entries place = first_below (length entries) (λ j. nat_lt place j && entry_is entries j (λ entry. not (is_notice entry.what)))

-- the cause of the violation that a core makes at a place: the next act, if it is the core's and can violate
abbrev pub cause_of : List Entry → ℕ → ℕ → Option ℕ
cause_of entries place core =
    option_and_then (λ j. if entry_is entries j (λ entry. (entry.by == core) && can_cause entry.what) then Some j else None) (next_act entries place)

-- the bytes that a core has stored and not committed, and those that it has read from outside
abbrev pub own_bytes : Option CoreState → ℕ → Option ℕ
own_bytes core a = option_and_then (λ (c : CoreState). c.own a) core

abbrev pub read_bytes : Option CoreState → ℕ → Option ℕ
read_bytes core a = option_and_then (λ (c : CoreState). c.outside a) core

-- the bytes that a core's cause gives a value: those of a store, or those that it commits; one that has published has none left to commit
abbrev pub written : Option CoreState → What → ℕ → Option ℕ
written causer (Store address width value) = stored address width value
written causer Publish = own_bytes causer
written causer Commit = own_bytes causer
written causer (Fault cause pc) = own_bytes causer
written causer what = nothing

-- the bytes that meet in a violation: those that the cause writes, those that the victim has read, and those that it has stored
pub record Meeting : Type 0 where
  pub committed : ℕ → ℕ
  pub writes : ℕ → Option ℕ
  pub reads : ℕ → Option ℕ
  pub stores : ℕ → Option ℕ

-- the notices before a cause change no byte, so the state is that before the violation
abbrev pub meeting : FlatState → ℕ → What → ℕ → Meeting
meeting s causer cause victim = record {
  committed = s.committed;
  writes = written (s.cores causer) cause;
  reads = read_bytes (s.cores victim);
  stores = own_bytes (s.cores victim);
}

-- a byte that the cause writes and the victim has read
abbrev pub is_shared : Meeting → ℕ → Bool
is_shared m a = is_some (m.writes a) && is_some (m.reads a)

-- one whose committed value is not the one that is written
abbrev pub is_changed : Meeting → ℕ → Bool
is_changed m a = not (over m.writes m.committed a == m.committed a) && is_some (m.reads a)

-- the number of the line of the caches in which a byte lies, by its place
abbrev pub line_number : LoadedImage → ℕ → ℕ
line_number image a = place image.machine image.size a / image.machine.line_length

-- how many lines there are
abbrev pub line_count : LoadedImage → ℕ
line_count image = line_number image image.size

-- some byte of memory that lies in the line passes the test
abbrev pub line_has : LoadedImage → ℕ → (ℕ → Bool) → Bool
line_has image line test = any_below image.size (λ a. (line_number image a == line) && test a)

-- a byte that the victim has read, in a line that the cause writes
abbrev pub is_beside : LoadedImage → Meeting → ℕ → Bool
is_beside image m a = is_some (m.reads a) && line_has image (line_number image a) (λ b. is_some (m.writes b))

-- the victim has stored in this line
abbrev pub holds_line : LoadedImage → Meeting → ℕ → Bool
holds_line image m line = line_has image line (λ a. is_some (m.stores a))

-- the victim has stored in the line, and in as many other lines as its buffer takes
abbrev pub is_full_at : LoadedImage → Meeting → ℕ → Bool
is_full_at image m line =
    holds_line image m line
    && nat_le image.machine.buffer_lines (count_below (line_count image) (λ other. not (other == line) && holds_line image m other))

-- the cause is an access, in memory as all that are legal, to a line for which the victim's full buffer has no place
abbrev pub is_crowded : LoadedImage → Meeting → What → Bool
is_crowded image m (Load address width value) = nat_lt address image.size && is_full_at image m (line_number image address)
is_crowded image m (Store address width value) = nat_lt address image.size && is_full_at image m (line_number image address)
is_crowded image m what = false

-- the first of these that the violation is
abbrev pub kind_with : LoadedImage → Meeting → What → Kind
kind_with image m cause =
    if any_below image.size (is_changed m) then TrueSharing
    else if any_below image.size (is_shared m) then SilentStore
    else if any_below image.size (is_beside image m) then FalseSharing
    else if is_crowded image m cause then FullBuffer
    else Unexplained

-- the kind of a violation of one core by another, in the state before it, with this cause
abbrev pub kind_of : LoadedImage → FlatState → ℕ → ℕ → Option What → Kind
kind_of image s causer victim None = Unexplained
kind_of image s causer victim (Some cause) = kind_with image (meeting s causer cause victim) cause

-- each violation of a history is of a kind: none is unexplained
abbrev pub AreKnown : LoadedImage → ℕ → List Entry → Type 0
AreKnown image cores history =
    (place by k : ℕ) (s : FlatState) (c : CoreState) → slice_get history place ≡ Some (record { by = by; what = Hurt c.epoch })
    → replay image cores (take place history) ≡ Some s → s.cores k ≡ Some c → kind_of image s by k (what_at history (cause_of history place by)) ≢ Unexplained
