-- What the code keeps of each core: which epoch it runs, and whether that was violated, as the entries of the history tell it.
use Rattle.std.specs.Prelude.{ℕ, ◌==◌, ◌||◌, false, List, [], ◌∷◌, Option, Some, None, option_map, if◌then◌else◌}
use Rattle.std.specs.List.{slice_index_or}
use Rattle.spec_history.specs.declared.entry.Entry.{Entry}
use Rattle.spec_history.specs.declared.entry.What.{What}
use Rattle.spec_history.specs.declared.entry.What.TheVariants.{Start, Load, Store, Hurt, Cancel, Restart, Publish, Commit, Fault}
use Rattle.spec_history.specs.FlatState.{CoreState, FlatState}
use Rattle.even_speed.specs.declared.seats.Seat.{Seat}

abbrev pub seat_at : List (Option Seat) → ℕ → Option Seat
seat_at seats k = slice_index_or seats k None

abbrev pub none_seated : ℕ → Option Seat
none_seated k = None

-- ---- an entry

abbrev pub with_seat : (ℕ → Option Seat) → ℕ → Option Seat → ℕ → Option Seat
with_seat seats by now k = if k == by then now else seats k

-- where it runs this epoch, it was violated
abbrev pub hurt_seat : ℕ → Option Seat → Option Seat
hurt_seat epoch None = None
hurt_seat epoch (Some seat) = Some (record seat { hurt = seat.hurt || (seat.epoch == epoch) })

-- where it runs this epoch, it is idle
abbrev pub left_seat : ℕ → Option Seat → Option Seat
left_seat epoch None = None
left_seat epoch (Some seat) = if seat.epoch == epoch then None else Some seat

-- of a core that runs an epoch
abbrev pub noted_on : (ℕ → Option Seat) → ℕ → Seat → What → ℕ → Option Seat
noted_on seats by own (Start epoch) = seats
noted_on seats by own (Load address width value) = seats
noted_on seats by own (Store address width value) = seats
noted_on seats by own (Hurt epoch) = λ k. hurt_seat epoch (seats k)
noted_on seats by own (Cancel epoch) = λ k. left_seat epoch (seats k)
noted_on seats by own Restart = with_seat seats by (Some (record { epoch = own.epoch; hurt = false }))
noted_on seats by own Publish = seats
noted_on seats by own Commit = with_seat seats by None
noted_on seats by own (Fault cause pc) = seats

-- of an idle core, which can only start
abbrev pub noted_idle : (ℕ → Option Seat) → ℕ → What → ℕ → Option Seat
noted_idle seats by (Start epoch) = with_seat seats by (Some (record { epoch = epoch; hurt = false }))
noted_idle seats by what = seats

abbrev pub noted_by : Option Seat → (ℕ → Option Seat) → ℕ → What → ℕ → Option Seat
noted_by None seats by what = noted_idle seats by what
noted_by (Some own) seats by what = noted_on seats by own what

-- ---- entries

unfoldable pub seats_after : (ℕ → Option Seat) → List Entry → ℕ → Option Seat
seats_after seats [] = seats
seats_after seats (e ∷ entries) = seats_after (noted_by (seats e.by) seats e.by e.what) entries

-- ---- a state

abbrev pub seat_of : CoreState → Seat
seat_of c = record { epoch = c.epoch; hurt = c.hurt }

abbrev pub seats_of : FlatState → ℕ → Option Seat
seats_of s k = option_map seat_of (s.cores k)

-- the epoch of one that wasn't violated
abbrev pub epoch_kept : Option Seat → Option ℕ
epoch_kept None = None
epoch_kept (Some seat) = if seat.hurt then None else Some seat.epoch
