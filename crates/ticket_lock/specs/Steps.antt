-- What each step on the table tells the seat that makes it.
use Rattle.std.specs.Prelude.{◌≡◌, ℕ, ◌<◌, ◌≤◌, ◌^◌, true, ◌==◌, ◌||◌, List, [], ◌∷◌, Some, None, All, MatchBool, if◌then◌else◌}
use Rattle.atomic_table.specs.Seated.{TableId}
use Rattle.atomic_table.specs.Table.{Me, Step}
use Rattle.atomic_table.specs.declared.shared.Seat.{Seat}
use Rattle.ticket_lock.specs.declared.rule.Slot.{Slot}
use Rattle.ticket_lock.specs.Rule.{in_slot}
use Rattle.ticket_lock.specs.declared.rule.Opening.{Opening}
use Rattle.ticket_lock.specs.declared.rule.View.{View}
use Rattle.ticket_lock.specs.declared.rule.Noted.{Noted}
use Rattle.ticket_lock.specs.declared.rule.Turn.TheVariants.{Idle, Waiting, Holding}
use Rattle.ticket_lock.specs.Past.{StartsWith, entries_of, longer}
use Rattle.ticket_lock.specs.Rule.{IsLive, IsNoted}

module _ {F W : Type 0} where
  -- the pass is out where the next ticket is found to be the last number
  abbrev pub noticed : ℕ → View F W → View F W
  noticed found v = if found == 2 ^ 63 then record v { out = true } else v

  -- the numbers of a pass below `at`, and from `at` on
  abbrev pub numbers_below : ℕ → View F W → View F W
  numbers_below at v = record v { hi = at }

  abbrev pub numbers_from : ℕ → View F W → View F W
  numbers_from at v = record v { lo = at }

  abbrev pub noted_of : View F W → Noted W
  noted_of v = record { lo = v.lo; hi = v.hi; mine = entries_of v.lo v.hi v.seen }

  -- both passes in one, which notes what each had of its own
  abbrev pub both_of : View F W → View F W → View F W
  both_of v w = record {
    opening = v.opening;
    lo = v.lo;
    hi = w.hi;
    seen = longer v.seen w.seen;
    out = v.out || w.out;
    turn = v.turn;
    noted = noted_of v ∷ noted_of w ∷ [];
  }

  abbrev pub spent : View F W
  spent = record { opening = None; lo = 0; hi = 0; seen = []; out = true; turn = Idle; noted = [] }

  abbrev pub closed : View F W → View F W
  closed v = record v { opening = None }

module _ {T F W : Type 0} where
  -- a look at `next`
  abbrev pub looked_next : Step (Slot T) → Me (Slot T) (View F W) → ℕ → Me (Slot T) (View F W) → Type 0
  looked_next st m found m' = (found ≤ 2 ^ 63) × (m' ≡ (noticed found m.0, m.1))

  -- the look after a join
  abbrev pub recalled : Step (Slot T) → Me (Slot T) (View F W) → ℕ → Me (Slot T) (View F W) → Type 0
  recalled st m found m' = (m' ≡ (record m.0 { noted = [] }, m.1)) × (IsLive m.0 → All (IsNoted m.0) m.0.noted)

  -- the exchange on `next`, by which a ticket is drawn
  abbrev pub drawn : Step (Slot T) → Me (Slot T) (View F W) → ℕ → Me (Slot T) (View F W) → Type 0
  drawn st m found m' = MatchBool (found == st.first) (m' ≡ (record m.0 { turn = Waiting st.first }, m.1)) (m' ≡ m)

  -- the pass of the view v has the value x, by the ticket t: it has seen its past, which begins with what it had seen and has its own entries and no others of its numbers
  pub record IsHanded (fixed_of : T → F) (past_of : T → List (ℕ × W)) (v : View F W) (t : ℕ) (x : T) (m : Me (Slot T) (View F W)) : Type 0 where
    pub seat : m ≡ (record v { turn = Holding t; seen = past_of x; noted = [] }, (0, in_slot x) ∷ [])
    pub fixed : (o : Opening F) → v.opening ≡ Some o → fixed_of x ≡ o.fixed
    pub begins : StartsWith (past_of x) v.seen
    pub own : entries_of v.lo v.hi (past_of x) ≡ entries_of v.lo v.hi v.seen
    pub some : v.lo < v.hi

  -- a look at `serving` by a pass that waits with the ticket t: where it finds t, it takes the slot
  abbrev pub served : (T → F) → (T → List (ℕ × W)) → Step (Slot T) → Me (Slot T) (View F W) → ℕ → Me (Slot T) (View F W) → Type 0
  served fixed_of past_of st m found m' = (t : ℕ) → m.0.turn ≡ Waiting t → MatchBool (found == t) ((x : T) × IsHanded fixed_of past_of m.0 t x m') (m' ≡ m)

  -- the exchange on `serving` that gives the slot back with the value x
  abbrev pub handed_back : (T → List (ℕ × W)) → Step (Slot T) → Me (Slot T) (View F W) → ℕ → Me (Slot T) (View F W) → Type 0
  handed_back past_of st m found m' = (x : T) → m.1 ≡ (0, in_slot x) ∷ [] → m' ≡ (record m.0 { turn = Idle; seen = past_of x; noted = [] }, [])

  -- the same seat, which now knows and holds this
  pub record Becomes (old new : Seat (Slot T) (View F W)) (m : Me (Slot T) (View F W)) : Type 0 where
    pub table : new.table_id ≡ old.table_id
    pub id : new.id ≡ old.id
    pub me : new.me ≡ m

  -- a live pass without a ticket, or with one for which it waits
  abbrev pub IsIdle : Seat (Slot T) (View F W) → Type 0
  IsIdle s = IsLive s.me.0 × (s.me.0.turn ≡ Idle) × (s.me.1 ≡ [])

  abbrev pub IsWaiting : Seat (Slot T) (View F W) → ℕ → Type 0
  IsWaiting s t = IsLive s.me.0 × (s.me.0.turn ≡ Waiting t) × (s.me.1 ≡ [])

  -- such a seat is at this table, which has the two words
  pub record MayDraw (z : TableId) (s : Seat (Slot T) (View F W)) : Type 0 where
    pub table : s.table_id ≡ z
    pub words : z.words ≡ 2
    pub idle : IsIdle s

  pub record MayTake (z : TableId) (s : Seat (Slot T) (View F W)) (t : ℕ) : Type 0 where
    pub table : s.table_id ≡ z
    pub words : z.words ≡ 2
    pub waiting : IsWaiting s t
