-- What a clause sees of a lock, a pass and a held value.
use Rattle.std.specs.Prelude.{◌≡◌, ℕ, ◌<◌, Bool, false, ◌||◌, List, [], ◌∷◌, Option, Some, IsSome}
use Rattle.std.specs.Option.{option_map}
use Rattle.atomic_table.specs.Seated.{TableId}
use Rattle.atomic_table.specs.declared.shared.Seat.{Seat}
use Rattle.ticket_lock.specs.declared.rule.Slot.{Slot}
use Rattle.ticket_lock.specs.Rule.{in_slot}
use Rattle.ticket_lock.specs.declared.rule.Opening.{Opening}
use Rattle.ticket_lock.specs.declared.rule.View.{View}
use Rattle.ticket_lock.specs.declared.rule.Turn.TheVariants.{Idle, Holding}
use Rattle.ticket_lock.specs.Past.{entries_of, longer}

-- which lock it is, for how many numbers it was opened, and the fixed part of its value
pub record LockOf (F : Type 0) : Type 0 where
  pub table : TableId
  pub numbers : ℕ
  pub fixed : F

-- what a pass knows: its lock, if it is still a pass of one; the numbers lo..hi that it covers; the beginning of the past
-- that it has seen; and whether it has found that all tickets are drawn
pub record Known (F W : Type 0) : Type 0 where
  pub lock : Option (LockOf F)
  pub lo : ℕ
  pub hi : ℕ
  pub seen : List (ℕ × W)
  pub out : Bool

-- the entries of what a pass has seen that are its own
abbrev pub mine : {F W : Type 0} → Known F W → List (ℕ × W)
mine p = entries_of p.lo p.hi p.seen

-- the pass that a lock is opened with: it covers all numbers, and has seen the past
abbrev pub first_pass : {F W : Type 0} → LockOf F → List (ℕ × W) → Known F W
first_pass l past = record { lock = Some l; lo = 0; hi = l.numbers; seen = past; out = false }

-- two passes in one
abbrev pub joined_pass : {F W : Type 0} → Known F W → Known F W → Known F W
joined_pass p q = record p { hi = q.hi; seen = longer p.seen q.seen; out = p.out || q.out }

-- a value that is out of the lock, and the pass that has it
pub record Hold (F W T : Type 0) : Type 0 where
  pub pass : Known F W
  pub value : T

abbrev pub lock_of : {F : Type 0} → TableId → Opening F → LockOf F
lock_of z o = record { table = z; numbers = o.numbers; fixed = o.fixed }

-- the value in the slot that is carried, or else d
abbrev pub value_in : {T : Type 0} → T → List (ℕ × Slot T) → T
value_in d [] = d
value_in d (c ∷ cs) = c.1.value

module _ {F W T : Type 0} where
  abbrev pub known_of : Seat (Slot T) (View F W) → Known F W
  known_of s = let v = s.me.0 in record { lock = option_map (lock_of s.table_id) v.opening; lo = v.lo; hi = v.hi; seen = v.seen; out = v.out }

  -- the seat of a pass, which has no ticket and no slot
  pub record IsResting (s : Seat (Slot T) (View F W)) (lo : ℕ) : Type 0 where
    pub lo_is : s.me.0.lo ≡ lo
    pub some : s.me.0.lo < s.me.0.hi
    pub idle : s.me.0.turn ≡ Idle
    pub bare : s.me.1 ≡ []

  -- the seat of a pass that has the value: it has the slot
  pub record IsServed (z : TableId) (s : Seat (Slot T) (View F W)) (lo : ℕ) : Type 0 where
    pub table : s.table_id ≡ z
    pub words : z.words ≡ 2
    pub lo_is : s.me.0.lo ≡ lo
    pub some : s.me.0.lo < s.me.0.hi
    pub live : IsSome s.me.0.opening
    pub ticket : ℕ
    pub holds : s.me.0.turn ≡ Holding ticket
    pub value : T
    pub slot : s.me.1 ≡ (0, in_slot value) ∷ []

-- the pass is of this lock, and this number parts its numbers in two
pub record IsCutAt {F W : Type 0} (l : LockOf F) (p : Known F W) (at : ℕ) : Type 0 where
  pub own : p.lock ≡ Some l
  pub below : p.lo < at
  pub above : at < p.hi

-- the lock of the pass was opened with this fixed part
abbrev pub IsFixedOf : {F W : Type 0} → Known F W → F → Type 0
IsFixedOf p f = option_map (λ l. l.fixed) p.lock ≡ Some f

abbrev pub with_value : {F W T : Type 0} → Hold F W T → T → Hold F W T
with_value h x = record h { value = x }
