-- The lock rule: what holds of the two words, the slot and what all passes know, between any two steps.
-- The lock is the ticket lock of Mellor-Crummey and Scott (ACM TOCS 9(1), 1991), after the sequencers of Reed and Kanodia (CACM 22(2), 1979). The passes and their past are this project's own.
use Rattle.std.specs.Prelude.{◌≡◌, ◌≢◌, ◌⊎◌, ℕ, ◌<◌, ◌≤◌, ◌^◌, true, false, List, [], ◌∷◌, Option, Some, None, IsSome, All}
use mathlib.Core.Option.{some, none}
use lib.ListN.{get_elem?}
use Rattle.atomic_table.specs.Table.{State}
use Rattle.ticket_lock.specs.declared.rule.Slot.{Slot}
use Rattle.ticket_lock.specs.declared.rule.Start.{Start}
use Rattle.ticket_lock.specs.declared.rule.Opening.{Opening}
use Rattle.ticket_lock.specs.declared.rule.View.{View}
use Rattle.ticket_lock.specs.declared.rule.Noted.{Noted}
use Rattle.ticket_lock.specs.declared.rule.Turn.{Turn}
use Rattle.ticket_lock.specs.declared.rule.Turn.TheVariants.{Idle, Waiting, Holding}
use Rattle.ticket_lock.specs.Past.{StartsWith, entries_of}

-- the ticket of a pass, if it has one
abbrev pub ticket_of : Turn → Option ℕ
ticket_of Idle = None
ticket_of (Waiting t) = Some t
ticket_of (Holding t) = Some t

module _ {F W : Type 0} where
  -- the seat is not spent
  abbrev pub IsLive : View F W → Type 0
  IsLive v = IsSome v.opening

  -- the number k is one of lo..hi
  abbrev pub Covers : View F W → ℕ → Type 0
  Covers v k = (v.lo ≤ k) × (k < v.hi)

  -- after a join: each of the two passes still has its own entries in what both have seen
  abbrev pub IsNoted : View F W → Noted W → Type 0
  IsNoted v a = entries_of a.lo a.hi v.seen ≡ a.mine

  -- what one pass knows is true of the lock, which was opened with o:
  -- it knows the opening, and covers some of its numbers. What it has seen begins the past, which has no other entries of its numbers.
  -- Its ticket is not yet served or is served now; with the value in hand it is served now. If it is out, all tickets are drawn.
  pub record IsSound (o : Opening F) (next serving : ℕ) (past : List (ℕ × W)) (v : View F W) : Type 0 where
    pub opening : v.opening ≡ Some o
    pub some : v.lo < v.hi
    pub within : v.hi ≤ o.numbers
    pub seen : StartsWith past v.seen
    pub own : entries_of v.lo v.hi past ≡ entries_of v.lo v.hi v.seen
    pub ticket : (t : ℕ) → ticket_of v.turn ≡ Some t → (serving ≤ t) × (t < next)
    pub holds : (t : ℕ) → v.turn ≡ Holding t → t ≡ serving
    pub out : v.out ≡ true → next ≡ 2 ^ 63
    pub noted : All (IsNoted v) v.noted

  -- no number is covered by both passes, and they have different tickets
  pub record AreApart (v w : View F W) : Type 0 where
    pub numbers : (k : ℕ) → Covers v k → Covers w k → ⊥
    pub tickets : (t : ℕ) → ticket_of v.turn ≡ Some t → ticket_of w.turn ≡ Some t → ⊥

  -- the seat id has the view v, and is not spent
  abbrev pub IsSeated : List (View F W) → ℕ → View F W → Type 0
  IsSeated views id v = (get_elem? views id ≡ some v) × IsLive v

  -- what the first pass knows
  abbrev pub first_view : {T : Type 0} → (T → List (ℕ × W)) → Opening F → T → View F W
  first_view past_of o value = record { opening = Some o; lo = 0; hi = o.numbers; seen = past_of value; out = false; turn = Idle; noted = [] }

-- what stays as it was at the opening
abbrev pub opening_of : {T F : Type 0} → (T → F) → Start T → Opening F
opening_of fixed_of start = record { numbers = start.numbers; fixed = fixed_of start.value.value }

abbrev pub in_slot : {T : Type 0} → T → Slot T
in_slot x = record { value = x }

-- the value is in the slot, and no pass has it
pub record IsHome {T F W : Type 0} (fixed_of : T → F) (past_of : T → List (ℕ × W)) (o : Opening F) (past : List (ℕ × W)) (s : State (Slot T) (View F W)) : Type 0 where
  pub value : T
  pub slot : s.homes ≡ some (in_slot value) ∷ []
  pub fixed : fixed_of value ≡ o.fixed
  pub past_is : past_of value ≡ past
  pub nobody : (id : ℕ) (v : View F W) (t : ℕ) → IsSeated s.views id v → v.turn ≢ Holding t

-- the value is out with a pass whose ticket is served, and that has seen the whole past
pub record IsOut {T F W : Type 0} (serving : ℕ) (past : List (ℕ × W)) (s : State (Slot T) (View F W)) : Type 0 where
  pub slot : s.homes ≡ none ∷ []
  pub holder : ℕ
  pub view : View F W
  pub seated : IsSeated s.views holder view
  pub holds : view.turn ≡ Holding serving
  pub seen : view.seen ≡ past

-- the lock rule: `serving` and then `next` count the tickets; each pass knows what is true, and no two have a number or a ticket in common; and the value is at home, or out with one of them
pub record LockRule {T F W : Type 0} (fixed_of : T → F) (past_of : T → List (ℕ × W)) (o : Opening F) (s : State (Slot T) (View F W)) : Type 0 where
  pub next : ℕ
  pub serving : ℕ
  pub past : List (ℕ × W)
  pub words : s.words ≡ next ∷ serving ∷ []
  pub order : serving ≤ next
  pub top : next ≤ 2 ^ 63
  pub each : (id : ℕ) (v : View F W) → IsSeated s.views id v → IsSound o next serving past v
  pub apart : (i j : ℕ) (v w : View F W) → i ≢ j → IsSeated s.views i v → IsSeated s.views j w → AreApart v w
  pub value : IsHome fixed_of past_of o past s ⊎ IsOut serving past s
