-- Bytes kept beside memory.
use Rattle.std.proofs.Common.{◌≡◌, ◌⊎◌, ℕ, zero, suc, ◌+◌, ◌-◌, ◌<◌, ◌≤◌, ◌^◌, List, [], ◌∷◌, ◌++◌, Bool, true, false, if◌then◌else◌, length, get_or, set, take, replicate, slice_index, is_some, Option, Some, None, refl, sym, ap, subst, ◌∙◌, inl, inr, arith, length-append, length-set, append_assoc, get_or-set_same, get_or-set_other}
use Rattle.std.proofs.lemmas.Bool.{cases_eq, cases_lt}
use Rattle.std.proofs.lemmas.List.{get_or_append_left, get_or_default, get_or_past, get_or_push, get_or_read, length-replicate, length_push, replicate-append-replicate, take_all}
use Rattle.std.proofs.lemmas.Option.{none-some}
use Rattle.memory_bytes.proofs.SmallFacts.{none_by}
use Rattle.memory_bytes.specs.Shadow.{byte_in, noted, padded, Covers, IsShadow}

-- one more address without a byte
pub none_more : (cells : List (Option ℕ)) → ((a : ℕ) → byte_in cells a ≡ None) → (a : ℕ) → byte_in (cells ++ None ∷ []) a ≡ None
none_more [] none zero = refl
none_more [] none (suc a) = refl
none_more (cell ∷ cells) none zero = none 0
none_more (cell ∷ cells) none (suc a) = none_more cells (λ b. none (suc b)) a

-- each byte that is there stands among the addresses from this place on
pub record Left (cells : List (Option ℕ)) (addresses : List ℕ) (from : ℕ) : Type 0 where
  pub within : (place : ℕ) → place < length addresses → slice_index addresses place < length cells
  pub each : (a byte : ℕ) → byte_in cells a ≡ Some byte → (place : ℕ) × (from ≤ place) × (place < length addresses) × (slice_index addresses place ≡ a)

taken : (cells : List (Option ℕ)) (addr a byte : ℕ) → a ≡ addr → addr < length cells → byte_in (set cells addr None) a ≡ Some byte → ⊥
taken cells addr a byte e within some = let none = get_or-set_same cells addr None None within in let at = ap (byte_in (set cells addr None)) e in absurd (grind (arith, none, at, some))

-- at the end none is left
pub none_left : (cells : List (Option ℕ)) (addresses : List ℕ) (from : ℕ) → length addresses ≤ from → Left cells addresses from → (a : ℕ) → byte_in cells a ≡ None
none_left cells addresses from all left a = none_by (byte_in cells a) (λ byte some. let found = left.each a byte some in absurd (omega (arith, found.1, found.2)))

-- ---- one byte more

is_there : (o : Option ℕ) → is_some o ≡ true → (byte : ℕ) × (o ≡ Some byte)
is_there None is = absurd (grind (arith, is))
is_there (Some byte) is = (byte, refl)

set_holds : (cells : List (Option ℕ)) (addr byte a : ℕ) → addr < length cells → is_some (byte_in cells a) ≡ true → is_some (byte_in (set cells addr (Some byte)) a) ≡ true
set_holds cells addr byte a below some = elim (cases_eq a addr) [
  | inl e ↦ ap (λ b. is_some (byte_in (set cells addr (Some byte)) b)) e ∙ ap is_some (get_or-set_same cells addr (Some byte) None below)
  | inr other ↦ ap is_some (get_or-set_other cells addr a (Some byte) None other) ∙ some
]

-- a byte is put where there is one
pub covers_again : (cells : List (Option ℕ)) (addresses : List ℕ) (addr byte : ℕ) (cell : Option ℕ) → addr < length cells → cell ≡ get_or cells addr cell → is_some cell ≡ true
    → Covers cells addresses → Covers (set cells addr (Some byte)) addresses
covers_again cells addresses addr byte cell below read is was =
    let some : is_some (byte_in cells addr) ≡ true = ap is_some (sym (get_or_read cells addr cell below read None)) ∙ is in
    let long : length (set cells addr (Some byte)) ≡ length cells = length-set cells addr (Some byte) in
    let here = is_there (byte_in cells addr) some in
    record {
      small = omega (arith, long, was.small);
      within = λ place within. omega (arith, long, was.within place within);
      each = λ a value is. elim (cases_eq a addr) [
        | inl e ↦ was.each a here.0 (ap (byte_in cells) e ∙ here.1)
        | inr other ↦ was.each a value (sym (get_or-set_other cells addr a (Some byte) None other) ∙ is)
      ];
      held = λ place within. set_holds cells addr byte (slice_index addresses place) below (was.held place within);
      once = was.once;
    }

-- a place in a list with one address more
placed : (addresses : List ℕ) (addr place : ℕ) → place < length (addresses ++ addr ∷ [])
    → ((place < length addresses) × (slice_index (addresses ++ addr ∷ []) place ≡ slice_index addresses place))
    ⊎ ((place ≡ length addresses) × (slice_index (addresses ++ addr ∷ []) place ≡ addr))
placed addresses addr place within = elim (cases_eq place (length addresses)) [
  | inl e ↦ inr (e, get_or_push addresses addr 0 place (sym e))
  | inr other ↦ let less : place < length addresses = omega (arith, within, other, length_push addresses addr) in
      inl (less, get_or_append_left addresses (addr ∷ []) 0 place less)
]

-- no address of the list is one without a byte
apart : (cells : List (Option ℕ)) (addresses : List ℕ) (addr place : ℕ) → is_some (byte_in cells addr) ≡ false → Covers cells addresses
    → place < length addresses → slice_index addresses place ≡ addr → ⊥
apart cells addresses addr place none was within is =
    let held : is_some (byte_in cells addr) ≡ true = ap (λ a. is_some (byte_in cells a)) (sym is) ∙ was.held place within in
    absurd (grind (arith, none, held))

-- a byte is put where there is none, and its address is noted
pub covers_more : (cells : List (Option ℕ)) (addresses : List ℕ) (addr byte : ℕ) (cell : Option ℕ) → addr < length cells → cell ≡ get_or cells addr cell → is_some cell ≡ false
    → Covers cells addresses → Covers (set cells addr (Some byte)) (addresses ++ addr ∷ [])
covers_more cells addresses addr byte cell below read is was =
    let none : is_some (byte_in cells addr) ≡ false = ap is_some (sym (get_or_read cells addr cell below read None)) ∙ is in
    let long : length (set cells addr (Some byte)) ≡ length cells = length-set cells addr (Some byte) in
    let more = addresses ++ addr ∷ [] in
    record {
      small = omega (arith, long, was.small);
      within = λ place within. elim (placed addresses addr place within) [
        | inl old ↦ omega (arith, long, old.1, was.within place old.0)
        | inr new ↦ omega (arith, long, new.1, below)
      ];
      each = λ a value is. elim (cases_eq a addr) [
        | inl e ↦ record {
          place = length addresses;
          within = omega (arith, length_push addresses addr);
          is = get_or_push addresses addr 0 (length addresses) refl ∙ sym e;
        }
        | inr other ↦
            let at = was.each a value (sym (get_or-set_other cells addr a (Some byte) None other) ∙ is) in
            record {
              place = at.place;
              within = omega (arith, at.within, length_push addresses addr);
              is = get_or_append_left addresses (addr ∷ []) 0 at.place at.within ∙ at.is;
            }
      ];
      held = λ place within. elim (placed addresses addr place within) [
        | inl old ↦ ap (λ a. is_some (byte_in (set cells addr (Some byte)) a)) old.1
            ∙ set_holds cells addr byte (slice_index addresses place) below (was.held place old.0)
        | inr new ↦ ap (λ a. is_some (byte_in (set cells addr (Some byte)) a)) new.1
            ∙ ap is_some (get_or-set_same cells addr (Some byte) None below)
      ];
      once = λ first second first_in second_in same. elim (placed addresses addr first first_in) [
        | inl a ↦ elim (placed addresses addr second second_in) [
          | inl b ↦ was.once first second a.0 b.0 (sym a.1 ∙ same ∙ b.1)
          | inr b ↦ absurd (apart cells addresses addr first none was a.0 (sym a.1 ∙ same ∙ b.1))
        ]
        | inr a ↦ elim (placed addresses addr second second_in) [
          | inl b ↦ absurd (apart cells addresses addr second none was b.0 (sym b.1 ∙ sym same ∙ a.1))
          | inr b ↦ a.0 ∙ sym b.0
        ]
      ];
    }

-- ---- cells that aren't there yet

abbrev no_byte : Option ℕ
no_byte = None

none_at : (n a : ℕ) → byte_in (replicate n no_byte) a ≡ None
none_at zero a = refl
none_at (suc n) zero = refl
none_at (suc n) (suc a) = none_at n a

pub byte_is : (cells : List (Option ℕ)) (n a : ℕ) → byte_in (cells ++ replicate n no_byte) a ≡ byte_in cells a
byte_is [] n a = none_at n a
byte_is (cell ∷ cells) n zero = refl
byte_is (cell ∷ cells) n (suc a) = byte_is cells n a

pub length_is : (cells : List (Option ℕ)) (size : ℕ) → length cells ≤ size → length (padded cells size) ≡ size
length_is cells size within =
    length-append cells (replicate (size - length cells) no_byte) ∙ (ap (λ n. length cells + n) (length-replicate (size - length cells) no_byte) ∙ omega (arith, within))

-- further cells
pub padded_more : (cells more : List (Option ℕ)) (addr long size : ℕ) → length cells ≤ addr → long ≡ length cells → more ≡ take (addr + 1) cells ++ replicate (addr + 1 - long) no_byte → addr < size
    → (length more ≡ addr + 1) × (padded more size ≡ padded cells size)
padded_more cells more addr long size past long_is resized below =
    let n = addr + 1 - long in
    let is : more ≡ cells ++ replicate n no_byte = resized ∙ ap (λ (l : List (Option ℕ)). l ++ replicate n no_byte) (take_all (addr + 1) cells (omega (arith, past))) in
    let longer : length more ≡ addr + 1 = ap length is ∙ (length-append cells (replicate n no_byte) ∙ (ap (λ k. length cells + k) (length-replicate n no_byte) ∙ omega (arith, past, long_is))) in
    let left : n + (size - length more) ≡ size - length cells = omega (arith, past, longer, long_is, below) in (
      longer,
      ap (λ (l : List (Option ℕ)). l ++ replicate (size - length more) no_byte) is ∙ (append_assoc cells (replicate n no_byte) (replicate (size - length more) no_byte)
          ∙ ap (λ l. cells ++ l) (replicate-append-replicate n (size - length more) no_byte ∙ ap (λ k. replicate k no_byte) left)),
    )

set_append : (cells rest : List (Option ℕ)) (addr : ℕ) (cell : Option ℕ) → addr < length cells → set cells addr cell ++ rest ≡ set (cells ++ rest) addr cell
set_append [] rest addr cell below = absurd (omega (arith, below))
set_append (first ∷ cells) rest zero cell below = refl
set_append (first ∷ cells) rest (suc addr) cell below = ap (λ l. first ∷ l) (set_append cells rest addr cell (omega (arith, below)))

pub padded_set : (cells : List (Option ℕ)) (size addr : ℕ) (cell : Option ℕ) → addr < length cells → padded (set cells addr cell) size ≡ set (padded cells size) addr cell
padded_set cells size addr cell below =
    ap (λ n. set cells addr cell ++ replicate (size - n) no_byte) (length-set cells addr cell) ∙ set_append cells (replicate (size - length cells) no_byte) addr cell below

-- more addresses
pub covers_by : (cells cells' : List (Option ℕ)) (touched : List ℕ) → ((a : ℕ) → byte_in cells' a ≡ byte_in cells a) → length cells ≤ length cells' → length cells' < 2 ^ 32
    → Covers cells touched → Covers cells' touched
covers_by cells cells' touched same longer small was = record {
  small = small;
  within = λ place below. omega (arith, was.within place below, longer);
  each = λ a byte some. was.each a byte (sym (same a) ∙ some);
  held = λ place below. ap is_some (same _) ∙ was.held place below;
  once = was.once;
}

pub covers_longer : (cells : List (Option ℕ)) (size size' : ℕ) (touched : List ℕ) → length cells ≤ size → size ≤ size' → size' < 2 ^ 32 → Covers (padded cells size) touched
    → Covers (padded cells size') touched
covers_longer cells size size' touched within more small was =
    covers_by (padded cells size) (padded cells size') touched (λ a. byte_is cells (size' - length cells) a ∙ sym (byte_is cells (size - length cells) a))
    (omega (arith, length_is cells size within, length_is cells size' (omega (arith, within, more)), more)) (omega (arith, length_is cells size' (omega (arith, within, more)), small)) was

-- a byte is set where there is a cell
module _ (cells : List (Option ℕ)) (size addr byte : ℕ) (touched : List ℕ) (cell : Option ℕ) (there : addr < length cells) (below : length cells ≤ size) (read : cell ≡ get_or cells addr cell)
    (was : Covers (padded cells size) touched) where
  inside : addr < length (padded cells size)
  inside = omega (arith, length_is cells size below, there, below)

  seen : cell ≡ get_or (padded cells size) addr cell
  seen = get_or_read cells addr cell there read None ∙ (sym (byte_is cells (size - length cells) addr) ∙ get_or_default (padded cells size) addr None cell inside)

  pub puts_again : is_some cell ≡ true → Covers (padded (set cells addr (Some byte)) size) touched
  puts_again is = subst (λ v. Covers v touched) (sym (padded_set cells size addr (Some byte) there)) (covers_again (padded cells size) touched addr byte cell inside seen is was)

  pub puts_more : is_some cell ≡ false → Covers (padded (set cells addr (Some byte)) size) (touched ++ addr ∷ [])
  puts_more is = subst (λ v. Covers v (touched ++ addr ∷ [])) (sym (padded_set cells size addr (Some byte) there)) (covers_more (padded cells size) touched addr byte cell inside seen is was)

-- ---- an address is noted

pub noted_again : (cells : List (Option ℕ)) (touched : List ℕ) (addr : ℕ) (cell : Option ℕ) → addr < length cells → cell ≡ get_or cells addr cell → is_some cell ≡ true
    → touched ≡ noted cells touched addr
noted_again cells touched addr cell there read is =
    let some : is_some (byte_in cells addr) ≡ true = ap is_some (sym (get_or_read cells addr cell there read None)) ∙ is in sym (ap (λ b. if b then touched else touched ++ addr ∷ []) some)

pub noted_more : (cells : List (Option ℕ)) (touched : List ℕ) (addr : ℕ) (cell : Option ℕ) → addr < length cells → cell ≡ get_or cells addr cell → is_some cell ≡ false
    → touched ++ addr ∷ [] ≡ noted cells touched addr
noted_more cells touched addr cell there read is =
    let none : is_some (byte_in cells addr) ≡ false = ap is_some (sym (get_or_read cells addr cell there read None)) ∙ is in sym (ap (λ b. if b then touched else touched ++ addr ∷ []) none)

noted_covers : (cells : List (Option ℕ)) (size addr byte : ℕ) (touched : List ℕ) (b : Bool) → is_some (byte_in cells addr) ≡ b → addr < length cells → length cells ≤ size
    → Covers (padded cells size) touched → Covers (padded (set cells addr (Some byte)) size) (if b then touched else touched ++ addr ∷ [])
noted_covers cells size addr byte touched true is there below was =
    puts_again cells size addr byte touched (byte_in cells addr) there below (get_or_default cells addr None (byte_in cells addr) there) was is
noted_covers cells size addr byte touched false is there below was =
    puts_more cells size addr byte touched (byte_in cells addr) there below (get_or_default cells addr None (byte_in cells addr) there) was is

-- the addresses of the bytes have cells
there_is : (cells : List (Option ℕ)) (a : ℕ) → is_some (byte_in cells a) ≡ true → a < length cells
there_is cells a some = elim (cases_lt a (length cells)) [
  | inl below ↦ below
  | inr past ↦ absurd (grind (arith, some, ap is_some (get_or_past cells a no_byte past)))
]

-- the list has them, in the cells
pub left_start : (cells : List (Option ℕ)) (size : ℕ) (touched : List ℕ) → Covers (padded cells size) touched → Left cells touched 0
left_start cells size touched was = record {
  within = λ place below. there_is cells (slice_index touched place) (ap is_some (sym (byte_is cells (size - length cells) (slice_index touched place))) ∙ was.held place below);
  each = λ a byte some. let at = was.each a byte (byte_is cells (size - length cells) a ∙ some) in (at.place, omega arith, at.within, at.is);
}

-- ---- what is kept, as each call leaves it

-- what is further on, as a call leaves it that makes cells up to this address
abbrev pub StaysWithin : List (Option ℕ) → List (Option ℕ) → ℕ → Type 0
StaysWithin cells cells' addr = (size : ℕ) → addr < size → length cells ≤ size → length cells' ≤ size

abbrev pub StaysSame : List (Option ℕ) → List (Option ℕ) → ℕ → Type 0
StaysSame cells cells' addr = (size : ℕ) → addr < size → length cells ≤ size → padded cells' size ≡ padded cells size

pub shadow_put : (cells cells' cells'' : List (Option ℕ)) (size capacity capacity' capacity'' addr byte : ℕ) (touched touched' : List ℕ) → addr < length (padded cells size)
    → StaysWithin cells cells' addr → StaysSame cells cells' addr → capacity ≤ capacity' → cells'' ≡ set cells' addr (Some byte)
    → touched' ≡ noted cells' touched addr → capacity'' ≡ capacity' → addr < length cells' → IsShadow cells size capacity touched
    → IsShadow cells'' size capacity'' touched'
shadow_put cells cells' cells'' size capacity capacity' capacity'' addr byte touched touched' below within same more puts notes kept there was =
    let in_size : addr < size = omega (arith, below, length_is cells size was.within) in
    let stays : length cells' ≤ size = within size in_size was.within in rw (puts, notes) (record {
      within = omega (arith, stays, length-set cells' addr (Some byte));
      room = omega (arith, was.room, more, kept);
      covers = noted_covers cells' size addr byte touched (is_some (byte_in cells' addr)) refl there stays (subst (λ v. Covers v touched) (sym (same size in_size was.within)) was.covers);
    })

pub view_set : (cells cells' cells'' view : List (Option ℕ)) (size capacity addr byte : ℕ) (touched : List ℕ) → view ≡ padded cells size → addr < length view → addr < length cells'
    → StaysSame cells cells' addr → cells'' ≡ set cells' addr (Some byte) → IsShadow cells size capacity touched → padded cells'' size ≡ set view addr (Some byte)
view_set cells cells' cells'' view size capacity addr byte touched is below there same puts was =
    let in_size : addr < size = omega (arith, below, ap length is, length_is cells size was.within) in
    ap (λ l. padded l size) puts ∙ (padded_set cells' size addr (Some byte) there ∙ ap (λ v. set v addr (Some byte)) (same size in_size was.within ∙ sym is))

-- more addresses
pub shadow_longer : (cells cells' : List (Option ℕ)) (size size' capacity capacity' : ℕ) (touched touched' : List ℕ) → cells' ≡ cells → touched' ≡ touched → size < size' → size' < 2 ^ 32
    → size' ≤ capacity' → IsShadow cells size capacity touched → IsShadow cells' size' capacity' touched'
shadow_longer cells cells' size size' capacity capacity' touched touched' same noted longer small room was =
    rw (same, noted) (record {
      within = omega (arith, was.within, longer);
      room = room;
      covers = covers_longer cells size size' touched was.within (omega (arith, longer)) small was.covers;
    })

-- nothing is left
pub shadow_empty : (cells cells' : List (Option ℕ)) (size capacity capacity' : ℕ) (touched touched' : List ℕ) → length cells' ≡ length cells → ((a : ℕ) → byte_in cells' a ≡ None)
    → capacity' ≡ capacity → touched' ≡ [] → IsShadow cells size capacity touched → IsShadow cells' size capacity' touched'
shadow_empty cells cells' size capacity capacity' touched touched' long none kept list was =
    let within : length cells' ≤ size = omega (arith, long, was.within) in rw list (record {
      within = within;
      room = omega (arith, kept, was.room);
      covers = record {
        small = omega (arith, was.covers.small, length_is cells size was.within, length_is cells' size within);
        within = λ place below. absurd (omega (arith, below));
        each = λ a byte some. absurd (none-some byte (sym (none a) ∙ (sym (byte_is cells' (size - length cells') a) ∙ some)));
        held = λ place below. absurd (omega (arith, below));
        once = λ first second first_in second_in same. absurd (omega (arith, first_in));
      };
    })
