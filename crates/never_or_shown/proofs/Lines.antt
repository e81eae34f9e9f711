-- The lines of epochs, by their addresses on the bus: what conflicts, what is shared, and that a buffer takes those that are.
use Rattle.std.proofs.Common.{◌≡◌, ◌≢◌, ℕ, ◌+◌, ◌*◌, ◌<◌, ◌≤◌, ◌==◌, ◌||◌, Bool, true, List, [], ◌∷◌, length, refl, sym, ap, subst, ◌∙◌, inl, inr, arith, eqb-true, eq-eqb}
use Rattle.std.proofs.lemmas.Bool.{both_ways, cases_Bool, cases_lt, or_left, or_right}
use Rattle.rv32_image.specs.Image.{LoadedImage}
use Rattle.rv32_image.specs.Machine.{is_line_length}
use Rattle.rv32_image.proofs.Bounds.{by_length}
use Rattle.spec_history.specs.Conflict.{line_number}
use Rattle.spec_history.specs.Searches.{count_below}
use Rattle.orb.specs.Lines.{holds, IsEachOnce}
use Rattle.homefree.proofs.Violations.Sharing.{but, not_this, unless_this}
use Rattle.dependences.specs.Conflict.{AreBeside, LineConflict, PathReads, StoresIn, path_memory}
use Rattle.dependences.specs.Shared.{IsShared, RunBeside, SharedOverflow, TouchesIn}
use Rattle.dependences.proofs.Meetings.{passing}
use Rattle.epoch_paths.proofs.Cores.{count_more}
use Rattle.never_or_shown.proofs.Messages.{FitsBuffer}

-- the epoch's path reads a byte of this line from outside
pub record ReadsLine (image : LoadedImage) (cores epoch line : ℕ) : Type 0 where
  pub at : ℕ
  pub in_line : line_number image at ≡ line
  pub reads : PathReads image cores epoch at

-- the line at this address
pub record OfLine (line_length : ℕ) (P : ℕ → Type 0) (a : ℕ) : Type 0 where
  pub number : ℕ
  pub is : a ≡ line_length * number
  pub holds_of : P number

abbrev pub Reads : LoadedImage → ℕ → ℕ → ℕ → Type 0
Reads image cores e a = OfLine image.machine.line_length (ReadsLine image cores e) a

abbrev pub Writes : LoadedImage → ℕ → ℕ → ℕ → Type 0
Writes image cores e a = OfLine image.machine.line_length (StoresIn image e (path_memory image cores e)) a

abbrev pub Shares : LoadedImage → ℕ → ℕ → ℕ → Type 0
Shares image cores e a = OfLine image.machine.line_length (IsShared image cores (path_memory image cores) e) a

-- lines at one address are one
pub one_line : (n i j : ℕ) → is_line_length n ≡ true → n * i ≡ n * j → i ≡ j
one_line n i j h = by_length (λ m. m * i ≡ m * j → i ≡ j) n h (λ s. omega (arith, s)) (λ s. omega (arith, s)) (λ s. omega (arith, s))

low_number : (n i : ℕ) → is_line_length n ≡ true → i ≤ n * i
low_number n i h = by_length (λ m. i ≤ m * i) n h (omega arith) (omega arith) (omega arith)

-- ---- numbers that pass, counted

-- the line is that of a number below n that passes
abbrev IsOf : ℕ → ℕ → (ℕ → Bool) → ℕ → Type 0
IsOf long n test a = (number : ℕ) × (a ≡ long * number) × (number < n) × (test number ≡ true)

first_is : (a b : ℕ) (lines : List ℕ) → a ≡ b → holds (a ∷ lines) b ≡ true
first_is a b lines same = or_left (a == b) (holds lines b) (eq-eqb a b same)

later_is : (a b : ℕ) (lines : List ℕ) → holds lines b ≡ true → holds (a ∷ lines) b ≡ true
later_is a b lines is = or_right (a == b) (holds lines b) is

-- lines, each once, are no more than the numbers that pass
at_most : (long n : ℕ) (lines : List ℕ) (test : ℕ → Bool) → IsEachOnce lines → ((a : ℕ) → holds lines a ≡ true → IsOf long n test a) → length lines ≤ count_below n test
at_most long n [] test once all = omega arith
at_most long n (a ∷ lines) test once all =
    let one = all a (first_is a a lines refl) in
    let i : ℕ = one.0 in
    let rest = at_most long n lines (but test i) once.1
    (λ b held. let two = all b (later_is a b lines held) in (
      two.0,
      two.1,
      two.2,
      unless_this test i two.0
          (λ same. both_ways (holds lines a) once.0
          (subst (λ (x : ℕ). holds lines x ≡ true) (two.1 ∙ (ap (λ m. long * m) same ∙ sym one.1)) held)) ∙ two.3,
    )) in
    let fewer = count_more n i (but test i) test one.2 (λ k other. unless_this test i k other) (not_this test i) one.3 in
    omega (arith, rest, fewer)

-- a number above all of these
abbrev above : List ℕ → ℕ
above [] = 0
above (a ∷ lines) = a + above lines + 1

is_above : (lines : List ℕ) (a : ℕ) → holds lines a ≡ true → a < above lines
is_above [] a is = absurd cc
is_above (b ∷ lines) a is = elim (cases_Bool (b == a)) [
  | inl here ↦ (let same : b ≡ a = eqb-true b a here in omega (arith, same))
  | inr other ↦ (let rest = is_above lines a (sym (ap (λ x. x || holds lines a) other) ∙ is) in omega (arith, rest))
]

-- ---- what the epochs of the image do

module _ (image : LoadedImage) (cores : ℕ) (lines_are : is_line_length image.machine.line_length ≡ true) where
  -- a line that is stored in by the one and read by the other
  pub conflict_of : (LineConflict image cores → ⊥) → (e f a : ℕ) → AreBeside image cores e f → Writes image cores e a → Reads image cores f a → ⊥
  conflict_of free e f a beside w r = free (record {
    earlier = e;
    later = f;
    written = w.holds_of.at;
    read = r.holds_of.at;
    beside = beside;
    same = w.holds_of.in_line ∙ (one_line image.machine.line_length w.number r.number lines_are (sym w.is ∙ r.is) ∙ sym r.holds_of.in_line);
    stores = w.holds_of.stores;
    reads = r.holds_of.reads;
  })

  -- what an epoch touches is shared for another one beside it
  pub share_of : (e f n a : ℕ) → a ≡ image.machine.line_length * n → RunBeside image cores e f → TouchesIn image e (path_memory image cores e) n → Shares image cores f a
  share_of e f n a is beside touches = record { number = n; is = is; holds_of = record { other = e; beside = beside; touches = touches } }

  pub share_written : (e f a : ℕ) → RunBeside image cores e f → Writes image cores e a → Shares image cores f a
  share_written e f a beside w =
      share_of e f w.number a w.is beside (record { at = w.holds_of.at; in_line = w.holds_of.in_line; touches = record { step = w.holds_of.stores.step; there = inr w.holds_of.stores.there } })

  pub share_read : (e f a : ℕ) → RunBeside image cores e f → Reads image cores e a → Shares image cores f a
  share_read e f a beside r =
      share_of e f r.number a r.is beside (record { at = r.holds_of.at; in_line = r.holds_of.in_line; touches = record { step = r.holds_of.reads.step; there = inl r.holds_of.reads.there } })

  abbrev IsOther : ℕ → ℕ → ℕ → Type 0
  IsOther f n m = (m ≢ n) × StoresIn image f (path_memory image cores f) m × IsShared image cores (path_memory image cores) f m

  -- where an epoch stores in a line that an earlier one touches, the others that it stores in, and that are shared, are fewer than its
  -- buffer takes
  pub fits_of : (SharedOverflow image cores → ⊥) → (e f n a : ℕ) → a ≡ image.machine.line_length * n → AreBeside image cores e f
      → TouchesIn image e (path_memory image cores e) n → FitsBuffer (Writes image cores f) (Shares image cores f) a image.machine.buffer_lines
  fits_of room e f n a at beside touches writes lines once all = elim (cases_lt (length lines) image.machine.buffer_lines) [
    | inl few ↦ few
    | inr many ↦ absurd (room (overflow many))
  ]
    where
      test : ℕ → Bool
      test m = holds lines (image.machine.line_length * m)

      others : (m : ℕ) → test m ≡ true → IsOther f n m
      others m is =
          let three = all (image.machine.line_length * m) is in
          let stored = one_line image.machine.line_length three.1.number m lines_are (sym three.1.is) in
          let shared = one_line image.machine.line_length three.2.number m lines_are (sym three.2.is) in (
            λ same. three.0 (ap (λ x. image.machine.line_length * x) same ∙ sym at),
            subst (λ (x : ℕ). StoresIn image f (path_memory image cores f) x) stored three.1.holds_of,
            subst (λ (x : ℕ). IsShared image cores (path_memory image cores) f x) shared three.2.holds_of,
          )

      is_of : (b : ℕ) → holds lines b ≡ true → IsOf image.machine.line_length (above lines) test b
      is_of b is =
          let w = (all b is).1 in
          let below = is_above lines b is in
          let low = low_number image.machine.line_length w.number lines_are in
          let there = w.is in
          (w.number, there, omega (arith, below, low, there), ap (holds lines) (sym there) ∙ is)

      overflow : image.machine.buffer_lines ≤ length lines → SharedOverflow image cores
      overflow many =
          let found = passing (IsOther f n) test others (above lines) in
          let most = at_most image.machine.line_length (above lines) lines test once is_of in
          let count = found.long in record {
            earlier = e;
            later = f;
            line = n;
            others = found.list;
            bound = above lines;
            beside = beside;
            touches = touches;
            stores = subst (λ (x : ℕ). StoresIn image f (path_memory image cores f) x)
                (one_line image.machine.line_length writes.number n lines_are (sym writes.is ∙ at)) writes.holds_of;
            apart = found.falling;
            full = omega (arith, many, most, count);
            each = found.each;
          }
