-- Where the bytes of a line are.
use Rattle.std.proofs.Common.{◌≡◌, ℕ, ◌+◌, ◌-◌, ◌*◌, ◌/◌, ◌%◌, ◌<◌, ◌≤◌, ◌==◌, ◌&&◌, nat_lt, Bool, true, false, min, ◌⊎◌, inl, inr, Option, Some, None, refl, sym, ap, subst, ◌∙◌, arith}
use Rattle.std.proofs.Math.Nat.{div-mul-le_self, mod-lt, mul-le-mul_right}
use Rattle.std.proofs.lemmas.Bool.Decides.{nat_tests}
use Rattle.std.proofs.lemmas.Nat.{div-add-mod'}
use Rattle.memory_bytes.proofs.SmallFacts.{none_or_some}
use Rattle.rv32_image.specs.declared.apart.Apart.{Apart}
use Rattle.rv32_image.specs.Image.{LoadedImage}
use Rattle.rv32_image.specs.Machine.{IsMachineFor, is_line_length}
use Rattle.rv32_image.specs.Places.{lies_apart, place, place_with}
use Rattle.rv32_image.proofs.Bounds.{by_length, behind_line}
use Rattle.rv32_image.proofs.Places.{place-apart, place-none, place-stays}
use Rattle.spec_history.specs.Conflict.{line_number, line_count}
use Rattle.conflicts.specs.declared.explanation.ByteRange.{ByteRange}
use Rattle.conflicts.specs.Blame.{line_bytes, piece_bytes}

-- ---- lines by numbers

line_start : (n a : ℕ) → is_line_length n ≡ true → (a / n * n ≤ a) × (a < a / n * n + n)
line_start n a h = by_length (λ n. (a / n * n ≤ a) × (a < a / n * n + n)) n h (omega arith, omega arith) (omega arith, omega arith) (omega arith, omega arith)

low_line : (n p size : ℕ) → is_line_length n ≡ true → size % n ≡ 0 → p / n < size / n → p < size
low_line n p size h = by_length (λ n. size % n ≡ 0 → p / n < size / n → p < size) n h (λ w b. omega arith) (λ w b. omega arith) (λ w b. omega arith)

high_line : (n p size : ℕ) → is_line_length n ≡ true → size % n ≡ 0 → size / n ≤ p / n → size ≤ p
high_line n p size h = by_length (λ n. size % n ≡ 0 → size / n ≤ p / n → size ≤ p) n h (λ w b. omega arith) (λ w b. omega arith) (λ w b. omega arith)

-- ---- places

-- a byte behind memory is one that lies apart
record IsBehind (image : LoadedImage) (a : ℕ) : Type 0 where
  pub apart : Apart
  pub is : image.machine.apart ≡ Some apart
  pub first : apart.first ≤ a
  pub last : a < apart.first + apart.length
  pub at : place image.machine image.size a ≡ image.size + ((a - apart.first) / apart.piece * image.machine.line_length + (a - apart.first) % apart.piece)

at_apart : (apart : Apart) (n size a : ℕ) → lies_apart apart a ≡ true → place_with apart n size a ≡ size + ((a - apart.first) / apart.piece * n + (a - apart.first) % apart.piece)
at_apart apart n size a e = rw e refl

at_past : (apart : Apart) (n size a : ℕ) → lies_apart apart a ≡ false → size ≤ a → place_with apart n size a ≡ a + ((apart.length - 1) / apart.piece + 1) * n
at_past apart n size a e le = let f : nat_lt a size ≡ false = grind (arith, nat_tests) in rw (e, f) refl

-- a byte of memory stays at its address, or lies behind memory
stays_or_behind : (image : LoadedImage) (a : ℕ) → a < image.size → (place image.machine image.size a ≡ a) ⊎ IsBehind image a
stays_or_behind image a lt =
    elim (none_or_some image.machine.apart) [
      | inl none ↦ inl (place-none image.machine image.size a none)
      | inr x ↦ pick x.0 x.1 (lies_apart x.0 a) refl
    ]
  where
    pick : (apart : Apart) → image.machine.apart ≡ Some apart → (b : Bool) → lies_apart apart a ≡ b → (place image.machine image.size a ≡ a) ⊎ IsBehind image a
    pick apart is false e = inl (place-stays image.machine apart image.size a is e lt)
    pick apart is true e = inr (record {
      apart = apart;
      is = is;
      first = grind (arith, nat_tests);
      last = grind (arith, nat_tests);
      at = place-apart image.machine apart image.size a is ∙ at_apart apart image.machine.line_length image.size a e;
    })

-- ---- the bytes of a line

module _ (image : LoadedImage) (fits : IsMachineFor image.size image.machine) where
  abbrev long : ℕ
  long = image.machine.line_length

  abbrev lines : ℕ
  lines = image.size / long

  -- a byte lies among the addresses of its line
  among : (line a : ℕ) → a < image.size → line_number image a ≡ line
      → ((line_bytes image line).first ≤ a) × (a < (line_bytes image line).first + (line_bytes image line).length)
  among line a lt is = pick (nat_lt line lines) refl (stays_or_behind image a lt)
    where
      at_address : place image.machine image.size a ≡ a → (a / long ≡ line)
      at_address stays = ap (λ p. p / long) (sym stays) ∙ is

      pick : (b : Bool) → nat_lt line lines ≡ b → (place image.machine image.size a ≡ a) ⊎ IsBehind image a
          → ((line_bytes image line).first ≤ a) × (a < (line_bytes image line).first + (line_bytes image line).length)
      pick true e (inl stays) =
          let start = line_start long a fits.is.line_length in
          rw e (subst (λ l. (l * long ≤ a) × (a < l * long + long)) (at_address stays) start)
      pick false e (inl stays) =
          let le : lines ≤ line = grind (arith, nat_tests) in
          let high = high_line long a image.size fits.is.line_length fits.whole_lines (subst (λ l. lines ≤ l) (sym (at_address stays)) le) in
          absurd (omega (arith, high, lt))
      pick true e (inr behind) =
          let lt2 : line < lines = grind (arith, nat_tests) in
          let low = low_line long (place image.machine image.size a) image.size fits.is.line_length fits.whole_lines (subst (λ l. l < lines) (sym is) lt2) in
          absurd (omega (arith, low, behind.at))
      pick false e (inr behind) =
          let apart : Apart = behind.apart in
          let f = fits.apart apart behind.is in
          let x : ℕ = a - apart.first in
          let rest : x % apart.piece < apart.piece = mod-lt x f.some_piece in
          let number : line ≡ lines + x / apart.piece =
          sym is ∙ (ap (λ p. p / long) behind.at ∙ behind_line long image.size (x / apart.piece) (x % apart.piece) fits.is.line_length fits.whole_lines (omega (arith, rest, f.short_piece))) in
          let piece : line - lines ≡ x / apart.piece = omega (arith, number) in
          rw (e, behind.is) (in_piece apart (line - lines) piece rest behind.first behind.last)
        where
          in_piece : (apart : Apart) (q : ℕ) → q ≡ (a - apart.first) / apart.piece → (a - apart.first) % apart.piece < apart.piece → apart.first ≤ a
              → a < apart.first + apart.length → (apart.first + q * apart.piece ≤ a) × (a < apart.first + q * apart.piece + min apart.piece (apart.length - q * apart.piece))
          in_piece apart q is rest first last =
              let whole = div-add-mod' (a - apart.first) apart.piece in
              let same : q * apart.piece ≡ (a - apart.first) / apart.piece * apart.piece = ap (λ k. k * apart.piece) is in
              (omega (arith, whole, same), omega (arith, whole, same, rest))

  -- what is past memory comes after the lines of the pieces
  past_is : (apart : Apart) (a : ℕ) → image.machine.apart ≡ Some apart → image.size ≤ a
      → place image.machine image.size a ≡ a + ((apart.length - 1) / apart.piece + 1) * long
  past_is apart a is le =
      let f = fits.apart apart is in
      let out : lies_apart apart a ≡ false = grind (arith, nat_tests, f.within) in
      place-apart image.machine apart image.size a is ∙ at_past apart long image.size a out le

  end_is : (apart : Apart) → image.machine.apart ≡ Some apart → place image.machine image.size image.size ≡ image.size + ((apart.length - 1) / apart.piece + 1) * long
  end_is apart is = past_is apart image.size is (omega arith)

  -- the number of a line past memory
  pub number_past : (a : ℕ) → image.size ≤ a → a / long + (place image.machine image.size image.size - image.size) / long ≡ line_number image a
  number_past a le =
      elim (none_or_some image.machine.apart) [
        | inl none ↦
            let here = place-none image.machine image.size a none in
            let end = place-none image.machine image.size image.size none in
            let nothing : place image.machine image.size image.size - image.size ≡ 0 = omega (arith, end) in
            rw (here, nothing) (no_more long (a / long))
        | inr x ↦
            let k : ℕ = (x.0.length - 1) / x.0.piece + 1 in
            let behind : place image.machine image.size image.size - image.size ≡ k * long = omega (arith, end_is x.0 x.1) in
            ap (λ b. a / long + b / long) behind ∙ (sum long k fits.is.line_length ∙ ap (λ p. p / long) (sym (past_is x.0 a x.1 le)))
      ]
    where
      no_more : (n q : ℕ) → q + 0 / n ≡ q
      no_more n q = omega arith

      sum : (n k : ℕ) → is_line_length n ≡ true → a / n + k * n / n ≡ (a + k * n) / n
      sum n k h = by_length (λ n. a / n + k * n / n ≡ (a + k * n) / n) n h (omega arith) (omega arith) (omega arith)

  -- a line behind memory is that of a piece
  pub piece_before : (apart : Apart) (line : ℕ) → image.machine.apart ≡ Some apart → line < line_count image → lines ≤ line → (line - lines) * apart.piece < apart.length
  piece_before apart line is lt le =
      let f = fits.apart apart is in
      let k : ℕ = (apart.length - 1) / apart.piece in
      let count : line_count image ≡ lines + (k + 1) = ap (λ p. p / long) (end_is apart is) ∙ whole long k fits.is.line_length fits.whole_lines in
      let up : (line - lines) * apart.piece ≤ k * apart.piece = mul-le-mul_right apart.piece (omega (arith, lt, count)) in
      let most = div-mul-le_self (apart.length - 1) apart.piece in
      omega (arith, up, most, f.some_byte)
    where
      whole : (n k : ℕ) → is_line_length n ≡ true → image.size % n ≡ 0 → (image.size + (k + 1) * n) / n ≡ image.size / n + (k + 1)
      whole n k h = by_length (λ n. image.size % n ≡ 0 → (image.size + (k + 1) * n) / n ≡ image.size / n + (k + 1)) n h (λ w. omega arith) (λ w. omega arith) (λ w. omega arith)

  -- those are addresses of memory
  inside : (line : ℕ) → line < line_count image → (line_bytes image line).first + (line_bytes image line).length ≤ image.size
  inside line lt = pick (nat_lt line lines) refl (none_or_some image.machine.apart)
    where
      ends : (n line : ℕ) → is_line_length n ≡ true → image.size % n ≡ 0 → line < image.size / n → line * n + n ≤ image.size
      ends n line h = by_length (λ n. image.size % n ≡ 0 → line < image.size / n → line * n + n ≤ image.size) n h (λ w b. omega arith) (λ w b. omega arith) (λ w b. omega arith)

      pick : (b : Bool) → nat_lt line lines ≡ b → (image.machine.apart ≡ None) ⊎ ((x : Apart) × (image.machine.apart ≡ Some x))
          → (line_bytes image line).first + (line_bytes image line).length ≤ image.size
      pick true e o = rw e (ends long line fits.is.line_length fits.whole_lines (grind (arith, nat_tests)))
      pick false e (inl none) =
          let le : lines ≤ line = grind (arith, nat_tests) in
          let count : line_count image ≡ lines = ap (λ p. p / long) (place-none image.machine image.size image.size none) in
          absurd (omega (arith, lt, count, le))
      pick false e (inr x) =
          let le : lines ≤ line = grind (arith, nat_tests) in
          let f = fits.apart x.0 x.1 in
          let before = piece_before x.0 line x.1 lt le in
          rw (e, x.1) (omega (arith, before, f.within))

-- ---- those that the code finds

abbrev holds : ℕ → ByteRange → Type 0
holds a bytes = (bytes.first ≤ a) × (a < bytes.first + bytes.length)

-- the bytes of a line of memory
pub low_bytes : (image : LoadedImage) (line long lines : ℕ) → long ≡ image.machine.line_length → lines ≡ image.size / image.machine.line_length → line < lines
    → record { first = line * long; length = long } ≡ line_bytes image line
low_bytes image line long lines long_is lines_is lt =
    let e : nat_lt line (image.size / image.machine.line_length) ≡ true = grind (arith, nat_tests) in
    rw e (ap (λ (n : ℕ). record { first = line * n; length = n }) long_is)

-- those of a line behind memory
pub high_bytes : (image : LoadedImage) (line lines : ℕ) (apart : Option Apart) (bytes : ByteRange) → lines ≡ image.size / image.machine.line_length → lines ≤ line
    → apart ≡ image.machine.apart → bytes ≡ piece_bytes apart (line - lines) → bytes ≡ line_bytes image line
high_bytes image line lines apart bytes lines_is le apart_is is =
    let e : nat_lt line (image.size / image.machine.line_length) ≡ false = grind (arith, nat_tests) in
    rw e (is ∙ (ap (λ (o : Option Apart). piece_bytes o (line - lines)) apart_is ∙ ap (λ n. piece_bytes image.machine.apart (line - n)) lines_is))

-- they have each byte of the line
pub all_among : (image : LoadedImage) (line : ℕ) (bytes : ByteRange) → IsMachineFor image.size image.machine → bytes ≡ line_bytes image line
    → (a : ℕ) → a < image.size → line_number image a ≡ line → (bytes.first ≤ a) × (a < bytes.first + bytes.length)
all_among image line bytes fits is a lt at = subst (holds a) (sym is) (among image fits line a lt at)

pub bytes_inside : (image : LoadedImage) (line : ℕ) (bytes : ByteRange) → IsMachineFor image.size image.machine → line < line_count image → bytes ≡ line_bytes image line
    → bytes.first + bytes.length ≤ image.size
bytes_inside image line bytes fits lt is = subst (λ (b : ByteRange). b.first + b.length ≤ image.size) (sym is) (inside image fits line lt)

-- no byte of the line passes that is not among them
pub not_there : (image : LoadedImage) (line a first end : ℕ) (test : ℕ → Bool) → ((a : ℕ) → a < image.size → line_number image a ≡ line → (first ≤ a) × (a < end))
    → a < image.size → (a < first) ⊎ (end ≤ a) → ((line_number image a == line) && test a) ≡ false
not_there image line a first end test all lt out = pick (line_number image a == line) refl
  where
    pick : (b : Bool) → (line_number image a == line) ≡ b → (b && test a) ≡ false
    pick false e = refl
    pick true e =
        let at : line_number image a ≡ line = grind (arith, nat_tests) in
        let there = all a lt at in
        absurd (elim out [ inl early ↦ omega (arith, early, there.0) | inr late ↦ omega (arith, late, there.1) ])
