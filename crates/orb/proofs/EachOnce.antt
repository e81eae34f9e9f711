-- Lists in which each line stands once.
use Rattle.std.proofs.Common.{◌≡◌, ℕ, suc, zero, ◌==◌, ◌||◌, ◌&&◌, not, Bool, true, false, List, [], ◌∷◌, ◌++◌, Some, refl, sym, ap, subst, ◌∙◌, arith, cond, length, length-append, ◌≤◌, ◌≢◌}
use Rattle.std.proofs.lemmas.Bool.{eq-eqb, or_parts, or_right}
use Rattle.std.proofs.lemmas.Bool.Decides.{nat_tests}
use Rattle.std.proofs.lemmas.List.Folds.{list_any-append, list_any_none}
use Rattle.std.specs.List.{remove, All, slice_get}
use Rattle.orb.specs.Lines.{Buffer, IsBuffer, holds, without, IsEachOnce}

-- a line that is not there may come at the end
pub IsEachOnce-push : (xs : List ℕ) (y : ℕ) → IsEachOnce xs → holds xs y ≡ false → IsEachOnce (xs ++ y ∷ [])
IsEachOnce-push [] y once out = (refl, tt)
IsEachOnce-push (x ∷ xs) y once out = (list_any-append (λ line. line == x) xs (y ∷ []) ∙ apart _ _ once.0 out, IsEachOnce-push xs y once.1 (or_parts (x == y) (holds xs y) out).1)
  where
    apart : (b n : Bool) → b ≡ false → ((x == y) || n) ≡ false → (b || ((y == x) || false)) ≡ false
    apart b n h o = grind (arith, nat_tests)

-- without a line there are the others
pub holds-without : (addr x : ℕ) (xs : List ℕ) → holds (without addr xs) x ≡ (holds xs x && not (x == addr))
holds-without addr x [] = refl
holds-without addr x (y ∷ xs) = step (holds xs x) (without addr xs) (holds-without addr x xs)
  where
    step : (b : Bool) (rest : List ℕ) → holds rest x ≡ (b && not (x == addr)) → holds (cond (not (y == addr)) (y ∷ rest) rest) x ≡ (((y == x) || b) && not (x == addr))
    step b rest h = grind (arith, nat_tests)

pub IsEachOnce-without : (addr : ℕ) (xs : List ℕ) → IsEachOnce xs → IsEachOnce (without addr xs)
IsEachOnce-without addr [] once = tt
IsEachOnce-without addr (x ∷ xs) once = step (not (x == addr)) (holds-without addr x xs) (IsEachOnce-without addr xs once.1)
  where
    step : (b : Bool) → holds (without addr xs) x ≡ (holds xs x && not (x == addr)) → IsEachOnce (without addr xs) → IsEachOnce (cond b (x ∷ without addr xs) (without addr xs))
    step true h rest = (rw (h, once.0) refl, rest)
    step false h rest = rest

-- a line that is not there changes nothing
pub without-absent : (addr : ℕ) (xs : List ℕ) → holds xs addr ≡ false → without addr xs ≡ xs
without-absent addr [] out = refl
without-absent addr (x ∷ xs) out = step (x == addr) (holds xs addr) out (without-absent addr xs)
  where
    step : (b d : Bool) → (b || d) ≡ false → (d ≡ false → without addr xs ≡ xs) → cond (not b) (x ∷ without addr xs) (without addr xs) ≡ x ∷ xs
    step true d out same = cc
    step false d out same = ap (λ ys. x ∷ ys) (same out)

-- a line at some place is there
pub holds-at : (xs : List ℕ) (i addr : ℕ) → slice_get xs i ≡ Some addr → holds xs addr ≡ true
holds-at [] i addr at = cc
holds-at (x ∷ xs) zero addr at = grind (arith, nat_tests)
holds-at (x ∷ xs) (suc i) addr at = or_right (x == addr) _ (holds-at xs i addr at)

-- where each line stands once, to take out its place is to take out the line
pub remove-without : (xs : List ℕ) (i addr : ℕ) → IsEachOnce xs → slice_get xs i ≡ Some addr
    → remove xs i ≡ without addr xs
remove-without [] i addr once at = cc
remove-without (x ∷ xs) zero addr once at =
    let e : x ≡ addr = cc in
    let out : holds xs addr ≡ false = rw (← e) once.0 in
    taken (x == addr) (eq-eqb x addr e) (sym (without-absent addr xs out))
  where
    taken : (b : Bool) → b ≡ true → xs ≡ without addr xs → xs ≡ cond (not b) (x ∷ without addr xs) (without addr xs)
    taken b h rest = rw h rest
remove-without (x ∷ xs) (suc i) addr once at =
    kept (x == addr) (other x addr (holds-at xs i addr at) once.0) (remove-without xs i addr once.1 at)
  where
    other : (a b : ℕ) → holds xs b ≡ true → holds xs a ≡ false → (a == b) ≡ false
    other a b there out = grind (arith, nat_tests)

    kept : (b : Bool) → b ≡ false → remove xs i ≡ without addr xs → x ∷ remove xs i ≡ cond (not b) (x ∷ without addr xs) (without addr xs)
    kept b h rest = rw h (ap (λ ys. x ∷ ys) rest)

-- a list none of whose lines has this address
pub absent : (addr : ℕ) (xs : List ℕ) → All (λ line. (line == addr) ≡ false) xs → holds xs addr ≡ false
absent addr xs none = list_any_none (λ line. line == addr) xs none

-- a line at the end is there beside the others
pub holds-push : (xs : List ℕ) (addr x : ℕ) → holds (xs ++ addr ∷ []) x ≡ (holds xs x || (addr == x))
holds-push xs addr x = list_any-append (λ line. line == x) xs (addr ∷ []) ∙ last (holds xs x) (addr == x)
  where
    last : (b d : Bool) → (b || (d || false)) ≡ (b || d)
    last b d = grind (arith, nat_tests)

-- there are no more lines without one
pub length-without : (addr : ℕ) (xs : List ℕ) → length (without addr xs) ≤ length xs
length-without addr [] = omega arith
length-without addr (x ∷ xs) = step (not (x == addr)) (length-without addr xs)
  where
    step : (b : Bool) → length (without addr xs) ≤ length xs
        → length (cond b (x ∷ without addr xs) (without addr xs)) ≤ length (x ∷ xs)
    step true h = omega arith
    step false h = omega arith

-- ---- buffers

abbrev pub buffer : ℕ → List ℕ → Buffer
buffer limit lines = record { limit = limit; lines = lines }

-- a buffer that is not full, with one more line
pub IsBuffer-push : (limit : ℕ) (lines : List ℕ) (addr : ℕ) → IsBuffer (buffer limit lines) → holds lines addr ≡ false
    → length lines ≢ limit → IsBuffer (buffer limit (lines ++ addr ∷ []))
IsBuffer-push limit lines addr h out room =
    record {
      within = let w = h.within in omega (arith, length-append lines (addr ∷ []));
      limit_is = h.limit_is;
      each_once = IsEachOnce-push lines addr h.each_once out;
    }

-- a buffer without a line
pub IsBuffer-without : (limit : ℕ) (lines : List ℕ) (addr : ℕ) → IsBuffer (buffer limit lines)
    → IsBuffer (buffer limit (without addr lines))
IsBuffer-without limit lines addr h =
    record {
      within = let w = h.within in omega (arith, length-without addr lines);
      limit_is = h.limit_is;
      each_once = IsEachOnce-without addr lines h.each_once;
    }

-- to take out the place of a line is to take out the line
pub buffer-remove : (limit : ℕ) (lines : List ℕ) (seen : Buffer) (i addr : ℕ) → buffer limit lines ≡ seen
    → IsEachOnce seen.lines → slice_get seen.lines i ≡ Some addr
    → buffer limit (remove lines i) ≡ buffer seen.limit (without addr seen.lines)
buffer-remove limit lines seen i addr e =
    subst (λ (b : Buffer). IsEachOnce b.lines → slice_get b.lines i ≡ Some addr → buffer limit (remove lines i) ≡ buffer b.limit (without addr b.lines))
    e (λ once at. ap (buffer limit) (remove-without lines i addr once at))
