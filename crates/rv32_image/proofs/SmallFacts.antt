-- Small facts of tests and of options that the standard library has under no name.
use Rattle.std.proofs.Common.{◌≡◌, ◌||◌, Bool, true, false, is_some, unwrap_or, Option, Some, None, refl}

pub or_false : (b : Bool) → (b || false) ≡ b
or_false true = refl
or_false false = refl

-- an option holds one value
pub one_value : {A : Type 0} (o : Option A) (x y : A) → o ≡ Some x → o ≡ Some y → x ≡ y
one_value o x y first second = cc

-- and never one and none
pub none_and_some : {A : Type 0} (o : Option A) (x : A) → o ≡ None → o ≡ Some x → ⊥
none_and_some o x none some = cc

pub value_of : {A : Type 0} (o : Option A) → is_some o ≡ true → (x : A) × (o ≡ Some x)
value_of None is = absurd cc
value_of (Some x) is = (x, refl)

pub none_of : {A : Type 0} (o : Option A) → is_some o ≡ false → o ≡ None
none_of None is = refl
none_of (Some x) is = absurd cc

pub unwrap_none : {A : Type 0} (o : Option A) (x : A) → is_some o ≡ false → unwrap_or o x ≡ x
unwrap_none None x is = refl
unwrap_none (Some y) x is = absurd cc
