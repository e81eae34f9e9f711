-- Searches for what is blamed.
use Rattle.std.proofs.Common.{◌≡◌, ℕ, ◌<◌, ◌&&◌, Bool, true, false, is_some, nat_lt, List, Option, Some, None, refl, sym, ap, ◌∙◌, arith, ltb-true, option_and_then}
use Rattle.std.proofs.lemmas.Bool.{false_from_ne_true}
use Rattle.rv32_image.specs.Image.{LoadedImage}
use Rattle.spec_history.specs.declared.entry.Entry.{Entry}
use Rattle.conflicts.specs.Attempts.{attempt_place, core_does, is_after, loads_byte}
use Rattle.conflicts.specs.Blame.{Violation, blame_at, blame_of, blamed_byte, is_read_at}
use Rattle.spec_history.proofs.Searches.Tests.{first_none}

by_load : (after loads stored blamed : Bool) → loads ≡ false → (blamed && ((after && loads) && stored)) ≡ false
by_load true true stored true is = absurd cc
by_load true false stored true is = refl
by_load false loads stored true is = refl
by_load after loads stored false is = refl

-- only a load of the byte reads it
pub unloaded : (image : LoadedImage) (entries : List Entry) (v : Violation) (load a : ℕ) → core_does entries v.victim load (loads_byte a) ≡ false → is_read_at image entries v load a ≡ false
unloaded image entries v load a is = by_load _ _ _ _ is

by_after : (after loads stored blamed : Bool) → after ≡ false → (blamed && ((after && loads) && stored)) ≡ false
by_after true loads stored true is = absurd cc
by_after false loads stored true is = refl
by_after after loads stored false is = refl

-- nothing is read by what does not stand after the attempt's start
pub unread_before : (image : LoadedImage) (entries : List Entry) (v : Violation) (load : ℕ) → is_after (attempt_place entries v.victim v.place) load ≡ false
    → blamed_byte image entries v load ≡ None
unread_before image entries v load is = first_none image.size (is_read_at image entries v load) (λ a below. by_after _ _ _ _ is)

pub either_way : (b : Bool) (P : Type 0) → (b ≡ true → P) → (b ≡ false → P) → P
either_way true P one other = one refl
either_way false P one other = other refl

-- nothing is read before the start
pub unread_until : (image : LoadedImage) (entries : List Entry) (v : Violation) (start k : ℕ) → attempt_place entries v.victim v.place ≡ Some start → k < start
    → is_some (blamed_byte image entries v k) ≡ false
unread_until image entries v start k is before =
    ap is_some (unread_before image entries v k (ap (λ (o : Option ℕ). is_after o k) is ∙ false_from_ne_true (nat_lt start k) (λ after. omega (arith, before, ltb-true start k after))))

pub no_blame : (image : LoadedImage) (entries : List Entry) (v : Violation) → None ≡ attempt_place entries v.victim v.place → blame_of image entries v ≡ None
no_blame image entries v is =
    ap (option_and_then (blame_at image entries v))
    (first_none v.place (λ j. is_some (blamed_byte image entries v j)) (λ k below. ap is_some (unread_before image entries v k (ap (λ (o : Option ℕ). is_after o k) (sym is)))))
