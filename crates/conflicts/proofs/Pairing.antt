-- The store of a blamed byte.
use Rattle.std.proofs.Common.{◌≡◌, ℕ, ◌<◌, ◌&&◌, Bool, true, false, is_some, List, Some, option_and_then, refl, sym, ap, ◌==◌, ◌∙◌}
use Rattle.rv32_image.specs.Image.{LoadedImage}
use Rattle.spec_history.specs.declared.entry.Entry.{Entry}
use Rattle.spec_history.specs.declared.entry.What.{What}
use Rattle.spec_history.specs.declared.entry.What.TheVariants.{Start, Load, Store, Hurt, Cancel, Publish, Commit, Fault, Restart}
use Rattle.spec_history.specs.declared.kind.Kind.{Kind}
use Rattle.spec_history.specs.declared.kind.Kind.TheVariants.{TrueSharing, SilentStore, FalseSharing, FullBuffer, Unexplained}
use Rattle.std.proofs.lemmas.Bool.{and_parts, eq-eqb, eqb-true}
use Rattle.spec_history.specs.Conflict.{Meeting, is_beside, line_number}
use Rattle.spec_history.proofs.Searches.Tests.{first_found}
use Rattle.conflicts.specs.Attempts.{last_store}
use Rattle.conflicts.specs.Blame.{Violation, blamed_store, goes_with, is_place, store_beside, store_to, stored_by, written_in}
use Rattle.conflicts.specs.Violated.{has_one_store, is_store}

no_store : (kind : Kind) (what : What) → has_one_store kind what ≡ false → is_store what ≡ false
no_store TrueSharing what is = is
no_store SilentStore what is = is
no_store FalseSharing what is = absurd cc
no_store FullBuffer what is = is
no_store Unexplained what is = is

to_byte : (image : LoadedImage) (entries : List Entry) (v : Violation) (byte : ℕ) (kind : Kind) → has_one_store kind v.what ≡ false → store_beside image entries v kind byte ≡ store_to entries v byte
to_byte image entries v byte TrueSharing one = refl
to_byte image entries v byte SilentStore one = refl
to_byte image entries v byte FalseSharing one = absurd cc
to_byte image entries v byte FullBuffer one = refl
to_byte image entries v byte Unexplained one = refl

by_last : (entries : List Entry) (place causer cause byte : ℕ) (what : What) → is_store what ≡ false → stored_by entries place causer cause what byte ≡ last_store entries causer place byte
by_last entries place causer cause byte (Start epoch) none = refl
by_last entries place causer cause byte (Load address width value) none = refl
by_last entries place causer cause byte (Store address width value) none = absurd cc
by_last entries place causer cause byte (Hurt epoch) none = refl
by_last entries place causer cause byte (Cancel epoch) none = refl
by_last entries place causer cause byte Publish none = refl
by_last entries place causer cause byte Commit none = refl
by_last entries place causer cause byte (Fault reason pc) none = refl
by_last entries place causer cause byte Restart none = refl

-- where bytes that go together have stores of their own, it is the causer's last one to the byte
pub by_last_store : (image : LoadedImage) (entries : List Entry) (v : Violation) (byte : ℕ) → has_one_store v.kind v.what ≡ false
    → blamed_store image entries v byte ≡ last_store entries v.causer v.place byte
by_last_store image entries v byte one =
    to_byte image entries v byte v.kind one ∙ by_last entries v.place v.causer v.cause byte v.what (no_store v.kind v.what one)

-- where they have one store for all, it is that of each byte
one_cause : (entries : List Entry) (place causer cause a byte : ℕ) (what : What) → is_store what ≡ true → stored_by entries place causer cause what a ≡ stored_by entries place causer cause what byte
one_cause entries place causer cause a byte (Start epoch) is = absurd cc
one_cause entries place causer cause a byte (Load address width value) is = absurd cc
one_cause entries place causer cause a byte (Store address width value) is = refl
one_cause entries place causer cause a byte (Hurt epoch) is = absurd cc
one_cause entries place causer cause a byte (Cancel epoch) is = absurd cc
one_cause entries place causer cause a byte Publish is = absurd cc
one_cause entries place causer cause a byte Commit is = absurd cc
one_cause entries place causer cause a byte (Fault reason pc) is = absurd cc
one_cause entries place causer cause a byte Restart is = absurd cc

one_of_kind : (image : LoadedImage) (entries : List Entry) (v : Violation) (a byte : ℕ) (kind : Kind) → has_one_store kind v.what ≡ true → goes_with image kind v.bytes byte a ≡ true
    → store_beside image entries v kind a ≡ store_beside image entries v kind byte
one_of_kind image entries v a byte TrueSharing one goes = one_cause entries v.place v.causer v.cause a byte v.what one
one_of_kind image entries v a byte SilentStore one goes = one_cause entries v.place v.causer v.cause a byte v.what one
one_of_kind image entries v a byte FalseSharing one goes =
    let line = eqb-true (line_number image a) (line_number image byte) (and_parts (is_beside image v.bytes a) (line_number image a == line_number image byte) goes).1 in
    ap (λ n. option_and_then (store_to entries v) (written_in image v.bytes n)) line
one_of_kind image entries v a byte FullBuffer one goes = one_cause entries v.place v.causer v.cause a byte v.what one
one_of_kind image entries v a byte Unexplained one goes = one_cause entries v.place v.causer v.cause a byte v.what one

pub by_one_store : (image : LoadedImage) (entries : List Entry) (v : Violation) (a byte : ℕ) → has_one_store v.kind v.what ≡ true → goes_with image v.kind v.bytes byte a ≡ true
    → blamed_store image entries v a ≡ blamed_store image entries v byte
by_one_store image entries v a byte one goes = one_of_kind image entries v a byte v.kind one goes

pub is_there : (place : ℕ) → is_place (Some place) place ≡ true
is_there place = eq-eqb place place refl

pub through : (a b c : Bool) → a ≡ true → b ≡ true → c ≡ (a && (b && c))
through a b c is also = rw (is, also) refl

-- ---- the lowest byte of a line that is written

-- it lies in memory
pub beside_within : (image : LoadedImage) (m : Meeting) (line byte : ℕ) → Some byte ≡ written_in image m line → byte < image.size
beside_within image m line byte is = (first_found image.size (λ a. (line_number image a == line) && is_some (m.writes a)) byte (sym is)).within
