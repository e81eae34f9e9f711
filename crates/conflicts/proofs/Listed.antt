-- Tests of bytes, tried at a list of addresses that has all that the victim has read.
use Rattle.std.proofs.Common.{◌≡◌, ℕ, ◌<◌, false, List, length, slice_index, Option, Some, None, refl, sym, ap, ◌∙◌}
use Rattle.std.proofs.lemmas.Bool.{and_right}
use Rattle.memory_bytes.specs.Shadow.{IsAmong}
use Rattle.rv32_image.specs.Image.{LoadedImage}
use Rattle.spec_history.specs.Refusal.{any_below}
use Rattle.spec_history.proofs.Searches.Tests.{all_fail}
use Rattle.conflicts.specs.declared.meeting.ByteTest.{ByteTest}
use Rattle.conflicts.specs.declared.meeting.ByteTest.TheVariants.{Changed, Shared, Beside}
use Rattle.spec_history.specs.Conflict.{Meeting}
use Rattle.conflicts.specs.Parties.{passes}

-- a byte that the victim has not read passes none of the tests
unread : (image : LoadedImage) (m : Meeting) (test : ByteTest) (a : ℕ) → m.reads a ≡ None → passes image m test a ≡ false
unread image m Changed a none = rw none (and_right _ false refl)
unread image m Shared a none = rw none (and_right _ false refl)
unread image m Beside a none = rw none refl

fails_at : (image : LoadedImage) (m : Meeting) (test : ByteTest) (addresses : List ℕ) (a : ℕ)
    → ((byte : ℕ) → m.reads a ≡ Some byte → IsAmong a addresses)
    → ((place : ℕ) → place < length addresses → passes image m test (slice_index addresses place) ≡ false)
    → (byte : Option ℕ) → m.reads a ≡ byte → passes image m test a ≡ false
fails_at image m test addresses a listed fails None is = unread image m test a is
fails_at image m test addresses a listed fails (Some byte) is =
    let among = listed byte is in
    ap (passes image m test) (sym among.is) ∙ fails among.place among.within

-- where the listed ones fail, all do
pub none_listed : (image : LoadedImage) (m : Meeting) (test : ByteTest) (addresses : List ℕ)
    → ((a byte : ℕ) → m.reads a ≡ Some byte → IsAmong a addresses)
    → ((place : ℕ) → place < length addresses → passes image m test (slice_index addresses place) ≡ false)
    → any_below image.size (passes image m test) ≡ false
none_listed image m test addresses listed fails =
    all_fail image.size (passes image m test) (λ a below. fails_at image m test addresses a (listed a) fails (m.reads a) refl)
