-- The store rule: what each call of a store does to its view, from `old` to `new`. It leaves open which bytes of the lines that
-- it has read a core guards, and whether a full buffer violates.
-- Source: this project; that a store of an earlier epoch violates the later ones which have loaded the byte is of Steffan,
-- Colohan, Zhai and Mowry, "A Scalable Approach to Thread-Level Speculation", ISCA 2000.
use Rattle.std.specs.Prelude.{◌≡◌, ◌≢◌, ◌⊎◌, ℕ, ◌<◌, ◌≤◌, ◌^◌, ◌==◌, ◌||◌, Bool, true, false, List, [], ◌∷◌, length, All, Some, None, slice_index}
use Rattle.std.specs.List.{list_any}
use Rattle.memory_bytes.specs.Bytes.{number_at}
use Rattle.memory_bytes.specs.Maps.{over, stored}
use Rattle.rv32_image.specs.Image.{LoadedImage}
use Rattle.rv32_image.specs.Version.{limits_of}
use Rattle.violations.specs.declared.attempt.Attempt.{Attempt}
use Rattle.violations.specs.View.{Shape, StoreView, attempt_of, epoch_of, line_of, IsClear, is_accessed}

-- ---- new stores

-- so many cores may share a store for this image
pub record IsCoreCount (image : LoadedImage) (cores : ℕ) : Type 0 where
  pub least : 1 ≤ cores
  pub most : cores ≤ (limits_of image.version).most_cores

abbrev pub shape_of : LoadedImage → ℕ → Shape
shape_of image cores = record { cores = cores; size = image.size; code = image.code; machine = image.machine }

-- the image's memory, and no attempts
pub record IsFresh (image : LoadedImage) (cores : ℕ) (v : StoreView) : Type 0 where
  pub shape : v.shape ≡ shape_of image cores
  pub committed : (a : ℕ) → v.committed a ≡ slice_index image.bytes a
  pub idle : (k : ℕ) → v.attempt k ≡ None

-- ---- what calls do to a core

-- all that the core has is as it was
pub record IsSameCore (old new : StoreView) (k : ℕ) : Type 0 where
  pub attempt : new.attempt k ≡ old.attempt k
  pub own : (a : ℕ) → new.own k a ≡ old.own k a
  pub guarded : (a : ℕ) → new.guarded k a ≡ old.guarded k a
  pub sees : (a : ℕ) → new.sees k a ≡ old.sees k a

-- a core that a call spares: it keeps its attempt, its sets and its own bytes, sees the committed ones beside them, and no
-- byte that it guards has changed
pub record IsSpared (old new : StoreView) (k : ℕ) : Type 0 where
  pub attempt : new.attempt k ≡ old.attempt k
  pub own : (a : ℕ) → new.own k a ≡ old.own k a
  pub guarded : (a : ℕ) → new.guarded k a ≡ old.guarded k a
  pub sees_own : (a : ℕ) → old.own k a ≡ true → new.sees k a ≡ old.sees k a
  pub sees_rest : (a : ℕ) → old.own k a ≡ false → new.sees k a ≡ new.committed a
  pub stands : (a : ℕ) → old.guarded k a ≡ true → new.committed a ≡ old.committed a

-- a core that a call violates: it had an attempt of a later epoch than the caller's, and has none
pub record IsHurt (old new : StoreView) (core k : ℕ) : Type 0 where
  pub attempt : Attempt
  pub had : old.attempt k ≡ Some attempt
  pub later : epoch_of (old.attempt core) < attempt.epoch
  pub none : new.attempt k ≡ None

-- what a call of a core does to the others, where it violates these
pub record HurtsLater (old new : StoreView) (core : ℕ) (hurt : ℕ → Bool) : Type 0 where
  pub not_itself : hurt core ≡ false
  pub hurts : (k : ℕ) → hurt k ≡ true → IsHurt old new core k
  pub spares : (k : ℕ) → k ≢ core → hurt k ≡ false → IsSpared old new k

-- ---- whom a call violates

-- the core guards one of these bytes
pub record Guards (v : StoreView) (core : ℕ) (bytes : ℕ → Bool) : Type 0 where
  pub at : ℕ
  pub is_one : bytes at ≡ true
  pub guarded : v.guarded core at ≡ true

-- it owns a byte of this line
pub record OwnsIn (v : StoreView) (core line : ℕ) : Type 0 where
  pub at : ℕ
  pub within : at < v.shape.size
  pub in_line : line_of v.shape at ≡ line
  pub owned : v.own core at ≡ true

-- each line stands once
abbrev pub AreApart : List ℕ → Type 0
AreApart [] = Unit {0}
AreApart (line ∷ lines) = (list_any (λ other. other == line) lines ≡ false) × AreApart lines

-- its full buffer has no place for the line of this address: it owns a byte there, and one in each of as many other lines as a
-- buffer takes. Caches alone have buffers
pub record IsCrowded (v : StoreView) (core address : ℕ) : Type 0 where
  pub cached : v.cached ≡ true
  pub here : OwnsIn v core (line_of v.shape address)
  pub others : List ℕ
  pub full : v.shape.machine.buffer_lines ≤ length others
  pub apart : AreApart others
  pub each : All (λ line. (line ≢ line_of v.shape address) × OwnsIn v core line) others

-- ---- calls

-- the view is as it was
pub record IsSameView (old new : StoreView) : Type 0 where
  pub shape : new.shape ≡ old.shape
  pub cached : new.cached ≡ old.cached
  pub committed : (a : ℕ) → new.committed a ≡ old.committed a
  pub cores : (k : ℕ) → IsSameCore old new k

-- the core has an attempt of the epoch
pub record Begins (old new : StoreView) (core epoch : ℕ) : Type 0 where
  pub shape : new.shape ≡ old.shape
  pub cached : new.cached ≡ old.cached
  pub committed : (a : ℕ) → new.committed a ≡ old.committed a
  pub attempt : new.attempt core ≡ Some (attempt_of epoch false)
  pub own : (a : ℕ) → new.own core a ≡ old.own core a
  pub guarded : (a : ℕ) → new.guarded core a ≡ old.guarded core a
  pub sees : (a : ℕ) → new.sees core a ≡ old.sees core a
  pub others : (k : ℕ) → k ≢ core → IsSameCore old new k

-- the core's attempt ends, and with it all that it kept
pub record Ends (old new : StoreView) (core : ℕ) : Type 0 where
  pub shape : new.shape ≡ old.shape
  pub cached : new.cached ≡ old.cached
  pub committed : (a : ℕ) → new.committed a ≡ old.committed a
  pub attempt : new.attempt core ≡ None
  pub clear : IsClear new core
  pub others : (k : ℕ) → k ≢ core → IsSameCore old new k

-- a byte of this load, in the line of `a`, is not the core's own; without caches it is `a` itself
pub record TakesIn (v : StoreView) (core address width a : ℕ) : Type 0 where
  pub at : ℕ
  pub accessed : is_accessed address width at ≡ true
  pub in_line : line_of v.shape at ≡ line_of v.shape a
  pub outside : v.own core at ≡ false
  pub itself : v.cached ≡ false → at ≡ a

-- a speculative load gives what the core sees, and guards what it took from outside. It violates those alone whose full
-- buffers have no place for the line
pub record Loads (old new : StoreView) (core address width value : ℕ) (hurt : ℕ → Bool) : Type 0 where
  pub shape : new.shape ≡ old.shape
  pub cached : new.cached ≡ old.cached
  pub others : HurtsLater old new core hurt
  pub committed : (a : ℕ) → new.committed a ≡ old.committed a
  pub value_is : value ≡ number_at (old.sees core) address width
  pub small : value < 256 ^ width
  pub attempt : new.attempt core ≡ old.attempt core
  pub own : (a : ℕ) → new.own core a ≡ old.own core a
  pub sees : (a : ℕ) → new.sees core a ≡ old.sees core a
  pub guards : (a : ℕ) → is_accessed address width a ≡ true → old.own core a ≡ false → new.guarded core a ≡ true
  pub guards_still : (a : ℕ) → old.guarded core a ≡ true → new.guarded core a ≡ true
  pub guards_only : (a : ℕ) → new.guarded core a ≡ true → old.guarded core a ≡ false → TakesIn old core address width a
  pub crowded : (k : ℕ) → hurt k ≡ true → IsCrowded old k address

-- a speculative store is seen by its core alone, and owns its bytes. It violates those alone that guard one of them or whose full
-- buffers have no place for the line, and nobody without caches. Caches tell all later cores of the first store to a line, and nobody of
-- a further one
pub record Stores (old new : StoreView) (core address width value : ℕ) (hurt : ℕ → Bool) : Type 0 where
  pub shape : new.shape ≡ old.shape
  pub cached : new.cached ≡ old.cached
  pub others : HurtsLater old new core hurt
  pub committed : (a : ℕ) → new.committed a ≡ old.committed a
  pub attempt : new.attempt core ≡ old.attempt core
  pub sees : (a : ℕ) → new.sees core a ≡ over (stored address width value) (old.sees core) a
  pub own : (a : ℕ) → new.own core a ≡ (old.own core a || is_accessed address width a)
  pub guarded : (a : ℕ) → new.guarded core a ≡ old.guarded core a
  pub meets : (k : ℕ) → hurt k ≡ true → Guards old k (is_accessed address width) ⊎ IsCrowded old k address
  pub eager : (k : ℕ) → hurt k ≡ true → old.cached ≡ true
  pub told : OwnsIn old core (line_of old.shape address) → (k : ℕ) → hurt k ≡ false
  pub tells : old.cached ≡ true → ((a : ℕ) → line_of old.shape a ≡ line_of old.shape address → old.own core a ≡ false)
      → (k : ℕ) → k ≢ core → epoch_of (old.attempt core) < epoch_of (old.attempt k) → Guards old k (is_accessed address width) → hurt k ≡ true

-- what the core saw is committed, and its attempt is straight. It violates exactly the others that guard a byte of its own
pub record Publishes (old new : StoreView) (core : ℕ) (hurt : ℕ → Bool) : Type 0 where
  pub shape : new.shape ≡ old.shape
  pub cached : new.cached ≡ old.cached
  pub others : HurtsLater old new core hurt
  pub committed : (a : ℕ) → new.committed a ≡ old.sees core a
  pub attempt : new.attempt core ≡ Some (attempt_of (epoch_of (old.attempt core)) true)
  pub meets : (k : ℕ) → hurt k ≡ true → Guards old k (old.own core)
  pub tells : (k : ℕ) → k ≢ core → Guards old k (old.own core) → hurt k ≡ true

-- a load of a straight attempt gives committed bytes. It violates those alone whose full buffers have no place for the line
pub record LoadsStraight (old new : StoreView) (core address width value : ℕ) (hurt : ℕ → Bool) : Type 0 where
  pub shape : new.shape ≡ old.shape
  pub cached : new.cached ≡ old.cached
  pub others : HurtsLater old new core hurt
  pub committed : (a : ℕ) → new.committed a ≡ old.committed a
  pub value_is : value ≡ number_at old.committed address width
  pub small : value < 256 ^ width
  pub attempt : new.attempt core ≡ old.attempt core
  pub crowded : (k : ℕ) → hurt k ≡ true → IsCrowded old k address

-- the bytes of a store of a straight attempt are committed. It violates all others that guard one of them, and beside them those
-- alone whose full buffers have no place for the line
pub record StoresStraight (old new : StoreView) (core address width value : ℕ) (hurt : ℕ → Bool) : Type 0 where
  pub shape : new.shape ≡ old.shape
  pub cached : new.cached ≡ old.cached
  pub others : HurtsLater old new core hurt
  pub committed : (a : ℕ) → new.committed a ≡ over (stored address width value) old.committed a
  pub attempt : new.attempt core ≡ old.attempt core
  pub meets : (k : ℕ) → hurt k ≡ true → Guards old k (is_accessed address width) ⊎ IsCrowded old k address
  pub tells : (k : ℕ) → k ≢ core → Guards old k (is_accessed address width) → hurt k ≡ true
