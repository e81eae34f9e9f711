-- The caller of an access: where it agreed with the store and the store did what its rule says, it agrees afterwards.
use Rattle.std.proofs.Common.{◌≡◌, ℕ, ◌&&◌, ◌||◌, Bool, true, false, cond, is_some, is_none, Option, Some, None, unwrap_or, refl, sym, ap, ◌∙◌, true≢false}
use Rattle.std.proofs.lemmas.Bool.{or_right, or_left}
use Rattle.rv32_image.specs.Image.{LoadedImage}
use Rattle.rv32_image.proofs.SmallFacts.{none_of}
use Rattle.rv32_exec.specs.Hart.{HartState}
use Rattle.memory_bytes.specs.Maps.{first_of, joined, stored, read_outside}
use Rattle.memory_bytes.proofs.Bytes.{over-joined}
use Rattle.spec_history.specs.FlatState.{CoreState, begun}
use Rattle.violations.specs.View.{StoreView, IsSettled, attempt_of, is_accessed}
use Rattle.violations.specs.Rule.{Begins, Loads, Stores}
use Rattle.violations.proofs.Accesses.{stored_there}
use Rattle.homefree.specs.Agrees.{HasReadIn, AgreesCore}
use Rattle.homefree.proofs.State.Others.{still_read}

-- a new attempt keeps nothing of its own yet
pub begun_agrees : (image : LoadedImage) (m : ℕ → ℕ) (v w : StoreView) (by epoch : ℕ) → IsSettled v → v.attempt by ≡ None → ((a : ℕ) → v.committed a ≡ m a)
    → Begins v w by epoch → AgreesCore m w by (begun image epoch)
begun_agrees image m v w by epoch settled idle committed begins =
    let nothing_kept = settled.idle by idle in record {
      attempt = begins.attempt;
      sees = λ a. begins.sees a ∙ (nothing_kept.sees a ∙ committed a);
      own = λ a. begins.own a ∙ nothing_kept.own a;
      guards_read = λ a byte read. absurd cc;
      guards_only = λ a is. absurd (true≢false (sym is ∙ (begins.guarded a ∙ nothing_kept.guarded a)));
    }

-- ---- loads

outside_by : (b : Bool) (o : Option ℕ) (here byte : ℕ) → cond (b && is_none o) (Some here) None ≡ Some byte → (b ≡ true) × (o ≡ None)
outside_by true None here byte is = (refl, refl)
outside_by true (Some x) here byte is = absurd cc
outside_by false o here byte is = absurd cc

-- a byte that is read from outside is one of the load's, and isn't the core's own
outside_accessed : (address width a byte : ℕ) (own : ℕ → Option ℕ) (committed : ℕ → ℕ) → read_outside address width own committed a ≡ Some byte
    → (is_accessed address width a ≡ true) × (own a ≡ None)
outside_accessed address width a byte own committed is = outside_by (is_accessed address width a) (own a) (committed a) byte is

load_guards : (v w : StoreView) (by address width value a byte : ℕ) (hurt : ℕ → Bool) (m : ℕ → ℕ) (c : CoreState) → AgreesCore m v by c → Loads v w by address width value hurt
    → (now : Option ℕ) → read_outside address width c.own m a ≡ now → first_of now (c.outside a) ≡ Some byte → w.guarded by a ≡ true
load_guards v w by address width value a byte hurt m c g l None at read = l.guards_still a (g.guards_read a byte read)
load_guards v w by address width value a byte hurt m c g l (Some b) at read =
    let parts = outside_accessed address width a b c.own m at in
    l.guards a parts.0 (g.own a ∙ ap (λ o. is_some o) parts.1)

-- a byte that was read, or is now
now_read : (first second : Option ℕ) → is_some (first_of first second) ≡ (is_some first || is_some second)
now_read None second = refl
now_read (Some byte) second = refl

reads_by : (b : Bool) (o : Option ℕ) (here : ℕ) → b ≡ true → o ≡ None → is_some (cond (b && is_none o) (Some here) None) ≡ true
reads_by true None here is none = refl
reads_by true (Some byte) here is none = absurd cc
reads_by false o here is none = absurd cc

-- the bytes of a load that aren't the core's own are read from outside
taken_read : (address width at : ℕ) (m : ℕ → ℕ) (c : CoreState) → is_accessed address width at ≡ true → c.own at ≡ None → is_some (read_outside address width c.own m at) ≡ true
taken_read address width at m c accessed none = reads_by (is_accessed address width at) (c.own at) (m at) accessed none

load_only : (v w : StoreView) (by address width value a : ℕ) (hurt : ℕ → Bool) (m : ℕ → ℕ) (c : CoreState) (hart : HartState) → AgreesCore m v by c → Loads v w by address width value hurt
    → w.guarded by a ≡ true → (b : Bool) → v.guarded by a ≡ b → HasReadIn v (record c { hart = hart; outside = joined (read_outside address width c.own m) c.outside }) a
load_only v w by address width value a hurt m c hart g l is true was =
    let old = g.guards_only a was in
    record { at = old.at; in_line = old.in_line; read = now_read (read_outside address width c.own m old.at) (c.outside old.at) ∙ or_right _ _ old.read; itself = old.itself }
load_only v w by address width value a hurt m c hart g l is false was =
    let taken = l.guards_only a is was in
    let none = none_of (c.own taken.at) (sym (g.own taken.at) ∙ taken.outside) in
    record {
      at = taken.at;
      in_line = taken.in_line;
      read = now_read (read_outside address width c.own m taken.at) (c.outside taken.at)
          ∙ or_left _ _ (taken_read address width taken.at m c taken.accessed none);
      itself = taken.itself;
    }

-- the caller after a load
pub load_core : (v w : StoreView) (by address width value : ℕ) (hurt : ℕ → Bool) (m : ℕ → ℕ) (c : CoreState) (hart : HartState) → AgreesCore m v by c → Loads v w by address width value hurt
    → AgreesCore m w by (record c { hart = hart; outside = joined (read_outside address width c.own m) c.outside })
load_core v w by address width value hurt m c hart g l = record {
  attempt = l.attempt ∙ g.attempt;
  sees = λ a. l.sees a ∙ g.sees a;
  own = λ a. l.own a ∙ g.own a;
  guards_read = λ a byte read. load_guards v w by address width value a byte hurt m c g l (read_outside address width c.own m a) refl read;
  guards_only = λ a is. still_read v w (record c { hart = hart; outside = joined (read_outside address width c.own m) c.outside }) a (l.shape, l.cached)
      (load_only v w by address width value a hurt m c hart g l is (v.guarded by a) refl);
}

-- ---- stores

own_or : (was now : Option ℕ) (accessed : Bool) → is_some now ≡ accessed → (is_some was || accessed) ≡ is_some (first_of now was)
own_or was None true is = absurd cc
own_or was (Some byte) false is = absurd cc
own_or None None false is = refl
own_or (Some old) None false is = refl
own_or None (Some byte) true is = refl
own_or (Some old) (Some byte) true is = refl

-- the caller after a store
pub store_core : (v w : StoreView) (by address width value : ℕ) (hurt : ℕ → Bool) (m : ℕ → ℕ) (c : CoreState) (hart : HartState) → AgreesCore m v by c → Stores v w by address width value hurt
    → AgreesCore m w by (record c { hart = hart; own = joined (stored address width value) c.own })
store_core v w by address width value hurt m c hart g l = record {
  attempt = l.attempt ∙ g.attempt;
  sees = λ a. l.sees a ∙ (ap (unwrap_or (stored address width value a)) (g.sees a) ∙ sym (over-joined (stored address width value) c.own m a));
  own = λ a. l.own a ∙ (ap (λ b. b || is_accessed address width a) (g.own a)
      ∙ own_or (c.own a) (stored address width value a) (is_accessed address width a) (stored_there address width value a));
  guards_read = λ a byte read. l.guarded a ∙ g.guards_read a byte read;
  guards_only = λ a is. let old = still_read v w c a (l.shape, l.cached) (g.guards_only a (sym (l.guarded a) ∙ is)) in
      record { at = old.at; in_line = old.in_line; read = old.read; itself = old.itself };
}

-- a straight caller keeps nothing, in the store and in the state
pub straight_core : (w : StoreView) (by : ℕ) (m : ℕ → ℕ) (c : CoreState) → IsSettled w → w.attempt by ≡ Some (attempt_of c.epoch true) → c.straight ≡ true
    → ((a : ℕ) → c.own a ≡ None) → ((a : ℕ) → c.outside a ≡ None) → ((a : ℕ) → w.committed a ≡ m a) → AgreesCore m w by c
straight_core w by m c settled attempt is own outside committed =
    let nothing_kept = settled.straight by (attempt_of c.epoch true) attempt refl in record {
      attempt = attempt ∙ ap (λ b. Some (attempt_of c.epoch b)) (sym is);
      sees = λ a. nothing_kept.sees a ∙ (committed a ∙ ap (λ o. unwrap_or o (m a)) (sym (own a)));
      own = λ a. nothing_kept.own a ∙ sym (ap (λ o. is_some o) (own a));
      guards_read = λ a byte read. let none = outside a in absurd cc;
      guards_only = λ a is. absurd (true≢false (sym is ∙ nothing_kept.guarded a));
    }
