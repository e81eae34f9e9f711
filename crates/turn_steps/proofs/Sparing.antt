-- What a call of a store leaves of a core that runs speculatively after it.
use Rattle.std.proofs.Common.{◌≡◌, ◌≢◌, ℕ, ◌+◌, ◌*◌, ◌/◌, ◌<◌, ◌||◌, Bool, true, false, Some, None, inl, inr, refl, sym, ap, subst, ◌∙◌, true≢false}
use Rattle.std.proofs.Math.Bool.{or-false}
use Rattle.std.proofs.lemmas.Bool.{cases_Bool}
use Rattle.rv32_image.specs.Machine.{IsMachineFor}
use Rattle.rv32_image.specs.Image.{LoadedImage}
use Rattle.rv32_image.proofs.SmallFacts.{one_value, unwrap_none}
use Rattle.spec_history.specs.FlatState.{CoreState, FlatState}
use Rattle.violations.specs.declared.attempt.Attempt.{Attempt}
use Rattle.violations.specs.View.{StoreView, attempt_of, epoch_of, is_accessed}
use Rattle.violations.specs.Rule.{IsSameCore, IsSpared, HurtsLater, Loads, Stores, shape_of}
use Rattle.homefree.specs.Agrees.{AgreesCore, Agrees}
use Rattle.homefree.specs.Turned.{publishes_unless}
use Rattle.turn_steps.specs.Rows.{IsSameRow}
use Rattle.turn_steps.specs.Laws.{is_near, touches_in}
use Rattle.spec_history.specs.declared.entry.What.TheVariants.{Load, Store}
use Rattle.turn_steps.proofs.Lines.{IsAligned, in_row, in_no_other, unstored, near_in_line, far_apart, far_byte, row_apart}

-- ---- who runs speculatively

pub record IsSpeculative (v : StoreView) (k : ℕ) : Type 0 where
  pub attempt : Attempt
  pub is : v.attempt k ≡ Some attempt
  pub unpublished : attempt.straight ≡ false

pub record IsStraight (v : StoreView) (k : ℕ) : Type 0 where
  pub epoch : ℕ
  pub is : v.attempt k ≡ Some (attempt_of epoch true)

pub none_isnt : (v : StoreView) (k : ℕ) → v.attempt k ≡ None → IsSpeculative v k → ⊥
none_isnt v k none runs = let is = runs.is in cc

pub straight_isnt : (v : StoreView) (k : ℕ) → IsStraight v k → IsSpeculative v k → ⊥
straight_isnt v k straight runs =
    true≢false (ap (λ (x : Attempt). x.straight) (one_value (v.attempt k) (attempt_of straight.epoch true) runs.attempt straight.is runs.is) ∙ runs.unpublished)

pub straight_still : (v w : StoreView) (k : ℕ) → w.attempt k ≡ v.attempt k → IsStraight v k → IsStraight w k
straight_still v w k same straight = record { epoch = straight.epoch; is = same ∙ straight.is }

-- ---- a core that is left alone

-- its attempt is as it was, and what it keeps
pub record Keeps (old new : StoreView) (k : ℕ) : Type 0 where
  pub attempt : new.attempt k ≡ old.attempt k
  pub own : (a : ℕ) → new.own k a ≡ old.own k a
  pub guarded : (a : ℕ) → new.guarded k a ≡ old.guarded k a
  pub sees : (a : ℕ) → old.own k a ≡ true → new.sees k a ≡ old.sees k a

pub ran : (v w : StoreView) (k : ℕ) → Keeps v w k → IsSpeculative w k → IsSpeculative v k
ran v w k keeps runs = record { attempt = runs.attempt; is = sym keeps.attempt ∙ runs.is; unpublished = runs.unpublished }

pub itself : (v : StoreView) (k : ℕ) → Keeps v v k
itself v k = record { attempt = refl; own = λ a. refl; guarded = λ a. refl; sees = λ a own. refl }

pub same_keeps : (v w : StoreView) (k : ℕ) → IsSameCore v w k → Keeps v w k
same_keeps v w k same = record { attempt = same.attempt; own = same.own; guarded = same.guarded; sees = λ a own. same.sees a }

pub then_keeps : (v x w : StoreView) (k : ℕ) → Keeps v x k → Keeps x w k → Keeps v w k
then_keeps v x w k first later = record {
  attempt = later.attempt ∙ first.attempt;
  own = λ a. later.own a ∙ first.own a;
  guarded = λ a. later.guarded a ∙ first.guarded a;
  sees = λ a own. later.sees a (first.own a ∙ own) ∙ first.sees a own;
}

pub same_row : (v w : StoreView) (k row : ℕ) → Keeps v w k → IsSameRow v w k row
same_row v w k row keeps = record {
  guarded = λ i below. keeps.guarded (16 * row + i);
  own = λ i below. keeps.own (16 * row + i);
  sees = λ i below own. keeps.sees (16 * row + i) own;
}

spared_keeps : (v w : StoreView) (k : ℕ) → IsSpared v w k → Keeps v w k
spared_keeps v w k spared = record { attempt = spared.attempt; own = spared.own; guarded = spared.guarded; sees = spared.sees_own }

-- another core than the caller, by a call that may hurt it
pub spares : (v w : StoreView) (core k : ℕ) (hurt : ℕ → Bool) → HurtsLater v w core hurt → k ≢ core → IsSpeculative w k → Keeps v w k
spares v w core k hurt others other runs = elim (cases_Bool (hurt k)) [
  | inl is ↦ absurd (none_isnt w k (others.hurts k is).none runs)
  | inr isnt ↦ spared_keeps v w k (others.spares k other isnt)
]

-- ---- a core that publishes unless it is straight

pub spares_first : (v x : StoreView) (core k : ℕ) (hurt : ℕ → Bool) (straight : Bool) → publishes_unless straight v x core hurt → k ≢ core → IsSpeculative x k → Keeps v x k
spares_first v x core k hurt true same other runs = subst (λ y. Keeps v y k) (sym same.0) (itself v k)
spares_first v x core k hurt false publishes other runs = spares v x core k hurt publishes.others other runs

pub is_straight : (v x : StoreView) (core : ℕ) (hurt : ℕ → Bool) (straight : Bool) → publishes_unless straight v x core hurt → (straight ≡ true → IsStraight v core) → IsStraight x core
is_straight v x core hurt true same was = subst (λ y. IsStraight y core) (sym same.0) (was refl)
is_straight v x core hurt false publishes was = record { epoch = epoch_of (v.attempt core); is = publishes.attempt }

pub was_straight : (committed : ℕ → ℕ) (v : StoreView) (core : ℕ) (c : CoreState) → AgreesCore committed v core c → c.straight ≡ true → IsStraight v core
was_straight committed v core c agrees is = record { epoch = c.epoch; is = agrees.attempt ∙ ap (λ b. Some (attempt_of c.epoch b)) is }

pub same_first : (v x : StoreView) (core : ℕ) (hurt : ℕ → Bool) (a : ℕ) (straight : Bool) → publishes_unless straight v x core hurt
    → (straight ≡ false → v.sees core a ≡ v.committed a) → x.committed a ≡ v.committed a
same_first v x core hurt a true same sees = ap (λ (y : StoreView). y.committed a) same.0
same_first v x core hurt a false publishes sees = publishes.committed a ∙ sees refl

-- a byte that it has not stored is the committed one
pub sees_committed : (s : FlatState) (v : StoreView) (core : ℕ) (c : CoreState) (a : ℕ) → Agrees s v → AgreesCore s.committed v core c → v.own core a ≡ false → v.sees core a ≡ v.committed a
sees_committed s v core c a agrees mine isnt = mine.sees a ∙ (unwrap_none (c.own a) (s.committed a) (sym (mine.own a) ∙ isnt) ∙ sym (agrees.committed a))

-- ---- the core's own accesses

module _ (image : LoadedImage) (count : ℕ) (v w : StoreView) (core address width value : ℕ) (hurt : ℕ → Bool) (fits : IsMachineFor image.size image.machine) (shape : v.shape ≡ shape_of image count) (access : IsAligned address width) where
  still_unguarded : Loads v w core address width value hurt → (a : ℕ) → is_near (address / 16) (a / 16) ≡ false → v.guarded core a ≡ false → w.guarded core a ≡ false
  still_unguarded l a other isnt = elim (cases_Bool (w.guarded core a)) [
    | inl now ↦ let takes = l.guards_only a now isnt in
        absurd (far_apart address takes.at a other (in_row address width takes.at access takes.accessed)
        (near_in_line image count v.shape takes.at a fits shape takes.in_line) (near_in_line image count v.shape a takes.at fits shape (sym takes.in_line)))
    | inr none ↦ none
  ]

  same_guard : Loads v w core address width value hurt → (a : ℕ) → is_near (address / 16) (a / 16) ≡ false → w.guarded core a ≡ v.guarded core a
  same_guard l a other = elim (cases_Bool (v.guarded core a)) [
    | inl had ↦ l.guards_still a had ∙ sym had
    | inr isnt ↦ still_unguarded l a other isnt ∙ sym isnt
  ]

  pub load_row : Loads v w core address width value hurt → (row : ℕ) → touches_in row (Load address width value) ≡ false → IsSameRow v w core row
  load_row l row isnt = record {
    guarded = λ i below. same_guard l (16 * row + i) (far_byte address row i below isnt);
    own = λ i below. l.own (16 * row + i);
    sees = λ i below own. l.sees (16 * row + i);
  }

  pub store_row : Stores v w core address width value hurt → (row : ℕ) → touches_in row (Store address width value) ≡ false → IsSameRow v w core row
  store_row l row isnt = record {
    guarded = λ i below. l.guarded (16 * row + i);
    own = λ i below. l.own (16 * row + i) ∙ (ap (λ b. v.own core (16 * row + i) || b) (not_in row i below isnt) ∙ or-false (v.own core (16 * row + i)));
    sees = λ i below own. l.sees (16 * row + i) ∙ unstored address width value (v.sees core) (16 * row + i) (not_in row i below isnt);
  }
    where
      not_in : (row i : ℕ) → i < 16 → touches_in row (Store address width value) ≡ false → is_accessed address width (16 * row + i) ≡ false
      not_in row i below isnt = in_no_other address width (16 * row + i) access (row_apart address row i below isnt)
