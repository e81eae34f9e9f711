-- What a call of the store leaves of the other cores.
use Rattle.std.proofs.Common.{◌≡◌, ◌≢◌, ℕ, ◌<◌, Bool, true, false, Option, Some, None, is_some, unwrap_or, refl, sym, ap, subst, ◌∙◌, inl, inr, arith, true≢false}
use Rattle.std.proofs.lemmas.Bool.{cases_eq, cases_Bool}
use Rattle.rv32_image.specs.Image.{LoadedImage}
use Rattle.rv32_image.proofs.SmallFacts.{one_value, none_and_some}
use Rattle.spec_history.specs.FlatState.{CoreState, FlatState}
use Rattle.spec_history.specs.Effect.{with_core}
use Rattle.spec_history.specs.Laws.{IsKept}
use Rattle.spec_history.proofs.OneEntry.Going.{Spares}
use Rattle.spec_history.proofs.OneEntry.Keeping.{with_core_other, with_core_same}
use Rattle.violations.specs.View.{StoreView, attempt_of, epoch_of, line_of}
use Rattle.violations.specs.Rule.{IsSameCore, IsSpared, IsHurt, HurtsLater}
use Rattle.violations.specs.declared.attempt.Attempt.{Attempt}
use Rattle.homefree.specs.Agrees.{HasReadIn, AgreesCore, AgreesAt, Agrees}
use Rattle.homefree.specs.Hurts.{hurt_if, with_hurts}
use Rattle.homefree.proofs.State.HurtsReplay.{CanBeHurt}

-- the store is made for the same, with caches or without
abbrev pub IsOfSameKind : StoreView → StoreView → Type 0
IsOfSameKind v w = (w.shape ≡ v.shape) × (w.cached ≡ v.cached)

pub still_read : (v w : StoreView) (c : CoreState) (a : ℕ) → IsOfSameKind v w → HasReadIn v c a → HasReadIn w c a
still_read v w c a same h = record {
  at = h.at;
  in_line = subst (λ shape. line_of shape h.at ≡ line_of shape a) (sym same.0) h.in_line;
  read = h.read;
  itself = λ none. h.itself (sym same.1 ∙ none);
}

-- a core that shows what it did, over the same committed memory
pub same_at : (m m' : ℕ → ℕ) (v w : StoreView) (k : ℕ) (core : Option CoreState) → IsOfSameKind v w → ((a : ℕ) → m' a ≡ m a) → IsSameCore v w k → AgreesAt m v k core → AgreesAt m' w k core
same_at m m' v w k core kind committed same f = record {
  idle = λ is. same.attempt ∙ f.idle is;
  hurt = λ c is hurt. same.attempt ∙ f.hurt c is hurt;
  runs = λ c is unhurt. let g = f.runs c is unhurt in record {
    attempt = same.attempt ∙ g.attempt;
    sees = λ a. same.sees a ∙ (g.sees a ∙ ap (unwrap_or (c.own a)) (sym (committed a)));
    own = λ a. same.own a ∙ g.own a;
    guards_read = λ a byte read. same.guarded a ∙ g.guards_read a byte read;
    guards_only = λ a is. still_read v w c a kind (g.guards_only a (sym (same.guarded a) ∙ is));
  };
}

-- ---- a core that is spared

own_by : (m m' : ℕ → ℕ) (v w : StoreView) (k : ℕ) (c : CoreState) (a : ℕ) (own : Option ℕ) → c.own a ≡ own → IsSpared v w k → AgreesCore m v k c
    → ((a : ℕ) → w.committed a ≡ m' a) → w.sees k a ≡ unwrap_or own (m' a)
own_by m m' v w k c a None none spared g new = spared.sees_rest a (g.own a ∙ ap (λ o. is_some o) none) ∙ new a
own_by m m' v w k c a (Some byte) some spared g new =
    spared.sees_own a (g.own a ∙ ap (λ o. is_some o) some) ∙ (g.sees a ∙ ap (λ o. unwrap_or o (m a)) some)

pub spared_core : (m m' : ℕ → ℕ) (v w : StoreView) (k : ℕ) (c : CoreState) → IsOfSameKind v w → ((a : ℕ) → w.committed a ≡ m' a)
    → IsSpared v w k → AgreesCore m v k c → AgreesCore m' w k c
spared_core m m' v w k c kind new spared g = record {
  attempt = spared.attempt ∙ g.attempt;
  sees = λ a. own_by m m' v w k c a (c.own a) refl spared g new;
  own = λ a. spared.own a ∙ g.own a;
  guards_read = λ a byte read. spared.guarded a ∙ g.guards_read a byte read;
  guards_only = λ a is. still_read v w c a kind (g.guards_only a (sym (spared.guarded a) ∙ is));
}

spared_at : (m m' : ℕ → ℕ) (v w : StoreView) (k : ℕ) (core : Option CoreState) → IsOfSameKind v w → ((a : ℕ) → w.committed a ≡ m' a)
    → IsSpared v w k → AgreesAt m v k core → AgreesAt m' w k core
spared_at m m' v w k core kind new spared f = record {
  idle = λ is. spared.attempt ∙ f.idle is;
  hurt = λ c is hurt. spared.attempt ∙ f.hurt c is hurt;
  runs = λ c is unhurt. spared_core m m' v w k c kind new spared (f.runs c is unhurt);
}

hurt_at_all : (m' : ℕ → ℕ) (w : StoreView) (k : ℕ) (core : Option CoreState) → w.attempt k ≡ None → AgreesAt m' w k (hurt_if true core)
hurt_at_all m' w k None none = record { idle = λ is. none; hurt = λ c is hurt. none; runs = λ c is unhurt. absurd cc }
hurt_at_all m' w k (Some x) none = record {
  idle = λ is. none;
  hurt = λ c is hurt. none;
  runs = λ c is unhurt. let same : (let y : CoreState = record x { hurt = true } in y) ≡ c = cc in absurd (true≢false (ap (λ (y : CoreState). y.hurt) same ∙ unhurt));
}

others_by : (m m' : ℕ → ℕ) (v w : StoreView) (by k : ℕ) (hurt : ℕ → Bool) (core : Option CoreState) → IsOfSameKind v w → ((a : ℕ) → w.committed a ≡ m' a)
    → HurtsLater v w by hurt → k ≢ by → AgreesAt m v k core → (b : Bool) → hurt k ≡ b → AgreesAt m' w k (hurt_if b core)
others_by m m' v w by k hurt core kind new others other f true is = hurt_at_all m' w k core (others.hurts k is).none
others_by m m' v w by k hurt core kind new others other f false is = spared_at m m' v w k core kind new (others.spares k other is) f

-- each core but the caller agrees after the call, in the state with the hurt ones hurt
pub others_agree : (s : FlatState) (m' : ℕ → ℕ) (v w : StoreView) (by : ℕ) (hurt : ℕ → Bool) → s.end ≡ None → Agrees s v → IsOfSameKind v w → HurtsLater v w by hurt
    → ((a : ℕ) → w.committed a ≡ m' a) → (k : ℕ) → k ≢ by → AgreesAt m' w k (hurt_if (hurt k) (s.cores k))
others_agree s m' v w by hurt going agrees kind others new k other =
    others_by s.committed m' v w by k hurt (s.cores k) kind new others other (agrees.core going k) (hurt k) refl

-- ---- no byte that another has read changes

spares_by : (s : FlatState) (m' : ℕ → ℕ) (v w : StoreView) (by k a byte : ℕ) (hurt : ℕ → Bool) (core : Option CoreState) (c : CoreState) → Agrees s v → HurtsLater v w by hurt
    → ((a : ℕ) → w.committed a ≡ m' a) → k ≢ by → AgreesAt s.committed v k core → (b : Bool) → hurt k ≡ b → hurt_if b core ≡ Some c → c.hurt ≡ false → c.outside a ≡ Some byte
    → m' a ≡ s.committed a
spares_by s m' v w by k a byte hurt None c agrees others new other f true is at unhurt read = absurd cc
spares_by s m' v w by k a byte hurt (Some x) c agrees others new other f true is at unhurt read =
    let same : (let y : CoreState = record x { hurt = true } in y) ≡ c = cc in absurd (true≢false (ap (λ (y : CoreState). y.hurt) same ∙ unhurt))
spares_by s m' v w by k a byte hurt core c agrees others new other f false is at unhurt read =
    sym (new a) ∙ ((others.spares k other is).stands a ((f.runs c at unhurt).guards_read a byte read) ∙ agrees.committed a)

pub others_spared : (s : FlatState) (m' : ℕ → ℕ) (v w : StoreView) (by : ℕ) (hurt : ℕ → Bool) → s.end ≡ None → Agrees s v → HurtsLater v w by hurt
    → ((a : ℕ) → w.committed a ≡ m' a) → Spares (with_hurts hurt s) by m'
others_spared s m' v w by hurt going agrees others new k c at other unhurt a byte read =
    spares_by s m' v w by k a byte hurt (s.cores k) c agrees others new other (agrees.core going k) (hurt k) refl at unhurt read

-- ---- who can be hurt

straight_last : (image : LoadedImage) (count : ℕ) (s : FlatState) (k by : ℕ) (c d : CoreState) → IsKept image count s → s.cores by ≡ Some c → s.cores k ≡ Some d
    → c.epoch < d.epoch → d.straight ≡ false
straight_last image count s k by c d kept at at_k later = elim (cases_Bool d.straight) [
  | inl straight ↦ let least = (kept.core k d at_k).straight_homefree straight in absurd (omega (arith, (kept.core by c at).from))
  | inr is ↦ is
]

can_by : (image : LoadedImage) (count : ℕ) (s : FlatState) (v w : StoreView) (by k : ℕ) (c : CoreState) (core : Option CoreState) → IsKept image count s → s.cores by ≡ Some c
    → v.attempt by ≡ Some (attempt_of c.epoch c.straight) → s.cores k ≡ core → AgreesAt s.committed v k core → IsHurt v w by k → CanBeHurt s c k
can_by image count s v w by k c None kept at mine at_k f hurt = absurd (none_and_some (v.attempt k) hurt.attempt (f.idle refl) hurt.had)
can_by image count s v w by k c (Some d) kept at mine at_k f hurt = elim (cases_Bool d.hurt) [
  | inl is ↦ absurd (none_and_some (v.attempt k) hurt.attempt (f.hurt d refl is) hurt.had)
  | inr unhurt ↦
      let g = f.runs d refl unhurt in
      let same = one_value (v.attempt k) hurt.attempt _ hurt.had g.attempt in
      let epoch : hurt.attempt.epoch ≡ d.epoch = ap (λ (x : Attempt). x.epoch) same in
      let own : epoch_of (v.attempt by) ≡ c.epoch = ap epoch_of mine in
      let later : c.epoch < d.epoch = omega (arith, hurt.later) in
      record { core = d; at = at_k; unhurt = unhurt; speculates = straight_last image count s k by c d kept at at_k later; later = later }
]

-- what a call hurts may be hurt
pub can_be_hurt_all : (image : LoadedImage) (count : ℕ) (s : FlatState) (v w : StoreView) (by : ℕ) (c : CoreState) (hurt : ℕ → Bool) → s.end ≡ None → IsKept image count s → Agrees s v
    → s.cores by ≡ Some c → c.hurt ≡ false → HurtsLater v w by hurt → (k : ℕ) → hurt k ≡ true → CanBeHurt s c k
can_be_hurt_all image count s v w by c hurt going kept agrees at unhurt others k is =
    can_by image count s v w by k c (s.cores k) kept at ((agrees.core going by).runs c at unhurt).attempt refl (agrees.core going k) (others.hurts k is)

-- ---- the state after a call

with_by : (m : ℕ → ℕ) (w : StoreView) (by k : ℕ) (new : Option CoreState) (cores : ℕ → Option CoreState) → AgreesAt m w by new → ((k : ℕ) → k ≢ by → AgreesAt m w k (cores k))
    → AgreesAt m w k (with_core cores by new k)
with_by m w by k new cores here others = elim (cases_eq k by) [
  | inl e ↦ rw e (rw (with_core_same cores by new) here)
  | inr other ↦ rw (with_core_other cores by new k other) (others k other)
]

pub agrees_with : (m : ℕ → ℕ) (w : StoreView) (by : ℕ) (new : Option CoreState) (cores : ℕ → Option CoreState) → AgreesAt m w by new → ((k : ℕ) → k ≢ by → AgreesAt m w k (cores k))
    → (k : ℕ) → AgreesAt m w k (with_core cores by new k)
agrees_with m w by new cores here others k = with_by m w by k new cores here others

-- the caller's side, where it runs on
pub runs_on : (m : ℕ → ℕ) (w : StoreView) (k : ℕ) (c : CoreState) → c.hurt ≡ false → AgreesCore m w k c → AgreesAt m w k (Some c)
runs_on m w k c unhurt g = record {
  idle = λ is. absurd cc;
  hurt = λ d is hurt. let same : c ≡ d = cc in absurd (true≢false (sym hurt ∙ (ap (λ (x : CoreState). x.hurt) (sym same) ∙ unhurt)));
  runs = λ d is free. let same : c ≡ d = cc in subst (AgreesCore m w k) same g;
}

pub idle_on : (m : ℕ → ℕ) (w : StoreView) (k : ℕ) → w.attempt k ≡ None → AgreesAt m w k None
idle_on m w k none = record { idle = λ is. none; hurt = λ c is hurt. none; runs = λ c is unhurt. absurd cc }
