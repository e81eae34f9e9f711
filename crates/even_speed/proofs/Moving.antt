-- What the entries of a turn make of the cores.
use Rattle.std.proofs.Common.{◌≡◌, ◌≢◌, ℕ, zero, suc, ◌<◌, ◌==◌, ◌||◌, nat_lt, Bool, true, false, cond, List, [], ◌∷◌, ◌++◌, Option, Some, None, refl, sym, ap, subst, ◌∙◌, arith, ltb-true, ne_eqb}
use Rattle.std.proofs.lemmas.Bool.{and_parts, or_parts}
use Rattle.std.proofs.lemmas.Option.{same_Some, none-some}
use Rattle.rv32_image.specs.Image.{LoadedImage}
use Rattle.spec_history.specs.declared.entry.Entry.{Entry}
use Rattle.spec_history.specs.declared.entry.What.{What}
use Rattle.spec_history.specs.declared.entry.What.TheVariants.{Start, Load, Store, Hurt, Cancel, Restart, Publish, Commit, Fault}
use Rattle.spec_history.specs.FlatState.{CoreState, FlatState}
use Rattle.spec_history.specs.Effect.{effect, effect_on, hurt_at}
use Rattle.spec_history.specs.Refusal.{refusal_of, runs_and}
use Rattle.spec_history.specs.Replay.{count_of, counts_of, replay_from}
use Rattle.spec_history.proofs.OneEntry.Keeping.{with_core_other, with_core_same}
use Rattle.spec_history.proofs.OneEntry.Legal.{IsLegalEntry, legal_entry}
use Rattle.spec_history.proofs.Replay.Replays.{effect-on, legal_by, runs_so}
use Rattle.homefree.specs.Hurts.{entry, entry_for_each}
use Rattle.even_speed.specs.Timed.{Moves}

-- ---- another core: it runs what it ran, or is hurt

pub moves_same : (o u : Option CoreState) → u ≡ o → Moves o u
moves_same o u is = record { idle = λ none. sym is ∙ none; runs = λ d at. (d, sym is ∙ at, λ unhurt. refl, refl) }

pub moves_then : (o m u : Option CoreState) → Moves o m → Moves m u → Moves o u
moves_then o m u first later = record {
  idle = λ none. first.idle (later.idle none);
  runs = λ d at.
      let x = later.runs d at in
      let y = first.runs x.0 x.1 in
      (y.0, y.1, λ unhurt. let same = x.2 unhurt in same ∙ y.2 (sym (ap (λ (e : CoreState). e.hurt) same) ∙ unhurt), x.3 ∙ y.3);
}

hurt_is : (c d : CoreState) (b : Bool) → record c { hurt = b } ≡ d → b ≡ c.hurt → d ≡ c
hurt_is c d b is same = sym is ∙ (λ i. record c { hurt = same i })

moves_hurt : (epoch : ℕ) (o : Option CoreState) → Moves o (hurt_at epoch o)
moves_hurt epoch None = moves_same None None refl
moves_hurt epoch (Some c) = record {
  idle = λ none. absurd (none-some _ (sym none));
  runs = λ d at. (
    c,
    refl,
    λ unhurt.
        let is = same_Some _ d at in
        let b : (c.hurt || (c.epoch == epoch)) ≡ false = ap (λ (x : CoreState). x.hurt) is ∙ unhurt in
        hurt_is c d _ is (b ∙ sym (or_parts c.hurt _ b).0),
    sym (ap (λ (x : CoreState). x.epoch) (same_Some _ d at)),
  );
}

-- no core is cancelled
abbrev pub IsKeeping : What → Type 0
IsKeeping (Start epoch) = Unit {0}
IsKeeping (Load address width value) = Unit {0}
IsKeeping (Store address width value) = Unit {0}
IsKeeping (Hurt epoch) = Unit {0}
IsKeeping (Cancel epoch) = ⊥
IsKeeping Restart = Unit {0}
IsKeeping Publish = Unit {0}
IsKeeping Commit = Unit {0}
IsKeeping (Fault cause pc) = Unit {0}

others_on : (image : LoadedImage) (s : FlatState) (by : ℕ) (c : CoreState) (what : What) (k : ℕ) → k ≢ by → IsKeeping what
    → Moves (s.cores k) ((effect_on image s by c what).cores k)
others_on image s by c (Start epoch) k other keeping = moves_same _ _ refl
others_on image s by c (Load address width value) k other keeping = moves_same _ _ (with_core_other s.cores by _ k other)
others_on image s by c (Store address width value) k other keeping = moves_same _ _ (with_core_other s.cores by _ k other)
others_on image s by c (Hurt epoch) k other keeping = moves_hurt epoch (s.cores k)
others_on image s by c (Cancel epoch) k other keeping = absurd keeping
others_on image s by c Restart k other keeping = moves_same _ _ (with_core_other s.cores by _ k other)
others_on image s by c Publish k other keeping = moves_same _ _ (with_core_other s.cores by _ k other)
others_on image s by c Commit k other keeping = moves_same _ _ (with_core_other s.cores by _ k other)
others_on image s by c (Fault cause pc) k other keeping = moves_same _ _ refl

-- ---- the core itself, up to its access or end: it publishes, and hurts others

abbrev pub IsCalm : What → Type 0
IsCalm (Start epoch) = ⊥
IsCalm (Load address width value) = ⊥
IsCalm (Store address width value) = ⊥
IsCalm (Hurt epoch) = Unit {0}
IsCalm (Cancel epoch) = ⊥
IsCalm Restart = ⊥
IsCalm Publish = Unit {0}
IsCalm Commit = ⊥
IsCalm (Fault cause pc) = ⊥

calm_keeps : (what : What) → IsCalm what → IsKeeping what
calm_keeps (Start epoch) calm = absurd calm
calm_keeps (Load address width value) calm = absurd calm
calm_keeps (Store address width value) calm = absurd calm
calm_keeps (Hurt epoch) calm = tt
calm_keeps (Cancel epoch) calm = absurd calm
calm_keeps Restart calm = absurd calm
calm_keeps Publish calm = tt
calm_keeps Commit calm = absurd calm
calm_keeps (Fault cause pc) calm = absurd calm

-- it runs on with the same hart
pub record Stays (c : CoreState) (o : Option CoreState) : Type 0 where
  pub core : CoreState
  pub at : o ≡ Some core
  pub hart : core.hart ≡ c.hart
  pub epoch : core.epoch ≡ c.epoch
  pub unhurt : core.hurt ≡ false

earlier : (a b : ℕ) → a < b → a ≢ b
earlier a b less is = omega (arith, less, is)

hurt_own : (epoch : ℕ) (o : Option CoreState) (c : CoreState) → o ≡ Some c → c.hurt ≡ false → c.epoch < epoch → Stays c (hurt_at epoch o)
hurt_own epoch o c at unhurt less = record {
  core = record c { hurt = c.hurt || (c.epoch == epoch) };
  at = ap (hurt_at epoch) at;
  hart = refl;
  epoch = refl;
  unhurt = rw (unhurt, ne_eqb c.epoch epoch (earlier c.epoch epoch less)) refl;
}

own_on : (image : LoadedImage) (count : ℕ) (s : FlatState) (by : ℕ) (c : CoreState) (what : What) → IsCalm what → s.cores by ≡ Some c → c.hurt ≡ false
    → IsLegalEntry image count s (record { by = by; what = what }) → Stays c ((effect_on image s by c what).cores by)
own_on image count s by c (Start epoch) calm at unhurt legal = absurd calm
own_on image count s by c (Load address width value) calm at unhurt legal = absurd calm
own_on image count s by c (Store address width value) calm at unhurt legal = absurd calm
own_on image count s by c (Hurt epoch) calm at unhurt legal =
    hurt_own epoch (s.cores by) c at unhurt
    (ltb-true _ _ (runs_so (s.cores by) c (λ x. nat_lt x.epoch epoch) at (and_parts (runs_and (s.cores by) (λ x. nat_lt x.epoch epoch)) _ legal.there).0).passes)
own_on image count s by c (Cancel epoch) calm at unhurt legal = absurd calm
own_on image count s by c Restart calm at unhurt legal = absurd calm
own_on image count s by c Publish calm at unhurt legal =
    record { core = _; at = with_core_same s.cores by _; hart = refl; epoch = refl; unhurt = unhurt }
own_on image count s by c Commit calm at unhurt legal = absurd calm
own_on image count s by c (Fault cause pc) calm at unhurt legal = absurd calm

same_epochs : (image : LoadedImage) (s : FlatState) (by : ℕ) (c : CoreState) (what : What) → IsCalm what
    → ((effect_on image s by c what).homefree ≡ s.homefree) × ((effect_on image s by c what).next_epoch ≡ s.next_epoch)
same_epochs image s by c (Start epoch) calm = absurd calm
same_epochs image s by c (Load address width value) calm = absurd calm
same_epochs image s by c (Store address width value) calm = absurd calm
same_epochs image s by c (Hurt epoch) calm = (refl, refl)
same_epochs image s by c (Cancel epoch) calm = absurd calm
same_epochs image s by c Restart calm = absurd calm
same_epochs image s by c Publish calm = (refl, refl)
same_epochs image s by c Commit calm = absurd calm
same_epochs image s by c (Fault cause pc) calm = absurd calm

-- ---- such entries, one after another

abbrev pub AreCalm : ℕ → List Entry → Type 0
AreCalm by [] = Unit {0}
AreCalm by (e ∷ rest) = (e.by ≡ by) × IsCalm e.what × AreCalm by rest

pub calm_append : (by : ℕ) (xs ys : List Entry) → AreCalm by xs → AreCalm by ys → AreCalm by (xs ++ ys)
calm_append by [] ys a b = b
calm_append by (e ∷ rest) ys a b = (a.0, a.1, calm_append by rest ys a.2 b)

one_if : (by : ℕ) (b : Bool) (epoch : ℕ) → AreCalm by (cond b (entry by (Hurt epoch)) [])
one_if by true epoch = (refl, tt, tt)
one_if by false epoch = tt

pub hurts_calm : (by : ℕ) (these : ℕ → Bool) (epochs : ℕ → ℕ) (n : ℕ) → AreCalm by (entry_for_each by these (λ k. Hurt (epochs k)) n)
hurts_calm by these epochs zero = tt
hurts_calm by these epochs (suc n) = calm_append by _ _ (hurts_calm by these epochs n) (one_if by (these n) (epochs n))

pub record Calmed (s u : FlatState) (by : ℕ) (c : CoreState) : Type 0 where
  pub others : (k : ℕ) → k ≢ by → Moves (s.cores k) (u.cores k)
  pub own : Stays c (u.cores by)
  pub homefree : u.homefree ≡ s.homefree
  pub next_epoch : u.next_epoch ≡ s.next_epoch

calmed_none : (s : FlatState) (by : ℕ) (c : CoreState) → s.cores by ≡ Some c → c.hurt ≡ false → Calmed s s by c
calmed_none s by c at unhurt = record {
  others = λ k other. moves_same _ _ refl;
  own = record { core = c; at = at; hart = refl; epoch = refl; unhurt = unhurt };
  homefree = refl;
  next_epoch = refl;
}

stays_then : (c d : CoreState) (o : Option CoreState) → d.hart ≡ c.hart → d.epoch ≡ c.epoch → Stays d o → Stays c o
stays_then c d o hart epoch later =
    record { core = later.core; at = later.at; hart = later.hart ∙ hart; epoch = later.epoch ∙ epoch; unhurt = later.unhurt }

one_calm : (image : LoadedImage) (count : ℕ) (s : FlatState) (by : ℕ) (c : CoreState) (what : What) → IsCalm what → s.cores by ≡ Some c → c.hurt ≡ false
    → IsLegalEntry image count s (record { by = by; what = what }) → Calmed s (effect image s (record { by = by; what = what })) by c
one_calm image count s by c what calm at unhurt legal = rw (effect-on image s by what c at) (record {
  others = λ k other. others_on image s by c what k other (calm_keeps what calm);
  own = own_on image count s by c what calm at unhurt legal;
  homefree = (same_epochs image s by c what calm).0;
  next_epoch = (same_epochs image s by c what calm).1;
})

calmed_then : (s m u : FlatState) (by : ℕ) (c : CoreState) (first : Calmed s m by c) → Calmed m u by first.own.core → Calmed s u by c
calmed_then s m u by c first later = record {
  others = λ k other. moves_then _ _ _ (first.others k other) (later.others k other);
  own = stays_then c first.own.core (u.cores by) first.own.hart first.own.epoch later.own;
  homefree = later.homefree ∙ first.homefree;
  next_epoch = later.next_epoch ∙ first.next_epoch;
}

-- the state before the last entry, which was legal there
pub record CalmThen (image : LoadedImage) (count : ℕ) (s u : FlatState) (by : ℕ) (c : CoreState) (last : Entry) : Type 0 where
  pub between : FlatState
  pub calmed : Calmed s between by c
  pub legal : IsLegalEntry image count between last
  pub is : u ≡ effect image between last

one_last : (image : LoadedImage) (count : ℕ) (s u : FlatState) (by : ℕ) (c : CoreState) (last : Entry) → s.cores by ≡ Some c → c.hurt ≡ false
    → replay_from image count s (last ∷ []) ≡ Some u → CalmThen image count s u by c last
unfolding replay_from
one_last image count s u by c last at unhurt replays =
    legal_by image count s last [] u (refusal_of image count s last) refl replays
    (λ legal rest. record {
      between = s;
      calmed = calmed_none s by c at unhurt;
      legal = legal_entry image count s last legal;
      is = sym (same_Some _ u rest);
    })

entry_is : (e : Entry) (by : ℕ) → e.by ≡ by → e ≡ record { by = by; what = e.what }
entry_is e by is = λ i. record { by = is i; what = e.what }

pub calm_then : (image : LoadedImage) (count by : ℕ) (entries : List Entry) (last : Entry) → AreCalm by entries → (s u : FlatState) (c : CoreState) → s.cores by ≡ Some c
    → c.hurt ≡ false → replay_from image count s (entries ++ last ∷ []) ≡ Some u → CalmThen image count s u by c last
unfolding replay_from
calm_then image count by [] last calm s u c at unhurt replays = one_last image count s u by c last at unhurt replays
calm_then image count by (e ∷ rest) last calm s u c at unhurt replays =
    legal_by image count s e (rest ++ last ∷ []) u (refusal_of image count s e) refl replays
    (λ legal more.
    let here : IsLegalEntry image count s (record { by = by; what = e.what }) = subst (λ x. IsLegalEntry image count s x) (entry_is e by calm.0) (legal_entry image count s e legal) in
    let first : Calmed s (effect image s e) by c = subst (λ x. Calmed s (effect image s x) by c) (sym (entry_is e by calm.0))
    (one_calm image count s by c e.what calm.1 at unhurt here) in
    let later = calm_then image count by rest last calm.2 (effect image s e) u first.own.core first.own.at first.own.unhurt more in
    record {
      between = later.between;
      calmed = calmed_then s (effect image s e) later.between by c first later.calmed;
      legal = later.legal;
      is = later.is;
    })

-- ---- counts

calm_counts : (what : What) → IsCalm what → (count_of what).restarts ≡ 0
calm_counts (Start epoch) calm = absurd calm
calm_counts (Load address width value) calm = absurd calm
calm_counts (Store address width value) calm = absurd calm
calm_counts (Hurt epoch) calm = refl
calm_counts (Cancel epoch) calm = absurd calm
calm_counts Restart calm = absurd calm
calm_counts Publish calm = refl
calm_counts Commit calm = absurd calm
calm_counts (Fault cause pc) calm = absurd calm

pub restarts_in : (by : ℕ) (entries : List Entry) (last : Entry) → AreCalm by entries → (counts_of (entries ++ last ∷ [])).restarts ≡ (count_of last.what).restarts
unfolding counts_of
restarts_in by [] last calm = omega arith
restarts_in by (e ∷ rest) last calm = omega (arith, calm_counts e.what calm.1, restarts_in by rest last calm.2)
