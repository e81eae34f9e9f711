-- What the entries of a core leave of the others, and what a commit leaves of the core itself.
use Rattle.std.proofs.Common.{◌≡◌, ◌≢◌, ℕ, ◌==◌, ◌||◌, Bool, true, false, if◌then◌else◌, All, List, [], ◌∷◌, ◌++◌, Option, Some, None, refl, sym, ap, subst, ◌∙◌}
use Rattle.std.proofs.lemmas.Bool.{or_parts}
use Rattle.std.proofs.lemmas.List.Elements.{All-head, All-tail}
use Rattle.rv32_image.specs.Image.{LoadedImage}
use Rattle.rv32_image.proofs.SmallFacts.{one_value}
use Rattle.spec_history.specs.declared.entry.Entry.{Entry}
use Rattle.spec_history.specs.declared.entry.What.{What}
use Rattle.spec_history.specs.declared.entry.What.TheVariants.{Start, Load, Store, Hurt, Cancel, Restart, Publish, Commit, Fault}
use Rattle.spec_history.specs.FlatState.{CoreState, FlatState}
use Rattle.spec_history.specs.Effect.{effect, effect_on, effect_idle, with_core, hurt_at, idle_at}
use Rattle.spec_history.specs.Refusal.{refusal_of}
use Rattle.spec_history.specs.Replay.{replay, replay_from}
use Rattle.spec_history.proofs.OneEntry.Keeping.{with_core_other, with_core_same}
use Rattle.spec_history.proofs.Replay.Joining.{splits}
use Rattle.spec_history.proofs.Replay.Replays.{effect-on, effect-idle, legal_by}
use Rattle.homefree.specs.Hurts.{entry}

-- ---- the other cores

-- where a core runs an epoch afterwards and isn't hurt, it ran it before, just so
abbrev pub Stays : Option CoreState → Option CoreState → Type 0
Stays old new = (c : CoreState) → new ≡ Some c → c.hurt ≡ false → old ≡ Some c

abbrev marked : CoreState → Bool → CoreState
marked core hurt = record core { hurt = hurt }

unmarked : (core c : CoreState) (more : Bool) → Some (marked core (core.hurt || more)) ≡ Some c → c.hurt ≡ false → Some core ≡ Some c
unmarked core c more is unhurt =
    let same : marked core (core.hurt || more) ≡ c = cc in
    let none : (core.hurt || more) ≡ false = ap (λ (x : CoreState). x.hurt) same ∙ unhurt in
    ap (λ b. Some (marked core b)) ((or_parts core.hurt more none).0 ∙ sym none) ∙ is

stays_hurt : (epoch : ℕ) (o : Option CoreState) → Stays o (hurt_at epoch o)
stays_hurt epoch None c is unhurt = is
stays_hurt epoch (Some core) c is unhurt = unmarked core c (core.epoch == epoch) is unhurt

stays_idle : (epoch : ℕ) (o : Option CoreState) → Stays o (idle_at epoch o)
stays_idle epoch None c is unhurt = is
stays_idle epoch (Some core) c is unhurt = by_epoch (core.epoch == epoch) is
  where
    by_epoch : (b : Bool) → (if b then None else Some core) ≡ Some c → Some core ≡ Some c
    by_epoch true e = absurd cc
    by_epoch false e = e

stays_core : (cores : ℕ → Option CoreState) (by : ℕ) (core : Option CoreState) (k : ℕ) → k ≢ by → Stays (cores k) (with_core cores by core k)
stays_core cores by core k other c is unhurt = sym (with_core_other cores by core k other) ∙ is

stays_on : (image : LoadedImage) (s : FlatState) (by : ℕ) (core : CoreState) (what : What) (k : ℕ) → k ≢ by → Stays (s.cores k) ((effect_on image s by core what).cores k)
stays_on image s by core (Load address width value) k other = stays_core s.cores by _ k other
stays_on image s by core (Store address width value) k other = stays_core s.cores by _ k other
stays_on image s by core (Hurt epoch) k other = stays_hurt epoch (s.cores k)
stays_on image s by core (Cancel epoch) k other = stays_idle epoch (s.cores k)
stays_on image s by core Restart k other = stays_core s.cores by _ k other
stays_on image s by core Publish k other = stays_core s.cores by _ k other
stays_on image s by core Commit k other = stays_core s.cores by None k other
stays_on image s by core (Fault cause pc) k other = λ c is unhurt. is
stays_on image s by core (Start epoch) k other = λ c is unhurt. is

stays_off : (image : LoadedImage) (s : FlatState) (by : ℕ) (what : What) (k : ℕ) → k ≢ by → Stays (s.cores k) ((effect_idle image s by what).cores k)
stays_off image s by (Start epoch) k other = stays_core s.cores by _ k other
stays_off image s by (Load address width value) k other = λ c is unhurt. is
stays_off image s by (Store address width value) k other = λ c is unhurt. is
stays_off image s by (Hurt epoch) k other = λ c is unhurt. is
stays_off image s by (Cancel epoch) k other = λ c is unhurt. is
stays_off image s by Restart k other = λ c is unhurt. is
stays_off image s by Publish k other = λ c is unhurt. is
stays_off image s by Commit k other = λ c is unhurt. is
stays_off image s by (Fault cause pc) k other = λ c is unhurt. is

stays_entry : (image : LoadedImage) (s : FlatState) (by : ℕ) (what : What) (core : Option CoreState) (k : ℕ) → s.cores by ≡ core → k ≢ by
    → Stays (s.cores k) ((effect image s (record { by = by; what = what })).cores k)
stays_entry image s by what None k at other = subst (λ (x : FlatState). Stays (s.cores k) (x.cores k)) (sym (effect-idle image s by what at)) (stays_off image s by what k other)
stays_entry image s by what (Some core) k at other = subst (λ (x : FlatState). Stays (s.cores k) (x.cores k)) (sym (effect-on image s by what core at)) (stays_on image s by core what k other)

stays_from : (image : LoadedImage) (count : ℕ) (entries : List Entry) (s t : FlatState) (by k : ℕ) → replay_from image count s entries ≡ Some t → All (λ e. e.by ≡ by) entries → k ≢ by
    → Stays (s.cores k) (t.cores k)
unfolding replay_from
stays_from image count [] s t by k replays all other = let same : s ≡ t = cc in subst (λ (x : FlatState). Stays (s.cores k) (x.cores k)) same (λ c is unhurt. is)
stays_from image count (e ∷ entries) s t by k replays all other =
    legal_by image count s e entries t (refusal_of image count s e) refl replays
    (λ legal rest. λ c is unhurt. stays_entry image s e.by e.what (s.cores e.by) k refl (λ same. other (same ∙ All-head (λ (x : Entry). x.by ≡ by) e entries all)) c
    (stays_from image count entries (effect image s e) t by k rest (All-tail (λ (x : Entry). x.by ≡ by) e entries all) other c is unhurt) unhurt)

-- the entries of a turn leave the cores of others that they don't hurt
pub others_stay : (image : LoadedImage) (count : ℕ) (history entries : List Entry) (s t : FlatState) (by k : ℕ) → replay image count history ≡ Some s → replay image count (history ++ entries) ≡ Some t
    → All (λ e. e.by ≡ by) entries → k ≢ by → Stays (s.cores k) (t.cores k)
others_stay image count history entries s t by k before after all other =
    let parts = splits image count history entries t after in
    let same = one_value (replay image count history) parts.between s parts.first_replays before in
    subst (λ (x : FlatState). Stays (x.cores k) (t.cores k)) same (stays_from image count entries parts.between t by k parts.later_replays all other)

-- ---- the core itself, where it commits

idle_then : (image : LoadedImage) (s : FlatState) (by : ℕ) (core : Option CoreState) → s.cores by ≡ core → (effect image s (record { by = by; what = Commit })).cores by ≡ None
idle_then image s by None at = ap (λ (x : FlatState). x.cores by) (effect-idle image s by Commit at) ∙ at
idle_then image s by (Some core) at = ap (λ (x : FlatState). x.cores by) (effect-on image s by Commit core at) ∙ with_core_same s.cores by None

idle_from : (image : LoadedImage) (count : ℕ) (s t : FlatState) (by : ℕ) → replay_from image count s (entry by Commit) ≡ Some t → t.cores by ≡ None
unfolding replay_from
idle_from image count s t by replays =
    legal_by image count s (record { by = by; what = Commit }) [] t (refusal_of image count s (record { by = by; what = Commit })) refl replays
    (λ legal rest. let same : effect image s (record { by = by; what = Commit }) ≡ t = cc in subst (λ (x : FlatState). x.cores by ≡ None) same (idle_then image s by (s.cores by) refl))

pub idle_after : (image : LoadedImage) (count : ℕ) (history : List Entry) (t : FlatState) (by : ℕ) → replay image count (history ++ entry by Commit) ≡ Some t → t.cores by ≡ None
idle_after image count history t by replays =
    let parts = splits image count history (entry by Commit) t replays in idle_from image count parts.between t by parts.later_replays
