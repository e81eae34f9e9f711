-- A core that runs is hurt where its attempt has been violated, by the entries so far.
use Rattle.std.proofs.Common.{◌≡◌, ◌≢◌, ◌⊎◌, ℕ, suc, ◌+◌, ◌==◌, ◌&&◌, ◌||◌, not, Bool, true, false, nat_lt, List, slice_get, Option, Some, None, is_some, if◌then◌else◌, refl, sym, ap, ◌∙◌, inl, inr, add-one, true≢false, eq-eqb, ne_eqb}
use Rattle.std.proofs.lemmas.Bool.{and_left, and_from, and_parts, and_right}
use Rattle.rv32_image.specs.Image.{LoadedImage}
use Rattle.rv32_image.proofs.SmallFacts.{or_false}
use Rattle.spec_history.specs.declared.entry.Entry.{Entry}
use Rattle.spec_history.specs.declared.entry.What.{What}
use Rattle.spec_history.specs.declared.entry.What.TheVariants.{Start, Load, Store, Hurt, Cancel, Restart, Publish, Commit, Fault}
use Rattle.spec_history.specs.FlatState.{CoreState, FlatState, first_state}
use Rattle.spec_history.specs.Effect.{by_core, effect, hurt_at, idle_at}
use Rattle.spec_history.specs.Refusal.{is_there, refusal_of, runs_and}
use Rattle.spec_history.specs.View.{FlatView, IsApplied, cores_in, state_in}
use Rattle.spec_history.proofs.OneEntry.Keeping.{at_core}
use Rattle.spec_history.proofs.OneEntry.Legal.{legal_entry}
use Rattle.spec_history.proofs.Replay.Replays.{effect-idle, effect-on, not_running}
use Rattle.spec_history.specs.Conflict.{passes}
use Rattle.conflicts.specs.Attempts.{is_begin}
use Rattle.conflict_findings.specs.Violated.{AreMarked, hurts, is_violated, is_violation}

-- ---- what an entry does to a core

-- it begins an attempt
record Begun (by k : ℕ) (what : What) (new : CoreState) : Type 0 where
  pub same : by ≡ k
  pub begins : is_begin what ≡ true
  pub unhurt : new.hurt ≡ false

-- it goes on with its epoch, and is hurt where it was or the entry violates it
record GoesOn (cores : ℕ → Option CoreState) (by k : ℕ) (what : What) (new : CoreState) : Type 0 where
  pub old : CoreState
  pub runs : cores k ≡ Some old
  pub epoch : new.epoch ≡ old.epoch
  pub hurt_is : new.hurt ≡ (old.hurt || hurts old.epoch what)
  pub begins_not : ((by == k) && is_begin what) ≡ false

abbrev IsAfter : (ℕ → Option CoreState) → ℕ → ℕ → What → CoreState → Type 0
IsAfter cores by k what new = Begun by k what new ⊎ GoesOn cores by k what new

-- another core than that of the entry
other_core : (cores : ℕ → Option CoreState) (by k : ℕ) (what : What) (c : CoreState) → k ≢ by → cores k ≡ Some c → hurts c.epoch what ≡ false → IsAfter cores by k what c
other_core cores by k what c other at quiet = inr (record {
  old = c;
  runs = at;
  epoch = refl;
  hurt_is = sym (or_false c.hurt) ∙ ap (λ b. c.hurt || b) (sym quiet);
  begins_not = and_left (by == k) (is_begin what) (ne_eqb by k (λ e. other (sym e)));
})

begins_by : (cores : ℕ → Option CoreState) (by k : ℕ) (what : What) (new c : CoreState) → is_begin what ≡ true → new.hurt ≡ false → ((e : ℕ) → hurts e what ≡ false)
    → ((k ≡ by) × (Some new ≡ Some c)) ⊎ ((k ≢ by) × (cores k ≡ Some c)) → IsAfter cores by k what c
begins_by cores by k what new c begins unhurt quiet (inl at) =
    let same : new ≡ c = cc in inl (record { same = sym at.0; begins = begins; unhurt = sym (ap (λ (x : CoreState). x.hurt) same) ∙ unhurt })
begins_by cores by k what new c begins unhurt quiet (inr at) = other_core cores by k what c at.0 at.1 (quiet c.epoch)

acts : (cores : ℕ → Option CoreState) (by k : ℕ) (what : What) (old new c : CoreState) → cores by ≡ Some old → new.epoch ≡ old.epoch → new.hurt ≡ old.hurt
    → is_begin what ≡ false → ((e : ℕ) → hurts e what ≡ false)
    → ((k ≡ by) × (Some new ≡ Some c)) ⊎ ((k ≢ by) × (cores k ≡ Some c)) → IsAfter cores by k what c
acts cores by k what old new c runs epoch hurt begins quiet (inl at) =
    let same : new ≡ c = cc in inr (record {
      old = old;
      runs = ap cores at.0 ∙ runs;
      epoch = sym (ap (λ (x : CoreState). x.epoch) same) ∙ epoch;
      hurt_is = sym (ap (λ (x : CoreState). x.hurt) same) ∙ (hurt ∙ (sym (or_false old.hurt) ∙ ap (λ b. old.hurt || b) (sym (quiet old.epoch))));
      begins_not = and_right (by == k) _ begins;
    })
acts cores by k what old new c runs epoch hurt begins quiet (inr at) = other_core cores by k what c at.0 at.1 (quiet c.epoch)

leaves : (cores : ℕ → Option CoreState) (by k : ℕ) (what : What) (c : CoreState) → ((e : ℕ) → hurts e what ≡ false)
    → ((k ≡ by) × (None ≡ Some c)) ⊎ ((k ≢ by) × (cores k ≡ Some c)) → IsAfter cores by k what c
leaves cores by k what c quiet (inl at) = absurd cc
leaves cores by k what c quiet (inr at) = other_core cores by k what c at.0 at.1 (quiet c.epoch)

-- the entry tells of an epoch
is_hurt : (cores : ℕ → Option CoreState) (by k epoch : ℕ) (core : Option CoreState) (c : CoreState) → cores k ≡ core → hurt_at epoch core ≡ Some c → IsAfter cores by k (Hurt epoch) c
is_hurt cores by k epoch None c runs at = absurd cc
is_hurt cores by k epoch (Some old) c runs at =
    let same : record old { hurt = old.hurt || (old.epoch == epoch) } ≡ c = cc in inr (record {
      old = old;
      runs = runs;
      epoch = sym (ap (λ (x : CoreState). x.epoch) same);
      hurt_is = sym (ap (λ (x : CoreState). x.hurt) same);
      begins_not = and_right (by == k) false refl;
    })

idle_by : (cores : ℕ → Option CoreState) (by k epoch : ℕ) (b : Bool) (old c : CoreState) → cores k ≡ Some old → (if b then None else Some old) ≡ Some c → IsAfter cores by k (Cancel epoch) c
idle_by cores by k epoch true old c runs at = absurd cc
idle_by cores by k epoch false old c runs at = inr (record {
  old = c;
  runs = runs ∙ at;
  epoch = refl;
  hurt_is = sym (or_false c.hurt);
  begins_not = and_right (by == k) false refl;
})

is_idle : (cores : ℕ → Option CoreState) (by k epoch : ℕ) (core : Option CoreState) (c : CoreState) → cores k ≡ core → idle_at epoch core ≡ Some c → IsAfter cores by k (Cancel epoch) c
is_idle cores by k epoch None c runs at = absurd cc
is_idle cores by k epoch (Some old) c runs at = idle_by cores by k epoch (old.epoch == epoch) old c runs at

-- nothing is changed
stays : (cores : ℕ → Option CoreState) (by k : ℕ) (what : What) (c : CoreState) → is_begin what ≡ false → ((e : ℕ) → hurts e what ≡ false) → cores k ≡ Some c → IsAfter cores by k what c
stays cores by k what c begins quiet runs = inr (record {
  old = c;
  runs = runs;
  epoch = refl;
  hurt_is = sym (or_false c.hurt) ∙ ap (λ b. c.hurt || b) (sym (quiet c.epoch));
  begins_not = and_right (by == k) _ begins;
})

abbrev cores_after : LoadedImage → FlatState → ℕ → What → ℕ → Option CoreState
cores_after image s by what = (effect image s (record { by = by; what = what })).cores

on_running : (image : LoadedImage) (count : ℕ) (s : FlatState) (by k : ℕ) (what : What) (old c : CoreState) → s.cores by ≡ Some old
    → is_there count s by what ≡ true → cores_after image s by what k ≡ Some c → IsAfter s.cores by k what c
on_running image count s by k (Start epoch) old c runs there at = absurd (true≢false (sym (and_parts (nat_lt by count) _ there).1 ∙ ap (λ (o : Option CoreState). not (is_some o)) runs))
on_running image count s by k (Load address width value) old c runs there at =
    acts s.cores by k (Load address width value) old _ c runs refl refl refl (λ e. refl) (at_core s.cores by (Some _) k c (sym (ap (λ (t : FlatState). t.cores k) (effect-on image s by (Load address width value) old runs)) ∙ at))
on_running image count s by k (Store address width value) old c runs there at =
    acts s.cores by k (Store address width value) old _ c runs refl refl refl (λ e. refl) (at_core s.cores by (Some _) k c (sym (ap (λ (t : FlatState). t.cores k) (effect-on image s by (Store address width value) old runs)) ∙ at))
on_running image count s by k (Hurt epoch) old c runs there at =
    is_hurt s.cores by k epoch (s.cores k) c refl (sym (ap (λ (t : FlatState). t.cores k) (effect-on image s by (Hurt epoch) old runs)) ∙ at)
on_running image count s by k (Cancel epoch) old c runs there at =
    is_idle s.cores by k epoch (s.cores k) c refl (sym (ap (λ (t : FlatState). t.cores k) (effect-on image s by (Cancel epoch) old runs)) ∙ at)
on_running image count s by k Restart old c runs there at =
    begins_by s.cores by k Restart _ c refl refl (λ e. refl) (at_core s.cores by (Some _) k c (sym (ap (λ (t : FlatState). t.cores k) (effect-on image s by Restart old runs)) ∙ at))
on_running image count s by k Publish old c runs there at =
    acts s.cores by k Publish old _ c runs refl refl refl (λ e. refl) (at_core s.cores by (Some _) k c (sym (ap (λ (t : FlatState). t.cores k) (effect-on image s by Publish old runs)) ∙ at))
on_running image count s by k Commit old c runs there at =
    leaves s.cores by k Commit c (λ e. refl) (at_core s.cores by None k c (sym (ap (λ (t : FlatState). t.cores k) (effect-on image s by Commit old runs)) ∙ at))
on_running image count s by k (Fault cause pc) old c runs there at =
    stays s.cores by k (Fault cause pc) c refl (λ e. refl) (sym (ap (λ (t : FlatState). t.cores k) (effect-on image s by (Fault cause pc) old runs)) ∙ at)

-- an idle core can only start
abbrev Idle : LoadedImage → ℕ → FlatState → ℕ → ℕ → What → CoreState → Type 0
Idle image count s by k what c = is_there count s by what ≡ true → cores_after image s by what k ≡ Some c → IsAfter s.cores by k what c

on_idle : (image : LoadedImage) (count : ℕ) (s : FlatState) (by k : ℕ) (what : What) (c : CoreState) → s.cores by ≡ None → Idle image count s by k what c
on_idle image count s by k (Start epoch) c idle there at =
    begins_by s.cores by k (Start epoch) _ c refl refl (λ e. refl) (at_core s.cores by (Some _) k c (sym (ap (λ (t : FlatState). t.cores k) (effect-idle image s by (Start epoch) idle)) ∙ at))
on_idle image count s by k (Load address width value) c idle there at = absurd (not_running (s.cores by) _ idle there)
on_idle image count s by k (Store address width value) c idle there at = absurd (not_running (s.cores by) _ idle there)
on_idle image count s by k (Hurt epoch) c idle there at = absurd (not_running (s.cores by) _ idle (and_parts (runs_and (s.cores by) (λ x. nat_lt x.epoch epoch)) _ there).0)
on_idle image count s by k (Cancel epoch) c idle there at = absurd (not_running (s.cores by) _ idle (and_parts (runs_and (s.cores by) (λ x. nat_lt x.epoch epoch)) _ there).0)
on_idle image count s by k Restart c idle there at = absurd (true≢false (sym there ∙ ap (λ o. by_core o false (λ x. x.hurt)) idle))
on_idle image count s by k Publish c idle there at = absurd (not_running (s.cores by) _ idle there)
on_idle image count s by k Commit c idle there at = absurd (not_running (s.cores by) _ idle there)
on_idle image count s by k (Fault cause pc) c idle there at = absurd (not_running (s.cores by) _ idle there)

on_core : (image : LoadedImage) (count : ℕ) (s : FlatState) (by k : ℕ) (what : What) (core : Option CoreState) (c : CoreState) → s.cores by ≡ core → Idle image count s by k what c
on_core image count s by k what None c is there at = on_idle image count s by k what c is there at
on_core image count s by k what (Some old) c is there at = on_running image count s by k what old c is there at

-- ---- what the entries say of it

mark_now : (entries : List Entry) (place k epoch : ℕ) (entry : Entry) → slice_get entries place ≡ Some entry
    → is_violated entries k epoch (suc place) ≡ (if (entry.by == k) && is_begin entry.what then false else if hurts epoch entry.what then true else is_violated entries k epoch place)
unfolding is_violated
mark_now entries place k epoch entry at =
    ap (λ (o : Option Entry). if passes o (λ e. (e.by == k) && is_begin e.what) then false else if passes o (is_violation epoch) then true else is_violated entries k epoch place) at

or_mark : (b h v : Bool) → b ≡ v → (b || h) ≡ (if h then true else v)
or_mark true true v is = refl
or_mark true false v is = is
or_mark false true v is = refl
or_mark false false v is = is

pick_first : (b v : Bool) → b ≡ true → (if b then false else v) ≡ false
pick_first true v is = refl
pick_first false v is = absurd cc

pick_second : (b v : Bool) → b ≡ false → (if b then false else v) ≡ v
pick_second true v is = absurd cc
pick_second false v is = refl

mark_by : (entries : List Entry) (place k : ℕ) (entry : Entry) (cores : ℕ → Option CoreState) (new : CoreState) → slice_get entries place ≡ Some entry → AreMarked entries place cores
    → IsAfter cores entry.by k entry.what new → new.hurt ≡ is_violated entries k new.epoch (suc place)
mark_by entries place k entry cores new at marked (inl is) =
    is.unhurt ∙ (sym (pick_first ((entry.by == k) && is_begin entry.what) _ (and_from (entry.by == k) (is_begin entry.what) (eq-eqb entry.by k is.same) is.begins))
    ∙ sym (mark_now entries place k new.epoch entry at))
mark_by entries place k entry cores new at marked (inr is) =
    is.hurt_is
    ∙ (or_mark is.old.hurt (hurts is.old.epoch entry.what) (is_violated entries k is.old.epoch place) (marked k is.old is.runs)
    ∙ (sym (pick_second ((entry.by == k) && is_begin entry.what) _ is.begins_not)
    ∙ (sym (mark_now entries place k is.old.epoch entry at) ∙ sym (ap (λ e. is_violated entries k e (suc place)) is.epoch))))

-- one entry further
pub marked_more : (image : LoadedImage) (count : ℕ) (s s' : FlatState) (entries : List Entry) (place : ℕ) (entry : Entry) → slice_get entries place ≡ Some entry
    → refusal_of image count s entry ≡ None → s' ≡ effect image s entry → AreMarked entries place s.cores → AreMarked entries (place + 1) s'.cores
marked_more image count s s' entries place entry there legal is marked k c runs =
    mark_by entries place k entry s.cores c there marked
    (on_core image count s entry.by k entry.what (s.cores entry.by) c refl (legal_entry image count s entry legal).there (sym (ap (λ (t : FlatState). t.cores k) is) ∙ runs))
    ∙ sym (ap (is_violated entries k c.epoch) (add-one place))

-- at first no core runs
pub marked_first : (image : LoadedImage) (entries : List Entry) (place : ℕ) → AreMarked entries place (first_state image).cores
marked_first image entries place k c at = absurd cc

pub marked_in : (flat flat' : FlatView) (entries : List Entry) (place : ℕ) (entry : Entry) → slice_get entries place ≡ Some entry → IsApplied flat flat' entry
    → AreMarked entries place (state_in flat).cores → AreMarked entries (place + 1) (state_in flat').cores
marked_in flat flat' entries place entry there applied marked =
    marked_more flat.image (cores_in flat) (state_in flat) (state_in flat') entries place entry there applied.legal applied.effect_is marked
