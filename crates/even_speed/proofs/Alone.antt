-- On one core no epoch is violated, and none is later than the homefree one.
use Rattle.std.proofs.Common.{◌≡◌, ◌≢◌, ℕ, zero, suc, ◌+◌, ◌<◌, ◌==◌, ◌&&◌, not, nat_lt, Bool, true, false, List, [], ◌∷◌, Option, Some, None, Result, Ok, Err, refl, sym, ap, subst, ◌∙◌, true≢false, arith, eqb-true, ltb-true, suc-ne-zero}
use Rattle.std.proofs.lemmas.Bool.{and_parts}
use Rattle.std.proofs.lemmas.Option.{same_Some}
use Rattle.rv32_image.specs.Image.{LoadedImage}
use Rattle.rv32_image.proofs.SmallFacts.{none_and_some}
use Rattle.rv32_exec.specs.declared.sequential.End.{End}
use Rattle.spec_history.specs.declared.entry.Entry.{Entry}
use Rattle.spec_history.specs.declared.entry.What.{What}
use Rattle.spec_history.specs.declared.entry.What.TheVariants.{Start, Load, Store, Hurt, Cancel, Restart, Publish, Commit, Fault}
use Rattle.spec_history.specs.FlatState.{CoreState, FlatState, begun, first_state}
use Rattle.spec_history.specs.Effect.{by_core, effect, effect_on, effect_idle, with_core}
use Rattle.spec_history.specs.Refusal.{refusal_of, runs_and}
use Rattle.spec_history.specs.Replay.{replay_from, replay, count_of, counts_of}
use Rattle.spec_history.proofs.CodedCores.Performed.{idle_fails}
use Rattle.spec_history.proofs.OneEntry.Keeping.{with_core_other, with_core_same}
use Rattle.spec_history.proofs.OneEntry.Legal.{IsLegalEntry, legal_entry, some_below}
use Rattle.spec_history.proofs.Replay.Replays.{effect-on, effect-idle, legal_by, on_core, runs_so}
use Rattle.violations.specs.View.{StoreView}
use Rattle.homefree.specs.declared.answer.Answer.{Answer}
use Rattle.homefree.specs.declared.answer.Answer.TheVariants.{Go, Again, Left, Over, Stopped}
use Rattle.homefree.specs.declared.answer.Cause.TheVariants.{NoEpoch, NotHomefree, NoWay, OrbFull, OrbBusy}
use Rattle.homefree.specs.declared.fault.TurnFault.{TurnFault}
use Rattle.homefree.specs.Again.{IfAgain, IsLaterAt, IsWhy}
use Rattle.homefree.specs.BookView.{BookView}
use Rattle.homefree.specs.InStep.{InStep}
use Rattle.homefree.specs.Turned.{Turn}
use Rattle.rv32_exec.specs.declared.stop.Stop.{Stop}
use Rattle.even_speed.specs.Kept.{NeverWaits}

-- the core runs the homefree epoch, if any, and isn't hurt; there is no other
pub record IsAlone (s : FlatState) : Type 0 where
  pub idle : s.cores 0 ≡ None → s.next_epoch ≡ s.homefree
  pub runs : (c : CoreState) → s.cores 0 ≡ Some c → (c.epoch ≡ s.homefree) × (s.next_epoch ≡ s.homefree + 1) × (c.hurt ≡ false)
  pub others : (k : ℕ) → s.cores (suc k) ≡ None

pub the_first : (core cores : ℕ) → core < cores → cores ≡ 1 → core ≡ 0
the_first core cores below one = omega (arith, below, one)

with_alone : (s : FlatState) (committed : ℕ → ℕ) (homefree published next_epoch : ℕ) (end : Option End) (core : CoreState) → IsAlone s → core.epoch ≡ homefree
    → next_epoch ≡ homefree + 1 → core.hurt ≡ false
    → IsAlone (record { committed = committed; homefree = homefree; published = published; next_epoch = next_epoch; end = end; cores = with_core s.cores 0 (Some core) })
with_alone s committed homefree published next_epoch end core a epoch next unhurt = record {
  idle = λ none. absurd (none_and_some _ core none (with_core_same s.cores 0 (Some core)));
  runs = λ c is. subst (λ (d : CoreState). (d.epoch ≡ homefree) × (next_epoch ≡ homefree + 1) × (d.hurt ≡ false))
      (same_Some core c (sym (with_core_same s.cores 0 (Some core)) ∙ is)) (epoch, next, unhurt);
  others = λ k. with_core_other s.cores 0 (Some core) (suc k) (suc-ne-zero k) ∙ a.others k;
}

-- ---- what a legal entry tells

first_below : (k : ℕ) → k < 1 → k ≡ 0
first_below k below = omega (arith, below)

earlier_and_same : (c : CoreState) (epoch : ℕ) → c.epoch < epoch → c.epoch ≡ epoch → ⊥
earlier_and_same c epoch less is = omega (arith, less, is)

no_hurt : (image : LoadedImage) (s : FlatState) (c : CoreState) (epoch : ℕ) → s.cores 0 ≡ Some c → IsLegalEntry image 1 s (record { by = 0; what = Hurt epoch }) → ⊥
no_hurt image s c epoch at legal =
    let both = and_parts (runs_and (s.cores 0) (λ x. nat_lt x.epoch epoch)) _ legal.there in
    let found = some_below 1 _ both.1 in
    let here = subst (λ k. runs_and (s.cores k) (λ x. (x.epoch == epoch) && not x.straight) ≡ true) (first_below found.0 found.1) found.2 in
    let same = and_parts (c.epoch == epoch) (not c.straight) (runs_so (s.cores 0) c (λ x. (x.epoch == epoch) && not x.straight) at here).passes in
    earlier_and_same c epoch (ltb-true _ _ (runs_so (s.cores 0) c (λ x. nat_lt x.epoch epoch) at both.0).passes) (eqb-true _ _ same.0)

no_cancel : (image : LoadedImage) (s : FlatState) (c : CoreState) (epoch : ℕ) → s.cores 0 ≡ Some c → IsLegalEntry image 1 s (record { by = 0; what = Cancel epoch }) → ⊥
no_cancel image s c epoch at legal =
    let both = and_parts (runs_and (s.cores 0) (λ x. nat_lt x.epoch epoch)) _ legal.there in
    let found = some_below 1 _ both.1 in
    let here = subst (λ k. by_core (s.cores k) false (λ x. x.epoch == epoch) ≡ true) (first_below found.0 found.1) found.2 in
    let same = on_core (s.cores 0) c (λ x. x.epoch == epoch) at here in
    earlier_and_same c epoch (ltb-true _ _ (runs_so (s.cores 0) c (λ x. nat_lt x.epoch epoch) at both.0).passes) (eqb-true _ _ same)

no_restart : (s : FlatState) (by : ℕ) → IsAlone s → by_core (s.cores by) false (λ c. c.hurt) ≡ true → ⊥
no_restart s zero a is = by_what (s.cores 0) refl
  where
    by_what : (core : Option CoreState) → s.cores 0 ≡ core → ⊥
    by_what None at = idle_fails (s.cores 0) (λ c. c.hurt) at is
    by_what (Some c) at = true≢false (sym (on_core (s.cores 0) c (λ x. x.hurt) at is) ∙ (a.runs c at).2)
no_restart s (suc k) a is = idle_fails (s.cores (suc k)) (λ c. c.hurt) (a.others k) is

-- ---- one entry

on_alone : (image : LoadedImage) (s : FlatState) (c : CoreState) (what : What) → s.cores 0 ≡ Some c → IsLegalEntry image 1 s (record { by = 0; what = what })
    → IsAlone s → IsAlone (effect_on image s 0 c what)
on_alone image s c (Start epoch) at legal a = a
on_alone image s c (Load address width value) at legal a = let r = a.runs c at in with_alone s _ _ _ _ _ _ a r.0 r.1 r.2
on_alone image s c (Store address width value) at legal a = let r = a.runs c at in with_alone s _ _ _ _ _ _ a r.0 r.1 r.2
on_alone image s c (Hurt epoch) at legal a = absurd (no_hurt image s c epoch at legal)
on_alone image s c (Cancel epoch) at legal a = absurd (no_cancel image s c epoch at legal)
on_alone image s c Restart at legal a = absurd (no_restart s 0 a legal.there)
on_alone image s c Publish at legal a = let r = a.runs c at in with_alone s _ _ _ _ _ _ a r.0 r.1 r.2
on_alone image s c Commit at legal a = record {
  idle = λ none. (a.runs c at).1;
  runs = λ d is. absurd (none_and_some _ d (with_core_same s.cores 0 None) is);
  others = λ k. with_core_other s.cores 0 None (suc k) (suc-ne-zero k) ∙ a.others k;
}
on_alone image s c (Fault cause pc) at legal a = record { idle = a.idle; runs = a.runs; others = a.others }

start_alone : (image : LoadedImage) (s : FlatState) (epoch : ℕ) → s.cores 0 ≡ None → IsLegalEntry image 1 s (record { by = 0; what = Start epoch })
    → IsAlone s → IsAlone (effect_idle image s 0 (Start epoch))
start_alone image s epoch at legal a =
    let next = and_parts (epoch == s.next_epoch) (nat_lt epoch image.epochs) legal.next in
    let is : epoch ≡ s.homefree = eqb-true _ _ next.0 ∙ a.idle at in
    with_alone s _ _ _ _ _ (begun image epoch) a is (omega (arith, a.idle at)) refl

idle_alone : (image : LoadedImage) (s : FlatState) (what : What) → s.cores 0 ≡ None → IsLegalEntry image 1 s (record { by = 0; what = what })
    → IsAlone s → IsAlone (effect_idle image s 0 what)
idle_alone image s (Start epoch) at legal a = start_alone image s epoch at legal a
idle_alone image s (Load address width value) at legal a = a
idle_alone image s (Store address width value) at legal a = a
idle_alone image s (Hurt epoch) at legal a = a
idle_alone image s (Cancel epoch) at legal a = a
idle_alone image s Restart at legal a = a
idle_alone image s Publish at legal a = a
idle_alone image s Commit at legal a = a
idle_alone image s (Fault cause pc) at legal a = a

not_there : (k : ℕ) (rest : Bool) → (nat_lt (suc k) 1 && rest) ≡ true → ⊥
not_there k rest is = let below = ltb-true (suc k) 1 (and_parts (nat_lt (suc k) 1) rest is).0 in omega (arith, below)

other_alone : (image : LoadedImage) (s : FlatState) (k : ℕ) (what : What) → IsLegalEntry image 1 s (record { by = suc k; what = what })
    → IsAlone s → IsAlone (effect_idle image s (suc k) what)
other_alone image s k (Start epoch) legal a = absurd (not_there k _ legal.there)
other_alone image s k (Load address width value) legal a = a
other_alone image s k (Store address width value) legal a = a
other_alone image s k (Hurt epoch) legal a = a
other_alone image s k (Cancel epoch) legal a = a
other_alone image s k Restart legal a = a
other_alone image s k Publish legal a = a
other_alone image s k Commit legal a = a
other_alone image s k (Fault cause pc) legal a = a

core_alone : (image : LoadedImage) (s : FlatState) (what : What) (core : Option CoreState) → s.cores 0 ≡ core → IsLegalEntry image 1 s (record { by = 0; what = what })
    → IsAlone s → IsAlone (effect image s (record { by = 0; what = what }))
core_alone image s what None at legal a = rw (effect-idle image s 0 what at) (idle_alone image s what at legal a)
core_alone image s what (Some c) at legal a = rw (effect-on image s 0 what c at) (on_alone image s c what at legal a)

entry_alone : (image : LoadedImage) (s : FlatState) (by : ℕ) (what : What) → IsLegalEntry image 1 s (record { by = by; what = what })
    → IsAlone s → IsAlone (effect image s (record { by = by; what = what }))
entry_alone image s zero what legal a = core_alone image s what (s.cores 0) refl legal a
entry_alone image s (suc k) what legal a = rw (effect-idle image s (suc k) what (a.others k)) (other_alone image s k what legal a)

counts_none : (image : LoadedImage) (s : FlatState) (by : ℕ) (what : What) → IsLegalEntry image 1 s (record { by = by; what = what }) → IsAlone s
    → (count_of what).restarts ≡ 0
counts_none image s by (Start epoch) legal a = refl
counts_none image s by (Load address width value) legal a = refl
counts_none image s by (Store address width value) legal a = refl
counts_none image s by (Hurt epoch) legal a = refl
counts_none image s by (Cancel epoch) legal a = refl
counts_none image s by Restart legal a = absurd (no_restart s by a legal.there)
counts_none image s by Publish legal a = refl
counts_none image s by Commit legal a = refl
counts_none image s by (Fault cause pc) legal a = refl

-- ---- all entries

alone_from : (image : LoadedImage) (entries : List Entry) (s last : FlatState) → replay_from image 1 s entries ≡ Some last → IsAlone s
    → IsAlone last × ((counts_of entries).restarts ≡ 0)
unfolding replay_from counts_of
alone_from image [] s last replays a = let same : s ≡ last = cc in (subst IsAlone same a, refl)
alone_from image (entry ∷ rest) s last replays a =
    legal_by image 1 s entry rest last (refusal_of image 1 s entry) refl replays
    (λ is later.
    let legal = legal_entry image 1 s entry is in
    let none = counts_none image s entry.by entry.what legal a in
    let more = alone_from image rest (effect image s entry) last later (entry_alone image s entry.by entry.what legal a) in
    (more.0, omega (arith, none, more.1)))

first_alone : (image : LoadedImage) → IsAlone (first_state image)
first_alone image = record { idle = λ none. refl; runs = λ c is. absurd cc; others = λ k. refl }

alone_after : (image : LoadedImage) (entries : List Entry) (s : FlatState) → replay image 1 entries ≡ Some s → IsAlone s × ((counts_of entries).restarts ≡ 0)
unfolding replay
alone_after image entries s replays = alone_from image entries (first_state image) s replays (first_alone image)

-- ---- a book of one core

module _ {S : Type 0} (view : S → StoreView) (b : BookView S) (i : InStep view b) (one : b.cores ≡ 1) where
  replays_one : replay b.image 1 b.history ≡ Some i.state
  replays_one = subst (λ n. replay b.image n b.history ≡ Some i.state) one i.replays

  pub alone_in : IsAlone i.state
  alone_in = (alone_after b.image b.history i.state replays_one).0

  pub no_restarts_in : b.totals.restarts ≡ 0
  no_restarts_in = ap (λ c. c.restarts) i.counted ∙ (alone_after b.image b.history i.state replays_one).1

never_later : (t : Turn) (IsSuch : Stop → Type 0) → t.core ≡ 0 → IsAlone t.state → IsLaterAt t IsSuch → ⊥
never_later t IsSuch first a later =
    let runs : t.state.cores 0 ≡ Some later.core = ap t.state.cores (sym first) ∙ later.runs in
    omega (arith, later.later, (a.runs later.core runs).0)

pub never_waits : (t : Turn) (result : Result Answer TurnFault) → t.core ≡ 0 → IsAlone t.state → IfAgain result (IsWhy t) → NeverWaits result
never_waits t (Ok (Again NoEpoch)) first a why = tt
never_waits t (Ok (Again NotHomefree)) first a why = never_later t _ first a why
never_waits t (Ok (Again NoWay)) first a why = never_later t _ first a why
never_waits t (Ok (Again OrbFull)) first a why = never_later t _ first a why
never_waits t (Ok (Again OrbBusy)) first a why = never_later t _ first a why
never_waits t (Ok (Go hart)) first a why = tt
never_waits t (Ok Left) first a why = tt
never_waits t (Ok (Over end)) first a why = tt
never_waits t (Ok (Stopped cause)) first a why = tt
never_waits t (Err fault) first a why = tt
