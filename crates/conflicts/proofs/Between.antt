-- A violation that is left out, where others stand between it and its cause.
use Rattle.std.specs.Prelude.{All}
use Rattle.std.proofs.Common.{◌≡◌, ◌≢◌, ℕ, ◌<◌, ◌==◌, ◌&&◌, ◌||◌, not, Bool, true, false, nat_lt, List, [], ◌∷◌, Option, Some, None, option_map, if◌then◌else◌, refl, sym, ap, ◌∙◌, arith, eqb-true, ltb-true, ne_eqb, inl, inr}
use Rattle.std.proofs.lemmas.Bool.{cases_eq, eq-eqb, and_from, and_parts, not-true, or_parts, both_ways, false≢true}
use Rattle.std.proofs.lemmas.List.Elements.{All-tail}
use Rattle.std.proofs.Math.Path.{fun_ext}
use Rattle.std.proofs.lemmas.Option.{same_Some}
use Rattle.rv32_image.specs.Image.{LoadedImage, IsImage}
use Rattle.rv32_image.proofs.SmallFacts.{or_false}
use Rattle.spec_history.specs.declared.entry.Entry.{Entry}
use Rattle.spec_history.specs.declared.entry.What.{What}
use Rattle.spec_history.specs.declared.entry.What.TheVariants.{Start, Load, Store, Hurt, Cancel, Restart, Publish, Commit, Fault}
use Rattle.spec_history.specs.declared.illegal.Illegal.{Illegal}
use Rattle.spec_history.specs.declared.illegal.Illegal.TheVariants.{HurtMissing}
use Rattle.spec_history.specs.FlatState.{CoreState, FlatState}
use Rattle.spec_history.specs.Effect.{effect, hurt_at, idle_at}
use Rattle.spec_history.specs.Refusal.{any_below, runs_and, can_be_hurt, is_an_exit, is_at, is_there, next_is, refusal_of}
use Rattle.spec_history.specs.Replay.{replay, replay_from, where_legal}
use Rattle.spec_history.proofs.OneEntry.Legal.{legal_entry, legal_is, some_below}
use Rattle.spec_history.proofs.Replay.Joining.{one_entry}
use Rattle.spec_history.proofs.Searches.Missing.{quiet_misses}
use Rattle.spec_history.proofs.Searches.Tests.{one_passes}
use Rattle.spec_history.proofs.Replay.Replays.{Whole, all_entries, effect-on, replayed}
use Rattle.spec_history.specs.Conflict.{is_changed, own_bytes, read_bytes, written, is_notice}
use Rattle.conflicts.specs.Laws.{cancels_one, commits, missed_by, notices_by, refusal_after}
use Rattle.conflicts.proofs.Needed.{before_of, core_other, missed_from, running, with_hurt}

-- ---- two violations of different epochs are told in any order

or_swap : (a b c : Bool) → ((a || b) || c) ≡ ((a || c) || b)
or_swap true b c = refl
or_swap false true true = refl
or_swap false true false = refl
or_swap false false true = refl
or_swap false false false = refl

core_swap : (x y : ℕ) (core : Option CoreState) → hurt_at y (hurt_at x core) ≡ hurt_at x (hurt_at y core)
core_swap x y None = refl
core_swap x y (Some c) = ap (λ b. Some (record c { hurt = b })) (or_swap c.hurt (c.epoch == x) (c.epoch == y))

swapped : (s : FlatState) (x y : ℕ) → with_hurt (with_hurt s x) y ≡ with_hurt (with_hurt s y) x
swapped s x y = ap (λ (cores : ℕ → Option CoreState). record s { cores = cores }) (fun_ext (λ k. core_swap x y (s.cores k)))

-- ---- what is legal after the violation was so before it

-- a core that can be violated after another violation is of another epoch, and could be before it
apart : (epoch other : ℕ) (core : Option CoreState) → can_be_hurt other (hurt_at epoch core) ≡ true → (other ≢ epoch) × (can_be_hurt other core ≡ true)
apart epoch other None is = absurd cc
apart epoch other (Some c) is =
    let both = and_parts (not (c.hurt || (c.epoch == epoch))) ((c.epoch == other) && not c.straight) is in
    let unhurt : (c.hurt || (c.epoch == epoch)) ≡ false = not-true (c.hurt || (c.epoch == epoch)) both.0 in
    let neither = or_parts c.hurt (c.epoch == epoch) unhurt in
    let named : c.epoch ≡ other = eqb-true c.epoch other (and_parts (c.epoch == other) (not c.straight) both.1).0 in (
      (λ e. both_ways (c.epoch == epoch) neither.1 (eq-eqb c.epoch epoch (named ∙ e))),
      and_from (not c.hurt) ((c.epoch == other) && not c.straight) (ap not neither.0) both.1,
    )

-- and the other way round
still : (epoch other : ℕ) (core : Option CoreState) → other ≢ epoch → can_be_hurt epoch core ≡ true → can_be_hurt epoch (hurt_at other core) ≡ true
still epoch other core differ is =
    let d = running core (λ c. (c.epoch == epoch) && not c.straight) is in
    let named : d.0.epoch ≡ epoch = eqb-true d.0.epoch epoch (and_parts (d.0.epoch == epoch) (not d.0.straight) d.2).0 in
    ap (can_be_hurt epoch) (core_other other core d.0 d.1 (λ e. differ (sym e ∙ named))) ∙ is

legal_hurt : (image : LoadedImage) (count : ℕ) (s : FlatState) (by epoch : ℕ) (c : CoreState) → s.end ≡ None → s.cores by ≡ Some c → is_there count s by (Hurt epoch) ≡ true
    → refusal_of image count s (record { by = by; what = Hurt epoch }) ≡ None
legal_hurt image count s by epoch c going at there = legal_is image count s (record { by = by; what = Hurt epoch }) (record {
  going = going;
  there = there;
  next = refl;
  homefree = refl;
  value = refl;
  spares = quiet_misses image count s by (Hurt epoch) c at tt;
  cancelled = refl;
})

-- what is known of another violation by the same core, which stands after one
record Another (image : LoadedImage) (count : ℕ) (s : FlatState) (by epoch other : ℕ) : Type 0 where
  pub differ : other ≢ epoch
  pub before : refusal_of image count s (record { by = by; what = Hurt other }) ≡ None
  pub same : hurt_at other (s.cores by) ≡ s.cores by
  pub one : effect image s (record { by = by; what = Hurt other }) ≡ with_hurt s other
  pub after : refusal_of image count (with_hurt s other) (record { by = by; what = Hurt epoch }) ≡ None

another : (image : LoadedImage) (count : ℕ) (s : FlatState) (by epoch other : ℕ) (c : CoreState) → s.cores by ≡ Some c → c.epoch ≢ epoch
    → refusal_of image count s (record { by = by; what = Hurt epoch }) ≡ None
    → refusal_of image count (with_hurt s epoch) (record { by = by; what = Hurt other }) ≡ None
    → Another image count s by epoch other
another image count s by epoch other c at apart_from hurts goes =
    let hurt = legal_entry image count s (record { by = by; what = Hurt epoch }) hurts in
    let next = legal_entry image count (with_hurt s epoch) (record { by = by; what = Hurt other }) goes in
    let unchanged = core_other epoch (s.cores by) c at apart_from in
    let first = and_parts (runs_and (s.cores by) (λ x. nat_lt x.epoch epoch)) (any_below count (λ k. can_be_hurt epoch (s.cores k))) hurt.there in
    let second = and_parts (runs_and (hurt_at epoch (s.cores by)) (λ x. nat_lt x.epoch other)) (any_below count (λ k. can_be_hurt other (hurt_at epoch (s.cores k)))) next.there in
    let runs_it : runs_and (s.cores by) (λ x. nat_lt x.epoch other) ≡ true = sym (ap (λ o. runs_and o (λ (x : CoreState). nat_lt x.epoch other)) unchanged) ∙ second.0 in
    let d = running (s.cores by) (λ x. nat_lt x.epoch other) runs_it in
    let earlier : d.0.epoch < other = ltb-true d.0.epoch other d.2 in
    let same = core_other other (s.cores by) d.0 d.1 (λ e. omega (arith, earlier, e)) in
    let found = some_below count (λ k. can_be_hurt other (hurt_at epoch (s.cores k))) second.1 in
    let two = apart epoch other (s.cores found.0) found.2 in
    let victim = some_below count (λ k. can_be_hurt epoch (s.cores k)) first.1 in
    record {
      differ = two.0;
      before = legal_hurt image count s by other c hurt.going at
          (and_from _ _ runs_it (one_passes count (λ k. can_be_hurt other (s.cores k)) found.0 found.1 two.1));
      same = same;
      one = effect-on image s by (Hurt other) c at;
      after = legal_hurt image count (with_hurt s other) by epoch c hurt.going (same ∙ at)
          (and_from _ _ (ap (λ o. runs_and o (λ (x : CoreState). nat_lt x.epoch epoch)) same ∙ first.0)
          (one_passes count (λ k. can_be_hurt epoch (hurt_at other (s.cores k))) victim.0 victim.1 (still epoch other (s.cores victim.0) two.0 victim.2)));
    }

-- ---- a cancellation

idle_by : (b : Bool) (x : ℕ) (c : CoreState) → (if b then None else Some (record c { hurt = c.hurt || (c.epoch == x) })) ≡ hurt_at x (if b then None else Some c)
idle_by true x c = refl
idle_by false x c = refl

core_turn : (x y : ℕ) (core : Option CoreState) → idle_at y (hurt_at x core) ≡ hurt_at x (idle_at y core)
core_turn x y None = refl
core_turn x y (Some c) = idle_by (c.epoch == y) x c

-- the state in which the core of this epoch is idle
abbrev with_idle : FlatState → ℕ → FlatState
with_idle s epoch = record s { cores = λ k. idle_at epoch (s.cores k) }

turned : (s : FlatState) (x y : ℕ) → with_idle (with_hurt s x) y ≡ with_hurt (with_idle s y) x
turned s x y = ap (λ (cores : ℕ → Option CoreState). record s { cores = cores }) (fun_ext (λ k. core_turn x y (s.cores k)))

idle_other : (epoch : ℕ) (core : Option CoreState) (c : CoreState) → core ≡ Some c → c.epoch ≢ epoch → idle_at epoch core ≡ core
idle_other epoch core c is other = ap (idle_at epoch) is ∙ (ap (λ b. if b then None else Some c) (ne_eqb c.epoch epoch other) ∙ sym is)

at_same : (epoch other : ℕ) (core : Option CoreState) → is_at other (hurt_at epoch core) ≡ true → is_at other core ≡ true
at_same epoch other None is = is
at_same epoch other (Some c) is = is

still_there : (epoch other : ℕ) (core : Option CoreState) → other ≢ epoch → can_be_hurt epoch core ≡ true → can_be_hurt epoch (idle_at other core) ≡ true
still_there epoch other core differ is =
    let d = running core (λ c. (c.epoch == epoch) && not c.straight) is in
    let named : d.0.epoch ≡ epoch = eqb-true d.0.epoch epoch (and_parts (d.0.epoch == epoch) (not d.0.straight) d.2).0 in
    ap (can_be_hurt epoch) (idle_other other core d.0 d.1 (λ e. differ (sym e ∙ named))) ∙ is

-- what is known of a cancellation by the same core, which stands after a violation
record Cancelled (image : LoadedImage) (count : ℕ) (s : FlatState) (by other : ℕ) : Type 0 where
  pub before : refusal_of image count s (record { by = by; what = Cancel other }) ≡ None
  pub same : idle_at other (s.cores by) ≡ s.cores by
  pub one : effect image s (record { by = by; what = Cancel other }) ≡ with_idle s other

cancelled : (image : LoadedImage) (count : ℕ) (s : FlatState) (by epoch other : ℕ) (c : CoreState) → s.cores by ≡ Some c → c.epoch ≢ epoch
    → refusal_of image count s (record { by = by; what = Hurt epoch }) ≡ None
    → refusal_of image count (with_hurt s epoch) (record { by = by; what = Cancel other }) ≡ None
    → Cancelled image count s by other
cancelled image count s by epoch other c at apart_from hurts goes =
    let hurt = legal_entry image count s (record { by = by; what = Hurt epoch }) hurts in
    let next = legal_entry image count (with_hurt s epoch) (record { by = by; what = Cancel other }) goes in
    let unchanged = core_other epoch (s.cores by) c at apart_from in
    let second = and_parts (runs_and (hurt_at epoch (s.cores by)) (λ x. nat_lt x.epoch other)) (any_below count (λ k. is_at other (hurt_at epoch (s.cores k)))) next.there in
    let runs_it : runs_and (s.cores by) (λ x. nat_lt x.epoch other) ≡ true = sym (ap (λ o. runs_and o (λ (x : CoreState). nat_lt x.epoch other)) unchanged) ∙ second.0 in
    let d = running (s.cores by) (λ x. nat_lt x.epoch other) runs_it in
    let earlier : d.0.epoch < other = ltb-true d.0.epoch other d.2 in
    let found = some_below count (λ k. is_at other (hurt_at epoch (s.cores k))) second.1 in
    record {
      before = legal_is image count s (record { by = by; what = Cancel other }) (record {
        going = hurt.going;
        there = and_from _ _ runs_it (one_passes count (λ k. is_at other (s.cores k)) found.0 found.1 (at_same epoch other (s.cores found.0) found.2));
        next = sym (ap (λ o. next_is image o (is_an_exit image)) unchanged) ∙ next.next;
        homefree = sym (ap (is_at s.homefree) unchanged) ∙ next.homefree;
        value = refl;
        spares = quiet_misses image count s by (Cancel other) c at tt;
        cancelled = refl;
      });
      same = idle_other other (s.cores by) d.0 d.1 (λ e. omega (arith, earlier, e));
      one = effect-on image s by (Cancel other) c at;
    }

-- after the cancellation of another epoch the violation is as legal as before it
then_hurt : (image : LoadedImage) (count : ℕ) (s : FlatState) (by epoch other : ℕ) (c : CoreState) → s.cores by ≡ Some c → other ≢ epoch → idle_at other (s.cores by) ≡ s.cores by
    → refusal_of image count s (record { by = by; what = Hurt epoch }) ≡ None
    → refusal_of image count (with_idle s other) (record { by = by; what = Hurt epoch }) ≡ None
then_hurt image count s by epoch other c at differ same hurts =
    let hurt = legal_entry image count s (record { by = by; what = Hurt epoch }) hurts in
    let first = and_parts (runs_and (s.cores by) (λ x. nat_lt x.epoch epoch)) (any_below count (λ k. can_be_hurt epoch (s.cores k))) hurt.there in
    let victim = some_below count (λ k. can_be_hurt epoch (s.cores k)) first.1 in
    legal_hurt image count (with_idle s other) by epoch c hurt.going (same ∙ at)
    (and_from _ _ (ap (λ o. runs_and o (λ (x : CoreState). nat_lt x.epoch epoch)) same ∙ first.0)
    (one_passes count (λ k. can_be_hurt epoch (idle_at other (s.cores k))) victim.0 victim.1 (still_there epoch other (s.cores victim.0) differ victim.2)))

idle_alike : (b : Bool) (c : CoreState) → (if b then None else Some (record c { hurt = c.hurt || b })) ≡ (if b then None else Some c)
idle_alike true c = refl
idle_alike false c = ap (λ h. Some (record c { hurt = h })) (or_false c.hurt)

core_gone : (x : ℕ) (core : Option CoreState) → idle_at x (hurt_at x core) ≡ idle_at x core
core_gone x None = refl
core_gone x (Some c) = idle_alike (c.epoch == x) c

gone : (s : FlatState) (x : ℕ) → with_idle (with_hurt s x) x ≡ with_idle s x
gone s x = ap (λ (cores : ℕ → Option CoreState). record s { cores = cores }) (fun_ext (λ k. core_gone x (s.cores k)))

-- ---- the law

legal_then : (refusal : Option Illegal) (next : Option FlatState) (f : FlatState → Option Illegal) → option_map f (where_legal refusal next) ≡ Some None
    → (refusal ≡ None) × (option_map f next ≡ Some None)
legal_then None next f is = (refl, is)
legal_then (Some illegal) next f is = absurd cc

first_legal : (image : LoadedImage) (count : ℕ) (s : FlatState) (entry : Entry) (entries : List Entry) (cause : Entry) → refusal_after image count s (entry ∷ entries) cause ≡ Some None
    → (refusal_of image count s entry ≡ None) × (refusal_after image count (effect image s entry) entries cause ≡ Some None)
unfolding replay_from
first_legal image count s entry entries cause is =
    legal_then (refusal_of image count s entry) (replay_from image count (effect image s entry) entries) (λ t. refusal_of image count t cause) is

then_legal : (image : LoadedImage) (count : ℕ) (s : FlatState) (entry : Entry) (entries : List Entry) (cause : Entry) → refusal_of image count s entry ≡ None
    → refusal_after image count s (entry ∷ entries) cause ≡ refusal_after image count (effect image s entry) entries cause
unfolding replay_from
then_legal image count s entry entries cause is =
    ap (λ refusal. option_map (λ t. refusal_of image count t cause) (where_legal refusal (replay_from image count (effect image s entry) entries))) is

at_once : (image : LoadedImage) (count : ℕ) (s : FlatState) (cause : Entry) → refusal_after image count s [] cause ≡ Some (refusal_of image count s cause)
unfolding replay_from
at_once image count s cause = refl

-- what the cause is refused with, by what the two cores run
abbrev missed_with : LoadedImage → (ℕ → ℕ) → What → Option CoreState → Option CoreState → Option Illegal
missed_with image committed cause causer violated = if any_below image.size (is_changed (record {
  committed = committed;
  writes = written causer cause;
  reads = read_bytes violated;
  stores = own_bytes violated;
})) then Some HurtMissing else None

missed_same : (image : LoadedImage) (committed : ℕ → ℕ) (cause : What) (a b v w : Option CoreState) → a ≡ b → v ≡ w → missed_with image committed cause a v ≡ missed_with image committed cause b w
missed_same image committed cause a b v w causer violated =
    ap (λ o. missed_with image committed cause o v) causer ∙ ap (missed_with image committed cause b) violated

abbrev unless : Bool → Option Illegal → Option Illegal
unless moot refusal = if moot then None else refusal

-- what holds of these notices, in a state in which the violation is legal
abbrev Left : LoadedImage → ℕ → List What → FlatState → ℕ → ℕ → CoreState → What → Type 0
Left image count notices s by victim v cause = Whole image count s → s.cores victim ≡ Some v
    → refusal_of image count s (record { by = by; what = Hurt v.epoch }) ≡ None
    → refusal_after image count (with_hurt s v.epoch) (notices_by by notices) (record { by = by; what = cause }) ≡ Some None
    → commits (s.cores by) cause ≡ true
    → refusal_after image count s (notices_by by notices) (record { by = by; what = cause }) ≡ Some (unless (cancels_one v.epoch notices) (missed_by image s by cause victim))

at_the_cause : (image : LoadedImage) (count : ℕ) (s : FlatState) (by victim : ℕ) (v : CoreState) (cause : What) → Left image count [] s by victim v cause
at_the_cause image count s by victim v cause whole at hurts goes commits_it =
    let kept = (whole.going (legal_entry image count s (record { by = by; what = Hurt v.epoch }) hurts).going).kept in
    let known = before_of image count s by victim v kept at (legal_entry image count s (record { by = by; what = Hurt v.epoch }) hurts) in
    let goes_on = same_Some (refusal_of image count (with_hurt s v.epoch) (record { by = by; what = cause })) None (sym (at_once image count (with_hurt s v.epoch) (record { by = by; what = cause })) ∙ goes) in
    at_once image count s (record { by = by; what = cause })
    ∙ ap Some (missed_from image count s by victim v cause whole at hurts
    (ap (λ t. refusal_of image count t (record { by = by; what = cause })) (effect-on image s by (Hurt v.epoch) known.0 known.1) ∙ goes_on) commits_it)

-- a violation of another epoch is kept
past_violation : (image : LoadedImage) (count other : ℕ) (notices : List What) (s : FlatState) (by victim : ℕ) (v : CoreState) (cause : What)
    → ((t : FlatState) → Left image count notices t by victim v cause) → Left image count (Hurt other ∷ notices) s by victim v cause
past_violation image count other notices s by victim v cause below whole at hurts goes commits_it =
    let kept = (whole.going (legal_entry image count s (record { by = by; what = Hurt v.epoch }) hurts).going).kept in
    let known = before_of image count s by victim v kept at (legal_entry image count s (record { by = by; what = Hurt v.epoch }) hurts) in
    let act : Entry = record { by = by; what = cause } in
    let hurt : Entry = record { by = by; what = Hurt other } in
    let two = first_legal image count (with_hurt s v.epoch) hurt (notices_by by notices) act goes in
    let o = another image count s by v.epoch other known.0 known.1 known.2 hurts two.0 in
    let violated = core_other other (s.cores victim) v at (λ e. o.differ (sym e)) in
    let next = with_hurt s other in
    let swap : effect image (with_hurt s v.epoch) hurt ≡ with_hurt next v.epoch =
    effect-on image (with_hurt s v.epoch) by (Hurt other) known.0 (core_other v.epoch (s.cores by) known.0 known.1 known.2 ∙ known.1) ∙ swapped s v.epoch other in
    let whole_next : Whole image count next =
    all_entries image count (hurt ∷ []) s next whole (one_entry image count s hurt o.before ∙ ap Some o.one) in
    let rest = below next whole_next (violated ∙ at) o.after
    (sym (ap (λ t. refusal_after image count t (notices_by by notices) act) swap) ∙ two.1) (ap (λ core. commits core cause) o.same ∙ commits_it) in
    then_legal image count s hurt (notices_by by notices) act o.before
    ∙ (ap (λ t. refusal_after image count t (notices_by by notices) act) o.one
    ∙ (rest ∙ ap (λ r. Some (unless (cancels_one v.epoch notices) r))
    (missed_same image s.committed cause (hurt_at other (s.cores by)) (s.cores by) (hurt_at other (s.cores victim)) (s.cores victim) o.same violated)))

-- a cancellation of another epoch is kept
past_cancellation : (image : LoadedImage) (count other : ℕ) (notices : List What) (s : FlatState) (by victim : ℕ) (v : CoreState) (cause : What)
    → other ≢ v.epoch → ((t : FlatState) → Left image count notices t by victim v cause) → Left image count (Cancel other ∷ notices) s by victim v cause
past_cancellation image count other notices s by victim v cause differ below whole at hurts goes commits_it =
    let kept = (whole.going (legal_entry image count s (record { by = by; what = Hurt v.epoch }) hurts).going).kept in
    let known = before_of image count s by victim v kept at (legal_entry image count s (record { by = by; what = Hurt v.epoch }) hurts) in
    let act : Entry = record { by = by; what = cause } in
    let cancel : Entry = record { by = by; what = Cancel other } in
    let two = first_legal image count (with_hurt s v.epoch) cancel (notices_by by notices) act goes in
    let o = cancelled image count s by v.epoch other known.0 known.1 known.2 hurts two.0 in
    let violated = idle_other other (s.cores victim) v at (λ e. differ (sym e)) in
    let next = with_idle s other in
    let swap : effect image (with_hurt s v.epoch) cancel ≡ with_hurt next v.epoch =
    effect-on image (with_hurt s v.epoch) by (Cancel other) known.0 (core_other v.epoch (s.cores by) known.0 known.1 known.2 ∙ known.1) ∙ turned s v.epoch other in
    let whole_next : Whole image count next =
    all_entries image count (cancel ∷ []) s next whole (one_entry image count s cancel o.before ∙ ap Some o.one) in
    let rest = below next whole_next (violated ∙ at) (then_hurt image count s by v.epoch other known.0 known.1 differ o.same hurts)
    (sym (ap (λ t. refusal_after image count t (notices_by by notices) act) swap) ∙ two.1) (ap (λ core. commits core cause) o.same ∙ commits_it) in
    then_legal image count s cancel (notices_by by notices) act o.before
    ∙ (ap (λ t. refusal_after image count t (notices_by by notices) act) o.one
    ∙ (rest ∙ (ap (λ r. Some (unless (cancels_one v.epoch notices) r))
    (missed_same image s.committed cause (idle_at other (s.cores by)) (s.cores by) (idle_at other (s.cores victim)) (s.cores victim) o.same violated)
    ∙ ap (λ b. Some (unless (b || cancels_one v.epoch notices) (missed_by image s by cause victim))) (sym (ne_eqb other v.epoch differ)))))

-- after the cancellation of its own epoch the violation is no longer seen
past_own_cancellation : (image : LoadedImage) (count other : ℕ) (notices : List What) (s : FlatState) (by victim : ℕ) (v : CoreState) (cause : What)
    → other ≡ v.epoch → Left image count (Cancel other ∷ notices) s by victim v cause
past_own_cancellation image count other notices s by victim v cause own whole at hurts goes commits_it =
    let kept = (whole.going (legal_entry image count s (record { by = by; what = Hurt v.epoch }) hurts).going).kept in
    let known = before_of image count s by victim v kept at (legal_entry image count s (record { by = by; what = Hurt v.epoch }) hurts) in
    let act : Entry = record { by = by; what = cause } in
    let cancel : Entry = record { by = by; what = Cancel other } in
    let two = first_legal image count (with_hurt s v.epoch) cancel (notices_by by notices) act goes in
    let o = cancelled image count s by v.epoch other known.0 known.1 known.2 hurts two.0 in
    let alike : with_idle (with_hurt s v.epoch) other ≡ with_idle s other = ap (with_idle (with_hurt s v.epoch)) own ∙ (gone s v.epoch ∙ ap (with_idle s) (sym own)) in
    let same : effect image s cancel ≡ effect image (with_hurt s v.epoch) cancel =
    o.one ∙ sym (effect-on image (with_hurt s v.epoch) by (Cancel other) known.0 (core_other v.epoch (s.cores by) known.0 known.1 known.2 ∙ known.1) ∙ alike) in
    then_legal image count s cancel (notices_by by notices) act o.before
    ∙ (ap (λ t. refusal_after image count t (notices_by by notices) act) same
    ∙ (two.1 ∙ ap (λ b. Some (unless (b || cancels_one v.epoch notices) (missed_by image s by cause victim))) (sym (eq-eqb other v.epoch own))))

first_is : (what : What) (notices : List What) → All (λ x. is_notice x ≡ true) (what ∷ notices) → is_notice what ≡ true
first_is what notices all = all 0 what (omega arith)

missed_between : (image : LoadedImage) (count : ℕ) (notices : List What) (by victim : ℕ) (v : CoreState) (cause : What) → All (λ what. is_notice what ≡ true) notices
    → (s : FlatState) → Left image count notices s by victim v cause
missed_between image count [] by victim v cause all s = at_the_cause image count s by victim v cause
missed_between image count (Hurt other ∷ notices) by victim v cause all s =
    past_violation image count other notices s by victim v cause (missed_between image count notices by victim v cause (All-tail (λ x. is_notice x ≡ true) _ _ all))
missed_between image count (Cancel other ∷ notices) by victim v cause all s = elim (cases_eq other v.epoch) [
  | inl own ↦ past_own_cancellation image count other notices s by victim v cause own
  | inr differ ↦ past_cancellation image count other notices s by victim v cause differ (missed_between image count notices by victim v cause (All-tail (λ x. is_notice x ≡ true) _ _ all))
]
missed_between image count (Start epoch ∷ notices) by victim v cause all s =
    absurd (false≢true (first_is (Start epoch) notices all))
missed_between image count (Load address width value ∷ notices) by victim v cause all s =
    absurd (false≢true (first_is (Load address width value) notices all))
missed_between image count (Store address width value ∷ notices) by victim v cause all s =
    absurd (false≢true (first_is (Store address width value) notices all))
missed_between image count (Restart ∷ notices) by victim v cause all s =
    absurd (false≢true (first_is Restart notices all))
missed_between image count (Publish ∷ notices) by victim v cause all s =
    absurd (false≢true (first_is Publish notices all))
missed_between image count (Commit ∷ notices) by victim v cause all s =
    absurd (false≢true (first_is Commit notices all))
missed_between image count (Fault why pc ∷ notices) by victim v cause all s =
    absurd (false≢true (first_is (Fault why pc) notices all))

-- the whole history
pub missed_among : (image : LoadedImage) (count : ℕ) (entries : List Entry) (notices : List What) (s : FlatState) (by victim : ℕ) (v : CoreState) (cause : What) → IsImage image
    → replay image count entries ≡ Some s → s.cores victim ≡ Some v → All (λ what. is_notice what ≡ true) notices
    → refusal_after image count s (notices_by by (Hurt v.epoch ∷ notices)) (record { by = by; what = cause }) ≡ Some None
    → commits (s.cores by) cause ≡ true
    → refusal_after image count s (notices_by by notices) (record { by = by; what = cause }) ≡ Some (unless (cancels_one v.epoch notices) (missed_by image s by cause victim))
missed_among image count entries notices s by victim v cause is replays at all goes commits_it =
    let whole = replayed image count entries s is replays in
    let hurt : Entry = record { by = by; what = Hurt v.epoch } in
    let two = first_legal image count s hurt (notices_by by notices) (record { by = by; what = cause }) goes in
    let legal = legal_entry image count s hurt two.0 in
    let known = before_of image count s by victim v ((whole.going legal.going).kept) at legal in
    missed_between image count notices by victim v cause all s whole at two.0
    (sym (ap (λ t. refusal_after image count t (notices_by by notices) (record { by = by; what = cause })) (effect-on image s by (Hurt v.epoch) known.0 known.1)) ∙ two.1) commits_it
