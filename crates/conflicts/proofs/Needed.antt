-- A violation that is left out: what its cause is then refused with.
use Rattle.std.proofs.Common.{◌≡◌, ◌≢◌, ℕ, zero, suc, ◌<◌, ◌==◌, ◌&&◌, ◌||◌, not, Bool, true, false, cond, is_some, nat_lt, List, Option, Some, None, refl, sym, ap, ◌∙◌, inl, inr, arith, ne_eqb, eqb-true, ltb-true}
use Rattle.std.proofs.lemmas.Bool.{cases_eq, and_parts, not-true, and_right}
use Rattle.memory_bytes.specs.Maps.{over, stored}
use Rattle.rv32_image.specs.Image.{LoadedImage, IsImage}
use Rattle.rv32_image.proofs.SmallFacts.{one_value, or_false}
use Rattle.spec_history.specs.declared.entry.Entry.{Entry}
use Rattle.spec_history.specs.declared.entry.What.{What}
use Rattle.spec_history.specs.declared.entry.What.TheVariants.{Start, Load, Store, Hurt, Cancel, Restart, Publish, Commit, Fault}
use Rattle.spec_history.specs.declared.illegal.Illegal.TheVariants.{HurtMissing}
use Rattle.spec_history.specs.FlatState.{CoreState, FlatState}
use Rattle.spec_history.specs.Effect.{effect, effect_on, hurt_at}
use Rattle.spec_history.specs.Refusal.{any_below, runs, runs_and, can_be_hurt, is_at, is_there, is_next, next_is, is_that_store, is_the_end, is_that_fault, is_an_exit, is_homefree, is_value, has_read, other_has_read, misses_a_hurt, misses_a_cancel, other_runs, refusal_of}
use Rattle.spec_history.specs.Replay.{replay}
use Rattle.spec_history.specs.Laws.{IsKept}
use Rattle.spec_history.proofs.OneEntry.Legal.{IsLegalEntry, legal_entry, some_below, none_below}
use Rattle.spec_history.proofs.Searches.Tests.{all_fail, one_passes}
use Rattle.spec_history.proofs.Replay.Replays.{Whole, replayed, effect-on}
use Rattle.spec_history.specs.Conflict.{written, meeting, is_changed, read_bytes}
use Rattle.spec_history.proofs.OneEntry.Entries.{hurt_there}
use Rattle.conflicts.specs.Laws.{commits, missed_by}

-- the state in which the core of this epoch is hurt
abbrev pub with_hurt : FlatState → ℕ → FlatState
with_hurt s epoch = record s { cores = λ k. hurt_at epoch (s.cores k) }

-- a core that runs, is not hurt, and passes a test
running_by : (c : CoreState) (test : CoreState → Bool) → (not c.hurt && test c) ≡ true
    → (d : CoreState) × (Some c ≡ Some d) × (test d ≡ true) × (d.hurt ≡ false)
running_by c test is = let both = and_parts (not c.hurt) (test c) is in (c, refl, both.1, not-true c.hurt both.0)

pub running : (core : Option CoreState) (test : CoreState → Bool) → runs_and core test ≡ true → (c : CoreState) × (core ≡ Some c) × (test c ≡ true) × (c.hurt ≡ false)
running None test is = absurd cc
running (Some c) test is = running_by c test is

-- ---- a core of another epoch is as it was

hurt_other : (epoch : ℕ) (c : CoreState) → c.epoch ≢ epoch → hurt_at epoch (Some c) ≡ Some c
hurt_other epoch c other =
    ap (λ b. Some (record c { hurt = c.hurt || b })) (ne_eqb c.epoch epoch other) ∙ ap (λ b. Some (record c { hurt = b })) (or_false c.hurt)

pub core_other : (epoch : ℕ) (core : Option CoreState) (c : CoreState) → core ≡ Some c → c.epoch ≢ epoch → hurt_at epoch core ≡ core
core_other epoch core c is other = ap (hurt_at epoch) is ∙ (hurt_other epoch c other ∙ sym is)

-- ---- each test of the cause is as it was, but for the missing violation

there_same : (count : ℕ) (s : FlatState) (epoch by : ℕ) (what : What) → commits (s.cores by) what ≡ true → hurt_at epoch (s.cores by) ≡ s.cores by
    → is_there count (with_hurt s epoch) by what ≡ is_there count s by what
there_same count s epoch by (Store address width value) is same = ap runs same
there_same count s epoch by Publish is same = ap (λ o. runs_and o (λ c. not c.straight)) same
there_same count s epoch by Commit is same = ap runs same
there_same count s epoch by (Fault cause pc) is same = ap runs same
there_same count s epoch by (Start e) is same = absurd cc
there_same count s epoch by (Load address width value) is same = absurd cc
there_same count s epoch by (Hurt e) is same = absurd cc
there_same count s epoch by (Cancel e) is same = absurd cc
there_same count s epoch by Restart is same = absurd cc

next_same : (image : LoadedImage) (s : FlatState) (epoch by : ℕ) (what : What) → commits (s.cores by) what ≡ true → hurt_at epoch (s.cores by) ≡ s.cores by
    → is_next image (with_hurt s epoch) by what ≡ is_next image s by what
next_same image s epoch by (Store address width value) is same = ap (λ o. next_is image o (λ event. is_that_store address width value event.at)) same
next_same image s epoch by Publish is same = refl
next_same image s epoch by Commit is same = ap (λ o. next_is image o (λ event. is_the_end event.at)) same
next_same image s epoch by (Fault cause pc) is same = ap (λ o. next_is image o (λ event. is_that_fault cause pc event.at)) same
next_same image s epoch by (Start e) is same = absurd cc
next_same image s epoch by (Load address width value) is same = absurd cc
next_same image s epoch by (Hurt e) is same = absurd cc
next_same image s epoch by (Cancel e) is same = absurd cc
next_same image s epoch by Restart is same = absurd cc

homefree_same : (s : FlatState) (epoch by : ℕ) (what : What) → commits (s.cores by) what ≡ true → hurt_at epoch (s.cores by) ≡ s.cores by
    → is_homefree (with_hurt s epoch) by what ≡ is_homefree s by what
homefree_same s epoch by (Store address width value) is same = refl
homefree_same s epoch by Publish is same = ap (is_at s.homefree) same
homefree_same s epoch by Commit is same = ap (is_at s.homefree) same
homefree_same s epoch by (Fault cause pc) is same = ap (is_at s.homefree) same
homefree_same s epoch by (Start e) is same = absurd cc
homefree_same s epoch by (Load address width value) is same = absurd cc
homefree_same s epoch by (Hurt e) is same = absurd cc
homefree_same s epoch by (Cancel e) is same = absurd cc
homefree_same s epoch by Restart is same = absurd cc

value_is : (s : FlatState) (by : ℕ) (what : What) → commits (s.cores by) what ≡ true → is_value s by what ≡ true
value_is s by (Store address width value) is = refl
value_is s by Publish is = refl
value_is s by Commit is = refl
value_is s by (Fault cause pc) is = refl
value_is s by (Start e) is = absurd cc
value_is s by (Load address width value) is = absurd cc
value_is s by (Hurt e) is = absurd cc
value_is s by (Cancel e) is = absurd cc
value_is s by Restart is = absurd cc

any_same : (n : ℕ) (test test' : ℕ → Bool) → ((k : ℕ) → k < n → test k ≡ test' k) → any_below n test ≡ any_below n test'
unfolding any_below
any_same zero test test' same = refl
any_same (suc n) test test' same = rw (same n (omega arith), any_same n test test' (λ k below. same k (omega arith))) refl

others_same : (count : ℕ) (s : FlatState) (epoch by : ℕ) → other_runs count (with_hurt s epoch) by ≡ other_runs count s by
others_same count s epoch by =
    any_same count (λ k. not (k == by) && is_some (hurt_at epoch (s.cores k))) (λ k. not (k == by) && is_some (s.cores k))
    (λ k below. ap (λ b. not (k == by) && b) (hurt_there epoch (s.cores k)))

cancel_same : (image : LoadedImage) (count : ℕ) (s : FlatState) (epoch by : ℕ) (what : What) → commits (s.cores by) what ≡ true → hurt_at epoch (s.cores by) ≡ s.cores by
    → misses_a_cancel image count (with_hurt s epoch) by what ≡ misses_a_cancel image count s by what
cancel_same image count s epoch by (Store address width value) is same = refl
cancel_same image count s epoch by Publish is same = refl
cancel_same image count s epoch by Commit is same =
    ap (λ o. next_is image o (is_an_exit image) && other_runs count (with_hurt s epoch) by) same
    ∙ ap (λ b. next_is image (s.cores by) (is_an_exit image) && b) (others_same count s epoch by)
cancel_same image count s epoch by (Fault cause pc) is same = refl
cancel_same image count s epoch by (Start e) is same = absurd cc
cancel_same image count s epoch by (Load address width value) is same = absurd cc
cancel_same image count s epoch by (Hurt e) is same = absurd cc
cancel_same image count s epoch by (Cancel e) is same = absurd cc
cancel_same image count s epoch by Restart is same = absurd cc

-- ---- what the cause commits

committed_by : (b : Bool) (new old : ℕ → ℕ) (a : ℕ) → b ≡ true → (cond b new old) a ≡ new a
committed_by true new old a is = refl
committed_by false new old a is = absurd cc

effect_commits : (image : LoadedImage) (s : FlatState) (by : ℕ) (c : CoreState) (what : What) → commits (Some c) what ≡ true → (a : ℕ)
    → (effect_on image s by c what).committed a ≡ over (written (Some c) what) s.committed a
effect_commits image s by c (Store address width value) is a = committed_by c.straight (over (stored address width value) s.committed) s.committed a is
effect_commits image s by c Publish is a = refl
effect_commits image s by c Commit is a = refl
effect_commits image s by c (Fault cause pc) is a = refl
effect_commits image s by c (Start e) is a = absurd cc
effect_commits image s by c (Load address width value) is a = absurd cc
effect_commits image s by c (Hurt e) is a = absurd cc
effect_commits image s by c (Cancel e) is a = absurd cc
effect_commits image s by c Restart is a = absurd cc

-- memory after the cause
committed_is : (image : LoadedImage) (s : FlatState) (by : ℕ) (c : CoreState) (what : What) → s.cores by ≡ Some c → commits (s.cores by) what ≡ true → (a : ℕ)
    → (effect image s (record { by = by; what = what })).committed a ≡ over (written (s.cores by) what) s.committed a
committed_is image s by c what at is a =
    ap (λ (t : FlatState). t.committed a) (effect-on image s by what c at)
    ∙ (effect_commits image s by c what (sym (ap (λ o. commits o what) at) ∙ is) a ∙ ap (λ o. over (written o what) s.committed a) (sym at))

-- ---- who has read a byte

-- what is known of the violation, before it
pub record Before (count : ℕ) (s : FlatState) (by victim : ℕ) (v : CoreState) : Type 0 where
  pub at : s.cores victim ≡ Some v
  pub unhurt : v.hurt ≡ false
  pub below : victim < count
  pub other : victim ≢ by
  -- no other core runs the victim's epoch
  pub apart : (k : ℕ) (c : CoreState) → k ≢ victim → s.cores k ≡ Some c → c.epoch ≢ v.epoch

read_other : (count : ℕ) (s : FlatState) (by victim : ℕ) (v : CoreState) → Before count s by victim v → (k a : ℕ) → k ≢ victim → (core : Option CoreState) → s.cores k ≡ core
    → has_read (s.cores k) a ≡ has_read (hurt_at v.epoch (s.cores k)) a
read_other count s by victim v b k a other None is = ap (λ o. has_read o a) is ∙ sym (ap (λ o. has_read (hurt_at v.epoch o) a) is)
read_other count s by victim v b k a other (Some c) is = ap (λ o. has_read o a) (sym (core_other v.epoch (s.cores k) c is (b.apart k c other is)))

read_victim : (s : FlatState) (victim : ℕ) (v : CoreState) (a : ℕ) → s.cores victim ≡ Some v → v.hurt ≡ false → has_read (s.cores victim) a ≡ is_some (read_bytes (s.cores victim) a)
read_victim s victim v a at unhurt = rw (at, unhurt) refl

-- where no other core than the victim has read it, the victim has or nobody has
readers : (count : ℕ) (s : FlatState) (by victim : ℕ) (v : CoreState) → Before count s by victim v → (a : ℕ) → other_has_read count (with_hurt s v.epoch) by a ≡ false
    → (r : Bool) → is_some (read_bytes (s.cores victim) a) ≡ r → other_has_read count s by a ≡ r
readers count s by victim v b a unread true is =
    one_passes count (λ k. not (k == by) && has_read (s.cores k) a) victim b.below
    (ap (λ t. not t && has_read (s.cores victim) a) (ne_eqb victim by b.other) ∙ (read_victim s victim v a b.at b.unhurt ∙ is))
readers count s by victim v b a unread false is =
    all_fail count (λ k. not (k == by) && has_read (s.cores k) a) (λ k below. elim (cases_eq k victim) [
      | inl e ↦
          ap (λ j. not (k == by) && has_read (s.cores j) a) e
          ∙ and_right (not (k == by)) _ (read_victim s victim v a b.at b.unhurt ∙ is)
      | inr other ↦
          ap (λ t. not (k == by) && t) (read_other count s by victim v b k a other (s.cores k) refl)
          ∙ none_below count (λ j. not (j == by) && has_read (hurt_at v.epoch (s.cores j)) a) unread k below
    ])

-- ---- the bytes that change

seen_by : (count : ℕ) (s : FlatState) (by victim : ℕ) (v : CoreState) → Before count s by victim v → (a : ℕ) (changes : Bool)
    → (changes && other_has_read count (with_hurt s v.epoch) by a) ≡ false
    → (changes && other_has_read count s by a) ≡ (changes && is_some (read_bytes (s.cores victim) a))
seen_by count s by victim v b a true spares = readers count s by victim v b a spares (is_some (read_bytes (s.cores victim) a)) refl
seen_by count s by victim v b a false spares = refl

-- where the cause spares all others after the violation, it misses one without it exactly where it changes a byte that the victim has read
misses_is : (image : LoadedImage) (count : ℕ) (s : FlatState) (by victim : ℕ) (v c : CoreState) (what : What) → Before count s by victim v → s.cores by ≡ Some c
    → hurt_at v.epoch (s.cores by) ≡ s.cores by → commits (s.cores by) what ≡ true
    → misses_a_hurt image count (with_hurt s v.epoch) (record { by = by; what = what }) ≡ false
    → misses_a_hurt image count s (record { by = by; what = what }) ≡ any_below image.size (is_changed (meeting s by what victim))
misses_is image count s by victim v c what b at same is spares =
    let t = with_hurt s v.epoch in
    let new = over (written (s.cores by) what) s.committed in
    let then_new = λ (a : ℕ). committed_is image t by c what (same ∙ at) (ap (λ o. commits o what) same ∙ is) a ∙ ap (λ o. over (written o what) s.committed a) same in
    any_same image.size _ (is_changed (meeting s by what victim)) (λ a below.
    ap (λ x. not (x == s.committed a) && other_has_read count s by a) (committed_is image s by c what at is a)
    ∙ seen_by count s by victim v b a (not (new a == s.committed a))
    (ap (λ x. not (x == s.committed a) && other_has_read count t by a) (sym (then_new a)) ∙ none_below image.size _ spares a below))

-- ---- the refusal

only_missing : (image : LoadedImage) (count : ℕ) (s : FlatState) (entry : Entry) → s.end ≡ None → is_there count s entry.by entry.what ≡ true → is_next image s entry.by entry.what ≡ true
    → is_homefree s entry.by entry.what ≡ true → is_value s entry.by entry.what ≡ true → misses_a_cancel image count s entry.by entry.what ≡ false
    → refusal_of image count s entry ≡ cond (misses_a_hurt image count s entry) (Some HurtMissing) None
unfolding refusal_of
only_missing image count s entry going there next homefree value cancelled =
    rw (going, there, next, homefree, value, cancelled) refl

-- what the violation tells
pub before_of : (image : LoadedImage) (count : ℕ) (s : FlatState) (by victim : ℕ) (v : CoreState) → IsKept image count s → s.cores victim ≡ Some v
    → IsLegalEntry image count s (record { by = by; what = Hurt v.epoch })
    → (c : CoreState) × (s.cores by ≡ Some c) × (c.epoch ≢ v.epoch) × Before count s by victim v
before_of image count s by victim v kept at legal =
    let both = and_parts (runs_and (s.cores by) (λ c. nat_lt c.epoch v.epoch)) (any_below count (λ k. can_be_hurt v.epoch (s.cores k))) legal.there in
    let c = running (s.cores by) (λ c. nat_lt c.epoch v.epoch) both.0 in
    let earlier : c.0.epoch < v.epoch = ltb-true c.0.epoch v.epoch c.2 in
    let hurt = some_below count (λ k. can_be_hurt v.epoch (s.cores k)) both.1 in
    let d = running (s.cores hurt.0) (λ x. (x.epoch == v.epoch) && not x.straight) hurt.2 in
    let named = eqb-true d.0.epoch v.epoch (and_parts (d.0.epoch == v.epoch) (not d.0.straight) d.2).0 in
    let same : hurt.0 ≡ victim = kept.apart hurt.0 victim d.0 v d.1 at named in
    let is : d.0 ≡ v = one_value (s.cores victim) d.0 v (sym (ap s.cores same) ∙ d.1) at in (
      c.0,
      c.1,
      (λ e. absurd (omega (arith, earlier, e))),
      record {
        at = at;
        unhurt = sym (ap (λ (x : CoreState). x.hurt) is) ∙ d.3;
        below = (kept.core victim v at).there;
        other = λ e. let x : v ≡ c.0 = one_value (s.cores by) v c.0 (sym (ap s.cores e) ∙ at) c.1 in omega (arith, earlier, ap (λ (y : CoreState). y.epoch) x);
        apart = λ k x other at_k clash. other (kept.apart k victim x v at_k at clash);
      },
    )

-- from a state that a history leaves
pub missed_from : (image : LoadedImage) (count : ℕ) (s : FlatState) (by victim : ℕ) (v : CoreState) (cause : What) → Whole image count s → s.cores victim ≡ Some v
    → refusal_of image count s (record { by = by; what = Hurt v.epoch }) ≡ None
    → refusal_of image count (effect image s (record { by = by; what = Hurt v.epoch })) (record { by = by; what = cause }) ≡ None
    → commits (s.cores by) cause ≡ true
    → refusal_of image count s (record { by = by; what = cause }) ≡ missed_by image s by cause victim
missed_from image count s by victim v cause whole at hurts goes commits_it =
    let hurt = legal_entry image count s (record { by = by; what = Hurt v.epoch }) hurts in
    let kept = (whole.going hurt.going).kept in
    let known = before_of image count s by victim v kept at hurt in
    let same = core_other v.epoch (s.cores by) known.0 known.1 known.2 in
    let after = effect-on image s by (Hurt v.epoch) known.0 known.1 in
    let then = legal_entry image count (with_hurt s v.epoch) (record { by = by; what = cause })
    (ap (λ t. refusal_of image count t (record { by = by; what = cause })) (sym after) ∙ goes) in
    only_missing image count s (record { by = by; what = cause }) hurt.going
    (sym (there_same count s v.epoch by cause commits_it same) ∙ then.there)
    (sym (next_same image s v.epoch by cause commits_it same) ∙ then.next)
    (sym (homefree_same s v.epoch by cause commits_it same) ∙ then.homefree)
    (value_is s by cause commits_it)
    (sym (cancel_same image count s v.epoch by cause commits_it same) ∙ then.cancelled)
    ∙ ap (λ b. cond b (Some HurtMissing) None) (misses_is image count s by victim v known.0 cause known.3 known.1 same commits_it then.spares)

pub missed : (image : LoadedImage) (count : ℕ) (entries : List Entry) (s : FlatState) (by victim : ℕ) (v : CoreState) (cause : What) → IsImage image
    → replay image count entries ≡ Some s → s.cores victim ≡ Some v
    → refusal_of image count s (record { by = by; what = Hurt v.epoch }) ≡ None
    → refusal_of image count (effect image s (record { by = by; what = Hurt v.epoch })) (record { by = by; what = cause }) ≡ None
    → commits (s.cores by) cause ≡ true
    → refusal_of image count s (record { by = by; what = cause }) ≡ missed_by image s by cause victim
missed image count entries s by victim v cause is replays at hurts goes commits_it =
    missed_from image count s by victim v cause (replayed image count entries s is replays) at hurts goes commits_it
