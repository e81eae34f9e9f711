-- The entries of a turn, and of a history with them: each violation has its cause.
use Rattle.std.proofs.Common.{◌≡◌, ℕ, Bool, true, false, List, [], ◌∷◌, ◌++◌, length, if◌then◌else◌, refl, sym, ap, ◌∙◌, inl, inr, arith}
use Rattle.std.proofs.lemmas.Bool.{cases_lt, eq-eqb}
use Rattle.std.proofs.lemmas.List.{append_assoc}
use Rattle.std.proofs.lemmas.Option.{slice_get_within}
use Rattle.spec_history.specs.declared.entry.Entry.{Entry}
use Rattle.spec_history.specs.declared.entry.What.{What}
use Rattle.spec_history.specs.declared.entry.What.TheVariants.{Load, Store, Hurt, Cancel, Publish, Commit, Fault}
use Rattle.violations.specs.View.{StoreView}
use Rattle.homefree.specs.declared.answer.Answer.{Answer}
use Rattle.homefree.specs.Hurts.{cancels, epoch_on, is_other}
use Rattle.homefree.specs.Turned as turn
use Rattle.homefree.specs.Turned.{Acts, Follows, Outcome, Turn, entry_of, hurts_of}
use Rattle.spec_history.specs.Conflict.{can_cause, is_notice}
use Rattle.spec_history.proofs.Replay.Staying.{stays_some, there}
use Rattle.homefree.specs.Caused.{HasCauses}
use Rattle.homefree.proofs.Violations.Causing.{IsAct, all_answered, found_past, has_cause, notices_then, told_both, told_each}

-- an act of the core that can violate
act_of : (t : Turn) (what : What) → is_notice what ≡ false → can_cause what ≡ true → IsAct t.core (record { by = t.core; what = what })
act_of t what act can = record { by = eq-eqb t.core t.core refl; acts = act; can = can }

-- violations, and an act
batch : (t : Turn) (hurt : ℕ → Bool) (what : What) (rest : List Entry) → is_notice what ≡ false → can_cause what ≡ true → all_answered rest ≡ true
    → all_answered (hurts_of t hurt ++ (record { by = t.core; what = what } ∷ rest)) ≡ true
batch t hurt what rest act can others =
    notices_then t.core (hurts_of t hurt) (record { by = t.core; what = what }) rest
    (told_each t.core hurt (λ k. Hurt (epoch_on t.state.cores k)) t.cores (λ k. refl)) (act_of t what act can) others

one : (t : Turn) (hurt : ℕ → Bool) (what : What) → is_notice what ≡ false → can_cause what ≡ true → all_answered (hurts_of t hurt ++ entry_of t what) ≡ true
one t hurt what act can = batch t hurt what [] act can refl

-- so, after what a core publishes
after_publish : (t : Turn) (straight : Bool) (first : ℕ → Bool) (rest : List Entry) → all_answered rest ≡ true
    → all_answered ((if straight then [] else hurts_of t first ++ entry_of t Publish) ++ rest) ≡ true
after_publish t true first rest is = is
after_publish t false first rest is =
    ap all_answered (append_assoc (hurts_of t first) (entry_of t Publish) rest) ∙ batch t first Publish rest refl refl is

-- violations, cancellations and a commit
exit : (t : Turn) (hurt : ℕ → Bool) → all_answered (hurts_of t hurt ++ (cancels t.cores t.state t.core ++ entry_of t Commit)) ≡ true
exit t hurt =
    ap all_answered (sym (append_assoc (hurts_of t hurt) (cancels t.cores t.state t.core) (entry_of t Commit)))
    ∙ notices_then t.core (hurts_of t hurt ++ cancels t.cores t.state t.core) (record { by = t.core; what = Commit }) []
    (told_both t.core (hurts_of t hurt) (cancels t.cores t.state t.core)
    (told_each t.core hurt (λ k. Hurt (epoch_on t.state.cores k)) t.cores (λ k. refl))
    (told_each t.core (is_other t.state.cores t.core) (λ k. Cancel (epoch_on t.state.cores k)) t.cores (λ k. refl)))
    (act_of t Commit refl refl) refl

outcome : (out : Outcome) (entries : List Entry) (answer : Answer) → out ≡ record { entries = entries; answer = answer } → all_answered entries ≡ true → all_answered out.entries ≡ true
outcome out entries answer is all = ap (λ (o : Outcome). all_answered o.entries) is ∙ all

follows : (t : Turn) (v w : StoreView) (out : Outcome) → Follows t v w out → all_answered out.entries ≡ true
follows t v w out (turn.loads x) = outcome out _ _ x.out_is (one t x.hurt (Load x.address x.width x.value) refl refl)
follows t v w out (turn.stores x) = outcome out _ _ x.out_is (one t x.hurt (Store x.address x.width x.value) refl refl)
follows t v w out (turn.waits x) = outcome out _ _ x.out_is refl
follows t v w out (turn.loads_straight x) =
    outcome out _ _ x.out_is (after_publish t x.core.straight x.first (hurts_of t x.hurt ++ entry_of t (Load x.address x.width x.value)) (one t x.hurt (Load x.address x.width x.value) refl refl))
follows t v w out (turn.stores_straight x) =
    outcome out _ _ x.out_is (after_publish t x.core.straight x.first (hurts_of t x.hurt ++ entry_of t (Store x.address x.width x.value)) (one t x.hurt (Store x.address x.width x.value) refl refl))
follows t v w out (turn.is_early x) = outcome out _ _ x.out_is refl
follows t v w out (turn.commits x) = outcome out _ _ x.out_is (one t x.hurt Commit refl refl)
follows t v w out (turn.exits_loop x) = outcome out _ _ x.out_is (exit t x.hurt)
follows t v w out (turn.faults x) = outcome out _ _ x.out_is (one t x.hurt (Fault x.cause x.pc) refl refl)

pub acts : (t : Turn) (v w : StoreView) (out : Outcome) → Acts t v w out → all_answered out.entries ≡ true
acts t v w out (turn.starts x) = outcome out _ _ x.out_is refl
acts t v w out (turn.finds_none x) = outcome out _ _ x.out_is refl
acts t v w out (turn.restarts x) = outcome out _ _ x.out_is refl
acts t v w out (turn.is_told x) = outcome out _ _ x.out_is refl
acts t v w out (turn.follows x) = follows t v w out x

-- a history with these entries more
pub grown : (entries more : List Entry) → HasCauses entries → all_answered more ≡ true → HasCauses (entries ++ more)
grown entries more caused all place e at hurt = elim (cases_lt place (length entries)) [
  | inl before ↦ stays_some entries more place e.by (caused place e (sym (there entries more place before) ∙ at) hurt)
  | inr past ↦ has_cause (entries ++ more) place e.by (found_past entries more place e all past at hurt)
]

pub none_yet : HasCauses []
none_yet place e at hurt = absurd (omega (arith, slice_get_within [] place e at))
