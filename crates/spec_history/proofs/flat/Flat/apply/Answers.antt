use Rattle.std.specs.Result.{is_err}
use Rattle.std.proofs.Common.{ℕ, ◌≡◌, true, Result, Ok, Err, OnErr, None, refl, sym, ap, ◌∙◌, inl, inr, arith}
use Rattle.rv32_image.specs.Image.{LoadedImage}
use Rattle.spec_history.specs.declared.entry.Entry.{Entry}
use Rattle.spec_history.specs.Effect.{effect}
use Rattle.spec_history.specs.FlatState.{FlatState}
use Rattle.spec_history.specs.Refusal.{refusal_of}
use Rattle.spec_history.specs.Machine.{state_of, count_of_cores}
use Rattle.spec_history.specs.View.{IsReached}
use Rattle.spec_history.proofs.Replay.Reaching.{reached_more, homefree_within}
use Rattle.spec_history.proofs.flat.Flat.apply.Goals as goal

pub returns-in-Some-clause-answer : goal.returns-in-Some-clause-answer
returns-in-Some-clause-answer c = rw (← c.self.view_is) (record { answer = inl (sym c.refusal.ensures.refusal ∙ c.in-Some.is); unchanged = refl })

pub prepare-requires : goal.prepare-requires
prepare-requires c = record { fit = c.self.invariant.fit; within = c.refusal.ensures.within c.in_default.is }

reached_same : (image image' : LoadedImage) (cores cores' : ℕ) (s s' : FlatState) → image' ≡ image → cores' ≡ cores → s' ≡ s → IsReached image cores s → IsReached image' cores' s'
reached_same image image' cores cores' s s' i n t reached = rw (i, n, t) reached

pub invariant_of-self : goal.invariant_of-self
invariant_of-self c =
    let same = c.prepare.ensures.same in record {
      reached = reached_same _ _ _ _ _ _ same.image same.count same.state c.self.invariant.reached;
      fit = same.fit;
    }

failed : {A B : Type 0} (r : Result A B) (P : Type 0) → is_err r ≡ true → OnErr r P → P
failed (Ok x) P is on = absurd cc
failed (Err e) P is on = on

pub returns-then-is_err-clause-answer : goal.returns-then-is_err-clause-answer
returns-then-is_err-clause-answer c =
    rw (← c.self.view_is) (record {
      answer = inr (sym c.refusal.ensures.refusal ∙ c.in_default.is, refl, failed c.prepare.result _ (sym c.is_err.ensures.value ∙ c.if-is_err.true) c.prepare.ensures.accesses);
      unchanged = c.prepare.ensures.same.state;
    })

pub perform-requires-clause-fit : goal.perform-requires-clause-fit
perform-requires-clause-fit c = c.prepare.ensures.same.fit

pub perform-requires-clause-homefree : goal.perform-requires-clause-homefree
perform-requires-clause-homefree c =
    let m = c.self.inside.machine in
    let legal = sym c.refusal.ensures.refusal ∙ c.in_default.is in
    let within = homefree_within m.image (count_of_cores m) (state_of m) c.args.entry c.self.invariant.fit.image c.self.invariant.reached legal in
    let homefree = ap (λ (s : FlatState). s.homefree) c.prepare.ensures.same.state in omega (arith, within, homefree)

pub perform-requires-clause-number : goal.perform-requires-clause-number
perform-requires-clause-number c = c.refusal.ensures.number c.in_default.is

legal_same : (image image' : LoadedImage) (cores cores' : ℕ) (s s' : FlatState) (entry : Entry) → image' ≡ image → cores' ≡ cores → s' ≡ s
    → refusal_of image cores s entry ≡ None → refusal_of image' cores' s' entry ≡ None
legal_same image image' cores cores' s s' entry i n t legal = rw (i, n, t) legal

pub perform-requires-clause-legal : goal.perform-requires-clause-legal
perform-requires-clause-legal c =
    let same = c.prepare.ensures.same in
    legal_same _ _ _ _ _ _ c.args.entry same.image same.count same.state (sym c.refusal.ensures.refusal ∙ c.in_default.is)

performed : (image image' image'' : LoadedImage) (old between new : FlatState) (cores cores' cores'' : ℕ) (entry : Entry) → IsReached image cores old → refusal_of image cores old entry ≡ None
    → image' ≡ image → image'' ≡ image' → between ≡ old → new ≡ effect image' between entry → cores' ≡ cores → cores'' ≡ cores' → IsReached image'' cores'' new
performed image image' image'' old between new cores cores' cores'' entry reached legal i i' same effects n n' =
    rw (effects, same, i', i, n', n) (reached_more image cores old entry reached legal)

pub invariant_of-self-2 : goal.invariant_of-self-2
invariant_of-self-2 c =
    let same = c.prepare.ensures.same in
    let done = c.perform.ensures in record {
      reached = performed _ _ _ _ _ _ _ _ _ c.args.entry c.self.invariant.reached (sym c.refusal.ensures.refusal ∙ c.in_default.is) same.image done.image same.state done.state same.count done.count;
      fit = done.fit;
    }

pub returns-clause-same : goal.returns-clause-same
returns-clause-same c =
    let same = c.prepare.ensures.same in
    let done = c.perform.ensures in
    rw (← c.self.view_is) (record { image = done.image ∙ same.image; cores = done.count ∙ same.count })

effect_same : (image image' : LoadedImage) (old between new : FlatState) (entry : Entry) → image' ≡ image → between ≡ old → new ≡ effect image' between entry → new ≡ effect image old entry
effect_same image image' old between new entry i same is = is ∙ rw (i, same) refl

pub returns-clause-answer : goal.returns-clause-answer
returns-clause-answer c =
    let same = c.prepare.ensures.same in
    rw (← c.self.view_is) (record {
      legal = sym c.refusal.ensures.refusal ∙ c.in_default.is;
      effect_is = effect_same _ _ _ _ _ c.args.entry same.image same.state c.perform.ensures.state;
    })
