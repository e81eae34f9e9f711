-- Where a turn is taken: whom it could violate, and what it leaves of the history and of the bus.
use Rattle.std.proofs.Common.{◌≡◌, ◌≢◌, ℕ, Bool, true, false, List, [], ◌++◌, Option, Some, None, refl, sym, ap, subst, ◌∙◌, inl, inr, append-nil}
use Rattle.std.proofs.Math.Path.{fun_ext}
use Rattle.std.proofs.lemmas.Bool.{both_ways, cases_Bool}
use Rattle.rv32_image.specs.Image.{IsImage}
use Rattle.rv32_image.proofs.SmallFacts.{one_value}
use Rattle.rv32_exec.specs.declared.sequential.End.{End}
use Rattle.spec_history.specs.declared.entry.Entry.{Entry}
use Rattle.spec_history.specs.declared.entry.What.{What}
use Rattle.spec_history.specs.declared.entry.What.TheVariants.{Hurt}
use Rattle.spec_history.specs.FlatState.{CoreState, FlatState}
use Rattle.spec_history.specs.Effect.{effect_on}
use Rattle.spec_history.specs.Replay.{replay}
use Rattle.spec_history.specs.Conflict.{is_hurt}
use Rattle.spec_history.proofs.Replay.Replays.{effect-on}
use Rattle.spec_states.specs.Mask.{has}
use Rattle.spec_states.proofs.MaskLaws.{has-nonzero}
use Rattle.spec_states.proofs.RowLaws.{nonzero}
use Rattle.violations.specs.declared.attempt.Attempt.{Attempt}
use Rattle.violations.specs.View.{StoreView, epoch_of}
use Rattle.violations.specs.Rule.{Guards, HurtsLater, IsSameView, Publishes}
use Rattle.bus_states.specs.declared.notice.Notice.TheVariants.{Publish}
use Rattle.bus_states.specs.Bus.{Bus, line_of, offset_of}
use Rattle.bus_states.specs.Coherent.{speculates}
use Rattle.bus_states.specs.Views.{view_of}
use Rattle.rv32_image.specs.Places.{place}
use Rattle.spec_history.proofs.Replay.Joining.{one_more}
use Rattle.spec_bus.specs.Cached.{CachedView, bus, store_view, shape_over}
use Rattle.homefree.specs.declared.answer.Answer.{Answer}
use Rattle.homefree.specs.declared.answer.Answer.TheVariants.{Over}
use Rattle.homefree.specs.Ending.{NoneStartsAfterCancel}
use Rattle.homefree.specs.Hurts.{entry, epoch_on as epoch_at, hurts}
use Rattle.homefree.specs.Turned.{Outcome, Turn, does, publishes_unless}
use Rattle.homefree.proofs.State.Arms.{none_among}
use Rattle.dependences.specs.Conflict.{LineConflict, path_memory}
use Rattle.dependences.specs.Laws.{NoneIsHurt}
use Rattle.dependences.proofs.Showing.{line_of as lines_conflict}
use Rattle.dependences.specs.Shared.{SharedOverflow}
use Rattle.never_or_shown.proofs.Accesses.{MayTell, attempts, limits, epoch_on}
use Rattle.never_or_shown.proofs.Lines.{Reads, Shares, Writes}
use Rattle.never_or_shown.proofs.Epochs.{IsSeen, attempt_by, may_tell}
use Rattle.never_or_shown.proofs.Calls.{HasPlaces}
use Rattle.never_or_shown.proofs.Calm.{IsCalm, calm_of, starts_before, unhurt-append, unhurt-one}

-- ---- whom a call violates

-- nobody, where each other core has its attempt still
pub none_hurt : (v w : StoreView) (core : ℕ) (hurt : ℕ → Bool) → HurtsLater v w core hurt → ((k : ℕ) → k ≢ core → w.attempt k ≡ v.attempt k) → (k : ℕ) → hurt k ≡ false
none_hurt v w core hurt hurts_later same k = elim (cases_Bool (hurt k)) [
  | inl is ↦
      (let away : k ≢ core = λ e. both_ways (hurt core) hurts_later.not_itself (ap hurt (sym e) ∙ is) in
      let hit = hurts_later.hurts k is in
      absurd (no_attempt (v.attempt k) (w.attempt k) hit.attempt hit.had hit.none (same k away)))
  | inr out ↦ out
]
  where
    no_attempt : (x y : Option Attempt) (a : Attempt) → x ≡ Some a → y ≡ None → y ≡ x → ⊥
    no_attempt x y a had none e = cc

pub hurts_none : (count : ℕ) (s : FlatState) (by : ℕ) (hurt : ℕ → Bool) → ((k : ℕ) → hurt k ≡ false) → hurts count s by hurt ≡ []
hurts_none count s by hurt none =
    ap (λ (f : ℕ → Bool). hurts count s by f) (fun_ext none) ∙ none_among by (λ k. Hurt (epoch_at s.cores k)) count

-- ---- what a turn leaves

-- a history without a violation; and, unless the loop is over, a bus that has what the state has
pub record Keeps (t : Turn) (h : List Entry) (w : CachedView) (out : Outcome) : Type 0 where
  pub unhurt : NoneIsHurt (h ++ out.entries)
  pub after : ((end : End) → out.answer ≢ Over end) → (s : FlatState) → replay t.image t.cores (h ++ out.entries) ≡ Some s
      → IsSeen t.image t.cores s (bus w) × HasPlaces t.image w

pub keeps_so : (t : Turn) (h : List Entry) (w : CachedView) (out : Outcome) (entries : List Entry) (answer : Answer) → out ≡ does entries answer → Keeps t h w (does entries answer) → Keeps t h w out
keeps_so t h w out entries answer is keeps = subst (λ (o : Outcome). Keeps t h w o) (sym is) keeps

module _ (t : Turn) (is : IsImage t.image) (free : LineConflict t.image t.cores → ⊥) (room_left : SharedOverflow t.image t.cores → ⊥) (whole : List Entry) (starts : NoneStartsAfterCancel whole) where
  pub calm_at : (h rest : List Entry) (s : FlatState) → whole ≡ h ++ rest → NoneIsHurt h → replay t.image t.cores h ≡ Some s → s.end ≡ None → IsCalm t.image t.cores s
  calm_at h rest s is_whole unhurt replays going =
      calm_of t.image t.cores is (λ conflict. free (lines_conflict t.image t.cores (path_memory t.image t.cores) conflict)) h (starts_before whole h rest is_whole starts) unhurt s replays going

  module _ (h : List Entry) (replays : replay t.image t.cores h ≡ Some t.state) (unhurt : NoneIsHurt h) where
    -- nothing is entered
    pub keeps_same : (w : CachedView) (answer : Answer) (b : Bus) → IsSeen t.image t.cores t.state b → bus w ≡ b → HasPlaces t.image w → Keeps t h w (does [] answer)
    keeps_same w answer b seen same places = record {
      unhurt = subst (λ (xs : List Entry). NoneIsHurt xs) (sym (append-nil h)) unhurt;
      after = λ going s leads. (
        subst (λ (x : FlatState). IsSeen t.image t.cores x (bus w))
            (one_value (replay t.image t.cores h) t.state s replays (ap (replay t.image t.cores) (sym (append-nil h)) ∙ leads))
            (subst (λ (x : Bus). IsSeen t.image t.cores t.state x) (sym same) seen),
        places,
      );
    }

    -- one entry
    pub keeps_one : (w : CachedView) (what : What) (answer : Answer) (c : CoreState) → is_hurt what ≡ false → t.state.cores t.core ≡ Some c
        → IsSeen t.image t.cores (effect_on t.image t.state t.core c what) (bus w) → HasPlaces t.image w → Keeps t h w (does (entry t.core what) answer)
    keeps_one w what answer c calm at seen places = record {
      unhurt = unhurt-append h (entry t.core what) unhurt (unhurt-one (record { by = t.core; what = what }) calm);
      after = λ going s leads. (
        subst (λ (x : FlatState). IsSeen t.image t.cores x (bus w))
            (sym (effect-on t.image t.state t.core what c at) ∙ one_more t.image t.cores h t.state s (record { by = t.core; what = what }) replays leads) seen,
        places,
      );
    }

  -- ---- a publish

  module _ (r : CachedView) (calm : IsCalm t.image t.cores t.state) (seen : IsSeen t.image t.cores t.state (bus r)) (v : StoreView) (same : IsSameView (store_view r) v)
      (c : CoreState) (at : t.state.cores t.core ≡ Some c) (homefree : c.epoch ≡ t.state.homefree) where
    -- it violates nobody
    pub publish_none : (x : StoreView) (hurt : ℕ → Bool) → Publishes v x t.core hurt → (k : ℕ) → hurt k ≡ false
    publish_none x hurt publishes k = elim (cases_Bool (hurt k)) [
      | inl hit ↦ absurd (no_hit (λ e. both_ways (hurt t.core) publishes.others.not_itself (ap hurt (sym e) ∙ hit)) (publishes.meets k hit))
      | inr out ↦ out
    ]
      where
        place_of : ℕ → ℕ
        place_of a = place (shape_over r.size r.apart (view_of (bus r)).shape).machine r.size a

        line : ℕ → ℕ
        line a = line_of (bus r).line_length (place_of a)

        owned : (a : ℕ) → v.own t.core a ≡ true → has (((bus r).core t.core).copy (line a)).marks.bytes (offset_of (bus r).line_length (place_of a)) ≡ true
        owned a is_own = sym ((same.cores t.core).own a) ∙ is_own

        guarded : (a : ℕ) → v.guarded k a ≡ true → (((bus r).core k).copy (line a)).marks.loaded ≡ true
        guarded a is_guarded = sym ((same.cores k).guarded a) ∙ is_guarded

        epoch_is : epoch_on (bus r) t.core ≡ c.epoch
        epoch_is = ap epoch_of (seen.attempt t.core ∙ ap attempt_by at)

        writes : (a : ℕ) → v.own t.core a ≡ true → Writes t.image t.cores c.epoch (line a)
        writes a is_own =
            subst (λ (e : ℕ). Writes t.image t.cores e (line a)) epoch_is
            (((seen.tidy t.core).fit (line a)).written
            (nonzero (((bus r).core t.core).copy (line a)).marks.bytes (has-nonzero (((bus r).core t.core).copy (line a)).marks.bytes (offset_of (bus r).line_length (place_of a)) (owned a is_own))))

        runs : (a : ℕ) → v.guarded k a ≡ true → speculates ((bus r).core k).attempt ≡ true
        runs a is_guarded = elim (cases_Bool (speculates ((bus r).core k).attempt)) [
          | inl on ↦ on
          | inr off ↦ absurd (both_ways (((bus r).core k).copy (line a)).marks.loaded (((seen.tidy k).fit (line a)).right.not_loaded ((seen.tidy k).unmarked off (line a))) (guarded a is_guarded))
        ]

        tells : (a : ℕ) → Writes t.image t.cores c.epoch (line a) → MayTell (Reads t.image t.cores) (Writes t.image t.cores) (Shares t.image t.cores) (attempts (bus r)) (limits (bus r)) t.core Publish (line a) t.image.machine.buffer_lines
        tells a w = may_tell t.image t.cores is.machine_allowed t.state calm.going calm.window calm.orderly (bus r) seen free room_left t.core c at (line a) w.number w.is Publish
            (record { at = w.holds_of.at; in_line = w.holds_of.in_line; touches = record { step = w.holds_of.stores.step; there = inr w.holds_of.stores.there } })
            (λ other. w) (λ other. homefree)

        no_hit : k ≢ t.core → Guards v k (v.own t.core) → ⊥
        no_hit away guards =
            ((tells guards.at (writes guards.at guards.is_one)).hear k away (runs guards.at guards.guarded)).spares (inl refl) (λ e. cc)
            (((seen.tidy k).fit (line guards.at)).read (guarded guards.at guards.guarded))

    -- nor a core that is straight already
    pub publishing_none : (straight : Bool) (x : StoreView) (hurt : ℕ → Bool) → publishes_unless straight v x t.core hurt → (k : ℕ) → hurt k ≡ false
    publishing_none true x hurt none = none.1
    publishing_none false x hurt publishes = publish_none x hurt publishes

    -- and each other core has its attempt still
    pub publishing_attempt : (straight : Bool) (x : StoreView) (hurt : ℕ → Bool) → publishes_unless straight v x t.core hurt → (k : ℕ) → k ≢ t.core → x.attempt k ≡ v.attempt k
    publishing_attempt true x hurt none k away = ap (λ (y : StoreView). y.attempt k) none.0
    publishing_attempt false x hurt publishes k away = (publishes.others.spares k away (publish_none x hurt publishes k)).attempt
