-- The violations of a list of entries, from a state on: what each was about is known. From there to their places in a history.
use Rattle.std.proofs.Common.{◌≡◌, ℕ, zero, suc, ◌+◌, ◌-◌, ◌<◌, ◌≤◌, ◌==◌, ◌&&◌, not, Bool, true, false, nat_lt, List, [], ◌∷◌, ◌++◌, length, slice_get, take, Option, Some, None, option_map, option_and_then, if◌then◌else◌, refl, sym, ap, subst, ◌∙◌, inl, inr, arith, append-nil, lt-ltb}
use Rattle.std.proofs.lemmas.Bool.{cases_eq, cases_lt, le-ltb, and_right}
use Rattle.std.proofs.lemmas.List.{append_assoc, length-append}
use Rattle.std.proofs.lemmas.Option.{slice_get_within}
use Rattle.rv32_image.specs.Image.{LoadedImage}
use Rattle.rv32_image.proofs.SmallFacts.{one_value}
use Rattle.spec_history.specs.declared.entry.Entry.{Entry}
use Rattle.spec_history.specs.declared.entry.What.{What}
use Rattle.spec_history.specs.declared.entry.What.TheVariants.{Hurt}
use Rattle.spec_history.specs.Effect.{effect}
use Rattle.spec_history.specs.FlatState.{CoreState, FlatState}
use Rattle.spec_history.specs.Refusal.{refusal_of}
use Rattle.spec_history.specs.Replay.{replay, replay_from}
use Rattle.spec_history.proofs.Replay.Reaching.{one_more_entry}
use Rattle.spec_history.specs.Conflict.{AreKnown, entry_is, passes, is_notice, can_cause, cause_of, what_at}
use Rattle.spec_history.proofs.Searches.Tests.{first_at}
use Rattle.spec_history.proofs.Replay.Staying.{stays, there}
use Rattle.spec_history.proofs.Replay.Replays.{legal_first}
use Rattle.homefree.specs.Caused.{IsKnown, HasKinds, MeetsInBytes, MeetInBytes}
use Rattle.homefree.specs.Missed.{IsMissed, IsFurtherStore, PassesOverNone}

-- ---- what comes after a violation

-- the first entry that is no notice, where it is the core's and can violate
abbrev pub next_what : ℕ → List Entry → Option What
next_what core [] = None
next_what core (e ∷ es) =
    if is_notice e.what then next_what core es
    else if (e.by == core) && can_cause e.what then Some e.what else None

-- it stands at this place, and before it are notices alone
pub record Next (core : ℕ) (what : What) (es : List Entry) : Type 0 where
  pub at : ℕ
  pub entry : Entry
  pub there : slice_get es at ≡ Some entry
  pub is : entry.what ≡ what
  pub does : ((entry.by == core) && can_cause entry.what) ≡ true
  pub acts : is_notice entry.what ≡ false
  pub notices : (k : ℕ) → k < at → entry_is es k (λ e. not (is_notice e.what)) ≡ false

some_by : (b : Bool) (what other : What) → (if b then Some what else None) ≡ Some other → (b ≡ true) × (what ≡ other)
some_by true what other is = (refl, cc)
some_by false what other is = absurd cc

later_notices : (core : ℕ) (what : What) (e : Entry) (es : List Entry) (n : Next core what es) → is_notice e.what ≡ true
    → (k : ℕ) → k < suc n.at → entry_is (e ∷ es) k (λ x. not (is_notice x.what)) ≡ false
later_notices core what e es n notice zero below = ap not notice
later_notices core what e es n notice (suc k) below = n.notices k (omega (arith, below))

next_by : (core : ℕ) (what : What) (e : Entry) (es : List Entry) (b : Bool) → is_notice e.what ≡ b
    → (if b then next_what core es else if (e.by == core) && can_cause e.what then Some e.what else None) ≡ Some what
    → (next_what core es ≡ Some what → Next core what es) → Next core what (e ∷ es)
next_by core what e es true notice is more = let n = more is in record {
  at = suc n.at;
  entry = n.entry;
  there = n.there;
  is = n.is;
  does = n.does;
  acts = n.acts;
  notices = later_notices core what e es n notice;
}
next_by core what e es false notice is more = let two = some_by ((e.by == core) && can_cause e.what) e.what what is in record {
  at = zero;
  entry = e;
  there = refl;
  is = two.1;
  does = two.0;
  acts = notice;
  notices = λ k none. absurd (omega (arith, none));
}

next : (core : ℕ) (what : What) (es : List Entry) → next_what core es ≡ Some what → Next core what es
next core what [] is = absurd cc
next core what (e ∷ es) is = next_by core what e es (is_notice e.what) refl is (next core what es)

-- ---- its place in a longer list

past : (before es : List Entry) (e : Entry) (i : ℕ) → slice_get (before ++ e ∷ es) (length before + suc i) ≡ slice_get es i
past [] es e i = ap (λ n. slice_get (e ∷ es) n) (first i)
  where
    first : (i : ℕ) → 0 + suc i ≡ suc i
    first i = omega arith
past (x ∷ before) es e i = ap (λ n. slice_get (x ∷ (before ++ e ∷ es)) n) (more (length before) i) ∙ past before es e i
  where
    more : (m i : ℕ) → suc m + suc i ≡ suc (m + suc i)
    more m i = omega arith

here : (before es : List Entry) (e : Entry) → slice_get (before ++ e ∷ es) (length before) ≡ Some e
here [] es e = refl
here (x ∷ before) es e = here before es e

taken : (before es : List Entry) → take (length before) (before ++ es) ≡ before
taken [] es = refl
taken (x ∷ before) es = ap (λ (xs : List Entry). x ∷ xs) (taken before es)

abbrev pub acts_at : List Entry → ℕ → ℕ → Bool
acts_at entries place j = nat_lt place j && entry_is entries j (λ entry. not (is_notice entry.what))

module _ (before es : List Entry) (e : Entry) (core : ℕ) (what : What) (n : Next core what es) where
  abbrev entries : List Entry
  entries = before ++ e ∷ es

  abbrev at : ℕ
  at = length before + suc n.at

  entry_there : slice_get entries at ≡ Some n.entry
  entry_there = past before es e n.at ∙ n.there

  below : at < length entries
  below = slice_get_within entries at n.entry entry_there

  quiet_after : (k : ℕ) → length before < k → k < at → entry_is entries k (λ x. not (is_notice x.what)) ≡ false
  quiet_after k after before_it =
      let i = k - suc (length before) in
      let is : k ≡ length before + suc i = omega (arith, after) in
      ap (λ j. entry_is entries j (λ x. not (is_notice x.what))) is
      ∙ (ap (λ o. passes o (λ x. not (is_notice x.what))) (past before es e i) ∙ n.notices i (omega (arith, after, before_it)))

  quiet : (k : ℕ) → k < at → acts_at entries (length before) k ≡ false
  quiet k before_it = elim (cases_lt (length before) k) [
    | inl later ↦ ap (λ b. nat_lt (length before) k && b) (quiet_after k later before_it) ∙ and_right (nat_lt (length before) k) false refl
    | inr early ↦ ap (λ b. b && entry_is entries k (λ entry. not (is_notice entry.what))) (le-ltb (length before) k early)
  ]

  acts_there : acts_at entries (length before) at ≡ true
  acts_there = rw (lt-ltb (length before) at (omega arith), entry_there, n.acts) refl

  cause_is : cause_of entries (length before) core ≡ Some at
  cause_is =
      ap (λ o. option_and_then (λ j. if entry_is entries j (λ entry. (entry.by == core) && can_cause entry.what) then Some j else None) o)
      (first_at (length entries) (acts_at entries (length before)) at below acts_there quiet)
      ∙ ap (λ b. if b then Some at else None) (ap (λ o. passes o (λ x. (x.by == core) && can_cause x.what)) entry_there ∙ n.does)

  pub says : what_at entries (cause_of entries (length before) core) ≡ Some what
  says = ap (what_at entries) cause_is ∙ (ap (option_map (λ (x : Entry). x.what)) entry_there ∙ ap (λ w. Some w) n.is)

-- ---- what is known of each entry

-- what is known of a violation, and that it meets in bytes if that holds
pub record IsExplained (B : Type 0) (image : LoadedImage) (s : FlatState) (by k : ℕ) (cause : Option What) : Type 0 where
  pub known : IsKnown image s by k cause
  pub meets : B → MeetsInBytes image s by k cause

-- of this violation, in this state, with these entries after it
abbrev pub KnownHere : Type 0 → LoadedImage → FlatState → Entry → List Entry → Type 0
KnownHere B image s e es = (k : ℕ) (c : CoreState) → e.what ≡ Hurt c.epoch → s.cores k ≡ Some c → (what : What) × (next_what e.by es ≡ Some what) × IsExplained B image s e.by k (Some what)

-- it passes over nobody, if that holds
abbrev pub PassedHere : Type 0 → LoadedImage → FlatState → Entry → Type 0
PassedHere C image s e = C → (k : ℕ) → IsMissed image s e k → IsFurtherStore image s e

abbrev pub AllKnown : Type 0 → Type 0 → LoadedImage → FlatState → List Entry → Type 0
AllKnown B C image s [] = Unit {0}
AllKnown B C image s (e ∷ es) = KnownHere B image s e es × PassedHere C image s e × AllKnown B C image (effect image s e) es

first_legal : (image : LoadedImage) (count : ℕ) (s t : FlatState) (e : Entry) (es : List Entry) → replay_from image count s (e ∷ es) ≡ Some t
    → (refusal_of image count s e ≡ None) × (replay_from image count (effect image s e) es ≡ Some t)
unfolding replay_from
first_legal image count s t e es is = legal_first (refusal_of image count s e) (replay_from image count (effect image s e) es) t is

module _ (B C : Type 0) (image : LoadedImage) (count : ℕ) where
  at_first : (before es : List Entry) (e : Entry) (s : FlatState) → replay image count before ≡ Some s → KnownHere B image s e es
      → (by k : ℕ) (t : FlatState) (c : CoreState) → slice_get (before ++ e ∷ es) (length before) ≡ Some (record { by = by; what = Hurt c.epoch })
      → replay image count (take (length before) (before ++ e ∷ es)) ≡ Some t → t.cores k ≡ Some c
      → IsExplained B image t by k (what_at (before ++ e ∷ es) (cause_of (before ++ e ∷ es) (length before) by))
  at_first before es e s replays known by k t c at replays_t runs =
      let one : Entry = record { by = by; what = Hurt c.epoch } in
      let entry : e ≡ one = one_value (slice_get (before ++ e ∷ es) (length before)) e one (here before es e) at in
      let state : t ≡ s = one_value (replay image count before) t s (ap (replay image count) (sym (taken before (e ∷ es))) ∙ replays_t) replays in
      let it = known k c (ap (λ (x : Entry). x.what) entry) (ap (λ (x : FlatState). x.cores k) (sym state) ∙ runs) in
      let mine : e.by ≡ by = ap (λ (x : Entry). x.by) entry in
      let said = says before es e by it.0 (next by it.0 es (ap (λ b. next_what b es) (sym mine) ∙ it.1)) in
      subst (IsExplained B image t by k) (sym said) (subst (λ x. IsExplained B image x by k (Some it.0)) (sym state) (subst (λ b. IsExplained B image s b k (Some it.0)) mine it.2))

  -- each violation in the entries after a history is known
  pub known_past : (es before : List Entry) (s u : FlatState) → replay image count before ≡ Some s → replay_from image count s es ≡ Some u → AllKnown B C image s es
      → (place by k : ℕ) (t : FlatState) (c : CoreState) → length before ≤ place → slice_get (before ++ es) place ≡ Some (record { by = by; what = Hurt c.epoch })
      → replay image count (take place (before ++ es)) ≡ Some t → t.cores k ≡ Some c → IsExplained B image t by k (what_at (before ++ es) (cause_of (before ++ es) place by))
  known_past [] before s u replays more all place by k t c from at replays_t runs =
      absurd (omega (arith, from, slice_get_within before place (record { by = by; what = Hurt c.epoch }) (ap (λ xs. slice_get xs place) (sym (append-nil before)) ∙ at)))
  known_past (e ∷ es) before s u replays more all place by k t c from at replays_t runs = elim (cases_eq place (length before)) [
    | inl same ↦ subst (λ p. IsExplained B image t by k (what_at (before ++ e ∷ es) (cause_of (before ++ e ∷ es) p by))) (sym same)
        (at_first before es e s replays all.0 by k t c (ap (slice_get (before ++ e ∷ es)) (sym same) ∙ at) (ap (λ p. replay image count (take p (before ++ e ∷ es))) (sym same) ∙ replays_t) runs)
    | inr other ↦
        (let two = first_legal image count s u e es more in
        let joined : (before ++ e ∷ []) ++ es ≡ before ++ e ∷ es = append_assoc before (e ∷ []) es in
        let long = length-append before (e ∷ []) in
        subst (λ xs. IsExplained B image t by k (what_at xs (cause_of xs place by))) joined
        (known_past es (before ++ e ∷ []) (effect image s e) u (one_more_entry image count before s e replays two.0) two.1 all.2 place by k t c
        (omega (arith, from, other, long)) (ap (λ xs. slice_get xs place) joined ∙ at) (ap (λ xs. replay image count (take place xs)) joined ∙ replays_t) runs))
  ]

  passed_first : (before es : List Entry) (e : Entry) (s : FlatState) → C → replay image count before ≡ Some s → PassedHere C image s e
      → (k : ℕ) (x : Entry) (t : FlatState) → slice_get (before ++ e ∷ es) (length before) ≡ Some x
      → replay image count (take (length before) (before ++ e ∷ es)) ≡ Some t → IsMissed image t x k → IsFurtherStore image t x
  passed_first before es e s holds replays passed k x t at replays_t missed =
      let entry : e ≡ x = one_value (slice_get (before ++ e ∷ es) (length before)) e x (here before es e) at in
      let state : s ≡ t = one_value (replay image count before) s t replays (ap (replay image count) (sym (taken before (e ∷ es))) ∙ replays_t) in
      let now : PassedHere C image t x = subst (PassedHere C image t) entry (subst (λ y. PassedHere C image y e) state passed) in
      now holds k missed

  -- each entry after a history passes over nobody
  pub passed_past : (es before : List Entry) (s u : FlatState) → C → replay image count before ≡ Some s → replay_from image count s es ≡ Some u → AllKnown B C image s es
      → (place k : ℕ) (x : Entry) (t : FlatState) → length before ≤ place → slice_get (before ++ es) place ≡ Some x
      → replay image count (take place (before ++ es)) ≡ Some t → IsMissed image t x k → IsFurtherStore image t x
  passed_past [] before s u holds replays more all place k x t from at replays_t missed =
      absurd (omega (arith, from, slice_get_within before place x (ap (λ xs. slice_get xs place) (sym (append-nil before)) ∙ at)))
  passed_past (e ∷ es) before s u holds replays more all place k x t from at replays_t missed = elim (cases_eq place (length before)) [
    | inl same ↦
        passed_first before es e s holds replays all.1 k x t (ap (slice_get (before ++ e ∷ es)) (sym same) ∙ at)
        (ap (λ p. replay image count (take p (before ++ e ∷ es))) (sym same) ∙ replays_t) missed
    | inr other ↦
        (let two = first_legal image count s u e es more in
        let joined : (before ++ e ∷ []) ++ es ≡ before ++ e ∷ es = append_assoc before (e ∷ []) es in
        let long = length-append before (e ∷ []) in
        passed_past es (before ++ e ∷ []) (effect image s e) u holds (one_more_entry image count before s e replays two.0) two.1 all.2 place k x t
        (omega (arith, from, other, long)) (ap (λ xs. slice_get xs place) joined ∙ at) (ap (λ xs. replay image count (take place xs)) joined ∙ replays_t) missed)
  ]

-- ---- a history with these entries more

taken_within : (entries more : List Entry) (place : ℕ) → place ≤ length entries → take place (entries ++ more) ≡ take place entries
taken_within entries more zero below = refl
taken_within [] more (suc place) below = absurd (omega (arith, below))
taken_within (x ∷ entries) more (suc place) below = ap (λ (xs : List Entry). x ∷ xs) (taken_within entries more place (omega (arith, below)))

what_stays : (entries more : List Entry) (cause : ℕ) (what : What) → what_at entries (Some cause) ≡ Some what → what_at (entries ++ more) (Some cause) ≡ Some what
what_stays entries more cause what is = by_entry (slice_get entries cause) refl is
  where
    by_entry : (o : Option Entry) → slice_get entries cause ≡ o → option_map (λ (e : Entry). e.what) o ≡ Some what → what_at (entries ++ more) (Some cause) ≡ Some what
    by_entry None at none = absurd cc
    by_entry (Some e) at some = ap (option_map (λ (x : Entry). x.what)) (there entries more cause (slice_get_within entries cause e at) ∙ at) ∙ some

said_by : (entries more : List Entry) (place by : ℕ) (what : What) (o : Option ℕ) → cause_of entries place by ≡ o → what_at entries o ≡ Some what
    → what_at (entries ++ more) (cause_of (entries ++ more) place by) ≡ Some what
said_by entries more place by what None at none = absurd cc
said_by entries more place by what (Some cause) at some = ap (what_at (entries ++ more)) (stays entries more place by cause at) ∙ what_stays entries more cause what some

still_known : (B : Type 0) (image : LoadedImage) (t : FlatState) (entries more : List Entry) (place by k : ℕ) (o : Option What) → what_at entries (cause_of entries place by) ≡ o
    → IsExplained B image t by k o → IsExplained B image t by k (what_at (entries ++ more) (cause_of (entries ++ more) place by))
still_known B image t entries more place by k None at it = absurd (it.known.kind refl)
still_known B image t entries more place by k (Some what) at it =
    subst (IsExplained B image t by k) (sym (said_by entries more place by what (cause_of entries place by) refl at)) it

-- each violation is explained
abbrev pub AreExplained : Type 0 → LoadedImage → ℕ → List Entry → Type 0
AreExplained B image count history =
    (place by k : ℕ) (s : FlatState) (c : CoreState) → slice_get history place ≡ Some (record { by = by; what = Hurt c.epoch })
    → replay image count (take place history) ≡ Some s → s.cores k ≡ Some c → IsExplained B image s by k (what_at history (cause_of history place by))

pub explained : (B : Type 0) (image : LoadedImage) (count : ℕ) (history : List Entry) → HasKinds image count history → (B → MeetInBytes image count history)
    → AreExplained B image count history
explained B image count history kinds meet place by k s c at replays runs =
    record { known = kinds place by k s c at replays runs; meets = λ holds. meet holds place by k s c at replays runs }

pub kinds_of : (B : Type 0) (image : LoadedImage) (count : ℕ) (history : List Entry) → AreExplained B image count history → HasKinds image count history
kinds_of B image count history all place by k s c at replays runs = (all place by k s c at replays runs).known

pub meetings_of : (B : Type 0) (image : LoadedImage) (count : ℕ) (history : List Entry) → AreExplained B image count history → B → MeetInBytes image count history
meetings_of B image count history all holds place by k s c at replays runs = (all place by k s c at replays runs).meets holds

pub grown_explained : (B C : Type 0) (image : LoadedImage) (count : ℕ) (entries more : List Entry) (s u : FlatState) → AreExplained B image count entries
    → replay image count entries ≡ Some s → replay_from image count s more ≡ Some u → AllKnown B C image s more → AreExplained B image count (entries ++ more)
grown_explained B C image count entries more s u before_it replays goes all place by k t c at replays_t runs = elim (cases_lt place (length entries)) [
  | inl before ↦
      still_known B image t entries more place by k (what_at entries (cause_of entries place by)) refl
      (before_it place by k t c (sym (there entries more place before) ∙ at) (ap (replay image count) (sym (taken_within entries more place (omega (arith, before)))) ∙ replays_t) runs)
  | inr after ↦ known_past B C image count more entries s u replays goes all place by k t c after at replays_t runs
]

pub grown_passes : (B C : Type 0) (image : LoadedImage) (count : ℕ) (entries more : List Entry) (s u : FlatState) → C → PassesOverNone image count entries → replay image count entries ≡ Some s
    → replay_from image count s more ≡ Some u → AllKnown B C image s more → PassesOverNone image count (entries ++ more)
grown_passes B C image count entries more s u holds passes replays goes all place k x t at replays_t missed = elim (cases_lt place (length entries)) [
  | inl before ↦
      passes place k x t (sym (there entries more place before) ∙ at) (ap (replay image count) (sym (taken_within entries more place (omega (arith, before)))) ∙ replays_t) missed
  | inr after ↦ passed_past B C image count more entries s u holds replays goes all place k x t after at replays_t missed
]

pub no_passes : (image : LoadedImage) (count : ℕ) → PassesOverNone image count []
no_passes image count place k x t at replays missed = absurd (omega (arith, slice_get_within [] place x at))

pub no_kinds : (image : LoadedImage) (count : ℕ) → HasKinds image count []
no_kinds image count place by k t c at replays runs = absurd (omega (arith, slice_get_within [] place (record { by = by; what = Hurt c.epoch }) at))

pub no_meetings : (image : LoadedImage) (count : ℕ) → MeetInBytes image count []
no_meetings image count place by k t c at replays runs = absurd (omega (arith, slice_get_within [] place (record { by = by; what = Hurt c.epoch }) at))

pub are_known : (image : LoadedImage) (count : ℕ) (entries : List Entry) → HasKinds image count entries → AreKnown image count entries
are_known image count entries kinds place by k s c at replays runs = (kinds place by k s c at replays runs).kind
