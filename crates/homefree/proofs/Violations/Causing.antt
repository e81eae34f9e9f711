-- The violations of a turn stand before what causes them.
use Rattle.std.proofs.Common.{◌≡◌, ℕ, zero, suc, ◌<◌, ◌≤◌, ◌==◌, ◌&&◌, ◌||◌, not, Bool, true, false, nat_lt, is_some, List, [], ◌∷◌, ◌++◌, length, slice_get, Some, None, option_and_then, if◌then◌else◌, refl, sym, ap, ◌∙◌, inl, inr, arith, lt-ltb, eqb-true}
use Rattle.std.proofs.lemmas.Bool.{cases_lt, eq-eqb, le-ltb, and_from, and_parts, and_right, false≢true}
use Rattle.std.proofs.lemmas.Option.{same_Some}
use Rattle.spec_history.specs.declared.entry.Entry.{Entry}
use Rattle.spec_history.specs.declared.entry.What.{What}
use Rattle.spec_history.specs.declared.entry.What.TheVariants.{Start, Load, Store, Hurt, Cancel, Restart, Publish, Commit, Fault}
use Rattle.spec_history.specs.Conflict.{entry_is, is_notice, can_cause, cause_of, next_act, is_hurt}
use Rattle.spec_history.proofs.Searches.Tests.{first_at}
use Rattle.homefree.specs.Hurts.{entry, entry_for_each}
use Rattle.homefree.proofs.Violations.Knowing.{acts_at}

-- ---- lists in which each violation has its cause

-- the first entry that is no notice is the core's, and can violate
abbrev answered : ℕ → List Entry → Bool
answered core [] = false
answered core (e ∷ es) = if is_notice e.what then answered core es else ((e.by == core) && can_cause e.what)

-- it is so after each violation
abbrev pub all_answered : List Entry → Bool
all_answered [] = true
all_answered (e ∷ es) = (not (is_hurt e.what) || answered e.by es) && all_answered es

-- all are notices of the core
abbrev pub told_by : ℕ → List Entry → Bool
told_by core [] = true
told_by core (e ∷ es) = ((e.by == core) && is_notice e.what) && told_by core es

pub told_both : (core : ℕ) (xs ys : List Entry) → told_by core xs ≡ true → told_by core ys ≡ true → told_by core (xs ++ ys) ≡ true
told_both core [] ys first second = second
told_both core (x ∷ xs) ys first second =
    let two = and_parts ((x.by == core) && is_notice x.what) (told_by core xs) first in
    and_from ((x.by == core) && is_notice x.what) (told_by core (xs ++ ys)) two.0 (told_both core xs ys two.1 second)

told_one : (core : ℕ) (b : Bool) (what : What) → is_notice what ≡ true → told_by core (if b then entry core what else []) ≡ true
told_one core true what is = and_from ((core == core) && is_notice what) true (and_from (core == core) (is_notice what) (eq-eqb core core refl) is) refl
told_one core false what is = refl

pub told_each : (core : ℕ) (these : ℕ → Bool) (what : ℕ → What) (n : ℕ) → ((k : ℕ) → is_notice (what k) ≡ true) → told_by core (entry_for_each core these what n) ≡ true
told_each core these what zero notices = refl
told_each core these what (suc n) notices =
    told_both core (entry_for_each core these what n) (if these n then entry core (what n) else []) (told_each core these what n notices) (told_one core (these n) (what n) (notices n))

-- what a core does after its notices
pub record IsAct (core : ℕ) (act : Entry) : Type 0 where
  pub by : (act.by == core) ≡ true
  pub acts : is_notice act.what ≡ false
  pub can : can_cause act.what ≡ true

not_hurt : (what : What) → is_notice what ≡ false → is_hurt what ≡ false
not_hurt (Hurt epoch) is = absurd cc
not_hurt (Cancel epoch) is = absurd cc
not_hurt (Start epoch) is = refl
not_hurt (Load address width value) is = refl
not_hurt (Store address width value) is = refl
not_hurt Restart is = refl
not_hurt Publish is = refl
not_hurt Commit is = refl
not_hurt (Fault cause pc) is = refl

answered_then : (core : ℕ) (ns : List Entry) (act : Entry) (rest : List Entry) → told_by core ns ≡ true → IsAct core act → answered core (ns ++ act ∷ rest) ≡ true
answered_then core [] act rest told is =
    ap (λ b. if b then answered core rest else ((act.by == core) && can_cause act.what)) is.acts ∙ and_from (act.by == core) (can_cause act.what) is.by is.can
answered_then core (n ∷ ns) act rest told is =
    let two = and_parts ((n.by == core) && is_notice n.what) (told_by core ns) told in
    let notice = (and_parts (n.by == core) (is_notice n.what) two.0).1 in
    ap (λ b. if b then answered core (ns ++ act ∷ rest) else ((n.by == core) && can_cause n.what)) notice ∙ answered_then core ns act rest two.1 is

answered_by : (core : ℕ) (b : Bool) (by : ℕ) (es : List Entry) → (by == core) ≡ true → answered core es ≡ true → (b || answered by es) ≡ true
answered_by core true by es same is = refl
answered_by core false by es same is = ap (λ k. answered k es) (eqb-true by core same) ∙ is

pub notices_then : (core : ℕ) (ns : List Entry) (act : Entry) (rest : List Entry) → told_by core ns ≡ true → IsAct core act → all_answered rest ≡ true
    → all_answered (ns ++ act ∷ rest) ≡ true
notices_then core [] act rest told is others =
    and_from (not (is_hurt act.what) || answered act.by rest) (all_answered rest) (ap (λ b. not b || answered act.by rest) (not_hurt act.what is.acts)) others
notices_then core (n ∷ ns) act rest told is others =
    let two = and_parts ((n.by == core) && is_notice n.what) (told_by core ns) told in
    let by = (and_parts (n.by == core) (is_notice n.what) two.0).0 in
    and_from (not (is_hurt n.what) || answered n.by (ns ++ act ∷ rest)) (all_answered (ns ++ act ∷ rest))
    (answered_by core (not (is_hurt n.what)) n.by (ns ++ act ∷ rest) by (answered_then core ns act rest two.1 is))
    (notices_then core ns act rest two.1 is others)

-- ---- by places

-- what stands after a place causes its violation
pub record Answers (entries : List Entry) (place core : ℕ) : Type 0 where
  pub at : ℕ
  pub after : place < at
  pub within : at < length entries
  pub by : entry_is entries at (λ e. (e.by == core) && can_cause e.what) ≡ true
  pub act : entry_is entries at (λ e. not (is_notice e.what)) ≡ true
  pub notices : (k : ℕ) → place < k → k < at → entry_is entries k (λ e. not (is_notice e.what)) ≡ false

-- the first of all does
record Begins (entries : List Entry) (core : ℕ) : Type 0 where
  pub at : ℕ
  pub within : at < length entries
  pub by : entry_is entries at (λ e. (e.by == core) && can_cause e.what) ≡ true
  pub act : entry_is entries at (λ e. not (is_notice e.what)) ≡ true
  pub notices : (k : ℕ) → k < at → entry_is entries k (λ e. not (is_notice e.what)) ≡ false

tail_notices : (core : ℕ) (e : Entry) (es : List Entry) (b : Begins es core) → is_notice e.what ≡ true
    → (k : ℕ) → k < suc b.at → entry_is (e ∷ es) k (λ x. not (is_notice x.what)) ≡ false
tail_notices core e es b notice zero below = ap not notice
tail_notices core e es b notice (suc k) below = b.notices k (omega (arith, below))

begins_by : (core : ℕ) (e : Entry) (es : List Entry) (b : Bool) → is_notice e.what ≡ b → (if b then answered core es else ((e.by == core) && can_cause e.what)) ≡ true
    → (answered core es ≡ true → Begins es core) → Begins (e ∷ es) core
begins_by core e es true notice is below = let b = below is in record {
  at = suc b.at;
  within = omega (arith, b.within);
  by = b.by;
  act = b.act;
  notices = tail_notices core e es b notice;
}
begins_by core e es false notice is below = record {
  at = zero;
  within = omega arith;
  by = is;
  act = ap not notice;
  notices = λ k none. absurd (omega (arith, none));
}

begins : (core : ℕ) (es : List Entry) → answered core es ≡ true → Begins es core
begins core [] is = absurd (false≢true is)
begins core (e ∷ es) is = begins_by core e es (is_notice e.what) refl is (begins core es)

after_first : (core : ℕ) (x : Entry) (es : List Entry) (b : Begins es core) → (k : ℕ) → 0 < k → k < suc b.at → entry_is (x ∷ es) k (λ e. not (is_notice e.what)) ≡ false
after_first core x es b zero above below = absurd (omega (arith, above))
after_first core x es b (suc k) above below = b.notices k (omega (arith, below))

at_first : (core : ℕ) (x : Entry) (es : List Entry) → Begins es core → Answers (x ∷ es) 0 core
at_first core x es b = record {
  at = suc b.at;
  after = omega arith;
  within = omega (arith, b.within);
  by = b.by;
  act = b.act;
  notices = after_first core x es b;
}

past_first : (core place : ℕ) (x : Entry) (es : List Entry) (a : Answers es place core) → (k : ℕ) → suc place < k → k < suc a.at → entry_is (x ∷ es) k (λ e. not (is_notice e.what)) ≡ false
past_first core place x es a zero above below = absurd (omega (arith, above))
past_first core place x es a (suc k) above below = a.notices k (omega (arith, above)) (omega (arith, below))

moved : (core place : ℕ) (x : Entry) (es : List Entry) → Answers es place core → Answers (x ∷ es) (suc place) core
moved core place x es a = record {
  at = suc a.at;
  after = omega (arith, a.after);
  within = omega (arith, a.within);
  by = a.by;
  act = a.act;
  notices = past_first core place x es a;
}

or_second : (a b : Bool) → a ≡ true → (not a || b) ≡ true → b ≡ true
or_second true b is either = either
or_second false b is either = absurd cc

found : (es : List Entry) (place : ℕ) (e : Entry) → all_answered es ≡ true → slice_get es place ≡ Some e → is_hurt e.what ≡ true → Answers es place e.by
found [] place e all at hurt = absurd (false≢true (ap (λ o. is_some o) at))
found (x ∷ xs) zero e all at hurt =
    let two = and_parts (not (is_hurt x.what) || answered x.by xs) (all_answered xs) all in
    let same = same_Some x e at in
    let it = ap (λ (y : Entry). is_hurt y.what) same ∙ hurt in
    at_first e.by x xs (begins e.by xs (ap (λ (y : Entry). answered y.by xs) (sym same) ∙ or_second (is_hurt x.what) (answered x.by xs) it two.0))
found (x ∷ xs) (suc place) e all at hurt =
    let two = and_parts (not (is_hurt x.what) || answered x.by xs) (all_answered xs) all in
    moved e.by place x xs (found xs place e two.1 at hurt)

-- the place in a longer list
pub found_past : (before es : List Entry) (place : ℕ) (e : Entry) → all_answered es ≡ true → length before ≤ place → slice_get (before ++ es) place ≡ Some e → is_hurt e.what ≡ true
    → Answers (before ++ es) place e.by
found_past [] es place e all from at hurt = found es place e all at hurt
found_past (x ∷ before) es zero e all from at hurt = absurd (omega (arith, from))
found_past (x ∷ before) es (suc place) e all from at hurt =
    moved e.by place x (before ++ es) (found_past before es place e all (omega (arith, from)) at hurt)

quiet : (entries : List Entry) (place core : ℕ) (a : Answers entries place core) → (k : ℕ) → k < a.at → acts_at entries place k ≡ false
quiet entries place core a k below = elim (cases_lt place k) [
  | inl later ↦ ap (λ b. nat_lt place k && b) (a.notices k later below) ∙ and_right (nat_lt place k) false refl
  | inr before ↦ ap (λ b. b && entry_is entries k (λ entry. not (is_notice entry.what))) (le-ltb place k before)
]

pub has_cause : (entries : List Entry) (place core : ℕ) → Answers entries place core → is_some (cause_of entries place core) ≡ true
has_cause entries place core a =
    let next : next_act entries place ≡ Some a.at =
    first_at (length entries) (acts_at entries place) a.at a.within (and_from (nat_lt place a.at) (entry_is entries a.at (λ entry. not (is_notice entry.what))) (lt-ltb place a.at a.after) a.act)
    (quiet entries place core a) in
    ap (λ o. is_some (option_and_then (λ j. if entry_is entries j (λ entry. (entry.by == core) && can_cause entry.what) then Some j else None) o)) next
    ∙ ap (λ b. is_some (if b then Some a.at else None)) a.by
