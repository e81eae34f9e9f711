-- The turns that a seed draws, one after another.
use Rattle.std.proofs.Common.{◌≡◌, ◌≢◌, ℕ, zero, suc, ◌+◌, ◌-◌, ◌<◌, ◌≤◌, List, [], ◌∷◌, ◌++◌, length, Option, Some, None, Result, Ok, Err, refl, sym, ap, subst, ◌∙◌, arith, add-one, append_assoc}
use Rattle.std.proofs.Math.Path.{fun_ext}
use native.Mathlib.Decide.{dec_lt}
use Rattle.std.proofs.lemmas.List.{append-nil, length_push}
use Rattle.rv32_exec.specs.declared.sequential.End.{End}
use Rattle.rv32_exec.specs.Hart.{HartState}
use Rattle.violations.specs.View.{StoreView, Waits}
use Rattle.violations.specs.Calls.{Call}
use Rattle.homefree.specs.declared.answer.Answer.{Answer}
use Rattle.homefree.specs.declared.answer.Answer.TheVariants.{Go, Again, Left, Over, Stopped}
use Rattle.homefree.specs.declared.answer.StopCause.{StopCause}
use Rattle.homefree.specs.declared.fault.TurnFault.{TurnFault}
use Rattle.homefree.specs.Driven.{Driver, Driven, EndsOrGoes, TurnedWith, held_after, with_held}
use Rattle.rand_xoshiro.specs.SplitMix64.{next_state}
use Rattle.all_schedules.specs.Drawn.{DrivesDrawn, IsOpen, core_at, drawn, most_turns, state_after}

-- ---- what is drawn

pub drawn_none : (cores seed : ℕ) → drawn cores seed 0 ≡ []
unfolding drawn
drawn_none cores seed = refl

pub state_none : (seed : ℕ) → state_after seed 0 ≡ seed
unfolding state_after
state_none seed = refl

drawn_suc : (cores seed n : ℕ) → drawn cores seed (suc n) ≡ drawn cores seed n ++ core_at cores seed n ∷ []
unfolding drawn
drawn_suc cores seed n = refl

drawn_long : (cores seed n : ℕ) → length (drawn cores seed n) ≡ n
unfolding drawn
drawn_long cores seed zero = refl
drawn_long cores seed (suc n) =
    length_push (drawn cores seed n) (core_at cores seed n) ∙ (ap (λ k. k + 1) (drawn_long cores seed n) ∙ add-one n)

drawn_on : (cores seed n k : ℕ) → (rest : List ℕ) × (drawn cores seed (k + n) ≡ drawn cores seed n ++ rest)
drawn_on cores seed n zero =
    let none : 0 + n ≡ n = omega arith in ([], ap (drawn cores seed) none ∙ sym (append-nil (drawn cores seed n)))
drawn_on cores seed n (suc k) =
    let so = drawn_on cores seed n k in
    let more : suc k + n ≡ suc (k + n) = omega arith in (
      so.0 ++ core_at cores seed (k + n) ∷ [],
      ap (drawn cores seed) more ∙ (drawn_suc cores seed (k + n) ∙ (ap (λ l. l ++ core_at cores seed (k + n) ∷ []) so.1 ∙ append_assoc (drawn cores seed n) so.0 (core_at cores seed (k + n) ∷ []))),
    )

most_drawn : (cores seed n : ℕ) → n ≤ most_turns → (rest : List ℕ) × (drawn cores seed most_turns ≡ drawn cores seed n ++ rest)
most_drawn cores seed n few =
    let whole : (most_turns - n) + n ≡ most_turns = omega (arith, few) in
    subst (λ m. (rest : List ℕ) × (drawn cores seed m ≡ drawn cores seed n ++ rest)) whole (drawn_on cores seed n (most_turns - n))

-- ---- one turn more

module _ {S : Type 0} (makes : S → Call → S → Type 0) (view : S → StoreView) (waits : S → Waits) (harts : ℕ → Option HartState) (first old mid : Driver S) (xs ys : List ℕ) (core : ℕ)
    (drives : (rest : List ℕ) (result : Result (Option End) TurnFault) (new : Driver S) → Driven makes view waits harts old rest result new
    → Driven makes view waits (λ _. None) first (xs ++ rest) result new) (pushed : ys ≡ xs ++ core ∷ []) where
  by_turn : (answer : Result Answer TurnFault) (rest : List ℕ) (result : Result (Option End) TurnFault) (new : Driver S) → TurnedWith makes view waits old core (harts core) answer mid
      → EndsOrGoes answer (λ r. (new ≡ mid) × (result ≡ r)) (λ a. Driven makes view waits (with_held harts core (held_after a (harts core))) mid rest result new)
      → Driven makes view waits (λ _. None) first (ys ++ rest) result new
  by_turn answer rest result new turned more =
      subst (λ l. Driven makes view waits (λ _. None) first l result new) (sym (ap (λ zs. zs ++ rest) pushed ∙ append_assoc xs (core ∷ []) rest))
      (drives (core ∷ rest) result new (mid, answer, turned, more))

  pub ends_over : (answer : Answer) (end : End) → answer ≡ Over end → TurnedWith makes view waits old core (harts core) (Ok answer) mid
      → (rest : List ℕ) → Driven makes view waits (λ _. None) first (ys ++ rest) (Ok (Some end)) mid
  ends_over answer end is turned rest =
      by_turn (Ok (Over end)) rest (Ok (Some end)) mid (subst (λ a. TurnedWith makes view waits old core (harts core) (Ok a) mid) is turned) (refl, refl)

  pub ends_stopped : (answer : Answer) (cause : StopCause) → answer ≡ Stopped cause → TurnedWith makes view waits old core (harts core) (Ok answer) mid
      → (rest : List ℕ) → Driven makes view waits (λ _. None) first (ys ++ rest) (Ok None) mid
  ends_stopped answer cause is turned rest =
      by_turn (Ok (Stopped cause)) rest (Ok None) mid (subst (λ a. TurnedWith makes view waits old core (harts core) (Ok a) mid) is turned) (refl, refl)

  pub ends_fault : (fault : TurnFault) → TurnedWith makes view waits old core (harts core) (Err fault) mid
      → (rest : List ℕ) → Driven makes view waits (λ _. None) first (ys ++ rest) (Err fault) mid
  ends_fault fault turned rest = by_turn (Err fault) rest (Err fault) mid turned (refl, refl)

  more_by : (answer : Answer) (rest : List ℕ) (result : Result (Option End) TurnFault) (new : Driver S) → ((end : End) → answer ≢ Over end) → ((cause : StopCause) → answer ≢ Stopped cause)
      → Driven makes view waits (with_held harts core (held_after answer (harts core))) mid rest result new
      → EndsOrGoes (Ok answer) (λ r. (new ≡ mid) × (result ≡ r)) (λ a. Driven makes view waits (with_held harts core (held_after a (harts core))) mid rest result new)
  more_by (Go hart) rest result new going unstopped d = d
  more_by (Again cause) rest result new going unstopped d = d
  more_by Left rest result new going unstopped d = d
  more_by (Over end) rest result new going unstopped d = absurd (going end refl)
  more_by (Stopped cause) rest result new going unstopped d = absurd (unstopped cause refl)

  pub goes_on : (answer : Answer) (harts' : ℕ → Option HartState) → ((end : End) → answer ≢ Over end) → ((cause : StopCause) → answer ≢ Stopped cause)
      → ((k : ℕ) → harts' k ≡ with_held harts core (held_after answer (harts core)) k) → TurnedWith makes view waits old core (harts core) (Ok answer) mid
      → (rest : List ℕ) (result : Result (Option End) TurnFault) (new : Driver S) → Driven makes view waits harts' mid rest result new
      → Driven makes view waits (λ _. None) first (ys ++ rest) result new
  goes_on answer harts' going unstopped same turned rest result new d =
      by_turn (Ok answer) rest result new turned (more_by answer rest result new going unstopped
      (subst (λ (h : ℕ → Option HartState). Driven makes view waits h mid rest result new) (fun_ext same) d))

-- ---- the schedule so far

-- a turn more is drawn
pub more_drawn : (cores seed n core : ℕ) (xs ys : List ℕ) → xs ≡ drawn cores seed n → core ≡ core_at cores seed n → ys ≡ xs ++ core ∷ [] → ys ≡ drawn cores seed (n + 1)
more_drawn cores seed n core xs ys so is pushed =
    pushed ∙ (ap (λ l. l ++ core ∷ []) so ∙ (ap (λ c. drawn cores seed n ++ c ∷ []) is ∙ (sym (drawn_suc cores seed n) ∙ ap (drawn cores seed) (sym (add-one n)))))

state_suc : (seed n : ℕ) → state_after seed (suc n) ≡ next_state (state_after seed n)
unfolding state_after
state_suc seed n = refl

pub more_state : (seed n : ℕ) → next_state (state_after seed n) ≡ state_after seed (n + 1)
more_state seed n = sym (state_suc seed n) ∙ ap (state_after seed) (sym (add-one n))

open_up_to : (cores seed n : ℕ) (ys : List ℕ) → ys ≡ drawn cores seed n → (P : ℕ → Type 0) → ((m : ℕ) → m < n → P m) → (m : ℕ) → m < length ys → P m
open_up_to cores seed n ys is P each m below = each m (subst (λ k. m < k) (ap length is ∙ drawn_long cores seed n) below)

-- no turn so far ends the drive
pub open_more : {S : Type 0} (makes : S → Call → S → Type 0) (view : S → StoreView) (waits : S → Waits) (cores seed n : ℕ) (first old : Driver S) (xs : List ℕ) → xs ≡ drawn cores seed n
    → ((m : ℕ) → m < n → IsOpen makes view waits cores seed first m) → Driven makes view waits (λ _. None) first (xs ++ []) (Ok None) old
    → (m : ℕ) → m < n + 1 → IsOpen makes view waits cores seed first m
open_more makes view waits cores seed n first old xs is before now m below = elim (dec_lt m n) [
  | yes there ↦ before m there
  | no past ↦ let here : n ≡ m = omega (arith, past, below) in
      (old, subst (λ l. Driven makes view waits (λ _. None) first l (Ok None) old) (append-nil xs ∙ (is ∙ ap (drawn cores seed) here)) now)
]

-- it ends with this, whatever is drawn below
pub drives_drawn : {S : Type 0} (makes : S → Call → S → Type 0) (view : S → StoreView) (waits : S → Waits) (cores seed n : ℕ) (first last : Driver S) (ys : List ℕ) (result : Result (Option End) TurnFault)
    → ys ≡ drawn cores seed n → n ≤ most_turns → ((m : ℕ) → m < n → IsOpen makes view waits cores seed first m) → (result ≡ Ok None → first.book.stopped ≡ None → ⊥)
    → ((rest : List ℕ) → Driven makes view waits (λ _. None) first (ys ++ rest) result last) → DrivesDrawn makes view waits cores seed first ys result last
drives_drawn makes view waits cores seed n first last ys result is few open_so ended ends =
    let more = most_drawn cores seed n few in record {
      is_drawn = is ∙ ap (drawn cores seed) (sym (ap length is ∙ drawn_long cores seed n));
      driven = subst (λ l. Driven makes view waits (λ _. None) first l result last) (append-nil ys) (ends []);
      all = subst (λ l. Driven makes view waits (λ _. None) first l result last) (ap (λ l. l ++ more.0) is ∙ sym more.1) (ends more.0);
      goes_on = open_up_to cores seed n ys is (IsOpen makes view waits cores seed first) open_so;
      most = λ none fresh. absurd (ended none fresh);
    }

-- the most turns were taken
pub most_taken : {S : Type 0} (makes : S → Call → S → Type 0) (view : S → StoreView) (waits : S → Waits) (cores seed : ℕ) (first last : Driver S) (ys : List ℕ) → ys ≡ drawn cores seed most_turns
    → ((m : ℕ) → m < most_turns → IsOpen makes view waits cores seed first m) → Driven makes view waits (λ _. None) first (ys ++ []) (Ok None) last → DrivesDrawn makes view waits cores seed first ys (Ok None) last
most_taken makes view waits cores seed first last ys is open_so ends =
    let driven = subst (λ l. Driven makes view waits (λ _. None) first l (Ok None) last) (append-nil ys) ends in record {
      is_drawn = is ∙ ap (drawn cores seed) (sym (ap length is ∙ drawn_long cores seed most_turns));
      driven = driven;
      all = subst (λ l. Driven makes view waits (λ _. None) first l (Ok None) last) is driven;
      goes_on = open_up_to cores seed most_turns ys is (IsOpen makes view waits cores seed first) open_so;
      most = λ none fresh. ap length is ∙ drawn_long cores seed most_turns;
    }
