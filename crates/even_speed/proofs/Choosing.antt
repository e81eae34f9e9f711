-- The turn that begins first, core by core.
use Rattle.std.proofs.Common.{◌≡◌, ℕ, ◌+◌, ◌<◌, ◌≤◌, ◌==◌, ◌&&◌, ◌||◌, nat_le, nat_lt, Bool, true, false, cond, Option, Some, None, option_map, refl, sym, ap, subst, ◌∙◌, inl, inr, true≢false, arith, eqb-true, ltb-true, leb-true, eq-eqb, le-leb}
use Rattle.std.proofs.lemmas.Bool.{cases_eq, ltb-false, not-false, or_parts}
use Rattle.std.proofs.lemmas.Option.{same_Some, none-some}
use Rattle.rv32_exec.specs.Arrival.{Arrival}
use Rattle.rv32_exec.specs.Hart.{HartState}
use Rattle.spec_history.specs.FlatState.{FlatState}
use Rattle.spec_history.specs.Replay.{replay}
use Rattle.violations.specs.View.{Waits}
use Rattle.homefree.specs.Acted.{IfArrived}
use Rattle.homefree.specs.BookView.{BookView}
use Rattle.homefree.specs.Driven.{arrival_of}
use Rattle.homefree.specs.Turned.{turn_at}
use Rattle.homefree.proofs.Books.Drives.{hand_is}
use Rattle.turn_costs.specs.declared.actions.Actions.{Actions}
use Rattle.turn_costs.specs.declared.costs.Costs.{Costs}
use Rattle.turn_costs.specs.Prices.{Prices}
use Rattle.turn_costs.specs.Turns.{actions_of}
use Rattle.even_speed.specs.declared.clocks.Turn.{Turn}
use Rattle.even_speed.specs.declared.pricing.Free.{Free}
use Rattle.even_speed.specs.declared.pricing.Price.{Price}
use Rattle.even_speed.specs.Even.{price_by, price_in}
use Rattle.even_speed.specs.Kept.{IsNext, is_no_later, may_begin_sooner, sooner}
use Rattle.even_speed.specs.Pricing.{IsLow, begins, later, no_price, price_of}
use Rattle.even_speed.proofs.Sounding.{begins_over}

-- ---- what the test says

by_or : (t e m : Bool) → (t || (e && m)) ≡ true → (P : Type 0) → (t ≡ true → P) → (e ≡ true → m ≡ true → P) → P
by_or true e m is P one two = one refl
by_or false true m is P one two = two refl is
by_or false false m is P one two = absurd cc

record IsNoLater (t : Turn) (at due : ℕ) : Type 0 where
  least : t.at ≤ at
  first : at ≡ t.at → t.due ≤ due

no_later : (t : Turn) (at due : ℕ) → is_no_later t at due ≡ true → IsNoLater t at due
no_later t at due is =
    by_or (nat_lt t.at at) (t.at == at) (nat_le t.due due) is (IsNoLater t at due)
    (λ less. let before = ltb-true t.at at less in record { least = omega (arith, before); first = λ same. absurd (omega (arith, before, same)) })
    (λ same early. let at_one = eqb-true t.at at same in record { least = omega (arith, at_one); first = λ _. leb-true t.due due early })

record IsLater (t : Turn) (at due : ℕ) : Type 0 where
  least : at ≤ t.at
  first : t.at ≡ at → due < t.due

is_later : (t : Turn) (at due : ℕ) → is_no_later t at due ≡ false → IsLater t at due
is_later t at due is = record { least = least; first = first }
  where
    both : (nat_lt t.at at ≡ false) × (((t.at == at) && nat_le t.due due) ≡ false)
    both = or_parts (nat_lt t.at at) _ is

    least : at ≤ t.at
    least = ltb-false t.at at both.0

    first : t.at ≡ at → due < t.due
    first same = omega (arith, late)
      where
        late : t.due ≤ due → ⊥
        late early = let yes : ((t.at == at) && nat_le t.due due) ≡ true = rw (eq-eqb t.at at same, le-leb t.due due early) refl in true≢false (sym yes ∙ both.1)

-- ---- one core more

module _ (free : Free) (prices : ℕ → Price) (dues : ℕ → Option ℕ) (n : ℕ) where
  pub none_due : dues n ≡ None → (found : Option Turn) → IsNext free prices dues n found → IsNext free prices dues (n + 1) found
  none_due none None is = λ k below. elim (cases_eq k n) [
    | inl e ↦ ap dues e ∙ none
    | inr other ↦ is k (omega (arith, below, other))
  ]
  none_due none (Some t) is = (
    record {
      core = omega (arith, is.0.core);
      due = is.0.due;
      price = is.0.price;
      begins_at = is.0.begins_at;
      soonest = λ k due below at. is.0.soonest k due (before k due below at) at;
      longest = λ k due below at. is.0.longest k due (before k due below at) at;
      lowest = λ k below at. is.0.lowest k (before k t.due below at) at;
    },
    is.1,
  )
    where
      before : (k due : ℕ) → k < n + 1 → dues k ≡ Some due → k < n
      before k due below at = elim (cases_eq k n) [
        | inl e ↦ absurd (none-some due (sym none ∙ (ap dues (sym e) ∙ at)))
        | inr other ↦ omega (arith, below, other)
      ]

  module _ (due : ℕ) (at : dues n ≡ Some due) where
    same_due : (k d : ℕ) → k ≡ n → dues k ≡ Some d → d ≡ due
    same_due k d e is = same_Some d due (sym is ∙ (ap dues e ∙ at))

    -- the one found so far stays
    stays : (t : Turn) → IsNext free prices dues n (Some t) → (t.at ≤ begins free (prices n) due) → (begins free (prices n) due ≡ t.at → t.due ≤ due) → IsNext free prices dues (n + 1) (Some t)
    stays t is least first = (
      record {
        core = omega (arith, is.0.core);
        due = is.0.due;
        price = is.0.price;
        begins_at = is.0.begins_at;
        soonest = λ k d below so. elim (cases_eq k n) [
          | inl e ↦ subst (λ x. t.at ≤ begins free (prices k) x) (sym (same_due k d e so)) (subst (λ j. t.at ≤ begins free (prices j) due) (sym e) least)
          | inr other ↦ is.0.soonest k d (omega (arith, below, other)) so
        ];
        longest = λ k d below so same. elim (cases_eq k n) [
          | inl e ↦ let d_is = same_due k d e so in
              omega (arith, d_is, first (ap (λ j. begins free (prices j) due) (sym e) ∙ (ap (begins free (prices k)) (sym d_is) ∙ same)))
          | inr other ↦ is.0.longest k d (omega (arith, below, other)) so same
        ];
        lowest = λ k below so same. elim (cases_eq k n) [
          | inl e ↦ omega (arith, e, is.0.core)
          | inr other ↦ is.0.lowest k (omega (arith, below, other)) so same
        ];
      },
      is.1,
    )

    -- this turn takes its place
    module _ (t : Turn) (core : t.core ≡ n) (due_is : t.due ≡ due) (price : t.price ≡ prices n) (begins_at : t.at ≡ begins free t.price t.due) (low : IsLow t.price) where
      own_at : begins free (prices n) due ≡ t.at
      own_at = ap (begins free (prices n)) (sym due_is) ∙ (ap (λ p. begins free p t.due) (sym price) ∙ sym begins_at)

      takes : ((k d : ℕ) → k < n → dues k ≡ Some d → t.at ≤ begins free (prices k) d) → ((k d : ℕ) → k < n → dues k ≡ Some d → begins free (prices k) d ≡ t.at → t.due < d)
          → IsNext free prices dues (n + 1) (Some t)
      takes least first = (
        record {
          core = omega (arith, core);
          due = ap dues core ∙ (at ∙ ap Some (sym due_is));
          price = price ∙ ap prices (sym core);
          begins_at = begins_at;
          soonest = λ k d below so. elim (cases_eq k n) [
            | inl e ↦ omega (arith, sym own_at ∙ (ap (begins free (prices n)) (sym (same_due k d e so)) ∙ ap (λ j. begins free (prices j) d) (sym e)))
            | inr other ↦ least k d (omega (arith, below, other)) so
          ];
          longest = λ k d below so same. elim (cases_eq k n) [
            | inl e ↦ omega (arith, same_due k d e so, due_is)
            | inr other ↦ omega (arith, first k d (omega (arith, below, other)) so same)
          ];
          lowest = λ k below so same. elim (cases_eq k n) [
            | inl e ↦ omega (arith, e, core)
            | inr other ↦ absurd (omega (arith, first k t.due (omega (arith, below, other)) so same))
          ];
        },
        low,
      )

      takes_over : (old : Turn) → IsNext free prices dues n (Some old) → IsLater old t.at t.due → IsNext free prices dues (n + 1) (Some t)
      takes_over old is later_one = takes
          (λ k d below so. omega (arith, is.0.soonest k d below so, later_one.least))
          (λ k d below so same.
          let old_at : old.at ≡ t.at = omega (arith, is.0.soonest k d below so, same, later_one.least) in
          omega (arith, later_one.first old_at, is.0.longest k d below so (same ∙ sym old_at)))

      takes_first : IsNext free prices dues n None → IsNext free prices dues (n + 1) (Some t)
      takes_first none = takes (λ k d below so. absurd (none-some d (sym (none k below) ∙ so))) (λ k d below so same. absurd (none-some d (sym (none k below) ∙ so)))

      by_test : (old : Turn) (b : Bool) → is_no_later old t.at t.due ≡ b → IsNext free prices dues n (Some old) → IsNext free prices dues (n + 1) (Some (cond b old t))
      by_test old true is found =
          let no = no_later old t.at t.due is in
          stays old found (omega (arith, own_at, no.least)) (λ same. omega (arith, no.first (sym own_at ∙ same), due_is))
      by_test old false is found = takes_over old found (is_later old t.at t.due is)

      pub more : (found : Option Turn) → IsNext free prices dues n found → IsNext free prices dues (n + 1) (Some (sooner found t))
      more None found = takes_first found
      more (Some old) found = by_test old (is_no_later old t.at t.due) refl found

    -- it can't begin sooner
    pub skipped : (found : Option Turn) → may_begin_sooner found free due ≡ false → IsNext free prices dues n found → IsNext free prices dues (n + 1) found
    skipped None fails found = absurd cc
    skipped (Some old) fails found =
        let no = no_later old (later free.began due) due (not-false _ fails) in
        let over = begins_over free (prices n) due in
        stays old found (omega (arith, no.least, over)) (λ same. omega (arith, no.first (omega (arith, same, over, no.least))))

-- ---- the price of a core's turn

pub free_price : {S : Type 0} (prices : S → Prices) (waits : S → Waits) (b : BookView S) (hands : ℕ → Option HartState) (core : ℕ) (costs : Option Costs) → costs ≡ None
    → price_by prices waits costs b hands core ≡ no_price
free_price prices waits b hands core costs none = rw none refl

-- what the state is that the history leads to
priced_by : {S : Type 0} (prices : S → Prices) (waits : S → Waits) (b : BookView S) (costs : Costs) (core : ℕ) (hand : Option HartState) (a : Actions) (s : Option FlatState) (t : FlatState) → s ≡ Some t
    → a ≡ actions_of (prices b.store) (turn_at waits b t core (option_map (arrival_of b.image) hand))
    → price_of costs a ≡ price_in (Some (record { prices = prices; costs = costs })) waits b s core hand
priced_by prices waits b costs core hand a s t is so = rw is (ap (price_of costs) so)

pub priced : {S : Type 0} (prices : S → Prices) (waits : S → Waits) (b : BookView S) (costs : Option Costs) (some : Costs) (hands : ℕ → Option HartState) (core : ℕ) (hand : Option Arrival)
    (a : Actions) (s : FlatState) → costs ≡ Some some → replay b.image b.cores b.history ≡ Some s → IfArrived b.image hand → option_map (λ (x : Arrival). x.base) hand ≡ hands core
    → a ≡ actions_of (prices b.store) (turn_at waits b s core hand) → price_of some a ≡ price_by prices waits costs b hands core
priced prices waits b costs some hands core hand a s is replays arrived own so =
    subst (λ c. price_of some a ≡ price_by prices waits c b hands core) (sym is)
    (priced_by prices waits b some core (hands core) a (replay b.image b.cores b.history) s replays
    (so ∙ (ap (λ x. actions_of (prices b.store) (turn_at waits b s core x)) (hand_is b.image hand arrived)
    ∙ ap (λ h. actions_of (prices b.store) (turn_at waits b s core (option_map (arrival_of b.image) h))) own)))
