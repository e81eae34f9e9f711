-- Each kind of step keeps the lock rule.
use Rattle.std.proofs.Common.{◌≡◌, ℕ, ◌+◌, ◌%◌, ◌^◌, ◌<◌, ◌≤◌, ◌≢◌, Bool, true, false, cond, eqb, ◌||◌, zero, suc, List, [], ◌∷◌, ◌++◌, set, get_or, Option, Some, refl, sym, ap, ◌∙◌, subst, inl, inr, ⊎_elim, arith, eq-eqb, ne_eqb}
use Rattle.std.proofs.lemmas.Bool.{false≢true}
use Rattle.std.proofs.lemmas.Option.{none-some}
use Rattle.std.specs.Prelude.{MatchBool, IsSome}
use Rattle.std.proofs.lemmas.List.{append-nil, set_comm, set-get_or}
use Rattle.std.proofs.lemmas.List.Elements.{filter-append, All-nil, All-cons}
use mathlib.Core.Option.{some, none, some-injective, some-ne-none}
use mathlib.Core.Logic.{dite}
use native.Mathlib.Decide.{ℕ_discrete, dec_lt}
use prog.Atomic.{either}
use lib.ListN.{get_elem?}
use Rattle.atomic_table.specs.Table.{State, Me, step, keeps, takes, gives, stepped, opening, Allows, Splits, Joins, Final, Seen}
use Rattle.atomic_table.proofs.Lists.{at_set, set_else, set_again, at_longer}
use Rattle.ticket_lock.specs.declared.rule.Slot.{Slot}
use Rattle.ticket_lock.specs.Rule.{in_slot}
use Rattle.ticket_lock.specs.declared.rule.Opening.{Opening}
use Rattle.ticket_lock.specs.declared.rule.View.{View}
use Rattle.ticket_lock.specs.declared.rule.Turn.{Turn}
use Rattle.ticket_lock.specs.declared.rule.Turn.TheVariants.{Idle, Waiting, Holding}
use Rattle.ticket_lock.specs.Known.{value_in}
use Rattle.ticket_lock.specs.Past.{StartsWith, GrowsBy, is_of, entries_of}
use Rattle.ticket_lock.specs.Rule.{IsLive, Covers, IsNoted, IsSound, AreApart, IsSeated, IsHome, IsOut, LockRule, ticket_of, first_view}
use Rattle.ticket_lock.specs.Steps.{numbers_below, numbers_from, noted_of, both_of, spent, closed, looked_next, recalled, drawn, IsHanded, served, handed_back}
use Rattle.ticket_lock.proofs.Pasts.{starts_itself, starts_trans, longer_begins, first_begins, second_begins, own_between, own_of_both, own_of_part, no_entries}
use Rattle.ticket_lock.proofs.Frames.{set_there, each_set, each_end, apart_set, apart_end, AllApart}

-- tickets and the value
waiting_is_not : (r : Turn) (t u : ℕ) → r ≡ Waiting t → r ≡ Holding u → ⊥
waiting_is_not r t u p q = let e : Waiting t ≡ Holding u = sym p ∙ q in cc

idle_is_not : (r : Turn) (u : ℕ) → r ≡ Idle → r ≡ Holding u → ⊥
idle_is_not r u p q = let e : Idle ≡ Holding u = sym p ∙ q in cc

module _ {T F W : Type 0} where
  -- the seat that has the value has the view v, if it is the seat of v
  holder_view : (serving : ℕ) (past : List (ℕ × W)) (s : State (Slot T) (View F W)) (h : IsOut serving past s) (id : ℕ) (v : View F W) → get_elem? s.views id ≡ some v → h.holder ≡ id → h.view ≡ v
  holder_view serving past s h id v at e = some-injective h.view v (sym h.seated.0 ∙ (ap (λ j. get_elem? s.views j) e ∙ at))

  -- a seat that has no value is not the holder
  not_holder : (serving : ℕ) (past : List (ℕ × W)) (s : State (Slot T) (View F W)) (h : IsOut serving past s) (id : ℕ) (v : View F W) → get_elem? s.views id ≡ some v → ((t : ℕ) → v.turn ≢ Holding t) → h.holder ≢ id
  not_holder serving past s h id v at not e = not serving (ap (λ (z : View F W). z.turn) (sym (holder_view serving past s h id v at e)) ∙ h.holds)

-- what a look or a split leaves of a view: its opening, its turn and what it has seen, and no more numbers
pub record Narrows {F W : Type 0} (v w : View F W) : Type 0 where
  pub opening : w.opening ≡ v.opening
  pub turn : w.turn ≡ v.turn
  pub seen : w.seen ≡ v.seen
  pub covers : (k : ℕ) → Covers w k → Covers v k

either_true : {A : Type 0} (b c : Bool) → (b || c) ≡ true → (b ≡ true → A) → (c ≡ true → A) → A
either_true true c e f g = f refl
either_true false c e f g = g e

-- a list of one
only : {X : Type 0} (a : X) (j : ℕ) (b : X) → get_elem? (a ∷ []) j ≡ some b → (j ≡ 0) × (a ≡ b)
only a zero b e = (refl, some-injective a b e)
only a (suc j) b e = absurd (some-ne-none b (sym e))

module _ {T F W : Type 0} where
  -- where the value is at home, a seat changes to one that has it not
  home_set : (fixed_of : T → F) (past_of : T → List (ℕ × W)) (o : Opening F) (past : List (ℕ × W)) (ws : List ℕ) (s : State (Slot T) (View F W)) (id : ℕ) (w : View F W)
      → IsHome fixed_of past_of o past s → ((t : ℕ) → IsLive w → w.turn ≢ Holding t)
      → IsHome fixed_of past_of o past record { words = ws; homes = s.homes; views = set s.views id w }
  home_set fixed_of past_of o past ws s id w h not = record {
    value = h.value;
    slot = h.slot;
    fixed = h.fixed;
    past_is = h.past_is;
    nobody = λ j u t s'. each_set (λ (u : View F W). (t : ℕ) → u.turn ≢ Holding t) s.views id w (λ live t. not t live) (λ j u _ s t. h.nobody j u t s) j u s' t;
  }

  -- where the value is out with another seat, a seat changes
  out_set : (serving : ℕ) (past : List (ℕ × W)) (ws : List ℕ) (s : State (Slot T) (View F W)) (id : ℕ) (w : View F W)
      → (h : IsOut serving past s) → h.holder ≢ id
      → IsOut serving past record { words = ws; homes = s.homes; views = set s.views id w }
  out_set serving past ws s id w h ne = record {
    slot = h.slot;
    holder = h.holder;
    view = h.view;
    seated = (set_else s.views id h.holder w ne ∙ h.seated.0, h.seated.1);
    holds = h.holds;
    seen = h.seen;
  }

module _ {T F W : Type 0} (fixed_of : T → F) (past_of : T → List (ℕ × W)) where
  -- what a look tells the pass m that waits: with its ticket u found it has the value, and else it is as it was
  abbrev pub Told : (m : Me (Slot T) (View F W)) (n : ℕ) (m' : Me (Slot T) (View F W)) → Type 0
  Told m n m' = (u : ℕ) → m.0.turn ≡ Waiting u → MatchBool (eqb n u) ((x : T) × IsHanded fixed_of past_of m.0 u x m') (m' ≡ m)

  pub taken : (m was : Me (Slot T) (View F W)) (n t : ℕ) (m' : Me (Slot T) (View F W)) → m ≡ was → was.0.turn ≡ Waiting t → Told m n m' → n ≡ t
      → (x : T) × IsHanded fixed_of past_of was.0 t x m'
  taken m was n t m' same waits tells is =
      let given : (x : T) × IsHanded fixed_of past_of m.0 t x m' = subst (λ (b : Bool). MatchBool b ((x : T) × IsHanded fixed_of past_of m.0 t x m') (m' ≡ m)) (eq-eqb n t is) (tells t (ap (λ p. p.0.turn) same ∙ waits)) in
      subst (λ (p : Me (Slot T) (View F W)). (x : T) × IsHanded fixed_of past_of p.0 t x m') same given

  pub not_taken : (m was : Me (Slot T) (View F W)) (n t : ℕ) (m' : Me (Slot T) (View F W)) → m ≡ was → was.0.turn ≡ Waiting t → Told m n m' → (n ≡ t → ⊥)
      → m' ≡ was
  not_taken m was n t m' same waits tells is =
      let given : m' ≡ m = subst (λ (b : Bool). MatchBool b ((x : T) × IsHanded fixed_of past_of m.0 t x m') (m' ≡ m)) (ne_eqb n t is) (tells t (ap (λ p. p.0.turn) same ∙ waits)) in
      given ∙ same

module _ {T F W : Type 0} (fixed_of : T → F) (past_of : T → List (ℕ × W)) (o : Opening F) where
  live_of : (v w : View F W) → w.opening ≡ v.opening → IsLive w → IsLive v
  live_of v w e live = subst (λ (z : Option (Opening F)). IsSome z) e live

  -- a seat's view narrows, and the table stays as it was
  pub narrows : (s : State (Slot T) (View F W)) (r : LockRule fixed_of past_of o s) (id : ℕ) (v w : View F W) → get_elem? s.views id ≡ some v → Narrows v w
      → (IsSound o r.next r.serving r.past v → IsSound o r.next r.serving r.past w)
      → LockRule fixed_of past_of o record { words = s.words; homes = s.homes; views = set s.views id w }
  narrows s r id v w at n sound = record {
    next = r.next;
    serving = r.serving;
    past = r.past;
    words = r.words;
    order = r.order;
    top = r.top;
    each = each_set (λ (u : View F W). IsSound o r.next r.serving r.past u) s.views id w (λ live. sound (r.each id v (at, live_of v w n.opening live))) (λ j u _. r.each j u);
    apart = apart_set s.views id w r.apart (λ j u ne su live.
        let a = r.apart id j v u (λ e. ne (sym e)) (at, live_of v w n.opening live) su in
        record { numbers = λ k p q. a.numbers k (n.covers k p) q; tickets = λ t p q. a.tickets t (ap ticket_of (sym n.turn) ∙ p) q });
    value = ⊎_elim
        (λ h. inl (home_set fixed_of past_of o r.past s.words s id w h (λ t live e. h.nobody id v t (at, live_of v w n.opening live) (sym n.turn ∙ e))))
        (λ h. inr (dite (ℕ_discrete h.holder id)
        (λ e. let same = holder_view r.serving r.past s h id v at e in record {
          slot = h.slot;
          holder = id;
          view = w;
          seated = (set_there s.views id v w at, subst (λ (z : Option (Opening F)). IsSome z) (sym n.opening) (subst (λ (z : View F W). IsLive z) same h.seated.1));
          holds = n.turn ∙ (ap (λ (z : View F W). z.turn) (sym same) ∙ h.holds);
          seen = n.seen ∙ (ap (λ (z : View F W). z.seen) (sym same) ∙ h.seen);
        })
        (λ ne. out_set r.serving r.past s.words s id w h ne)))
        r.value;
  }

  -- a step that changes neither the words nor the slot
  unmoved : (s : State (Slot T) (View F W)) (i id : ℕ) (c : List (ℕ × Slot T)) (w : View F W)
      → LockRule fixed_of past_of o record { words = s.words; homes = s.homes; views = set s.views id w }
      → LockRule fixed_of past_of o (stepped s i (get_or s.words i 0) id c w keeps)
  unmoved s i id c w = subst (λ (ws : List ℕ). LockRule fixed_of past_of o record { words = ws; homes = s.homes; views = set s.views id w }) (sym (set-get_or s.words i 0))

  -- a seat that stays as it is
  stays : (s : State (Slot T) (View F W)) (id : ℕ) (v : View F W) → LockRule fixed_of past_of o s → get_elem? s.views id ≡ some v
      → LockRule fixed_of past_of o record { words = s.words; homes = s.homes; views = set s.views id v }
  stays s id v r at = subst (λ (vs : List (View F W)). LockRule fixed_of past_of o record { words = s.words; homes = s.homes; views = vs }) (sym (set_again s.views id v at)) r

  word_next : (s : State (Slot T) (View F W)) (r : LockRule fixed_of past_of o s) → get_or s.words 0 0 ≡ r.next
  word_next s r = ap (λ ws. get_or ws 0 0) r.words

  word_serving : (s : State (Slot T) (View F W)) (r : LockRule fixed_of past_of o s) → get_or s.words 1 0 ≡ r.serving
  word_serving s r = ap (λ ws. get_or ws 1 0) r.words

  -- a pass that has found all tickets drawn
  outs : (next serving : ℕ) (past : List (ℕ × W)) (v : View F W) → next ≡ 2 ^ 63 → IsSound o next serving past v → IsSound o next serving past (record v { out = true })
  outs next serving past v e r = record {
    opening = r.opening;
    some = r.some;
    within = r.within;
    seen = r.seen;
    own = r.own;
    ticket = r.ticket;
    holds = r.holds;
    out = λ _. e;
    noted = r.noted;
  }

  -- a look at `next`
  pub looks_next : (slots id : ℕ) (m : Me (Slot T) (View F W)) → Allows (LockRule fixed_of past_of o) slots id m 0 (λ n. n) (looked_next (step slots 0 0 0 none) m)
  looks_next slots id m s r deep at fits =
      let n : ℕ = get_or s.words 0 0 in
      let found = word_next s r in
      let most = r.top in
      let top : n ≤ 2 ^ 63 = omega arith in
      dite (ℕ_discrete n (2 ^ 63))
      (λ e. (
        record m.0 { out = true },
        keeps,
        tt,
        unmoved s 0 id m.1 (record m.0 { out = true }) (narrows s r id m.0 (record m.0 { out = true }) at record { opening = refl; turn = refl; seen = refl; covers = λ k p. p } (outs r.next r.serving r.past m.0 (sym (word_next s r) ∙ e))),
        (top, ap (λ (b : Bool). let w : View F W = cond b (record m.0 { out = true }) m.0 in let p : Me (Slot T) (View F W) = (w, m.1) in p) (sym (eq-eqb n (2 ^ 63) e))),
      ))
      (λ ne. (
        m.0,
        keeps,
        tt,
        unmoved s 0 id m.1 m.0 (stays s id m.0 r at),
        (top, ap (λ (b : Bool). let w : View F W = cond b (record m.0 { out = true }) m.0 in let p : Me (Slot T) (View F W) = (w, m.1) in p) (sym (ne_eqb n (2 ^ 63) ne))),
      ))

  -- the look after a join
  forgets : (next serving : ℕ) (past : List (ℕ × W)) (v : View F W) → IsSound o next serving past v → IsSound o next serving past (record v { noted = [] })
  forgets next serving past v r = record {
    opening = r.opening;
    some = r.some;
    within = r.within;
    seen = r.seen;
    own = r.own;
    ticket = r.ticket;
    holds = r.holds;
    out = r.out;
    noted = All-nil (IsNoted (record v { noted = [] }));
  }

  pub recalls : (slots id : ℕ) (m : Me (Slot T) (View F W)) (i : ℕ) → Allows (LockRule fixed_of past_of o) slots id m i (λ n. n) (recalled (step slots i 0 0 none) m)
  recalls slots id m i s r deep at fits =
      let w : View F W = record m.0 { noted = [] } in (
        w,
        keeps,
        tt,
        unmoved s i id m.1 w (narrows s r id m.0 w at record { opening = refl; turn = refl; seen = refl; covers = λ k p. p } (forgets r.next r.serving r.past m.0)),
        (refl, λ live. (r.each id m.0 (at, live)).noted),
      )

  -- a ticket is drawn
  drew : (s : State (Slot T) (View F W)) (r : LockRule fixed_of past_of o s) (id : ℕ) (v : View F W) → get_elem? s.views id ≡ some v → IsLive v → v.turn ≡ Idle → r.next < 2 ^ 63
      → (ws : List ℕ) → ws ≡ (r.next + 1) ∷ r.serving ∷ []
      → LockRule fixed_of past_of o record { words = ws; homes = s.homes; views = set s.views id (record v { turn = Waiting r.next }) }
  drew s r id v at live idle free ws words =
      let w : View F W = record v { turn = Waiting r.next } in
      let was = r.each id v (at, live) in
      let order = r.order in
      record {
        next = r.next + 1;
        serving = r.serving;
        past = r.past;
        words = words;
        order = omega arith;
        top = omega arith;
        each = each_set (λ (u : View F W). IsSound o (r.next + 1) r.serving r.past u) s.views id w
            (λ _. record {
              opening = was.opening;
              some = was.some;
              within = was.within;
              seen = was.seen;
              own = was.own;
              ticket = λ t e. let same : r.next ≡ t = cc in (omega arith, omega arith);
              holds = λ t e. absurd (waiting_is_not (Waiting r.next) r.next t refl e);
              out = λ e. let all = was.out e in absurd (omega arith);
              noted = was.noted;
            })
            (λ j u _ su. let old = r.each j u su in record {
              opening = old.opening;
              some = old.some;
              within = old.within;
              seen = old.seen;
              own = old.own;
              ticket = λ t e. let p = old.ticket t e in let p₀ = p.0 in let p₁ = p.1 in (p₀, omega arith);
              holds = old.holds;
              out = λ e. let all = old.out e in absurd (omega arith);
              noted = old.noted;
            });
        apart = apart_set s.views id w r.apart (λ j u ne su _. let a = r.apart id j v u (λ e. ne (sym e)) (at, live) su in record {
          numbers = a.numbers;
          tickets = λ t p q. let same : r.next ≡ t = cc in let b = ((r.each j u su).ticket t q).1 in absurd (omega arith);
        });
        value = ⊎_elim
            (λ h. inl (home_set fixed_of past_of o r.past ws s id w h (λ t _ e. waiting_is_not (Waiting r.next) r.next t refl e)))
            (λ h. inr (out_set r.serving r.past ws s id w h (not_holder r.serving r.past s h id v at (λ t. idle_is_not v.turn t idle))))
            r.value;
      }

  pub draws : (slots id : ℕ) (m : Me (Slot T) (View F W)) (t : ℕ) → IsLive m.0 → m.0.turn ≡ Idle → t < 2 ^ 63
      → Allows (LockRule fixed_of past_of o) slots id m 0 (λ n. either (eqb n t) (t + 1) n) (drawn (step slots 0 t (t + 1) none) m)
  draws slots id m t live idle free s r deep at fits =
      let n : ℕ = get_or s.words 0 0 in
      dite (ℕ_discrete n t)
      (λ e.
      let same : r.next ≡ t = sym (word_next s r) ∙ e in
      let w : View F W = record m.0 { turn = Waiting t } in
      let here : either (eqb n t) (t + 1) n ≡ t + 1 = ap (λ (b : Bool). either b (t + 1) n) (eq-eqb n t e) in
      let words : set s.words 0 (either (eqb n t) (t + 1) n) ≡ (r.next + 1) ∷ r.serving ∷ [] = ap (λ ws. set ws 0 (either (eqb n t) (t + 1) n)) r.words ∙ ap (λ k. k ∷ r.serving ∷ []) (here ∙ ap (λ k. k + 1) (sym same)) in
      let kept = drew s r id m.0 at live idle (omega arith) (set s.words 0 (either (eqb n t) (t + 1) n)) words in (
        w,
        keeps,
        tt,
        subst (λ k. LockRule fixed_of past_of o record { words = set s.words 0 (either (eqb n t) (t + 1) n); homes = s.homes; views = set s.views id (record m.0 { turn = Waiting k }) }) same kept,
        subst (λ (b : Bool). let p : Me (Slot T) (View F W) = (w, m.1) in MatchBool b (p ≡ (record m.0 { turn = Waiting t }, m.1)) (p ≡ m)) (sym (eq-eqb n t e)) refl,
      ))
      (λ ne.
      let here : either (eqb n t) (t + 1) n ≡ n = ap (λ (b : Bool). either b (t + 1) n) (ne_eqb n t ne) in (
        m.0,
        keeps,
        tt,
        subst (λ k. LockRule fixed_of past_of o (stepped s 0 k id m.1 m.0 keeps)) (sym here) (unmoved s 0 id m.1 m.0 (stays s id m.0 r at)),
        subst (λ (b : Bool). MatchBool b (m ≡ (record m.0 { turn = Waiting t }, m.1)) (m ≡ m)) (sym (ne_eqb n t ne)) refl,
      ))

  -- the pass whose ticket is served takes the value out of the slot
  took : (s : State (Slot T) (View F W)) (r : LockRule fixed_of past_of o s) (id : ℕ) (v : View F W) → get_elem? s.views id ≡ some v → IsLive v → (t : ℕ) → v.turn ≡ Waiting t → r.serving ≡ t
      → (h : IsHome fixed_of past_of o r.past s) (ws : List ℕ) → ws ≡ r.next ∷ r.serving ∷ []
      → LockRule fixed_of past_of o record { words = ws; homes = set s.homes 0 none; views = set s.views id (record v { turn = Holding t; seen = past_of h.value; noted = [] }) }
  took s r id v at live t waits now h ws words =
      let w : View F W = record v { turn = Holding t; seen = past_of h.value; noted = [] } in
      let was = r.each id v (at, live) in
      let mine = was.ticket t (ap ticket_of waits) in
      record {
        next = r.next;
        serving = r.serving;
        past = r.past;
        words = words;
        order = r.order;
        top = r.top;
        each = each_set (λ (u : View F W). IsSound o r.next r.serving r.past u) s.views id w
            (λ _. record {
              opening = was.opening;
              some = was.some;
              within = was.within;
              seen = subst (λ l. StartsWith r.past l) (sym h.past_is) (starts_itself r.past);
              own = ap (λ l. entries_of v.lo v.hi l) (sym h.past_is);
              ticket = λ u e. was.ticket u (ap ticket_of waits ∙ e);
              holds = λ u e. let same : t ≡ u = cc in sym same ∙ sym now;
              out = was.out;
              noted = All-nil (IsNoted w);
            })
            (λ j u _. r.each j u);
        apart = apart_set s.views id w r.apart (λ j u ne su _. let a = r.apart id j v u (λ e. ne (sym e)) (at, live) su in record {
          numbers = a.numbers;
          tickets = λ u p q. a.tickets u (ap ticket_of waits ∙ p) q;
        });
        value = inr record {
          slot = ap (λ hs. set hs 0 none) h.slot;
          holder = id;
          view = w;
          seated = (set_there s.views id v w at, live);
          holds = ap Holding (sym now);
          seen = h.past_is;
        };
      }

  -- who has the ticket that is served and waits finds the value at home
  is_home : (s : State (Slot T) (View F W)) (r : LockRule fixed_of past_of o s) (id : ℕ) (v : View F W) → get_elem? s.views id ≡ some v → IsLive v → v.turn ≡ Waiting r.serving → IsHome fixed_of past_of o r.past s
  is_home s r id v at live waits =
      ⊎_elim
      (λ h. h)
      (λ h. absurd ((r.apart h.holder id h.view v (not_holder r.serving r.past s h id v at (λ t. waiting_is_not v.turn r.serving t waits)) h.seated (at, live)).tickets r.serving (ap ticket_of h.holds) (ap ticket_of waits)))
      r.value

  -- what the look of a pass that waits with the ticket t tells, told of any ticket with which it waits
  told : (slots n : ℕ) (v : View F W) (t : ℕ) → v.turn ≡ Waiting t → (m : Me (Slot T) (View F W))
      → MatchBool (eqb n t) ((x : T) × IsHanded fixed_of past_of v t x m) (m ≡ (v, [])) → served fixed_of past_of (step slots 1 0 0 none) (v, []) n m
  told slots n v t waits m given u is =
      let same : t ≡ u = cc in
      subst (λ (k : ℕ). MatchBool (eqb n k) ((x : T) × IsHanded fixed_of past_of v k x m) (m ≡ (v, []))) same given

  serves : (slots id : ℕ) (v : View F W) (t : ℕ) → IsLive v → v.turn ≡ Waiting t
      → Allows (LockRule fixed_of past_of o) slots id (v, []) 1 (λ n. n) (served fixed_of past_of (step slots 1 0 0 none) (v, []))
  serves slots id v t live waits s r deep at fits =
      let n : ℕ = get_or s.words 1 0 in
      dite (ℕ_discrete n t)
      (λ e.
      let now : r.serving ≡ t = sym (word_serving s r) ∙ e in
      let h = is_home s r id v at live (waits ∙ ap Waiting (sym now)) in
      let x : T = h.value in
      let w : View F W = record v { turn = Holding t; seen = past_of x; noted = [] } in
      let words : set s.words 1 n ≡ r.next ∷ r.serving ∷ [] = ap (λ ws. set ws 1 n) r.words ∙ ap (λ k. r.next ∷ k ∷ []) (word_serving s r) in
      let was = r.each id v (at, live) in (
        w,
        takes 0 (in_slot x),
        ap (λ hs. get_elem? hs 0) h.slot,
        took s r id v at live t waits now h (set s.words 1 n) words,
        told slots n v t waits (w, (0, in_slot x) ∷ []) (subst (λ (b : Bool). let m : Me (Slot T) (View F W) = (w, (0, in_slot x) ∷ []) in MatchBool b ((x : T) × IsHanded fixed_of past_of v t x m) (m ≡ (v, []))) (sym (eq-eqb n t e)) (
          x,
          record {
            seat = refl;
            fixed = λ p is. h.fixed ∙ ap (λ (q : Opening F). q.fixed) (let same : o ≡ p = cc (was.opening, is) in same);
            begins = subst (λ l. StartsWith l v.seen) (sym h.past_is) was.seen;
            own = ap (λ l. entries_of v.lo v.hi l) h.past_is ∙ was.own;
            some = was.some;
          },
        )),
      ))
      (λ ne. (
        v,
        keeps,
        tt,
        unmoved s 1 id [] v (stays s id v r at),
        told slots n v t waits (v, []) (subst (λ (b : Bool). let m : Me (Slot T) (View F W) = (v, []) in MatchBool b ((x : T) × IsHanded fixed_of past_of v t x m) (m ≡ m)) (sym (ne_eqb n t ne)) refl),
      ))

  pub serves_at : (slots id : ℕ) (m : Me (Slot T) (View F W)) (t : ℕ) → IsLive m.0 → m.0.turn ≡ Waiting t → m.1 ≡ []
      → Allows (LockRule fixed_of past_of o) slots id m 1 (λ n. n) (served fixed_of past_of (step slots 1 0 0 none) m)
  serves_at slots id m t live waits bare =
      let same : (m.0, []) ≡ m = λ i. (m.0, sym bare i) in
      subst (λ (m : Me (Slot T) (View F W)). Allows (LockRule fixed_of past_of o) slots id m 1 (λ n. n) (served fixed_of past_of (step slots 1 0 0 none) m)) same (serves slots id m.0 t live waits)

  -- the pass that has the value gives it back, grown by entries of its own first number
  gave : (s : State (Slot T) (View F W)) (r : LockRule fixed_of past_of o s) (id : ℕ) (v : View F W) → get_elem? s.views id ≡ some v → IsLive v → (t : ℕ) → v.turn ≡ Holding t
      → (x : T) → fixed_of x ≡ o.fixed → GrowsBy v.lo v.seen (past_of x) → (ws : List ℕ) → ws ≡ r.next ∷ (r.serving + 1) ∷ []
      → LockRule fixed_of past_of o record { words = ws; homes = set s.homes 0 (some (in_slot x)); views = set s.views id (record v { turn = Idle; seen = past_of x; noted = [] }) }
  gave s r id v at live t has x fixed g ws words =
      let w : View F W = record v { turn = Idle; seen = past_of x; noted = [] } in
      let was = r.each id v (at, live) in
      let now : t ≡ r.serving = was.holds t has in
      let bounds = was.ticket t (ap ticket_of has) in
      let bound = bounds.1 in
      let some_number = was.some in
      let h : IsOut r.serving r.past s = ⊎_elim (λ h. absurd (h.nobody id v t (at, live) has)) (λ h. h) r.value in
      let mine : h.holder ≡ id = dite (ℕ_discrete h.holder id) (λ e. e) (λ ne. absurd ((r.apart h.holder id h.view v ne h.seated (at, live)).tickets r.serving (ap ticket_of h.holds) (ap ticket_of (has ∙ ap Holding now)))) in
      let whole : v.seen ≡ r.past = ap (λ (z : View F W). z.seen) (sym (holder_view r.serving r.past s h id v at mine)) ∙ h.seen in
      let grown : past_of x ≡ r.past ++ g.added = g.is ∙ ap (λ l. l ++ g.added) whole in
      let longer_past : StartsWith (past_of x) r.past = record { rest = g.added; is = grown } in
      let apart : (j : ℕ) (u : View F W) → j ≢ id → IsSeated s.views j u → AreApart v u = λ j u ne su. r.apart id j v u (λ e. ne (sym e)) (at, live) su in
      record {
        next = r.next;
        serving = r.serving + 1;
        past = past_of x;
        words = words;
        order = omega arith;
        top = r.top;
        each = each_set (λ (u : View F W). IsSound o r.next (r.serving + 1) (past_of x) u) s.views id w
            (λ _. record {
              opening = was.opening;
              some = was.some;
              within = was.within;
              seen = starts_itself (past_of x);
              own = refl;
              ticket = λ u e. absurd (none-some u e);
              holds = λ u e. absurd (idle_is_not Idle u refl e);
              out = was.out;
              noted = All-nil (IsNoted w);
            })
            (λ j u ne su. let old = r.each j u su in let a = apart j u ne su in
            let none_added : entries_of u.lo u.hi g.added ≡ [] = no_entries v.lo u.lo u.hi (λ c d. a.numbers v.lo (omega arith, some_number) (c, d)) g.added g.by in
            record {
              opening = old.opening;
              some = old.some;
              within = old.within;
              seen = starts_trans longer_past old.seen;
              own = ap (λ l. entries_of u.lo u.hi l) grown ∙ (filter-append (is_of u.lo u.hi) r.past g.added ∙ (ap (λ l. entries_of u.lo u.hi r.past ++ l) none_added ∙ (append-nil (entries_of u.lo u.hi r.past) ∙ old.own)));
              ticket = λ k e. let p = old.ticket k e in let p₀ = p.0 in let p₁ = p.1 in let other : k ≢ t = λ f. a.tickets t (ap ticket_of has) (e ∙ ap Some f) in (omega arith, p₁);
              holds = λ k e. absurd (a.tickets t (ap ticket_of has) (ap ticket_of e ∙ ap Some (old.holds k e ∙ sym now)));
              out = old.out;
              noted = old.noted;
            });
        apart = apart_set s.views id w r.apart (λ j u ne su _. record { numbers = (apart j u ne su).numbers; tickets = λ k p q. none-some k p });
        value = inl record {
          value = x;
          slot = ap (λ hs. set hs 0 (some (in_slot x))) h.slot;
          fixed = fixed;
          past_is = refl;
          nobody = λ j u k su e. each_set (λ (u : View F W). (k : ℕ) → u.turn ≢ Holding k) s.views id w (λ _ k e. idle_is_not Idle k refl e)
              (λ j u ne su k e. (apart j u ne su).tickets t (ap ticket_of has) (ap ticket_of e ∙ ap Some ((r.each j u su).holds k e ∙ sym now))) j u su k e;
        };
      }

  hands_back : (slots id : ℕ) (v : View F W) (t : ℕ) (x : T) → IsLive v → v.turn ≡ Holding t → ((p : Opening F) → v.opening ≡ Some p → fixed_of x ≡ p.fixed) → GrowsBy v.lo v.seen (past_of x)
      → Allows (LockRule fixed_of past_of o) slots id (v, (0, in_slot x) ∷ []) 1 (λ n. (n + 1) % 2 ^ 64) (handed_back past_of (step slots 1 1 0 none) (v, (0, in_slot x) ∷ []))
  hands_back slots id v t x live has fixed g s r deep at fits =
      let n : ℕ = get_or s.words 1 0 in
      let n' : ℕ = (n + 1) % 18446744073709551616 in
      let was = r.each id v (at, live) in
      let now = was.holds t has in
      let bounds = was.ticket t (ap ticket_of has) in
      let bound = bounds.1 in
      let top = r.top in
      let found = word_serving s r in
      let here : n' ≡ r.serving + 1 = omega arith in
      let words : set s.words 1 n' ≡ r.next ∷ (r.serving + 1) ∷ [] = ap (λ ws. set ws 1 n') r.words ∙ ap (λ k. r.next ∷ k ∷ []) here in (
        record v { turn = Idle; seen = past_of x; noted = [] },
        gives,
        tt,
        gave s r id v at live t has x (fixed o was.opening) g (set s.words 1 n') words,
        λ y e. let same : x ≡ y = ap (value_in x) e in ap (λ (z : T). let p : Me (Slot T) (View F W) = (record v { turn = Idle; seen = past_of z; noted = [] }, []) in p) same,
      )

  pub hands_back_at : (slots id : ℕ) (m : Me (Slot T) (View F W)) (v : View F W) (t : ℕ) (x : T) → m ≡ (v, (0, in_slot x) ∷ []) → IsLive v → v.turn ≡ Holding t
      → ((p : Opening F) → v.opening ≡ Some p → fixed_of x ≡ p.fixed) → GrowsBy v.lo v.seen (past_of x)
      → Allows (LockRule fixed_of past_of o) slots id m 1 (λ n. (n + 1) % 2 ^ 64) (handed_back past_of (step slots 1 1 0 none) m)
  hands_back_at slots id m v t x is live has fixed g =
      subst (λ (m : Me (Slot T) (View F W)). Allows (LockRule fixed_of past_of o) slots id m 1 (λ n. (n + 1) % 2 ^ 64) (handed_back past_of (step slots 1 1 0 none) m)) (sym is) (hands_back slots id v t x live has fixed g)

  -- a seat is added, whose pass has no number that a live pass has, or is spent
  added : (s : State (Slot T) (View F W)) (r : LockRule fixed_of past_of o s) (w : View F W)
      → (IsLive w → IsSound o r.next r.serving r.past w) → ((j : ℕ) (u : View F W) → IsSeated s.views j u → IsLive w → AreApart w u) → ((t : ℕ) → IsLive w → w.turn ≢ Holding t)
      → LockRule fixed_of past_of o record { words = s.words; homes = s.homes; views = s.views ++ w ∷ [] }
  added s r w sound apart not = record {
    next = r.next;
    serving = r.serving;
    past = r.past;
    words = r.words;
    order = r.order;
    top = r.top;
    each = each_end (λ (u : View F W). IsSound o r.next r.serving r.past u) s.views w sound r.each;
    apart = apart_end s.views w r.apart apart;
    value = ⊎_elim
        (λ h. inl record {
          value = h.value;
          slot = h.slot;
          fixed = h.fixed;
          past_is = h.past_is;
          nobody = λ j u t su. each_end (λ (u : View F W). (t : ℕ) → u.turn ≢ Holding t) s.views w (λ live t. not t live) (λ j u su t. h.nobody j u t su) j u su t;
        })
        (λ h. inr record {
          slot = h.slot;
          holder = h.holder;
          view = h.view;
          seated = (at_longer s.views (w ∷ []) h.holder h.view h.seated.0, h.seated.1);
          holds = h.holds;
          seen = h.seen;
        })
        r.value;
  }

  -- a pass of a part of the numbers
  part_sound : (next serving : ℕ) (past : List (ℕ × W)) (v : View F W) (lo hi : ℕ) → v.lo ≤ lo → lo < hi → hi ≤ v.hi
      → IsSound o next serving past v → IsSound o next serving past (record v { lo = lo; hi = hi })
  part_sound next serving past v lo hi a b c r =
      let w : View F W = record v { lo = lo; hi = hi } in
      let most = r.within in record {
        opening = r.opening;
        some = b;
        within = omega arith;
        seen = r.seen;
        own = own_of_part lo hi v.lo v.hi past v.seen a c r.own;
        ticket = r.ticket;
        holds = r.holds;
        out = r.out;
        noted = r.noted;
      }

  -- a pass is split in two
  pub splits : (id : ℕ) (v : View F W) (cut : ℕ) → v.turn ≡ Idle → v.lo < cut → cut < v.hi → Splits (LockRule fixed_of past_of o) id v (numbers_below cut v) (numbers_from cut v)
  unfolding narrows
  splits id v cut idle low high s r at =
      let l : View F W = numbers_below cut v in
      let w : View F W = numbers_from cut v in
      let left = narrows s r id v l at record { opening = refl; turn = refl; seen = refl; covers = λ k p. let p₀ = p.0 in let p₁ = p.1 in (p₀, omega arith) }
      (part_sound r.next r.serving r.past v v.lo cut (omega arith) low (omega arith)) in
      added record { words = s.words; homes = s.homes; views = set s.views id l } left w
      (λ live. part_sound r.next r.serving r.past v cut v.hi (omega arith) high (omega arith) (r.each id v (at, live)))
      (λ j u su live. each_set (λ (u : View F W). AreApart w u) s.views id l
      (λ _. record { numbers = λ k p q. let p₀ = p.0 in let q₁ = q.1 in absurd (omega arith); tickets = λ t p q. none-some t (sym (ap ticket_of idle) ∙ p) })
      (λ j u ne su. let a = r.apart id j v u (λ e. ne (sym e)) (at, live) su in record {
        numbers = λ k p q. let p₀ = p.0 in let p₁ = p.1 in a.numbers k (omega arith, p₁) q;
        tickets = a.tickets;
      }) j u su)
      (λ t live e. idle_is_not v.turn t idle e)

  -- the last split of a lock: one seat stays as it is, and the other is of no lock
  pub ends : (id : ℕ) (v : View F W) → Splits (LockRule fixed_of past_of o) id v v (closed v)
  ends id v s r at =
      added record { words = s.words; homes = s.homes; views = set s.views id v } (stays s id v r at) (closed v)
      (λ live. absurd (false≢true live)) (λ j u su live. absurd (false≢true live)) (λ t live e. false≢true live)

  both_sound : (next serving : ℕ) (past : List (ℕ × W)) (v w : View F W) → v.turn ≡ Idle → v.hi ≡ w.lo
      → IsSound o next serving past v → IsSound o next serving past w → IsSound o next serving past (both_of v w)
  both_sound next serving past v w idle beside a b =
      let n : View F W = both_of v w in
      let some_v = a.some in
      let some_w = b.some in
      let begins = longer_begins a.seen b.seen in
      let own_v : entries_of v.lo v.hi n.seen ≡ entries_of v.lo v.hi v.seen = own_between v.lo v.hi begins (first_begins a.seen b.seen) a.own in
      let own_w : entries_of w.lo w.hi n.seen ≡ entries_of w.lo w.hi w.seen = own_between w.lo w.hi begins (second_begins a.seen b.seen) b.own in
      record {
        opening = a.opening;
        some = omega arith;
        within = b.within;
        seen = begins;
        own = own_of_both v.lo v.hi w.hi begins (a.own ∙ sym own_v) (subst (λ k. entries_of k w.hi past ≡ entries_of k w.hi n.seen) (sym beside) (b.own ∙ sym own_w));
        ticket = λ t e. absurd (none-some t (sym (ap ticket_of idle) ∙ e));
        holds = λ t e. absurd (idle_is_not v.turn t idle e);
        out = λ e. either_true v.out w.out e a.out b.out;
        noted = All-cons (IsNoted n) (noted_of v) (noted_of w ∷ []) own_v (All-cons (IsNoted n) (noted_of w) [] own_w (All-nil (IsNoted n)));
      }

  -- two passes become one
  pub joins : (id : ℕ) (v : View F W) (other : ℕ) (w : View F W) → IsLive v → IsLive w → v.turn ≡ Idle → w.turn ≡ Idle → v.hi ≡ w.lo
      → Joins (LockRule fixed_of past_of o) id v other w (both_of v w) spent
  unfolding out_set
  joins id v other w live_v live_w idle_v idle_w beside s r at apart there =
      let n : View F W = both_of v w in
      let at_w : get_elem? s.views other ≡ some w = sym (set_else s.views id other n apart) ∙ there in
      let sound_v = r.each id v (at, live_v) in
      let sound_w = r.each other w (at_w, live_w) in
      let some_v = sound_v.some in
      let some_w = sound_w.some in
      let last : View F W = spent in
      let rest : List (View F W) = set s.views other last in
      let swapped : set (set s.views id n) other last ≡ set rest id n = set_comm s.views id other n last (λ e. apart (sym e)) in
      let rest_apart : AllApart rest = apart_set s.views other last r.apart (λ j u ne su live. absurd (false≢true live)) in
      let in_rest : (j : ℕ) (u : View F W) → IsSeated rest j u → (j ≢ other) × IsSeated s.views j u = λ j u su. ⊎_elim
      (λ p. absurd (false≢true (subst (λ (z : View F W). IsLive z) (sym p.1) su.1)))
      (λ p. (p.0, (p.1, su.1)))
      (at_set s.views other j last u su.0) in
      let not_holding : (t : ℕ) → IsLive n → n.turn ≢ Holding t = λ t _ e. idle_is_not v.turn t idle_v e in
      subst (λ (vs : List (View F W)). LockRule fixed_of past_of o record { words = s.words; homes = s.homes; views = vs }) (sym swapped) record {
        next = r.next;
        serving = r.serving;
        past = r.past;
        words = r.words;
        order = r.order;
        top = r.top;
        each = each_set (λ (u : View F W). IsSound o r.next r.serving r.past u) rest id n (λ _. both_sound r.next r.serving r.past v w idle_v beside sound_v sound_w)
            (λ j u _ su. r.each j u (in_rest j u su).1);
        apart = apart_set rest id n rest_apart (λ j u ne su _. let old = in_rest j u su in let a = r.apart id j v u (λ e. ne (sym e)) (at, live_v) old.1 in let b = r.apart other j w u (λ e. old.0 (sym e)) (at_w, live_w) old.1 in record {
          numbers = λ k p q. let p₀ = p.0 in let p₁ = p.1 in dite (dec_lt k v.hi) (λ lt. a.numbers k (p₀, lt) q) (λ ge. b.numbers k (omega arith, p₁) q);
          tickets = λ t p q. none-some t (sym (ap ticket_of idle_v) ∙ p);
        });
        value = ⊎_elim
            (λ h. inl (home_set fixed_of past_of o r.past s.words record { words = s.words; homes = s.homes; views = rest } id n (home_set fixed_of past_of o r.past s.words s other last h (λ t live. absurd (false≢true live))) not_holding))
            (λ h.
            let ne_w = not_holder r.serving r.past s h other w at_w (λ t. idle_is_not w.turn t idle_w) in
            let ne_v = not_holder r.serving r.past s h id v at (λ t. idle_is_not v.turn t idle_v) in
            inr (out_set r.serving r.past s.words record { words = s.words; homes = s.homes; views = rest } id n (out_set r.serving r.past s.words s other last h ne_w) ne_v))
            r.value;
      }

  -- what is found where the lock is closed with a pass of all its numbers
  pub record IsClosed (v : View F W) (x : T) : Type 0 where
    pub fixed : fixed_of x ≡ o.fixed
    pub begins : StartsWith (past_of x) v.seen
    pub own : entries_of v.lo v.hi (past_of x) ≡ entries_of v.lo v.hi v.seen

  pub closes : (id : ℕ) (v : View F W) (ws : List ℕ) (xs : List (Slot T)) → IsLive v → v.turn ≡ Idle → v.lo ≡ 0 → v.hi ≡ o.numbers
      → Final (Seen (LockRule fixed_of past_of o) id v) ws xs → (x : T) × (get_elem? xs 0 ≡ some (in_slot x)) × IsClosed v x
  closes id v ws xs live idle low high f =
      let s = f.0 in
      let r = f.1.0 in
      let at = f.1.1 in
      let was = r.each id v (at, live) in
      let home : IsHome fixed_of past_of o r.past s = ⊎_elim
      (λ h. h)
      (λ h.
      let u = h.view in
      let theirs = r.each h.holder u h.seated in
      let a = theirs.some in
      let b = theirs.within in
      let ne = not_holder r.serving r.past s h id v at (λ t. idle_is_not v.turn t idle) in
      absurd ((r.apart id h.holder v u (λ e. ne (sym e)) (at, live) h.seated).numbers u.lo (omega arith, omega arith) (omega arith, a)))
      r.value in (
        home.value,
        f.4 0 (in_slot home.value) (ap (λ hs. get_elem? hs 0) home.slot),
        record {
          fixed = home.fixed;
          begins = subst (λ l. StartsWith l v.seen) (sym home.past_is) was.seen;
          own = ap (λ l. entries_of v.lo v.hi l) home.past_is ∙ was.own;
        },
      )

  -- the table at the opening
  pub opens : (first : ℕ) (x : T) → first ≤ 2 ^ 63 → 0 < o.numbers → fixed_of x ≡ o.fixed → LockRule fixed_of past_of o (opening (first ∷ first ∷ []) (in_slot x ∷ []) (first_view past_of o x))
  opens first x low some_number fixed =
      let v : View F W = first_view past_of o x in record {
        next = first;
        serving = first;
        past = past_of x;
        words = refl;
        order = omega arith;
        top = low;
        each = λ j u su. subst (λ (z : View F W). IsSound o first first (past_of x) z) (only v j u su.0).1 record {
          opening = refl;
          some = some_number;
          within = omega arith;
          seen = starts_itself (past_of x);
          own = refl;
          ticket = λ t e. absurd (none-some t e);
          holds = λ t e. absurd (idle_is_not Idle t refl e);
          out = λ e. absurd (cc);
          noted = All-nil (IsNoted v);
        };
        apart = λ i j u w ne su sw. absurd (ne ((only v i u su.0).0 ∙ sym (only v j w sw.0).0));
        value = inl record {
          value = x;
          slot = refl;
          fixed = fixed;
          past_is = refl;
          nobody = λ j u t su e. idle_is_not u.turn t (ap (λ (z : View F W). z.turn) (sym (only v j u su.0).1)) e;
        };
      }
