use Rattle.std.proofs.Common.{◌≡◌, ◌<◌, ◌∙◌, ℕ, Bool, true, false, sym, refl, true≢false, arith}
use borrow.Author.Count.{below_more}
use Rattle.bus_states.specs.Bus.{some_core}
use Rattle.bus_states.proofs.Coherence.{none_below, none_at_all}
use Rattle.spec_bus.specs.Cached.{bus, line_of}
use Rattle.turn_costs.specs.Accesses.{is_modified_at}
use Rattle.turn_costs.proofs.bus.is_modified_elsewhere.Goals as goal

some_is : (n : ℕ) (test : ℕ → Bool) (k : ℕ) → k < n → test k ≡ true → some_core n test ≡ true
some_is n test k lt is = by (some_core n test) refl
  where
    by : (b : Bool) → some_core n test ≡ b → some_core n test ≡ true
    by true e = e
    by false e = absurd (true≢false (sym is ∙ none_below n test e k lt))

pub loop-k-preserved : goal.loop-k-preserved
loop-k-preserved c =
    below_more (λ j. is_modified_at (bus c.args.bus.now) c.args.core (line_of c.args.bus.now c.args.addr) j ≡ false) c.loop-k.k c.loop-k.invariant
    (sym c.is_modified_at.ensures ∙ c.if-is_modified_at.false)

pub returns-then-is_modified_at : goal.returns-then-is_modified_at
returns-then-is_modified_at c =
    sym (some_is (bus c.args.bus.now).shape.cores (is_modified_at (bus c.args.bus.now) c.args.core (line_of c.args.bus.now c.args.addr)) c.loop-k.k (omega arith)
    (sym c.is_modified_at.ensures ∙ c.if-is_modified_at.true))

pub returns : goal.returns
returns c =
    sym (none_at_all (bus c.args.bus.now).shape.cores (is_modified_at (bus c.args.bus.now) c.args.core (line_of c.args.bus.now c.args.addr))
    (λ j lt. c.loop-k.invariant j (omega arith)))
