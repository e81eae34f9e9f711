use Rattle.std.proofs.Common.{◌≡◌, ◌<◌, ◌≤◌, ◌+◌, ◌&&◌, Bool, true, false, nat_le, nat_lt, refl, sym, ap, ◌∙◌, inl, inr, arith, le-leb, lt-ltb, leb-true}
use Rattle.std.proofs.lemmas.Bool.{cases_eq, and_parts}
use Rattle.spec_history.proofs.Searches.Tests.{all_fail, one_passes}
use Rattle.conflicts.specs.Attempts.{covers}
use Rattle.spec_history.specs.Conflict.{is_changed}
use Rattle.conflicts.specs.Parties.{meeting_in}
use Rattle.conflicts.proofs.Finding.{all_so}
use Rattle.conflict_findings.proofs.run.changes.Goals as goal

only_covered : (b t : Bool) → (b ≡ true → t ≡ false) → (b && t) ≡ false
only_covered true t fails = fails refl
only_covered false t fails = refl

pub loop-addr-init : goal.loop-addr-init
loop-addr-init c a from below = absurd (omega (arith, from, below))

pub returns-then-is_changed : goal.returns-then-is_changed
returns-then-is_changed c =
    let addr = c.loop-addr.addr in
    let bytes = c.args.bytes in
    let below : addr < c.end_of-addr-end.result = omega (arith, c.loop-addr-test.true) in
    let from : bytes.first ≤ addr = omega arith in
    sym (one_passes c.args.flat.now.image.size (λ a. covers bytes.first bytes.length a && is_changed (meeting_in c.args.flat.now c.args.parties.now) a) addr (omega (arith, below, (rw c.image.ensures at c.end_of-addr-end.ensures.within)))
    (all_so _ _ _ (le-leb bytes.first addr from) (lt-ltb addr (bytes.first + bytes.length) (c.end_of-addr-end.ensures.inside addr below)) (sym c.is_changed.ensures ∙ c.if-is_changed.true)))

pub loop-addr-preserved : goal.loop-addr-preserved
loop-addr-preserved c a from below =
    elim (cases_eq a c.loop-addr.addr) [
      | inl e ↦ ap (is_changed (meeting_in c.args.flat.now c.args.parties.now)) e ∙ (sym c.is_changed.ensures ∙ c.if-is_changed.false)
      | inr other ↦ c.loop-addr.invariant a from (omega (arith, below, other))
    ]

pub returns : goal.returns
returns c =
    let bytes = c.args.bytes in
    sym (all_fail c.args.flat.now.image.size (λ a. covers bytes.first bytes.length a && is_changed (meeting_in c.args.flat.now c.args.parties.now) a) (λ a within. only_covered _ _ (λ is.
    c.loop-addr.invariant a (leb-true bytes.first a (and_parts (nat_le bytes.first a) (nat_lt a (bytes.first + bytes.length)) is).0)
    (omega (arith, c.loop-addr-test.false, (rw c.image.ensures at c.end_of-addr-end.ensures.covered) a is within)))))
