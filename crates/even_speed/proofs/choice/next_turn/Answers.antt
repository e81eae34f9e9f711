use Rattle.std.proofs.Common.{rules, ◌≡◌, ◌<◌, Bool, None, cond, sym, ap, arith, ◌∙◌}
use Rattle.homefree.specs.Held.{harts_of}
use Rattle.even_speed.specs.declared.clock.Clock.{Clock}
use Rattle.even_speed.specs.Clocks.{clock_at, due_of, dues}
use Rattle.even_speed.specs.Held.{held_in}
use Rattle.even_speed.specs.Holds.{holding_of}
use Rattle.even_speed.specs.Kept.{is_held_in}
use Rattle.even_speed.proofs.choice.next_turn.Goals as goal

same_due : (held held' : Bool) (clock : Clock) → held ≡ held' → cond held None (due_of clock.next) ≡ cond held' None (due_of clock.next)
same_due held held' clock same = ap (λ b. cond b None (due_of clock.next)) same

pub loop-core-preserved : goal.loop-core-preserved
loop-core-preserved g c =
    let below : c.loop-core.core < c.args.book.now.cores = omega (arith, c.loop-core-test.true, c.len-core-end.ensures, c.requires.cores) in
    c.with_core-found.ensures (dues (held_in (holding_of c.args.terms.now.holds) c.args.book.now (harts_of c.args.hands.now)) (clock_at c.args.clocks.now.items)) c.loop-core.invariant
    (same_due (held_in (holding_of c.args.terms.now.holds) c.args.book.now (harts_of c.args.hands.now) c.loop-core.core) (is_held_in c.args.waiting.now c.loop-core.core)
    (clock_at c.args.clocks.now.items c.loop-core.core) (sym (c.requires.waiting c.loop-core.core below)) ∙ sym c.due-due.ensures)

pub with_core-found-requires : goal.with_core-found-requires
with_core-found-requires g c = (
  search rules,
  record { there = omega (arith, c.loop-core-test.true, c.len-core-end.ensures, c.requires.cores); few = c.requires.few; came = c.requires.hands },
)
