use Rattle.std.proofs.Common.{◌≡◌, refl, sym, subst, ◌∙◌, arith}
use Rattle.spec_history.specs.Conflict.{line_number}
use Rattle.dependences.specs.Conflict.{first_beside}
use Rattle.dependences.specs.KeptTouches.{AreTouches, after_touch}
use Rattle.dependences.specs.KeptWatch.{IsStoredIn}
use Rattle.dependences.proofs.AtHand.{hand_store, stored_alone, touches_inside}
use Rattle.dependences.proofs.Buffering.{inside_at}
use Rattle.dependences.proofs.Sharing.{store_again, touch_again}
use Rattle.dependences.proofs.Watching.{met_before, store_access, store_of, stored_long, watched_store}
use Rattle.dependences.proofs.watch.WatchNotes.store.Goals as goal

pub returns-then-self-clause-right : goal.returns-then-self-clause-right
returns-then-self-clause-right c h memory value next right = (met_before c.args.image.now c.args.self.now h _ memory _ c.if-self.true right.0, right.1)

pub store-alone-requires-clause-access : goal.store-alone-requires-clause-access
store-alone-requires-clause-access c = store_access c.args.image.now c.requires.0 c.args.addr c.args.width c.requires.2 c.requires.3.stops

pub touch-requires-clause-within : goal.touch-requires-clause-within
touch-requires-clause-within c = c.line_of-line.ensures.inside (store_of c.args.image.now c.requires.0 c.args.addr c.args.width c.requires.2 c.requires.3.stops)

pub store-requires-clause-within : goal.store-requires-clause-within
store-requires-clause-within c = c.line_of-line.ensures.inside (store_of c.args.image.now c.requires.0 c.args.addr c.args.width c.requires.2 c.requires.3.stops)

pub store-requires-clause-long : goal.store-requires-clause-long
store-requires-clause-long c =
    rw (c.touch.ensures, c.number-epoch.ensures, c.line_of-line.ensures.line)
    (stored_long c.args.image.now c.args.self.now c.requires.0 c.requires.1 c.args.addr c.args.width c.requires.2 c.requires.4.0 c.if-self.false c.requires.3.stops)

-- the line is at hand
pub returns-then-self-line-clause-right : goal.returns-then-self-line-clause-right
returns-then-self-line-clause-right c h memory value next right =
    let image = c.args.image.now in
    let watch = c.args.self.now in
    let limit = image.machine.buffer_lines in
    let stored = subst (IsStoredIn watch) c.line_of-line.ensures.line (right.1.stored c.line_of-line.result c.if-self-line.true) in
    let access = store_access image h c.args.addr c.args.width value next.stops in
    let inside = touches_inside image watch h memory (line_number image c.args.addr) right.0 c.if-self.false (rw (← c.line_of-line.ensures.line) (c.line_of-line.ensures.inside (store_of image h c.args.addr c.args.width value next.stops))) in
    let touch = touch_again watch.touches limit watch.cores watch.epoch (line_number image c.args.addr) inside stored.touched in
    let store = store_again watch.touches limit watch.cores watch.epoch (line_number image c.args.addr) inside stored.stored in (
      watched_store image watch h memory c.args.addr c.args.width value right.0 c.if-self.false next.stops watch.lines watch.touches
          (stored_alone image watch c.args.addr c.args.width right.0.limits access stored) (rw touch (sym store)) watch refl refl refl refl c.if-self.false,
      right.1,
    )

pub returns-clause-right : goal.returns-clause-right
returns-clause-right c h memory value next right =
    let image = c.args.image.now in
    let watch = c.args.self.now in
    let limit = image.machine.buffer_lines in
    let line = c.line_of-line.result in
    let first : c.first_beside-first.result ≡ first_beside watch.cores watch.epoch = c.first_beside-first.ensures ∙ rw c.number-epoch.ensures refl in
    let within = c.line_of-line.ensures.inside (store_of image h c.args.addr c.args.width value next.stops) in
    let inside = touches_inside image watch h memory line right.0 c.if-self.false within in
    let long : AreTouches image (after_touch watch.touches limit watch.cores watch.epoch line) = rw c.line_of-line.ensures.line (stored_long image watch h memory c.args.addr c.args.width value right.0 c.if-self.false next.stops) in
    let inside' = inside_at image watch.epoch line (after_touch watch.touches limit watch.cores watch.epoch line) right.0.limits long right.0.within within in (
      watched_store image watch h memory c.args.addr c.args.width value right.0 c.if-self.false next.stops c.store-alone.new.self c.store.new.self (rw (← first) c.store-alone.ensures.stored)
          (rw (← c.number-epoch.ensures, ← c.line_of-line.ensures.line, ← c.touch.ensures) c.store.ensures) _ refl refl refl refl c.if-self.false,
      hand_store watch _ limit line inside inside' right.1 refl refl c.store-alone.ensures.noted (rw (← c.number-epoch.ensures, ← c.touch.ensures) c.store.ensures) refl (λ l is. rw (← first) (c.store-alone.ensures.alone l is)),
    )

pub line_of-line-requires : goal.line_of-line-requires
line_of-line-requires c = let below = store_of c.args.image.now c.requires.0 c.args.addr c.args.width c.requires.2 c.requires.3.stops in omega (arith, below)

pub store-alone-requires-clause-inside : goal.store-alone-requires-clause-inside
store-alone-requires-clause-inside c = c.line_of-line.ensures.inside (store_of c.args.image.now c.requires.0 c.args.addr c.args.width c.requires.2 c.requires.3.stops)
