use Rattle.std.proofs.Common.{refl, sym, subst, ◌∙◌, arith}
use Rattle.spec_history.specs.Conflict.{line_number}
use Rattle.dependences.specs.KeptLines.{MeetsLine}
use Rattle.dependences.specs.KeptWatch.{IsQuiet}
use Rattle.dependences.proofs.AtHand.{hand_again, hand_load, quiet_unmet, touches_inside}
use Rattle.dependences.proofs.Sharing.{touch_again}
use Rattle.dependences.proofs.Watching.{access_of, load_access, met_before, met_now, watched_load}
use Rattle.dependences.proofs.watch.WatchNotes.load.Goals as goal

pub returns-then-self-clause-right : goal.returns-then-self-clause-right
returns-then-self-clause-right c h memory signed rd next right = (met_before c.args.image.now c.args.self.now h _ memory memory c.if-self.true right.0, right.1)

pub look-look-requires-clause-access : goal.look-look-requires-clause-access
look-look-requires-clause-access c = load_access c.args.image.now c.requires.0 c.args.addr c.args.width c.requires.2 c.requires.3 c.requires.4.stops

pub touch-requires-clause-within : goal.touch-requires-clause-within
touch-requires-clause-within c = c.line_of-line.ensures.inside (access_of c.args.image.now c.requires.0 c.args.addr c.args.width c.requires.2 c.requires.3 c.requires.4.stops)

-- the line is at hand
pub returns-then-self-line-clause-right : goal.returns-then-self-line-clause-right
returns-then-self-line-clause-right c h memory signed rd next right =
    let image = c.args.image.now in
    let watch = c.args.self.now in
    let quiet = subst (IsQuiet watch) c.line_of-line.ensures.line (right.1.quiet c.line_of-line.result c.if-self-line.true) in
    let access = load_access image h c.args.addr c.args.width signed rd next.stops in
    let inside = touches_inside image watch h memory (line_number image c.args.addr) right.0 c.if-self.false (rw (← c.line_of-line.ensures.line) (c.line_of-line.ensures.inside (access_of image h c.args.addr c.args.width signed rd next.stops))) in (
      watched_load image watch h memory c.args.addr c.args.width signed rd right.0 c.if-self.false next.stops (quiet_unmet image watch c.args.addr c.args.width right.0.limits access quiet)
          watch.touches (sym (touch_again watch.touches image.machine.buffer_lines watch.cores watch.epoch (line_number image c.args.addr) inside quiet.touched)) watch refl refl refl refl c.if-self.false,
      right.1,
    )

pub returns-then-look-clause-right : goal.returns-then-look-clause-right
returns-then-look-clause-right c h memory signed rd next right = (
  met_now c.args.image.now c.args.self.now h memory c.args.addr c.args.width signed rd right.0 c.if-self.false next.stops
      (subst (λ n. MeetsLine c.args.image.now c.args.self.now.lines c.args.self.now.epoch n c.args.addr c.args.width)
      (c.first_beside-first.ensures ∙ rw c.number-epoch.ensures refl) (c.look-look.ensures.found c.if-look.true)) _ _,
  hand_again c.args.self.now _ right.1 refl refl refl refl refl refl,
)

pub returns-clause-right : goal.returns-clause-right
returns-clause-right c h memory signed rd next right =
    let image = c.args.image.now in
    let watch = c.args.self.now in
    let first = c.first_beside-first.ensures ∙ rw c.number-epoch.ensures refl in
    let inside = touches_inside image watch h memory c.line_of-line.result right.0 c.if-self.false (c.line_of-line.ensures.inside (access_of image h c.args.addr c.args.width signed rd next.stops)) in (
      watched_load image watch h memory c.args.addr c.args.width signed rd right.0 c.if-self.false next.stops
          (subst (λ n. MeetsLine image watch.lines watch.epoch n c.args.addr c.args.width → ⊥) first (c.look-look.ensures.none c.if-look.false))
          c.touch.new.self (rw (← c.number-epoch.ensures, ← c.line_of-line.ensures.line) c.touch.ensures) _ refl refl refl refl c.if-self.false,
      hand_load watch _ image.machine.buffer_lines c.line_of-line.result inside right.1 refl refl refl (rw (← c.number-epoch.ensures) c.touch.ensures) refl (λ l is. rw (← first) (c.look-look.ensures.quiet l is)),
    )

pub line_of-line-requires : goal.line_of-line-requires
line_of-line-requires c = let below = access_of c.args.image.now c.requires.0 c.args.addr c.args.width c.requires.2 c.requires.3 c.requires.4.stops in omega (arith, below)

pub look-look-requires-clause-inside : goal.look-look-requires-clause-inside
look-look-requires-clause-inside c = c.line_of-line.ensures.inside (access_of c.args.image.now c.requires.0 c.args.addr c.args.width c.requires.2 c.requires.3 c.requires.4.stops)
