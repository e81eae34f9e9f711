use Rattle.std.proofs.Common.{option_copied}
use Rattle.homefree.specs.Counted.{counted_in}
use Rattle.homefree.proofs.Books.Tallies.{shares_still}
use Rattle.homefree.proofs.Books.Following.{turn_grows, turn_why, turn_never_again, turn_ends, turn_full}
use Rattle.homefree.proofs.Books.Unstopped.{turn_stopped}
use Rattle.homefree.proofs.book.Book.turn.Goals as goal

pub returns-clause-grows : goal.returns-clause-grows
returns-clause-grows g c =
    let i = c.look.ensures in
    turn_grows g.S.EpochStore.view g.S.EpochStore.waits c.args.self.now c.take_turn.new.self i.state c.args.shares.now c.take_turn.new.shares c.args.core (option_copied c.args.next) c.take_turn.result i.replays
    (c.take_turn.ensures.turned i.state i.replays).turned

pub returns-clause-shares : goal.returns-clause-shares
returns-clause-shares g c =
    let i = c.look.ensures in
    let grows = turn_grows g.S.EpochStore.view g.S.EpochStore.waits c.args.self.now c.take_turn.new.self i.state c.args.shares.now c.take_turn.new.shares c.args.core (option_copied c.args.next) c.take_turn.result i.replays
    (c.take_turn.ensures.turned i.state i.replays).turned in
    shares_still c.args.shares.now c.args.self.now.totals c.take_turn.new.shares c.take_turn.new.self.totals (counted_in grows.entries) c.requires.shares grows.held grows.totals

pub returns-clause-again : goal.returns-clause-again
returns-clause-again g c = λ s replays.
    turn_why g.S.EpochStore.view g.S.EpochStore.waits c.args.self.now c.take_turn.new.self s c.args.shares.now c.take_turn.new.shares c.args.core (option_copied c.args.next) c.take_turn.result replays
    c.look.ensures (c.take_turn.ensures.turned s replays).turned

pub returns-clause-homefree : goal.returns-clause-homefree
returns-clause-homefree g c = λ s cause replays home.
    turn_never_again g.S.EpochStore.view g.S.EpochStore.waits c.args.self.now c.take_turn.new.self s c.args.shares.now c.take_turn.new.shares c.args.core (option_copied c.args.next) c.take_turn.result replays
    home.running cause home.runs home.is_homefree (c.take_turn.ensures.turned s replays).turned

pub returns-clause-over : goal.returns-clause-over
returns-clause-over g c = λ end u is leads.
    let i = c.look.ensures in
    turn_ends g.S.EpochStore.view g.S.EpochStore.waits c.args.self.now c.take_turn.new.self i.state c.args.shares.now c.take_turn.new.shares c.args.core (option_copied c.args.next) c.take_turn.result i.replays
    i (c.take_turn.ensures.turned i.state i.replays).turned end is u leads

pub returns-clause-full : goal.returns-clause-full
returns-clause-full g c = λ is.
    let i = c.look.ensures in
    turn_full g.S.EpochStore.view g.S.EpochStore.waits c.args.self.now c.take_turn.new.self i.state c.args.shares.now c.take_turn.new.shares c.args.core (option_copied c.args.next) c.take_turn.result i.replays
    (c.take_turn.ensures.turned i.state i.replays).turned is

pub returns-clause-stopped : goal.returns-clause-stopped
returns-clause-stopped g c = λ cause is.
    let i = c.look.ensures in
    turn_stopped g.S.EpochStore.view g.S.EpochStore.waits c.args.self.now c.take_turn.new.self i.state c.args.shares.now c.take_turn.new.shares c.args.core (option_copied c.args.next) c.take_turn.result cause
    (c.take_turn.ensures.turned i.state i.replays).turned is
