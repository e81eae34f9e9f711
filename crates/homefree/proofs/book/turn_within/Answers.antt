use Rattle.std.proofs.Common.{length, option_copied, refl, ap}
use Rattle.homefree.specs.BookInside.{book_of}
use Rattle.homefree.proofs.Books.Turns.{fits_same, in_step, book_same, turned_refused, turned_acts, may_note, book_acts, acts_most, same_most, has_free, has_room}
use Rattle.homefree.proofs.Cases.Moving.{turn_takes}
use Rattle.homefree.proofs.Retracing.Books.{reached_hart, retraced_same, retraced_turn, waits_still}
use Rattle.homefree.proofs.book.turn_within.Goals as goal

pub returns-in_default-make_room-clause-book : goal.returns-in_default-make_room-clause-book
returns-in_default-make_room-clause-book g c =
    let p = c.args.parts.now in
    let q = c.make_room.new.parts in
    book_same g.S.EpochStore.view p.register q.register p.store q.store c.args.room c.args.stopped
    c.requires.book c.make_room.ensures.register c.make_room.ensures.store

pub returns-in_default-make_room-clause-turned : goal.returns-in_default-make_room-clause-turned
returns-in_default-make_room-clause-turned g c =
    let p = c.args.parts.now in
    let q = c.make_room.new.parts in
    let free = has_free p.register c.free_entries-free.result c.args.room c.len.result c.free_entries-free.ensures c.len.ensures c.if-room-len.false c.requires.book.within in
    turned_refused g.S.EpochStore.view g.S.EpochStore.waits p.register q.register p.store q.store c.args.room c.args.core c.args.stopped c.args.shares.now
    (option_copied c.args.next) c.requires.book.fits c.in_default.is c.in_default-stopped.is free c.make_room.ensures.register c.make_room.ensures.store c.make_room.ensures.waits

pub turn-came-requires-clause-notes : goal.turn-came-requires-clause-notes
turn-came-requires-clause-notes g c κs lives =
    let p = c.args.parts.now in
    let q = c.make_room.new.parts in
    may_note g.S.EpochStore.view p.register q.register p.store c.args.room c.args.shares.now c.args.stopped c.requires.book c.make_room.ensures.register
    (has_room p.register q.register c.free_entries-free.result c.free_entries-free.ensures c.in-Ok.ensures.room) c.requires.shares

pub turn-came-requires-clause-fits : goal.turn-came-requires-clause-fits
turn-came-requires-clause-fits g c κs lives =
    let p = c.args.parts.now in
    let q = c.make_room.new.parts in
    fits_same p.register q.register (g.S.EpochStore.view p.store) (g.S.EpochStore.view q.store)
    c.requires.book.fits c.make_room.ensures.register c.make_room.ensures.store

pub returns-clause-book : goal.returns-clause-book
returns-clause-book g c =
    let p = c.args.parts.now in
    let q = c.make_room.new.parts in
    let free = has_free p.register c.free_entries-free.result c.args.room c.len.result c.free_entries-free.ensures c.len.ensures c.if-room-len.false c.requires.book.within in
    book_acts g.S.EpochStore.view p.register q.register c.turn-came.new.self.register p.store q.store c.turn-came.new.self.store c.args.room c.args.core c.args.stopped
    c.args.shares.now c.turn-came.new.shares (option_copied c.args.next) _ c.requires.book c.in_default.is c.in_default-stopped.is c.make_room.ensures.register c.requires.core free c.look.ensures c.make_room.ensures.store
    (fits_same p.register q.register (g.S.EpochStore.view p.store) (g.S.EpochStore.view q.store) c.requires.book.fits c.make_room.ensures.register c.make_room.ensures.store) c.turn-came.ensures.acted

pub returns-clause-turned : goal.returns-clause-turned
returns-clause-turned g c =
    let p = c.args.parts.now in
    let q = c.make_room.new.parts in
    let free = has_free p.register c.free_entries-free.result c.args.room c.len.result c.free_entries-free.ensures c.len.ensures c.if-room-len.false c.requires.book.within in
    rw c.answer_of.ensures (turned_acts g.S.EpochStore.view g.S.EpochStore.waits p.register q.register p.store q.store c.args.room c.args.core c.args.stopped c.args.shares.now
    (option_copied c.args.next) c.requires.book.fits c.in_default.is c.in_default-stopped.is free c.make_room.ensures.register c.make_room.ensures.store c.make_room.ensures.waits
    c.turn-came.new.self.register c.turn-came.new.self.store c.turn-came.new.shares _ c.turn-came.ensures.acted)

pub returns-in_default-make_room-clause-most : goal.returns-in_default-make_room-clause-most
returns-in_default-make_room-clause-most g c =
    let p = c.args.parts.now in
    same_most p.register.image.version p.register.history.items c.make_room.new.parts.register.history.items c.make_room.ensures.register.history

pub returns-clause-most : goal.returns-clause-most
returns-clause-most g c =
    let p = c.args.parts.now in
    let q = c.make_room.new.parts in
    acts_most g.S.EpochStore.view p.register q.register c.turn-came.new.self.register p.store q.store c.turn-came.new.self.store c.args.room c.args.core c.args.stopped
    c.args.shares.now c.turn-came.new.shares (option_copied c.args.next) _ c.requires.book c.make_room.ensures.register c.turn-came.ensures.acted

pub returns-clause-moves : goal.returns-clause-moves
returns-clause-moves g c = λ s answer replays may is.
    let p = c.args.parts.now in
    let q = c.make_room.new.parts in
    turn_takes g.S.EpochStore.makes g.S.EpochStore.view g.S.EpochStore.waits p.register q.register p.store q.store c.turn-came.new.self.store c.args.room c.args.core c.args.stopped
    (option_copied c.args.next) c.requires.book.fits c.make_room.ensures.register c.make_room.ensures.waits c.in-Ok.ensures.makes c.turn-came.ensures.moves s replays

pub returns-in_default-make_room-clause-retraced : goal.returns-in_default-make_room-clause-retraced
returns-in_default-make_room-clause-retraced g c =
    let p = c.args.parts.now in
    let q = c.make_room.new.parts in
    let same = c.make_room.ensures.register in
    retraced_same g.S.EpochStore.starts g.S.EpochStore.makes g.S.EpochStore.view g.S.EpochStore.waits c.calls_are_fixed.ensures.rooms (book_of p.register p.store c.args.room c.args.stopped)
    (book_of q.register q.store c.args.room c.args.stopped) same.image (ap (λ v. length v.items) same.running) refl same.history same.totals c.make_room.ensures.still c.requires.retraced

pub returns-clause-retraced : goal.returns-clause-retraced
returns-clause-retraced g c =
    let p = c.args.parts.now in
    let q = c.make_room.new.parts in
    let n = c.turn-came.new.self in
    let s = c.requires.book.fits.state in
    let leads = c.requires.book.fits.replays in
    retraced_turn g.S.EpochStore.starts g.S.EpochStore.makes g.S.EpochStore.view g.S.EpochStore.waits c.calls_are_fixed.ensures.rooms (book_of p.register p.store c.args.room c.args.stopped)
    (book_of n.register n.store c.args.room c.args.stopped) s c.args.shares.now c.turn-came.new.shares c.args.core (option_copied c.args.next) c.answer_of.result
    (in_step g.S.EpochStore.view p.register p.store c.args.room c.args.stopped c.requires.book) c.requires.retraced leads c.requires.core
    (λ may. returns-clause-moves g c s c.answer_of.result leads may refl)
    (waits_still g.S.EpochStore.makes g.S.EpochStore.view g.S.EpochStore.waits p.register q.register p.store q.store n.store s c.args.core c.requires.book.fits leads c.make_room.ensures.register
    c.make_room.ensures.still c.turn-came.ensures.still)
    (reached_hart n.register (g.S.EpochStore.view n.store) n.store c.args.room c.args.core c.args.stopped c.turn-came.result c.answer_of.result c.turn-came.ensures.acted.fits c.answer_of.ensures)
    (returns-clause-turned g c s leads)
