use Rattle.std.proofs.Common.{◌<◌, List, All, drop, sym, ap, subst, ◌∙◌, arith}
use Rattle.rv32_image.proofs.Bounds.{most_few}
use Rattle.spec_history.specs.declared.entry.Entry.{Entry}
use Rattle.even_speed.specs.Seats.{seat_at, seats_after}
use Rattle.even_speed.proofs.Seated.{few_by, rest_is, seats_noted}
use Rattle.even_speed.proofs.run.note_from.Goals as goal

pub returns : goal.returns
returns g c =
    seats_noted (seat_at c.args.seats.now) (seat_at c.note_all.new.seats) c.args.place c.args.book.now.history c.requires.seats
    (λ k. c.note_all.ensures k ∙ (ap (λ l. seats_after (seat_at c.args.seats.now) l k) (rest_is c.args.place c.history.result.now)
    ∙ ap (λ l. seats_after (seat_at c.args.seats.now) (drop c.args.place l) k) c.history.ensures))

pub note_all-requires : goal.note_all-requires
note_all-requires g c =
    subst (All (λ (e : Entry). e.by < 16)) (sym (rest_is c.args.place c.history.result.now))
    (subst (λ (l : List Entry). All (λ (e : Entry). e.by < 16) (drop c.args.place l)) (sym c.history.ensures)
    (few_by c.args.book.now.cores c.args.place c.args.book.now.history (omega (arith, c.look.ensures.core_count.most, most_few c.args.book.now.image.version)) c.look.ensures.by_cores))
