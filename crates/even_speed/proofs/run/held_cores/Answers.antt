use Rattle.std.proofs.Common.{◌<◌, None, length, option_map, slice_set, sym, ap, subst, ◌∙◌, arith}
use Rattle.std.proofs.lemmas.List.{get_or_default, length-set}
use Rattle.memory_bytes.specs.Shadow.{byte_in}
use Rattle.rv32_exec.specs.Arrival.{Arrival}
use Rattle.homefree.specs.Acted.{IfArrived}
use Rattle.homefree.specs.Held.{harts_of, held_at}
use Rattle.even_speed.specs.Held.{held_in, is_held}
use Rattle.even_speed.specs.Holds.{holding_of}
use Rattle.even_speed.specs.Kept.{is_held_in}
use Rattle.even_speed.specs.Owns.{own_at}
use Rattle.even_speed.specs.Seats.{epoch_kept}
use Rattle.even_speed.proofs.Seated.{held_by_seat, held_in_none, held_more, none_waits, one_set}
use Rattle.even_speed.proofs.run.held_cores.Goals as goal

pub returns-then-holds_none : goal.returns-then-holds_none
returns-then-holds_none g c k below =
    none_waits 16 k ∙ sym (held_in_none c.args.book.now c.args.holds.now (harts_of c.args.held.now) k (sym c.holds_none.ensures ∙ c.if-holds_none.true))

pub is_held-waits-requires : goal.is_held-waits-requires
is_held-waits-requires g c =
    let there : c.loop-core.core < length c.args.held.now = omega (arith, c.loop-core-test.true, c.requires.few, c.type_inv.held) in
    subst (IfArrived c.args.image.now) (get_or_default c.args.held.now c.loop-core.core None c.index-held-core.result there)
    (subst (λ i. IfArrived i (held_at c.args.held.now c.loop-core.core)) c.requires.image (c.requires.held c.loop-core.core))

pub loop-core-preserved : goal.loop-core-preserved
loop-core-preserved g c =
    let core = c.loop-core.core in
    let image = c.args.image.now in
    let step = c.homefree-first.ensures.step in
    let seat = c.seat_of-seat.result in
    let own = own_at c.args.owns.now core in
    let h = holding_of c.args.holds.now in
    let home = c.homefree-first.result in
    let there : core < length c.args.held.now = omega (arith, c.loop-core-test.true, c.requires.few, c.type_inv.held) in
    let set = one_set c.loop-core.waiting core c.is_held-waits.result (omega (arith, c.loop-core-test.true, c.requires.few, c.loop-core.invariant.long)) in record {
      long = length-set c.loop-core.waiting core c.is_held-waits.result ∙ c.loop-core.invariant.long;
      are = held_more core c.is_held-waits.result (is_held_in c.loop-core.waiting) (is_held_in (slice_set c.loop-core.waiting core c.is_held-waits.result)) (held_in h c.args.book.now (harts_of c.args.held.now)) set
          (c.is_held-waits.ensures
          ∙ (ap (λ o. is_held h image home (epoch_kept seat) (byte_in c.bytes_of-own.result.now.cells) (option_map (λ (a : Arrival). a.base) o)) (get_or_default c.args.held.now core c.index-held-core.result None there)
          ∙ (ap (λ bytes. is_held h image home (epoch_kept seat) bytes (harts_of c.args.held.now core)) c.bytes_of-own.ensures
          ∙ (ap (λ i. is_held h i home (epoch_kept seat) own.bytes (harts_of c.args.held.now core)) (sym c.requires.image)
          ∙ held_by_seat c.args.book.now c.args.holds.now (harts_of c.args.held.now) step.state core home seat own step.replays (c.homefree-first.ensures.homefree step.state step.replays)
          (c.seat_of-seat.ensures ∙ c.requires.seats core) (λ some. c.requires.owns some core))))) c.loop-core.invariant.are;
    }
