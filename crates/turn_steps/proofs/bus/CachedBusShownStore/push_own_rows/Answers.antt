use Rattle.std.proofs.Common.{◌≡◌, ◌<◌, ◌≤◌, ◌∙◌, Some, ap, sym, refl, length, get_or, slice_get, nat_lt, true, false, arith}
use Rattle.std.proofs.lemmas.Bool.Decides.{nat_tests}
use Rattle.std.proofs.lemmas.Option.{slice_get_past, slice_get_read}
use Rattle.std.proofs.lemmas.Result.{on_ok_weaker}
use Rattle.turn_steps.proofs.BusRows.{has_no_row, has_row}
use Rattle.turn_steps.proofs.bus.CachedBusShownStore.push_own_rows.Goals as goal

pub returns-in-Some-clause-own : goal.returns-in-Some-clause-own
returns-in-Some-clause-own c = λ old shows.
    let cores = c.args.shown.now.cores.items in
    let test : nat_lt c.args.core (length c.deref.result.now) ≡ true = sym c.in-Some.ensures.lookup.0 in
    let within : c.args.core < length c.deref.result.now = grind (arith, nat_tests) in
    let below : c.args.core < length cores = omega (arith, within, ap length c.deref.ensures.value) in
    let there : slice_get cores c.args.core ≡ Some c.in-Some.held.now =
    slice_get_read cores _ c.args.core c.in-Some.held.now refl below (c.in-Some.ensures.lookup.1 ∙ ap (λ l. get_or l c.args.core c.in-Some.held.now) c.deref.ensures.value) in
    on_ok_weaker c.push_own_rows.result
    (λ own a inside stored. has_row c.args.shown.now.layout.machine c.args.shown.now.layout.size old c.args.core cores c.push_own_rows.new.rows shows c.in-Some.held.now there own a inside stored)
    c.push_own_rows.ensures.own

pub returns-in-None-clause-own : goal.returns-in-None-clause-own
returns-in-None-clause-own c = λ old shows a inside stored.
    let cores = c.args.shown.now.cores.items in
    let test : nat_lt c.args.core (length c.deref.result.now) ≡ false = sym c.in-None.ensures.lookup.0 in
    let beyond : length c.deref.result.now ≤ c.args.core = grind (arith, nat_tests) in
    let past : length cores ≤ c.args.core = omega (arith, beyond, ap length c.deref.ensures.value) in
    has_no_row c.args.shown.now.layout.machine c.args.shown.now.layout.size old c.args.core cores c.args.rows.now shows (slice_get_past cores c.args.core past) a stored
