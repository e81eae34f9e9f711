use Rattle.std.proofs.Common.{◌≡◌, ◌<◌, ◌≤◌, ◌/◌, ℕ, List, [], ap, length, rules, subst, ◌∙◌}
use Rattle.std.proofs.lemmas.Result.{on_ok_weaker}
use Rattle.violations.specs.Plain.{store_view}
use Rattle.turn_steps.specs.declared.kept_row.KeptRow.{KeptRow}
use Rattle.turn_steps.specs.KeptCores.{kept_in}
use Rattle.turn_steps.proofs.PlainCores.{found_core, owned_row, stored_none}
use Rattle.turn_steps.proofs.plain.PlainStoreShownStore.push_own_rows.Goals as goal

pub returns-in-Some-clause-own : goal.returns-in-Some-clause-own
returns-in-Some-clause-own c old are =
    let there : c.args.core < length c.args.shown.now.cores.items
    = subst (λ (l : List (List (ℕ × KeptRow))). c.args.core < length l) c.deref.ensures.value c.in-Some.ensures.lookup.3.0 in
    let found : c.in-Some.kept.now ≡ kept_in c.args.shown.now.cores.items c.args.core
    = c.in-Some.ensures.lookup.3.1 [] ∙ ap (λ (l : List (List (ℕ × KeptRow))). kept_in l c.args.core) c.deref.ensures.value in
    on_ok_weaker c.push_own_rows.result
    (λ all a within own. owned_row (store_view old) c.args.core a c.args.rows.now c.push_own_rows.new.rows (all (a / 16) within) own)
    (c.push_own_rows.ensures.own (store_view old) c.args.core
    (found_core c.args.shown.now.size c.args.shown.now.cores.items old c.args.core c.in-Some.kept.now are there found))

pub returns-in-None-clause-own : goal.returns-in-None-clause-own
returns-in-None-clause-own c old are a within own =
    let past : length c.args.shown.now.cores.items ≤ c.args.core = search rules in
    absurd (stored_none c.args.shown.now.size c.args.shown.now.cores.items old c.args.core a are past own)
