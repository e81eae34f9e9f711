use Rattle.std.proofs.Common.{◌≡◌, length, slice_index, ap, ◌∙◌, rules}
use Rattle.memory_bytes.specs.Bytes.{with_number}
use Rattle.memory_bytes.proofs.Bytes.{length-with_number, with_number_bytes}
use Rattle.violations.proofs.Publishing.{whole_items}
use Rattle.violations.proofs.core_states.commit_number.Goals as goal

pub returns-clause-bytes : goal.returns-clause-bytes
returns-clause-bytes c =
    let old = c.args.committed.now.items in
    let xs = c.write_number.new.bytes in
    let written : xs ≡ with_number old c.args.addr c.args.width c.args.value =
    c.write_number.ensures ∙ ap (λ bytes. with_number bytes c.args.addr c.args.width c.args.value) c.deref_mut.ensures.value in
    let long : length xs ≡ length old = ap length written ∙ length-with_number old c.args.addr c.args.width c.args.value in
    let count : c.args.committed.now.len ≡ length old = search rules in
    let items = whole_items old xs c.args.committed.now.len count long in
    λ a. ap (λ bytes. slice_index bytes a) (items ∙ written) ∙ with_number_bytes old c.args.addr c.args.width c.args.value c.requires.within a
