use Rattle.gain.proofs.Waitings.{lines_over}
use Rattle.gain.proofs.stores.push_lines_of.Goals as goal

pub returns : goal.returns
returns c =
    lines_over c.push_evens_of.result c.args.asked.now.study.now c.args.asked.now.addresses.now c.args.asked.now.image.now c.args.store c.args.word.now c.args.text.now.items c.push_runs.new.text.items c.push_evens_of.new.text.items
    c.in_ok-waiting.waiting c.in_ok-waiting.ensures c.in_ok-push_runs.ensures c.push_evens_of.ensures
