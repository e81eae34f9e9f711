use Rattle.std.proofs.Common.{◌≡◌, ◌∙◌, length, take, refl, sym, ap, arith}
use Rattle.std.proofs.lemmas.List.{take_all}
use Rattle.spec_history.specs.Replay.{replay}
use Rattle.spec_history.specs.View.{state_in}
use Rattle.conflict_text.proofs.finding.gather.Goals as goal

pub replay-requires : goal.replay-requires
replay-requires c = c.in_ok-gathering.ensures c.args.all c.args.entries.now c.args.sites.now

pub returns : goal.returns
returns c =
    let image = c.args.image.now in
    let cores = c.args.cores in
    let entries = c.args.entries.now in
    let all = c.in_ok-running.ensures.gathered in
    let whole : take (length entries) entries ≡ entries = take_all (length entries) entries (omega arith) in
    let replays = sym (ap (replay image cores) whole) ∙ all.replays in record {
      found = all.found;
      ended = all.ended;
      running = c.in_ok-running.ensures.running;
      verdict = (state_in c.replay.new.self.flat, replays, c.homefree-homefree.ensures, refl);
    }
