use Rattle.std.proofs.Common.{List, subst}
use Rattle.cache_lines.specs.declared.line.Line.{Line}
use Rattle.std.specs.List.{slice_index_or}
use Rattle.turn_steps.specs.Caches.{HasOwnRows, no_line}
use Rattle.turn_steps.proofs.BusRows.{own_more}
use Rattle.turn_steps.proofs.caches.ShownCore.push_own_rows.Goals as goal

pub loop-line-preserved : goal.loop-line-preserved
loop-line-preserved c =
    let one = c.in_ok-push_own_rows_of.ensures in
    let way = c.loop-line.line-index in
    let here : HasOwnRows c.args.layout.machine c.args.layout.size (slice_index_or c.args.self.now.ways way no_line) c.push_own_rows_of.new.rows =
    rw (← c.self.view_is) (subst (λ (ways : List Line). HasOwnRows c.args.layout.machine c.args.layout.size (slice_index_or ways way no_line) c.push_own_rows_of.new.rows) c.as_slice-line-items.ensures.value one.own) in record {
      kept = λ row there. one.kept row (c.loop-line.invariant.kept row there);
      own = own_more c.args.layout.machine c.args.layout.size c.args.self.now.ways way c.loop-line.rows c.push_own_rows_of.new.rows one.kept c.loop-line.invariant.own here;
    }
