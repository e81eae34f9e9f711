use Rattle.depends.proofs.ran.run_over_caches.Goals as goal

pub returns-in-None : goal.returns-in-None
returns-in-None c =
    let shown = c.in-Ok.ensures in
    record {
      sums = shown.sums;
      lengths = shown.lengths;
      nearest = shown.nearest;
      later = shown.later;
      over = λ fewer few.
          let apart = shown.apart c.in-None.is fewer few in record {
            books = c.without_line_conflict_and_shared_overflow_never_over_bus.ensures c.args.image.now fewer apart.lines apart.buffers;
            histories = shown.never c.in-None.is fewer few;
          };
    }
