use Rattle.depends.proofs.least.conflict_on_caches.Goals as goal

pub returns-in-None : goal.returns-in-None
returns-in-None c fewer few =
    let apart = c.in-Ok.ensures.apart c.in-None.is fewer few in record {
      books = c.without_line_conflict_and_shared_overflow_never_over_bus.ensures c.args.image.now fewer apart.lines apart.buffers;
      histories = c.in-Ok.ensures.never c.in-None.is fewer few;
    }
