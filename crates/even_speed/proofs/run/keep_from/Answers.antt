use Rattle.std.proofs.Common.{List, length, All, drop, sym, ap, subst, ◌∙◌}
use Rattle.spec_history.specs.declared.entry.Entry.{Entry}
use Rattle.even_speed.specs.Owns.{IsNotable, own_at, owns_after}
use Rattle.even_speed.proofs.Owning.{notable, on_ok, owns_noted}
use Rattle.even_speed.proofs.Seated.{rest_is}
use Rattle.even_speed.proofs.run.keep_from.Goals as goal

pub keep_all-requires : goal.keep_all-requires
keep_all-requires g c =
    let n = length c.args.owns.now.items in
    subst (All (IsNotable n)) (sym (rest_is c.args.place c.history.result.now))
    (subst (λ (l : List Entry). All (IsNotable n) (drop c.args.place l)) (sym c.history.ensures)
    (notable c.args.book.now.image c.args.book.now.cores n c.args.place c.args.book.now.history c.look.ensures.state c.look.ensures.is_image c.look.ensures.replays c.requires.cores c.look.ensures.by_cores))

pub returns-clause-owns : goal.returns-clause-owns
returns-clause-owns g c =
    on_ok c.keep_all.result c.keep_all.ensures.kept
    (λ kept some. owns_noted (own_at c.args.owns.now.items) (own_at c.keep_all.new.owns.items) c.args.place c.args.book.now.history (c.requires.owns some)
    (λ k. kept k ∙ (ap (λ l. owns_after (own_at c.args.owns.now.items) l k) (rest_is c.args.place c.history.result.now)
    ∙ ap (λ l. owns_after (own_at c.args.owns.now.items) (drop c.args.place l) k) c.history.ensures)))
