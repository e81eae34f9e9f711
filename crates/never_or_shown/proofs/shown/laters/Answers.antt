use Rattle.std.proofs.Common.{refl, sym, ◌∙◌, arith}
use Rattle.never_or_shown.proofs.Lasting.{near_conflicts, past_end}
use Rattle.never_or_shown.proofs.shown.laters.Goals as goal

pub returns-then-is_near : goal.returns-then-is_near
returns-then-is_near c = λ conflict.
    let ran = c.requires.ran in
    let at = near_conflicts c.args.image.now c.args.cores c.args.ran.nearest c.args.ran.later (sym c.is_near.ensures ∙ c.if-is_near.true) ran.later in record {
      later = c.args.ran.later;
      first = omega arith;
      last = let within = at.conflict.beside.within in let is = at.is in omega (arith, within, is, c.epochs-end.ensures.epochs, c.epochs-end.type_inv, c.saturating_add.ensures);
      at = at;
    }

pub returns : goal.returns
returns c = λ conflict.
    let ran = c.requires.ran in
    let least = c.requires.cores.least in
    let past = past_end c.args.image.now c.args.cores c.args.ran.nearest ran.nearest (sym c.is_near.ensures ∙ c.if-is_near.false) least c.args.ran.epochs ran.all conflict in
    let within = conflict.beside.within in record {
      later = conflict.later;
      first = past.0;
      last = let last = past.1 in omega (arith, within, last, c.epochs-end.ensures.epochs, c.epochs-end.type_inv, c.saturating_add-2.ensures, c.min.ensures);
      at = record { conflict = conflict; is = refl };
    }
