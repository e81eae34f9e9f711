use Rattle.std.proofs.Common.{◌≡◌, ◌∷◌, ap, refl, sym, ◌∙◌, Ok}
use Rattle.std.proofs.lemmas.List.{append-nil}
use Rattle.std.proofs.lemmas.Result.{err_from_is_err_and}
use Rattle.rv32_image.specs.Cutting.{pieces_after}
use Rattle.replay_command.specs.Turns.{joined, words_read}
use Rattle.replay_command.proofs.Lines.{fault_of_word, words_read-none, words_read-ok}
use Rattle.replay_command.proofs.turns.push_words.Goals as goal

pub loop-rest-init : goal.loop-rest-init
loop-rest-init c = refl

pub returns-in_err-push_word : goal.returns-in_err-push_word
returns-in_err-push_word c =
    let cores = c.args.cores in
    let cut : pieces_after 32 c.loop-rest.rest ≡ c.cut.result.0.now ∷ pieces_after 32 c.cut.result.1 = ap (pieces_after 32) c.in-Some.is ∙ c.cut.ensures in
    let whole = ap (λ l. joined (Ok c.loop-rest.schedule.items) (words_read cores c.args.number l)) (sym cut) ∙ c.loop-rest.invariant in
    let p = err_from_is_err_and c.from_residual.result c.from_residual.ensures.1 in
    rw (p.1, p.2) (fault_of_word _ _ cores c.loop-rest.schedule.items c.args.number c.cut.result.0.now (pieces_after 32 c.cut.result.1) _ whole c.in_err-push_word.ensures)

pub loop-rest-preserved : goal.loop-rest-preserved
loop-rest-preserved c =
    let cores = c.args.cores in
    let cut : pieces_after 32 c.loop-rest.rest ≡ c.cut.result.0.now ∷ pieces_after 32 c.cut.result.1 = ap (pieces_after 32) c.in-Some.is ∙ c.cut.ensures in
    let step = words_read-ok cores c.loop-rest.schedule.items c.push_word.new.schedule.items c.args.number c.cut.result.0.now (pieces_after 32 c.cut.result.1) c.in_ok-push_word.ensures in
    sym step ∙ (ap (λ l. joined (Ok c.loop-rest.schedule.items) (words_read cores c.args.number l)) (sym cut) ∙ c.loop-rest.invariant)

pub returns : goal.returns
returns c =
    let cores = c.args.cores in
    sym c.loop-rest.invariant
    ∙ (ap (λ r. joined (Ok c.loop-rest.schedule.items) (words_read cores c.args.number (pieces_after 32 r))) c.in_default.is
    ∙ (words_read-none cores c.loop-rest.schedule.items c.args.number ∙ ap Ok (append-nil c.loop-rest.schedule.items)))
