use Rattle.std.proofs.Common.{◌≡◌, length, Ok}
use Rattle.rv32_image.specs.ImageText.{pieces}
use Rattle.rv32_image.specs.Cutting.{pieces_after}
use Rattle.replay_command.specs.Turns.{joined, words_read}
use Rattle.replay_command.proofs.turns.push_words.Given as goal

-- the turns so far, and those of the words that are left
abbrev pub invariant-loop-rest : goal.invariant-loop-rest
invariant-loop-rest l =
    joined (Ok l.schedule.items) (words_read l.cores l.number (pieces_after 32 l.rest)) ≡ joined (Ok l.initial.schedule.items) (words_read l.cores l.number (pieces 32 l.words))

abbrev pub decreases-loop-rest : goal.decreases-loop-rest
decreases-loop-rest l = length (pieces_after 32 l.rest)
