use Rattle.trace_text.proofs.FirstWords.{IsWithin}
use Rattle.trace_text.proofs.front.word_at.Given as goal

-- the bytes so far are of the word
abbrev pub invariant-loop-at : goal.invariant-loop-at
invariant-loop-at l = record { within : IsWithin l.text l.at }
