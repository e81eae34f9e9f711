-- What a program answers that reads and writes nothing but its error line.
use Rattle.std.proofs.Common.{◌≡◌, ℕ, List, [], ◌∷◌, length, map, Option, Some, None, refl, arith}
use Rattle.rv32_image.specs.Reading.{ForText}
use Rattle.trace_commands.specs.declared.outcome.Outcome.{Outcome}
use Rattle.trace_commands.specs.Outcome.{AppendsPrefix, Conclusion, error_line, status_of}
use Rattle.trace_commands.specs.Program.{IsUnread, Stream}
use Rattle.trace_commands.proofs.Audits.{keeps_itself}

abbrev pub kept : Option (List ℕ) → Stream
kept known = record { old = known; new = known }

-- so it concludes, whatever the text is
pub unread_answers : (Is : Outcome → Type 0) (Answers : List ℕ → Type 0) (input output : Option (List ℕ)) (errors : Stream) (outcome : Outcome) (status : ℕ)
    → Is outcome → status ≡ status_of outcome → AppendsPrefix errors.old errors.new (error_line outcome)
    → ((text : List ℕ) → Conclusion (IsUnread Is (kept input) (kept output)) errors.old errors.new status → Answers text) → ForText input Answers
unread_answers Is Answers None output errors outcome status so is line answers =
    ([], answers [] (record { outcome = outcome; output = (so, keeps_itself None, keeps_itself output); status = is; line = line }))
unread_answers Is Answers (Some text) output errors outcome status so is line answers =
    answers text (record { outcome = outcome; output = (so, keeps_itself (Some text), keeps_itself output); status = is; line = line })

-- there are no words
pub no_words : {A : Type 0} (text : A → List ℕ) (words : List A) → length words ≡ 0 → map text words ≡ []
no_words text [] none = refl
no_words text (word ∷ words) none = absurd (omega (arith, none))
