-- The image text read from an input.
use Rattle.std.proofs.Common.{◌≡◌, ℕ, ◌+◌, ◌<◌, List, ◌++◌, append_assoc, length, replicate, Option, Some, None, Result, Ok, Err, nat_lt, true, IfSome, MatchResult, refl, ap, subst, sym, ◌∙◌, arith}
use Rattle.std.proofs.lemmas.Bool.Decides.{nat_tests}
use Rattle.std.proofs.lemmas.List.{length-replicate}
use Rattle.std.specs.Io.KnownBytes.{Consumes}
use Rattle.rv32_image.specs.declared.fault.ImageFault.{ImageFault}
use Rattle.rv32_image.specs.declared.fault.ImageFaultKind.{ImageFaultKind}
use Rattle.rv32_image.specs.declared.fault.ImageFaultKind.TheVariants.{Line, MissingOrRepeated, Range, Place, Hex, TooLong, Read, NoMemory}
use Rattle.rv32_image.specs.declared.input.InputFault.{InputFault}
use Rattle.rv32_image.specs.declared.input.InputFault.TheVariants as input
use Rattle.rv32_image.specs.Image.{LoadedImage}
use Rattle.rv32_image.specs.ImageText.{image_text, longest_image_text}
use Rattle.rv32_image.specs.Reading.{Answers, AnswersRead, ForText, IsFaultOf, IsReadFaultOf, input_fault}

weaker_fault : {A : Type 0} (kind : ImageFaultKind) (fault : ImageFault) (read : Result A ImageFault) → IsFaultOf kind fault read → IsReadFaultOf kind fault read
weaker_fault NoMemory fault read is = is
weaker_fault Line fault read is = is
weaker_fault MissingOrRepeated fault read is = is
weaker_fault Range fault read is = is
weaker_fault Place fault read is = is
weaker_fault Hex fault read is = is
weaker_fault TooLong fault read is = is
weaker_fault Read fault read is = absurd is

weaker : (r : Result LoadedImage ImageFault) (read : Result LoadedImage ImageFault) → Answers (λ image. image) r read → AnswersRead r read
weaker (Ok image) read is = is
weaker (Err fault) read is = weaker_fault fault.kind fault read is

-- the text that was read says what the input says
pub answers_read : (known : Option (List ℕ)) (text : List ℕ) (r : Result LoadedImage ImageFault) → IfSome known (λ whole. text ≡ whole)
    → Answers (λ image. image) r (image_text text) → ForText known (λ whole. AnswersRead r (image_text whole))
answers_read None text r whole is = (text, weaker r (image_text text) is)
answers_read (Some input) text r whole is = rw (← whole) (weaker r (image_text text) is)

-- what holds of an image holds of what a text says that says this image
pub by_image : (text : List ℕ) (image : LoadedImage) (P : LoadedImage → Type 0) → image_text text ≡ Ok image → P image → MatchResult (image_text text) P (λ fault. ⊥)
by_image text image P said is = subst (λ (r : Result LoadedImage ImageFault). MatchResult r P (λ fault. ⊥)) (sym said) is

too_long : (text : List ℕ) → longest_image_text < length text → image_text text ≡ Err (record { line = 0; kind = TooLong })
unfolding image_text
too_long text long = let past : nat_lt longest_image_text (length text) ≡ true = grind (arith, nat_tests) in rw past refl

fault_read : (fault : InputFault) (text : List ℕ) → (fault ≡ input.TooLong → longest_image_text < length text)
    → AnswersRead (Err (input_fault fault)) (image_text text)
fault_read input.TooLong text long = too_long text (long refl)
fault_read input.Read text long = refl
fault_read input.NoMemory text long = refl

-- a text that is longer than this
pub long_text : (n : ℕ) → (text : List ℕ) × (n < length text)
long_text n = (replicate (n + 1) 0, omega (arith, length-replicate {A = ℕ} (n + 1) 0))

-- so does the fault of an input that could not be read
pub fault_answers : (known : Option (List ℕ)) (fault : InputFault) → (fault ≡ input.TooLong → IfSome known (λ whole. longest_image_text < length whole))
    → ForText known (λ whole. AnswersRead (Err (input_fault fault)) (image_text whole))
fault_answers None fault long = let text = long_text longest_image_text in (text.0, fault_read fault text.0 (λ _. text.1))
fault_answers (Some text) fault long = fault_read fault text long

-- bytes that are taken one after another
pub consumes_append : (a b c : Option (List ℕ)) (xs ys : List ℕ) → Consumes a b xs → Consumes b c ys → Consumes a c (xs ++ ys)
consumes_append None b c xs ys p q = tt
consumes_append (Some us) None c xs ys p q = absurd p
consumes_append (Some us) (Some vs) None xs ys p q = absurd q
consumes_append (Some us) (Some vs) (Some ws) xs ys p q = p ∙ (ap (λ w. xs ++ w) q ∙ sym (append_assoc xs ys ws))
