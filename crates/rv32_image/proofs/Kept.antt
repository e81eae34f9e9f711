-- What is kept of the code's words.
use Rattle.std.proofs.Common.{◌≡◌, ℕ, ◌*◌, ◌<◌, nat_lt, Bool, true, false, cond, List, length, Some, Err, slice_get, slice_index, refl, arith}
use Rattle.std.proofs.lemmas.Bool.Decides.{nat_tests}
use Rattle.rv32_decode.specs.declared.instr.Instr.{Instr}
use Rattle.rv32_decode.specs.declared.refused.Refused.TheVariants.{Illegal}
use Rattle.rv32_decode.specs.Table.{meaning_of}
use Rattle.memory_bytes.specs.Bytes.{number_at}
use Rattle.rv32_image.specs.Decoded.{IsDecoded, kept_of, word_in}
use Rattle.rv32_image.specs.Image.{LoadedImage}

-- what stands at a word of the decoded code
pub kept_at : (program : List Instr) (image : LoadedImage) (word : ℕ) (instr : Instr) → IsDecoded program image.code image.bytes → word < length program
    → slice_get program word ≡ Some instr → instr ≡ kept_of (word_in image word)
unfolding kept_of
kept_at program image word instr decoded inside at = by_test (nat_lt (4 * word) image.code) refl where
  by_test : (b : Bool) → nat_lt (4 * word) image.code ≡ b → instr ≡ kept_of (cond b (meaning_of (number_at (λ a. slice_index image.bytes a) (4 * word) 4)) (Err Illegal))
  by_test true is = let before : 4 * word < image.code = grind (arith, nat_tests) in let each = decoded.each word before in cc
  by_test false is = let here : 4 * word ≡ image.code = grind (arith, nat_tests, decoded.long) in let last = decoded.last word here in cc
