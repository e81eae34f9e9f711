-- Registers, and what was written to x0.
use Rattle.std.proofs.Common.{◌≡◌, ℕ, ◌≤◌, ◌==◌, nat_lt, Bool, true, false, cond, List, take, slice_set, refl, sym, ◌∙◌, arith}
use Rattle.std.proofs.Math.Seq.{take-set-lt}
use Rattle.std.proofs.lemmas.Bool.Decides.{nat_tests}
use Rattle.std.proofs.lemmas.List.{length-take, set_past, take-set-le}
use Rattle.rv32_decode.specs.Destination.{place_of}
use Rattle.rv32_exec.specs.Hart.{with_register}

-- what is written to the place of a register is written to it
pub put_place : (places : List ℕ) (rd value : ℕ) → take 32 (slice_set places (place_of rd) value) ≡ with_register (take 32 places) rd value
put_place places rd value = by_tests (rd == 0) (nat_lt rd 32) refl refl where
  by_tests : (b c : Bool) → (rd == 0) ≡ b → nat_lt rd 32 ≡ c → take 32 (slice_set places (cond b 32 rd) value) ≡ cond b (take 32 places) (slice_set (take 32 places) rd value)
  by_tests true c is below = take-set-le 32 places 32 value (omega arith)
  by_tests false true is below = take-set-lt 32 places rd value (grind (arith, nat_tests))
  by_tests false false is below =
      take-set-le 32 places rd value (grind (arith, nat_tests))
      ∙ sym (set_past (take 32 places) rd value (let far : 32 ≤ rd = grind (arith, nat_tests) in rw (length-take 32 places) (omega (arith, far))))
