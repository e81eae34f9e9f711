-- The printed names of the reasons why a word is refused.
use Rattle.std.specs.Prelude.{ℕ, List, codes}
use Rattle.rv32_decode.specs.declared.refused.Refused.{Refused}
use Rattle.rv32_decode.specs.declared.refused.Refused.TheVariants.{Illegal, System}

abbrev pub name_of : Refused → List ℕ
name_of Illegal = codes "Illegal"
name_of System = codes "System"
