-- The texts of lines: words and numbers parted by one space.
-- Source: this project.
use Rattle.std.specs.Prelude.{ℕ, ◌+◌, ◌-◌, ◌++◌, List, codes, slice_index}
use Rattle.std.specs.Fmt.{decimal}
use Rattle.trace_text.specs.Printing.{hex_word}
use Rattle.dependences.specs.declared.flow.Dependence.{Dependence}
use Rattle.dependences.specs.declared.pairs.PairSum.{PairSum}

-- a label, and what it labels
unfoldable pub labelled : List ℕ → List ℕ → List ℕ
labelled label word = label ++ word

abbrev pub named : List ℕ → ℕ → List ℕ
named label n = labelled label (decimal n)

-- the pcs of a store and of a load
unfoldable pub pair_text : ℕ × ℕ → List ℕ
pair_text pair = labelled (codes "dep store ") (hex_word pair.0) ++ labelled (codes " load ") (hex_word pair.1)

-- how many dependences join them, at which distances, and at how many bytes from the lowest on
unfoldable pub sum_text : PairSum → List ℕ
sum_text s =
    named (codes " times ") s.times ++ named (codes " distance ") s.least ++ named (codes " ") s.most
    ++ labelled (codes " at ") (hex_word s.lowest) ++ named (codes " ") (s.highest - s.lowest + 1)

-- after how many instructions, of how many
unfoldable pub done_text : List ℕ → ℕ → ℕ → List ℕ
done_text label done of = named label done ++ named (codes " of ") of

-- the epochs of the first of them, and how late in each it comes
unfoldable pub first_text : List ℕ → Dependence → List ℕ
first_text lengths x =
    named (codes " first ") x.earlier ++ named (codes " ") x.later
    ++ done_text (codes " stored ") x.stored (slice_index lengths x.earlier) ++ done_text (codes " loaded ") x.loaded (slice_index lengths x.later)

unfoldable pub row_text : List ℕ → (ℕ × ℕ) × PairSum → List ℕ
row_text lengths row = pair_text row.0 ++ sum_text row.1 ++ first_text lengths row.1.first ++ codes "\n"
