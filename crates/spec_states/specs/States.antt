-- The states of a copy of a line: those of the MESI protocol (Papamarcos and Patel, "A Low-Overhead Coherence Solution
-- for Multiprocessors with Private Cache Memories", ISCA 1984), and SpS and SpE, which are S and E of a copy that its
-- core's epoch has speculatively loaded or speculatively modified (after Steffan, Colohan, Zhai and Mowry, "A Scalable
-- Approach to Thread-Level Speculation", ISCA 2000).
use Rattle.std.specs.Prelude.{Bool, true, false}
use Rattle.spec_states.specs.declared.line.LineState.{LineState}
use Rattle.spec_states.specs.declared.line.LineState.TheVariants.{I, S, E, M, SpS, SpE}

-- the core holds the line
abbrev pub is_valid : LineState → Bool
is_valid I = false
is_valid S = true
is_valid E = true
is_valid M = true
is_valid SpS = true
is_valid SpE = true

-- no other core holds the line
abbrev pub is_exclusive : LineState → Bool
is_exclusive I = false
is_exclusive S = false
is_exclusive E = true
is_exclusive M = true
is_exclusive SpS = false
is_exclusive SpE = true

-- the copy carries marks
abbrev pub is_speculative : LineState → Bool
is_speculative I = false
is_speculative S = false
is_speculative E = false
is_speculative M = false
is_speculative SpS = true
is_speculative SpE = true

-- memory may be stale: the copy has the committed line
abbrev pub is_modified : LineState → Bool
is_modified I = false
is_modified S = false
is_modified E = false
is_modified M = true
is_modified SpS = false
is_modified SpE = false
