-- A rollback and a publish make each line plain, and leave one that is.
use Rattle.std.proofs.Common.{◌≡◌, ◌==◌, ◌&&◌, Bool, true, false, not, refl, ap, ◌∙◌, arith}
use Rattle.std.proofs.lemmas.Bool.{and_parts, not-true, eqb-true}
use Rattle.spec_states.specs.declared.line.LineState.{LineState}
use Rattle.spec_states.specs.declared.line.LineState.TheVariants.{I, S, E, M, SpS, SpE}
use Rattle.spec_states.specs.declared.line.Marks.{Marks}
use Rattle.spec_states.specs.declared.next.Next.{Next}
use Rattle.spec_states.specs.States.{is_speculative}
use Rattle.spec_states.specs.Tables.{no_marks, violation, settlement}
use Rattle.spec_states.proofs.RowLaws.{violation-rolls_back, settlement-settles}
use Rattle.cache_lines.specs.declared.line.Line.{Line}
use Rattle.cache_lines.specs.Changes.{changed_line, rolled_back_line, published_line}
use Rattle.cache_lines.specs.Noted.{is_plain}

pub record MakesPlain (change : Line → Line) : Type 0 where
  pub plain : (line : Line) → is_plain (change line) ≡ true
  pub keeps : (line : Line) → is_plain line ≡ true → change line ≡ line

-- the same of a state and marks
abbrev is_plain_copy : LineState → Marks → Bool
is_plain_copy state marks = not (is_speculative state) && (not marks.loaded && (marks.bytes == 0))

-- a change that leaves no marks
makes_plain : (line : Line) (next : Next) → is_speculative next.state ≡ false → next.marks ≡ no_marks → is_plain (changed_line line next) ≡ true
makes_plain line next unmarked none = grind (arith, unmarked, ap (is_plain_copy next.state) none)

none_of : (marks : Marks) → (not marks.loaded && (marks.bytes == 0)) ≡ true → no_marks ≡ marks
none_of marks none =
    let parts = and_parts (not marks.loaded) (marks.bytes == 0) none in
    rw (not-true marks.loaded parts.0, eqb-true marks.bytes 0 parts.1) refl

-- where the state stays and the marks go, a plain line stays
keeps_plain : (line : Line) (next : Next) → next.state ≡ line.state → next.marks ≡ no_marks → is_plain line ≡ true → changed_line line next ≡ line
keeps_plain line next stays none plain =
    let is : next.marks ≡ line.marks = none ∙ none_of line.marks (and_parts (not (is_speculative line.state)) _ plain).1 in
    rw (stays, is) refl

-- an unmarked state stays
violation_stays : (state : LineState) (marks : Marks) → is_plain_copy state marks ≡ true → (violation state marks).state ≡ state
violation_stays I marks plain = refl
violation_stays S marks plain = refl
violation_stays E marks plain = refl
violation_stays M marks plain = refl
violation_stays SpS marks plain = absurd cc
violation_stays SpE marks plain = absurd cc

settlement_stays : (state : LineState) (marks : Marks) → is_plain_copy state marks ≡ true → (settlement state marks true).state ≡ state
settlement_stays I marks plain = refl
settlement_stays S marks plain = refl
settlement_stays E marks plain = refl
settlement_stays M marks plain = refl
settlement_stays SpS marks plain = absurd cc
settlement_stays SpE marks plain = absurd cc

pub MakesPlain-rolled_back : MakesPlain rolled_back_line
MakesPlain-rolled_back =
    record {
      plain = λ line. let to = violation-rolls_back line.state line.marks in makes_plain line (violation line.state line.marks) to.unmarked to.clears_marks;
      keeps = λ line plain. keeps_plain line (violation line.state line.marks) (violation_stays line.state line.marks plain) (violation-rolls_back line.state line.marks).clears_marks plain;
    }

pub MakesPlain-published : MakesPlain (published_line true)
MakesPlain-published =
    record {
      plain = λ line. let to = settlement-settles line.state line.marks true in makes_plain line (settlement line.state line.marks true) to.unmarked to.clears_marks;
      keeps = λ line plain. keeps_plain line (settlement line.state line.marks true) (settlement_stays line.state line.marks plain) (settlement-settles line.state line.marks true).clears_marks plain;
    }
