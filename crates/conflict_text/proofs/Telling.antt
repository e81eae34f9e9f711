-- What is told of the attempts that ended, from those that were not violated.
use Rattle.std.proofs.Common.{◌≡◌, ℕ, ◌+◌, Bool, true, false, cond, not, codes, List, [], ◌∷◌, ◌++◌, filter, length, map, option_to_list, Option, sum_by, refl, subst, sym, ap, ap₂, ◌∙◌, arith}
use Rattle.std.specs.List.{flat_map}
use Rattle.std.proofs.lemmas.List.Elements.{filter-append}
use Rattle.std.proofs.lemmas.List.Sums.{sum_by-cons}
use Rattle.rv32_image.specs.Image.{LoadedImage}
use Rattle.spec_history.specs.declared.entry.Entry.{Entry}
use Rattle.conflicts.specs.declared.standing.Site.{Site}
use Rattle.conflict_findings.specs.declared.ended.Ended.{Ended}
use Rattle.conflict_findings.specs.declared.ended.Ending.{Ending}
use Rattle.conflict_findings.specs.declared.ended.Ending.TheVariants.{Cancelled, Committed, Violated}
use Rattle.conflict_findings.specs.declared.ended.Running.{Running}
use Rattle.conflict_findings.specs.declared.rollback.Rollback.{Rollback}
use Rattle.conflict_findings.specs.declared.part.Part.TheVariants.{Whole}
use Rattle.conflict_findings.specs.declared.sum.Sum.{Sum}
use Rattle.conflict_findings.specs.declared.sums.Sums.{Sums}
use Rattle.conflict_findings.specs.declared.tally.Tally.{Tally}
use Rattle.conflict_findings.specs.AllSums.{AreAllSums}
use Rattle.conflict_findings.specs.Ends.{ended_before, running_after}
use Rattle.conflict_findings.specs.Rollbacks.{rollback_at}
use Rattle.conflict_findings.specs.Sums.{sum_in}
use Rattle.conflict_findings.specs.Tallies.{count_in, done_by, done_in, is_ended, is_same, tally_of_running}
use Rattle.conflict_text.specs.declared.report.Totals.{Totals}
use Rattle.conflict_text.specs.Ends.{attempt_lines, ended_line, is_kept, is_told, line_by, rest_text, tally_text}
use Rattle.conflict_text.specs.Report.{kind_lines, total_text}
use Rattle.conflict_text.specs.Totals.{AreTotals, last_lines}
use Rattle.conflict_text.specs.Why.{AreCounted, AreFound, AreToldBelow}

-- ---- sums

filtered_step : (b : Bool) (w n m : ℕ) → (b ≡ false → w ≡ 0) → n ≡ m → cond b (w + n) n ≡ w + m
filtered_step true w n m none is = omega (arith, is)
filtered_step false w n m none is = omega (arith, is, none refl)

out_cond : (f : Ended → ℕ) (e : Ended) (es : List Ended) (b : Bool) → sum_by f (cond b (e ∷ es) es) ≡ cond b (f e + sum_by f es) (sum_by f es)
out_cond f e es true = sum_by-cons f e es
out_cond f e es false = refl

filtered : (f : Ended → ℕ) → ((e : Ended) → is_told e ≡ false → f e ≡ 0) → (es : List Ended) → sum_by f (filter is_told es) ≡ sum_by f es
filtered f none [] = refl
filtered f none (e ∷ es) =
    out_cond f e (filter is_told es) (is_told e)
    ∙ (filtered_step (is_told e) (f e) (sum_by f (filter is_told es)) (sum_by f es) (none e) (filtered f none es) ∙ sym (sum_by-cons f e es))

-- what a violated one adds to the others
none_by : (ending : Ending) (other : Ending) (w : ℕ) → is_same Violated other ≡ false → not (is_same ending Violated) ≡ false → cond (is_same ending other) w 0 ≡ 0
none_by Committed other w apart is = absurd cc
none_by Violated other w apart is = ap (λ (b : Bool). cond b w 0) apart
none_by Cancelled other w apart is = absurd cc

told_done : (ending : Ending) → is_same Violated ending ≡ false → (es : List Ended) → done_in ending (filter is_told es) ≡ done_in ending es
told_done ending apart es = filtered (done_by ending) (λ e is. none_by e.ending ending e.done apart is) es

told_count : (ending : Ending) → is_same Violated ending ≡ false → (es : List Ended) → count_in ending (filter is_told es) ≡ count_in ending es
told_count ending apart es = filtered (λ (e : Ended). cond (is_ended ending e) 1 0) (λ e is. none_by e.ending ending 1 apart is) es

-- ---- lines

line_step : (e : Ended) (ending : Ending) (rest : List ℕ) → cond (not (is_same ending Violated)) (line_by e ending ++ rest) rest ≡ line_by e ending ++ rest
line_step e Committed rest = refl
line_step e Violated rest = refl
line_step e Cancelled rest = refl

out_lines : (f : Ended → List ℕ) (e : Ended) (es : List Ended) (b : Bool) → flat_map f (cond b (e ∷ es) es) ≡ cond b (f e ++ flat_map f es) (flat_map f es)
out_lines f e es true = refl
out_lines f e es false = refl

told_lines : (es : List Ended) → flat_map ended_line (filter is_told es) ≡ flat_map ended_line es
told_lines [] = refl
told_lines (e ∷ es) =
    out_lines ended_line e (filter is_told es) (is_told e)
    ∙ (line_step e e.ending (flat_map ended_line (filter is_told es)) ∙ ap (λ t. ended_line e ++ t) (told_lines es))

told_attempts : (es : List Ended) (os : List Running) → attempt_lines (filter is_told es) os ≡ attempt_lines es os
told_attempts es os = ap (λ t. t ++ attempt_lines [] os) (told_lines es)

-- ---- the total

abbrev tally : ℕ → ℕ → Tally
tally n m = record { count = n; done = m }

told_useful : (es : List Ended) → done_in Committed (filter is_told es) ≡ done_in Committed es
told_useful es = told_done Committed refl es

told_rest : (es : List Ended) (os : List Running) → rest_text (filter is_told es) os ≡ rest_text es os
unfolding rest_text
told_rest es os =
    ap (λ (t : Tally). tally_text (codes " cancelled ") (codes " dropped ") t ++ tally_text (codes " open ") (codes " unsettled ") (tally_of_running os))
    (ap₂ tally (told_count Cancelled refl es) (told_done Cancelled refl es))

told_total : (epochs committed : ℕ) (s : Sum) (es : List Ended) (os : List Running) → total_text epochs committed s (filter is_told es) os ≡ total_text epochs committed s es os
unfolding total_text
told_total epochs committed s es os = rw (told_useful es, told_rest es os) refl

told_last : (image : LoadedImage) (homefree : ℕ) (rs : List Rollback) (es : List Ended) (os : List Running) → last_lines image homefree rs (filter is_told es) os ≡ last_lines image homefree rs es os
told_last image homefree rs es os = ap (λ (t : List ℕ). kind_lines rs ++ t) (told_total image.epochs homefree (sum_in Whole rs) es os)

told_totals : (image : LoadedImage) (homefree : ℕ) (rs : List Rollback) (es : List Ended) (os : List Running) (sums : Totals)
    → AreTotals image homefree rs (filter is_told es) os sums → AreTotals image homefree rs es os sums
told_totals image homefree rs es os sums are = record {
  epochs_are = are.epochs_are;
  pairs_are = are.pairs_are;
  by_line = are.by_line;
  by_line_are = are.by_line_are;
  lines_are = are.lines_are;
  kinds_are = are.kinds_are;
  loads_are = are.loads_are;
  stores_are = are.stores_are;
  instructions_are = are.instructions_are;
  last_are = are.last_are ∙ told_last image homefree rs es os;
}

-- ---- where all are told

all_kept : (es : List Ended) → filter (is_kept true) es ≡ es
all_kept [] = refl
all_kept (e ∷ es) = ap (λ (xs : List Ended). e ∷ xs) (all_kept es)

kept_totals : (all : Bool) (image : LoadedImage) (homefree : ℕ) (rs : List Rollback) (es : List Ended) (os : List Running) (sums : Totals)
    → AreTotals image homefree rs (filter (is_kept all) es) os sums → AreTotals image homefree rs es os sums
kept_totals true image homefree rs es os sums are = subst (λ (xs : List Ended). AreTotals image homefree rs xs os sums) (all_kept es) are
kept_totals false image homefree rs es os sums are = told_totals image homefree rs es os sums are

kept_attempts : (all : Bool) (es : List Ended) (os : List Running) → attempt_lines (filter (is_kept all) es) os ≡ attempt_lines es os
kept_attempts true es os = ap (λ (xs : List Ended). attempt_lines xs os) (all_kept es)
kept_attempts false es os = told_attempts es os

kept_below : (all : Bool) (history : List Entry) (es : List Ended) (os : List Running) (old new : List ℕ)
    → AreToldBelow all history (filter (is_kept all) es) os old new → AreToldBelow all history es os old new
kept_below true history es os old new below = subst (λ (xs : List Ended). AreToldBelow true history xs os old new) (all_kept es) below
kept_below false history es os old new below = record { told = below.told; are = below.are; printed = below.printed }

-- ---- all of a history

counted_in : (wanted : Bool) (image : LoadedImage) (cores : ℕ) (history : List Entry) (sites : List (Option Site)) (homefree : ℕ) (lines some attempts : List ℕ) (sums : Sums) (es : List Ended) (os : List Running) (totals : Totals)
    → AreFound image cores history sites (length history) lines sums → es ≡ filter (is_kept wanted) (ended_before image cores history (length history)) → os ≡ running_after image cores history
    → some ≡ attempt_lines es os → AreToldBelow wanted history es os some attempts → ((rs : List Rollback) → AreAllSums rs sums → AreTotals image homefree rs es os totals)
    → AreCounted wanted image cores history sites homefree lines attempts totals
counted_in wanted image cores history sites homefree lines some attempts sums es os totals found ended running told below summed =
    let every = ended_before image cores history (length history) in
    let after = running_after image cores history in
    let under = kept_below wanted history every after some attempts
    (subst (λ (xs : List Ended). AreToldBelow wanted history xs after some attempts) ended
    (subst (λ (xs : List Running). AreToldBelow wanted history es xs some attempts) running below)) in
    let rs = map (rollback_at image history sites) found.found in record {
      found = found.found;
      are = found.are;
      told = found.told;
      counted = kept_totals wanted image homefree rs every after totals
          (subst (λ (xs : List Ended). AreTotals image homefree rs xs after totals) ended
          (subst (λ (xs : List Running). AreTotals image homefree rs es xs totals) running (summed rs found.summed)));
      all = under.told;
      all_are = under.are;
      printed = under.printed ∙ ap (λ t. t ++ under.told) (told ∙ (ap₂ attempt_lines ended running ∙ kept_attempts wanted every after));
    }

-- the slices are the lists that own them
pub counted_of : (wanted : Bool) (image : LoadedImage) (cores : ℕ) (part history : List Entry) (given sites : List (Option Site)) (homefree : ℕ) (lines some attempts : List ℕ) (sums : Sums) (es : List Ended) (os : List Running) (totals : Totals)
    → part ≡ history → given ≡ sites
    → AreFound image cores part given (length part) lines sums → es ≡ filter (is_kept wanted) (ended_before image cores part (length part)) → os ≡ running_after image cores part
    → some ≡ attempt_lines es os → AreToldBelow wanted part es os some attempts → ((rs : List Rollback) → AreAllSums rs sums → AreTotals image homefree rs es os totals)
    → AreCounted wanted image cores history sites homefree lines attempts totals
counted_of wanted image cores part history given sites homefree lines some attempts sums es os totals same stood found ended running told below summed =
    subst (λ (xs : List (Option Site)). AreCounted wanted image cores history xs homefree lines attempts totals) stood
    (subst (λ (xs : List Entry). AreCounted wanted image cores xs given homefree lines attempts totals) same
    (counted_in wanted image cores part given homefree lines some attempts sums es os totals found ended running told below summed))

-- ---- one more

pub kept_more : (all : Bool) (found : Option Ended) (before after : List Ended) (old new : List Ended) → before ++ option_to_list found ≡ after
    → old ≡ filter (is_kept all) before → new ≡ old ++ filter (is_kept all) (option_to_list found) → new ≡ filter (is_kept all) after
kept_more all found before after old new is was grown =
    grown ∙ (ap (λ xs. xs ++ filter (is_kept all) (option_to_list found)) was
    ∙ (sym (filter-append (is_kept all) before (option_to_list found)) ∙ ap (filter (is_kept all)) is))
