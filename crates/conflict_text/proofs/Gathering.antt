-- What grows by one entry of the history: the lines of its violations, and what is summed of them.
use Rattle.std.proofs.Common.{◌≡◌, ℕ, ◌+◌, List, [], ◌∷◌, ◌++◌, take, map, Option, Some, None, IfSome, is_some, option_map, option_to_list, sym, ap, subst, ◌∙◌, arith}
use Rattle.std.proofs.lemmas.List.{append-nil, append_assoc, map-append}
use Rattle.rv32_image.specs.Image.{LoadedImage}
use Rattle.spec_history.specs.declared.entry.Entry.{Entry}
use Rattle.spec_history.specs.Conflict.{entry_is, is_hurt}
use Rattle.spec_history.specs.FlatState.{FlatState}
use Rattle.spec_history.specs.Replay.{replay}
use Rattle.conflicts.specs.declared.explanation.Explanation.{Explanation}
use Rattle.conflicts.specs.declared.standing.Site.{Site}
use Rattle.conflicts.specs.Explained.{IsExplainedIn}
use Rattle.conflicts.proofs.Explaining.{no_places, each_more, explained_more}
use Rattle.conflict_findings.specs.declared.finding.Finding.{Finding}
use Rattle.conflict_findings.specs.declared.finding.FurtherRun.{FurtherRun}
use Rattle.conflict_findings.specs.Findings.{finding_of, further_in, further_of}
use Rattle.conflict_findings.specs.declared.rollback.Rollback.{Rollback}
use Rattle.conflict_findings.specs.declared.sums.Sums.{Sums}
use Rattle.conflict_findings.specs.AllSums.{AreAllSums}
use Rattle.conflict_findings.specs.Rollbacks.{rollback_at}
use Rattle.conflict_text.specs.Explaining.{found_of}
use Rattle.conflict_text.specs.Lines.{told_lines, violation_lines}
use Rattle.conflict_text.specs.Why.{AreExplained, AreFound, lines_of}

-- ---- explanations

none_explained : (image : LoadedImage) (count : ℕ) (entries : List Entry) → AreExplained image count entries 0 []
none_explained image count entries = record { each_once = no_places entries; explained = λ k d below. absurd (omega (arith, below)) }

more_explained : (image : LoadedImage) (count : ℕ) (s : FlatState) (entries : List Entry) (place : ℕ) (xs : List Explanation) (found : Option Explanation)
    → replay image count (take place entries) ≡ Some s → is_some found ≡ entry_is entries place (λ e. is_hurt e.what)
    → IfSome found (λ e. (e.place ≡ place) × IsExplainedIn image s entries e) → AreExplained image count entries place xs
    → AreExplained image count entries (place + 1) (xs ++ option_to_list found)
more_explained image count s entries place xs found replays shown explained was = record {
  each_once = each_more image s entries place xs found shown explained was.each_once;
  explained = explained_more image count s entries place xs found replays explained was.explained;
}

-- ---- what is summed of them

-- one more at the end of a list
mapped : {A B : Type 0} (f : A → B) (xs : List A) (found : Option A) → map f xs ++ option_to_list (option_map f found) ≡ map f (xs ++ option_to_list found)
mapped f xs None = append-nil (map f xs) ∙ sym (ap (map f) (append-nil xs))
mapped f xs (Some x) = sym (map-append f xs (x ∷ []))

-- ---- their lines

-- one more at the end of a list
told_push : {X : Type 0} (f : X → Finding × List FurtherRun) (xs : List X) (x : X) → told_lines (map f (xs ++ x ∷ [])) ≡ told_lines (map f xs) ++ violation_lines (f x).0 (f x).1
told_push f [] x = append-nil (violation_lines (f x).0 (f x).1)
told_push f (y ∷ ys) x =
    ap (λ t. violation_lines (f y).0 (f y).1 ++ t) (told_push f ys x)
    ∙ sym (append_assoc (violation_lines (f y).0 (f y).1) (told_lines (map f ys)) (violation_lines (f x).0 (f x).1))

at_place : (image : LoadedImage) (count : ℕ) (s : FlatState) (entries : List Entry) (sites : List (Option Site)) (place : ℕ) (e : Explanation) → replay image count (take place entries) ≡ Some s
    → e.place ≡ place → further_of image count entries sites e ≡ further_in image entries sites e (Some s)
at_place image count s entries sites place e replays is =
    ap (λ n. further_in image entries sites e (replay image count (take n entries))) is ∙ ap (further_in image entries sites e) replays

told_by : (image : LoadedImage) (count : ℕ) (s : FlatState) (entries : List Entry) (sites : List (Option Site)) (place : ℕ) (xs : List Explanation) (found : Option Explanation) (old new : List ℕ)
    → replay image count (take place entries) ≡ Some s → IfSome found (λ e. (e.place ≡ place) × IsExplainedIn image s entries e)
    → old ≡ told_lines (map (found_of image count entries sites) xs) → new ≡ old ++ lines_of image s entries sites found
    → new ≡ told_lines (map (found_of image count entries sites) (xs ++ option_to_list found))
told_by image count s entries sites place xs None old new replays is was grown =
    grown ∙ (append-nil old ∙ (was ∙ sym (ap (λ ys. told_lines (map (found_of image count entries sites) ys)) (append-nil xs))))
told_by image count s entries sites place xs (Some e) old new replays is was grown =
    let told = told_lines (map (found_of image count entries sites) xs) in
    grown
    ∙ (ap (λ t. t ++ violation_lines (finding_of image entries sites e) (further_in image entries sites e (Some s))) was
    ∙ (ap (λ runs. told ++ violation_lines (finding_of image entries sites e) runs) (sym (at_place image count s entries sites place e replays is.0))
    ∙ sym (told_push (found_of image count entries sites) xs e)))

-- ---- both

pub none_found : (image : LoadedImage) (count : ℕ) (entries : List Entry) (sites : List (Option Site)) (lines : List ℕ) (sums : Sums) → lines ≡ [] → AreAllSums [] sums
    → AreFound image count entries sites 0 lines sums
none_found image count entries sites lines sums told summed = record { found = []; are = none_explained image count entries; told = told; summed = summed }

pub more_found : (image : LoadedImage) (count : ℕ) (s : FlatState) (entries : List Entry) (sites : List (Option Site)) (place : ℕ) (found : Option Explanation) (old new : List ℕ) (before after : Sums)
    → replay image count (take place entries) ≡ Some s → is_some found ≡ entry_is entries place (λ e. is_hurt e.what)
    → IfSome found (λ e. (e.place ≡ place) × IsExplainedIn image s entries e) → AreFound image count entries sites place old before
    → new ≡ old ++ lines_of image s entries sites found
    → ((rollbacks : List Rollback) → AreAllSums rollbacks before → AreAllSums (rollbacks ++ option_to_list (option_map (rollback_at image entries sites) found)) after)
    → AreFound image count entries sites (place + 1) new after
more_found image count s entries sites place found old new before after replays shown explained was told summed = record {
  found = was.found ++ option_to_list found;
  are = more_explained image count s entries place was.found found replays shown explained was.are;
  told = told_by image count s entries sites place was.found found old new replays explained was.told told;
  summed = subst (λ (rs : List Rollback). AreAllSums rs after) (mapped (rollback_at image entries sites) was.found found) (summed _ was.summed);
}
