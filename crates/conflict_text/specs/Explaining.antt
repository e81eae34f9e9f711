-- The report of which conflicts of a history rolled back.
use Rattle.std.specs.Prelude.{◌≡◌, ℕ, Bool, List, length, map, All, Option}
use Rattle.rv32_image.specs.Image.{LoadedImage}
use Rattle.spec_history.specs.declared.entry.Entry.{Entry}
use Rattle.conflicts.specs.declared.explanation.Explanation.{Explanation}
use Rattle.conflicts.specs.declared.standing.Site.{Site}
use Rattle.conflicts.specs.Explained.{IsExplained, places_of, violations_before}
use Rattle.conflicts.specs.Sites.{sites_before}
use Rattle.conflict_findings.specs.declared.finding.Finding.{Finding}
use Rattle.conflict_findings.specs.declared.finding.FurtherRun.{FurtherRun}
use Rattle.conflict_findings.specs.Ends.{ended_before, running_after}
use Rattle.conflict_findings.specs.Findings.{finding_of, further_of}
use Rattle.conflict_text.specs.AllAttempts.{AreWanted}
use Rattle.conflict_text.specs.Report.{IsPrinted}

-- all that is told of a violation: what is found of its explanation, and its further runs
abbrev pub found_of : LoadedImage → ℕ → List Entry → List (Option Site) → Explanation → Finding × List FurtherRun
found_of image cores history sites e = (finding_of image history sites e, further_of image cores history sites e)

-- the text tells of one explanation for each violation of the history, in order, and each is right; of its further runs; and of how the attempts of the history ended, with a
-- line for each attempt where that is wanted
pub record IsReport (wanted : Bool) (image : LoadedImage) (cores : ℕ) (history : List Entry) (homefree : ℕ) (text : List ℕ) : Type 0 where
  pub found : List Explanation
  pub each_once : places_of found ≡ violations_before history (length history)
  pub explained : All (IsExplained image cores history) found
  pub all : List ℕ
  pub all_are : AreWanted wanted history (ended_before image cores history (length history)) (running_after image cores history) all
  pub printed : IsPrinted image homefree (map (found_of image cores history (sites_before image cores history (length history))) found)
      (ended_before image cores history (length history)) (running_after image cores history) all text
