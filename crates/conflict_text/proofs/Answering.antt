-- What `why` comes to, from what its parts answer.
use Rattle.std.proofs.Common.{◌≡◌, ◌≢◌, ◌+◌, ◌++◌, ℕ, Bool, List, [], ◌∷◌, refl, Option, length, map, take, drop, inl, inr, subst, sym, ap, ◌∙◌}
use Rattle.std.proofs.Math.Seq.{take-append-add, take-append_seam}
use Rattle.std.specs.Io.KnownBytes.{Appends}
use Rattle.std.proofs.KnownBytes.{Appends-trans}
use Rattle.trace_commands.specs.Outcome.{AppendsPrefix}
use Rattle.std.proofs.lemmas.List.{append_assoc, take-append-drop}
use Rattle.rv32_image.specs.Image.{LoadedImage}
use Rattle.spec_history.specs.declared.entry.Entry.{Entry}
use Rattle.trace_commands.specs.declared.outcome.Outcome.{Outcome}
use Rattle.trace_commands.specs.declared.outcome.Outcome.TheVariants.{Audited, Stopped}
use Rattle.trace_commands.specs.declared.outcome.CommandStop.TheVariants.{Write}
use Rattle.trace_commands.specs.declared.outcome.Verdict.{Verdict}
use Rattle.trace_commands.specs.declared.outcome.Verdict.TheVariants as verdict
use Rattle.trace_commands.specs.Audit.{IsNoVerdict, IsTracedBy, IsVerdict}
use Rattle.spec_history.specs.declared.illegal.Illegal.{Illegal}
use Rattle.spec_history.specs.declared.illegal.Illegal.TheVariants as why
use Rattle.spec_history.specs.View.{IsAuditFault}
use Rattle.trace_commands.proofs.Audits.{keeps_itself}
use Rattle.conflicts.specs.declared.standing.Site.{Site}
use Rattle.conflicts.specs.Sites.{sites_before}
use Rattle.conflict_findings.specs.declared.finding.Finding.{Finding}
use Rattle.conflict_findings.specs.declared.finding.FurtherRun.{FurtherRun}
use Rattle.conflict_findings.specs.Rollbacks.{rollback_at, rollback_of}
use Rattle.conflict_findings.specs.Ends.{ended_before, running_after}
use Rattle.conflict_text.specs.Ends.{attempt_lines}
use Rattle.conflict_text.specs.Lines.{told_lines}
use Rattle.conflict_text.specs.declared.report.Totals.{Totals}
use Rattle.conflict_text.specs.Report.{IsSummary}
use Rattle.conflict_text.specs.Explaining.{IsReport, found_of}
use Rattle.conflict_text.specs.Totals.{IsSummed}
use Rattle.conflict_text.specs.Why.{AreCounted, IsAnswer, IsOutcomeOn, IsToldBy, IsTracedOutcome, IsWhyOutcome}
use Rattle.conflict_text.specs.declared.command.WhyAsked.{WhyAsked}

-- the trace that the input says was explained
pub traced_outcome : (asked : WhyAsked) (text : List ℕ) (image : LoadedImage) (cores : ℕ) (history : List Entry) (old new : Option (List ℕ)) (outcome : Outcome)
    → IsTracedBy text image cores history → IsOutcomeOn asked image cores history old new outcome → IsWhyOutcome asked text old new outcome
traced_outcome asked text image cores history old new outcome by is =
    inl (record { image = image; cores = cores; history = history; said = by; came = is })

-- there was none to explain
pub without_verdict : (asked : WhyAsked) (text : List ℕ) (output : Option (List ℕ)) (outcome : Outcome) → IsNoVerdict text outcome → IsWhyOutcome asked text output output outcome
without_verdict asked text output outcome is = inr (is, keeps_itself output)

-- an entry is refused, and memory was there
pub refused_at : (image : LoadedImage) (cores : ℕ) (history : List Entry) (place : ℕ) (refusal : Illegal) → IsAuditFault image cores history place refusal → refusal ≢ why.NoMemory
    → IsVerdict image cores history (verdict.Illegal place refusal)
refused_at image cores history place refusal (inl is) other = (is, other)
refused_at image cores history place refusal (inr both) other = absurd (other both.1)

-- what is told is right, and was written
pub told_outcome : (wanted : Bool) (image : LoadedImage) (cores : ℕ) (history : List Entry) (verdict : Verdict) (told : List ℕ) (old new : Option (List ℕ)) (outcome : Outcome)
    → IsAnswer wanted image cores history verdict told → IsToldBy verdict told old new outcome → IsTracedOutcome wanted image cores history old new outcome
told_outcome wanted image cores history verdict told old new (Audited given) right is =
    (told, subst (λ v. IsAnswer wanted image cores history v told) (sym is.0) right, is.1)
told_outcome wanted image cores history verdict told old new (Stopped Write) right is = (verdict, told, right, is)
told_outcome wanted image cores history verdict told old new outcome right is = absurd is

-- some of the first of one text is some of the first of that with another below it
pub of_first : (old new : Option (List ℕ)) (first rest : List ℕ) → AppendsPrefix old new first → AppendsPrefix old new (first ++ rest)
of_first old new first rest is =
    let front = take is.0 first in
    let behind = drop is.0 first in
    let whole : front ++ (behind ++ rest) ≡ first ++ rest = sym (append_assoc front behind rest) ∙ ap (λ t. t ++ rest) (take-append-drop is.0 first) in
    (length front, subst (Appends old new) (sym (take-append_seam front (behind ++ rest)) ∙ ap (take (length front)) whole) is.1)

-- all of one text was written, and then some of the first of another
pub of_rest : (old between new : Option (List ℕ)) (first rest : List ℕ) → Appends old between first → AppendsPrefix between new rest → AppendsPrefix old new (first ++ rest)
of_rest old between new first rest whole is =
    (length first + is.0, subst (Appends old new) (sym (take-append-add first rest is.0)) (Appends-trans old between new first (take is.0 rest) whole is.1))

map-map : {X Y Z : Type 0} (f : Y → Z) (g : X → Y) (xs : List X) → map (λ x. f (g x)) xs ≡ map f (map g xs)
map-map f g [] = refl
map-map f g (x ∷ xs) = ap (λ l. f (g x) ∷ l) (map-map f g xs)

-- below the lines of violations those of attempts, of two kinds, and the sums
four_parts : (told some all sums attempts rest : List ℕ) → rest ≡ attempts ++ sums → attempts ≡ some ++ all → told ++ rest ≡ told ++ some ++ all ++ sums
four_parts told some all sums attempts rest one two = rw (one, two) (simp append_assoc)

-- the lines of the violations, with those of attempts and of the sums below them, are the report
pub is_report : (wanted : Bool) (image : LoadedImage) (cores : ℕ) (history : List Entry) (sites : List (Option Site)) (homefree : ℕ) (lines attempts rest : List ℕ) (totals : Totals)
    → sites ≡ sites_before image cores history (length history) → (counted : AreCounted wanted image cores history sites homefree lines attempts totals)
    → IsSummed image homefree (map (rollback_at image history sites) counted.found) (ended_before image cores history (length history)) (running_after image cores history) attempts rest
    → IsReport wanted image cores history homefree (lines ++ rest)
is_report wanted image cores history sites homefree lines attempts rest totals is counted printed =
    let ended = ended_before image cores history (length history) in
    let running = running_after image cores history in
    let attempts_told = attempt_lines ended running in
    let known = sites_before image cores history (length history) in
    let found = found_of image cores history known in
    let told : lines ≡ told_lines (map found counted.found) = counted.told ∙ ap (λ (xs : List (Option Site)). told_lines (map (found_of image cores history xs) counted.found)) is in
    let summed : map (rollback_at image history sites) counted.found ≡ map (λ (v : Finding × List FurtherRun). rollback_of v.0) (map found counted.found) =
    ap (λ (xs : List (Option Site)). map (rollback_at image history xs) counted.found) is
    ∙ map-map (λ (v : Finding × List FurtherRun). rollback_of v.0) found counted.found in
    record {
      found = counted.found;
      each_once = counted.are.each_once;
      explained = counted.are.explained;
      all = counted.all;
      all_are = counted.all_are;
      printed = record {
        sums = printed.sums;
        summed = subst (λ rollbacks. IsSummary image homefree rollbacks ended running printed.sums) summed printed.summed;
        printed = ap (λ t. t ++ rest) told
            ∙ four_parts (told_lines (map found counted.found)) attempts_told counted.all printed.sums attempts rest printed.printed counted.printed;
      };
    }
