-- Lists of attempts that grow by one entry of the history, or by one core.
use Rattle.std.proofs.Common.{◌≡◌, ℕ, suc, ◌+◌, List, [], ◌++◌, take, Option, Some, option_and_then, option_to_list, slice_get, refl, sym, ap, ◌∙◌, add-one}
use Rattle.rv32_image.specs.Image.{LoadedImage}
use Rattle.spec_history.specs.declared.entry.Entry.{Entry}
use Rattle.spec_history.specs.FlatState.{FlatState}
use Rattle.spec_history.specs.Replay.{replay}
use Rattle.conflict_findings.specs.declared.ended.Ended.{Ended}
use Rattle.conflict_findings.specs.declared.ended.Running.{Running}
use Rattle.conflict_findings.specs.Ends.{ended_at, ended_before, ended_by, running_below, running_in}

pub none_ended : (image : LoadedImage) (count : ℕ) (entries : List Entry) → [] ≡ ended_before image count entries 0
unfolding ended_before
none_ended image count entries = refl

pub one_ended : (image : LoadedImage) (count : ℕ) (entries : List Entry) (place : ℕ)
    → ended_before image count entries (suc place) ≡ ended_before image count entries place ++ option_to_list (ended_at image count entries place)
unfolding ended_before
one_ended image count entries place = refl

pub ended_is : (image : LoadedImage) (count : ℕ) (entries : List Entry) (place : ℕ) (s : FlatState) (entry : Entry) → replay image count (take place entries) ≡ Some s
    → slice_get entries place ≡ Some entry → ended_at image count entries place ≡ ended_by image count entries s place entry.by entry.what
ended_is image count entries place s entry replays there =
    ap (option_and_then (λ (t : FlatState). option_and_then (λ (e : Entry). ended_by image count entries t place e.by e.what) (slice_get entries place))) replays
    ∙ ap (option_and_then (λ (e : Entry). ended_by image count entries s place e.by e.what)) there

pub ended_more : (image own : LoadedImage) (count : ℕ) (entries : List Entry) (place : ℕ) (s : FlatState) (entry : Entry) (found : Option Ended) (old new : List Ended)
    → own ≡ image → replay image count (take place entries) ≡ Some s → slice_get entries place ≡ Some entry → found ≡ ended_by own count entries s place entry.by entry.what
    → old ≡ ended_before image count entries place → new ≡ old ++ option_to_list found → new ≡ ended_before image count entries (place + 1)
ended_more image own count entries place s entry found old new same replays there is before grown =
    grown
    ∙ (ap (λ xs. xs ++ option_to_list found) before
    ∙ (ap (λ x. ended_before image count entries place ++ option_to_list x)
    (is ∙ (ap (λ i. ended_by i count entries s place entry.by entry.what) same ∙ sym (ended_is image count entries place s entry replays there)))
    ∙ sym (ap (ended_before image count entries) (add-one place) ∙ one_ended image count entries place)))

pub none_running : (image : LoadedImage) (entries : List Entry) (s : FlatState) → [] ≡ running_below image entries s 0
unfolding running_below
none_running image entries s = refl

pub one_running : (image : LoadedImage) (entries : List Entry) (s : FlatState) (core : ℕ) → running_below image entries s (suc core) ≡ running_below image entries s core ++ option_to_list (running_in image entries s core)
unfolding running_below
one_running image entries s core = refl

pub running_more : (image : LoadedImage) (entries : List Entry) (s : FlatState) (core : ℕ) (found : Option Running) (old new : List Running) → found ≡ running_in image entries s core
    → old ≡ running_below image entries s core → new ≡ old ++ option_to_list found → new ≡ running_below image entries s (core + 1)
running_more image entries s core found old new is before grown =
    grown ∙ (ap (λ xs. xs ++ option_to_list found) before
    ∙ (ap (λ x. running_below image entries s core ++ option_to_list x) is
    ∙ sym (ap (running_below image entries s) (add-one core) ∙ one_running image entries s core)))
