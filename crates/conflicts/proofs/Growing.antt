-- Sites that grow by one entry of the history.
use Rattle.std.proofs.Common.{◌≡◌, ℕ, suc, ◌+◌, List, [], ◌∷◌, ◌++◌, take, Option, Some, option_and_then, slice_get, refl, sym, ap, ◌∙◌, add-one}
use Rattle.rv32_image.specs.Image.{LoadedImage}
use Rattle.spec_history.specs.declared.entry.Entry.{Entry}
use Rattle.spec_history.specs.FlatState.{FlatState}
use Rattle.spec_history.specs.Replay.{replay}
use Rattle.conflicts.specs.declared.standing.Site.{Site}
use Rattle.conflicts.specs.Sites.{site_at, site_in, sites_before}

pub no_sites : (image : LoadedImage) (count : ℕ) (entries : List Entry) → [] ≡ sites_before image count entries 0
unfolding sites_before
no_sites image count entries = refl

one_site : (image : LoadedImage) (count : ℕ) (entries : List Entry) (place : ℕ)
    → sites_before image count entries (suc place) ≡ sites_before image count entries place ++ site_at image count entries place ∷ []
unfolding sites_before
one_site image count entries place = refl

site_is : (image : LoadedImage) (count : ℕ) (entries : List Entry) (place : ℕ) (s : FlatState) (entry : Entry) → replay image count (take place entries) ≡ Some s
    → slice_get entries place ≡ Some entry → site_at image count entries place ≡ site_in image (s.cores entry.by)
site_is image count entries place s entry replays there =
    ap (option_and_then (λ (t : FlatState). option_and_then (λ (e : Entry). site_in image (t.cores e.by)) (slice_get entries place))) replays
    ∙ ap (option_and_then (λ (e : Entry). site_in image (s.cores e.by))) there

pub sites_more : (image own : LoadedImage) (count : ℕ) (entries : List Entry) (place : ℕ) (s : FlatState) (entry : Entry) (site : Option Site) (old new : List (Option Site))
    → own ≡ image → replay image count (take place entries) ≡ Some s → slice_get entries place ≡ Some entry → site ≡ site_in own (s.cores entry.by)
    → old ≡ sites_before image count entries place → new ≡ old ++ site ∷ [] → new ≡ sites_before image count entries (place + 1)
sites_more image own count entries place s entry site old new same replays there is before grown =
    grown
    ∙ (ap (λ xs. xs ++ site ∷ []) before
    ∙ (ap (λ x. sites_before image count entries place ++ x ∷ [])
    (is ∙ (ap (λ i. site_in i (s.cores entry.by)) same ∙ sym (site_is image count entries place s entry replays there)))
    ∙ sym (ap (sites_before image count entries) (add-one place) ∙ one_site image count entries place)))
