-- How many violations of a history are of each kind.
-- Source: this project.
use Rattle.std.specs.Prelude.{◌≡◌, ℕ, Bool, true, false, List, length, count_by, All}
use Rattle.rv32_image.specs.Image.{LoadedImage}
use Rattle.spec_history.specs.declared.entry.Entry.{Entry}
use Rattle.spec_history.specs.declared.kind.Kind.{Kind}
use Rattle.spec_history.specs.declared.kind.Kind.TheVariants.{TrueSharing, SilentStore, FalseSharing, FullBuffer, Unexplained}
use Rattle.conflicts.specs.declared.explanation.Explanation.{Explanation}
use Rattle.conflicts.specs.Explained.{IsExplained, places_of, violations_before}
use Rattle.gain.specs.declared.kinds.Kinds.{Kinds}

abbrev pub is_kind : Kind → Kind → Bool
is_kind TrueSharing TrueSharing = true
is_kind SilentStore SilentStore = true
is_kind FalseSharing FalseSharing = true
is_kind FullBuffer FullBuffer = true
is_kind Unexplained Unexplained = true
is_kind kind other = false

abbrev pub count_of : Kind → List Explanation → ℕ
count_of kind found = count_by (λ (e : Explanation). is_kind kind e.kind) found

abbrev pub kinds_in : List Explanation → Kinds
kinds_in found = record {
  true_sharing = count_of TrueSharing found;
  silent_store = count_of SilentStore found;
  false_sharing = count_of FalseSharing found;
  full_buffer = count_of FullBuffer found;
}

-- those of the explanations of its violations, one for each
pub record AreKinds (image : LoadedImage) (cores : ℕ) (history : List Entry) (kinds : Kinds) : Type 0 where
  pub found : List Explanation
  pub each_once : places_of found ≡ violations_before history (length history)
  pub explained : All (IsExplained image cores history) found
  pub kinds_are : kinds ≡ kinds_in found
