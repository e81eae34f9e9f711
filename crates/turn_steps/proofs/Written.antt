-- A text that is written as it grows.
use Rattle.std.proofs.Common.{◌≡◌, ℕ, Bool, true, false, List, [], ◌++◌, take, drop, Option, refl, sym, ap, ◌∙◌, append_assoc, append-nil, take-append-drop}
use Rattle.std.specs.Bool.{OnTrue}
use Rattle.std.specs.Io.KnownBytes.{Appends}
use Rattle.std.proofs.KnownBytes.{Appends-nil, Appends-trans}
use Rattle.trace_commands.specs.Outcome.{AppendsPrefix}
use Rattle.turn_steps.specs.Writing.{AppendsFirst, IsWrittenBut, IsWrittenSo}

-- nothing was written
pub nothing_first : (known : Option (List ℕ)) → AppendsFirst known known []
nothing_first known = ([], [], Appends-nil known, refl)

module _ (old mid new : Option (List ℕ)) (text bytes : List ℕ) where
  -- what was written is some of the first
  pub first_of : (whole : Bool) → IsWrittenSo whole old new text → AppendsFirst old new text
  first_of true so = (text, [], so, sym (append-nil text))
  first_of false so = so

  -- more of it is written
  grows : (whole : Bool) → OnTrue whole (Appends mid new bytes) → AppendsPrefix mid new bytes → Appends old mid text → IsWrittenSo whole old new (text ++ bytes)
  grows true is part so = Appends-trans old mid new text bytes so is
  grows false is part so = (
    text ++ take part.0 bytes,
    drop part.0 bytes,
    Appends-trans old mid new text (take part.0 bytes) so part.1,
    ap (λ b. text ++ b) (sym (take-append-drop part.0 bytes)) ∙ sym (append_assoc text (take part.0 bytes) (drop part.0 bytes)),
  )

  pub more_written : (before whole : Bool) → before ≡ true → OnTrue whole (Appends mid new bytes) → AppendsPrefix mid new bytes
      → IsWrittenSo before old mid text → IsWrittenSo whole old new (text ++ bytes)
  more_written true whole all is part so = grows whole is part so
  more_written false whole all is part so = absurd cc

  -- no more of it is
  pub no_more_written : (before : Bool) → before ≡ false → IsWrittenSo before old new text → IsWrittenSo before old new (text ++ bytes)
  no_more_written true all so = absurd cc
  no_more_written false all so = (so.0, so.1 ++ bytes, so.2, ap (λ t. t ++ bytes) so.3 ∙ append_assoc so.0 so.1 bytes)

-- ---- a rest of it is kept

module _ (rest told : List ℕ) (whole : Bool) (old new : Option (List ℕ)) (so : IsWrittenBut rest whole old new told) where
  pub first_but : AppendsFirst old new told
  first_but = let first = first_of old new new so.0 [] whole so.1 in (first.0, first.1 ++ rest, first.2, so.2 ∙ (ap (λ t. t ++ rest) first.3 ∙ append_assoc first.0 first.1 rest))

  -- it grows
  pub grows_by : (more longer : List ℕ) → longer ≡ rest ++ more → IsWrittenBut longer whole old new (told ++ more)
  grows_by more longer is = (so.0, so.1, ap (λ t. t ++ more) so.2 ∙ (append_assoc so.0 rest more ∙ ap (λ r. so.0 ++ r) (sym is)))

-- all of it is written
pub none_kept : (rest bytes kept told : List ℕ) (before whole : Bool) (old mid new : Option (List ℕ)) → bytes ≡ rest → kept ≡ []
    → ((text : List ℕ) → IsWrittenSo before old mid text → IsWrittenSo whole old new (text ++ bytes)) → IsWrittenBut rest before old mid told → IsWrittenBut kept whole old new told
none_kept rest bytes kept told before whole old mid new is none writes so = (
  so.0 ++ bytes,
  writes so.0 so.1,
  so.2 ∙ (ap (λ r. so.0 ++ r) (sym is) ∙ (sym (append-nil (so.0 ++ bytes)) ∙ ap (λ k. (so.0 ++ bytes) ++ k) (sym none))),
)
