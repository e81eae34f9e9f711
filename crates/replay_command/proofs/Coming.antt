-- What a command came to, from what its parts came to.
use Rattle.std.proofs.Common.{◌≡◌, ◌⊎◌, ℕ, Bool, true, false, List, [], ◌++◌, length, take, Option, Some, None, inl, inr, refl, sym, ap, subst, ◌∙◌, append_assoc, append-nil}
use Rattle.std.proofs.lemmas.List.{take_at}
use Rattle.std.specs.Io.KnownBytes.{Appends, Keeps}
use Rattle.std.proofs.KnownBytes.{Appends-trans}
use Rattle.rv32_image.specs.Image.{LoadedImage}
use Rattle.rv32_exec.specs.declared.sequential.End.{End}
use Rattle.spec_history.specs.declared.entry.Entry.{Entry}
use Rattle.trace_commands.specs.declared.outcome.Outcome.{Outcome}
use Rattle.trace_commands.specs.declared.outcome.Outcome.TheVariants.{Reported, Audited, Usage, BadImage, BadTrace, Open, BadTurns, Differs, Stopped}
use Rattle.trace_commands.specs.declared.outcome.CommandStop.TheVariants.{Write, NoMemory, HistoryFull, NoThread, Spent, Shut}
use Rattle.trace_commands.specs.Outcome.{AppendsPrefix}
use Rattle.turn_steps.specs.Writing.{AppendsFirst, IsWrittenBut}
use Rattle.turn_steps.proofs.Written.{first_but, more_written}
use Rattle.replay_command.specs.Shown.{IsShown, outcome_at}
use Rattle.replay_command.specs.Told.{Comes, IsBelow, IsShownBelow}

-- ---- what follows from what a part came to

either_by : {A B C : Type 0} → (B → C) → A ⊎ B → A ⊎ C
either_by f (inl a) = inl a
either_by f (inr b) = inr (f b)

pub comes_by : (P Q : Outcome → List ℕ → Type 0) (U V : Outcome → Type 0) (L M : Type 0) (old new : Option (List ℕ)) (outcome : Outcome)
    → ((o : Outcome) (text : List ℕ) → P o text → Q o text) → ((o : Outcome) → U o → V o) → (L → M) → Comes P U L old new outcome → Comes Q V M old new outcome
comes_by P Q U V L M old new (Reported end) p u l so = (so.0, p (Reported end) so.0 so.1, so.2)
comes_by P Q U V L M old new (Audited verdict) p u l so = (u (Audited verdict) so.0, so.1)
comes_by P Q U V L M old new Usage p u l so = (u Usage so.0, so.1)
comes_by P Q U V L M old new (BadImage fault) p u l so = (u (BadImage fault) so.0, so.1)
comes_by P Q U V L M old new (BadTrace fault) p u l so = (u (BadTrace fault) so.0, so.1)
comes_by P Q U V L M old new (Open homefree) p u l so = (so.0, p (Open homefree) so.0 so.1, so.2)
comes_by P Q U V L M old new (BadTurns fault) p u l so = (u (BadTurns fault) so.0, so.1)
comes_by P Q U V L M old new (Differs place) p u l so = (u (Differs place) so.0, so.1)
comes_by P Q U V L M old new (Stopped Write) p u l so = (so.0, so.1, p so.0 so.1 so.2, so.3)
comes_by P Q U V L M old new (Stopped NoMemory) p u l so = either_by l so
comes_by P Q U V L M old new (Stopped HistoryFull) p u l so = (u (Stopped HistoryFull) so.0, so.1)
comes_by P Q U V L M old new (Stopped NoThread) p u l so = (u (Stopped NoThread) so.0, so.1)
comes_by P Q U V L M old new (Stopped Spent) p u l so = (u (Stopped Spent) so.0, so.1)
comes_by P Q U V L M old new (Stopped Shut) p u l so = (u (Stopped Shut) so.0, so.1)

-- nothing is printed, and nothing was written
pub unwritten : (P : Outcome → List ℕ → Type 0) (U : Outcome → Type 0) (L : Type 0) (old : Option (List ℕ)) (outcome : Outcome)
    → U outcome → (outcome ≡ Stopped Write → ⊥) → ((end : End) → outcome ≡ Reported end → ⊥) → ((homefree : ℕ) → outcome ≡ Open homefree → ⊥) → Keeps old old → Comes P U L old old outcome
unwritten P U L old (Reported end) is w r o kept = absurd (r end refl)
unwritten P U L old (Open homefree) is w r o kept = absurd (o homefree refl)
unwritten P U L old (Stopped Write) is w r o kept = absurd (w refl)
unwritten P U L old (Stopped NoMemory) is w r o kept = inl kept
unwritten P U L old (Stopped HistoryFull) is w r o kept = (is, kept)
unwritten P U L old (Differs place) is w r o kept = (is, kept)
unwritten P U L old (Audited verdict) is w r o kept = (is, kept)
unwritten P U L old Usage is w r o kept = (is, kept)
unwritten P U L old (BadImage fault) is w r o kept = (is, kept)
unwritten P U L old (BadTrace fault) is w r o kept = (is, kept)
unwritten P U L old (BadTurns fault) is w r o kept = (is, kept)
unwritten P U L old (Stopped NoThread) is w r o kept = (is, kept)
unwritten P U L old (Stopped Spent) is w r o kept = (is, kept)
unwritten P U L old (Stopped Shut) is w r o kept = (is, kept)

-- ---- what is printed of a book, below a head

-- some of the first of a text is some of the first of a longer one
pub prefix_of : (old new : Option (List ℕ)) (text more : List ℕ) → AppendsFirst old new text → AppendsPrefix old new (text ++ more)
prefix_of old new text more so =
    let longer : text ++ more ≡ so.0 ++ (so.1 ++ more) = ap (λ t. t ++ more) so.3 ∙ append_assoc so.0 so.1 more in (
      length so.0,
      subst (Appends old new) (sym (ap (take (length so.0)) longer ∙ take_at so.0 (so.1 ++ more) (length so.0) refl)) so.2,
    )

module _ (image : LoadedImage) (cores : ℕ) (history : List Entry) (head below : List ℕ) (old mid new : Option (List ℕ)) (outcome : Outcome)
    (shown : IsShown image cores history outcome below) where
  all_at : (end : Option End) (homefree : ℕ) → outcome ≡ outcome_at end homefree → Appends old new (head ++ below) → IsShownBelow image cores history head old new outcome
  all_at (Some end) homefree is all =
      subst (IsShownBelow image cores history head old new) (sym is)
      (head ++ below, subst (λ o. IsBelow image cores history head o (head ++ below)) is (below, shown, refl), all)
  all_at None homefree is all =
      subst (IsShownBelow image cores history head old new) (sym is)
      (head ++ below, subst (λ o. IsBelow image cores history head o (head ++ below)) is (below, shown, refl), all)

  module _ (rest : List ℕ) where
    ends : (before : List ℕ) → head ≡ before ++ rest → before ++ (rest ++ below) ≡ head ++ below
    ends before is = sym (ap (λ t. t ++ below) is ∙ append_assoc before rest below)

    -- all was written
    pub shows_all : (whole : Bool) → whole ≡ true → IsWrittenBut rest whole old mid head → Appends mid new (rest ++ below) → IsShownBelow image cores history head old new outcome
    shows_all true all so more =
        all_at shown.state.end shown.state.homefree shown.outcome_is (subst (Appends old new) (ends so.0 so.2) (Appends-trans old mid new so.0 (rest ++ below) so.1 more))
    shows_all false all so more = absurd cc

    -- the last write failed
    pub shows_some : (whole : Bool) → whole ≡ true → IsWrittenBut rest whole old mid head → AppendsPrefix mid new (rest ++ below) → IsShownBelow image cores history head old new (Stopped Write)
    shows_some true all so part = (
      outcome,
      head ++ below,
      (below, shown, refl),
      subst (AppendsPrefix old new) (append-nil (so.0 ++ (rest ++ below)) ∙ ends so.0 so.2)
          (prefix_of old new (so.0 ++ (rest ++ below)) [] (more_written old mid new so.0 (rest ++ below) true false refl tt part so.1)),
    )
    shows_some false all so part = absurd cc

    -- one before it had
    pub shows_first : (whole : Bool) → IsWrittenBut rest whole old new head → IsShownBelow image cores history head old new (Stopped Write)
    shows_first whole so = (outcome, head ++ below, (below, shown, refl), prefix_of old new head below (first_but rest head whole old new so))
