-- A history that replays is found legal by an audit of the text in which it is printed.
use Rattle.std.proofs.Common.{◌≡◌, inl, inr, ℕ, zero, suc, ◌≤◌, List, [], ◌∷◌, length, take, Option, Some, None, Result, Ok, Err, MatchResult, refl, sym, ap, subst, ◌∙◌, arith}
use Rattle.std.specs.List.{slice_get}
use Rattle.rv32_image.specs.declared.fault.ImageFault.{ImageFault}
use Rattle.rv32_image.specs.Image.{LoadedImage}
use Rattle.rv32_image.specs.ImageText.{image_text}
use Rattle.spec_history.specs.declared.entry.Entry.{Entry}
use Rattle.spec_history.specs.Effect.{effect}
use Rattle.spec_history.specs.FlatState.{FlatState, first_state}
use Rattle.spec_history.specs.Refusal.{refusal_of}
use Rattle.spec_history.specs.Replay.{replay, replay_from}
use Rattle.spec_history.proofs.Replay.Replays.{legal_first}
use Rattle.trace_text.specs.declared.fault.TraceFault.{TraceFault}
use Rattle.trace_text.specs.declared.fault.TraceFaultKind.{TraceFaultKind}
use Rattle.trace_text.specs.declared.fault.TraceFaultKind.TheVariants as kind
use Rattle.trace_text.specs.TraceText.{Trace, image_part, longest_trace_text, trace_text}
use Rattle.trace_text.proofs.Above.{reads_back}
use Rattle.trace_commands.specs.declared.outcome.Outcome.{Outcome}
use Rattle.trace_commands.specs.declared.outcome.Outcome.TheVariants.{Reported, Audited, Usage, BadImage, BadTrace, Open, BadTurns, Differs, Stopped}
use Rattle.trace_commands.specs.declared.outcome.CommandStop.TheVariants as cause
use Rattle.trace_commands.specs.declared.outcome.Verdict.{Verdict}
use Rattle.trace_commands.specs.declared.outcome.Verdict.TheVariants.{Legal, Illegal as Refused}
use Rattle.trace_commands.specs.Audit.{IsAuditOutcome, IsTraceRefusal, IsVerdict, IsVerdictOn}
use Rattle.trace_commands.specs.Laws.{FindsLegal, PrintedIsLegal}

-- ---- no entry of a history that replays is refused

module _ (image : LoadedImage) (cores : ℕ) where
  legal_from : (entries : List Entry) (place : ℕ) (s before last : FlatState) (entry : Entry) → replay_from image cores s entries ≡ Some last
      → replay_from image cores s (take place entries) ≡ Some before → slice_get entries place ≡ Some entry → refusal_of image cores before entry ≡ None
  unfolding replay_from
  legal_from [] zero s before last entry all some there = absurd cc
  legal_from [] (suc place) s before last entry all some there = absurd cc
  legal_from (first ∷ rest) zero s before last entry all some there =
      let here : s ≡ before = cc in
      let same : first ≡ entry = cc in
      (λ k. refusal_of image cores (sym here k) (sym same k)) ∙ (legal_first (refusal_of image cores s first) (replay_from image cores (effect image s first) rest) last all).0
  legal_from (first ∷ rest) (suc place) s before last entry all some there =
      legal_from rest place (effect image s first) before last entry
      (legal_first (refusal_of image cores s first) (replay_from image cores (effect image s first) rest) last all).1
      (legal_first (refusal_of image cores s first) (replay_from image cores (effect image s first) (take place rest)) before some).1 there

  legal_at : (entries : List Entry) (place : ℕ) (before last : FlatState) (entry : Entry) → replay image cores entries ≡ Some last
      → replay image cores (take place entries) ≡ Some before → slice_get entries place ≡ Some entry → refusal_of image cores before entry ≡ None
  unfolding replay
  legal_at entries place before last entry all some there = legal_from entries place (first_state image) before last entry all some there

  -- the verdict on it
  module _ (entries : List Entry) (s : FlatState) (replays : replay image cores entries ≡ Some s) where
    verdict_is : (verdict : Verdict) → IsVerdict image cores entries verdict → verdict ≡ Legal (length entries) s.homefree
    verdict_is (Legal n homefree) is =
        let same : is.0 ≡ s = let e : Some is.0 ≡ Some s = sym is.1 ∙ replays in cc in
        (λ k. Legal (is.3 k) ((is.2 ∙ ap (λ (t : FlatState). t.homefree) same) k))
    verdict_is (Refused place refusal) is =
        let legal : refusal_of image cores is.0.before is.0.entry ≡ None = legal_at entries place is.0.before s is.0.entry replays is.0.replays is.0.there in
        elim is.0.answer [
          | inl refused ↦ absurd cc
          | inr memory ↦ absurd (is.1 memory.1)
        ]

    -- ---- of the text that is read as it

    module _ (text : List ℕ) (said : image_text (image_part text) ≡ Ok image) (trace : trace_text image.version text ≡ Ok (record { cores = cores; entries = entries }))
        (short : length text ≤ longest_trace_text) where
      of_image : (P : LoadedImage → Type 0) → MatchResult (image_text (image_part text)) P (λ fault. ⊥) → P image
      of_image P is = subst (λ (r : Result LoadedImage ImageFault). MatchResult r P (λ fault. ⊥)) said is

      verdict_on : (verdict : Verdict) → IsVerdictOn text verdict → verdict ≡ Legal (length entries) s.homefree
      verdict_on verdict is =
          let on = of_image (λ i. MatchResult (trace_text i.version text) (λ t. IsVerdict i t.cores t.entries verdict) (λ fault. ⊥)) is in
          verdict_is verdict (subst (λ (r : Result Trace TraceFault). MatchResult r (λ t. IsVerdict image t.cores t.entries verdict) (λ fault. ⊥)) trace on)

      no_fault : (fault : TraceFault) → trace_text image.version text ≡ Err fault → ⊥
      no_fault fault is =
          let read : Result Trace TraceFault = Ok (record { cores = cores; entries = entries }) in
          let e : read ≡ Err fault = sym trace ∙ is in cc

      refused_is : (line : ℕ) (k : TraceFaultKind) → IsTraceRefusal k (record { line = line; kind = k }) text → k ≡ kind.Read
      refused_is line kind.Read is = refl
      refused_is line kind.TooLong is = absurd (omega (arith, is.1, short))
      refused_is line kind.NoMemory is = absurd is
      refused_is line kind.Head is =
          absurd (no_fault (record { line = line; kind = kind.Head }) (of_image (λ i. trace_text i.version text ≡ Err (record { line = line; kind = kind.Head })) is))
      refused_is line kind.Line is =
          absurd (no_fault (record { line = line; kind = kind.Line }) (of_image (λ i. trace_text i.version text ≡ Err (record { line = line; kind = kind.Line })) is))

      no_image_fault : (fault : ImageFault) → image_text (image_part text) ≡ Err fault → ⊥
      no_image_fault fault is = let e : Ok image ≡ Err fault = sym said ∙ is in cc

      pub finds_legal : (old new : Option (List ℕ)) (outcome : Outcome) → IsAuditOutcome text old new outcome → FindsLegal (length entries) s.homefree outcome
      finds_legal old new (Audited verdict) is = verdict_on verdict is.0
      finds_legal old new (BadTrace fault) is = refused_is fault.line fault.kind is.0
      finds_legal old new (BadImage fault) is = absurd (no_image_fault fault is.0.0)
      finds_legal old new (Stopped cause.Write) is = tt
      finds_legal old new (Stopped cause.NoMemory) is = tt
      finds_legal old new (Stopped cause.HistoryFull) is = absurd is.0
      finds_legal old new (Stopped cause.NoThread) is = absurd is.0
      finds_legal old new (Stopped cause.Spent) is = absurd is.0
      finds_legal old new (Stopped cause.Shut) is = absurd is.0
      finds_legal old new (Reported end) is = absurd is.0
      finds_legal old new Usage is = absurd is.0
      finds_legal old new (Open homefree) is = absurd is.0
      finds_legal old new (BadTurns fault) is = absurd is.0
      finds_legal old new (Differs place) is = absurd is.0

pub printed_is_legal : PrintedIsLegal
printed_is_legal lines image cores entries s said count are replays short =
    let read = reads_back lines image cores entries said count are short in record {
      reads = read;
      finds = finds_legal image cores entries s replays _ (ap image_text read.image ∙ said) read.trace short;
    }
