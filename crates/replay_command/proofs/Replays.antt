-- What the replay of turns, of a trace and of a text comes to, from what their parts came to.
use Rattle.std.proofs.Common.{◌≡◌, ◌⊎◌, ℕ, Bool, true, false, List, length, Option, Some, None, Ok, Err, inl, inr, refl, sym, subst}
use Rattle.std.proofs.Math.Seq.{take-length}
use Rattle.rv32_image.specs.Image.{LoadedImage}
use Rattle.rv32_image.specs.ImageText.{image_text}
use Rattle.rv32_image.proofs.Inputs.{by_image}
use Rattle.rv32_exec.specs.declared.sequential.End.{End}
use Rattle.spec_history.specs.declared.entry.Entry.{Entry}
use Rattle.violations.specs.View.{StoreView, Waits}
use Rattle.violations.specs.Calls.{Call}
use Rattle.homefree.specs.declared.book.Loop.{Loop}
use Rattle.homefree.specs.declared.fault.TurnFault.{TurnFault}
use Rattle.homefree.specs.declared.fault.TurnFault.TheVariants as fault
use Rattle.trace_commands.specs.declared.outcome.Outcome.{Outcome}
use Rattle.trace_commands.specs.declared.outcome.Outcome.TheVariants.{Reported, Audited, Usage, BadImage, BadTrace, Open, BadTurns, Differs, Stopped}
use Rattle.trace_commands.specs.declared.outcome.CommandStop.{CommandStop}
use Rattle.trace_commands.specs.declared.outcome.CommandStop.TheVariants as cause
use Rattle.trace_text.specs.declared.fault.TraceFaultKind.{TraceFaultKind}
use Rattle.trace_text.specs.declared.fault.TraceFaultKind.TheVariants as trace
use Rattle.trace_text.specs.Reading.{IsFaultOf}
use Rattle.trace_commands.specs.Outcome.{outcome_of_turns_fault}
use Rattle.trace_commands.specs.Audit.{IsNoVerdict, IsTracedBy}
use Rattle.trace_commands.proofs.Audits.{keeps_itself}
use Rattle.turn_steps.specs.Writing.{AppendsFirst}
use Rattle.replay_command.specs.declared.settings.Settings.{Settings}
use Rattle.replay_command.specs.Settings.{RunsWith, loop_with}
use Rattle.all_schedules.specs.Made.{IsFault, IsFull, Makes}
use Rattle.replay_command.specs.Shown.{IsShown}
use Rattle.replay_command.specs.Replay.{IsFullOutcome, IsLinesOutcome, IsNoReplay, IsPrinted, IsReplay, IsTurnsOutcome, IsUnprinted, IsUnreadOutcome, HasBegunOn, OfText, cause_of}
use Rattle.all_schedules.specs.Fixed.{HistoryIsFixed}
use Rattle.replay_command.specs.Told.{Comes, HasBegun, IsBelow, IsShownBelow, IsShownMade, Leaves}
use Rattle.replay_command.specs.Traced.{IsNoRetrace, IsNotRetraced, IsNotSame, IsRetraceOutcome, IsRetraced, IsTraceOutcome, OfTrace, is_other}
use Rattle.homefree.specs.Retraced.{turns_of}
use Rattle.replay_command.specs.Turns.{image_part, schedule_text}
use Rattle.replay_command.proofs.Coming.{comes_by}
use Rattle.replay_command.proofs.Outcomes.{by_text}

module _ {S : Type 0} (starts : LoadedImage → ℕ → S → Type 0) (makes : S → Call → S → Type 0) (view : S → StoreView) (waits : S → Waits) (heads : Loop → List ℕ → List Entry → List ℕ → Type 0) where
  -- all turns of a schedule are its first
  begun_by : (l : Loop) (schedule : List ℕ) (history : List Entry) (head : List ℕ) (old new : Option (List ℕ)) → heads l schedule history head → AppendsFirst old new head → HasBegun heads l schedule old new
  begun_by l schedule history head old new is first = (length schedule, history, head, subst (λ s. heads l s history head) (sym (take-length schedule)) is, first)

  -- ---- turns

  module _ (l : Loop) (schedule : List ℕ) (old new : Option (List ℕ)) where
    pub shown_comes : (history : List Entry) (head : List ℕ) (result : Option End) (outcome : Outcome) → Makes starts makes view waits l schedule (Ok result) history → heads l schedule history head
        → IsShownBelow l.image l.cores history head old new outcome → IsTurnsOutcome starts makes view waits heads l schedule old new outcome
    shown_comes history head result outcome made is_head so =
        comes_by (IsBelow l.image l.cores history head) (IsReplay starts makes view waits heads l schedule) (λ o. ⊥) (IsFullOutcome starts makes view waits l schedule) (AppendsFirst old new head)
        (HasBegun heads l schedule old new) old new outcome
        (λ o text below. record { result = result; history = history; makes = made; head = head; is_head = is_head; below = below.0; shown = below.1; text_is = below.2 })
        (λ o no. absurd no) (λ first. begun_by l schedule history head old new is_head first) so

    -- each of them is told
    pub told_comes : (end : Option End) (history : List Entry) (outcome : Outcome) → Makes starts makes view waits l schedule (Ok end) history → IsShownMade heads l schedule history old new outcome
        → IsTurnsOutcome starts makes view waits heads l schedule old new outcome
    told_comes end history outcome made so =
        comes_by (λ o text. (head : List ℕ) × heads l schedule history head × IsBelow l.image l.cores history head o text) (IsReplay starts makes view waits heads l schedule) (λ o. ⊥)
        (IsFullOutcome starts makes view waits l schedule) (HasBegun heads l schedule old new) (HasBegun heads l schedule old new) old new outcome
        (λ o text is. record { result = end; history = history; makes = made; head = is.0; is_head = is.1; below = is.2.0; shown = is.2.1; text_is = is.2.2 })
        (λ o no. absurd no) (λ begun. begun) so

  -- of a text
  full_comes : (l : Loop) (schedule : List ℕ) (o : Outcome) → IsFullOutcome starts makes view waits l schedule o → (o ≡ Stopped cause.HistoryFull) × IsFull starts makes view waits l schedule
  full_comes l schedule (Stopped cause.HistoryFull) is = (refl, is)
  full_comes l schedule (Stopped cause.Write) is = absurd is
  full_comes l schedule (Stopped cause.NoMemory) is = absurd is
  full_comes l schedule (Stopped cause.NoThread) is = absurd is
  full_comes l schedule (Stopped cause.Spent) is = absurd is
  full_comes l schedule (Stopped cause.Shut) is = absurd is
  full_comes l schedule (Reported end) is = absurd is
  full_comes l schedule (Audited verdict) is = absurd is
  full_comes l schedule Usage is = absurd is
  full_comes l schedule (BadImage f) is = absurd is
  full_comes l schedule (BadTrace f) is = absurd is
  full_comes l schedule (Open homefree) is = absurd is
  full_comes l schedule (BadTurns f) is = absurd is
  full_comes l schedule (Differs place) is = absurd is

  pub lines_come : (cores : ℕ) (settings : Settings) (text : List ℕ) (image : LoadedImage) (schedule : List ℕ) (old new : Option (List ℕ)) (outcome : Outcome) → image_text (image_part text) ≡ Ok image
      → RunsWith image cores settings → schedule_text cores text ≡ Ok schedule → IsTurnsOutcome starts makes view waits heads (loop_with image cores settings) schedule old new outcome
      → IsLinesOutcome starts makes view waits heads cores settings text old new outcome
  lines_come cores settings text image schedule old new outcome said allowed turns so =
      let l = loop_with image cores settings in
      comes_by (IsReplay starts makes view waits heads l schedule) (λ o printed. OfText cores settings text (λ l schedule. IsReplay starts makes view waits heads l schedule o printed))
      (IsFullOutcome starts makes view waits l schedule) (IsNoReplay starts makes view waits cores settings text)
      (HasBegun heads l schedule old new) (OfText cores settings text (λ l schedule. HasBegun heads l schedule old new)) old new outcome
      (λ o printed is. by_text cores settings text image schedule (λ l schedule. IsReplay starts makes view waits heads l schedule o printed) said allowed turns is)
      (λ o is. let full = full_comes l schedule o is in subst (IsNoReplay starts makes view waits cores settings text) (sym full.0) (by_text cores settings text image schedule (IsFull starts makes view waits) said allowed turns full.1))
      (λ begun. by_text cores settings text image schedule (λ l schedule. HasBegun heads l schedule old new) said allowed turns begun) so

  -- the machine can't run the image
  pub lines_cannot : (cores : ℕ) (settings : Settings) (text : List ℕ) (old : Option (List ℕ)) (image : LoadedImage) → image_text (image_part text) ≡ Ok image → (RunsWith image cores settings → ⊥)
      → IsLinesOutcome starts makes view waits heads cores settings text old old Usage
  lines_cannot cores settings text old image said cannot = (by_image (image_part text) image (λ i. RunsWith i cores settings → ⊥) said cannot, keeps_itself old)

  -- the lines of turns are refused
  pub turns_refused : (cores : ℕ) (settings : Settings) (text : List ℕ) (old : Option (List ℕ)) (line : ℕ) (kind : TraceFaultKind) (image : LoadedImage) → image_text (image_part text) ≡ Ok image → RunsWith image cores settings
      → IsFaultOf kind (record { line = line; kind = kind }) (schedule_text cores text)
      → IsLinesOutcome starts makes view waits heads cores settings text old old (outcome_of_turns_fault kind (record { line = line; kind = kind }))
  turns_refused cores settings text old line trace.Read image said allowed is = absurd is
  turns_refused cores settings text old line trace.NoMemory image said allowed is = inl (keeps_itself old)
  turns_refused cores settings text old line kind image said allowed is =
      (by_image (image_part text) image (λ l. RunsWith l cores settings × (schedule_text cores text ≡ Err (record { line = line; kind = kind }))) said (allowed, is), keeps_itself old)

  -- ---- a trace

  module _ (l : Loop) (entries : List Entry) (old new : Option (List ℕ)) where
    pub not_same : (history : List Entry) (result : Option End) → Makes starts makes view waits l (turns_of l.cores entries) (Ok result) history → (o : Outcome) → IsNotSame history entries o → IsNotRetraced starts makes view waits l entries o
    not_same history result made (Differs place) part = record { result = result; history = history; makes = made; part = part }
    not_same history result made (Stopped cause.NoMemory) is = tt
    not_same history result made (Stopped cause.HistoryFull) is = absurd is
    not_same history result made (Stopped cause.Write) is = absurd is
    not_same history result made (Stopped cause.NoThread) is = absurd is
    not_same history result made (Stopped cause.Spent) is = absurd is
    not_same history result made (Stopped cause.Shut) is = absurd is
    not_same history result made (Reported end) is = absurd is
    not_same history result made (Audited verdict) is = absurd is
    not_same history result made Usage is = absurd is
    not_same history result made (BadImage f) is = absurd is
    not_same history result made (BadTrace f) is = absurd is
    not_same history result made (Open homefree) is = absurd is
    not_same history result made (BadTurns f) is = absurd is

    retraced : (history : List Entry) (head : List ℕ) (result : Option End) → Makes starts makes view waits l (turns_of l.cores entries) (Ok result) history
        → heads l (turns_of l.cores entries) history head → (o : Outcome) (text : List ℕ) → history ≡ entries → IsBelow l.image l.cores history head o text
        → IsRetraced starts makes view waits heads l entries o text
    retraced history head result made is_head o text same below = record {
      result = result;
      makes = subst (Makes starts makes view waits l (turns_of l.cores entries) (Ok result)) same made;
      head = head;
      is_head = subst (λ h. heads l (turns_of l.cores entries) h head) same is_head;
      below = below.0;
      shown = subst (λ h. IsShown l.image l.cores h o below.0) same below.1;
      text_is = below.2;
    }

    pub whole_comes : (history : List Entry) (head : List ℕ) (result : Option End) (outcome : Outcome) → Makes starts makes view waits l (turns_of l.cores entries) (Ok result) history
        → heads l (turns_of l.cores entries) history head → history ≡ entries → IsShownBelow l.image l.cores history head old new outcome → IsTraceOutcome starts makes view waits heads l entries old new outcome
    whole_comes history head result outcome made is_head same so =
        comes_by (IsBelow l.image l.cores history head) (IsRetraced starts makes view waits heads l entries) (λ o. ⊥) (IsNotRetraced starts makes view waits l entries)
        (AppendsFirst old new head) (HasBegun heads l (turns_of l.cores entries) old new) old new outcome
        (λ o text below. retraced history head result made is_head o text same below)
        (λ o no. absurd no) (λ first. begun_by l (turns_of l.cores entries) history head old new is_head first) so

    pub told_trace_comes : (end : Option End) (outcome : Outcome) → Makes starts makes view waits l (turns_of l.cores entries) (Ok end) entries
        → IsShownMade heads l (turns_of l.cores entries) entries old new outcome → IsTraceOutcome starts makes view waits heads l entries old new outcome
    told_trace_comes end outcome made so =
        comes_by (λ o text. (head : List ℕ) × heads l (turns_of l.cores entries) entries head × IsBelow l.image l.cores entries head o text) (IsRetraced starts makes view waits heads l entries) (λ o. ⊥)
        (IsNotRetraced starts makes view waits l entries) (HasBegun heads l (turns_of l.cores entries) old new) (HasBegun heads l (turns_of l.cores entries) old new) old new outcome
        (λ o text is. retraced entries is.0 end made is.1 o text refl is.2)
        (λ o no. absurd no) (λ begun. begun) so

  -- the input has no image and no trace
  pub verdict_comes : (cores : Option ℕ) (settings : Settings) (text : List ℕ) (old : Option (List ℕ)) (o : Outcome) → IsNoVerdict text o → IsRetraceOutcome starts makes view waits heads cores settings text old old o
  verdict_comes cores settings text old (BadImage f) is = (is, keeps_itself old)
  verdict_comes cores settings text old (BadTrace f) is = (is, keeps_itself old)
  verdict_comes cores settings text old (Stopped cause.NoMemory) is = inl (keeps_itself old)
  verdict_comes cores settings text old (Stopped cause.HistoryFull) is = absurd is
  verdict_comes cores settings text old (Stopped cause.Write) is = absurd is
  verdict_comes cores settings text old (Stopped cause.NoThread) is = absurd is
  verdict_comes cores settings text old (Stopped cause.Spent) is = absurd is
  verdict_comes cores settings text old (Stopped cause.Shut) is = absurd is
  verdict_comes cores settings text old (Reported end) is = absurd is
  verdict_comes cores settings text old (Audited verdict) is = absurd is
  verdict_comes cores settings text old Usage is = absurd is
  verdict_comes cores settings text old (Open homefree) is = absurd is
  verdict_comes cores settings text old (BadTurns f) is = absurd is
  verdict_comes cores settings text old (Differs place) is = absurd is

  no_retrace : (cores : Option ℕ) (settings : Settings) (text : List ℕ) (image : LoadedImage) (number : ℕ) (entries : List Entry) → IsTracedBy text image number entries → is_other cores number ≡ false → RunsWith image number settings
      → (o : Outcome) → IsNotRetraced starts makes view waits (loop_with image number settings) entries o → IsNoRetrace starts makes view waits cores settings text o
  no_retrace cores settings text image number entries traced same runs (Differs place) is =
      record { image = image; number = number; entries = entries; traced = traced; same = same; runs = runs; holds = is }
  no_retrace cores settings text image number entries traced same runs (Stopped cause.HistoryFull) is =
      record { image = image; number = number; entries = entries; traced = traced; same = same; runs = runs; holds = is }
  no_retrace cores settings text image number entries traced same runs (Stopped cause.NoMemory) is = tt
  no_retrace cores settings text image number entries traced same runs (Stopped cause.Write) is = absurd is
  no_retrace cores settings text image number entries traced same runs (Stopped cause.NoThread) is = absurd is
  no_retrace cores settings text image number entries traced same runs (Stopped cause.Spent) is = absurd is
  no_retrace cores settings text image number entries traced same runs (Stopped cause.Shut) is = absurd is
  no_retrace cores settings text image number entries traced same runs (Reported end) is = absurd is
  no_retrace cores settings text image number entries traced same runs (Audited verdict) is = absurd is
  no_retrace cores settings text image number entries traced same runs Usage is = absurd is
  no_retrace cores settings text image number entries traced same runs (BadImage f) is = absurd is
  no_retrace cores settings text image number entries traced same runs (BadTrace f) is = absurd is
  no_retrace cores settings text image number entries traced same runs (Open homefree) is = absurd is
  no_retrace cores settings text image number entries traced same runs (BadTurns f) is = absurd is

  pub trace_comes : (cores : Option ℕ) (settings : Settings) (text : List ℕ) (image : LoadedImage) (number : ℕ) (entries : List Entry) (old new : Option (List ℕ)) (outcome : Outcome)
      → IsTracedBy text image number entries → is_other cores number ≡ false → RunsWith image number settings
      → IsTraceOutcome starts makes view waits heads (loop_with image number settings) entries old new outcome
      → IsRetraceOutcome starts makes view waits heads cores settings text old new outcome
  trace_comes cores settings text image number entries old new outcome traced same runs so =
      let l = loop_with image number settings in
      comes_by (IsRetraced starts makes view waits heads l entries) (λ o printed. OfTrace cores settings text (λ l entries. IsRetraced starts makes view waits heads l entries o printed))
      (IsNotRetraced starts makes view waits l entries) (IsNoRetrace starts makes view waits cores settings text)
      (HasBegun heads l (turns_of l.cores entries) old new) (OfTrace cores settings text (λ l entries. HasBegun heads l (turns_of l.cores entries) old new)) old new outcome
      (λ o printed is. record { image = image; number = number; entries = entries; traced = traced; same = same; runs = runs; holds = is })
      (no_retrace cores settings text image number entries traced same runs)
      (λ begun. record { image = image; number = number; entries = entries; traced = traced; same = same; runs = runs; holds = begun }) so

  -- the machine can't run the image of the trace
  pub no_machine : (cores : Option ℕ) (settings : Settings) (text : List ℕ) (image : LoadedImage) (number : ℕ) (entries : List Entry) (old : Option (List ℕ)) → IsTracedBy text image number entries
      → (RunsWith image number settings → ⊥) → IsRetraceOutcome starts makes view waits heads cores settings text old old Usage
  no_machine cores settings text image number entries old traced cannot = (inr (record { image = image; number = number; entries = entries; traced = traced; cannot = cannot }), keeps_itself old)

  -- ---- a text

  pub from_trace : (cores : Option ℕ) (settings : Settings) (text : List ℕ) (old new : Option (List ℕ)) (outcome : Outcome) (b : Bool) → b ≡ true → IsRetraceOutcome starts makes view waits heads cores settings text old new outcome
      → Comes (λ o printed. IsPrinted starts makes view waits heads b cores settings text o printed) (λ o. IsUnreadOutcome text o ⊎ IsUnprinted starts makes view waits b cores settings text o)
      (HasBegunOn heads b cores settings text old new) old new outcome
  from_trace cores settings text old new outcome false is so = absurd cc
  from_trace cores settings text old new outcome true is so =
      comes_by (λ o printed. IsPrinted starts makes view waits heads true cores settings text o printed) (λ o printed. IsPrinted starts makes view waits heads true cores settings text o printed)
      (IsNoRetrace starts makes view waits cores settings text) (λ o. IsUnreadOutcome text o ⊎ IsUnprinted starts makes view waits true cores settings text o)
      (HasBegunOn heads true cores settings text old new) (HasBegunOn heads true cores settings text old new) old new outcome (λ o printed p. p) (λ o u. inr u) (λ begun. begun) so

  pub from_lines : (cores : ℕ) (settings : Settings) (text : List ℕ) (old new : Option (List ℕ)) (outcome : Outcome) (b : Bool) → b ≡ false → IsLinesOutcome starts makes view waits heads cores settings text old new outcome
      → Comes (λ o printed. IsPrinted starts makes view waits heads b (Some cores) settings text o printed) (λ o. IsUnreadOutcome text o ⊎ IsUnprinted starts makes view waits b (Some cores) settings text o)
      (HasBegunOn heads b (Some cores) settings text old new) old new outcome
  from_lines cores settings text old new outcome true is so = absurd cc
  from_lines cores settings text old new outcome false is so =
      comes_by (λ o printed. IsPrinted starts makes view waits heads false (Some cores) settings text o printed) (λ o printed. IsPrinted starts makes view waits heads false (Some cores) settings text o printed)
      (IsNoReplay starts makes view waits cores settings text) (λ o. IsUnreadOutcome text o ⊎ IsUnprinted starts makes view waits false (Some cores) settings text o)
      (HasBegunOn heads false (Some cores) settings text old new) (HasBegunOn heads false (Some cores) settings text old new) old new outcome (λ o printed p. p) (λ o u. inr u) (λ begun. begun) so

  pub from_none : (settings : Settings) (text : List ℕ) (old : Option (List ℕ)) (b : Bool) → b ≡ false
      → Comes (λ o printed. IsPrinted starts makes view waits heads b None settings text o printed) (λ o. IsUnreadOutcome text o ⊎ IsUnprinted starts makes view waits b None settings text o)
      (HasBegunOn heads b None settings text old old) old old Usage
  from_none settings text old true is = absurd cc
  from_none settings text old false is = (inr tt, keeps_itself old)

-- ---- a history that is made once more, while its turns are told

module _ {S : Type 0} (starts : LoadedImage → ℕ → S → Type 0) (makes : S → Call → S → Type 0) (alike : S → S → Type 0) (view : S → StoreView) (waits : S → Waits)
    (law : HistoryIsFixed starts makes alike view waits) (heads : Loop → List ℕ → List Entry → List ℕ → Type 0) (l : Loop) (schedule : List ℕ) (end : Option End) (history : List Entry)
    (made : Makes starts makes view waits l schedule (Ok end) history) (old new : Option (List ℕ)) where
  pub told_again : (end' : Option End) (again : List Entry) (head : List ℕ) (outcome : Outcome) → Makes starts makes view waits l schedule (Ok end') again → heads l schedule again head
      → IsShownBelow l.image l.cores again head old new outcome → IsShownMade heads l schedule history old new outcome
  told_again end' again head outcome made' is_head so =
      let same : again ≡ history = (law l schedule (Ok end) (Ok end') history again (λ is. absurd cc) (λ is. absurd cc) made made').history_is in
      comes_by (IsBelow l.image l.cores again head) (λ o text. (head : List ℕ) × heads l schedule history head × IsBelow l.image l.cores history head o text) (λ o. ⊥) (λ o. ⊥)
      (AppendsFirst old new head) (HasBegun heads l schedule old new) old new outcome
      (λ o text below. (head, subst (λ h. heads l schedule h head) same is_head, subst (λ h. IsBelow l.image l.cores h head o text) same below))
      (λ o no. no) (λ first. (length schedule, again, head, subst (λ s. heads l s again head) (sym (take-length schedule)) is_head, first)) so

  is_full : (full : List Entry) → Makes starts makes view waits l schedule (Err fault.HistoryFull) full → ⊥
  is_full full made' =
      let run = law l schedule (Ok end) (Err fault.HistoryFull) history full (λ is. absurd cc) (λ is. absurd cc) made made' in
      let same = run.result_is in cc

  -- it isn't full the second time
  pub fault_again : (f : TurnFault) (why : CommandStop) → why ≡ cause_of f → IsFault starts makes view waits l schedule f → Leaves heads l schedule old new
      → IsShownMade heads l schedule history old new (Stopped why)
  fault_again fault.HistoryFull why named is left = absurd (is_full is.0 is.1)
  fault_again fault.NoMemory why named is left = subst (λ w. IsShownMade heads l schedule history old new (Stopped w)) (sym named) left
