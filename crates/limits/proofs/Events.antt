-- The steps of an epoch up to its next event: one for each instruction, and the event in the step of its turn.
use Rattle.std.proofs.Common.{◌≡◌, ℕ, ◌+◌, ◌-◌, ◌<◌, ◌≤◌, nat_lt, if◌then◌else◌, refl, ap, ◌∙◌, inl, inr, arith}
use Rattle.std.proofs.lemmas.Bool.{cases_lt}
use Rattle.std.proofs.lemmas.Bool.Decides.{nat_tests}
use Rattle.rv32_image.specs.Image.{LoadedImage}
use Rattle.spec_history.specs.FlatState.{CoreState}
use Rattle.spec_history.specs.Laws.{HasBytes}
use Rattle.epoch_paths.specs.InOrder.{memory_before}
use Rattle.limits.specs.declared.limit.Waits.{Waits}
use Rattle.limits.specs.Limits.{Timing}
use Rattle.limits.proofs.Marks.{IsPath, IsUnder, Marks}
use Rattle.limits.proofs.Marking.{Alters}
use Rattle.limits.proofs.Beginning.{one_here, one_other, with_one}

-- ---- steps

pub steps_to : (ℕ → ℕ) → ℕ → ℕ → ℕ → ℕ → ℕ → ℕ
steps_to at done event base now place = if nat_lt place done then at place else if nat_lt place event then base + (place - done) else now

pub step_before : (at : ℕ → ℕ) (done event base now place : ℕ) → place < done → steps_to at done event base now place ≡ at place
unfolding steps_to
step_before at done event base now place low = grind (arith, nat_tests)

pub step_between : (at : ℕ → ℕ) (done event base now place : ℕ) → done ≤ place → place < event → steps_to at done event base now place ≡ base + (place - done)
unfolding steps_to
step_between at done event base now place from low = grind (arith, nat_tests)

pub step_at : (at : ℕ → ℕ) (done event base now place : ℕ) → done ≤ event → event ≤ place → steps_to at done event base now place ≡ now
unfolding steps_to
step_at at done event base now place some from = grind (arith, nat_tests)

-- ---- marks

-- of the core's epoch, which has executed so many instructions and is at its event, in this step
abbrev pub event_timing : Timing → ℕ → ℕ → ℕ → ℕ → ℕ → Timing
event_timing t epoch done event base now = record { begin = t.begin; at = with_one t.at epoch (steps_to (t.at epoch) done event base now); commit = t.commit }

abbrev pub event_marks : Marks → ℕ → ℕ → ℕ → ℕ → ℕ → (ℕ → ℕ) → Marks
event_marks m by epoch done event now shown = record {
  timing = event_timing m.timing epoch done event (m.from by) now;
  shown = shown;
  from = with_one m.from by (now + 1);
  last = m.last;
}

module _ (m : Marks) (by epoch done event now : ℕ) (shown : ℕ → ℕ) where
  abbrev m' : Marks
  m' = event_marks m by epoch done event now shown

  at_is : (place : ℕ) → m'.timing.at epoch place ≡ steps_to (m.timing.at epoch) done event (m.from by) now place
  at_is place = ap (λ (f : ℕ → ℕ). f place) (one_here m.timing.at epoch (steps_to (m.timing.at epoch) done event (m.from by) now))

  pub at_before : (place : ℕ) → place < done → m'.timing.at epoch place ≡ m.timing.at epoch place
  at_before place low = at_is place ∙ step_before (m.timing.at epoch) done event (m.from by) now place low

  pub at_event : (place : ℕ) → done ≤ event → event ≤ place → m'.timing.at epoch place ≡ now
  at_event place some from = at_is place ∙ step_at (m.timing.at epoch) done event (m.from by) now place some from

  at_between : (place : ℕ) → done ≤ place → place < event → m'.timing.at epoch place ≡ m.from by + (place - done)
  at_between place from low = at_is place ∙ step_between (m.timing.at epoch) done event (m.from by) now place from low

  pub event_alters : m.timing.begin epoch ≤ now → ((a : ℕ) → m.shown a ≤ shown a) → ((a : ℕ) → shown a ≤ now) → Alters m m' by epoch now
  event_alters begun more past = record {
    begin = λ d other. refl;
    begin_on = omega arith;
    begin_by = begun;
    at = λ d place other. ap (λ (f : ℕ → ℕ). f place) (one_other m.timing.at epoch (steps_to (m.timing.at epoch) done event (m.from by) now) d other);
    commit = λ d other. refl;
    from = λ k other. one_other m.from by (now + 1) k other;
    shown = more;
    past = past;
  }

  module _ (begun : m.timing.begin epoch < m.from by) (steps : (place : ℕ) → place < done → m.timing.at epoch place < m.from by)
      (first : 0 < done → m.timing.begin epoch < m.timing.at epoch 0) (next : (place : ℕ) → place + 1 < done → m.timing.at epoch place < m.timing.at epoch (place + 1))
      (some : done ≤ event) (due : m.from by + (event - done) ≤ now) where
    pub rises_first : m'.timing.begin epoch < m'.timing.at epoch 0
    rises_first = elim (cases_lt 0 done) [
      | inl has ↦ (let is = at_before 0 has in let was = first has in omega (arith, is, was))
      | inr none ↦ elim (cases_lt 0 event) [
        | inl more ↦ (let is = at_between 0 none more in omega (arith, is, begun))
        | inr at_once ↦ (let is = at_event 0 some at_once in omega (arith, is, begun, due))
      ]
    ]

    rises_at : (place : ℕ) → place < event → place + 1 ≡ done → m'.timing.at epoch place < m'.timing.at epoch (place + 1)
    rises_at place low last =
        let here = at_before place (omega (arith, last)) in
        let was = steps place (omega (arith, last)) in
        elim (cases_lt (place + 1) event) [
          | inl more ↦ (let there = at_between (place + 1) (omega (arith, last)) more in omega (arith, here, there, was))
          | inr at_once ↦ (let there = at_event (place + 1) some at_once in omega (arith, here, there, was, due))
        ]

    pub rises_next : (place : ℕ) → place < event → m'.timing.at epoch place < m'.timing.at epoch (place + 1)
    rises_next place low = elim (cases_lt (place + 1) done) [
      | inl before ↦
          (let here = at_before place (omega (arith, before)) in let there = at_before (place + 1) before in
          let was = next place before in omega (arith, here, there, was))
      | inr past ↦ elim (cases_lt place done) [
        | inl last ↦ rises_at place low (omega (arith, past, last))
        | inr from ↦
            (let here = at_between place from low in
            elim (cases_lt (place + 1) event) [
              | inl more ↦ (let there = at_between (place + 1) (omega (arith, from)) more in omega (arith, here, there, from))
              | inr at_once ↦ (let there = at_event (place + 1) some at_once in omega (arith, here, there, from, low, due))
            ])
      ]
    ]

    pub steps_past : (place : ℕ) → m'.timing.at epoch place < now + 1
    steps_past place = elim (cases_lt place done) [
      | inl before ↦ (let is = at_before place before in let was = steps place before in omega (arith, is, was, due))
      | inr from ↦ elim (cases_lt place event) [
        | inl low ↦ (let is = at_between place from low in omega (arith, is, due, from, low))
        | inr past ↦ (let is = at_event place some past in omega (arith, is))
      ]
    ]

-- the core has come past its event
pub event_under : (image : LoadedImage) (waits : Waits) (m : Marks) (by event now : ℕ) (shown : ℕ → ℕ) (c new : CoreState) → IsUnder image waits m by c → new.epoch ≡ c.epoch
    → c.hart.done ≤ event → m.from by + (event - c.hart.done) ≤ now → new.hart.done ≡ event + 1
    → (HasBytes image new.outside (memory_before image new.epoch) → IsPath image waits (event_marks m by c.epoch c.hart.done event now shown) new)
    → IsUnder image waits (event_marks m by c.epoch c.hart.done event now shown) by new
event_under image waits m by event now shown c new x epoch some due done path =
    let m' = event_marks m by c.epoch c.hart.done event now shown in
    let from = one_here m.from by (now + 1) in record {
      begun = (let was = x.begun in let same = ap m.timing.begin epoch in omega (arith, was, from, due, same));
      steps = λ place low.
          let past = steps_past m by c.epoch c.hart.done event now shown x.begun x.steps x.first x.next some due place in
          let same = ap (λ e. m'.timing.at e place) epoch in omega (arith, past, from, same);
      first = λ has.
          let rise = rises_first m by c.epoch c.hart.done event now shown x.begun x.steps x.first x.next some due in
          let same = ap (λ e. m'.timing.at e 0) epoch in let begin = ap m.timing.begin epoch in omega (arith, rise, same, begin);
      next = λ place low.
          let rise = rises_next m by c.epoch c.hart.done event now shown x.begun x.steps x.first x.next some due place (omega (arith, low, done)) in
          let here = ap (λ e. m'.timing.at e place) epoch in let there = ap (λ e. m'.timing.at e (place + 1)) epoch in omega (arith, rise, here, there);
      path = path;
    }
