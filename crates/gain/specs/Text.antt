-- The text of a line.
-- Source: this project.
use Rattle.std.specs.Prelude.{ℕ, ◌<◌, ◌*◌, ◌/◌, ◌%◌, ◌^◌, ◌++◌, Bool, true, false, List, [], ◌∷◌, codes, is_some, Option, Some, None}
use Rattle.std.specs.Fmt.{decimal}
use Rattle.even_speed.specs.declared.account.Account.{Account}
use Rattle.even_speed.specs.Account.{steps_of, useful_in, waiting_of}
use Rattle.gain.specs.declared.kinds.Kinds.{Kinds}
use Rattle.gain.specs.declared.measure.Base.{Base}
use Rattle.gain.specs.declared.measure.Measured.{Measured}

-- a name and a number
abbrev pub number : List ℕ → ℕ → List ℕ
number name n = name ++ decimal n

abbrev pub HasFew : Account → Type 0
HasFew a = steps_of a < 2 ^ 63

-- with two decimals
abbrev pub hundredths_text : ℕ → List ℕ
hundredths_text n = number (codes " gain ") (n / 100) ++ number (codes ".") (n / 10 % 10) ++ number (codes "") (n % 10)

-- steps on one core divided by these, rounded down
abbrev pub gain_text : Option Measured → ℕ → List ℕ
gain_text (Some first) steps = hundredths_text (first.ran.steps * 100 / steps)
gain_text None steps = codes " gain -"

-- where loads wait, how long cores were held is told
abbrev pub shows_held : List ℕ → Bool
shows_held [] = false
shows_held (address ∷ addresses) = true

abbrev pub held_text : Bool → ℕ → List ℕ
held_text true n = number (codes " held ") n
held_text false n = []

-- what the loop takes in order is told where turns cost something
abbrev pub order_text : Option ℕ → List ℕ
order_text (Some steps) = number (codes " order ") steps
order_text None = []

-- and of attempts that committed what their steps went to
abbrev pub useful_text : Bool → Account → List ℕ
useful_text true a =
    number (codes " busy ") a.busy ++ number (codes " handling ") a.spent.handling ++ number (codes " memory ") a.spent.memory
    ++ number (codes " queue ") a.spent.queue
useful_text false a = number (codes " useful ") (useful_in a)

unfoldable pub account_text : Bool → Bool → Account → List ℕ
account_text held priced a =
    useful_text priced a ++ number (codes " lost ") a.lost ++ number (codes " dropped ") a.dropped
    ++ number (codes " waiting ") (waiting_of a) ++ held_text held a.held ++ number (codes " idle ") a.idle

abbrev pub kinds_text : Kinds → List ℕ
kinds_text k =
    number (codes " true ") k.true_sharing ++ number (codes " silent ") k.silent_store ++ number (codes " false ") k.false_sharing
    ++ number (codes " buffer ") k.full_buffer

abbrev pub waits_text : Account → List ℕ
waits_text a =
    number (codes " nothomefree ") a.not_homefree ++ number (codes " noway ") a.no_way ++ number (codes " orbfull ") a.orb_full
    ++ number (codes " orbbusy ") a.orb_busy

unfoldable pub run_text : Bool → Base → Measured → List ℕ
run_text held base m =
    number (codes " steps ") m.ran.steps ++ gain_text base.first m.ran.steps ++ order_text base.order ++ account_text held (is_some base.order) m.ran.account
    ++ number (codes " restarts ") m.restarts ++ kinds_text m.kinds ++ waits_text m.ran.account

-- the history of a run that isn't over is full
abbrev pub told_text : Bool → Base → Option Measured → List ℕ
told_text held base (Some m) = run_text held base m
told_text held base None = codes " full"

-- the word that a line begins with: of a run where loads wait for what earlier epochs store, or of another
abbrev pub name_text : Bool → List ℕ
name_text true = codes "held "
name_text false = codes "store "

-- of a run over this store on so many cores, beside what it is compared with
unfoldable pub line_text : Bool → Bool → List ℕ → ℕ → Base → Option Measured → List ℕ
line_text in_order held store cores base measured =
    name_text in_order ++ store ++ number (codes " cores ") cores ++ told_text held base measured ++ codes "\n"
