-- Which entries are accesses, and what follows their keyword.
-- Source: this project.
use Rattle.std.specs.Prelude.{◌≡◌, ◌==◌, ℕ, List, Option, codes, false}
use Rattle.std.specs.List.{starts_with}
use Rattle.spec_history.specs.declared.entry.What.{What}
use Rattle.trace_text.specs.declared.entry.Access.{Access}
use Rattle.trace_text.specs.declared.entry.Access.TheVariants.{Load, Store}
use Rattle.trace_text.specs.TraceText.{what_in}
use Rattle.trace_text.specs.Front.{after_word, below, first_word, words_after, words_in}

abbrev pub keyword_of : Access → List ℕ
keyword_of Load = codes "load"
keyword_of Store = codes "store"

-- what an entry says whose line goes on with the keyword
abbrev pub said : List ℕ → Option What
said text = what_in (first_word text) (words_after (after_word text))

-- the keyword of this access, a space, and this text
pub record BeginsAccess (text : List ℕ) (access : Access) (left : List ℕ) : Type 0 where
  pub said : said text ≡ what_in (keyword_of access) (words_in left)
  pub under : below text ≡ below left

-- neither keyword with a space after it
pub record BeginsNoAccess (text : List ℕ) : Type 0 where
  pub load : starts_with (λ a b. a == b) text (codes "load ") ≡ false
  pub store : starts_with (λ a b. a == b) text (codes "store ") ≡ false
