-- What no load reads.
use Rattle.std.proofs.Common.{◌≡◌, ℕ, ◌<◌, false, List, Option, Some, None, ap, ◌∙◌, arith, le-ltb}
use Rattle.spec_history.specs.declared.entry.Entry.{Entry}
use Rattle.spec_history.proofs.Searches.Tests.{first_none}
use Rattle.conflicts.specs.Attempts.{attempt_place, first_read, is_after, reads_outside}
use Rattle.conflicts.proofs.Finding.{no_first}

-- nothing is read by what does not stand after the attempt's start
pub unread : (entries : List Entry) (core before a place : ℕ) → is_after (attempt_place entries core before) place ≡ false → reads_outside entries core before a place ≡ false
unread entries core before a place is = no_first _ _ _ is

pub unread_until : (entries : List Entry) (core before start a place : ℕ) → attempt_place entries core before ≡ Some start → place < start → reads_outside entries core before a place ≡ false
unread_until entries core before start a place is early =
    unread entries core before a place (ap (λ (o : Option ℕ). is_after o place) is ∙ le-ltb start place (omega (arith, early)))

-- nothing at all where no attempt began
pub never_read : (entries : List Entry) (core before a : ℕ) → attempt_place entries core before ≡ None → first_read entries core before a ≡ None
never_read entries core before a is = first_none before (reads_outside entries core before a) (λ k below. unread entries core before a k (ap (λ (o : Option ℕ). is_after o k) is))
