-- What is kept of the attempts of a history while its entries are gone through.
use Rattle.std.specs.Prelude.{◌≡◌, ℕ, List}
use Rattle.spec_history.specs.declared.entry.Entry.{Entry}
use Rattle.conflict_findings.specs.KnownEnds.{AreKnownEnds}
use Rattle.conflict_findings.specs.Numbers.{AreNumbers}
use Rattle.conflict_findings.specs.declared.followed.Followed.{Followed}

-- all that is kept is right
pub record IsFollowed (entries : List Entry) (followed : Followed) : Type 0 where
  pub numbers_are : AreNumbers entries followed.numbers
  pub known_ends_are : AreKnownEnds entries followed.known_ends

-- so it is, and of the entries those before the place are noted: nothing is searched for that was noted
pub record IsFollowedTo (entries : List Entry) (place : ℕ) (followed : Followed) : Type 0 where
  pub is : IsFollowed entries followed
  pub noted : followed.numbers.place ≡ place
