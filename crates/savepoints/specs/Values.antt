-- The session's values of the settings and the current ones, and how they change.
use Rattle.std.specs.Prelude.{ℕ, Bool, true, false, Option, List, unwrap_or}
use Rattle.savepoints.specs.declared.given.Given.{Given}
use Rattle.savepoints.specs.declared.given.Given.TheVariants as given
use Rattle.savepoints.specs.declared.held.Choices.{Choices}
use Rattle.savepoints.specs.declared.held.Replaced.{Replaced}
use Rattle.savepoints.specs.declared.held.Replaced.TheVariants as replaced
use Rattle.savepoints.specs.Choices.{with_choice}

-- the value of each setting: the schemas of search_path, and the others
pub record Values : Type 0 where
  pub path : List (List ℕ)
  pub choices : Choices

-- the session's values, and the current ones
pub record Both : Type 0 where
  pub session : Values
  pub current : Values

-- the values as they are kept: a current path only where it was set for the transaction alone
abbrev pub held : List (List ℕ) → Option (List (List ℕ)) → Choices → Choices → Both
held path local session current = record {
  session = record { path = path; choices = session };
  current = record { path = unwrap_or local path; choices = current };
}

-- one setting given a value
abbrev pub with_given : Given → Values → Values
with_given (given.Path path) values = record values { path = path }
with_given (given.Choice choice) values = record values { choices = with_choice choice values.choices }

-- SET LOCAL gives the current value, SET and RESET both
abbrev pub put : Bool → Given → Both → Both
put true given both = record both { current = with_given given both.current }
put false given both = record { session = with_given given both.session; current = with_given given both.current }

-- the values before a change, from what it replaced and the values after it
abbrev pub undone : Replaced → Both → Both
undone (replaced.Paths path local) both = held path local both.session.choices both.current.choices
undone (replaced.LocalPath local) both = held both.session.path local both.session.choices both.current.choices
undone (replaced.Choices session current) both = record {
  session = record both.session { choices = session };
  current = record both.current { choices = current };
}

-- COMMIT: each current value is the session's
abbrev pub committed : Both → Both
committed both = record both { current = both.session }
