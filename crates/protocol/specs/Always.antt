-- What follows from document 01 for every run: well-formed records, a number that never falls, and a lock that stays.
use Rattle.std.specs.Prelude.{ℕ, ◌≤◌, ◌≡◌, List, [], ◌∷◌, T}
use Rattle.event.specs.Call.{Call}
use Rattle.record.specs.Limits.{Limits}
use Rattle.record.specs.WellFormed.{fresh, well_formed}
use Rattle.protocol.specs.Actions.{no_actions}
use Rattle.protocol.specs.Run.{Left, left_of, results_of}
use Rattle.protocol.specs.Step.{Result}
use Rattle.record.specs.declared.Connection.{Connection}

-- A record and its cache are reached if some calls from a fresh record and some cache leave them.
pub record Reached (limits : Limits) (left : Left) : Type 0 where
  pub cache : List ℕ
  pub calls : List Call
  pub leaves : left_of limits fresh cache calls ≡ left

-- Every record reached from a fresh one is well formed.
abbrev pub ReachedWellFormed : Limits → Type 0
ReachedWellFormed limits = (left : Left) → Reached limits left → T (well_formed limits left.connection)

-- From any record, the number never falls.
abbrev pub NeverFalls : Limits → Type 0
NeverFalls limits = (connection : Connection) (cache : List ℕ) (calls : List Call) → connection.handled ≤ (left_of limits connection cache calls).connection.handled

-- A result that leaves record and cache as they were and orders nothing.
pub record Unmoved (connection : Connection) (cache : List ℕ) (result : Result) : Type 0 where
  pub same_record : result.outcome.connection ≡ connection
  pub same_cache : result.cache ≡ cache
  pub no_orders : result.outcome.actions ≡ no_actions
  pub no_part : result.part ≡ []

-- Every result of a list is so.
unfoldable pub AllUnmoved : Connection → (cache : List ℕ) → List Result → Type 0
AllUnmoved connection cache [] = Unit {0}
AllUnmoved connection cache (result ∷ results) = Unmoved connection cache result × AllUnmoved connection cache results

-- A locked connection stays as it is and orders nothing, whatever the calls.
abbrev pub LockedStays : Limits → Type 0
LockedStays limits =
    (connection : Connection) (cache : List ℕ) (calls : List Call) → connection.state ≡ 9
    → AllUnmoved connection cache (results_of limits connection cache calls)
