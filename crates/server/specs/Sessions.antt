-- Connections: what came on them, what was written to them, and how they were served.
use Rattle.std.specs.Prelude.{◌≡◌, ℕ, Bool, List, [], ◌∷◌, ◌++◌, Option, None, Some, map, IfSome, ⊤}
use Rattle.head.specs.Heads.{SnapshotParts}
use Rattle.snapshots.specs.declared.entry.Entry.{Entry}
use Rattle.guard.specs.declared.rules.Rules.{Rules}
use Rattle.requests.specs.Admitting.{MeansUnder}
use Rattle.query_http.specs.Serving.{Worker, Serves}
use Rattle.query_http.specs.declared.engine.Served.{Served}

-- the end of a connection: all that was written to it, where that is known, and how it was served
pub record Ending : Type 0 where
  pub written : Option (List ℕ)
  pub served : Served

-- a connection: what came on it, where that is known, and its end
pub record Session : Type 0 where
  pub input : Option (List ℕ)
  pub ending : Ending

-- nothing was written to the connection yet
abbrev pub IsFresh : Option (List ℕ) → Type 0
IsFresh output = IfSome output (λ bytes. bytes ≡ [])

-- the connection was served by this worker: one request was read, under these rules, done and
-- replied to (`idle`: whether the store keeps nothing; `bounded`: whether the memory for replies
-- is; `held`: which lists of events a keeper of its kind has come to hold)
pub record IsServed (rules : Rules) (opening : SnapshotParts) (idle bounded : Bool)
    (held : List Entry → Type 0) (before after : Worker) (s : Session) : Type 0 where
  pub output : Option (List ℕ)
  pub fresh : IsFresh output
  pub serves : Serves (MeansUnder rules) opening idle bounded held s.input before after output
      s.ending.written s.ending.served

-- the connections were served one after another, each by the worker as the one before left it
abbrev pub AreServed : Rules → SnapshotParts → Bool → Bool → (List Entry → Type 0) → Worker
    → List Session → Worker → Type 0
AreServed rules opening idle bounded held before [] after = after ≡ before
AreServed rules opening idle bounded held before (s ∷ ss) after =
    (between : Worker) × IsServed rules opening idle bounded held before between s
    × AreServed rules opening idle bounded held between ss after

-- the next of the connections to come was taken, and this came on it
abbrev pub Arrives : Option (List (List ℕ)) → Option (List (List ℕ)) → Option (List ℕ) → Type 0
Arrives None new input = ⊤
Arrives (Some old) new input =
    (bytes : List ℕ) × (rest : List (List ℕ))
    × (old ≡ bytes ∷ rest) × (new ≡ Some rest) × (input ≡ Some bytes)

-- no connection is to come
abbrev pub IsOver : Option (List (List ℕ)) → Type 0
IsOver coming = IfSome coming (λ rest. rest ≡ [])

-- the connections are the first of those to come, in their order, and the others are still to come
abbrev pub AreFirstToCome : Option (List (List ℕ)) → Option (List (List ℕ)) → List Session → Type 0
AreFirstToCome None new ss = ⊤
AreFirstToCome (Some old) new ss =
    (rest : List (List ℕ)) × (new ≡ Some rest)
    × (map Some old ≡ map (λ s. s.input) ss ++ map Some rest)

-- these ends were added to those that are known, in their order, and nothing else; who has lost
-- sight of an end tells none from then on
abbrev pub AreAdded : Option (List Ending) → Option (List Ending) → List Ending → Type 0
AreAdded old None more = ⊤
AreAdded None (Some new) more = ⊥
AreAdded (Some old) (Some new) more = new ≡ old ++ more
