-- Records that are written together, and whole journals as texts.
use Rattle.std.specs.Prelude.{◌≡◌, ℕ, List, ◌++◌, take}
use Rattle.std.specs.List.{AllByRecursion}
use Rattle.journal.specs.Records.{file_of, records_of, IsContent, Recovers}

-- the bytes are the records of these contents
pub record AreRecords (contents : List (List ℕ)) (bytes : List ℕ) : Type 0 where
  pub each : AllByRecursion IsContent contents
  pub whole : bytes ≡ records_of contents

-- the text is a journal of these contents
pub record IsJournalText (contents : List (List ℕ)) (text : List ℕ) : Type 0 where
  pub each : AllByRecursion IsContent contents
  pub whole : text ≡ file_of contents

-- the file stands for these contents and the first few of some more
abbrev pub HasSomeMore : List (List ℕ) → List (List ℕ) → List ℕ → Type 0
HasSomeMore contents more file = (few : ℕ) × Recovers file (contents ++ take few more)
