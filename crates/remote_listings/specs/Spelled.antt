-- The bodies of listings of a snapshot.
use Rattle.std.specs.Prelude.{ℕ, List, Option}
use Rattle.matchers.specs.Views.{QueryView}
use Rattle.head.specs.Heads.{SnapshotParts}
use Rattle.remote_listings.specs.Listed.{listed, names_of, values_of}
use Rattle.remote_listings.specs.Texts.{labels_tokens, listing_text, text_tokens}

-- the label sets of the series that answer one of the queries
abbrev pub series_body : SnapshotParts → List QueryView → Option ℕ → List ℕ
series_body snapshot queries limit =
    listing_text labels_tokens limit (listed snapshot queries)

-- the names of their labels
abbrev pub names_body : SnapshotParts → List QueryView → Option ℕ → List ℕ
names_body snapshot queries limit =
    listing_text text_tokens limit (names_of (listed snapshot queries))

-- the values that they have under a name
abbrev pub values_body : SnapshotParts → List QueryView → List ℕ → Option ℕ → List ℕ
values_body snapshot queries name limit =
    listing_text text_tokens limit (values_of name (listed snapshot queries))
