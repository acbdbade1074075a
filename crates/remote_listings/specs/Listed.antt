-- What a listing of a snapshot is: the label sets of its series that answer some queries, and the
-- names and the values that they have.
use Rattle.std.specs.Prelude.{ℕ, Bool, ◌&&◌, not, List, [], ◌∷◌, map, filter, flat_map, fold}
use Rattle.std.specs.Prelude.{if◌then◌else◌, length, ◌==◌}
use Rattle.std.specs.BTreeSet.{insert_key}
use Rattle.std.specs.declared.cmp.Ordering.{Ordering}
use Rattle.labels.specs.Labels.{Labels, labels_cmp, text_cmp, value_of}
use Rattle.labels.specs.Parts.{Part, has_sample}
use Rattle.labels.specs.Rows.{Row}
use Rattle.matchers.specs.Satisfies.{satisfies_all}
use Rattle.matchers.specs.Views.{QueryView}
use Rattle.head.specs.Heads.{SnapshotParts, parts_of}

-- whether a series answers a query: its label set satisfies all matchers, and one of its undeleted
-- samples is in the closed range of times
abbrev pub answers : QueryView → ℕ × Row → Bool
answers query row =
    satisfies_all query.matchers row.1.0 && has_sample query.from query.to row.1.1

-- the label sets of the series of a part that answer a query
abbrev pub found_in_part : QueryView → Part → List Labels
found_in_part query part = map (λ row. row.1.0) (filter (answers query) part)

-- those of all parts, one part after another
abbrev pub found_in : SnapshotParts → QueryView → List Labels
found_in snapshot query = flat_map (found_in_part query) (parts_of snapshot)

-- those of all queries, one query after another
abbrev pub found_by : SnapshotParts → List QueryView → List Labels
found_by snapshot queries = flat_map (found_in snapshot) queries

-- the items of a list in their order, each once
abbrev pub in_order : {A : Type 0} → (A → A → Ordering) → List A → List A
in_order cmp xs = fold (insert_key cmp) [] xs

-- the label sets of the series of a snapshot that answer one of the queries, in label order, each
-- once
unfoldable pub listed : SnapshotParts → List QueryView → List Labels
listed snapshot queries = in_order labels_cmp (found_by snapshot queries)

-- the names of a label set
abbrev pub names_in : Labels → List (List ℕ)
names_in labels = map (λ pair. pair.0) labels

-- the names of label sets, in the order of their bytes, each once
unfoldable pub names_of : List Labels → List (List ℕ)
names_of sets = in_order text_cmp (flat_map names_in sets)

-- whether a text is not empty: an absent label has the empty text
abbrev pub is_value : List ℕ → Bool
is_value text = not (length text == 0)

-- the value that a label set has under a name, if it has one
abbrev pub values_in : List ℕ → Labels → List (List ℕ)
values_in name labels =
    if is_value (value_of labels name) then value_of labels name ∷ [] else []

-- the values that label sets have under a name, in the order of their bytes, each once
unfoldable pub values_of : List ℕ → List Labels → List (List ℕ)
values_of name sets = in_order text_cmp (flat_map (values_in name) sets)
