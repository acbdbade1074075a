-- The JSON of rows, of certificates and of answers. Members stand in the order of the bytes of
-- their names.
use Rattle.std.specs.Prelude.{ℕ, ℤ, true, List, map, fold, codes, ◌++◌, decimal}
use Rattle.serde_json.specs.Data.{Data, object, array, string, number, boolean, unsigned, Members}
use Rattle.serde_json.specs.Data.{no_members, member, no_items, item, put}
use Rattle.serde_json.specs.Find.{of_integer}
use Rattle.serde_json.specs.View.{items_of}
use Rattle.serde_json.specs.Written.{compact_text}
use Rattle.labels.specs.Labels.{Labels}
use Rattle.labels.specs.Rows.{Row}
use Rattle.postings.specs.declared.part_name.PartName.{PartName}
use Rattle.postings.specs.declared.part_name.PartName.TheVariants.{Block, Head}
use Rattle.cover.specs.declared.certificate.Interval.{Interval}
use Rattle.cover.specs.declared.certificate.Verdict.{Verdict}
use Rattle.cover.specs.declared.certificate.Verdict.TheVariants.{Match, NoSample, Rejected}
use Rattle.cover.specs.declared.part_cover.PartAnswer.{PartAnswer}
use Rattle.block_search.specs.declared.answered.AnsweredPart.{AnsweredPart}
use Rattle.block_search.specs.declared.answered.AnsweredPart.TheVariants.{Searched, Skipped}

abbrev pub natural : ℕ → Data
natural n = number (unsigned n)

abbrev pub integer : ℤ → Data
integer z = number (of_integer z)

abbrev pub list_data : {A : Type 0} → (A → Data) → List A → Data
list_data data_of xs = array (items_of (map data_of xs))

-- the text of a list
abbrev pub json_list : {A : Type 0} → (A → Data) → List A → List ℕ
json_list data_of xs = compact_text (list_data data_of xs)

-- time and value
abbrev pub sample_data : ℤ × ℤ → Data
sample_data s = array (item (integer s.0) (item (integer s.1) no_items))

-- a member for each label, in the order of their names
abbrev pub label_members : Labels → Members
label_members labels = fold (λ members pair. put pair.0 (string pair.1) members) no_members labels

-- the text of a label set
abbrev pub json_labels : Labels → List ℕ
json_labels labels = compact_text (object (label_members labels))

abbrev pub row_data : Row → Data
row_data row =
    object (member (codes "labels") (object (label_members row.0))
    (member (codes "samples") (list_data sample_data row.1) no_members))

-- a match, silence, or the number of the matcher that rejects the run
abbrev pub verdict_data : Verdict → Data
verdict_data Match = string (codes "match")
verdict_data NoSample = string (codes "none")
verdict_data (Rejected j) = natural j

abbrev pub interval_data : Interval → Data
interval_data interval =
    object (member (codes "from") (natural interval.from)
    (member (codes "until") (natural interval.until)
    (member (codes "verdict") (verdict_data interval.verdict) no_members)))

abbrev pub name_text : PartName → List ℕ
name_text (Block n) = codes "block " ++ decimal n
name_text Head = codes "head"

-- what is said of a part that was searched
abbrev pub searched_data : PartAnswer → Data
searched_data answer =
    object (member (codes "intervals") (list_data interval_data answer.cover.certificate.items)
    (member (codes "part") (string (name_text answer.part))
    (member (codes "rows") (list_data row_data answer.rows.items)
    (member (codes "separators") (list_data natural answer.cover.separators.items) no_members))))

-- what is said of a part that was skipped
abbrev pub skipped_data : PartName → Data
skipped_data name =
    object (member (codes "part") (string (name_text name))
    (member (codes "skipped") (boolean true) no_members))

abbrev pub part_data : AnsweredPart → Data
part_data (Searched answer) = searched_data answer
part_data (Skipped name) = skipped_data name

-- what is said of each part, and the rows of all
abbrev pub body_data : List AnsweredPart → List Row → Data
body_data parts rows =
    object (member (codes "parts") (list_data part_data parts)
    (member (codes "rows") (list_data row_data rows) no_members))

-- the text of the answer to a query
abbrev pub body_text : List AnsweredPart → List Row → List ℕ
body_text parts rows = compact_text (body_data parts rows)
