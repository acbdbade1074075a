-- The text of items and members that stand after others.
use Rattle.std.specs.Prelude.{ℕ, ℤ, List, [], ◌∷◌, ◌++◌, codes, flat_map}
use Rattle.json.specs.Print.{quoted}
use Rattle.serde_json.specs.Data.{Data}
use Rattle.serde_json.specs.Written.{compact_text}
use Rattle.labels.specs.Labels.{Labels}
use Rattle.labels.specs.Rows.{Row}
use Rattle.cover.specs.declared.certificate.Interval.{Interval}
use Rattle.cover.specs.declared.part_cover.PartAnswer.{PartAnswer}
use Rattle.block_search.specs.declared.answered.AnsweredPart.{AnsweredPart}
use Rattle.answers.specs.Body.{sample_data, row_data, interval_data, part_data, json_list}
use Rattle.answers.specs.Body.{name_text, natural}

-- each item with a comma before it
abbrev pub after_commas : {A : Type 0} → (A → Data) → List A → List ℕ
after_commas data_of xs = flat_map (λ x. codes "," ++ compact_text (data_of x)) xs

-- a sample with a comma before it
abbrev pub sample_after_comma : ℤ × ℤ → List ℕ
sample_after_comma s = codes "," ++ compact_text (sample_data s)

-- a row with a comma before it
abbrev pub row_after_comma : Row → List ℕ
row_after_comma r = codes "," ++ compact_text (row_data r)

-- an interval with a comma before it
abbrev pub interval_after_comma : Interval → List ℕ
interval_after_comma i = codes "," ++ compact_text (interval_data i)

-- what is told of a part, with a comma before it
abbrev pub part_after_comma : AnsweredPart → List ℕ
part_after_comma part = codes "," ++ compact_text (part_data part)

-- a label with a comma before it
abbrev pub label_after_comma : List ℕ × List ℕ → List ℕ
label_after_comma p = codes "," ++ (quoted p.0 ++ (codes ":" ++ quoted p.1))

abbrev pub labels_after_commas : Labels → List ℕ
labels_after_commas labels = flat_map label_after_comma labels

-- an opening bracket in place of the first comma
abbrev pub with_bracket : ℕ → List ℕ → List ℕ
with_bracket first [] = first ∷ []
with_bracket first (x ∷ xs) = first ∷ xs

-- a run of rows: a byte before the first, and commas before the others
abbrev pub run_text : ℕ → List Row → List ℕ
run_text first rows = with_bracket first (after_commas row_data rows)

-- what is told of a part before its rows
abbrev pub searched_front : PartAnswer → List ℕ
searched_front answer =
    codes "{\"intervals\":" ++ (json_list interval_data answer.cover.certificate.items
    ++ (codes ",\"part\":" ++ (quoted (name_text answer.part) ++ codes ",\"rows\":")))

-- what is told of a part behind its rows
abbrev pub searched_back : PartAnswer → List ℕ
searched_back answer =
    codes ",\"separators\":" ++ (json_list natural answer.cover.separators.items ++ codes "}")
