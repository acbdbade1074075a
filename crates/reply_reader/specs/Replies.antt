-- What the tree of a reply says.
use Rattle.std.specs.Prelude.{ℕ, ℤ, Bool, true, false, not, ◌&&◌, ◌==◌, ◌+◌, ◌*◌, ◌-◌, List, []}
use Rattle.std.specs.Prelude.{◌∷◌, Option, Some, None, option_map, option_and_then, unwrap_or, map}
use Rattle.std.specs.Prelude.{take, drop, length, codes, decimal, nat_lt, nat_le, if◌then◌else◌}
use Rattle.std.specs.Prelude.{◌++◌}
use Rattle.std.specs.List.{list_all}
use Rattle.std.specs.Str.{is_utf8, bytes_eq}
use Rattle.std.specs.Char.{is_ascii_digit}
use Rattle.std.specs.FinMap.Entries.{is_sorted}
use Rattle.serde_json.specs.Data.{Data, Items, no_items, item, Members, no_members, member}
use Rattle.serde_json.specs.Read.{read}
use Rattle.serde_json.specs.Find.{get, at, as_number, as_str, as_bool, as_array, as_object, as_u64}
use Rattle.serde_json.specs.Find.{as_i64}
use Rattle.serde_json.specs.Events.{items_len, members_len}
use Rattle.labels.specs.Labels.{Labels, text_cmp}
use Rattle.labels.specs.LabelSets.{are_named, has_value}
use Rattle.labels.specs.Rows.{Row}
use Rattle.postings.specs.declared.part_name.PartName.{PartName}
use Rattle.postings.specs.declared.part_name.PartName.TheVariants.{Block, Head}
use Rattle.cover.specs.declared.certificate.Interval.{Interval}
use Rattle.cover.specs.declared.certificate.Verdict.{Verdict}
use Rattle.cover.specs.declared.certificate.Verdict.TheVariants.{Match, NoSample, Rejected}
use Rattle.cover.specs.declared.part_cover.PartAnswer.{PartAnswer}
use Rattle.reply_reader.specs.declared.reply.ToldPart.{ToldPart}
use Rattle.reply_reader.specs.declared.reply.ToldPart.TheVariants as parts
use Rattle.reply_reader.specs.declared.reply.Reply.{Reply}

-- What is said of a part: its name, rows, intervals and separators where it was searched, else the
-- block's number.
pub data Told : Type 0 where
  searched : PartName → List Row → List Interval → List ℕ → Told
  skipped : ℕ → Told

-- what an answer says of its part
abbrev pub told_of_answer : PartAnswer → Told
told_of_answer a =
    searched a.part a.rows.items a.cover.certificate.items a.cover.separators.items

abbrev pub told_of_part : ToldPart → Told
told_of_part (parts.Searched answer) = told_of_answer answer
told_of_part (parts.Skipped number) = skipped number

-- what a reply says: of each part, in order, and the merged rows
abbrev pub told_of : Reply → List Told × List Row
told_of reply = (map told_of_part reply.parts.items, reply.rows.items)

-- whether a tree is an object of so many members, each of another name
abbrev pub has_members : ℕ → Data → Bool
has_members count d =
    unwrap_or (option_map (λ ms. members_len ms == count) (as_object d)) false

-- whether a tree is a list of so many items
abbrev pub has_items : ℕ → Data → Bool
has_items count d = unwrap_or (option_map (λ ds. items_len ds == count) (as_array d)) false

-- what each item says, where each says something
abbrev pub each_said : {A : Type 0} → (Data → Option A) → Items → Option (List A)
each_said said no_items = Some []
each_said said (item d ds) =
    option_and_then (λ x. option_map (λ xs. x ∷ xs) (each_said said ds)) (said d)

-- what the items of a list say
abbrev pub list_said : {A : Type 0} → (Data → Option A) → Data → Option (List A)
list_said said d = option_and_then (each_said said) (as_array d)

-- what the member of a name says
abbrev pub said_at : {A : Type 0} → List ℕ → (Data → Option A) → Data → Option A
said_at name said d = option_and_then said (get name d)

-- both, where each says something
abbrev pub both : {A B : Type 0} → Option A → Option B → Option (A × B)
both first second = option_and_then (λ x. option_map (λ y. (x, y)) second) first

-- a number of 64 bits
abbrev pub natural_said : Data → Option ℕ
natural_said d = option_and_then as_u64 (as_number d)

-- a number of 64 bits with a sign
abbrev pub integer_said : Data → Option ℤ
integer_said d = option_and_then as_i64 (as_number d)

-- a reference, a number of 32 bits
abbrev pub reference_said : Data → Option ℕ
reference_said d =
    option_and_then (λ n. if nat_lt n 4294967296 then Some n else None) (natural_said d)

-- `[10,1]`: a time and a value
abbrev pub sample_said : Data → Option (ℤ × ℤ)
sample_said d =
    if has_items 2 d
    then both (option_and_then integer_said (at 0 d)) (option_and_then integer_said (at 1 d))
    else None

-- whether pairs are a label set: label names in strict order, each with a text that is not empty,
-- at most 64 of them
abbrev pub are_labels : Labels → Bool
are_labels pairs =
    is_sorted text_cmp pairs && are_named pairs && list_all has_value pairs
    && nat_le (length pairs) 64

-- the names of members, each with the text that its member is
abbrev pub texts_said : Members → Option Labels
texts_said no_members = Some []
texts_said (member name d ms) =
    option_and_then (λ text. option_map (λ pairs. (name, text) ∷ pairs) (texts_said ms)) (as_str d)

-- `{"__name__":"up","job":"a"}`: a label set
abbrev pub labels_said : Data → Option Labels
labels_said d =
    option_and_then (λ pairs. if are_labels pairs then Some pairs else None)
    (option_and_then texts_said (as_object d))

-- `{"labels":{..},"samples":[..]}`
abbrev pub row_said : Data → Option Row
row_said d =
    if has_members 2 d
    then both (said_at (codes "labels") labels_said d)
    (said_at (codes "samples") (list_said sample_said) d)
    else None

-- a verdict that is a text
abbrev pub verdict_named : List ℕ → Option Verdict
verdict_named text =
    if bytes_eq text (codes "match") then Some Match
    else if bytes_eq text (codes "none") then Some NoSample
    else None

-- the verdict of a text, where there is one, else of a number
abbrev pub verdict_from : Option (List ℕ) → Option ℕ → Option Verdict
verdict_from (Some text) number = verdict_named text
verdict_from None number = option_map (λ j. Rejected j) number

-- `"match"`, `"none"`, or the number of a matcher
abbrev pub verdict_said : Data → Option Verdict
verdict_said d = verdict_from (as_str d) (natural_said d)

-- `{"from":2,"until":4,"verdict":1}`
abbrev pub interval_said : Data → Option Interval
interval_said d =
    if has_members 3 d
    then option_and_then (λ from.
    option_and_then (λ until.
    option_map (λ verdict. record { from = from; until = until; verdict = verdict })
    (said_at (codes "verdict") verdict_said d))
    (said_at (codes "until") natural_said d))
    (said_at (codes "from") reference_said d)
    else None

-- the number below 2^64 that these digits go on to write
abbrev pub digits_from : ℕ → List ℕ → Option ℕ
digits_from n [] = Some n
digits_from n (b ∷ bs) =
    let more = n * 10 + (b - 48) in
    if is_ascii_digit b
    then (if nat_lt more 18446744073709551616 then digits_from more bs else None)
    else None

-- whether there is no digit, or a 0 before another
abbrev pub is_padded : List ℕ → Bool
is_padded [] = true
is_padded (b ∷ bs) = (b == 48) && not (length bs == 0)

-- a decimal number below 2^64 without a leading zero
abbrev pub number_said : List ℕ → Option ℕ
number_said text = if is_padded text then None else digits_from 0 text

-- what follows a prefix
abbrev pub after : List ℕ → List ℕ → Option (List ℕ)
after front text =
    if bytes_eq (take (length front) text) front then Some (drop (length front) text) else None

-- the name of a part, as lines and replies write it
abbrev pub name_text : PartName → List ℕ
name_text (Block n) = codes "block " ++ decimal n
name_text Head = codes "head"

-- `head`, or `block 0` with the block's number
abbrev pub name_said : List ℕ → Option PartName
name_said text =
    if bytes_eq text (codes "head") then Some Head
    else option_map (λ n. Block n) (option_and_then number_said (after (codes "block ") text))

abbrev pub part_name_said : Data → Option PartName
part_name_said d = option_and_then name_said (as_str d)

-- the number of a block's name
abbrev pub block_number : PartName → Option ℕ
block_number (Block n) = Some n
block_number Head = None

-- `{"part":"block 0","skipped":true}`
abbrev pub skipped_said : Data → Option ℕ
skipped_said d =
    option_and_then (λ yes.
    if yes then option_and_then block_number (said_at (codes "part") part_name_said d) else None)
    (said_at (codes "skipped") as_bool d)

-- `{"intervals":[..],"part":"head","rows":[..],"separators":[..]}`
abbrev pub searched_said : Data → Option Told
searched_said d =
    option_and_then (λ part.
    option_and_then (λ rows.
    option_and_then (λ intervals.
    option_map (λ separators. searched part rows intervals separators)
    (said_at (codes "separators") (list_said reference_said) d))
    (said_at (codes "intervals") (list_said interval_said) d))
    (said_at (codes "rows") (list_said row_said) d))
    (said_at (codes "part") part_name_said d)

-- a part that was skipped, or searched
abbrev pub part_said : Data → Option Told
part_said d =
    if has_members 2 d then option_map (λ n. skipped n) (skipped_said d)
    else if has_members 4 d then searched_said d
    else None

-- `{"parts":[..],"rows":[..]}`
abbrev pub reply_said : Data → Option (List Told × List Row)
reply_said d =
    if has_members 2 d
    then both (said_at (codes "parts") (list_said part_said) d)
    (said_at (codes "rows") (list_said row_said) d)
    else None

-- the tree that bytes are; of a member that is given twice it has the last
abbrev pub tree_of : List ℕ → Option Data
tree_of bytes = if is_utf8 bytes then read bytes else None

-- the reply that a text is
abbrev pub text_said : List ℕ → Option (List Told × List Row)
text_said bytes = option_and_then reply_said (tree_of bytes)
