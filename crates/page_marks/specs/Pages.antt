-- Which counts and tiles a page has below its claim, and which counts a text has, in their order.
use Rattle.std.specs.Prelude.{ℕ, ◌+◌, ◌==◌, ◌||◌, Bool, nat_lt, nat_le, List, [], ◌∷◌, ◌++◌, length}
use Rattle.std.specs.Prelude.{if◌then◌else◌}
use Rattle.std.specs.List.{flat_map}
use Rattle.cover.specs.declared.certificate.Interval.{Interval}
use Rattle.cover.specs.declared.part_cover.PartAnswer.{PartAnswer}
use Rattle.labels.specs.Rows.{Row}
use Rattle.page_text.specs.declared.mark.Mark.{Mark}
use Rattle.page_text.specs.declared.mark.Mark.TheVariants.{Count}
use Rattle.page_text.specs.declared.mark.Subject.TheVariants.{Verdict, Intervals, Separators}
use Rattle.page_text.specs.declared.mark.Subject.TheVariants.{Parts, Rows, Samples}
use Rattle.page_marks.specs.Gathering.{gather}
use Rattle.page_marks.specs.Columns.{columns_of, strip_marks, groups_marks}
use Rattle.page_marks.specs.Tables.{table_marks, samples_in, row_marks}
use Rattle.page_marks.specs.Tallies.{tallies, count_all}

-- how many intervals all parts have
abbrev pub intervals_in : List PartAnswer → ℕ
intervals_in [] = 0
intervals_in (a ∷ rest) = length a.cover.certificate.items + intervals_in rest

-- how many separators all parts have
abbrev pub separators_in : List PartAnswer → ℕ
separators_in [] = 0
separators_in (a ∷ rest) = length a.cover.separators.items + separators_in rest

-- the numbers of the answer
unfoldable pub number_marks : List PartAnswer → List Row → List Mark
number_marks answers rows =
    Count Rows (length rows) ∷ Count Samples (samples_in rows) ∷ Count Parts (length answers)
    ∷ Count Intervals (intervals_in answers) ∷ Count Separators (separators_in answers) ∷ []

-- whether a slot has a row in the key: match, no sample, the matchers that the selector has, and
-- each verdict that occurs
abbrev pub has_row : ℕ → ℕ → ℕ → Bool
has_row matchers slot count =
    slot == 0 || (slot == 18 || (nat_le slot matchers || nat_lt 0 count))

-- the row of a slot in the key, if it has one
unfoldable pub key_mark : ℕ → List PartAnswer → ℕ → List Mark
key_mark matchers answers slot =
    if has_row matchers slot (count_all slot answers)
    then Count (Verdict slot) (count_all slot answers) ∷ []
    else []

-- the figure of a part: how many intervals it has in all and of each verdict, and its strip
unfoldable pub figure_marks : Bool → List Interval → List Mark
figure_marks few is =
    Count Intervals (length is) ∷ tallies is ++ strip_marks (columns_of (length is) few) few is

-- the figure and the tables of a part that has series
unfoldable pub body_marks : Bool → List Interval → List Mark
body_marks few is =
    if nat_lt 0 (length is)
    then figure_marks few is ++ groups_marks is ++ table_marks (if few then 100 else 20) is
    else []

-- a part
unfoldable pub part_marks : Bool → PartAnswer → List Mark
part_marks few a =
    tallies a.cover.certificate.items ++ body_marks few a.cover.certificate.items

-- how many intervals, rows and samples there are
unfoldable pub sums : ℕ → List Row → List Mark
sums intervals rows =
    Count Intervals intervals ∷ Count Rows (length rows) ∷ Count Samples (samples_in rows) ∷ []

unfoldable pub part_sums : PartAnswer → List Mark
part_sums a = sums (length a.cover.certificate.items) a.rows.items

-- the numbers, the key and the parts
unfoldable pub upper_marks : ℕ → List PartAnswer → List Row → List Mark
upper_marks matchers answers rows =
    number_marks answers rows ++ gather (key_mark matchers answers) 19
    ++ flat_map (part_marks (nat_le (length answers) 8)) answers

-- the table of times and that of the rows
unfoldable pub lower_marks : List PartAnswer → List Row → List Mark
lower_marks answers rows =
    flat_map part_sums answers ++ sums (intervals_in answers) rows ++ row_marks rows

-- how many intervals a part has
unfoldable pub part_count : PartAnswer → List Mark
part_count a = Count Intervals (length a.cover.certificate.items) ∷ []

-- a text for a terminal: the key, and how many intervals each part has
abbrev pub text_marks : ℕ → List PartAnswer → List Mark
text_marks matchers answers =
    gather (key_mark matchers answers) 19 ++ flat_map part_count answers

-- a page below its claim
abbrev pub page_marks : ℕ → List PartAnswer → List Row → List Mark
page_marks matchers answers rows =
    upper_marks matchers answers rows ++ lower_marks answers rows
