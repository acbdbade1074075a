-- How many intervals have each verdict, as marks.
use Rattle.std.specs.Prelude.{ℕ, ◌+◌, nat_lt, List, [], ◌∷◌, if◌then◌else◌}
use Rattle.cover.specs.declared.certificate.Interval.{Interval}
use Rattle.cover.specs.declared.part_cover.PartAnswer.{PartAnswer}
use Rattle.page_claims.specs.Counting.{count_in}
use Rattle.page_text.specs.declared.mark.Mark.{Mark}
use Rattle.page_text.specs.declared.mark.Mark.TheVariants.{Count}
use Rattle.page_text.specs.declared.mark.Subject.TheVariants.{Verdict}
use Rattle.page_marks.specs.Gathering.{gather}

-- how many intervals have the verdict of a slot, if one has
unfoldable pub tally_of : List Interval → ℕ → List Mark
tally_of is slot =
    if nat_lt 0 (count_in slot is) then Count (Verdict slot) (count_in slot is) ∷ [] else []

-- how many intervals have each verdict that occurs
abbrev pub tallies : List Interval → List Mark
tallies is = gather (tally_of is) 19

-- how many of a group have the verdict of a slot, if one of all has
unfoldable pub group_tally : List Interval → List Interval → ℕ → List Mark
group_tally all group slot =
    if nat_lt 0 (count_in slot all) then Count (Verdict slot) (count_in slot group) ∷ [] else []

-- how many intervals of all parts have the verdict of a slot
abbrev pub count_all : ℕ → List PartAnswer → ℕ
count_all slot [] = 0
count_all slot (a ∷ rest) = count_in slot a.cover.certificate.items + count_all slot rest
