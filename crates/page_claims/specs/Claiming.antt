-- How far it is said that no series is missing.
use Rattle.std.specs.Prelude.{◌≡◌, ◌-◌, ◌==◌, ◌&&◌, ◌||◌, ℕ, Bool, true, false, not, nat_lt, nat_le}
use Rattle.std.specs.Prelude.{List, length}
use Rattle.std.specs.List.{list_all}
use Rattle.labels.specs.Rows.{Row, AreRows}
use Rattle.postings.specs.declared.part_name.PartName.{PartName}
use Rattle.postings.specs.declared.part_name.PartName.TheVariants.{Head}
use Rattle.cover.specs.declared.part_cover.PartAnswer.{PartAnswer}
use Rattle.auditor.specs.declared.judgement.BlockTable.{BlockTable}
use Rattle.auditor.specs.declared.judgement.Line.{Line}
use Rattle.auditor.specs.Judgements.{is_fault}
use Rattle.auditor.specs.Listing.{last_listed}
use Rattle.page_claims.specs.declared.claim.Completeness.{Completeness}
use Rattle.page_claims.specs.declared.claim.Completeness.TheVariants.{Judged, DirectoriesJudged}
use Rattle.page_claims.specs.declared.claim.Completeness.TheVariants.{Certified, NotShown}
use Rattle.page_claims.specs.declared.told.Told.{Told}
use Rattle.page_claims.specs.Checking.{is_checked}
use Rattle.page_claims.specs.Judging.{names_of, same_name, times_named, names_in_order, unjudged_of}

-- whether no line names a flaw or a refusal
abbrev pub are_faultless : List Line → Bool
are_faultless lines = list_all (λ (line : Line). not (is_fault line.judgement)) lines

abbrev pub are_checked : ℕ → List PartAnswer → Bool
are_checked matchers answers = list_all (λ (a : PartAnswer). is_checked matchers a) answers

-- each part passes the checks that need no series, the rows are the merged rows of the parts, and
-- the auditor's lines name no flaw
pub record IsShown (matchers : ℕ) (answers : List PartAnswer) (rows : List Row)
    (lines : List Line) : Type 0 where
  pub parts : are_checked matchers answers ≡ true
  pub merged : AreRows rows (last_listed answers)
  pub faultless : are_faultless lines ≡ true

-- whether the parts that a reply names are blocks, each once, in order from block 0 on, those with
-- a directory among them, and then the head, and none of them is unjudged
abbrev pub is_judged : ℕ → List PartName → List PartName → Bool
is_judged directories names unjudged =
    nat_le directories (length names - 1)
    && (names_in_order (length names - 1) names && length unjudged == 0)

-- whether the head, if a part is the head, has no interval
abbrev pub is_head_empty : List PartAnswer → Bool
is_head_empty answers =
    list_all (λ (a : PartAnswer). not (same_name Head a.part)
    || length a.cover.certificate.items == 0) answers

-- whether it is the head alone
abbrev pub is_head_alone : List PartName → Bool
is_head_alone names = length names == 1 && times_named Head names == 1

-- whether there is a directory, the parts that a reply names are the block of each directory, once,
-- in order, and then the head, and the head alone is unjudged, which has no interval
abbrev pub are_directories_judged : ℕ → List PartName → List PartName → List PartAnswer → Bool
are_directories_judged directories names unjudged answers =
    nat_lt 0 directories
    && (names_in_order directories names && (is_head_alone unjudged && is_head_empty answers))

-- how far a reply whose checks hold shows that no series is missing: all parts were judged, or all
-- but the head, or neither
abbrev pub IsFarAs : ℕ → List PartName → List PartName → List PartAnswer → Completeness → Type 0
IsFarAs directories names unjudged answers Judged = is_judged directories names unjudged ≡ true
IsFarAs directories names unjudged answers DirectoriesJudged =
    (is_judged directories names unjudged ≡ false)
    × (are_directories_judged directories names unjudged answers ≡ true)
IsFarAs directories names unjudged answers Certified =
    (is_judged directories names unjudged ≡ false)
    × (are_directories_judged directories names unjudged answers ≡ false)
IsFarAs directories names unjudged answers NotShown = ⊥

-- What is claimed of a reply, with what is known of the blocks in directories and what the auditor
-- said of it: that it is not shown that no series is missing exactly if a check does not hold, and
-- else how far it is shown.
pub record IsClaimed (matchers : ℕ) (told : Told) (tables : List BlockTable) (lines : List Line)
    (completeness : Completeness) : Type 0 where
  pub not_shown : (IsShown matchers told.answers.items told.rows.items lines → ⊥)
      → completeness ≡ NotShown
  pub shown : IsShown matchers told.answers.items told.rows.items lines
      → IsFarAs (length tables) (names_of told) (unjudged_of tables lines told) told.answers.items
      completeness

-- whether it is said that no series is missing
abbrev pub is_shown : Completeness → Bool
is_shown Judged = true
is_shown DirectoriesJudged = true
is_shown Certified = true
is_shown NotShown = false
