-- The line of a block, by its number.
use Rattle.std.proofs.Common.{◌≡◌, ℕ, List, get_or, ◌∙◌, subst}
use Rattle.std.proofs.lemmas.Option.{get_or_from_slice_get}
use Rattle.labels.specs.Parts.{Part}
use Rattle.matchers.specs.Views.{QueryView}
use Rattle.postings.specs.declared.part_name.PartName.TheVariants.{Block}
use Rattle.whole_audit.specs.declared.lines.StateLine.{StateLine}
use Rattle.whole_audit.specs.StateLines.{IsStateLeftLine, IsLeftBlockLine}

pub left_of : (blocks : List Part) (query : QueryView) (n : ℕ) (part : Part) (line : StateLine)
    → part ≡ get_or blocks n part → IsStateLeftLine part query (Block n) line
    → IsLeftBlockLine blocks query n line
left_of blocks query n part line read is other e =
    subst (λ (p : Part). IsStateLeftLine p query (Block n) line)
    (read ∙ get_or_from_slice_get blocks n other part e) is
