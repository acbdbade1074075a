-- What a right reply is of one state of a store.
use Rattle.std.specs.Prelude.{◌≡◌, ◌⊎◌, List, [], ◌∷◌, ◌++◌, length, map}
use Rattle.std.specs.List.{AllZip}
use Rattle.labels.specs.Rows.{AreRows}
use Rattle.labels.specs.Parts.{Part, content_of}
use Rattle.matchers.specs.Views.{QueryView}
use Rattle.matchers.specs.Queries.{selected_by}
use Rattle.postings.specs.declared.part_name.PartName.{PartName}
use Rattle.postings.specs.declared.part_name.PartName.TheVariants.{Block, Head}
use Rattle.cover.specs.declared.part_cover.PartAnswer.{PartAnswer}
use Rattle.reply_reader.specs.declared.reply.ToldPart.{ToldPart}
use Rattle.reply_reader.specs.declared.reply.ToldPart.TheVariants as parts
use Rattle.reply_reader.specs.declared.reply.Reply.{Reply}
use Rattle.auditor.specs.Auditing.{IsSoundAnswer, selected_content}
use Rattle.auditor.specs.Judgements.{name_of}
use Rattle.whole_audit.specs.PartNames.{part_names}
use Rattle.whole_audit.specs.Explaining.{IsExplained}

-- An answer under this name is right of a part: it is sound, or, under the name of a block, it is
-- explained by the part.
abbrev pub IsRightUnder : PartName → QueryView → Part → PartAnswer → Type 0
IsRightUnder (Block number) query part answer =
    IsSoundAnswer part query answer ⊎ IsExplained part query answer
IsRightUnder Head query part answer = IsSoundAnswer part query answer

-- What is said of a part is right: its answer is, and the query selects nothing of a part that is
-- skipped.
abbrev pub IsRightOf : QueryView → Part → ToldPart → Type 0
IsRightOf query part (parts.Searched answer) = IsRightUnder answer.part query part answer
IsRightOf query part (parts.Skipped number) = selected_content part query ≡ []

-- Something is said of each of these blocks, in order, and of this head, once, and all of it is
-- right.
pub record AreRightOf (query : QueryView) (blocks : List Part) (head : Part) (told : List ToldPart)
    : Type 0 where
  pub named : map name_of told ≡ part_names (length blocks)
  pub each : AllZip (IsRightOf query) (blocks ++ head ∷ []) told

-- The reply is right of a state that has these blocks and this head: it says something of each
-- block, in order, and of the head, once; all of it is right; and its rows are those that the query
-- selects of the content of all parts.
pub record IsWhole (query : QueryView) (blocks : List Part) (head : Part) (reply : Reply) : Type 0
  where
    pub parts : AreRightOf query blocks head reply.parts.items
    pub rows : AreRows reply.rows.items (selected_by query (content_of (blocks ++ head ∷ [])))
