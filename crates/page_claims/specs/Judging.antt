-- Which parts a reply names, and which of them a judge found without a flaw.
use Rattle.std.specs.Prelude.{ℕ, zero, suc, ◌+◌, ◌==◌, ◌&&◌, Bool, true, false, List, [], ◌∷◌, ◌++◌}
use Rattle.std.specs.Prelude.{Option, None, Some, map, slice_get, if◌then◌else◌}
use Rattle.std.specs.List.{list_any, flat_map}
use Rattle.postings.specs.declared.part_name.PartName.{PartName}
use Rattle.postings.specs.declared.part_name.PartName.TheVariants.{Block, Head}
use Rattle.cover.specs.declared.part_cover.PartAnswer.{PartAnswer}
use Rattle.reply_reader.specs.declared.reply.ToldPart.{ToldPart}
use Rattle.reply_reader.specs.declared.reply.ToldPart.TheVariants as parts
use Rattle.auditor.specs.declared.judgement.BlockTable.{BlockTable}
use Rattle.auditor.specs.declared.judgement.BlockTable.TheVariants as tables
use Rattle.auditor.specs.declared.judgement.Judgement.{Judgement}
use Rattle.auditor.specs.declared.judgement.Judgement.TheVariants as judgement
use Rattle.auditor.specs.declared.judgement.Subject.{Subject}
use Rattle.auditor.specs.declared.judgement.Subject.TheVariants.{Part, Rows}
use Rattle.auditor.specs.declared.judgement.Line.{Line}
use Rattle.page_claims.specs.declared.told.Place.{Place}
use Rattle.page_claims.specs.declared.told.Place.TheVariants.{Searched, Skipped}
use Rattle.page_claims.specs.declared.told.Told.{Told}

-- what was done with a part
abbrev pub place_of : ToldPart → Place
place_of (parts.Searched answer) = Searched
place_of (parts.Skipped number) = Skipped number

-- what a part of a reply is called
abbrev pub told_name : ToldPart → PartName
told_name (parts.Searched answer) = answer.part
told_name (parts.Skipped number) = Block number

-- the parts that a reply names, in its order: those that were searched, whose answers these are,
-- and those that were skipped
abbrev pub names_in : List Place → List PartAnswer → List PartName
names_in [] answers = map (λ (a : PartAnswer). a.part) answers
names_in (Searched ∷ places) [] = names_in places []
names_in (Searched ∷ places) (answer ∷ answers) = answer.part ∷ names_in places answers
names_in (Skipped number ∷ places) answers = Block number ∷ names_in places answers

abbrev pub names_of : Told → List PartName
names_of told = names_in told.places.items told.answers.items

abbrev pub same_name : PartName → PartName → Bool
same_name (Block m) (Block n) = m == n
same_name (Block m) Head = false
same_name Head (Block n) = false
same_name Head Head = true

-- how often a part is named
abbrev pub times_named : PartName → List PartName → ℕ
times_named name [] = 0
times_named name (n ∷ ns) = (if same_name name n then 1 else 0) + times_named name ns

abbrev pub same_names : List PartName → List PartName → Bool
same_names [] [] = true
same_names [] (other ∷ others) = false
same_names (name ∷ names) [] = false
same_names (name ∷ names) (other ∷ others) = same_name name other && same_names names others

-- the names of so many blocks, from this number on, and of the head behind them
abbrev pub names_from : ℕ → ℕ → List PartName
names_from first zero = Head ∷ []
names_from first (suc blocks) = Block first ∷ names_from (first + 1) blocks

-- Whether the parts that are named are so many blocks, each once, in order from block 0 on, and
-- then the head. A reply's rows are merged in the order in which it names its parts, where a later
-- one wins at equal times: so this is the order in which they have to stand.
abbrev pub names_in_order : ℕ → List PartName → Bool
names_in_order blocks names = same_names names (names_from 0 blocks)

abbrev pub is_of : PartName → Subject → Bool
is_of name (Part other) = same_name name other
is_of name Rows = false

abbrev pub is_valid : Judgement → Bool
is_valid judgement.Valid = true
is_valid judgement.Skipped = false
is_valid (judgement.Flawed flaw) = false
is_valid (judgement.Refused code) = false

abbrev pub is_skip : Judgement → Bool
is_skip judgement.Valid = false
is_skip judgement.Skipped = true
is_skip (judgement.Flawed flaw) = false
is_skip (judgement.Refused code) = false

-- whether a judge found the answer of a part valid
abbrev pub is_found_valid : List Line → PartName → Bool
is_found_valid lines name =
    list_any (λ (line : Line). is_of name line.subject && is_valid line.judgement) lines

-- whether a line says of a part that it was skipped
abbrev pub is_told_skipped : List Line → PartName → Bool
is_told_skipped lines name =
    list_any (λ (line : Line). is_of name line.subject && is_skip line.judgement) lines

abbrev pub is_table : Option BlockTable → Bool
is_table None = false
is_table (Some (tables.Walked part)) = true
is_table (Some (tables.Refused code)) = false

-- Whether a judge found that the query selects nothing of the block of a number, which was skipped:
-- its table was walked, and the line names no flaw. The same line stands of a block without a
-- table, which nobody judged.
abbrev pub is_found_silent : List BlockTable → List Line → ℕ → Bool
is_found_silent tables lines number =
    is_table (slice_get tables number) && is_told_skipped lines (Block number)

abbrev pub unjudged_answer : List Line → PartAnswer → List PartName
unjudged_answer lines a = if is_found_valid lines a.part then [] else a.part ∷ []

abbrev pub unjudged_skip : List BlockTable → List Line → Place → List PartName
unjudged_skip tables lines Searched = []
unjudged_skip tables lines (Skipped number) =
    if is_found_silent tables lines number then [] else Block number ∷ []

-- the parts that a reply names and that no judge found right: a judge finds a part right whose
-- answer is valid, or that was skipped and of which the query selects nothing
abbrev pub unjudged_of : List BlockTable → List Line → Told → List PartName
unjudged_of tables lines told =
    flat_map (unjudged_answer lines) told.answers.items
    ++ flat_map (unjudged_skip tables lines) told.places.items
