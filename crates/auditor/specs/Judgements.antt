-- What is said of each part of a reply and of its rows, and in which lines.
use Rattle.std.specs.Prelude.{◌≡◌, ◌++◌, ◌==◌, ◌||◌, ℕ, zero, suc, Bool, true, false, List, [], ◌∷◌}
use Rattle.std.specs.Prelude.{Option, None, Some, length, slice_get, codes, decimal, if◌then◌else◌}
use Rattle.std.specs.List.{AllZip, flat_map}
use Rattle.labels.specs.Rows.{Row, AreRows}
use Rattle.labels.specs.Parts.{Part as Series}
use Rattle.matchers.specs.Views.{QueryView}
use Rattle.postings.specs.declared.part_name.PartName.{PartName}
use Rattle.postings.specs.declared.part_name.PartName.TheVariants.{Block, Head}
use Rattle.cover.specs.declared.part_cover.PartAnswer.{PartAnswer}
use Rattle.reply_reader.specs.Replies.{name_text}
use Rattle.reply_reader.specs.declared.reply.ToldPart.{ToldPart}
use Rattle.reply_reader.specs.declared.reply.ToldPart.TheVariants as parts
use Rattle.reply_reader.specs.declared.reply.Reply.{Reply}
use Rattle.auditor.specs.declared.flaw.Flaw.{Flaw}
use Rattle.auditor.specs.declared.flaw.Flaw.TheVariants.{NotAPartition, NotMatching, NotRejected}
use Rattle.auditor.specs.declared.flaw.Flaw.TheVariants.{SeparatorCount, SeparatorsFit, WrongRows}
use Rattle.auditor.specs.declared.flaw.Flaw.TheVariants.{UnknownMatcher, NotSilent, Hidden}
use Rattle.auditor.specs.declared.flaw.Flaw.TheVariants.{WrongMerge, Memory}
use Rattle.auditor.specs.declared.judgement.BlockTable.{BlockTable}
use Rattle.auditor.specs.declared.judgement.BlockTable.TheVariants as tables
use Rattle.auditor.specs.declared.judgement.Judgement.{Judgement}
use Rattle.auditor.specs.declared.judgement.Judgement.TheVariants.{Valid, Skipped, Flawed, Refused}
use Rattle.auditor.specs.declared.judgement.Subject.{Subject}
use Rattle.auditor.specs.declared.judgement.Subject.TheVariants.{Part, Rows}
use Rattle.auditor.specs.declared.judgement.Line.{Line}
use Rattle.auditor.specs.Errors.{code_of}
use Rattle.auditor.specs.Auditing.{IsSoundAnswer, IsFlaw, selected_content}
use Rattle.auditor.specs.Listing.{last_listed}

-- where a flaw is, if that is told
abbrev pub place_of : Flaw → Option ℕ
place_of NotAPartition = None
place_of NotMatching = None
place_of (NotRejected matcher) = None
place_of SeparatorCount = None
place_of (SeparatorsFit at) = Some at
place_of WrongRows = None
place_of UnknownMatcher = None
place_of NotSilent = None
place_of Hidden = None
place_of WrongMerge = None
place_of Memory = None

-- `F4`, or `F5 at 1`
abbrev pub placed : List ℕ → Option ℕ → List ℕ
placed code None = code
placed code (Some at) = code ++ codes " at " ++ decimal at

abbrev pub judgement_text : Judgement → List ℕ
judgement_text Valid = codes "valid"
judgement_text Skipped = codes "skipped"
judgement_text (Flawed flaw) = placed (code_of flaw) (place_of flaw)
judgement_text (Refused code) = codes "refused " ++ code.now

abbrev pub subject_text : Subject → List ℕ
subject_text (Part name) = name_text name
subject_text Rows = codes "rows"

-- `block 0: F5 at 1`
abbrev pub line_text : Line → List ℕ
line_text line = subject_text line.subject ++ codes ": " ++ judgement_text line.judgement

-- whether a judgement names a flaw or a refusal
abbrev pub is_fault : Judgement → Bool
is_fault Valid = false
is_fault Skipped = false
is_fault (Flawed flaw) = true
is_fault (Refused code) = true

-- what is known of a part: of the head, and of blocks past the last directory, nothing
abbrev pub known_of : List BlockTable → PartName → Option BlockTable
known_of blocks (Block n) = slice_get blocks n
known_of blocks Head = None

-- the name of the part that something is said of
abbrev pub name_of : ToldPart → PartName
name_of (parts.Searched answer) = answer.part
name_of (parts.Skipped number) = Block number

-- what is said of an answer that is held against its part
abbrev pub IsOfTable : Series → QueryView → PartAnswer → Judgement → Type 0
IsOfTable part query answer Valid = IsSoundAnswer part query answer
IsOfTable part query answer Skipped = ⊥
IsOfTable part query answer (Flawed flaw) = IsFlaw part query answer flaw
IsOfTable part query answer (Refused code) = ⊥

-- what is said of an answer: of a part that is not known, that it is skipped; of refused files,
-- that they are
abbrev pub IsOfAnswer : Option BlockTable → QueryView → PartAnswer → Judgement → Type 0
IsOfAnswer None query answer judgement = judgement ≡ Skipped
IsOfAnswer (Some (tables.Refused code)) query answer judgement = judgement ≡ Refused code
IsOfAnswer (Some (tables.Walked part)) query answer judgement =
    IsOfTable part query answer judgement

-- what is said of a part that shows nothing: that it is skipped, where the query selects nothing of
-- it, else `F9`
abbrev pub IsOfSilence : Series → QueryView → Judgement → Type 0
IsOfSilence part query Valid = ⊥
IsOfSilence part query Skipped = selected_content part query ≡ []
IsOfSilence part query (Flawed flaw) = (flaw ≡ Hidden) × (selected_content part query ≡ [] → ⊥)
IsOfSilence part query (Refused code) = ⊥

-- what is said of a block that was skipped or that no part names
abbrev pub IsOfSkip : Option BlockTable → QueryView → Judgement → Type 0
IsOfSkip None query judgement = judgement ≡ Skipped
IsOfSkip (Some (tables.Refused code)) query judgement = judgement ≡ Refused code
IsOfSkip (Some (tables.Walked part)) query judgement = IsOfSilence part query judgement

abbrev pub IsOfPart : List BlockTable → QueryView → ToldPart → Judgement → Type 0
IsOfPart blocks query (parts.Searched answer) judgement =
    IsOfAnswer (known_of blocks answer.part) query answer judgement
IsOfPart blocks query (parts.Skipped number) judgement =
    IsOfSkip (slice_get blocks number) query judgement

-- what is said of the rows of all: that they are those that the answers list, or `F10`
abbrev pub IsOfRows : List PartAnswer → List Row → Judgement → Type 0
IsOfRows answers rows Valid = AreRows rows (last_listed answers)
IsOfRows answers rows Skipped = ⊥
IsOfRows answers rows (Flawed flaw) = (flaw ≡ WrongMerge) × (AreRows rows (last_listed answers) → ⊥)
IsOfRows answers rows (Refused code) = ⊥

-- the line of what is said of a part
abbrev pub IsPartLine : List BlockTable → QueryView → ToldPart → Line → Type 0
IsPartLine blocks query told line =
    (line.subject ≡ Part (name_of told)) × IsOfPart blocks query told line.judgement

-- the line of a block that no part names
abbrev pub IsLeftLine : List BlockTable → QueryView → ℕ → Line → Type 0
IsLeftLine blocks query number line =
    (line.subject ≡ Part (Block number)) × IsOfSkip (slice_get blocks number) query line.judgement

-- whether it is said of the block of this number
abbrev pub is_of_block : ℕ → PartName → Bool
is_of_block number (Block n) = n == number
is_of_block number Head = false

-- whether something is said of the block of this number
abbrev pub is_named : List ToldPart → ℕ → Bool
is_named [] number = false
is_named (told ∷ rest) number = is_of_block number (name_of told) || is_named rest number

-- those of so many blocks, from 0, of which nothing is said
abbrev pub unnamed : List ToldPart → ℕ → List ℕ
unnamed told zero = []
unnamed told (suc n) = unnamed told n ++ (if is_named told n then [] else n ∷ [])

-- the answers of the parts that were searched
abbrev pub answers_of : ToldPart → List PartAnswer
answers_of (parts.Searched answer) = answer ∷ []
answers_of (parts.Skipped number) = []

-- a line for each of these parts, in order
abbrev pub ArePartLines : List BlockTable → QueryView → List ToldPart → List Line → Type 0
ArePartLines blocks query told lines = AllZip (IsPartLine blocks query) told lines

-- a line for each block that none of these parts names, in order
abbrev pub AreLeftLines : List BlockTable → QueryView → List ToldPart → List Line → Type 0
AreLeftLines blocks query told lines =
    AllZip (IsLeftLine blocks query) (unnamed told (length blocks)) lines

-- the lines of a reply: one for each part, in order, then one for each block that no part names,
-- and last that of the rows
pub record AreLines
    (blocks : List BlockTable) (query : QueryView) (reply : Reply) (lines : List Line) : Type 0
  where
    pub of_parts : List Line
    pub of_left : List Line
    pub of_rows : Judgement
    pub whole : lines ≡ of_parts ++ of_left ++ record { subject = Rows; judgement = of_rows } ∷ []
    pub are_of_parts : ArePartLines blocks query reply.parts.items of_parts
    pub are_of_left : AreLeftLines blocks query reply.parts.items of_left
    pub is_of_rows : IsOfRows (flat_map answers_of reply.parts.items) reply.rows.items of_rows

-- the lines as a text, each ended by a line feed
abbrev pub lines_text : List Line → List ℕ
lines_text lines = flat_map (λ line. line_text line ++ 10 ∷ []) lines
