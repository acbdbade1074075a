-- The claim of a page, in words, and of which state of a store it is made.
use Rattle.std.specs.Prelude.{ℕ, List, [], ◌∷◌, ◌++◌, Option, None, Some, codes, decimal}
use Rattle.std.specs.Prelude.{if◌then◌else◌}
use Rattle.std.specs.List.{flat_map}
use Rattle.postings.specs.declared.part_name.PartName.{PartName}
use Rattle.auditor.specs.Judgements.{subject_text}
use Rattle.auditor.specs.declared.judgement.Subject.TheVariants.{Part}
use Rattle.page_escape.specs.Escaping.{word_text}
use Rattle.page_claims.specs.declared.claim.Completeness.{Completeness}
use Rattle.page_claims.specs.declared.claim.Completeness.TheVariants.{Judged, DirectoriesJudged}
use Rattle.page_claims.specs.declared.claim.Completeness.TheVariants.{Certified, NotShown}
use Rattle.state_claims.specs.Claiming.{is_right_of_state, otherwise_of}
use Rattle.state_claims.specs.declared.verdicts.StateSaid.{StateSaid}

-- a green box for a claim that a judge stands behind, a red one for a claim that is not made, and
-- else a plain one
unfoldable pub claim_front : Completeness → List ℕ
claim_front Judged = codes "<div class=\"say ok\">"
claim_front DirectoriesJudged = codes "<div class=\"say ok\">"
claim_front Certified = codes "<div class=\"say plain\">"
claim_front NotShown = codes "<div class=\"say bad\">"

unfoldable pub claim_mark : Completeness → List ℕ
claim_mark Judged = codes "&#10003;</span> "
claim_mark DirectoriesJudged = codes "&#10003;</span> "
claim_mark Certified = codes "&#9675;</span> "
claim_mark NotShown = codes "&#10007;</span> "

unfoldable pub claim_words : Completeness → List ℕ
claim_words Judged = codes "No series is missing. The auditor found no flaw."
claim_words DirectoriesJudged =
    codes "No series of these directories is missing. The auditor found no flaw."
claim_words Certified = codes "No series is missing, by the certificates below."
claim_words NotShown = codes "This reply does not show that no series is missing."

-- a part after another
abbrev pub later_name : PartName → List ℕ
later_name name = codes ", " ++ subject_text (Part name)

-- what begins the sentence of parts that nobody judged
unfoldable pub first_name : PartName → List ℕ
first_name name = codes "Nobody judged: " ++ subject_text (Part name)

-- some parts that nobody judged, in a sentence
unfoldable pub unjudged_names : PartName → List PartName → List ℕ
unjudged_names name names = first_name name ++ flat_map later_name names ++ codes "."

-- the parts that nobody judged; if there are none, what else is wanting for a stronger claim
unfoldable pub unjudged_words : List PartName → List ℕ
unjudged_words [] = codes "The reply does not name the head and each block once."
unjudged_words (name ∷ names) = unjudged_names name names

-- what stands before the mark of a claim
unfoldable pub mark_front : List ℕ
mark_front = codes "<p class=\"big\"><span class=\"mark\" aria-hidden=\"true\">"

-- a box that is open still, with the mark of the claim
unfoldable pub claim_box : Completeness → List ℕ
claim_box completeness = claim_front completeness ++ mark_front ++ claim_mark completeness

-- what nobody judged, in a paragraph; none if all was judged, or if the claim is not made
unfoldable pub claim_note : Completeness → List PartName → List ℕ
claim_note Judged unjudged = []
claim_note DirectoriesJudged unjudged =
    codes "<p>The reply tells of a head without series, which nobody judged.</p>\n"
claim_note Certified unjudged = codes "<p>" ++ unjudged_words unjudged ++ codes "</p>\n"
claim_note NotShown unjudged = []

-- the claim, and what nobody judged, in a box that is open still
unfoldable pub claim_text : Completeness → List PartName → List ℕ
claim_text completeness unjudged =
    claim_box completeness ++ claim_words completeness ++ codes "</p>\n"
    ++ claim_note completeness unjudged

-- what nobody judged, for a terminal: the parts say themselves if nobody judged them
unfoldable pub plain_note : Completeness → List ℕ
plain_note Judged = []
plain_note DirectoriesJudged =
    codes "The reply tells of a head without series, which nobody judged.\n"
plain_note Certified = []
plain_note NotShown = []

-- the claim on lines of its own
unfoldable pub plain_claim : Completeness → List ℕ
plain_claim completeness = claim_words completeness ++ codes "\n" ++ plain_note completeness

-- which state a reply was held against, with the text of its mark
unfoldable pub state_place : List ℕ → StateSaid → List ℕ
state_place mark said =
    codes "event " ++ decimal said.told ++ codes " of " ++ decimal said.events
    ++ codes ", mark " ++ mark ++ codes "."

-- that the reply is right of a state, or of none
unfoldable pub state_front : StateSaid → List ℕ
state_front said =
    if is_right_of_state said then codes "It is right of the store at "
    else codes "It is right of no state of the store that was sought. It was judged at "

-- what stands before the names of the blocks whose series had other numbers
unfoldable pub otherwise_front : List ℕ
otherwise_front = codes " Judged for what is missing, and not for how few its intervals are: "

-- what begins the sentence of these blocks
unfoldable pub first_otherwise : PartName → List ℕ
first_otherwise name = otherwise_front ++ subject_text (Part name)

-- some blocks whose series had other numbers than their files have, in a sentence
unfoldable pub otherwise_names : PartName → List PartName → List ℕ
otherwise_names name names = first_otherwise name ++ flat_map later_name names ++ codes "."

-- the same; nothing, if there are none
unfoldable pub otherwise_words : List PartName → List ℕ
otherwise_words [] = []
otherwise_words (name ∷ names) = otherwise_names name names

unfoldable pub state_words : List ℕ → StateSaid → List ℕ
state_words mark said =
    state_front said ++ state_place mark said ++ otherwise_words (otherwise_of said.lines.now)

-- of which state it is claimed, in a paragraph
unfoldable pub state_paragraph : StateSaid → List ℕ
state_paragraph said =
    codes "<p>" ++ state_words (word_text said.mark.now) said ++ codes "</p>\n"

-- the same; nothing, if no store was looked at
unfoldable pub state_text : Option StateSaid → List ℕ
state_text None = []
state_text (Some said) = state_paragraph said

-- The same for a terminal of 80 columns. A number has at most 20 digits, and the text of a mark at
-- most 29 characters, so that the longest of these lines has 79.

-- that the reply is right of a state, or of none, on lines of which the last is open still
unfoldable pub front_lines : StateSaid → List ℕ
front_lines said =
    if is_right_of_state said then codes "It is right of the store at "
    else codes "It is right of no state of the store that was sought.\nIt was judged at "

-- which state a reply was held against: the end of a line, and a line for its mark
unfoldable pub place_lines : StateSaid → List ℕ
place_lines said =
    codes "event " ++ decimal said.told ++ codes " of " ++ decimal said.events
    ++ codes ",\nmark " ++ said.mark.now ++ codes ".\n"

-- a block on a line of its own
abbrev pub name_line : PartName → List ℕ
name_line name = codes "  " ++ subject_text (Part name) ++ codes "\n"

-- some blocks whose series had other numbers than their files have, each on a line
unfoldable pub otherwise_list : List PartName → List ℕ
otherwise_list names =
    codes "Judged for what is missing, and not for how few its intervals are:\n"
    ++ flat_map name_line names

-- the same; nothing, if there are none
unfoldable pub otherwise_lines : List PartName → List ℕ
otherwise_lines [] = []
otherwise_lines (name ∷ names) = otherwise_list (name ∷ names)

-- of which state it is claimed, on lines
unfoldable pub state_lines : StateSaid → List ℕ
state_lines said =
    front_lines said ++ place_lines said ++ otherwise_lines (otherwise_of said.lines.now)

-- the same; nothing, if no store was looked at
unfoldable pub plain_state : Option StateSaid → List ℕ
plain_state None = []
plain_state (Some said) = state_lines said
