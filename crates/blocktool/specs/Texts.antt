-- Text out of replies, and texts in a range of times.
use Rattle.std.specs.Prelude.{◌≡◌, ◌⊎◌, ℕ, ◌+◌, ℤ, Bool, false, List, [], ◌∷◌, ◌++◌, Option, None}
use Rattle.std.specs.Prelude.{Some, length, codes, filter, is_some, option_map, unwrap_or}
use Rattle.std.specs.Prelude.{if◌then◌else◌}
use Rattle.std.specs.List.{find}
use Rattle.std.specs.declared.string.String.{String}
use Rattle.std.proofs.Common.{Global}
use Rattle.serde_json.specs.Find.{as_array}
use Rattle.serde_json.specs.Read.{read as read_text}
use Rattle.labels.specs.Contents.{in_range}
use Rattle.labels.specs.Rows.{Row, points_of}
use Rattle.labels.specs.Parts.{laid_over}
use Rattle.kept_samples.specs.declared.keeping.Tally.{Tally}
use Rattle.imported_values.specs.declared.form.Form.{Form}
use Rattle.imported_values.specs.declared.policy.Rest.{Rest}
use Rattle.imported_values.specs.declared.policy.Rest.TheVariants.{Drop, Refuse, Round}
use Rattle.open_metrics.specs.declared.comments.Format.{Format}
use Rattle.exposition.specs.declared.error.ReadError.{ReadError}
use Rattle.exposition.specs.declared.error.ReadError.TheVariants.{Refused}
use Rattle.exposition.specs.declared.error.Refusal.{Refusal}
use Rattle.exposition.specs.declared.text.Left.{Left}
use Rattle.exposition.specs.declared.text.Reading.{Reading}
use Rattle.exposition.specs.Reading.{HasExemplars, IsText, told_by}
use Rattle.exposition.specs.Refusing.{IfRefused, IsRefused}
use Rattle.exposition.specs.Runs.{AreRising}
use Rattle.block_outputs.specs.declared.tiles.Stretch.{Stretch}
use Rattle.block_outputs.specs.Contents.{restricted}
use Rattle.blocktool.specs.declared.fault.Fault.{Fault}
use Rattle.blocktool.specs.declared.fault.Fault.TheVariants.{Memory, Other, Text}
use Rattle.blocktool.specs.declared.text_input.Said.{Said}
use Rattle.blocktool.specs.declared.to_openmetrics.Shown.{Shown}
use Rattle.blocktool.specs.declared.to_openmetrics.Shown.TheVariants.{Decimals, Doubles}
use Rattle.blocktool.specs.Conversion.{capped}
use Rattle.blocktool.specs.Forms.{places_of, reading_of, rest_of}
use Rattle.blocktool.specs.Listed.{IsGivenByRows, content_of_rows}
use Rattle.reply_reader.specs.Replies.{Told, text_said}
use Rattle.metrics_writer.specs.Doubles.{IsTextOfDoubles}
use Rattle.metrics_writer.specs.Texts.{text_of}

-- the text of the merged rows of a reply, whose values have so many digits after the point
pub record IsTextOfReply (places : ℕ) (reply text : List ℕ) : Type 0 where
  pub parts : List Told
  pub rows : List Row
  pub said : text_said reply ≡ Some (parts, rows)
  pub written : text ≡ text_of places rows

-- the text of the merged rows of a reply, whose values stand for doubles
pub record IsDoublesOfReply (reply text : List ℕ) : Type 0 where
  pub parts : List Told
  pub rows : List Row
  pub said : text_said reply ≡ Some (parts, rows)
  pub written : IsTextOfDoubles rows text

-- the same of values that are written so
abbrev pub IsTextAs : Shown → List ℕ → List ℕ → Type 0
IsTextAs (Decimals places) reply text = IsTextOfReply places reply text
IsTextAs Doubles reply text = IsDoublesOfReply reply text

-- a reply without parts, whose merged rows are a text
abbrev pub around : List ℕ → List ℕ
around rows = codes "{\"parts\":[],\"rows\":" ++ rows ++ 125 ∷ []

-- the merged rows of a reply
abbrev pub AreRowsOfReply : List ℕ → List Row → Type 0
AreRowsOfReply text rows = (parts : List Told) × (text_said text ≡ Some (parts, rows))

-- whether a text is a list of JSON
abbrev pub is_list : List ℕ → Bool
is_list text = unwrap_or (option_map (λ d. is_some (as_array d)) (read_text text)) false

-- the rows of a list, or the merged rows of a reply
abbrev pub AreRowsSaid : List ℕ → List Row → Type 0
AreRowsSaid text rows = AreRowsOfReply (if is_list text then around text else text) rows

-- how many samples lie in a closed range
abbrev pub count_within : ℤ → ℤ → List Left → ℕ
count_within from to others = length (filter (λ (o : Left). in_range from to o.t) others)

-- the first of samples with other values that lies in a closed range
abbrev pub first_within : ℤ → ℤ → List Left → Option Left
first_within from to others = find (λ (o : Left). in_range from to o.t) others

-- samples with other values are left out; of Round those that have no nearest number of parts
abbrev pub AreLeftOut : Rest → Type 0
AreLeftOut Refuse = ⊥
AreLeftOut Drop = Unit {0}
AreLeftOut Round = Unit {0}

-- samples with other values are left out, or none lies in a closed range
abbrev pub AreAllowed : Rest → Stretch → List Left → Type 0
AreAllowed rest times others =
    AreLeftOut rest ⊎ (first_within times.from times.to others ≡ None)

-- this sample is told, if memory did not run out
abbrev pub IsToldOf : Left → Fault → Type 0
IsToldOf left e = (e ≡ Memory) ⊎ ((name : String Global) × (e ≡ Other name left))

-- samples with other values are not left out, and the first of them in the range is told, if memory
-- did not run out
abbrev pub IsOtherRefused : Rest → Stretch → List Left → Fault → Type 0
IsOtherRefused rest times others e = (rest ≡ Refuse) × (left : Left)
    × (first_within times.from times.to others ≡ Some left) × IsToldOf left e

-- the refusal of a text is told, if memory did not run out
abbrev pub IsToldFor : ReadError → Fault → Type 0
IsToldFor error e = (e ≡ Memory)
    ⊎ ((name : String Global) × (r : Refusal) × (e ≡ Text name r) × (error ≡ Refused r))

-- why a text is refused is told, if memory did not run out
abbrev pub IsToldRefused : Format → ℕ → Reading → List ℕ → Fault → Type 0
IsToldRefused format places reading text e =
    (error : ReadError) × IfRefused error (IsRefused format places reading text)
    × IsToldFor error e

-- what a text says, in rows whose times ascend, and how many of its lines have an exemplar
pub record IsSaidBy (format : Format) (places : ℕ) (reading : Reading) (text : List ℕ)
    (said : Said) : Type 0 where
  pub is_text : IsText format places reading text
      (told_by said.listed.rows.items said.others.items said.rounded.items)
  pub rise : AreRising said.listed.rows.items
  pub exemplars : HasExemplars format places text said.exemplars

-- why a text is refused is told; or, where such samples are not left out, the first sample with
-- another value in the range that it says
abbrev pub IsTextRefused : Format → Form → List ℕ → Stretch → Fault → Type 0
IsTextRefused format form text times e =
    IsToldRefused format (places_of form) (reading_of form) text e
    ⊎ ((said : Said) × IsSaidBy format (places_of form) (reading_of form) text said
    × IsOtherRefused (rest_of form) times said.others.items e)

-- what was said, and an input of nothing behind it
abbrev pub AreInputsOf : Said → List Said → Type 0
AreInputsOf said [] = ⊥
AreInputsOf said (a ∷ []) = ⊥
AreInputsOf said (a ∷ b ∷ []) =
    (a ≡ said) × (b.listed.rows.items ≡ []) × (b.others.items ≡ []) × (b.rounded.items ≡ [])
AreInputsOf said (a ∷ b ∷ c ∷ more) = ⊥

-- counts with the samples of other values that lie in a range, and those that were rounded
abbrev pub IsTold : List Left → List Left → Stretch → Tally → Tally → Type 0
IsTold others rounded times old new =
    new ≡ record old {
      rest = capped (old.rest + count_within times.from times.to others);
      rounded = capped (old.rounded + count_within times.from times.to rounded);
    }

-- a text gives the rows of a range, each of whose samples is kept, and counts the samples with
-- other values that lie in it, and those that were rounded
abbrev pub IsGivenByText : List Row → List Left → List Left → Stretch → List Row → Tally → Tally
    → Type 0
IsGivenByText all others rounded times rows old new =
    (mid : Tally) × IsGivenByRows all times rows old mid × IsTold others rounded times mid new

-- a text gives of a range exactly what its rows hold in it, of which the first counts
abbrev pub TextsGiveTheirContent : Type 0
TextsGiveTheirContent = (all : List Row) (others rounded : List Left) (s : Stretch)
    (rows : List Row) (old new : Tally) → IsGivenByText all others rounded s rows old new
    → laid_over (points_of rows) [] ≡ restricted s.from s.to (content_of_rows all)
