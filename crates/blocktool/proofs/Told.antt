-- What is told of a text that is refused.
use Rattle.std.specs.Prelude.{◌≡◌, ℕ, List, Option, None, Some, refl}
use Rattle.std.proofs.Common.{Global, inl, inr}
use Rattle.std.specs.declared.string.String.{String}
use Rattle.imported_values.specs.declared.form.Form.{Form}
use Rattle.imported_values.specs.declared.policy.Rest.{Rest}
use Rattle.imported_values.specs.declared.policy.Rest.TheVariants.{Refuse}
use Rattle.open_metrics.specs.declared.comments.Format.{Format}
use Rattle.exposition.specs.declared.error.ReadError.{ReadError}
use Rattle.exposition.specs.declared.error.ReadError.TheVariants.{Refused}
use Rattle.exposition.specs.declared.error.Refusal.{Refusal}
use Rattle.exposition.specs.declared.text.Left.{Left}
use Rattle.exposition.specs.declared.text.Reading.{Reading}
use Rattle.exposition.specs.Refusing.{IfRefused, IsRefused}
use Rattle.block_outputs.specs.declared.tiles.Stretch.{Stretch}
use Rattle.blocktool.specs.declared.fault.Fault.{Fault}
use Rattle.blocktool.specs.declared.fault.Fault.TheVariants.{Memory, Other, Text}
use Rattle.blocktool.specs.declared.text_input.Said.{Said}
use Rattle.blocktool.specs.Texts.{AreAllowed, AreLeftOut, IsOtherRefused, IsSaidBy}
use Rattle.blocktool.specs.Texts.{IsTextRefused}
use Rattle.blocktool.specs.Texts.{IsToldFor, IsToldOf, IsToldRefused, first_within}
use Rattle.blocktool.specs.Forms.{places_of, reading_of, rest_of}

pub text_told : (name : String Global) (r : Refusal) → IsToldFor (Refused r) (Text name r)
text_told name r = inr (name, r, refl, refl)

pub no_text_told : (error : ReadError) → IsToldFor error Memory
no_text_told error = inl refl

pub other_told : (name : String Global) (left : Left) → IsToldOf left (Other name left)
other_told name left = inr (name, refl)

pub no_other_told : (left : Left) → IsToldOf left Memory
no_other_told left = inl refl

pub left_out_allowed : (rest : Rest) (times : Stretch) (others : List Left) → AreLeftOut rest
    → AreAllowed rest times others
left_out_allowed rest times others is = inl is

pub none_allowed : (rest : Rest) (times : Stretch) (others : List Left)
    → first_within times.from times.to others ≡ None → AreAllowed rest times others
none_allowed rest times others is = inr is

pub first_refused : (rest : Rest) (times : Stretch) (others : List Left) (left : Left) (e : Fault)
    → rest ≡ Refuse → first_within times.from times.to others ≡ Some left → IsToldOf left e
    → IsOtherRefused rest times others e
first_refused rest times others left e asked is told = (asked, left, is, told)

pub text_refused : (format : Format) (places : ℕ) (r : Reading) (text : List ℕ)
    (error : ReadError) (e : Fault) → IfRefused error (IsRefused format places r text)
    → IsToldFor error e → IsToldRefused format places r text e
text_refused format places r text error e is told = (error, is, told)

pub refused_by_text : (format : Format) (form : Form) (text : List ℕ) (times : Stretch) (e : Fault)
    → IsToldRefused format (places_of form) (reading_of form) text e
    → IsTextRefused format form text times e
refused_by_text format form text times e is = inl is

pub refused_by_other : (format : Format) (form : Form) (text : List ℕ) (times : Stretch)
    (said : Said) (e : Fault) → IsSaidBy format (places_of form) (reading_of form) text said
    → IsOtherRefused (rest_of form) times said.others.items e
    → IsTextRefused format form text times e
refused_by_other format form text times said e is other = inr (said, is, other)
