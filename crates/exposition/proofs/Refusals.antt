-- What is read of a text, and what it is refused for.
use Rattle.std.specs.Prelude.{◌≡◌, ℕ, List, reverse}
use Rattle.std.proofs.Common.{sym, subst, inl, inr}
use Rattle.labels.specs.Rows.{Row}
use Rattle.open_metrics.specs.declared.comments.Format.{Format}
use Rattle.exposition.specs.declared.error.ReadError.{ReadError}
use Rattle.exposition.specs.declared.error.ReadError.TheVariants.{Memory, Refused}
use Rattle.exposition.specs.declared.text.Reading.{Reading}
use Rattle.exposition.specs.declared.text.Gathered.{Gathered}
use Rattle.exposition.specs.Reading.{AddAll, HasExemplars, IsCutInto, IsText, exemplars_in, lines_in}
use Rattle.exposition.specs.Reading.{said_in, told_by, unsaid}
use Rattle.exposition.specs.Refusing.{IfRefused, IsFirstWrong, IsRefused, MissesEnd}

pub text_read : (format : Format) (places : ℕ) (f : Reading) (text : List ℕ)
    (lines : List (List ℕ)) (g : Gathered) (rows : List Row) → IsCutInto format (lines_in text) lines
    → AddAll format places f 1 lines unsaid (said_in g) → rows ≡ reverse g.runs
    → IsText format places f text (told_by rows g.others.items g.rounded.items)
text_read format places f text lines g rows cut says is =
    subst (λ (rs : List Row). IsText format places f text
    (told_by rs g.others.items g.rounded.items)) (sym is)
    (record { lines = lines; cut = cut; says = says })

pub end_missing : (e : ReadError) (format : Format) (places : ℕ) (f : Reading) (text : List ℕ)
    → IfRefused e (MissesEnd format (lines_in text)) → IfRefused e (IsRefused format places f text)
end_missing Memory format places f text is = tt
end_missing (Refused r) format places f text is = inl is

pub line_wrong : (e : ReadError) (format : Format) (places : ℕ) (f : Reading) (text : List ℕ)
    (lines : List (List ℕ)) → IsCutInto format (lines_in text) lines
    → IfRefused e (IsFirstWrong format places f lines) → IfRefused e (IsRefused format places f text)
line_wrong Memory format places f text lines cut is = tt
line_wrong (Refused r) format places f text lines cut is = inr (lines, cut, is)

pub exemplars_read : (format : Format) (places : ℕ) (text : List ℕ) (lines : List (List ℕ))
    (count : ℕ) → IsCutInto format (lines_in text) lines → count ≡ exemplars_in format places lines
    → HasExemplars format places text count
exemplars_read format places text lines count cut is =
    record { lines = lines; cut = cut; counted = is }
