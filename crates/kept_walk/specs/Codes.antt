-- The numbers of refusals, and their texts.
use Rattle.std.specs.Prelude.{ℕ, List, ◌++◌, codes, decimal}
use Rattle.journal.specs.Codes as journal
use Rattle.kept_walk.specs.declared.error.KeptError.{KeptError}
use Rattle.kept_walk.specs.declared.error.KeptError.TheVariants.{Memory, Journal, Head, Change}
use Rattle.kept_walk.specs.declared.error.KeptError.TheVariants.{Matcher}

-- the number of a refusal, as text
abbrev pub code_of : KeptError → List ℕ
code_of Memory = codes "memory"
code_of (Journal e) = journal.code_of e
code_of Head = codes "K1"
code_of (Change at) = codes "K2"
code_of (Matcher at) = codes "K2"

-- a refusal in a line, for people
abbrev pub text_of : KeptError → List ℕ
text_of Memory = codes "no memory"
text_of (Journal e) = journal.text_of e
text_of Head = codes "K1: the journal begins with no head and no event"
text_of (Change at) = codes "K2: what stands behind " ++ decimal at ++ codes " events is none"
text_of (Matcher at) =
    codes "K2: a matcher of the deletion behind " ++ decimal at ++ codes " events is refused"
