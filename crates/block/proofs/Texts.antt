-- What the bytes of a JSON text are.
use Rattle.std.proofs.Common.{◌≡◌, ℕ, List, Bool, true, false, Some, None, refl, IsUtf8}
use Rattle.std.specs.Prelude.{if◌then◌else◌}
use Rattle.std.specs.Str.{is_utf8}
use Rattle.std.proofs.lemmas.Str.{IsUtf8-from_is_utf8, is_utf8-from_IsUtf8}
use Rattle.serde_json.specs.Data.{Data}
use Rattle.serde_json.specs.Read.{read}
use Rattle.block.specs.Metas.{json_of}

pub json_when : (bytes : List ℕ) (d : Data) → IsUtf8 bytes → read bytes ≡ Some d
    → json_of bytes ≡ Some d
json_when bytes d text e = rw (is_utf8-from_IsUtf8 bytes text, e)

unless_at : (bytes : List ℕ) (text : Bool) → is_utf8 bytes ≡ text
    → (IsUtf8 bytes → read bytes ≡ None) → (if text then read bytes else None) ≡ None
unless_at bytes true e none = none (IsUtf8-from_is_utf8 bytes e)
unless_at bytes false e none = refl

pub json_unless : (bytes : List ℕ) → (IsUtf8 bytes → read bytes ≡ None) → json_of bytes ≡ None
json_unless bytes none = unless_at bytes (is_utf8 bytes) refl none
