-- Tokens, and how a request bears one.
use Rattle.std.specs.Prelude.{ℕ, Bool, false, List, length, map, take, drop, codes, nat_le, nat_lt}
use Rattle.std.specs.Prelude.{◌&&◌, Option, None, Some, if◌then◌else◌}
use Rattle.std.specs.List.{list_all}
use Rattle.std.specs.Str.{bytes_eq}
use Rattle.std.specs.Char.{to_ascii_lowercase}

-- a character of ASCII that is printed, and no space
abbrev pub is_visible : ℕ → Bool
is_visible byte = nat_le 33 byte && nat_le byte 126

-- one or more visible characters
abbrev pub is_token : List ℕ → Bool
is_token bytes = nat_lt 0 (length bytes) && list_all is_visible bytes

-- what stands in a text after a name, in any case of its letters, that the text begins with
abbrev pub rest_after : List ℕ → List ℕ → Option (List ℕ)
rest_after name text =
    if nat_lt (length text) (length name) then None
    else if bytes_eq (map to_ascii_lowercase (take (length name) text))
    (map to_ascii_lowercase name) then Some (drop (length name) text)
    else None

-- whether there is a text, and it is this one
abbrev pub is_text : List ℕ → Option (List ℕ) → Bool
is_text text None = false
is_text text (Some found) = bytes_eq found text

-- whether the value of `Authorization` is the scheme `Bearer`, a space and the token
abbrev pub bears : List ℕ → List ℕ → Bool
bears token value = is_text token (rest_after (codes "bearer ") value)
