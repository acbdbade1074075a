-- Which reply a page shows.
use Rattle.std.specs.Prelude.{ℕ, List, ◌++◌, codes}
use Rattle.hex.specs.Hex.{encode_lower}
use Rattle.page_text.specs.Printing.{counted}

unfoldable pub length_front : List ℕ
length_front = codes "<p class=\"note\">This page shows a reply of "

unfoldable pub digest_front : List ℕ
digest_front = codes " bytes; their SHA-256 is <code>"

unfoldable pub digest_end : List ℕ
digest_end = codes "</code>.</p>\n"

-- what begins a paragraph: the length of a reply
unfoldable pub length_text : ℕ → List ℕ
length_text length = length_front ++ counted length

-- and what ends it: the SHA-256 of the reply, in hexadecimal digits
unfoldable pub digest_text : List ℕ → List ℕ
digest_text digest = digest_front ++ encode_lower digest ++ digest_end

-- which reply a page shows
unfoldable pub reply_text : ℕ → List ℕ → List ℕ
reply_text length digest = length_text length ++ digest_text digest
