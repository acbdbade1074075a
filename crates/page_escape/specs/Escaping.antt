-- How a text stands in a page: each character as itself, as an entity, or in a box with its code.
use Rattle.std.specs.Prelude.{ℕ, ◌+◌, ◌/◌, ◌%◌, ◌==◌, ◌||◌, ◌&&◌, Bool, nat_le, nat_lt, List, []}
use Rattle.std.specs.Prelude.{◌∷◌, ◌++◌, codes, if◌then◌else◌}
use Rattle.std.specs.Char.{encode_utf8}
use Rattle.std.specs.List.{flat_map}

-- a byte or a character below 128: the five that mean something to HTML as entities
abbrev pub entity : ℕ → List ℕ
entity c =
    if c == 38 then codes "&amp;"
    else if c == 60 then codes "&lt;"
    else if c == 62 then codes "&gt;"
    else if c == 34 then codes "&quot;"
    else if c == 39 then codes "&#39;"
    else c ∷ []

-- a constant of the program
abbrev pub word_text : List ℕ → List ℕ
word_text bytes = flat_map entity bytes

abbrev pub is_within : ℕ → ℕ → ℕ → Bool
is_within low high c = nat_le low c && nat_le c high

-- controls, joiners, marks of direction, fillers, selectors of variants and what is no character
abbrev pub is_invisible : ℕ → Bool
is_invisible c =
    is_within 0 31 c || is_within 127 159 c || is_within 173 173 c || is_within 1564 1564 c
    || is_within 4447 4448 c || is_within 6158 6158 c || is_within 8203 8207 c
    || is_within 8232 8238 c || is_within 8288 8303 c || is_within 12644 12644 c
    || is_within 65024 65039 c || is_within 65279 65279 c || is_within 65440 65440 c
    || is_within 65520 65531 c || is_within 917504 921599 c || nat_le 65534 (c % 65536)

-- a digit of sixteen, in capitals
abbrev pub hex_digit : ℕ → ℕ
hex_digit d = if nat_lt d 10 then 48 + d else 55 + d

-- the digits of sixteen before the last four: none, one or two
unfoldable pub high_digits : ℕ → List ℕ
high_digits c =
    (if nat_lt c 1048576 then [] else hex_digit (c / 1048576 % 16) ∷ [])
    ++ (if nat_lt c 65536 then [] else hex_digit (c / 65536 % 16) ∷ [])

-- the last four digits of sixteen
unfoldable pub low_digits : ℕ → List ℕ
low_digits c =
    hex_digit (c / 4096 % 16) ∷ hex_digit (c / 256 % 16) ∷ hex_digit (c / 16 % 16)
    ∷ hex_digit (c % 16) ∷ []

unfoldable pub box_front : List ℕ
box_front = codes "<i class=\"u\">U+"

unfoldable pub box_end : List ℕ
box_end = codes "</i>"

-- the box of a character that cannot be seen
unfoldable pub box_text : ℕ → List ℕ
box_text c = box_front ++ high_digits c ++ low_digits c ++ box_end

-- a character of a text from outside
unfoldable pub char_text : ℕ → List ℕ
char_text c =
    if is_invisible c then box_text c
    else if nat_lt c 128 then entity c
    else encode_utf8 c

-- a text from outside
abbrev pub leaf_text : List ℕ → List ℕ
leaf_text chars = flat_map char_text chars
