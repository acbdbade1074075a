-- Marks of a store, and from where on one has a state sought.
use Rattle.std.specs.Prelude.{◌≡◌, ◌<◌, ◌^◌, ◌==◌, ◌&&◌, ◌++◌, ℕ, Bool, List, Option, None}
use Rattle.std.specs.Prelude.{Some, Ok, codes, decimal, nat_le, if◌then◌else◌}
use Rattle.std.specs.Int.{to_be_bytes, w32}
use Rattle.std.specs.List.{Contains, before_first, after_first}
use Rattle.std.specs.Str.{bytes_eq}
use Rattle.std.specs.Str.Parse.{IsNumeral, digits_value, without_leading_plus}
use Rattle.hex.specs.Hex.{decode_sized, encode_lower}
use Rattle.store_command.specs.declared.mark.Mark.{Mark}
use Rattle.store_command.specs.declared.mark.Since.{Since}
use Rattle.store_command.specs.declared.mark.Since.TheVariants.{Anywhere, Held, Rolled}

-- so many events behind the head with this checksum
abbrev pub mark_at : ℕ → ℕ → Mark
mark_at head count = record { head = to_be_bytes w32 head; count = count }

-- `5d3163ef:1300`: the checksum in hex, and the count of events
abbrev pub mark_text : Mark → List ℕ
mark_text mark = encode_lower mark.head ++ (codes ":" ++ decimal mark.count)

-- what stands before the first colon of a text, and behind it
abbrev pub before_colon : List ℕ → List ℕ
before_colon text = before_first (λ b. b == 58) text

abbrev pub behind_colon : List ℕ → List ℕ
behind_colon text = after_first (λ b. b == 58) text

-- The text says the mark: before its first colon stand the checksum's eight hex digits, and behind
-- it a number, below 2 ^ 64.
pub record IsMarkText (text : List ℕ) (mark : Mark) : Type 0 where
  pub colon : Contains text 58
  pub head : decode_sized (before_colon text) 4 ≡ Ok mark.head
  pub numeral : IsNumeral 10 (without_leading_plus (behind_colon text))
  pub count : mark.count ≡ digits_value 10 (without_leading_plus (behind_colon text))
  pub fits : mark.count < 2 ^ 64

-- whether a journal whose head has this checksum, with so many events behind it, goes as far as the
-- mark says
abbrev pub is_held : Mark → ℕ → ℕ → Bool
is_held mark head events =
    bytes_eq mark.head (to_be_bytes w32 head) && nat_le mark.count events

-- from where on a state is sought in that journal: the mark's place if it goes as far, and else all
-- states behind the head
abbrev pub since_of : Option Mark → ℕ → ℕ → Since
since_of None head events = Anywhere
since_of (Some mark) head events =
    if is_held mark head events then Held mark.count else Rolled mark

-- behind how many events the first state is that may be found
abbrev pub first_of : Since → ℕ
first_of Anywhere = 0
first_of (Held count) = count
first_of (Rolled mark) = 0
