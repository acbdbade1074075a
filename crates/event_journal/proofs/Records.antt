-- Records that are taken apart, and written by number.
use Rattle.std.proofs.Common.{◌≡◌, ◌<◌, ◌≤◌, ℕ, zero, suc, false, List, [], ◌∷◌, ◌++◌, length}
use Rattle.std.proofs.Common.{Result, Ok, refl, sym, ap, subst, ◌∙◌, append_assoc, arith}
use Rattle.std.proofs.lemmas.List.{append-nil, length-append}
use Rattle.byteorder.specs.Endian.{big_bytes}
use Rattle.wire.specs.Checksum.{crc32c}
use Rattle.wire.specs.Spelling.{IsBytes}
use Rattle.wire.proofs.ChecksumBound.{crc32c_below}
use Rattle.wire.proofs.Fields.{bytes_again, number_again_4}
use Rattle.wire.proofs.Steps.{same_value}
use Rattle.head.specs.Worlds.{Event, batch, deletion, cut, joined}
use Rattle.event_text.specs.Spelling.{event_text}
use Rattle.journal.specs.Group.{AreRecords}
use Rattle.journal.specs.Records.{record_of, records_of, IsContent}
use Rattle.journal.proofs.Lengths.{small}
use Rattle.journal.proofs.Loops.{length-record}
use Rattle.journal.proofs.OneRecord.{parts}
use Rattle.keeper.specs.Together.{IsKept, SpellTogether, texts_of}
use Rattle.name_table.specs.Names.{Label}
use Rattle.numbered_text.specs.Reading.{is_numbered, plain_of}
use Rattle.numbered_text.specs.declared.error.NumberError.{NumberError}
use Rattle.event_journal.specs.Naming.{AreNext, IsNumbered, IsPlain, SpellFrom}
use Rattle.event_journal.specs.Splitting.{split_at}
use Rattle.event_journal.proofs.Naming.{spell_joined}

number_bytes : (n : ℕ) → IsBytes (big_bytes 4 n)
number_bytes n zero = omega arith
number_bytes n (suc zero) = omega arith
number_bytes n (suc (suc zero)) = omega arith
number_bytes n (suc (suc (suc zero))) = omega arith
number_bytes n (suc (suc (suc (suc i)))) = omega arith

pub split_again : (content rest : List ℕ) → IsContent content
    → split_at (record_of content ++ rest) ≡ Ok (content, rest)
unfolding split_at
split_again content rest h =
    let n = length content in
    let size = big_bytes 4 n in
    let first = big_bytes 4 (crc32c size) in
    let sum = big_bytes 4 (crc32c content) in
    let one = number_again_4 n (first ++ (content ++ (sum ++ rest))) (small n h.sized) in
    let two = number_again_4 (crc32c size) (content ++ (sum ++ rest))
    (crc32c_below size (number_bytes n)) in
    let three = bytes_again content (sum ++ rest) in
    let four = number_again_4 (crc32c content) rest (crc32c_below content h.bytes) in
    ap split_at (parts content rest ∙ append_assoc size first (content ++ (sum ++ rest)))
    ∙ rw (one, two, three, four) refl

-- the bytes that were taken apart are a record and what follows it
pub split_is : (content rest found after bytes : List ℕ) → IsContent content
    → bytes ≡ record_of content ++ rest → split_at bytes ≡ Ok (found, after)
    → (found ≡ content) × (after ≡ rest)
split_is content rest found after bytes h is read =
    let x : List ℕ × List ℕ = (found, after) in
    let y : List ℕ × List ℕ = (content, rest) in
    let same : x ≡ y =
    same_value x y (sym read ∙ (ap split_at is ∙ split_again content rest h)) in (
      ap (λ (p : List ℕ × List ℕ). p.0) same,
      ap (λ (p : List ℕ × List ℕ). p.1) same,
    )

-- the text of an event is of today's kinds
pub plain_text : (e : Event) → is_numbered (event_text e) ≡ false
unfolding event_text
plain_text (batch xs) = refl
plain_text (deletion ms a b) = refl
plain_text (cut t) = refl
plain_text (joined at count made) = refl

-- records are written so far: those of the first events, by number
pub record Numbered (first : List Label) (events : List Event) (rest out : List ℕ)
    (names : List Label) : Type 0 where
  pub before : List Event
  pub later : List Event
  pub all : events ≡ before ++ later
  pub contents : List (List ℕ)
  pub are : AreRecords contents out
  pub spell : SpellFrom first contents before names
  pub left : SpellTogether rest later

abbrev pub NumberedEach : List Label → List ℕ → List ℕ → List ℕ → List Label → Type 0
NumberedEach first records rest out names =
    (events : List Event) → SpellTogether records events → Numbered first events rest out names

pub numbered_none : (names : List Label) (records : List ℕ)
    → NumberedEach names records records [] names
unfolding records_of
numbered_none names records events s = record {
  before = [];
  later = events;
  all = refl;
  contents = [];
  are = record { each = tt; whole = refl };
  spell = refl;
  left = s;
}

-- the event whose record is in front
record Next (rest : List ℕ) (later : List Event) : Type 0 where
  event : Event
  others : List Event
  behind : List ℕ
  is : later ≡ event ∷ others
  kept : IsKept event
  plain : IsPlain (event_text event)
  parts : rest ≡ record_of (event_text event) ++ behind
  left : SpellTogether behind others

next_of : (rest : List ℕ) (later : List Event) → (rest ≡ [] → ⊥) → SpellTogether rest later
    → Next rest later
unfolding records_of
next_of rest [] some s = absurd (some s.are.whole)
next_of rest (e ∷ others) some s = record {
  event = e;
  others = others;
  behind = records_of (texts_of others);
  is = refl;
  kept = s.each.0;
  plain = record { fits = s.are.each.0; plain = plain_text e };
  parts = s.are.whole;
  left = record {
    are = record { each = s.are.each.1; whole = refl };
    each = s.each.1;
  };
}

-- the record in front is one of a content of today's kinds
pub in_front : (first names : List Label) (records rest out : List ℕ) (events : List Event)
    → NumberedEach first records rest out names → SpellTogether records events
    → (rest ≡ [] → ⊥)
    → (content behind : List ℕ) × IsPlain content × (rest ≡ record_of content ++ behind)
in_front first names records rest out events each s some =
    let n = each events s in
    let x = next_of rest n.later some n.left in
    (event_text x.event, x.behind, x.plain, x.parts)

pub numbered_more : (first names after : List Label) (records rest behind out new : List ℕ)
    → (rest ≡ [] → ⊥)
    → ((content left : List ℕ) → IsPlain content → rest ≡ record_of content ++ left
    → (behind ≡ left) × IsNumbered names content after out new)
    → NumberedEach first records rest out names → NumberedEach first records behind new after
numbered_more first names after records rest behind out new some one each events s =
    let n = each events s in
    let x = next_of rest n.later some n.left in
    let p = one (event_text x.event) x.behind x.plain x.parts in
    record {
      before = n.before ++ x.event ∷ [];
      later = x.others;
      all = n.all ∙ (ap (λ (y : List Event). n.before ++ y) x.is
          ∙ sym (append_assoc n.before (x.event ∷ []) x.others));
      contents = n.contents ++ p.1.made ∷ [];
      are = p.1.added n.contents n.are;
      spell = spell_joined first names after n.contents (p.1.made ∷ []) n.before (x.event ∷ [])
          n.spell (after, record { text = p.1.stands; kept = x.kept }, refl);
      left = subst (λ (y : List ℕ). SpellTogether y x.others) (sym p.0) x.left;
    }

-- what follows a record is shorter
pub shorter : (rest after behind content : List ℕ) → rest ≡ record_of content ++ behind
    → after ≡ behind → length after < length rest
shorter rest after behind content parts is =
    omega (
      arith,
      ap length parts,
      ap length is,
      length-append (record_of content) behind,
      length-record content,
    )

pub empty : (xs : List ℕ) → length xs ≤ 0 → xs ≡ []
empty [] le = refl
empty (x ∷ xs) le = absurd (omega (arith, le))

none_left : (later : List Event) → SpellTogether [] later → later ≡ []
unfolding records_of
none_left [] s = refl
none_left (e ∷ later) s =
    let content = event_text e in
    let n = ap length s.are.whole in
    absurd (omega (
      arith,
      n,
      length-append (record_of content) (records_of (texts_of later)),
      length-record content,
    ))

pub numbered_all : (first names : List Label) (records rest out : List ℕ) (events : List Event)
    → rest ≡ [] → NumberedEach first records rest out names → SpellTogether records events
    → AreNext first out events names
numbered_all first names records rest out events none each s =
    let n = each events s in
    let over = none_left n.later (subst (λ (y : List ℕ). SpellTogether y n.later) none n.left) in
    let all : events ≡ n.before =
    n.all ∙ (ap (λ (y : List Event). n.before ++ y) over ∙ append-nil n.before) in
    record {
      contents = n.contents;
      are = n.are;
      spell = subst (λ (y : List Event). SpellFrom first n.contents y names) (sym all) n.spell;
    }

pub numbered_so : (names after : List Label) (content found made old new : List ℕ)
    → found ≡ content → plain_of names made ≡ Ok (found, after)
    → ((contents : List (List ℕ)) → AreRecords contents old
    → AreRecords (contents ++ made ∷ []) new)
    → IsNumbered names content after old new
numbered_so names after content found made old new is stands added = record {
  made = made;
  stands = stands ∙ ap (λ (t : List ℕ). plain t after) is;
  added = added;
}
  where
    plain : List ℕ → List Label → Result (List ℕ × List Label) NumberError
    plain t ns = Ok (t, ns)
