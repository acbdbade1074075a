-- What a body of remote read means.
use Rattle.std.specs.Prelude.{◌≡◌, ℕ, ℤ, Bool, true, List, [], ◌∷◌, ◌==◌, ◌||◌, if◌then◌else◌}
use Rattle.std.specs.Int.{w64, cast_signed}
use Rattle.protobuf_fields.specs.Format.{Value, AreFields, AreKnown, EachIs, texts, numbers}
use Rattle.protobuf_fields.specs.Format.{last_or}

-- what a label's value is to be: 0 equal, 1 not equal, 2 a match of a pattern, 3 none
pub record MatcherValue : Type 0 where
  pub kind : ℕ
  pub name : List ℕ
  pub value : List ℕ

-- a range of times, both ends in it, and the function that is to be applied to what is read
pub record QueryValue : Type 0 where
  pub start : ℤ
  pub end : ℤ
  pub matchers : List MatcherValue
  pub func : List ℕ

-- Which kind each known field has: 0 a number, 2 bytes. A field that is not known may have any.
abbrev pub matcher_allows : ℕ → ℕ → Bool
matcher_allows n kind =
    if n == 1 then kind == 0 else if n == 2 || n == 3 then kind == 2 else true

abbrev pub hints_allows : ℕ → ℕ → Bool
hints_allows n kind = if n == 2 then kind == 2 else true

abbrev pub query_allows : ℕ → ℕ → Bool
query_allows n kind =
    if n == 1 || n == 2 then kind == 0 else if n == 3 || n == 4 then kind == 2 else true

abbrev pub request_allows : ℕ → ℕ → Bool
request_allows n kind = if n == 1 then kind == 2 else true

-- The bytes are a matcher. Of a field that stands there twice the last one counts, and one that
-- does not stand there is 0 or empty.
pub record IsMatcher (bytes : List ℕ) (matcher : MatcherValue) : Type 0 where
  pub fields : List Value
  pub spelled : AreFields bytes fields
  pub known : AreKnown matcher_allows fields
  pub kind : matcher.kind ≡ last_or 0 (numbers 1 fields)
  pub name : matcher.name ≡ last_or [] (texts 2 fields)
  pub value : matcher.value ≡ last_or [] (texts 3 fields)

-- the bytes are hints, which name this function, or none where it is the one before
pub record IsHints (bytes before func : List ℕ) : Type 0 where
  pub fields : List Value
  pub spelled : AreFields bytes fields
  pub known : AreKnown hints_allows fields
  pub named : func ≡ last_or before (texts 2 fields)

-- hints that stand there more than once: the last function that is named counts
abbrev pub AreHints : List (List ℕ) → List ℕ → List ℕ → Type 0
AreHints [] before func = func ≡ before
AreHints (bytes ∷ more) before func =
    (next : List ℕ) × IsHints bytes before next × AreHints more next func

pub record IsQuery (bytes : List ℕ) (query : QueryValue) : Type 0 where
  pub fields : List Value
  pub spelled : AreFields bytes fields
  pub known : AreKnown query_allows fields
  pub start : query.start ≡ cast_signed w64 (last_or 0 (numbers 1 fields))
  pub end : query.end ≡ cast_signed w64 (last_or 0 (numbers 2 fields))
  pub matchers : EachIs IsMatcher (texts 3 fields) query.matchers
  pub func : AreHints (texts 4 fields) [] query.func

-- the bytes are these queries, one after another
pub record IsRequest (bytes : List ℕ) (all : List QueryValue) : Type 0 where
  pub fields : List Value
  pub spelled : AreFields bytes fields
  pub known : AreKnown request_allows fields
  pub queries : EachIs IsQuery (texts 1 fields) all
