-- What a body of remote write means.
use Rattle.std.specs.Prelude.{◌≡◌, ℕ, ℤ, Bool, true, List, ◌==◌, ◌||◌, if◌then◌else◌, [], length}
use Rattle.std.specs.Int.{w64, cast_signed}
use Rattle.protobuf_fields.specs.Format.{Value, AreFields, AreKnown, EachIs, texts, numbers}
use Rattle.protobuf_fields.specs.Format.{eights, last_or}

-- a label
pub record LabelValue : Type 0 where
  pub name : List ℕ
  pub value : List ℕ

-- a time, and the bits of a double
pub record SampleValue : Type 0 where
  pub time : ℤ
  pub value : ℕ

-- labels and samples, and how many native histograms stand beside them
pub record SeriesValue : Type 0 where
  pub labels : List LabelValue
  pub samples : List SampleValue
  pub histograms : ℕ

-- Which kind each known field has: 0 a number, 1 eight bytes, 2 bytes. A field that is not known
-- may have any.
abbrev pub label_allows : ℕ → ℕ → Bool
label_allows n kind = if n == 1 || n == 2 then kind == 2 else true

abbrev pub sample_allows : ℕ → ℕ → Bool
sample_allows n kind = if n == 1 then kind == 1 else if n == 2 then kind == 0 else true

abbrev pub series_allows : ℕ → ℕ → Bool
series_allows n kind = if n == 1 || n == 2 || n == 4 then kind == 2 else true

abbrev pub request_allows : ℕ → ℕ → Bool
request_allows n kind = if n == 1 then kind == 2 else true

-- The bytes are a label. Of a field that stands there twice the last one counts, and one that does
-- not stand there is empty.
pub record IsLabel (bytes : List ℕ) (label : LabelValue) : Type 0 where
  pub fields : List Value
  pub spelled : AreFields bytes fields
  pub known : AreKnown label_allows fields
  pub name : label.name ≡ last_or [] (texts 1 fields)
  pub value : label.value ≡ last_or [] (texts 2 fields)

-- The bytes are a sample. Of a field that stands there twice the last one counts, and one that does
-- not stand there is 0.
pub record IsSample (bytes : List ℕ) (sample : SampleValue) : Type 0 where
  pub fields : List Value
  pub spelled : AreFields bytes fields
  pub known : AreKnown sample_allows fields
  pub value : sample.value ≡ last_or 0 (eights 1 fields)
  pub time : sample.time ≡ cast_signed w64 (last_or 0 (numbers 2 fields))

-- The bytes are a series: its labels and its samples, each in order, and the count of its
-- histograms, which are not looked into.
pub record IsSeries (bytes : List ℕ) (series : SeriesValue) : Type 0 where
  pub fields : List Value
  pub spelled : AreFields bytes fields
  pub known : AreKnown series_allows fields
  pub labels : EachIs IsLabel (texts 1 fields) series.labels
  pub samples : EachIs IsSample (texts 2 fields) series.samples
  pub histograms : series.histograms ≡ length (texts 4 fields)

-- the bytes are these series, one after another
pub record IsRequest (bytes : List ℕ) (all : List SeriesValue) : Type 0 where
  pub fields : List Value
  pub spelled : AreFields bytes fields
  pub known : AreKnown request_allows fields
  pub series : EachIs IsSeries (texts 1 fields) all
