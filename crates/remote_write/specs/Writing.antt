-- The one text that is written for a value.
use Rattle.std.specs.Prelude.{◌≡◌, ℕ, ◌+◌, ◌*◌, ◌^◌, ◌<◌, List, [], ◌∷◌, ◌++◌, length}
use Rattle.std.specs.List.{flat_map}
use Rattle.std.specs.Int.{w64, cast_unsigned}
use Rattle.std.specs.Int.RustNames.{FitsSigned}
use Rattle.byteorder.specs.Endian.{little_bytes}
use Rattle.wire.specs.Spelling.{uvarint}
use Rattle.remote_write.specs.Format.{LabelValue, SampleValue, SeriesValue}

-- a field of bytes: its key, their length, and the bytes
abbrev pub text_field : ℕ → List ℕ → List ℕ
text_field n text = uvarint (8 * n + 2) ++ (uvarint (length text) ++ text)

abbrev pub label_text : LabelValue → List ℕ
label_text l = text_field 1 l.name ++ text_field 2 l.value

-- eight bytes as field 1, and the time as field 2
abbrev pub sample_text : SampleValue → List ℕ
sample_text s =
    uvarint 9 ++ (little_bytes 8 s.value ++ (uvarint 16 ++ uvarint (cast_unsigned w64 s.time)))

abbrev pub labels_text : List LabelValue → List ℕ
labels_text ls = flat_map (λ l. text_field 1 (label_text l)) ls

abbrev pub samples_text : List SampleValue → List ℕ
samples_text xs = flat_map (λ x. text_field 2 (sample_text x)) xs

abbrev pub series_text : SeriesValue → List ℕ
series_text s = labels_text s.labels ++ samples_text s.samples

-- series one after another, each as field 1: a body of remote write, or one result of remote read
abbrev pub body_text : List SeriesValue → List ℕ
body_text all = flat_map (λ s. text_field 1 (series_text s)) all

-- what has such a text
pub record FitsSample (s : SampleValue) : Type 0 where
  pub time : FitsSigned w64 s.time
  pub value : s.value < 2 ^ 64

abbrev pub FitSamples : List SampleValue → Type 0
FitSamples [] = Unit {0}
FitSamples (x ∷ xs) = FitsSample x × FitSamples xs

abbrev pub FitSeries : List SeriesValue → Type 0
FitSeries [] = Unit {0}
FitSeries (s ∷ all) = FitSamples s.samples × (s.histograms ≡ 0) × FitSeries all

-- What has a text that can be read: samples of 64 bits, no histograms, and fewer than 2^64 bytes
-- in all.
pub record Fits (all : List SeriesValue) : Type 0 where
  pub series : FitSeries all
  pub length : length (body_text all) < 2 ^ 64
