-- What a reply to a body of remote read means, and the one text that is written for it.
use Rattle.std.specs.Prelude.{◌^◌, ◌<◌, ℕ, Bool, true, List, [], ◌∷◌, ◌==◌, if◌then◌else◌, length}
use Rattle.std.specs.List.{flat_map}
use Rattle.protobuf_fields.specs.Format.{Value, AreFields, AreKnown, EachIs, texts}
use Rattle.remote_write.specs.Format.{SeriesValue, IsRequest}
use Rattle.remote_write.specs.Writing.{FitSeries, body_text, text_field}

abbrev pub response_allows : ℕ → ℕ → Bool
response_allows n kind = if n == 1 then kind == 2 else true

-- The bytes are these results, one for each query: a result is spelled as a body of remote write.
pub record IsResponse (bytes : List ℕ) (results : List (List SeriesValue)) : Type 0 where
  pub fields : List Value
  pub spelled : AreFields bytes fields
  pub known : AreKnown response_allows fields
  pub results_are : EachIs IsRequest (texts 1 fields) results

abbrev pub response_text : List (List SeriesValue) → List ℕ
response_text results = flat_map (λ r. text_field 1 (body_text r)) results

abbrev pub FitResults : List (List SeriesValue) → Type 0
FitResults [] = Unit {0}
FitResults (r ∷ results) = FitSeries r × FitResults results

-- What has a text that can be read: samples of 64 bits, no histograms, and fewer than 2^64 bytes
-- in all.
pub record Fits (results : List (List SeriesValue)) : Type 0 where
  pub each : FitResults results
  pub length : length (response_text results) < 2 ^ 64
