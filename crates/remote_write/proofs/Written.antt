-- What is written is read again.
use Rattle.std.proofs.Common.{◌≡◌, ℕ, ◌+◌, ◌*◌, ◌^◌, ◌<◌, ◌≤◌, List, [], ◌∷◌, ◌++◌, length, ℤ, pos, negsuc, refl, sym, ap, ◌∙◌, arith, append_assoc, length-append}
use Rattle.std.proofs.lemmas.List.{append-nil}
use Rattle.std.proofs.lemmas.Int.{to_z-of_z}
use Rattle.std.specs.Int.{w64, cast_unsigned}
use Rattle.std.specs.Int.RustNames.{FitsSigned}
use Rattle.byteorder.specs.Endian.{little_bytes}
use Rattle.wire.specs.Spelling.{uvarint}
use Rattle.varints.proofs.Laws.{varint_spelled, varint_small}
use Rattle.protobuf_fields.specs.Format.{Value, Number, Eight, Text, IsField, AreFields, AreKnown, EachIs, texts}
use Rattle.remote_write.specs.Format.{LabelValue, SampleValue, SeriesValue, IsLabel, IsSample, IsSeries, IsRequest, series_allows, request_allows}
use Rattle.remote_write.specs.Writing.{text_field, label_text, sample_text, labels_text, samples_text, series_text, body_text, FitsSample, FitSamples, FitSeries, Fits}

-- a field that is a text
pub is_text : (n : ℕ) (text : List ℕ) → 0 < n → n < 2 ^ 29 → length text < 2 ^ 64 → IsField (text_field n text) (Text n text)
is_text n text some few short = record {
  key = uvarint (8 * n + 2);
  body = uvarint (length text) ++ text;
  parts = refl;
  key_is = varint_spelled (8 * n + 2) (omega arith);
  some = some;
  few = few;
  body_is = (uvarint (length text), varint_spelled (length text) short, refl);
}

pub inside : (n : ℕ) (text : List ℕ) → length text ≤ length (text_field n text)
inside n text =
    let a = length-append (uvarint (8 * n + 2)) (uvarint (length text) ++ text) in
    let b = length-append (uvarint (length text)) text in
    omega arith

label_read : (l : LabelValue) → length (label_text l) < 2 ^ 64 → IsLabel (label_text l) l
label_read l short =
    let a = inside 1 l.name in
    let b = inside 2 l.value in
    let c = length-append (text_field 1 l.name) (text_field 2 l.value) in
    record {
      fields = Text 1 l.name ∷ Text 2 l.value ∷ [];
      spelled = (
        text_field 1 l.name,
        text_field 2 l.value,
        is_text 1 l.name (omega arith) (omega arith) (omega arith),
        refl,
        (text_field 2 l.value, [], is_text 2 l.value (omega arith) (omega arith) (omega arith), sym (append-nil (text_field 2 l.value)), refl),
      );
      known = (refl, (refl, tt));
      name = refl;
      value = refl;
    }

time_fits : (z : ℤ) → FitsSigned w64 z → cast_unsigned w64 z < 2 ^ 64
time_fits (pos n) fits = omega arith
time_fits (negsuc n) fits = omega arith

sample_read : (s : SampleValue) → FitsSample s → IsSample (sample_text s) s
sample_read s f =
    let t = cast_unsigned w64 s.time in
    let first = uvarint 9 ++ little_bytes 8 s.value in
    let last = uvarint 16 ++ uvarint t in
    let value_fits : s.value < 256 ^ 8 = (let v = f.value in omega arith) in
    let value_is : IsField first (Eight 1 s.value) =
    record { key = uvarint 9; body = little_bytes 8 s.value; parts = refl; key_is = varint_spelled 9 (omega arith); some = omega arith; few = omega arith; body_is = (value_fits, refl) } in
    let time_is : IsField last (Number 2 t) =
    record { key = uvarint 16; body = uvarint t; parts = refl; key_is = varint_spelled 16 (omega arith); some = omega arith; few = omega arith; body_is = varint_spelled t (time_fits s.time f.time) } in
    record {
      fields = Eight 1 s.value ∷ Number 2 t ∷ [];
      spelled = (first, last, value_is, sym (append_assoc (uvarint 9) (little_bytes 8 s.value) last), (last, [], time_is, sym (append-nil last), refl));
      known = (refl, (refl, tt));
      value = refl;
      time = sym (to_z-of_z w64 s.time f.time);
    }

-- how long a sample's text is
pub sample_length : (s : SampleValue) (n : ℕ) → n ≡ 10 + length (uvarint (cast_unsigned w64 s.time)) → n ≡ length (sample_text s)
sample_length s n e =
    let t = uvarint (cast_unsigned w64 s.time) in
    let a = ap (length {A = ℕ}) (varint_small 9 (omega arith)) in
    let b = ap (length {A = ℕ}) (varint_small 16 (omega arith)) in
    let c = length-append (uvarint 9) (little_bytes 8 s.value ++ (uvarint 16 ++ t)) in
    let d = length-append (little_bytes 8 s.value) (uvarint 16 ++ t) in
    let f = length-append (uvarint 16) t in
    omega arith

-- the fields of a series
abbrev label_fields : List LabelValue → List Value → List Value
label_fields [] vs = vs
label_fields (l ∷ ls) vs = Text 1 (label_text l) ∷ label_fields ls vs

abbrev sample_fields : List SampleValue → List Value
sample_fields [] = []
sample_fields (x ∷ xs) = Text 2 (sample_text x) ∷ sample_fields xs

labels_spelled : (ls : List LabelValue) (tail : List ℕ) (vs : List Value) → length (labels_text ls) < 2 ^ 64 → AreFields tail vs → AreFields (labels_text ls ++ tail) (label_fields ls vs)
labels_spelled [] tail vs short are = are
labels_spelled (l ∷ ls) tail vs short are =
    let first = text_field 1 (label_text l) in
    let a = length-append first (labels_text ls) in
    let b = inside 1 (label_text l) in (
      first,
      labels_text ls ++ tail,
      is_text 1 (label_text l) (omega arith) (omega arith) (omega arith),
      append_assoc first (labels_text ls) tail,
      labels_spelled ls tail vs (omega arith) are,
    )

samples_spelled : (xs : List SampleValue) → length (samples_text xs) < 2 ^ 64 → AreFields (samples_text xs) (sample_fields xs)
samples_spelled [] short = refl
samples_spelled (x ∷ xs) short =
    let first = text_field 2 (sample_text x) in
    let a = length-append first (samples_text xs) in
    let b = inside 2 (sample_text x) in
    (first, samples_text xs, is_text 2 (sample_text x) (omega arith) (omega arith) (omega arith), refl, samples_spelled xs (omega arith))

samples_known : (xs : List SampleValue) → AreKnown series_allows (sample_fields xs)
samples_known [] = tt
samples_known (x ∷ xs) = (refl, samples_known xs)

labels_known : (ls : List LabelValue) (vs : List Value) → AreKnown series_allows vs → AreKnown series_allows (label_fields ls vs)
labels_known [] vs k = k
labels_known (l ∷ ls) vs k = (refl, labels_known ls vs k)

no_labels : (xs : List SampleValue) → texts 1 (sample_fields xs) ≡ []
no_labels [] = refl
no_labels (x ∷ xs) = no_labels xs

each_label : (ls : List LabelValue) (vs : List Value) → length (labels_text ls) < 2 ^ 64 → texts 1 vs ≡ [] → EachIs IsLabel (texts 1 (label_fields ls vs)) ls
each_label [] vs short e = rw e tt
each_label (l ∷ ls) vs short e =
    let first = text_field 1 (label_text l) in
    let a = length-append first (labels_text ls) in
    let b = inside 1 (label_text l) in
    (label_read l (omega arith), each_label ls vs (omega arith) e)

past_labels : (ls : List LabelValue) (vs : List Value) → texts 2 (label_fields ls vs) ≡ texts 2 vs
past_labels [] vs = refl
past_labels (l ∷ ls) vs = past_labels ls vs

no_histograms : (ls : List LabelValue) (vs : List Value) → texts 4 (label_fields ls vs) ≡ texts 4 vs
no_histograms [] vs = refl
no_histograms (l ∷ ls) vs = no_histograms ls vs

no_histograms_here : (xs : List SampleValue) → texts 4 (sample_fields xs) ≡ []
no_histograms_here [] = refl
no_histograms_here (x ∷ xs) = no_histograms_here xs

each_sample : (xs : List SampleValue) → FitSamples xs → EachIs IsSample (texts 2 (sample_fields xs)) xs
each_sample [] f = tt
each_sample (x ∷ xs) f = (sample_read x f.0, each_sample xs f.1)

pub series_read : (s : SeriesValue) → FitSamples s.samples → s.histograms ≡ 0 → length (series_text s) < 2 ^ 64 → IsSeries (series_text s) s
series_read s f none short =
    let a = length-append (labels_text s.labels) (samples_text s.samples) in
    let vs = sample_fields s.samples in
    record {
      fields = label_fields s.labels vs;
      spelled = labels_spelled s.labels (samples_text s.samples) vs (omega arith) (samples_spelled s.samples (omega arith));
      known = labels_known s.labels vs (samples_known s.samples);
      labels = each_label s.labels vs (omega arith) (no_labels s.samples);
      samples = rw (past_labels s.labels vs) (each_sample s.samples f);
      histograms = none ∙ sym (ap length (no_histograms s.labels vs ∙ no_histograms_here s.samples));
    }

-- and of a body
abbrev series_fields : List SeriesValue → List Value
series_fields [] = []
series_fields (s ∷ all) = Text 1 (series_text s) ∷ series_fields all

series_spelled : (all : List SeriesValue) → length (body_text all) < 2 ^ 64 → AreFields (body_text all) (series_fields all)
series_spelled [] short = refl
series_spelled (s ∷ all) short =
    let first = text_field 1 (series_text s) in
    let a = length-append first (body_text all) in
    let b = inside 1 (series_text s) in
    (first, body_text all, is_text 1 (series_text s) (omega arith) (omega arith) (omega arith), refl, series_spelled all (omega arith))

series_known : (all : List SeriesValue) → AreKnown request_allows (series_fields all)
series_known [] = tt
series_known (s ∷ all) = (refl, series_known all)

each_series : (all : List SeriesValue) → FitSeries all → length (body_text all) < 2 ^ 64 → EachIs IsSeries (texts 1 (series_fields all)) all
each_series [] f short = tt
each_series (s ∷ all) f short =
    let first = text_field 1 (series_text s) in
    let a = length-append first (body_text all) in
    let b = inside 1 (series_text s) in
    (series_read s f.0 f.1 (omega arith), each_series all f.2 (omega arith))

pub body_read : (all : List SeriesValue) → Fits all → IsRequest (body_text all) all
body_read all f = record {
  fields = series_fields all;
  spelled = series_spelled all f.length;
  known = series_known all;
  series = each_series all f.series f.length;
}
