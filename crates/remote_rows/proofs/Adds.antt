-- What is added, series by series and result by result.
use Rattle.std.proofs.Common.{◌≡◌, ℕ, ℤ, ◌+◌, ◌<◌, Bool, List, [], ◌∷◌, ◌++◌, length, get_or, take, ap, sym, subst, ◌∙◌, append_assoc, add-one}
use Rattle.std.specs.Prelude.{if◌then◌else◌}
use Rattle.std.proofs.lemmas.List.{append-nil}
use Rattle.std.proofs.Math.Seq.{take-suc}
use Rattle.protobuf_fields.specs.Format.{EachIs}
use Rattle.labels.specs.Rows.{Row}
use Rattle.remote_write.specs.Format.{SampleValue, SeriesValue}
use Rattle.remote_write.specs.Writing.{FitSamples, FitSeries, body_text, series_text, text_field}
use Rattle.remote_read.specs.Answer.{FitResults, response_text}
use Rattle.remote_rows.specs.Sent.{Answer, IsSampleOf, IsSeriesOf, IsResultOf, IsReplyTo}
use Rattle.remote_rows.specs.Adding.{AddsSeries}
use Rattle.remote_rows.proofs.Each.{each_more}

samples_fit : (xs : List (ℤ × ℤ)) (ys : List SampleValue) → EachIs IsSampleOf xs ys → FitSamples ys
samples_fit [] [] e = tt
samples_fit [] (y ∷ ys) e = absurd e
samples_fit (x ∷ xs) [] e = absurd e
samples_fit (x ∷ xs) (y ∷ ys) e = (e.0.fits, samples_fit xs ys e.1)

body_more : (all : List SeriesValue) (s : SeriesValue)
    → body_text (all ++ s ∷ []) ≡ body_text all ++ text_field 1 (series_text s)
body_more [] s = append-nil (text_field 1 (series_text s))
body_more (r ∷ all) s =
    ap (λ (t : List ℕ). text_field 1 (series_text r) ++ t) (body_more all s)
    ∙ sym (append_assoc (text_field 1 (series_text r)) (body_text all) (text_field 1 (series_text s)))

fits_more : (all : List SeriesValue) (s : SeriesValue) → FitSeries all → FitSamples s.samples → s.histograms ≡ 0
    → FitSeries (all ++ s ∷ [])
fits_more [] s f g h = (g, h, tt)
fits_more (r ∷ all) s f g h = (f.0, f.1, fits_more all s f.2 g h)

pub none_added : (alone : Bool) (old : List ℕ) → AddsSeries (alone, []) old old
none_added alone old = record { sent = []; are = tt; added = sym (append-nil old); fits = tt }

-- one series more
pub one_added : (alone : Bool) (rows : List Row) (row : Row) (old mid new : List ℕ) (s : SeriesValue)
    → AddsSeries (alone, rows) old mid → IsSeriesOf alone row s → new ≡ mid ++ text_field 1 (series_text s)
    → AddsSeries (alone, rows ++ row ∷ []) old new
one_added alone rows row old mid new s a is e = record {
  sent = a.sent ++ s ∷ [];
  are = each_more (IsSeriesOf alone) rows a.sent row s a.are is;
  added =
      e ∙ ap (λ (t : List ℕ). t ++ text_field 1 (series_text s)) a.added
      ∙ append_assoc old (body_text a.sent) (text_field 1 (series_text s))
      ∙ ap (λ (t : List ℕ). old ++ t) (sym (body_more a.sent s));
  fits =
      fits_more a.sent s a.fits (samples_fit (if alone then [] else row.1) s.samples is.samples) is.histograms;
}

response_more : (all : List (List SeriesValue)) (r : List SeriesValue)
    → response_text (all ++ r ∷ []) ≡ response_text all ++ text_field 1 (body_text r)
response_more [] r = append-nil (text_field 1 (body_text r))
response_more (s ∷ all) r =
    ap (λ (t : List ℕ). text_field 1 (body_text s) ++ t) (response_more all r)
    ∙ sym (append_assoc (text_field 1 (body_text s)) (response_text all) (text_field 1 (body_text r)))

results_more : (all : List (List SeriesValue)) (r : List SeriesValue) → FitResults all → FitSeries r
    → FitResults (all ++ r ∷ [])
results_more [] r f g = (g, tt)
results_more (s ∷ all) r f g = (f.0, results_more all r f.1 g)

-- the series of the row at a place
pub row_added : (alone : Bool) (rows : List Row) (i : ℕ) (row : Row) (old mid new : List ℕ) (s : SeriesValue)
    → i < length rows → row ≡ get_or rows i row → AddsSeries (alone, take i rows) old mid → IsSeriesOf alone row s
    → new ≡ mid ++ text_field 1 (series_text s) → AddsSeries (alone, take (i + 1) rows) old new
row_added alone rows i row old mid new s h is a of e =
    let at : take (i + 1) rows ≡ take i rows ++ row ∷ [] =
    rw add-one (take-suc rows i row h ∙ ap (λ (r : Row). take i rows ++ r ∷ []) (sym is)) in
    subst (λ (front : List Row). AddsSeries (alone, front) old new) (sym at)
    (one_added alone (take i rows) row old mid new s a of e)

-- one result more
pub reply_more : (front : List Answer) (answer : Answer) (old none result new : List ℕ) → none ≡ []
    → IsReplyTo front old → AddsSeries answer none result → new ≡ old ++ text_field 1 result
    → IsReplyTo (front ++ answer ∷ []) new
reply_more front answer old none result new empty r a e = record {
  results = r.results ++ a.sent ∷ [];
  each = each_more IsResultOf front r.results answer a.sent r.each a.are;
  spelled =
      e ∙ ap (λ (t : List ℕ). old ++ text_field 1 t) (a.added ∙ ap (λ (t : List ℕ). t ++ body_text a.sent) empty)
      ∙ ap (λ (t : List ℕ). t ++ text_field 1 (body_text a.sent)) r.spelled
      ∙ sym (response_more r.results a.sent);
  fits = results_more r.results a.sent r.fits a.fits;
}
