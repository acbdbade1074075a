-- What one series more gives.
use Rattle.std.proofs.Common.{◌≡◌, ◌<◌, ◌≤◌, ◌+◌, ℕ, ℤ, List, [], ◌∷◌, ◌++◌, length, map, true}
use Rattle.std.proofs.Common.{false, Option, None, Some, sym, ap, ◌∙◌, refl, subst, arith}
use Rattle.std.proofs.Common.{append_assoc, lt-ltb}
use Rattle.std.specs.Prelude.{filter, ◌&&◌, nat_le, nat_lt}
use Rattle.std.specs.List.{AllZip}
use Rattle.std.proofs.lemmas.Bool.{and_parts, leb-true}
use Rattle.std.proofs.lemmas.List.{append-nil, length-append}
use Rattle.std.proofs.lemmas.List.Elements.{filter-append}
use Rattle.std.proofs.lemmas.List.Sums.{sum_by-cons}
use Rattle.labels.specs.Labels.{Labels}
use Rattle.labels.specs.LabelSets.{IsMadeOf}
use Rattle.labels.specs.Rows.{Row}
use Rattle.std.proofs.Common.{Ok, take, get_or}
use Rattle.remote_write.specs.Format.{SampleValue, SeriesValue}
use Rattle.remote_write.specs.Reading.{label_seen, sample_seen, series_seen}
use Rattle.remote_write.specs.declared.label.Label.{Label}
use Rattle.remote_write.specs.declared.sample.Sample.{Sample}
use Rattle.remote_write.specs.declared.series.Series.{Series}
use Rattle.remote_requests.specs.declared.asked.Received.{Received}
use Rattle.remote_requests.specs.declared.left.Left.{Left}
use Rattle.remote_requests.specs.declared.left.LeftOut.{LeftOut}
use Rattle.remote_requests.specs.declared.left.LeftOut.TheVariants as reasons
use Rattle.remote_requests.specs.Left.{Adds, IsTally, times}
use Rattle.remote_requests.specs.Series.{time_refused, times_refused, kept_of, samples_refused}
use Rattle.remote_requests.specs.Series.{reason_before, series_refused, left_of, has_row}
use Rattle.remote_requests.specs.Series.{labels_refused, label_pairs, points_of, points_in, labels_in}
use Rattle.remote_requests.specs.Series.{are_few, IsSampleOf, IsRowOf, IsRowIn, IsLabelled}
use Rattle.remote_requests.specs.Writing.{IsReceived}
use Rattle.remote_requests.proofs.Lists.{zip_more, zip_length, map_turn, map_end}
use Rattle.remote_requests.proofs.Tallies.{adds_then, length-times}

-- labels that are none
pub no_row_by_labels : (now : ℤ) (s : SeriesValue) (why : LeftOut)
    → labels_refused (label_pairs s.labels) ≡ Some why → has_row now s ≡ false
no_row_by_labels now s why e = rw e refl

-- no sample that is kept
pub no_row_by_samples : (now : ℤ) (s : SeriesValue) (kept : List (ℤ × ℤ))
    → labels_refused (label_pairs s.labels) ≡ None
    → AllZip IsSampleOf (kept_of now s.samples) kept → length kept ≡ 0 → has_row now s ≡ false
no_row_by_samples now s kept e each none =
    let len : length (kept_of now s.samples) ≡ 0 =
    zip_length IsSampleOf (kept_of now s.samples) kept each ∙ none in
    rw (e, len) refl

pub row_of_both : (now : ℤ) (s : SeriesValue) (labels : Labels) (kept : List (ℤ × ℤ))
    → labels_refused (label_pairs s.labels) ≡ None → IsMadeOf labels (label_pairs s.labels)
    → AllZip IsSampleOf (kept_of now s.samples) kept → 0 < length kept
    → IsRowIn now s (Some (labels, kept))
row_of_both now s labels kept e made each some =
    let len : length (kept_of now s.samples) ≡ length kept =
    zip_length IsSampleOf (kept_of now s.samples) kept each in
    let enough : nat_lt 0 (length (kept_of now s.samples)) ≡ true =
    lt-ltb 0 (length (kept_of now s.samples)) (omega (arith, len, some)) in
    (rw (e, enough) refl, record { labels = made; samples = each })

-- the rows of series, and what is left out of them
pub record RowsSoFar (now : ℤ) (seen : List SeriesValue) (rows : List Row) (old new : Left)
    : Type 0 where
  pub each : AllZip (IsRowOf now) (filter (has_row now) seen) rows
  pub left : Adds old new (left_of now seen)

left-append : (now : ℤ) (xs : List SeriesValue) (s : SeriesValue)
    → left_of now (xs ++ s ∷ []) ≡ left_of now xs ++ series_refused now s
left-append now [] s = append-nil (series_refused now s)
left-append now (x ∷ xs) s =
    ap (λ (more : List LeftOut). series_refused now x ++ more) (left-append now xs s)
    ∙ sym (append_assoc (series_refused now x) (left_of now xs) (series_refused now s))

left_more : (now : ℤ) (seen : List SeriesValue) (rows : List Row) (old mid new : Left)
    (s : SeriesValue) → RowsSoFar now seen rows old mid → Adds mid new (series_refused now s)
    → Adds old new (left_of now (seen ++ s ∷ []))
left_more now seen rows old mid new s so_far is =
    subst (Adds old new) (sym (left-append now seen s)) (adds_then old mid new (left_of now seen)
    (series_refused now s) so_far.left is)

pub one_row : (now : ℤ) (seen : List SeriesValue) (rows : List Row) (old mid new : Left)
    (s : SeriesValue) (row : Row) → RowsSoFar now seen rows old mid
    → IsRowIn now s (Some row) → Adds mid new (series_refused now s)
    → RowsSoFar now (seen ++ s ∷ []) (rows ++ row ∷ []) old new
one_row now seen rows old mid new s row so_far is left = record {
  each =
      let one : filter (has_row now) (s ∷ []) ≡ s ∷ [] = rw (is.0) refl in
      rw (filter-append (has_row now) seen (s ∷ []), one) (zip_more (IsRowOf now)
      (filter (has_row now) seen) rows s row so_far.each is.1);
  left = left_more now seen rows old mid new s so_far left;
}

pub no_row : (now : ℤ) (seen : List SeriesValue) (rows : List Row) (old mid new : Left)
    (s : SeriesValue) → RowsSoFar now seen rows old mid → IsRowIn now s None
    → Adds mid new (series_refused now s) → RowsSoFar now (seen ++ s ∷ []) rows old new
no_row now seen rows old mid new s so_far is left = record {
  each =
      let none : filter (has_row now) (s ∷ []) ≡ [] = rw is refl in
      rw (
        filter-append (has_row now) seen (s ∷ []),
        none,
        append-nil
            (filter (has_row now) seen),
      ) so_far.each;
  left = left_more now seen rows old mid new s so_far left;
}

-- no more are left out than there are
reason-length : (why : Option LeftOut) (more : List LeftOut)
    → length (reason_before why more) ≤ length more + 1
reason-length None more = omega arith
reason-length (Some why) more = omega arith

times-length : (now : ℤ) (xs : List SampleValue) → length (times_refused now xs) ≤ length xs
times-length now [] = omega arith
times-length now (x ∷ xs) =
    omega (arith, times-length now xs, reason-length (time_refused now x) (times_refused now xs))

samples-length : (now : ℤ) (why : Option LeftOut) (xs : List SampleValue)
    → length (samples_refused now why xs) ≤ length xs
samples-length now None xs = times-length now xs
samples-length now (Some why) xs = omega (arith, length-times (length xs) why)

series-length : (now : ℤ) (s : SeriesValue) → length (series_refused now s) ≤ points_of s
series-length now s =
    let reason = labels_refused (label_pairs s.labels) in
    let samples = samples-length now (labels_refused (label_pairs s.labels)) s.samples in
    let histograms = length-times s.histograms reasons.Histogram in
    let both = length-append (samples_refused now (labels_refused (label_pairs s.labels))
    s.samples) (times s.histograms reasons.Histogram) in
    omega (arith, samples, histograms, both)

left-length : (now : ℤ) (all : List SeriesValue) → length (left_of now all) ≤ points_in all
left-length now [] = omega arith
left-length now (s ∷ all) =
    let here = series-length now s in
    let more = left-length now all in
    let both = length-append (series_refused now s) (left_of now all) in
    let sum = sum_by-cons points_of s all in
    omega (arith, here, more, both, sum)

-- the tally at the end
pub told : (now : ℤ) (all : List SeriesValue) (old new : Left) → are_few all ≡ true
    → IsTally old [] → Adds old new (left_of now all) → IsTally new (left_of now all)
told now all old new few none left =
    let parts = and_parts (nat_le (length all) 65536 && nat_le (points_in all) 65536)
    (nat_le (labels_in all) 1048576) few in
    let points = and_parts (nat_le (length all) 65536) (nat_le (points_in all) 65536) parts.0 in
    let most : points_in all ≤ 65536 = leb-true (points_in all) 65536 points.1 in
    left [] (omega (arith, most, left-length now all)) none

pub row_none : (a now : ℤ) (s : Series) (ls : List Label) (ss : List Sample) (labels : Labels)
    (kept : List (ℤ × ℤ)) → a ≡ now → ls ≡ s.labels.items → ss ≡ s.samples.items
    → IsLabelled (label_pairs (map label_seen ls)) (Ok labels)
    → AllZip IsSampleOf (kept_of a (map sample_seen ss)) kept → length kept ≡ 0
    → has_row now (series_seen s) ≡ false
row_none a now s ls ss labels kept same same_labels same_samples labelled each none =
    let set = subst (λ (l : List Label). IsLabelled (label_pairs (map label_seen l)) (Ok labels))
    same_labels labelled in
    let here = subst (λ (z : ℤ). AllZip IsSampleOf (kept_of z (map sample_seen ss)) kept) same each
    in
    let all = subst (λ (l : List Sample). AllZip IsSampleOf (kept_of now (map sample_seen l)) kept)
    same_samples here in
    no_row_by_samples now (series_seen s) kept set.0 all none

pub row_some : (a now : ℤ) (s : Series) (ls : List Label) (ss : List Sample) (labels : Labels)
    (kept : List (ℤ × ℤ)) (row : Row) → a ≡ now → ls ≡ s.labels.items → ss ≡ s.samples.items
    → IsLabelled (label_pairs (map label_seen ls)) (Ok labels)
    → AllZip IsSampleOf (kept_of a (map sample_seen ss)) kept → 0 < length kept
    → row ≡ (labels, kept) → IsRowIn now (series_seen s) (Some row)
row_some a now s ls ss labels kept row same same_labels same_samples labelled each some is =
    let set = subst (λ (l : List Label). IsLabelled (label_pairs (map label_seen l)) (Ok labels))
    same_labels labelled in
    let here = subst (λ (z : ℤ). AllZip IsSampleOf (kept_of z (map sample_seen ss)) kept) same each
    in
    let all = subst (λ (l : List Sample). AllZip IsSampleOf (kept_of now (map sample_seen l)) kept)
    same_samples here in
    subst (λ (r : Row). IsRowIn now (series_seen s) (Some r)) (sym is)
    (row_of_both now (series_seen s) labels kept set.0 set.1 all some)

pub row_left : (a now : ℤ) (s : SeriesValue) (old mid new : Left) → a ≡ now
    → Adds old mid (samples_refused a (labels_refused (label_pairs s.labels)) s.samples)
    → Adds mid new (times s.histograms reasons.Histogram) → Adds old new (series_refused now s)
row_left a now s old mid new same samples histograms =
    let here = subst (λ (z : ℤ). Adds old mid (samples_refused z
    (labels_refused (label_pairs s.labels)) s.samples)) same samples in
    adds_then old mid new (samples_refused now (labels_refused (label_pairs s.labels)) s.samples)
    (times s.histograms reasons.Histogram) here histograms

pub some_turn : (now : ℤ) (xs : List Series) (i : ℕ) (x d : Series) (rows next : List Row)
    (old mid new : Left) (o : Option Row) (row : Row) → i < length xs → x ≡ get_or xs i d
    → RowsSoFar now (map series_seen (take i xs)) rows old mid → IsRowIn now (series_seen x) o
    → o ≡ Some row → next ≡ rows ++ row ∷ []
    → Adds mid new (series_refused now (series_seen x))
    → RowsSoFar now (map series_seen (take (i + 1) xs)) next old new
some_turn now xs i x d rows next old mid new o row lt at so_far is some e left =
    rw (map_turn series_seen xs i x d lt at, e) (one_row now (map series_seen (take i xs)) rows old
    mid new (series_seen x) row so_far
    (subst (λ (r : Option Row). IsRowIn now (series_seen x) r) some is) left)

pub none_turn : (now : ℤ) (xs : List Series) (i : ℕ) (x d : Series) (rows next : List Row)
    (old mid new : Left) (o : Option Row) → i < length xs → x ≡ get_or xs i d
    → RowsSoFar now (map series_seen (take i xs)) rows old mid → IsRowIn now (series_seen x) o
    → o ≡ None → next ≡ rows → Adds mid new (series_refused now (series_seen x))
    → RowsSoFar now (map series_seen (take (i + 1) xs)) next old new
none_turn now xs i x d rows next old mid new o lt at so_far is none e left =
    rw (map_turn series_seen xs i x d lt at, e) (no_row now (map series_seen (take i xs)) rows old
    mid new (series_seen x) so_far
    (subst (λ (r : Option Row). IsRowIn now (series_seen x) r) none is) left)

pub all_received : (a now : ℤ) (xs : List Series) (i : ℕ) (received : Received) (none : Left)
    → a ≡ now → length xs ≤ i → are_few (map series_seen xs) ≡ true
    → received.of ≡ points_in (map series_seen xs) → IsTally none []
    → RowsSoFar a (map series_seen (take i xs)) received.rows.items none received.left
    → IsReceived now (map series_seen xs) received
all_received a now xs i received none same end few of nothing so_far =
    let all = subst (λ (seen : List SeriesValue). RowsSoFar a seen received.rows.items none
    received.left) (map_end series_seen xs i end) so_far in
    let here = subst (λ (z : ℤ). RowsSoFar z (map series_seen xs) received.rows.items none
    received.left) same all in
    record {
      rows = here.each;
      left = told now (map series_seen xs) none received.left few nothing here.left;
      of = of;
    }
