-- Counts of one series more, and whether they are few.
use Rattle.std.proofs.Common.{◌≡◌, ◌<◌, ◌≤◌, ◌+◌, ◌-◌, ◌^◌, ℕ, List, [], ◌∷◌, ◌++◌, length, true}
use Rattle.std.proofs.Common.{false, Bool, sym, ap, ◌∙◌, refl, arith, Result, Ok, Err}
use Rattle.std.specs.Prelude.{◌&&◌, nat_le, min}
use Rattle.std.proofs.lemmas.Bool.{and_parts, leb-true}
use Rattle.std.proofs.lemmas.Bool.Decides.{nat_tests}
use Rattle.std.proofs.lemmas.List.{length-append}
use Rattle.std.proofs.lemmas.List.Sums.{sum_by_push}
use Rattle.protobuf_fields.specs.Reading as fields
use Rattle.remote_write.specs.Format.{SeriesValue}
use Rattle.remote_write.specs.Reading.{is_memory, or_error, request_at, request_from}
use Rattle.remote_write.specs.declared.error.ReadError as write_errors
use Rattle.remote_write.specs.declared.error.ReadError.TheVariants as write_error
use Rattle.wire.specs.Outcome.{◌>>=◌, Fails}
use Rattle.remote_requests.specs.declared.asked.ReadError.{ReadError}
use Rattle.remote_requests.specs.declared.asked.ReadError.TheVariants.{Closed, Lost, Memory}
use Rattle.remote_requests.specs.declared.asked.ReadError.TheVariants.{Refused}
use Rattle.remote_requests.specs.declared.body.Counts.{Counts}
use Rattle.remote_requests.specs.declared.refusal.Refusal.{Refusal}
use Rattle.remote_requests.specs.declared.refusal.Refusal.TheVariants.{TooMany}
use Rattle.remote_requests.specs.Counts.{AreCounts, has_few, counted_in}
use Rattle.remote_requests.specs.Series.{are_few, points_in, points_of, labels_in}
use Rattle.remote_requests.specs.Writing.{IsTold, misspelled, spelled, if_few, series_in}
use Rattle.remote_requests.specs.Writing.{points_at}

sat_more : (n have more : ℕ) → have ≡ min n (2 ^ 64 - 1)
    → min (have + more) (2 ^ 64 - 1) ≡ min (n + more) (2 ^ 64 - 1)
sat_more n have more e = omega (arith, e)

sat_both : (n have more : ℕ) → have ≡ min n (2 ^ 64 - 1)
    → min (have + min more (2 ^ 64 - 1)) (2 ^ 64 - 1) ≡ min (n + more) (2 ^ 64 - 1)
sat_both n have more e = omega (arith, e)

pub counts_more : (old new : Counts) (front : List SeriesValue) (s : SeriesValue)
    → AreCounts old front
    → new.series ≡ min (old.series + 1) (2 ^ 64 - 1)
    → new.points ≡ min (old.points + min (points_of s) (2 ^ 64 - 1)) (2 ^ 64 - 1)
    → new.labels ≡ min (old.labels + length s.labels) (2 ^ 64 - 1)
    → AreCounts new (front ++ s ∷ [])
counts_more old new front s so_far series points labels = record {
  series =
      series ∙ sat_more (length front) old.series 1 so_far.series
      ∙ ap counted_in (sym (length-append front (s ∷ [])));
  points =
      points ∙ sat_both (points_in front) old.points (points_of s) so_far.points
      ∙ ap counted_in (sym (sum_by_push points_of front s));
  labels =
      labels ∙ sat_more (labels_in front) old.labels (length s.labels) so_far.labels
      ∙ ap counted_in (sym (sum_by_push (λ (x : SeriesValue). length x.labels) front s));
}

same_le : (n have most : ℕ) → most < 2 ^ 64 - 1 → have ≡ min n (2 ^ 64 - 1)
    → nat_le have most ≡ nat_le n most
same_le n have most small e = grind (arith, nat_tests)

pub same_few : (counts : Counts) (all : List SeriesValue) → AreCounts counts all
    → has_few counts ≡ are_few all
same_few counts all is =
    rw (
      same_le (length all) counts.series 65536 (omega arith) is.series,
      same_le (points_in all) counts.points 65536 (omega arith) is.points,
      same_le (labels_in all) counts.labels 1048576 (omega arith) is.labels,
    ) refl

-- few counts are exact
few_exact : (n have : ℕ) → nat_le have 65536 ≡ true → have ≡ min n (2 ^ 64 - 1) → have ≡ n
few_exact n have few e =
    let le : have ≤ 65536 = leb-true have 65536 few in omega (arith, le, e)

pub points_ok : (text : List ℕ) (all : List SeriesValue) (counts : Counts)
    → request_at text ≡ Ok all → AreCounts counts all → has_few counts ≡ true
    → points_at text ≡ Ok counts.points
unfolding points_at series_in if_few
points_ok text all counts read is few =
    let parts = and_parts (nat_le counts.series 65536 && nat_le counts.points 65536)
    (nat_le counts.labels 1048576) few in
    let points = and_parts (nat_le counts.series 65536) (nat_le counts.points 65536) parts.0 in
    let exact : counts.points ≡ points_in all =
    few_exact (points_in all) counts.points points.1 is.points in
    let fits : are_few all ≡ true = sym (same_few counts all is) ∙ few in
    rw (read, fits) (ap Ok (sym exact))

pub points_many : (text : List ℕ) (all : List SeriesValue) (counts : Counts)
    → request_at text ≡ Ok all → AreCounts counts all → has_few counts ≡ false
    → points_at text ≡ Err TooMany
unfolding points_at series_in if_few
points_many text all counts read is many =
    let not_few : are_few all ≡ false = sym (same_few counts all is) ∙ many in
    rw (read, not_few) refl

pub told_past : {A B : Type 0} (e : ReadError) (read : Result A Refusal) (f : A → Result B Refusal)
    → IsTold e read → IsTold e (read >>= f)
told_past Closed read f p = p
told_past Lost read f p = p
told_past Memory read f p = p
told_past (Refused r) read f p = rw p refl

pub points_told : (text : List ℕ) (e : ReadError) → IsTold e (spelled (request_at text))
    → IsTold e (points_at text)
unfolding points_at series_in
points_told text e p =
    told_past e (spelled (request_at text) >>= if_few) (λ all. Ok (points_in all))
    (told_past e (spelled (request_at text)) if_few p)

-- the points of a text are those of its series, which are few
points_at_all : (all : List SeriesValue) (n : ℕ) (b : Bool) → are_few all ≡ b
    → (if_few all >>= λ found. Ok (points_in found)) ≡ Ok n
    → (are_few all ≡ true) × (n ≡ points_in all)
unfolding if_few
points_at_all all n true e read =
    let same : Ok (points_in all) ≡ Ok n = rw e at read in (e, cc)
points_at_all all n false e read =
    let never : Err TooMany ≡ Ok n = rw e at read in absurd (cc)

pub points_back : (text : List ℕ) (all : List SeriesValue) (n : ℕ) → request_at text ≡ Ok all
    → points_at text ≡ Ok n → (are_few all ≡ true) × (n ≡ points_in all)
unfolding points_at series_in
points_back text all n read points =
    points_at_all all n (are_few all) refl (rw read at points)

-- what is told of the points is told of the series
series_of_points : (e : ReadError) (read : Result (List SeriesValue) Refusal)
    → IsTold e (read >>= λ all. Ok (points_in all)) → IsTold e read
series_of_points Closed read p = p
series_of_points Lost read p = p
series_of_points Memory read p = p
series_of_points (Refused r) (Ok all) p = absurd (cc)
series_of_points (Refused r) (Err x) p = let same : x ≡ r = cc in ap Err same

pub series_told : (text : List ℕ) (e : ReadError) → IsTold e (points_at text)
    → IsTold e (series_in text)
unfolding points_at
series_told text e p = series_of_points e (series_in text) p

-- a fault of a message as it is told
pub told_fault : {A : Type 0} (e : write_errors.ReadError) (read : Result A fields.Refusal)
    → Fails is_memory e (or_error read) → IsTold (misspelled e) (spelled read)
told_fault write_error.Memory read p = tt
told_fault (write_error.Fault fault left) (Ok x) p = absurd (cc)
told_fault (write_error.Fault fault left) (Err r) p =
    let here : r.0 ≡ fault = cc in rw here refl

pub from_nothing : (text : List ℕ) → request_at text ≡ request_from [] text
unfolding request_at
from_nothing text = refl
