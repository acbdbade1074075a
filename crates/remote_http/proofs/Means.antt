-- What bytes that ask something ask: it can be done, and is admitted.
use Rattle.std.proofs.Common.{◌≡◌, ◌≤◌, ◌+◌, ◌&&◌, ℕ, ℤ, Bool, true, false, List, [], ◌∷◌, length, take, cond, refl, ap, sym, subst, ◌∙◌, arith, length-append, inl, inr, Result, Ok, Err}
use Rattle.std.specs.Prelude.{IsTrue, nat_le, filter, int_lt, ◌+ℤ◌}
use Rattle.std.specs.List.{AllZip, list_all}
use Rattle.std.proofs.lemmas.Bool.Decides.{nat_tests}
use Rattle.std.proofs.lemmas.List.Folds.{list_all-map}
use Rattle.std.proofs.lemmas.List.Sums.{sum_by-cons}
use Rattle.std.proofs.lemmas.Slice.Zip.{AllZip-long}
use Rattle.httparse.specs.Grammar.{RequestHead}
use Rattle.httparse.proofs.GrammarLemmas.{request_unique}
use Rattle.guard.specs.declared.rules.Rules.{Rules}
use Rattle.labels.specs.Contents.{is_time}
use Rattle.labels.specs.Rows.{Row}
use Rattle.head.specs.BatchRows.{batch_of_rows, pairs_with}
use Rattle.remote_write.specs.Format.{SampleValue, SeriesValue}
use Rattle.remote_requests.specs.declared.asked.Asked.{Asked}
use Rattle.remote_requests.specs.declared.asked.Asked.TheVariants.{Write, Read, BuildInfo}
use Rattle.remote_requests.specs.declared.asked.Asked.TheVariants.{List as ListAsked}
use Rattle.remote_requests.specs.declared.asked.Asked.TheVariants.{Home, Page}
use Rattle.remote_requests.specs.declared.asked.Received.{Received}
use Rattle.remote_requests.specs.declared.path.Path.{Path}
use Rattle.remote_requests.specs.declared.path.Path.TheVariants as paths
use Rattle.remote_requests.specs.declared.refusal.Refusal.{Refusal}
use Rattle.remote_requests.specs.declared.refusal.Refusal.TheVariants as refusals
use Rattle.remote_requests.specs.Asking.{ListingMeans, SelectorsMean, WantedMeans}
use Rattle.remote_requests.specs.Paging.{PageMeans}
use Rattle.remote_requests.specs.Parameters.{Wanted, wanted_of}
use Rattle.remote_requests.specs.Admitting.{admission, refusal_of, refused_by}
use Rattle.remote_requests.specs.Meaning.{AdmittedMeans, BodyMeans, FormMeans, MeansUnder, PathMeans, PostMeans}
use Rattle.remote_requests.specs.Series.{are_few, day, has_row, is_kept, IsRowOf, IsSampleOf, kept_of, labels_in, points_in, points_of}
use Rattle.remote_requests.specs.Writing.{IsReceived, Meaning, WriteMeans}
use Rattle.remote_requests.specs.Reading.{ReadMeans}
use Rattle.remote_http.specs.Cutting.{are_timed, IsFew}
use Rattle.remote_http.specs.Fitting.{IsFit}
use Rattle.remote_http.specs.Serving.{IsBarred}
use Rattle.remote_http.proofs.Fillings.{timed_both, length-pairs}

ok_of : Asked → Meaning
ok_of asked = Ok asked

no_refusal : (asked : Asked) (refusal : Refusal) → ok_of asked ≡ Err refusal → ⊥
unfolding ok_of
no_refusal asked refusal e = cc

-- samples that are kept are at times
in_time : (now : ℤ) (s : SampleValue) (a b : Bool) → is_time s.time ≡ a → int_lt (now +ℤ day) s.time ≡ b → is_kept now s ≡ true
    → is_time s.time ≡ true
in_time now s true b e f h = e
in_time now s false b e f h = let no : false ≡ true = rw e at h in cc

one_in_time : (now : ℤ) (s : SampleValue) (samples : List SampleValue) (b : Bool) → is_kept now s ≡ b
    → ((kept : List (ℤ × ℤ)) → AllZip IsSampleOf (kept_of now samples) kept → IsTrue (list_all (λ (s : ℤ × ℤ). is_time s.0) kept))
    → (kept : List (ℤ × ℤ)) → AllZip IsSampleOf (cond b (s ∷ kept_of now samples) (kept_of now samples)) kept
    → IsTrue (list_all (λ (s : ℤ × ℤ). is_time s.0) kept)
one_in_time now s samples false e more kept z = more kept z
one_in_time now s samples true e more [] z = absurd z
one_in_time now s samples true e more (k ∷ kept) z =
    let at : is_time k.0 ≡ true =
    ap is_time z.0.time ∙ in_time now s (is_time s.time) (int_lt (now +ℤ day) s.time) refl refl e in
    ap (λ (b : Bool). b && list_all (λ (s : ℤ × ℤ). is_time s.0) kept) at ∙ more kept z.1

kept_in_time : (now : ℤ) (samples : List SampleValue) (kept : List (ℤ × ℤ)) → AllZip IsSampleOf (kept_of now samples) kept
    → IsTrue (list_all (λ (s : ℤ × ℤ). is_time s.0) kept)
kept_in_time now [] [] z = refl
kept_in_time now [] (k ∷ kept) z = absurd z
kept_in_time now (s ∷ samples) kept z =
    one_in_time now s samples (is_kept now s) refl (λ those y. kept_in_time now samples those y) kept z

pairs_in_time : (row : Row) → IsTrue (list_all (λ (s : ℤ × ℤ). is_time s.0) row.1) → IsTrue (are_timed (pairs_with row.0 row.1))
pairs_in_time row h = list_all-map _ _ row.1 ∙ h

rows_in_time : (now : ℤ) (all : List SeriesValue) (rows : List Row) → AllZip (IsRowOf now) all rows
    → IsTrue (are_timed (batch_of_rows rows))
rows_in_time now [] [] z = refl
rows_in_time now [] (r ∷ rows) z = absurd z
rows_in_time now (s ∷ all) [] z = absurd z
rows_in_time now (s ∷ all) (r ∷ rows) z =
    timed_both (pairs_with r.0 r.1) (batch_of_rows rows)
    (pairs_in_time r (kept_in_time now s.samples r.1 z.0.samples))
    (rows_in_time now all rows z.1)

length-kept : (p : SampleValue → Bool) (samples : List SampleValue) → length (filter p samples) ≤ length samples
length-kept p [] = omega arith
length-kept p (s ∷ samples) = go (p s) (length-kept p samples)
  where
    go : (b : Bool) → length (filter p samples) ≤ length samples
        → length (cond b (s ∷ filter p samples) (filter p samples)) ≤ length (s ∷ samples)
    go true h = omega arith
    go false h = omega arith

rows_few : (now : ℤ) (all : List SeriesValue) (rows : List Row) → AllZip (IsRowOf now) all rows
    → length (batch_of_rows rows) ≤ points_in all
rows_few now [] [] z = omega arith
rows_few now [] (r ∷ rows) z = absurd z
rows_few now (s ∷ all) [] z = absurd z
rows_few now (s ∷ all) (r ∷ rows) z =
    let rest = rows_few now all rows z.1 in
    let long : length r.1 ≡ length (kept_of now s.samples) = AllZip-long IsSampleOf (kept_of now s.samples) r.1 z.0.samples in
    let kept : length (kept_of now s.samples) ≤ length s.samples = length-kept (is_kept now) s.samples in
    let a : length (batch_of_rows (r ∷ rows)) ≡ length (pairs_with r.0 r.1) + length (batch_of_rows rows) =
    length-append (pairs_with r.0 r.1) (batch_of_rows rows) in
    let b = length-pairs r.0 r.1 in
    let p : points_in (s ∷ all) ≡ points_of s + points_in all = sum_by-cons points_of s all in
    omega arith

points_fewer : (p : SeriesValue → Bool) (all : List SeriesValue) → points_in (filter p all) ≤ points_in all
points_fewer p [] = omega arith
points_fewer p (s ∷ all) = go (p s) (points_fewer p all)
  where
    go : (b : Bool) → points_in (filter p all) ≤ points_in all
        → points_in (cond b (s ∷ filter p all) (filter p all)) ≤ points_in (s ∷ all)
    go true h =
        let e = sum_by-cons points_of s (filter p all) in
        let f = sum_by-cons points_of s all in
        omega arith
    go false h =
        let f = sum_by-cons points_of s all in
        omega arith

not_more : (x y z : ℕ) → (nat_le x 65536 && nat_le y 65536 && nat_le z 1048576) ≡ true → y ≤ 65536
not_more x y z h = grind (arith, nat_tests)

received_fits : (now : ℤ) (all : List SeriesValue) (received : Received) → are_few all ≡ true
    → IsReceived now all received → IsFew (batch_of_rows received.rows.items)
received_fits now all received few r =
    let rows = rows_few now (filter (has_row now) all) received.rows.items r.rows in
    let points = points_fewer (has_row now) all in
    let all_few = not_more (length all) (points_in all) (labels_in all) few in
    record { timed = rows_in_time now (filter (has_row now) all) received.rows.items r.rows; few = omega arith }

write_fits : (now : ℤ) (body : List ℕ) (asked : Asked) → WriteMeans now body (Ok asked) → IsFit asked
write_fits now body (Write received) m = received_fits now m.0 received m.1.few m.2
write_fits now body (Read readings) m = absurd m
write_fits now body BuildInfo m = absurd m
write_fits now body (ListAsked listing) m = absurd m
write_fits now body Home m = absurd m
write_fits now body (Page question) m = absurd m

read_fits : (body : List ℕ) (asked : Asked) → ReadMeans body (Ok asked) → IsFit asked
read_fits body (Write received) m = absurd m
read_fits body (Read readings) m = tt
read_fits body BuildInfo m = absurd m
read_fits body (ListAsked listing) m = absurd m
read_fits body Home m = absurd m
read_fits body (Page question) m = absurd m

build_fits : (asked : Asked) → ok_of asked ≡ ok_of BuildInfo → IsFit asked
unfolding ok_of
build_fits (Write received) e = absurd (cc)
build_fits (Read readings) e = tt
build_fits BuildInfo e = tt
build_fits (ListAsked listing) e = tt
build_fits Home e = tt
build_fits (Page question) e = tt

home_fits : (asked : Asked) → ok_of asked ≡ ok_of Home → IsFit asked
unfolding ok_of
home_fits (Write received) e = absurd (cc)
home_fits (Read readings) e = tt
home_fits BuildInfo e = tt
home_fits (ListAsked listing) e = tt
home_fits Home e = tt
home_fits (Page question) e = tt

page_fits : (target : List ℕ) (asked : Asked) → PageMeans target (Ok asked) → IsFit asked
page_fits target (Write received) m = absurd m
page_fits target (Read readings) m = tt
page_fits target BuildInfo m = tt
page_fits target (ListAsked listing) m = tt
page_fits target Home m = tt
page_fits target (Page question) m = tt

wanted_fits : (wanted : Result Wanted Refusal) (pairs : List (List ℕ × List ℕ)) (asked : Asked)
    → WantedMeans wanted pairs (Ok asked) → IsFit asked
unfolding ok_of
wanted_fits (Err refusal) pairs asked m = absurd (no_refusal asked refusal m)
wanted_fits (Ok wanted) pairs (Write received) m = absurd m
wanted_fits (Ok wanted) pairs (Read readings) m = absurd m
wanted_fits (Ok wanted) pairs BuildInfo m = absurd m
wanted_fits (Ok wanted) pairs (ListAsked listing) m = tt
wanted_fits (Ok wanted) pairs Home m = absurd m
wanted_fits (Ok wanted) pairs (Page question) m = absurd m

listing_fits : (path : Path) (target body : List ℕ) (asked : Asked)
    → ListingMeans path target body (Ok asked) → IsFit asked
listing_fits path target body asked m = wanted_fits (wanted_of path target) _ asked m

body_fits : (path : Path) (target : List ℕ) (now : ℤ) (body : List ℕ) (asked : Asked)
    → BodyMeans path target now body (Ok asked) → IsFit asked
unfolding ok_of
body_fits paths.Write target now body asked m = write_fits now body asked m
body_fits paths.Read target now body asked m = read_fits body asked m
body_fits paths.BuildInfo target now body asked m = build_fits asked m
body_fits paths.Labels target now body asked m = listing_fits paths.Labels target body asked m
body_fits paths.LabelsByForm target now body asked m = listing_fits paths.LabelsByForm target body asked m
body_fits paths.Values target now body asked m = listing_fits paths.Values target body asked m
body_fits paths.Series target now body asked m = listing_fits paths.Series target body asked m
body_fits paths.SeriesByForm target now body asked m = listing_fits paths.SeriesByForm target body asked m
body_fits paths.Home target now body asked m = home_fits asked m
body_fits paths.Page target now body asked m = page_fits target asked m

form_fits : (form : Result (Unit {0}) Refusal) (path : Path) (target : List ℕ) (now : ℤ) (body : List ℕ)
    (asked : Asked) → FormMeans form path target now body (Ok asked) → IsFit asked
unfolding ok_of
form_fits (Err refusal) path target now body asked m = absurd (no_refusal asked refusal m)
form_fits (Ok fits) path target now body asked m = body_fits path target now body asked m

post_fits : (path : Path) (target : List ℕ) (size : Result ℕ Refusal) (form : Result (Unit {0}) Refusal) (now : ℤ)
    (rest : List ℕ) (asked : Asked) → PostMeans path target size form now rest (Ok asked) → IsFit asked
unfolding ok_of
post_fits path target (Err refusal) form now rest asked m = absurd (no_refusal asked refusal m)
post_fits path target (Ok n) form now rest asked (inl m) = absurd (no_refusal asked refusals.BadLength m.1)
post_fits path target (Ok n) form now rest asked (inr m) = form_fits form path target now (take n rest) asked m.1

path_fits : (path : Result Path Refusal) (target : List ℕ) (size : Result ℕ Refusal) (form : Result (Unit {0}) Refusal)
    (now : ℤ) (rest : List ℕ) (asked : Asked) → PathMeans path target size form now rest (Ok asked) → IsFit asked
unfolding ok_of
path_fits (Err refusal) target size form now rest asked m = absurd (no_refusal asked refusal m)
path_fits (Ok paths.BuildInfo) target size form now rest asked m = build_fits asked m
path_fits (Ok paths.Write) target size form now rest asked m = post_fits paths.Write target size form now rest asked m
path_fits (Ok paths.Read) target size form now rest asked m = post_fits paths.Read target size form now rest asked m
path_fits (Ok paths.Labels) target size form now rest asked m = listing_fits paths.Labels target [] asked m
path_fits (Ok paths.LabelsByForm) target size form now rest asked m =
    post_fits paths.LabelsByForm target size form now rest asked m
path_fits (Ok paths.Values) target size form now rest asked m = listing_fits paths.Values target [] asked m
path_fits (Ok paths.Series) target size form now rest asked m = listing_fits paths.Series target [] asked m
path_fits (Ok paths.SeriesByForm) target size form now rest asked m =
    post_fits paths.SeriesByForm target size form now rest asked m
path_fits (Ok paths.Home) target size form now rest asked m = home_fits asked m
path_fits (Ok paths.Page) target size form now rest asked m = page_fits target asked m

admitted_fits : (admitted : Result (Unit {0}) Refusal) (h : RequestHead) (now : ℤ) (rest : List ℕ) (asked : Asked)
    → AdmittedMeans admitted h now rest (Ok asked) → IsFit asked
unfolding ok_of
admitted_fits (Err refusal) h now rest asked m = absurd (no_refusal asked refusal m)
admitted_fits (Ok u) h now rest asked m = path_fits _ h.target _ _ now rest asked m

-- what is asked can be done
pub means_fit : (rules : Rules) (now : ℤ) (bytes : List ℕ) (asked : Asked) → MeansUnder rules now bytes (Ok asked)
    → IsFit asked
unfolding ok_of
means_fit rules now bytes asked (inl p) = admitted_fits (admission rules p.h) p.h now p.rest asked p.asks
means_fit rules now bytes asked (inr (inl q)) = absurd (no_refusal asked refusals.BadHead q.1)
means_fit rules now bytes asked (inr (inr q)) = absurd (no_refusal asked refusals.HeadTooLong q.1)

-- what the rules do not admit asks nothing
pub asks_nothing : (rules : Rules) (now : ℤ) (bytes : List ℕ) (asked : Asked) → IsBarred rules bytes
    → MeansUnder rules now bytes (Ok asked) → ⊥
unfolding ok_of
asks_nothing rules now bytes asked b (inl p) =
    let same = request_unique bytes b.h p.h b.rest p.rest b.reads p.reads in
    let is : admission rules p.h ≡ Err (refusal_of b.why) =
    ap (admission rules) (sym same.0) ∙ ap refused_by b.denied in
    no_refusal asked (refusal_of b.why)
    (subst (λ (r : Result (Unit {0}) Refusal). AdmittedMeans r p.h now p.rest (Ok asked)) is p.asks)
asks_nothing rules now bytes asked b (inr (inl q)) = no_refusal asked refusals.BadHead q.1
asks_nothing rules now bytes asked b (inr (inr q)) = no_refusal asked refusals.HeadTooLong q.1
