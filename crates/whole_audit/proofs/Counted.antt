-- Samples counted one series after another.
use Rattle.std.proofs.Common.{◌≡◌, ℕ, ◌+◌, ◌<◌, Bool, true, false, cond, ◌&&◌, List, [], ◌∷◌, length, drop, get_or, refl, ◌∙◌, ap, arith, length-append}
use Rattle.std.specs.Prelude.{ℤ}
use Rattle.std.specs.List.{filter}
use Rattle.labels.specs.Labels.{Labels}
use Rattle.labels.specs.Contents.{in_range}
use Rattle.labels.specs.Rows.{Row, points_in, points_of}
use Rattle.labels.specs.Parts.{Part}
use Rattle.labels.proofs.ContentLaws.{length-points_in}
use Rattle.matchers.specs.Satisfies.{satisfies_all}
use Rattle.matchers.specs.Views.{QueryView}
use Rattle.reply_reader.proofs.Neighbours.{from_read}
use Rattle.whole_audit.specs.Counting.{asked_of, asked_points}
use Rattle.whole_audit.proofs.Added.{Entry, points_of_row, whole_length}

none_pass : (ss : List (ℤ × ℤ)) → length (filter (λ (s : ℤ × ℤ). false) ss) ≡ 0
none_pass [] = refl
none_pass (s ∷ ss) = none_pass ss

-- the samples of a label set that are asked for
asked_length : (query : QueryView) (l : Labels) (ss : List (ℤ × ℤ)) (b : Bool)
    → satisfies_all query.matchers l ≡ b → length (points_of_row query l ss)
    ≡ cond b (length (filter (λ (s : ℤ × ℤ). in_range query.from query.to s.0) ss)) 0
asked_length query l ss b e =
    length-points_in l (asked_of query l ss)
    ∙ ap (λ (b : Bool). length (filter (λ (s : ℤ × ℤ). b && in_range query.from query.to s.0) ss)) e
    ∙ go b
  where
    go : (b : Bool) → length (filter (λ (s : ℤ × ℤ). b && in_range query.from query.to s.0) ss)
        ≡ cond b (length (filter (λ (s : ℤ × ℤ). in_range query.from query.to s.0) ss)) 0
    go true = refl
    go false = none_pass ss

-- one series more is counted
pub asked_step : (query : QueryView) (rows : Part) (i : ℕ) (row : Entry) (count : ℕ) (b : Bool)
    (whole : ℕ) → i < length rows → row ≡ get_or rows i row
    → satisfies_all query.matchers row.1.0 ≡ b
    → count + length (asked_points query (drop i rows)) ≡ whole
    → (count + cond b (length (filter (λ (s : ℤ × ℤ). in_range query.from query.to s.0) row.1.1)) 0)
    + length (asked_points query (drop (i + 1) rows)) ≡ whole
asked_step query rows i row count b whole l read sat so_far =
    let first = asked_length query row.1.0 row.1.1 b sat in
    let next : length (asked_points query (drop i rows))
    ≡ length (points_of_row query row.1.0 row.1.1) + length (asked_points query (drop (i + 1) rows)) =
    ap (λ (p : Part). length (asked_points query p)) (from_read rows i row l read)
    ∙ whole_length query row (drop (i + 1) rows) in
    omega (arith, first, next, so_far)

pub listed_step : (rows : List Row) (i : ℕ) (row : Row) (count whole : ℕ) → i < length rows
    → row ≡ get_or rows i row → count + length (points_of (drop i rows)) ≡ whole
    → (count + length row.1) + length (points_of (drop (i + 1) rows)) ≡ whole
listed_step rows i row count whole l read so_far =
    let next : length (points_of (drop i rows))
    ≡ length (points_in row.0 row.1) + length (points_of (drop (i + 1) rows)) =
    ap (λ (p : List Row). length (points_of p)) (from_read rows i row l read)
    ∙ length-append (points_in row.0 row.1) (points_of (drop (i + 1) rows)) in
    omega (arith, length-points_in row.0 row.1, next, so_far)

pub counted_then : (query : QueryView) (rows : Part) (i : ℕ) (row : Entry) (count n next : ℕ)
    (looks : QueryView) (whole : ℕ) → i < length rows → row ≡ get_or rows i row
    → satisfies_all query.matchers row.1.0 ≡ true → looks ≡ query
    → n ≡ length (filter (λ (s : ℤ × ℤ). in_range looks.from looks.to s.0) row.1.1)
    → next ≡ count + n
    → count + length (asked_points query (drop i rows)) ≡ whole
    → next + length (asked_points query (drop (i + 1) rows)) ≡ whole
counted_then query rows i row count n next looks whole l read sat same_query is grown so_far =
    let same : n ≡ length (filter (λ (s : ℤ × ℤ). in_range query.from query.to s.0) row.1.1) =
    is ∙ ap (λ (q : QueryView). length (filter (λ (s : ℤ × ℤ). in_range q.from q.to s.0) row.1.1))
    same_query in
    let step = asked_step query rows i row count true whole l read sat so_far in
    omega (arith, same, step, grown)

pub counted_else : (query : QueryView) (rows : Part) (i : ℕ) (row : Entry) (count next : ℕ)
    (whole : ℕ) → i < length rows → row ≡ get_or rows i row
    → satisfies_all query.matchers row.1.0 ≡ false → next ≡ count
    → count + length (asked_points query (drop i rows)) ≡ whole
    → next + length (asked_points query (drop (i + 1) rows)) ≡ whole
counted_else query rows i row count next whole l read sat same so_far =
    let step = asked_step query rows i row count false whole l read sat so_far in
    omega (arith, same, step)
