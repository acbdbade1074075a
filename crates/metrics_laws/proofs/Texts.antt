-- Texts that are written are read again.
use Rattle.std.proofs.Common.{◌≡◌, ℕ, ◌+◌, ◌<◌, ◌^◌, ℤ, true, false, eqb, List}
use Rattle.std.proofs.Common.{[], ◌∷◌, ◌++◌, length, refl, sym, ap, subst, ◌∙◌, inr, arith}
use Rattle.std.proofs.Common.{append_assoc, length-append}
use Rattle.std.specs.Prelude.{T, codes, unsigned_abs}
use Rattle.std.specs.List.{AllByRecursion, flat_map}
use Rattle.std.specs.Ordering.{is_lt, ordering_reverse}
use Rattle.std.specs.declared.cmp.Ordering.{Ordering}
use Rattle.std.specs.declared.cmp.Ordering.TheVariants.{Less, Equal, Greater}
use Rattle.std.specs.FinMap.Entries.{put, below_all, is_sorted}
use Rattle.std.proofs.lemmas.List.{append-nil, append_cancel_right}
use Rattle.std.proofs.lemmas.List.Elements.{All-from_recursion, recursion_from_All}
use Rattle.std.proofs.lemmas.List.Sorted.{All-permutation}
use Rattle.std.proofs.lemmas.List.Splits.{slice_split_at}
use Rattle.labels.specs.Contents.{Content, is_time}
use Rattle.labels.specs.Labels.{Point, point_cmp}
use Rattle.labels.specs.Rows.{Row, points_in, points_of}
use Rattle.labels.proofs.OrderLaws.{point_total}
use Rattle.labels.proofs.Times.{first_T, second_T}
use Rattle.metrics_writer.specs.Series.{series_text, fields_text, line_text, row_text}
use Rattle.metrics_writer.specs.Groups.{grouped}
use Rattle.metrics_writer.specs.Series.{rows_text}
use Rattle.metrics_writer.specs.Texts.{text_of}
use Rattle.metrics_writer.proofs.Grouping.{grouped_permuted}
use Rattle.open_metrics.specs.declared.comments.Format.TheVariants.{OpenMetrics}
use Rattle.open_metrics.specs.Lines.{sampled}
use Rattle.open_metrics.proofs.Whole.{line_again as read_again}
use Rattle.open_metrics.specs.declared.numbers.Value.TheVariants.{Parts}
use Rattle.exposition.specs.declared.text.Fractions.{Fractions}
use Rattle.exposition.specs.declared.text.Reading.TheVariants.{Decimals}
use Rattle.exposition.specs.Reading.{Said, AddAll, IsText, eof, lines_in, unsaid}
use Rattle.exposition.specs.Rows.{put_each}
use Rattle.exposition.proofs.Only.{same_said}
use Rattle.metrics_laws.specs.Read.{sample_of, IsWritten, IsWritable, said_of}
use Rattle.metrics_laws.proofs.Contents.{content_grouped, count_grouped}
use Rattle.metrics_laws.proofs.Bytes.{IsLine, both_lines, series_line, fields_line}
use Rattle.metrics_laws.proofs.Lines.{line_again}
use Rattle.metrics_laws.proofs.Pairs.{pairs_are, no_pairs_fault}

-- lines, each with its end
abbrev pub joined : List (List ℕ) → List ℕ
joined [] = []
joined (line ∷ lines) = line ++ 10 ∷ joined lines

abbrev pub AreLines : List (List ℕ) → Type 0
AreLines lines = AllByRecursion IsLine lines

pub joined_both : (xs ys : List (List ℕ)) → joined (xs ++ ys) ≡ joined xs ++ joined ys
joined_both [] ys = refl
joined_both (x ∷ xs) ys =
    ap (λ (r : List ℕ). x ++ 10 ∷ r) (joined_both xs ys)
    ∙ sym (append_assoc x (10 ∷ joined xs) (joined ys))

pub lines_both : (xs ys : List (List ℕ)) → AreLines xs → AreLines ys → AreLines (xs ++ ys)
lines_both [] ys a b = b
lines_both (x ∷ xs) ys a b = (a.0, lines_both xs ys a.1 b)

-- lines are found again
pub split_again : (lines : List (List ℕ)) (rest : List ℕ) → AreLines lines
    → lines_in (joined lines ++ rest) ≡ lines ++ lines_in rest
split_again [] rest are = refl
split_again (line ∷ lines) rest are =
    ap lines_in (append_assoc line (10 ∷ joined lines) rest)
    ∙ (slice_split_at (λ (c : ℕ). eqb c 10) line 10 (joined lines ++ rest)
    (All-from_recursion (λ (c : ℕ). eqb c 10 ≡ false) line are.0) refl
    ∙ ap (λ (ls : List (List ℕ)). line ∷ ls) (split_again lines rest are.1))

-- lines that add samples, whichever number the first has
record Added (places : ℕ) (f : Fractions) (text : List ℕ) (old new : Said) : Type 0 where
  lines : List (List ℕ)
  text_is : text ≡ joined lines
  are : AreLines lines
  adds : (n : ℕ) → AddAll OpenMetrics places (Decimals f) n lines old new

adds_both : (places : ℕ) (f : Fractions) (n : ℕ) (xs ys : List (List ℕ)) (a b c : Said)
    → AddAll OpenMetrics places (Decimals f) n xs a b → ((m : ℕ) → AddAll OpenMetrics places (Decimals f) m ys b c)
    → AddAll OpenMetrics places (Decimals f) n (xs ++ ys) a c
adds_both places f n [] ys a b c p q =
    subst (λ (x : Said). AddAll OpenMetrics places (Decimals f) n ys x c) p (q n)
adds_both places f n (x ∷ xs) ys a b c p q =
    (p.0, p.1, adds_both places f (n + 1) xs ys p.0 b c p.2 q)

added_both : (places : ℕ) (f : Fractions) (one two : List ℕ) (a b c : Said)
    → Added places f one a b → Added places f two b c → Added places f (one ++ two) a c
added_both places f one two a b c p q = record {
  lines = p.lines ++ q.lines;
  text_is =
      ap (λ (t : List ℕ). t ++ two) p.text_is
      ∙ (ap (λ (t : List ℕ). joined p.lines ++ t) q.text_is
      ∙ sym (joined_both p.lines q.lines));
  are = lines_both p.lines q.lines p.are q.are;
  adds = λ n. adds_both places f n p.lines q.lines a b c (p.adds n) q.adds;
}

added_none : (places : ℕ) (f : Fractions) (a : Said) → Added places f [] a a
added_none places f a = record { lines = []; text_is = refl; are = tt; adds = λ n. refl }

-- what was said before, and samples after it
abbrev with_points : Said → Content → Said
with_points old points = record {
  content = put_each old.content points;
  count = old.count + length points;
  others = old.others;
  rounded = old.rounded;
}

put_both : (c : Content) (xs ys : List (Point × ℤ))
    → put_each c (xs ++ ys) ≡ put_each (put_each c xs) ys
put_both c [] ys = refl
put_both c (x ∷ xs) ys = put_both (put point_cmp x.0 x.1 c) xs ys

points_both : (old : Said) (xs ys : Content)
    → with_points (with_points old xs) ys ≡ with_points old (xs ++ ys)
points_both old xs ys =
    same_said (with_points (with_points old xs) ys) (with_points old (xs ++ ys))
    (sym (put_both old.content xs ys)) (omega (arith, length-append xs ys)) refl refl

pub small_time : (t : ℤ) → is_time t ≡ true → unsigned_abs t < 2 ^ 63
small_time t h = grind arith

sample_added : (places : ℕ) (f : Fractions) (row : Row) (s : ℤ × ℤ) (old : Said)
    → IsWritable row → IsWritten s → Added places f (line_text places (series_text row.0) s) old
    (with_points old (((row.0, s.0), s.1) ∷ []))
unfolding line_text
sample_added places f row s old is written =
    let small = small_time s.0 written.time in
    let line = line_again places row.0 s is.label_set is.metric small written.value in
    let text = series_text row.0 ++ fields_text places s in
    let same : text ≡ line.0 = append_cancel_right text line.0 (10 ∷ []) line.1 in
    record {
      lines = line.0 ∷ [];
      text_is = line.1;
      are = (
        subst IsLine same
            (both_lines (series_text row.0) (fields_text places s)
            (series_line row.0 is.label_set is.metric) (fields_line places s small written.value)),
        tt,
      );
      adds = λ n. (
        with_points old (((row.0, s.0), s.1) ∷ []),
        record {
          meaning = sampled (sample_of places row.0 s);
          read = read_again OpenMetrics places line.0 (sample_of places row.0 s) line.2;
          adds = record {
            faultless =
                rw (no_pairs_fault row.0 is.label_set is.metric is.utf8, written.time) refl;
            labels = row.0;
            made = (pairs_are row.0 is.label_set is.metric).made;
            value = Parts s.1;
            is = refl;
            adds = ((refl, refl, refl), refl);
          };
        },
        refl,
      );
    }

samples_added : (places : ℕ) (f : Fractions) (row : Row) (ss : List (ℤ × ℤ)) (old : Said)
    → IsWritable row → AllByRecursion IsWritten ss
    → Added places f (flat_map (line_text places (series_text row.0)) ss) old
    (with_points old (points_in row.0 ss))
samples_added places f row [] old is all =
    subst (Added places f [] old)
    (same_said old (with_points old []) refl (omega arith) refl refl) (added_none places f old)
samples_added places f row (s ∷ ss) old is all =
    let one = ((row.0, s.0), s.1) ∷ [] in
    subst (Added places f (flat_map (line_text places (series_text row.0)) (s ∷ ss)) old)
    (points_both old one (points_in row.0 ss))
    (added_both places f (line_text places (series_text row.0) s)
    (flat_map (line_text places (series_text row.0)) ss) old (with_points old one)
    (with_points (with_points old one) (points_in row.0 ss))
    (sample_added places f row s old is all.0)
    (samples_added places f row ss (with_points old one) is all.1))

row_added : (places : ℕ) (f : Fractions) (row : Row) (old : Said) → IsWritable row
    → Added places f (row_text places row) old (with_points old (points_in row.0 row.1))
unfolding row_text
row_added places f row old is = samples_added places f row row.1 old is is.samples

rows_added : (places : ℕ) (f : Fractions) (rows : List Row) (old : Said)
    → AllByRecursion IsWritable rows → Added places f (rows_text places rows) old (with_points old (points_of rows))
unfolding rows_text
rows_added places f [] old all =
    subst (Added places f [] old)
    (same_said old (with_points old []) refl (omega arith) refl refl) (added_none places f old)
rows_added places f (row ∷ rows) old all =
    let one = points_in row.0 row.1 in
    subst (Added places f (rows_text places (row ∷ rows)) old)
    (points_both old one (points_of rows))
    (added_both places f (row_text places row) (rows_text places rows) old (with_points old one)
    (with_points (with_points old one) (points_of rows)) (row_added places f row old all.0)
    (rows_added places f rows (with_points old one) all.1))

-- what holds of rows holds of them by their metrics
pub all_grouped : (rows : List Row) → AllByRecursion IsWritable rows
    → AllByRecursion IsWritable (grouped rows)
all_grouped rows all =
    recursion_from_All IsWritable (grouped rows)
    (All-permutation IsWritable rows (grouped rows) (grouped_permuted rows)
    (All-from_recursion IsWritable rows all))

pub texts_again : (places : ℕ) (f : Fractions) (rows : List Row) → AllByRecursion IsWritable rows
    → IsText OpenMetrics places (Decimals f) (text_of places rows) (said_of rows)
texts_again places f rows all =
    let all_added = rows_added places f (grouped rows) unsaid (all_grouped rows all) in
    let is =
    same_said (with_points unsaid (points_of (grouped rows))) (said_of rows) (content_grouped rows)
    (omega (arith, count_grouped rows)) refl refl in
    record {
      lines = all_added.lines;
      cut = record {
        ending = eof ∷ [] ∷ [];
        parts =
            ap (λ (t : List ℕ). lines_in (t ++ codes "# EOF\n")) all_added.text_is
            ∙ split_again all_added.lines (codes "# EOF\n") all_added.are;
        ends = inr refl;
      };
      says = subst (λ (x : Said). AddAll OpenMetrics places (Decimals f) 1 all_added.lines unsaid x) is
          (all_added.adds 1);
    }

-- CONTENTS
turned : (p q : Point) → point_cmp p q ≡ Less → point_cmp q p ≡ Greater
turned p q less = point_total.antisymm q p ∙ ap ordering_reverse less

abbrev AreBelow : Content → Point → Type 0
AreBelow c p = AllByRecursion (λ (e : Point × ℤ). point_cmp p e.0 ≡ Greater) c

put_last : (c : Content) (p : Point) (v : ℤ) → AreBelow c p
    → put point_cmp p v c ≡ c ++ (p, v) ∷ []
put_last [] p v below = refl
put_last (e ∷ es) p v below =
    rw below.0 (ap (λ (c : Content). e ∷ c) (put_last es p v below.1))

less_is : (o : Ordering) → T (is_lt o) → o ≡ Less
less_is Less h = refl
less_is Equal h = absurd h
less_is Greater h = absurd h

below_among : (p : Point) (front : Content) (e : Point × ℤ) (rest : Content)
    → T (below_all point_cmp p (front ++ e ∷ rest)) → point_cmp p e.0 ≡ Less
below_among p [] e rest h = less_is _ (first_T _ _ h)
below_among p (f ∷ fs) e rest h = below_among p fs e rest (second_T _ _ h)

all_below : (front : Content) (e : Point × ℤ) (rest : Content)
    → T (is_sorted point_cmp (front ++ e ∷ rest)) → AreBelow front e.0
all_below [] e rest h = tt
all_below (f ∷ fs) e rest h = (
  turned f.0 e.0 (below_among f.0 fs e rest (first_T _ _ h)),
  all_below fs e rest (second_T _ _ h),
)

put_in_order : (front rest : Content) → T (is_sorted point_cmp (front ++ rest))
    → put_each front rest ≡ front ++ rest
put_in_order front [] h = sym (append-nil front)
put_in_order front (e ∷ es) h =
    let same = append_assoc front (e ∷ []) es in
    ap (λ (c : Content). put_each c es) (put_last front e.0 e.1 (all_below front e es h))
    ∙ (put_in_order (front ++ e ∷ []) es
    (subst (λ (c : Content). T (is_sorted point_cmp c)) (sym same) h)
    ∙ same)

pub all_said : (rows : List Row) (c : Content) → T (is_sorted point_cmp c) → points_of rows ≡ c
    → put_each [] (points_of rows) ≡ c
all_said rows c h e =
    put_in_order [] (points_of rows) (subst (λ (x : Content). T (is_sorted point_cmp x)) (sym e) h)
    ∙ e
