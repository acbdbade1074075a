-- The row of one series more.
use Rattle.std.proofs.Common.{◌≡◌, ℕ, suc, ◌+◌, ◌<◌, ℤ, List, [], ◌∷◌, ◌++◌, length, take, get_or}
use Rattle.std.proofs.Common.{Option, Some, map, refl, sym, ap, subst, ◌∙◌, append_assoc, arith}
use Rattle.std.proofs.Common.{reverse}
use Rattle.std.specs.Prelude.{slice_get, option_map, ◌==◌, true, false}
use Rattle.std.proofs.lemmas.Bool.{eqb-true, eqb-false}
use Rattle.std.proofs.lemmas.List.{append-nil, map-append, reverse-append, reverse-reverse}
use Rattle.std.proofs.lemmas.List.Elements.{All-head, All-push, All-tail}
use Rattle.std.proofs.lemmas.Option.{slice_get-map, slice_get-get_or, get_or_from_slice_get}
use Rattle.std.proofs.lemmas.Grind.{take_at_read}
use Rattle.labels.specs.Labels.{Labels}
use Rattle.labels.specs.Rows.{Row}
use Rattle.index_reader.specs.declared.chunk.Chunk.{Chunk}
use Rattle.index_reader.specs.Indexes.{Series}
use Rattle.xor_reader.specs.Grammar.{Sample}
use Rattle.kept_samples.specs.declared.keeping.Asked.{Asked}
use Rattle.kept_samples.specs.declared.keeping.Tally.{Tally}
use Rattle.prometheus_block.specs.declared.rows.KeptSeries.{KeptSeries}
use Rattle.prometheus_block.specs.declared.rows.Wanted.{Wanted}
use Rattle.kept_samples.specs.Keeping.{Keeps}
use Rattle.prometheus_block.specs.Series.{Segments, AreSamplesIn}
use Rattle.prometheus_block.specs.Rows.{IsAskedOf, IsRowAfter, AreRowsOf, ArePlaced, row_if}
use Rattle.prometheus_block.specs.Rows.{no_series, row_kept, rows_kept}

own : (reads : Segments) (wanted : Wanted) (s : Series) (old new : List Row)
    (counts counted : Tally) → (r : IsRowAfter reads wanted s old new counts counted)
    → IsRowAfter reads wanted s [] (row_if s.labels r.kept) counts counted
own reads wanted s old new counts counted r = record {
  samples = r.samples;
  held = r.held;
  asked = r.asked;
  of = r.of;
  kept = r.kept;
  keeps = r.keeps;
  row = refl;
}

rows_next : (reads : Segments) (wanted : Wanted) (ss : List Series) (s : Series)
    (rows first : List Row) (counts mid counted : Tally)
    → AreRowsOf reads wanted ss rows counts mid
    → IsRowAfter reads wanted s [] first mid counted
    → AreRowsOf reads wanted (ss ++ s ∷ []) (rows ++ first) counts counted
rows_next reads wanted [] s rows first counts mid counted none r =
    let end : AreRowsOf reads wanted [] [] counted counted = (refl, refl) in (
      first,
      [],
      counted,
      ap (λ (x : List Row). x ++ first) none.0 ∙ sym (append-nil first),
      subst (λ (x : Tally). IsRowAfter reads wanted s [] first x counted) none.1 r,
      end,
    )
rows_next reads wanted (x ∷ ss) s rows first counts mid counted each r = (
  each.0,
  each.1 ++ first,
  each.2,
  ap (λ (y : List Row). y ++ first) each.3 ∙ append_assoc each.0 each.1 first,
  each.4,
  rows_next reads wanted ss s each.1 first each.2 mid counted each.5 r,
)

pub one_more_row : (reads : Segments) (wanted : Wanted) (series : List Series) (i : ℕ)
    (old new : List Row) (counts mid counted : Tally) → i < length series
    → AreRowsOf reads wanted (take i series) old counts mid
    → ((s : Series) → slice_get series i ≡ Some s
    → IsRowAfter reads wanted s old new mid counted)
    → AreRowsOf reads wanted (take (i + 1) series) new counts counted
one_more_row reads wanted series i old new counts mid counted lt each after =
    let d : Series = record { reference = 0; labels = []; chunks = [] } in
    let s = get_or series i d in
    let r = after s (slice_get-get_or series i d lt) in
    subst (λ (x : List Row). AreRowsOf reads wanted (take (i + 1) series) x counts counted)
    (sym r.row)
    (subst (λ (x : List Series).
    AreRowsOf reads wanted x (old ++ row_if s.labels r.kept) counts counted)
    (sym (take_at_read series i d lt).1)
    (rows_next reads wanted (take i series) s old (row_if s.labels r.kept) counts mid counted each
    (own reads wanted s old new mid counted r)))

option_same : {A : Type 0} (a b : A) → Some a ≡ Some b → a ≡ b
option_same a b e = cc

-- what stands at a place of the lists of an index is that of the series there
pub at_series : {A : Type 0} (f : Series → A) (series : List Series) (i : ℕ) (a : A) (s : Series)
    → slice_get (map f series) i ≡ Some a → slice_get series i ≡ Some s → a ≡ f s
at_series f series i a s h e =
    option_same a (f s) (sym h ∙ slice_get-map f series i ∙ ap (option_map f) e)

pub row_after : (reads : Segments) (wanted : Wanted) (s : Series) (old new : List Row)
    (counts counted : Tally) (samples view : List Sample) (chunks : List Chunk) (asked : Asked)
    (start kept : List (ℤ × ℤ))
    → Keeps asked view start kept counts counted → view ≡ samples → start ≡ []
    → chunks ≡ s.chunks → AreSamplesIn reads wanted.times chunks samples
    → IsAskedOf wanted s asked → new ≡ old ++ row_if s.labels kept
    → IsRowAfter reads wanted s old new counts counted
row_after reads wanted s old new counts counted samples view chunks asked start kept keeps seen
    none same held of row = record {
      samples = samples;
      held = subst (λ (x : List Chunk). AreSamplesIn reads wanted.times x samples) same held;
      asked = asked;
      of = of;
      kept = kept;
      keeps = subst (λ (x : List Sample). Keeps asked x [] kept counts counted) seen
          (subst (λ (x : List (ℤ × ℤ)). Keeps asked view x kept counts counted) none keeps);
      row = row;
    }

-- a series of which nothing is kept has no row
pub no_row : (labels : Labels) (view kept : List (ℤ × ℤ)) (old : List Row) → view ≡ kept
    → (length view == 0) ≡ true → old ≡ old ++ row_if labels kept
no_row labels view [] old seen h = sym (append-nil old)
no_row labels view (x ∷ kept) old seen h =
    absurd (omega (arith, eqb-true (length view) 0 h, ap length seen))

-- another has one
pub a_row : (labels wanted : Labels) (view kept : List (ℤ × ℤ)) (row : Row) (old new : List Row)
    → view ≡ kept → (length view == 0) ≡ false → labels ≡ wanted → row ≡ (labels, kept)
    → new ≡ old ++ row ∷ [] → new ≡ old ++ row_if wanted kept
a_row labels wanted view [] row old new seen h e r p =
    absurd (eqb-false (length view) 0 h (ap length seen))
a_row labels wanted view (x ∷ kept) row old new seen h e r p =
    p ∙ (ap (λ (y : Row). old ++ y ∷ []) r
    ∙ ap (λ (l : Labels). old ++ (l, x ∷ kept) ∷ []) e)

-- ---- what is kept of series, and its rows

-- one more has the row that follows
pub a_kept_row : (series : List Series) (s : Series) (at : ℕ) (view samples : List (ℤ × ℤ))
    (old new : List KeptSeries) (kept : KeptSeries) → slice_get series at ≡ Some s → kept.at ≡ at
    → kept.samples.items ≡ samples → view ≡ samples → (length view == 0) ≡ false
    → new ≡ old ++ kept ∷ []
    → rows_kept series new ≡ rows_kept series old ++ row_if s.labels samples
a_kept_row series s at view samples old new kept here place same seen some pushed =
    let labels : Labels = (get_or series kept.at no_series).labels in
    a_row labels s.labels view samples (row_kept series kept) (rows_kept series old)
    (rows_kept series new) seen some
    (ap (λ (i : ℕ). (get_or series i no_series).labels) place
    ∙ ap (λ (x : Series). x.labels) (get_or_from_slice_get series at s no_series here))
    (λ j. (labels, same j))
    (ap (λ (ks : List KeptSeries). rows_kept series ks) pushed
    ∙ map-append (row_kept series) old (kept ∷ []))

pub one_more_placed : (series : List Series) (at : ℕ) (old new : List KeptSeries)
    (kept : KeptSeries) → at < length series → kept.at ≡ at → new ≡ old ++ kept ∷ []
    → ArePlaced series old → ArePlaced series new
one_more_placed series at old new kept lt place pushed all =
    subst (ArePlaced series) (sym pushed)
    (All-push (λ (k : KeptSeries). k.at < length series) old kept all (omega (arith, lt, place)))

kept_taken : (left after : List KeptSeries) (kept : KeptSeries) → left ≡ after ++ kept ∷ []
    → reverse left ≡ kept ∷ reverse after
kept_taken left after kept e =
    ap (λ (ks : List KeptSeries). reverse ks) e ∙ reverse-append after (kept ∷ [])

placed_taken : (series : List Series) (left after : List KeptSeries) (kept : KeptSeries)
    → left ≡ after ++ kept ∷ [] → ArePlaced series (reverse left)
    → ArePlaced series (kept ∷ reverse after)
placed_taken series left after kept e all =
    subst (ArePlaced series) (kept_taken left after kept e) all

pub placed_next : (series : List Series) (left after : List KeptSeries) (kept : KeptSeries)
    → left ≡ after ++ kept ∷ [] → ArePlaced series (reverse left) → kept.at < length series
placed_next series left after kept e all =
    All-head (λ (k : KeptSeries). k.at < length series) kept (reverse after)
    (placed_taken series left after kept e all)

pub placed_rest : (series : List Series) (left after : List KeptSeries) (kept : KeptSeries)
    → left ≡ after ++ kept ∷ [] → ArePlaced series (reverse left)
    → ArePlaced series (reverse after)
placed_rest series left after kept e all =
    All-tail (λ (k : KeptSeries). k.at < length series) kept (reverse after)
    (placed_taken series left after kept e all)

pub turned_placed : (series : List Series) (all left : List KeptSeries) → left ≡ reverse all
    → ArePlaced series all → ArePlaced series (reverse left)
turned_placed series all left turned h =
    subst (ArePlaced series)
    (sym (ap (λ (ks : List KeptSeries). reverse ks) turned ∙ reverse-reverse all)) h

pub turned_rows : (series : List Series) (all left : List KeptSeries) (rows : List Row)
    → left ≡ reverse all → rows ≡ [] → rows ++ rows_kept series (reverse left)
    ≡ rows_kept series all
turned_rows series all left rows turned none =
    ap (λ (rs : List Row). rs ++ rows_kept series (reverse left)) none
    ∙ ap (λ (ks : List KeptSeries). rows_kept series ks)
    (ap (λ (ks : List KeptSeries). reverse ks) turned ∙ reverse-reverse all)

pub next_row : (series : List Series) (rows next : List Row) (left after : List KeptSeries)
    (kept : KeptSeries) (row : Row) (labels : Labels) (whole : List Row)
    → left ≡ after ++ kept ∷ [] → kept.at < length series
    → slice_get (map (λ (s : Series). s.labels) series) kept.at ≡ Some labels
    → row ≡ (labels, kept.samples.items) → next ≡ rows ++ row ∷ []
    → rows ++ rows_kept series (reverse left) ≡ whole
    → next ++ rows_kept series (reverse after) ≡ whole
next_row series rows next left after kept row labels whole taken lt here is pushed so_far =
    let same : labels ≡ (get_or series kept.at no_series).labels =
    at_series (λ (s : Series). s.labels) series kept.at labels (get_or series kept.at no_series)
    here (slice_get-get_or series kept.at no_series lt) in
    ap (λ (rs : List Row). rs ++ rows_kept series (reverse after))
    (pushed ∙ ap (λ (r : Row). rows ++ r ∷ []) (is ∙ (λ j. (same j, kept.samples.items))))
    ∙ append_assoc rows (row_kept series kept ∷ []) (rows_kept series (reverse after))
    ∙ ap (λ (ks : List KeptSeries). rows ++ rows_kept series ks)
    (sym (kept_taken left after kept taken))
    ∙ so_far

pub no_kept_left : (series : List Series) (rows : List Row) (left : List KeptSeries)
    (whole : List Row) → length left ≡ 0 → rows ++ rows_kept series (reverse left) ≡ whole
    → rows ≡ whole
no_kept_left series rows [] whole none so_far = sym (append-nil rows) ∙ so_far
no_kept_left series rows (kept ∷ left) whole none so_far = absurd (omega (arith, none))
