-- What inputs and outputs hold.
use Rattle.std.specs.Prelude.{◌≡◌, ◌≤ℤ◌, ◌+ℤ◌, ℕ, ℤ, pos, Bool, List, [], ◌∷◌, ◌++◌, map, refl}
use Rattle.std.specs.Prelude.{filter}
use Rattle.std.proofs.Common.{sym, ap, subst, ◌∙◌, append_assoc, arith}
use Rattle.std.proofs.lemmas.Int.{ints}
use Rattle.labels.specs.Labels.{Labels, Point}
use Rattle.labels.specs.Contents.{Content, in_range}
use Rattle.labels.specs.Rows.{Row, points_in, points_of}
use Rattle.labels.specs.Parts.{laid_over, within}
use Rattle.labels.proofs.Restricting.{kept, kept-laid_over, kept-points_in, kept-++}
use Rattle.kept_samples.specs.declared.keeping.Tally.{Tally}
use Rattle.index_reader.specs.Indexes.{Indexed}
use Rattle.tombstones.specs.declared.deletion.Deletion.{Deletion}
use Rattle.imported_values.specs.declared.form.Form.{Form}
use Rattle.prometheus_block.specs.Narrowing.{AreReadAlike, PartsHaveTheRowsBetween}
use Rattle.prometheus_block.specs.Rows.{row_if, rows_between}
use Rattle.prometheus_block.specs.Series.{Segments}
use Rattle.block_folder.specs.declared.values.Values.{Values}
use Rattle.block_folder.specs.Steps.{Did}
use Rattle.block_outputs.specs.declared.tiles.Stretch.{Stretch}
use Rattle.block_outputs.specs.Contents.{restricted, AreRestrictions, AreOutputsOf, HoldAll}
use Rattle.block_outputs.specs.Tiles.{AreTiles}
use Rattle.block_outputs.proofs.Held.{outputs_hold}
use Rattle.blocktool.specs.declared.conversion.Account.{Account}
use Rattle.blocktool.specs.Conversion.{Gives, GiveContents, AreGiven, AreConvertedFrom}
use Rattle.blocktool.specs.Listed.{content_of_rows, IsGivenByRows}
use Rattle.blocktool.specs.Prometheus.{IsGivenBy}

given_restricted : {I : Type 0} (gives : Gives I) (content : I → Content) (inputs : List I)
    (from to : ℤ) (s : Stretch) (lists : List (List Row)) (old new : Tally)
    → GiveContents gives content from to → from ≤ℤ s.from → s.to ≤ℤ to
    → AreGiven gives inputs s lists old new → AreRestrictions s lists (map content inputs)
given_restricted gives content [] from to s [] old new c l u h = tt
given_restricted gives content [] from to s (rows ∷ lists) old new c l u h = absurd h
given_restricted gives content (i ∷ inputs) from to s [] old new c l u h = absurd h
given_restricted gives content (i ∷ inputs) from to s (rows ∷ lists) old new c l u h = (
  c i s l u rows old h.0 h.1,
  given_restricted gives content inputs from to s lists h.0 new c l u h.2,
)

-- ranges in a range
abbrev AreIn : ℤ → ℤ → List Stretch → Type 0
AreIn from to [] = Unit {0}
AreIn from to (s ∷ ss) = (from ≤ℤ s.from) × (s.to ≤ℤ to) × AreIn from to ss

tiles_in : (low from to : ℤ) (ss : List Stretch) → low ≤ℤ from → AreTiles from to ss
    → AreIn low to ss
tiles_in low from to [] le h = tt
tiles_in low from to (s ∷ ss) le h =
    let at = h.0 in
    let some = h.1 in
    let begin : low ≤ℤ s.from = omega (arith, ints) in
    let next : low ≤ℤ (s.to +ℤ pos 1) = omega (arith, ints) in
    (begin, h.2, tiles_in low (s.to +ℤ pos 1) to ss next h.3)

outputs_of : {I D : Type 0} (gives : Gives I) (content : I → Content) (did : D → List Did → Type 0)
    (inputs : List I) (into : List ℕ) (values : Values) (ss : List Stretch) (outputs : List (List Row))
    (old new : Account) (a b : D) (from to : ℤ) → GiveContents gives content from to
    → AreIn from to ss
    → AreConvertedFrom gives did inputs into values ss outputs old new a b
    → AreOutputsOf (map content inputs) ss outputs
outputs_of gives content did inputs into values [] [] old new a b from to c i h = tt
outputs_of gives content did inputs into values [] (rows ∷ outputs) old new a b from to c i h = absurd h
outputs_of gives content did inputs into values (s ∷ ss) [] old new a b from to c i h = absurd h
outputs_of gives content did inputs into values (s ∷ ss) (rows ∷ outputs) old new a b from to c i h = (
  (
    h.2.joined.lists,
    given_restricted gives content inputs from to s h.2.joined.lists old.tally h.0.tally c i.0 i.1
        h.2.joined.given,
    h.2.joined.joined,
  ),
  outputs_of gives content did inputs into values ss outputs h.0 new h.1 b from to c i.2 h.3,
)

-- outputs of tiles hold what the inputs' contents have
pub whole_content : {I D : Type 0} (gives : Gives I) (did : D → List Did → Type 0) (inputs : List I)
    (into : List ℕ) (values : Values) (ss : List Stretch) (outputs : List (List Row)) (old new : Account) (a b : D)
    → AreConvertedFrom gives did inputs into values ss outputs old new a b → (content : I → Content)
    (from to : ℤ) → GiveContents gives content from to → AreTiles from to ss
    → HoldAll (map content inputs) from to outputs
whole_content gives did inputs into values ss outputs old new a b h content from to c tiles =
    let low : from ≤ℤ from = omega (arith, ints) in
    outputs_hold (map content inputs) from to ss outputs tiles
    (outputs_of gives content did inputs into values ss outputs old new a b from to c
    (tiles_in from from to ss low tiles) h)

points_of-row_if : (l : Labels) (ss : List (ℤ × ℤ)) (rows : List Row)
    → points_of (row_if l ss ++ rows) ≡ points_in l ss ++ points_of rows
points_of-row_if l [] rows = refl
points_of-row_if l (s ∷ ss) rows = refl

points_of-between : (from to : ℤ) (rows : List Row)
    → points_of (rows_between from to rows) ≡ kept (λ (p : Point). in_range from to p.1)
    (points_of rows)
points_of-between from to [] = refl
points_of-between from to (row ∷ rows) =
    points_of-row_if row.0 (within from to row.1) (rows_between from to rows)
    ∙ ap (λ c. points_in row.0 (within from to row.1) ++ c) (points_of-between from to rows)
    ∙ ap (λ c. c ++ kept (λ (p : Point). in_range from to p.1) (points_of rows))
    (sym (kept-points_in (λ (p : Point). in_range from to p.1) row.0 row.1))
    ∙ sym (kept-++ (λ (p : Point). in_range from to p.1) (points_in row.0 row.1) (points_of rows))

between_content : (from to : ℤ) (all rows : List Row) → rows ≡ rows_between from to all
    → laid_over (points_of rows) [] ≡ restricted from to (content_of_rows all)
between_content from to all rows h =
    ap (λ (rs : List Row). laid_over (points_of rs) []) h
    ∙ ap (λ c. laid_over c []) (points_of-between from to all)
    ∙ sym (kept-laid_over (λ (p : Point). in_range from to p.1) (points_of all) [] tt)

-- rows give their content
pub rows_give : (all : List Row) (s : Stretch) (rows : List Row) (old new : Tally)
    → IsGivenByRows all s rows old new
    → laid_over (points_of rows) [] ≡ restricted s.from s.to (content_of_rows all)
rows_give all s rows old new h = between_content s.from s.to all rows h.0

-- a block gives its content
pub block_gives : (reads : Segments) → PartsHaveTheRowsBetween reads
    → (index : Indexed) (deletions : List Deletion) (form : Form) → AreReadAlike reads
    → (whole : Stretch) (all : List Row) (a b : Tally)
    → IsGivenBy reads index deletions form whole all a b
    → (s : Stretch) → whole.from ≤ℤ s.from → s.to ≤ℤ whole.to
    → (rows : List Row) (old new : Tally) → IsGivenBy reads index deletions form s rows old new
    → laid_over (points_of rows) [] ≡ restricted s.from s.to (content_of_rows all)
block_gives reads parts index deletions form alike whole all a b x s low high rows old new y =
    let from =
    subst (λ (t : ℤ). t ≤ℤ y.wanted.times.from) (sym x.is.from)
    (subst (λ (t : ℤ). whole.from ≤ℤ t) (sym y.is.from) low) in
    let to =
    subst (λ (t : ℤ). y.wanted.times.to ≤ℤ t) (sym x.is.to)
    (subst (λ (t : ℤ). t ≤ℤ whole.to) (sym y.is.to) high) in
    let rows_are =
    parts alike y.wanted x.wanted (record {
      form = y.is.form_is ∙ sym x.is.form_is;
      deletions = y.is.deletions_are ∙ sym x.is.deletions_are;
      from = from;
      to = to;
    }) index.series all rows a b old new x.rows_are y.rows_are in
    between_content s.from s.to all rows
    (rows_are
    ∙ (ap (λ (t : ℤ). rows_between t y.wanted.times.to all) y.is.from
    ∙ ap (λ (t : ℤ). rows_between s.from t all) y.is.to))
