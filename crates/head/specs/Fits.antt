-- Whether the files of a block with given samples are within their limits.
use Rattle.std.specs.Prelude.{ℕ, Bool, ◌&&◌, List, [], ◌∷◌, nat_le, length}
use Rattle.std.specs.declared.cmp.Ordering.{Ordering}
use Rattle.std.specs.declared.cmp.Ordering.TheVariants.{Less, Equal, Greater}
use Rattle.labels.specs.Labels.{text_cmp, pair_cmp}
use Rattle.labels.specs.Contents.{Content}
use Rattle.labels.specs.Rows.{Row, rows_of}
use Rattle.block_writer.specs.InUse.{texts_in, pairs_in}
use Rattle.block_writer.specs.IndexText.{index_text}
use Rattle.block_writer.specs.Writing.{chunks_text}
use Rattle.block_writer.specs.Written.{limit}

-- one that compares so with the first of a list, put before it, in its place or after it
abbrev pub placed_by : {X : Type 0} → Ordering → X → X → List X → List X → List X
placed_by Less x y ys rest = x ∷ y ∷ ys
placed_by Equal x y ys rest = y ∷ ys
placed_by Greater x y ys rest = y ∷ rest

-- an ascending list with one more
abbrev pub with_one : {X : Type 0} → (X → X → Ordering) → X → List X → List X
with_one cmp x [] = x ∷ []
with_one cmp x (y ∷ ys) = placed_by (cmp x y) x y ys (with_one cmp x ys)

-- each of a list, once, ascending
unfoldable pub each_once : {X : Type 0} → (X → X → Ordering) → List X → List X
each_once cmp [] = []
each_once cmp (x ∷ xs) = with_one cmp x (each_once cmp xs)

-- the index of a block with these rows
abbrev pub index_of : List Row → List ℕ
index_of rows =
    index_text (each_once text_cmp (texts_in rows)) (each_once pair_cmp (pairs_in rows)) rows

-- whether both files that the rows decide are at most as long as a file may be
unfoldable pub files_fit : List Row → Bool
files_fit rows = nat_le (length (chunks_text rows)) limit && nat_le (length (index_of rows)) limit

-- whether the files of these samples are within their limits
abbrev pub fits : Content → Bool
fits content = files_fit (rows_of content)
