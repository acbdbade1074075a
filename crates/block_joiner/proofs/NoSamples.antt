-- Blocks without a sample.
use Rattle.std.proofs.Common.{◌≡◌, ℕ, ℤ, ◌+◌, T, List, [], ◌∷◌, ◌++◌, length, map, refl, ap, arith}
use Rattle.std.proofs.Common.{◌∙◌}
use Rattle.std.specs.Prelude.{All}
use Rattle.std.specs.FinMap.Entries.{is_sorted}
use Rattle.std.proofs.lemmas.List.Elements.{All-head, All-tail}
use Rattle.block.specs.Blocks.{Shown, sample_count}
use Rattle.head.specs.Blocks.{part_in}
use Rattle.head.specs.Joins.{HoldSame, parts_in}
use Rattle.labels.specs.Contents.{Content}
use Rattle.labels.specs.Labels.{Labels, point_cmp}
use Rattle.labels.specs.Parts.{Part, laid_over, over, rows_in}
use Rattle.labels.specs.Rows.{points_in, points_of}

no_points : (l : Labels) (samples : List (ℤ × ℤ)) → length samples ≡ 0 → points_in l samples ≡ []
no_points l [] none = refl
no_points l (s ∷ samples) none = absurd (omega (arith, none))

-- a part without a sample has no points
pub nothing_in : (part : Part) → sample_count part ≡ 0 → points_of (rows_in part) ≡ []
nothing_in [] none = refl
nothing_in (row ∷ rows) none =
    ap (λ (ps : Content). ps ++ points_of (rows_in rows))
    (no_points row.1.0 row.1.1 (omega (arith, none)))
    ∙ nothing_in rows (omega (arith, none))

-- blocks without a sample change no content that they are laid over
pub nothing_holds : (blocks : List Shown) → All (λ (b : Shown). sample_count b.part ≡ 0) blocks
    → HoldSame (map part_in blocks) []
nothing_holds [] none c up = refl
nothing_holds (b ∷ blocks) none c up =
    let empty : (x : Shown) → Type 0 = λ x. sample_count x.part ≡ 0 in
    ap (λ (ps : Content). over (laid_over ps c) (parts_in (map part_in blocks)))
    (nothing_in b.part (All-head empty b blocks none))
    ∙ nothing_holds blocks (All-tail empty b blocks none) c up
