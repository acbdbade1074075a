-- Outputs hold what contents have.
use Rattle.std.specs.Prelude.{◌≡◌, ℤ, pos, ◌+ℤ◌, Bool, true, false, cond, ◌||◌, T, List, [], ◌∷◌}
use Rattle.std.specs.Prelude.{Option, None, Some, map, refl}
use Rattle.std.specs.FinMap.Entries.{find, is_sorted, is_sorted-where_key}
use Rattle.std.proofs.Common.{sym, ◌∙◌, ap}
use Rattle.labels.specs.Labels.{Point, point_cmp}
use Rattle.labels.specs.Contents.{Content, in_range}
use Rattle.labels.specs.Rows.{Row, points_of}
use Rattle.labels.specs.Parts.{laid_over}
use Rattle.labels.proofs.ContentLaws.{or_else, or_else_none, find-laid_over, is_sorted-laid_over}
use Rattle.labels.proofs.ContentLaws.{same_content}
use Rattle.labels.proofs.Restricting.{find-kept}
use Rattle.series_merge.specs.Merging.{laid_each}
use Rattle.block_outputs.specs.declared.tiles.Stretch.{Stretch}
use Rattle.block_outputs.specs.Contents.{restricted, laid_all, AreRestrictions, AreOutputsOf}
use Rattle.block_outputs.specs.Contents.{HoldAll}
use Rattle.block_outputs.specs.Joined.{IsJoined}
use Rattle.block_outputs.specs.Tiles.{AreTiles}
use Rattle.block_outputs.proofs.Tiled.{none_between, cut_once}

-- what the last of some contents that has a point has there, or else this
abbrev latest : Point → List Content → Option ℤ → Option ℤ
latest q [] o = o
latest q (d ∷ ds) o = latest q ds (or_else (find point_cmp q d) o)

find-laid_all : (q : Point) (c : Content) (ds : List Content)
    → find point_cmp q (laid_all c ds) ≡ latest q ds (find point_cmp q c)
find-laid_all q c [] = refl
find-laid_all q c (d ∷ ds) = find-laid_all q (laid_over d c) ds
    ∙ ap (latest q ds) (find-laid_over q d c)

-- the samples of each list of rows
abbrev points : List (List Row) → List Content
points [] = []
points (rows ∷ lists) = points_of rows ∷ points lists

find-laid_each : (q : Point) (c : Content) (lists : List (List Row))
    → find point_cmp q (laid_each c lists) ≡ latest q (points lists) (find point_cmp q c)
find-laid_each q c [] = refl
find-laid_each q c (rows ∷ lists) = find-laid_each q (laid_over (points_of rows) c) lists
    ∙ ap (latest q (points lists)) (find-laid_over q (points_of rows) c)

sorted-laid_each : (c : Content) (lists : List (List Row)) → T (is_sorted point_cmp c)
    → T (is_sorted point_cmp (laid_each c lists))
sorted-laid_each c [] h = h
sorted-laid_each c (rows ∷ lists) h = sorted-laid_each (laid_over (points_of rows) c) lists
    (is_sorted-laid_over (points_of rows) c h)

sorted-laid_all : (c : Content) (ds : List Content) → T (is_sorted point_cmp c)
    → T (is_sorted point_cmp (laid_all c ds))
sorted-laid_all c [] h = h
sorted-laid_all c (d ∷ ds) h = sorted-laid_all (laid_over d c) ds (is_sorted-laid_over d c h)

-- only where the test passes
abbrev only : Bool → Option ℤ → Option ℤ
only b o = cond b o None

both_only : (b : Bool) (x o : Option ℤ) → or_else (only b x) (only b o) ≡ only b (or_else x o)
both_only true x o = refl
both_only false x o = refl

none_only : (b : Bool) → only b None ≡ None
none_only true = refl
none_only false = refl

twice : (x o : Option ℤ) → or_else x (or_else x o) ≡ or_else x o
twice None o = refl
twice (Some v) o = refl

-- a value that is found by one of two tests
either : (a b : Bool) (x o : Option ℤ)
    → or_else (only b x) (or_else (only a x) o) ≡ or_else (only (a || b) x) o
either true true x o = twice x o
either true false x o = refl
either false true x o = refl
either false false x o = refl

-- what rows have at a point that hold what a content has in a range
held_at : (q : Point) (s : Stretch) (rows : List Row) (c : Content)
    → laid_over (points_of rows) [] ≡ restricted s.from s.to c
    → find point_cmp q (points_of rows) ≡ only (in_range s.from s.to q.1) (find point_cmp q c)
held_at q s rows c e =
    sym (find-laid_over q (points_of rows) [] ∙ or_else_none (find point_cmp q (points_of rows)))
    ∙ ap (find point_cmp q) e ∙ find-kept (λ p. in_range s.from s.to p.1) q c

-- the same of several
latest_restricted : (q : Point) (s : Stretch) (lists : List (List Row)) (cs : List Content)
    (o : Option ℤ) → AreRestrictions s lists cs
    → latest q (points lists) (only (in_range s.from s.to q.1) o) ≡ only (in_range s.from s.to q.1)
    (latest q cs o)
latest_restricted q s [] [] o h = refl
latest_restricted q s [] (c ∷ cs) o h = absurd h
latest_restricted q s (rows ∷ lists) [] o h = absurd h
latest_restricted q s (rows ∷ lists) (c ∷ cs) o h =
    ap (λ x. latest q (points lists) (or_else x (only (in_range s.from s.to q.1) o)))
    (held_at q s rows c h.0)
    ∙ ap (latest q (points lists)) (both_only (in_range s.from s.to q.1) (find point_cmp q c) o)
    ∙ latest_restricted q s lists cs (or_else (find point_cmp q c) o) h.1

-- what an output has at a point
output_at : (q : Point) (s : Stretch) (lists : List (List Row)) (cs : List Content)
    (rows : List Row) → AreRestrictions s lists cs → IsJoined lists rows
    → find point_cmp q (points_of rows) ≡ only (in_range s.from s.to q.1) (latest q cs None)
output_at q s lists cs rows h joined =
    ap (find point_cmp q) joined.points ∙ find-laid_each q [] lists
    ∙ ap (latest q (points lists)) (sym (none_only (in_range s.from s.to q.1)))
    ∙ latest_restricted q s lists cs None h

-- what outputs of tiles have at a point
outputs_at : (q : Point) (cs : List Content) (from to : ℤ) (ss : List Stretch)
    (outputs : List (List Row)) (o : Option ℤ) → AreTiles from to ss → AreOutputsOf cs ss outputs
    → latest q (points outputs) o ≡ or_else (only (in_range from to q.1) (latest q cs None)) o
outputs_at q cs from to [] [] o tiles h = ap (λ b. or_else (only b (latest q cs None)) o)
    (sym (none_between from to q.1 tiles))
outputs_at q cs from to [] (rows ∷ outputs) o tiles h = absurd h
outputs_at q cs from to (s ∷ ss) [] o tiles h = absurd h
outputs_at q cs from to (s ∷ ss) (rows ∷ outputs) o tiles h =
    let first : in_range s.from s.to q.1 ≡ in_range from s.to q.1 = ap (λ f. in_range f s.to q.1)
    tiles.0 in
    ap (λ x. latest q (points outputs) (or_else x o))
    (output_at q s h.0.0 cs rows h.0.1 h.0.2 ∙ ap (λ b. only b (latest q cs None)) first)
    ∙ outputs_at q cs (s.to +ℤ pos 1) to ss outputs
    (or_else (only (in_range from s.to q.1) (latest q cs None)) o) tiles.3 h.1
    ∙ either (in_range from s.to q.1) (in_range (s.to +ℤ pos 1) to q.1) (latest q cs None) o
    ∙ ap (λ b. or_else (only b (latest q cs None)) o)
    (sym (cut_once from to s.to q.1 tiles.1 tiles.2))

-- the outputs of the tiles of a range hold what the contents have in the range
pub outputs_hold : (cs : List Content) (from to : ℤ) (tiles : List Stretch)
    (outputs : List (List Row)) → AreTiles from to tiles → AreOutputsOf cs tiles outputs
    → HoldAll cs from to outputs
outputs_hold cs from to tiles outputs t h =
    same_content (laid_each [] outputs) (restricted from to (laid_all [] cs))
    (sorted-laid_each [] outputs tt)
    (is_sorted-where_key point_cmp (λ p. in_range from to p.1) (laid_all [] cs) (sorted-laid_all []
    cs tt))
    (λ q. find-laid_each q [] outputs ∙ outputs_at q cs from to tiles outputs None t h
    ∙ or_else_none (only (in_range from to q.1) (latest q cs None))
    ∙ ap (only (in_range from to q.1)) (sym (find-laid_all q [] cs))
    ∙ sym (find-kept (λ p. in_range from to p.1) q (laid_all [] cs)))
