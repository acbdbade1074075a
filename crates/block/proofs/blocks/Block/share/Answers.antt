use Rattle.std.proofs.Common.{◌≡◌, ℤ, List, [], ◌∷◌, Result, Ok, Err, refl, ◌∙◌}
use Rattle.std.specs.Prelude.{false, not, ◌&&◌, filter, pos, IfOk}
use Rattle.labels.specs.Contents.{in_range}
use Rattle.labels.specs.Parts.{Part}
use Rattle.block.specs.Fewer.{part_without}
use Rattle.block.proofs.blocks.Block.share.Goals as goal

all_left : (from to : ℤ) (ss : List (ℤ × ℤ)) → filter (λ (s : ℤ × ℤ). not (false && in_range from to s.0)) ss ≡ ss
all_left from to [] = refl
all_left from to (s ∷ ss) = λ i. s ∷ all_left from to ss i

without_none : (from to : ℤ) (part : Part) → part_without [] from to part ≡ part
without_none from to [] = refl
without_none from to (row ∷ rows) = λ i. (row.0, (row.1.0, all_left from to row.1.1 i)) ∷ without_none from to rows i

each_ok : {V E : Type 0} {P Q R S : V → Type 0} (r : Result V E) → ((v : V) → P v → Q v → R v → S v)
    → IfOk r P → IfOk r Q → IfOk r R → IfOk r S
each_ok (Ok v) f p q s = f v p q s
each_ok (Err e) f p q s = tt

pub returns : goal.returns
returns c =
    each_ok c.without.result
    (λ b part range pairs. λ i. record { range = range i; part = (part ∙ without_none (pos 0) (pos 0) c.args.self.now.part) i; pairs = pairs i })
    c.without.ensures.part c.without.ensures.range c.without.ensures.pairs
