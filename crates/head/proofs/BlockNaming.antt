-- The names of blocks.
use Rattle.std.specs.Prelude.{◌≡◌, ℕ, suc, ◌+◌, ◌-◌, ◌<◌, zero, List, [], ◌∷◌, ◌++◌, length, refl}
use Rattle.std.proofs.Common.{sym, ◌∙◌, ap, arith, append_assoc}
use Rattle.postings.specs.declared.part_name.PartName.{PartName}
use Rattle.postings.specs.declared.part_name.PartName.TheVariants.{Block as BlockName}
use Rattle.head.specs.Blocks.{block_names}

left_is : (n end : ℕ) → n < end → end - n ≡ suc (end - (n + 1))
left_is n end h = omega arith

-- one name more, and the rest
pub next_name : (names : List PartName) (n end : ℕ) → n < end → (names ++ BlockName n ∷ []) ++ block_names (n + 1) (end - (n + 1)) ≡ names ++ block_names n (end - n)
next_name names n end h =
    append_assoc names (BlockName n ∷ []) (block_names (n + 1) (end - (n + 1)))
    ∙ ap (λ m. names ++ block_names n m) (sym (left_is n end h))

-- as many names as are asked for
pub length-block_names : (n m : ℕ) → length (block_names n m) ≡ m
length-block_names n zero = refl
length-block_names n (suc m) = ap suc (length-block_names (n + 1) m)
