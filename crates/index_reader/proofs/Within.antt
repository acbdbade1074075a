-- What holds of each entry of the offset table, read and seen.
use Rattle.std.proofs.Common.{◌≡◌, ℕ, zero, suc, ◌<◌, ◌≤◌, Bool, true, false, ◌&&◌, List, [], ◌∷◌}
use Rattle.std.proofs.Common.{length, get_or, refl, ap, arith}
use Rattle.std.specs.Prelude.{nat_le, nat_lt}
use Rattle.std.specs.List.{list_all}
use Rattle.std.proofs.lemmas.Bool.{ltb-true}
use Rattle.index_reader.specs.declared.offset_table.TableEntry.{TableEntry}
use Rattle.index_reader.specs.Layout.{is_within}
use Rattle.index_reader.specs.Seen.{table_entry_seen, table_seen}

pub all_map : (from to : ℕ) (ls : List TableEntry)
    → list_all (λ (l : TableEntry). nat_le from l.offset && nat_lt l.offset to) ls
    ≡ list_all (is_within from to) (table_seen ls)
all_map from to [] = refl
all_map from to (l ∷ ls) =
    ap (λ (b : Bool). is_within from to (table_entry_seen l) && b) (all_map from to ls)

both : (p q : Bool) → (p && q) ≡ true → (p ≡ true) × (q ≡ true)
both true q h = (refl, h)
both false q h = absurd cc

abbrev all_in : ℕ → ℕ → List TableEntry → Bool
all_in from to ls = list_all (λ (l : TableEntry). nat_le from l.offset && nat_lt l.offset to) ls

pub all_le : (from to : ℕ) (ls : List TableEntry)
    → list_all (λ (l : TableEntry). nat_le from l.offset && nat_lt l.offset to) ls ≡ true
    → (k : ℕ) (d : TableEntry) → k < length ls → (get_or ls k d).offset ≤ to
all_le from to [] h k d lt = absurd (omega arith)
all_le from to (l ∷ ls) h zero d lt =
    let p = both (nat_le from l.offset && nat_lt l.offset to) (all_in from to ls) h in
    let q = both (nat_le from l.offset) (nat_lt l.offset to) p.0 in
    let e = ltb-true l.offset to q.1 in
    omega (arith, e)
all_le from to (l ∷ ls) h (suc j) d lt =
    all_le from to ls
    (both (nat_le from l.offset && nat_lt l.offset to) (all_in from to ls) h).1 j d (omega arith)
