-- Each table is held against the definition at each of its 256 places, by computing.
use Rattle.std.proofs.Common.{◌≡◌, ℕ, zero, suc, ◌+◌, ◌<◌, Bool, true, false, ◌&&◌, eqb, get_or}
use Rattle.std.proofs.Common.{length, List, [], ◌∷◌, refl, sym, ap, ◌∙◌, arith}
use Rattle.std.proofs.lemmas.Bool.{eqb-true}
use Rattle.wire.specs.Checksum.{shifted_once, shifted}
use Rattle.wire.specs.declared.tables.TheConstants.{TABLE_1, TABLE_2, TABLE_3, TABLE_4, TABLE_5}
use Rattle.wire.specs.declared.tables.TheConstants.{TABLE_6, TABLE_7, TABLE_8}
use Rattle.wire.proofs.Shifts.{shifted-add}

both_of : (x y : Bool) → (x && y) ≡ true → (x ≡ true) × (y ≡ true)
both_of true y h = (refl, h)
both_of false y h = cc

starts : ℕ → List ℕ → Bool
starts n [] = true
starts n (x ∷ xs) = eqb x (shifted 8 n) && starts (suc n) xs

follows_on : List ℕ → List ℕ → Bool
follows_on [] ys = true
follows_on (x ∷ xs) [] = false
follows_on (x ∷ xs) (y ∷ ys) = eqb y (shifted 8 x) && follows_on xs ys

starts_at : (n : ℕ) (xs : List ℕ) (i d : ℕ) → starts n xs ≡ true → i < length xs
    → get_or xs i d ≡ shifted 8 (n + i)
unfolding starts
starts_at n [] i d h lt = absurd (omega arith)
starts_at n (x ∷ xs) zero d h lt =
    let e : n ≡ n + 0 = omega arith in
    eqb-true x (shifted 8 n) (both_of _ _ h).0 ∙ ap (shifted 8) e
starts_at n (x ∷ xs) (suc i) d h lt =
    let e : suc n + i ≡ n + suc i = omega arith in
    starts_at (suc n) xs i d (both_of _ _ h).1 (omega arith) ∙ ap (shifted 8) e

follows_at : (xs ys : List ℕ) (i d : ℕ) → follows_on xs ys ≡ true → i < length xs
    → get_or ys i d ≡ shifted 8 (get_or xs i d)
unfolding follows_on
follows_at [] ys i d h lt = absurd (omega arith)
follows_at (x ∷ xs) [] i d h lt = absurd cc
follows_at (x ∷ xs) (y ∷ ys) zero d h lt = eqb-true y (shifted 8 x) (both_of _ _ h).0
follows_at (x ∷ xs) (y ∷ ys) (suc i) d h lt = follows_at xs ys i d (both_of _ _ h).1 (omega arith)

next : (k : ℕ) (xs ys : List ℕ) → follows_on xs ys ≡ true → length xs ≡ 256
    → ((i d : ℕ) → i < 256 → get_or xs i d ≡ shifted k i) → (i d : ℕ) → i < 256
    → get_or ys i d ≡ shifted (k + 8) i
next k xs ys h len before i d lt =
    follows_at xs ys i d h (omega arith) ∙ ap (shifted 8) (before i d lt) ∙ sym (shifted-add k 8 i)

table_1_ok : starts 0 TABLE_1 ≡ true
unfolding starts shifted shifted_once
table_1_ok = refl

pub table_1_at : (i d : ℕ) → i < 256 → get_or TABLE_1 i d ≡ shifted 8 i
table_1_at i d lt =
    let e : 0 + i ≡ i = omega arith in
    let f : get_or TABLE_1 i d ≡ shifted 8 (0 + i) = starts_at 0 TABLE_1 i d table_1_ok lt in
    rw e at f

table_2_ok : follows_on TABLE_1 TABLE_2 ≡ true
unfolding follows_on shifted shifted_once
table_2_ok = refl

table_3_ok : follows_on TABLE_2 TABLE_3 ≡ true
unfolding follows_on shifted shifted_once
table_3_ok = refl

table_4_ok : follows_on TABLE_3 TABLE_4 ≡ true
unfolding follows_on shifted shifted_once
table_4_ok = refl

table_5_ok : follows_on TABLE_4 TABLE_5 ≡ true
unfolding follows_on shifted shifted_once
table_5_ok = refl

table_6_ok : follows_on TABLE_5 TABLE_6 ≡ true
unfolding follows_on shifted shifted_once
table_6_ok = refl

table_7_ok : follows_on TABLE_6 TABLE_7 ≡ true
unfolding follows_on shifted shifted_once
table_7_ok = refl

table_8_ok : follows_on TABLE_7 TABLE_8 ≡ true
unfolding follows_on shifted shifted_once
table_8_ok = refl

pub table_2_at : (i d : ℕ) → i < 256 → get_or TABLE_2 i d ≡ shifted 16 i
table_2_at = next 8 TABLE_1 TABLE_2 table_2_ok refl table_1_at

pub table_3_at : (i d : ℕ) → i < 256 → get_or TABLE_3 i d ≡ shifted 24 i
table_3_at = next 16 TABLE_2 TABLE_3 table_3_ok refl table_2_at

pub table_4_at : (i d : ℕ) → i < 256 → get_or TABLE_4 i d ≡ shifted 32 i
table_4_at = next 24 TABLE_3 TABLE_4 table_4_ok refl table_3_at

pub table_5_at : (i d : ℕ) → i < 256 → get_or TABLE_5 i d ≡ shifted 40 i
table_5_at = next 32 TABLE_4 TABLE_5 table_5_ok refl table_4_at

pub table_6_at : (i d : ℕ) → i < 256 → get_or TABLE_6 i d ≡ shifted 48 i
table_6_at = next 40 TABLE_5 TABLE_6 table_6_ok refl table_5_at

pub table_7_at : (i d : ℕ) → i < 256 → get_or TABLE_7 i d ≡ shifted 56 i
table_7_at = next 48 TABLE_6 TABLE_7 table_7_ok refl table_6_at

pub table_8_at : (i d : ℕ) → i < 256 → get_or TABLE_8 i d ≡ shifted 64 i
table_8_at = next 56 TABLE_7 TABLE_8 table_8_ok refl table_7_at
