-- Lines that are added one after another.
use Rattle.std.proofs.Common.{◌≡◌, ℕ, suc, ◌+◌, ◌<◌, ◌≤◌, Bool, true, false, List, [], ◌∷◌, ◌++◌, length, take, get_or, sym, ap, ◌∙◌, subst, append-nil, arith}
use Rattle.std.specs.Prelude.{if◌then◌else◌}
use Rattle.std.specs.List.{AllZip}
use Rattle.std.proofs.lemmas.List.{take_more, take_all}
use Rattle.reply_reader.specs.declared.reply.ToldPart.{ToldPart}
use Rattle.auditor.specs.Judgements.{is_named, unnamed}

-- one more in each of two lists
zip_push : {A B : Type 0} (R : A → B → Type 0) (xs : List A) (ys : List B) (x : A) (y : B)
    → AllZip R xs ys → R x y → AllZip R (xs ++ x ∷ []) (ys ++ y ∷ [])
zip_push R [] [] x y all here = (here, tt)
zip_push R [] (b ∷ bs) x y all here = absurd all
zip_push R (a ∷ as') [] x y all here = absurd all
zip_push R (a ∷ as') (b ∷ bs) x y all here = (all.0, zip_push R as' bs x y all.1 here)

-- one more of a list has its line
pub zip_more : {A B : Type 0} (R : A → B → Type 0) (xs : List A) (i : ℕ) (x : A) (ys next : List B)
    (y : B) → i < length xs → x ≡ get_or xs i x → next ≡ ys ++ y ∷ []
    → AllZip R (take i xs) ys → R x y → AllZip R (take (i + 1) xs) next
zip_more {A} {B} R xs i x ys next y lt here more all is =
    let longer : take (i + 1) xs ≡ take i xs ++ x ∷ [] =
    take_more xs i x lt ∙ ap (λ (z : A). take i xs ++ z ∷ []) (sym here) in
    subst (λ (zs : List B). AllZip R (take (i + 1) xs) zs) (sym more)
    (subst (λ (as' : List A). AllZip R as' (ys ++ y ∷ [])) (sym longer)
    (zip_push R (take i xs) ys x y all is))

-- each of a list has its line
pub zip_whole : {A B : Type 0} (R : A → B → Type 0) (xs : List A) (i : ℕ) (ys : List B)
    → length xs ≤ i → AllZip R (take i xs) ys → AllZip R xs ys
zip_whole {A} {B} R xs i ys past all =
    subst (λ (as' : List A). AllZip R as' ys) (take_all i xs past) all

unnamed_then : (told : List ToldPart) (n : ℕ) (b : Bool) → is_named told n ≡ b
    → unnamed told (n + 1) ≡ unnamed told n ++ (if b then [] else n ∷ [])
unnamed_then told n b is =
    let next : n + 1 ≡ suc n = omega arith in
    ap (unnamed told) next ∙ ap (λ (c : Bool). unnamed told n ++ (if c then [] else n ∷ [])) is

-- a block that a part names has no line of its own
pub left_same : {B : Type 0} (R : ℕ → B → Type 0) (told : List ToldPart) (n : ℕ) (ys : List B)
    → is_named told n ≡ true → AllZip R (unnamed told n) ys → AllZip R (unnamed told (n + 1)) ys
left_same R told n ys is all =
    subst (λ (ns : List ℕ). AllZip R ns ys)
    (sym (unnamed_then told n true is ∙ append-nil (unnamed told n))) all

-- another block has one
pub left_more : {B : Type 0} (R : ℕ → B → Type 0) (told : List ToldPart) (n : ℕ) (ys next : List B)
    (y : B) → is_named told n ≡ false → next ≡ ys ++ y ∷ [] → AllZip R (unnamed told n) ys → R n y
    → AllZip R (unnamed told (n + 1)) next
left_more {B} R told n ys next y is more all here =
    subst (λ (zs : List B). AllZip R (unnamed told (n + 1)) zs) (sym more)
    (subst (λ (ns : List ℕ). AllZip R ns (ys ++ y ∷ [])) (sym (unnamed_then told n false is))
    (zip_push R (unnamed told n) ys n y all here))
