-- A clone of a page has the items of the page.
use Rattle.std.proofs.Common.{◌≡◌, ◌⊎◌, ◌∙◌, ℕ, List, [], ◌∷◌, map, set, Vec, Global, Result, Ok, Err, OnErr, OnOk, IsOk, refl, ap, ap₂, ⊎_elim}
use Rattle.std.specs.Vec.{with_item}
use Rattle.std.specs.Arc.{arc_value}
use Rattle.pages.specs.Pages.{Page, leaf_list, branch_parts}
use Rattle.std.proofs.lemmas.List.{map-set}
use Rattle.std.specs.List.{AllZip}

pub zip_items : {E X : Type 0} (item : E → X) (is_clone : E → E → Type 0) → ((x y : E) → is_clone x y → item y ≡ item x) → (xs ys : List E) → AllZip is_clone xs ys → map item ys ≡ map item xs
zip_items item is_clone same [] [] z = refl
zip_items item is_clone same [] (y ∷ ys) z = absurd z
zip_items item is_clone same (x ∷ xs) [] z = absurd z
zip_items item is_clone same (x ∷ xs) (y ∷ ys) z = ap₂ (λ a b. a ∷ b) (same x y z.0) (zip_items item is_clone same xs ys z.1)

pub clone_items : {E X : Type 0} (item : E → X) (is_clone : E → E → Type 0) → ((x y : E) → is_clone x y → item y ≡ item x) → (v w : Vec E Global) (P : Type 0) → (w ≡ v) ⊎ (AllZip is_clone v.items w.items × P) → map item w.items ≡ map item v.items
clone_items item is_clone same v w P h = ⊎_elim (λ e. ap (λ (u : Vec _ Global). map item u.items) e) (λ z. zip_items item is_clone same v.items w.items z.0) h

pub on_err : {T E P : Type 0} (r : Result T E) → P → OnErr r P
on_err (Ok x) p = tt
on_err (Err e) p = p

pub is_ok_from : {T E : Type 0} (r : Result T E) (x : T) → r ≡ Ok x → IsOk r
is_ok_from r x e = rw e refl

-- a page, or a clone of it, after a write
pub page_set : {E X : Type 0} (item : E → X) (is_clone : E → E → Type 0) → ((x y : E) → is_clone x y → item y ≡ item x) → (old own new : Vec E Global) (at : ℕ) (x : E) (P : Type 0) → (own ≡ old) ⊎ (AllZip is_clone old.items own.items × P) → new ≡ with_item own at x → map item new.items ≡ set (map item old.items) at (item x)
page_set item is_clone same old own new at x P h e =
    ap (λ (u : Vec _ Global). map item u.items) e ∙ (map-set item own.items at x ∙ ap (λ l. set l at (item x)) (clone_items item is_clone same old own P h))

-- what holds in either case
pub in_either : {T E P Q C : Type 0} (r : Result T E) → (P → C) → (Q → C) → OnOk r P → OnErr r Q → C
in_either (Ok x) f g p q = f p
in_either (Err e) f g p q = g q

-- a clone of a branch has the leaves of the branch
pub branch_clone : {E X : Type 0} (item : E → X) (v w : Vec (Page E) Global) (P : Type 0) → (w ≡ v) ⊎ (AllZip (λ c d. arc_value d ≡ arc_value c) v.items w.items × P) → map (leaf_list item) w.items ≡ map (leaf_list item) v.items
branch_clone item v w P h =
    clone_items (leaf_list item) (λ c d. arc_value d ≡ arc_value c) (λ x y e. ap (λ (u : Vec _ Global). map item u.items) e) v w P h

-- a clone of pages has their lists
pub pages_clone : {E X : Type 0} (item : E → X) (xs ys : List (Page E)) → AllZip (λ c d. arc_value d ≡ arc_value c) xs ys → map (leaf_list item) ys ≡ map (leaf_list item) xs
pages_clone item xs ys z =
    zip_items (leaf_list item) (λ c d. arc_value d ≡ arc_value c) (λ x y e. ap (λ (u : Vec _ Global). map item u.items) e) xs ys z

-- a clone of the page of groups has the groups
pub groups_clone : {E X : Type 0} (item : E → X) (v w : Vec (Page (Page E)) Global) (P : Type 0) → (w ≡ v) ⊎ (AllZip (λ c d. arc_value d ≡ arc_value c) v.items w.items × P) → map (branch_parts item) w.items ≡ map (branch_parts item) v.items
groups_clone item v w P h =
    clone_items (branch_parts item) (λ c d. arc_value d ≡ arc_value c) (λ x y e. ap (λ (u : Vec (Page _) Global). map (leaf_list item) u.items) e) v w P h
