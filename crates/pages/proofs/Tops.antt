-- Clones of a whole list, and its first items.
use Rattle.std.proofs.Common.{◌≡◌, ◌⊎◌, ◌+◌, ◌*◌, ℕ, ◌<◌, List, [], ◌∷◌, map, length, get_or, drop, slice_get, Vec, Global, Some, sym, ap, ◌∙◌, subst, arith, ⊎_elim}
use Rattle.std.specs.List.{AllZip}
use Rattle.std.proofs.lemmas.List.{get_or-drop}
use Rattle.std.specs.Arc.{arc_value}
use Rattle.std.proofs.lemmas.List.Elements.{AllZip-get_or, length_all_zip}
use Rattle.pages.specs.Pages.{Page, leaf_list, branch_list, branch_lists, flattened, IsPaged, IsBranch, AreBranches, IsPrefix}
use Rattle.pages.proofs.Clones.{zip_items}
use Rattle.pages.proofs.Pieces.{get_drop}

pub first_of : {E X : Type 0} (item : E → X) (front : List E) (xs : List X) (i : ℕ) (x : E) → 0 < length front → IsPrefix (map item front) (drop i xs) → x ≡ get_or front 0 x → slice_get xs i ≡ Some (item x)
first_of item [] xs i x h b e = absurd (omega arith)
first_of item (y ∷ ys) xs i x h b e = get_drop xs i ∙ (ap (λ l. slice_get l 0) b.1 ∙ ap (λ z. Some (item z)) (sym e))

pub first_at : {E X : Type 0} (item : E → X) (front : List E) (xs : List X) (i : ℕ) (x : E) → 0 < length front → IsPrefix (map item front) (drop i xs) → x ≡ get_or front 0 x → item x ≡ get_or xs i (item x)
first_at item [] xs i x h b e = absurd (omega arith)
first_at item (y ∷ ys) xs i x h b e =
    let here : i + 0 ≡ i = omega arith in
    ap item e ∙ sym (ap (λ l. get_or l 0 (item x)) b.1) ∙ get_or-drop i xs 0 (item x) ∙ ap (λ k. get_or xs k (item x)) here

-- a clone of a branch is the same page
abbrev pub SamePage : {E : Type 0} → Page (Page E) → Page (Page E) → Type 0
SamePage c d = arc_value d ≡ arc_value c

module _ {E X : Type 0} (item : E → X) where
  same_list : (x y : Page (Page E)) → SamePage x y → branch_list item y ≡ branch_list item x
  same_list x y e = ap (λ (u : Vec (Page E) Global). flattened (map (leaf_list item) u.items)) e

  same_branch : (n : ℕ) (x y : Page (Page E)) → SamePage x y → IsBranch item n x → IsBranch item n y
  same_branch n x y e h = subst (λ (u : Vec (Page E) Global). IsPaged n (map (leaf_list item) u.items)) (sym e) h

  pub same_parts : (xs ys : List (Page (Page E))) → AllZip SamePage xs ys → branch_lists item ys ≡ branch_lists item xs
  same_parts xs ys z = zip_items (branch_list item) SamePage same_list xs ys z

  zip_branches : (n : ℕ) (xs ys : List (Page (Page E))) → AllZip SamePage xs ys → AreBranches item n xs → AreBranches item n ys
  zip_branches n xs ys z h = record {
    paged = subst (IsPaged (n * 128)) (sym (same_parts xs ys z)) h.paged;
    each = λ k d l.
        let below : k < length xs = omega (arith, length_all_zip SamePage xs ys z) in
        same_branch n (get_or xs k d) (get_or ys k d) (AllZip-get_or SamePage xs ys k d d z below) (h.each k d below);
  }

  -- a page of branches, or a clone of it
  pub top_clone : (v w : Vec (Page (Page E)) Global) (P : Type 0) → (w ≡ v) ⊎ (AllZip SamePage v.items w.items × P) → branch_lists item w.items ≡ branch_lists item v.items
  top_clone v w P h = ⊎_elim (λ e. ap (λ (u : Vec (Page (Page E)) Global). branch_lists item u.items) e) (λ z. same_parts v.items w.items z.0) h

  pub branches_clone : (n : ℕ) (v w : Vec (Page (Page E)) Global) (P : Type 0) → (w ≡ v) ⊎ (AllZip SamePage v.items w.items × P) → AreBranches item n v.items → AreBranches item n w.items
  branches_clone n v w P h b = ⊎_elim (λ e. subst (λ (u : Vec (Page (Page E)) Global). AreBranches item n u.items) (sym e) b) (λ z. zip_branches n v.items w.items z.0 b) h
