-- Inserts into the pages of a sequence.
use Rattle.std.proofs.Common.{◌≡◌, ℕ, zero, suc, ◌+◌, ◌-◌, ◌<◌, ◌≤◌, List, [], ◌∷◌, ◌++◌, map, length, get_or, set, take, drop, Vec, Global, vec_len, refl, sym, ap, ◌∙◌, subst, arith, zero-add, add-one, length-set, length-append, length-take-le, length-drop, append_assoc, take-append-drop}
use Rattle.std.specs.List.{insert}
use Rattle.std.proofs.lemmas.List.{map-append, map-set, take-map, drop-map, length-map, get_or_default, set-append_left, set-append_right}
use Rattle.std.specs.Arc.{arc_value}
use Rattle.std.proofs.lemmas.List.Edits.{insert-append_left, insert-append_right, length-insert}
use Rattle.std.proofs.lemmas.List.Elements.{All-set, All-append, All-cons, All-take, All-drop}
use Rattle.pages.specs.Pages.{Page, leaf_list, flattened, IsChanged}
use Rattle.pages.specs.Sorted.{start_of, MakesPage, EachMakesPage, IsGroup, IsSpotIn}
use Rattle.pages.specs.declared.probe.Spot.{Spot}
use Rattle.pages.proofs.Pieces.{part_at}
use Rattle.pages.proofs.Spots.{item_at}

-- an item joins a page
pub insert_at : {X : Type 0} (parts : List (List X)) (k at : ℕ) (x : X) → k < length parts → at ≤ length (get_or parts k []) → flattened (set parts k (insert (get_or parts k []) at x)) ≡ insert (flattened parts) (start_of parts k + at) x
insert_at [] k at x h l = absurd (omega arith)
insert_at (q ∷ qs) zero at x h l = rw (zero-add at) (sym (insert-append_left q (flattened qs) at x l))
insert_at (q ∷ qs) (suc k) at x h l =
    let t : List _ = flattened (take k qs) in
    let i : ℕ = length (q ++ t) + at in
    let e : start_of qs k + at ≡ i - length q = omega (arith, length-append q t) in
    ap (λ s. q ++ s) (insert_at qs k at x (omega arith) l ∙ ap (λ n. insert (flattened qs) n x) e)
    ∙ sym (insert-append_right q (flattened qs) (length q) i x refl (omega (arith, length-append q t)))

-- a page becomes two
split_at : {X : Type 0} (parts : List (List X)) (k : ℕ) (left right : List X) → k < length parts → flattened (set (insert parts (suc k) right) k left) ≡ flattened (set parts k (left ++ right))
split_at [] k left right h = absurd (omega arith)
split_at (q ∷ qs) zero left right h = sym (append_assoc left right (flattened qs))
split_at (q ∷ qs) (suc k) left right h = ap (λ s. q ++ s) (split_at qs k left right (omega arith))

kept_insert : {X : Type 0} (parts : List (List X)) (k : ℕ) (right : List X) → EachMakesPage parts → MakesPage right → EachMakesPage (insert parts k right)
kept_insert parts k right kept ok =
    All-append MakesPage (take k parts) (right ∷ drop k parts) (All-take MakesPage k parts kept) (All-cons MakesPage right (drop k parts) ok (All-drop MakesPage k parts kept))

pub map_insert : {P X : Type 0} (shown : P → X) (pages : List P) (k : ℕ) (new : P) → map shown (insert pages k new) ≡ insert (map shown pages) k (shown new)
map_insert shown pages k new =
    map-append shown (take k pages) (new ∷ drop k pages)
    ∙ (ap (λ s. s ++ (shown new ∷ map shown (drop k pages))) (sym (take-map shown k pages))
    ∙ ap (λ s. take k (map shown pages) ++ (shown new ∷ s)) (sym (drop-map shown k pages)))

module _ {P X : Type 0} (shown : P → List X) (pages : List P) (k : ℕ) (page : P) (within : k < length pages) (is : page ≡ get_or pages k page) where
  -- a page with one more item
  pub page_insert : (new : P) (at : ℕ) (x : X) → at ≤ length (shown page) → shown new ≡ insert (shown page) at x → flattened (map shown (set pages k new)) ≡ insert (flattened (map shown pages)) (start_of (map shown pages) k + at) x
  page_insert new at x l e =
      let part : get_or (map shown pages) k [] ≡ shown page = part_at shown pages k page within is in
      ap flattened (map-set shown pages k new ∙ ap (λ s. set (map shown pages) k s) (e ∙ ap (λ s. insert s at x) (sym part)))
      ∙ insert_at (map shown pages) k at x (omega (arith, length-map pages shown)) (subst (λ s. at ≤ length s) (sym part) l)

  pub page_kept : (new : P) → EachMakesPage (map shown pages) → MakesPage (shown new) → EachMakesPage (map shown (set pages k new))
  page_kept new kept ok = subst EachMakesPage (sym (map-set shown pages k new)) (All-set MakesPage (map shown pages) k (shown new) ok kept)

  two : (left right : P) → map shown (set (insert pages (k + 1) right) k left) ≡ set (insert (map shown pages) (suc k) (shown right)) k (shown left)
  two left right =
      map-set shown (insert pages (k + 1) right) k left
      ∙ ap (λ s. set s k (shown left)) (map_insert shown pages (k + 1) right ∙ ap (λ n. insert (map shown pages) n (shown right)) (add-one k))

  -- a page that became two, with one more item
  pub pages_insert : (left right : P) (at : ℕ) (x : X) → at ≤ length (shown page) → shown left ++ shown right ≡ insert (shown page) at x → flattened (map shown (set (insert pages (k + 1) right) k left)) ≡ insert (flattened (map shown pages)) (start_of (map shown pages) k + at) x
  pages_insert left right at x l e =
      let part : get_or (map shown pages) k [] ≡ shown page = part_at shown pages k page within is in
      let among : k < length (map shown pages) = omega (arith, length-map pages shown) in
      ap flattened (two left right)
      ∙ (split_at (map shown pages) k (shown left) (shown right) among
      ∙ (ap (λ s. flattened (set (map shown pages) k s)) (e ∙ ap (λ s. insert s at x) (sym part))
      ∙ insert_at (map shown pages) k at x among (subst (λ s. at ≤ length s) (sym part) l)))

  pub pages_kept : (left right : P) → EachMakesPage (map shown pages) → MakesPage (shown left) → MakesPage (shown right) → EachMakesPage (map shown (set (insert pages (k + 1) right) k left))
  pages_kept left right kept l r =
      subst EachMakesPage (sym (two left right)) (All-set MakesPage (insert (map shown pages) (suc k) (shown right)) k (shown left) l (kept_insert (map shown pages) (suc k) (shown right) kept r))

-- one more item than a page that is not full
pub kept_more : {X : Type 0} (page new : List X) (at : ℕ) (x : X) → at ≤ length page → length page < 128 → new ≡ insert page at x → MakesPage new
kept_more page new at x l room e =
    let n : length new ≡ length page + 1 = ap length e ∙ length-insert page at x l in
    (omega arith, omega arith)

-- the two halves of a full page with one more item
pub kept_halves : {E X : Type 0} (item : E → X) (page long : List E) (at : ℕ) (x : X) → at ≤ length page → length page ≡ 128 → map item long ≡ insert (map item page) at x → MakesPage (map item (take 64 long)) × MakesPage (map item (drop 64 long))
kept_halves item page long at x l full e =
    let n : length long ≡ 129 = sym (length-map long item) ∙ (ap length e ∙ (length-insert (map item page) at x (omega (arith, length-map page item)) ∙ omega (arith, length-map page item))) in
    let a : length (map item (take 64 long)) ≡ 64 = length-map (take 64 long) item ∙ length-take-le 64 long (omega arith) in
    let b : length (map item (drop 64 long)) ≡ 65 = length-map (drop 64 long) item ∙ (length-drop 64 long ∙ omega arith) in
    ((omega arith, omega arith), (omega arith, omega arith))

pub whole_halves : {E X : Type 0} (item : E → X) (long left right : List E) (n : ℕ) → left ≡ take n long → right ≡ drop n long → map item left ++ map item right ≡ map item long
whole_halves item long left right n l r =
    sym (map-append item left right) ∙ ap (map item) (ap (λ s. s ++ right) l ∙ (ap (λ s. take n long ++ s) r ∙ take-append-drop n long))

-- two reads of one place
pub same_read : {P : Type 0} (pages : List P) (k : ℕ) (a b : P) → k < length pages → a ≡ get_or pages k a → b ≡ get_or pages k b → a ≡ b
same_read pages k a b h e f = e ∙ (get_or_default pages k a b h ∙ sym f)

-- the room in a page that was read
pub room_in : {E X : Type 0} (item : E → X) (page : Page E) (v : Vec E Global) (n : ℕ) → v ≡ arc_value page → n ≡ vec_len v → n < 128 → length (leaf_list item page) < 128
room_in item page v n e f h =
    subst (λ (u : Vec _ Global). length (map item u.items) < 128) e (omega (arith, length-map v.items item, v.ok.0))

-- the page of a spot
pub page_of : {P X : Type 0} (shown : P → List X) (pages : List P) (spot : Spot) → IsGroup (map shown pages) → IsSpotIn (map shown pages) spot → spot.page < length pages
page_of shown pages spot h s =
    let among : spot.page < length (map shown pages) = s.page_in h.0 in
    omega (arith, length-map pages shown)

-- the length of a page that was read
pub page_len : {E X : Type 0} (item : E → X) (page : Page E) (v : Vec E Global) (n : ℕ) → v ≡ arc_value page → n ≡ vec_len v → n ≡ length (leaf_list item page)
page_len item page v n e f =
    subst (λ (u : Vec _ Global). n ≡ length (map item u.items)) e (omega (arith, f, length-map v.items item, v.ok.0))

-- how many pages there are
pub some_set : {P X : Type 0} (shown : P → X) (pages : List P) (k : ℕ) (new : P) → 0 < length (map shown pages) → 0 < length (map shown (set pages k new))
some_set shown pages k new h = omega (arith, length-map (set pages k new) shown, length-set pages k new, length-map pages shown)

pub two_len : {P : Type 0} (pages : List P) (k : ℕ) (left right : P) → k < length pages → length (set (insert pages (k + 1) right) k left) ≡ length pages + 1
two_len pages k left right h = length-set (insert pages (k + 1) right) k left ∙ length-insert pages (k + 1) right (omega arith)

pub some_two : {P X : Type 0} (shown : P → X) (pages : List P) (k : ℕ) (left right : P) → k < length pages → 0 < length (map shown (set (insert pages (k + 1) right) k left))
some_two shown pages k left right h =
    omega (arith, length-map (set (insert pages (k + 1) right) k left) shown, two_len pages k left right h)

-- an item of a page is replaced
pub set_spot : {X : Type 0} (parts : List (List X)) (k at : ℕ) (x : X) → at < length (get_or parts k []) → flattened (set parts k (set (get_or parts k []) at x)) ≡ set (flattened parts) (start_of parts k + at) x
set_spot [] k at x l = absurd (omega arith)
set_spot (q ∷ qs) zero at x l = rw (zero-add at) (sym (set-append_left q (flattened qs) at x l))
set_spot (q ∷ qs) (suc k) at x l =
    let t : List _ = flattened (take k qs) in
    let i : ℕ = length (q ++ t) + at in
    let e : start_of qs k + at ≡ i - length q = omega (arith, length-append q t) in
    ap (λ s. q ++ s) (set_spot qs k at x l ∙ ap (λ n. set (flattened qs) n x) e)
    ∙ sym (set-append_right q (flattened qs) (length q) i x refl (omega (arith, length-append q t)))

-- a page with one item replaced
pub page_set_spot : {P X : Type 0} (shown : P → List X) (pages : List P) (k : ℕ) (page new : P) (at : ℕ) (x : X) → k < length pages → page ≡ get_or pages k page → at < length (shown page) → shown new ≡ set (shown page) at x → flattened (map shown (set pages k new)) ≡ set (flattened (map shown pages)) (start_of (map shown pages) k + at) x
page_set_spot shown pages k page new at x within is l e =
    let part : get_or (map shown pages) k [] ≡ shown page = part_at shown pages k page within is in
    ap flattened (map-set shown pages k new ∙ ap (λ s. set (map shown pages) k s) (e ∙ ap (λ s. set s at x) (sym part)))
    ∙ set_spot (map shown pages) k at x (subst (λ s. at < length s) (sym part) l)

-- a page with one item changed
pub page_change_spot : {P X : Type 0} (shown : P → List X) (pages : List P) (k : ℕ) (page new : P) (at : ℕ) (after : X → X) → k < length pages → page ≡ get_or pages k page → at < length (shown page) → IsChanged after (shown page) at (shown new) → IsChanged after (flattened (map shown pages)) (start_of (map shown pages) k + at) (flattened (map shown (set pages k new)))
page_change_spot shown pages k page new at after within is l changed d =
    let part : get_or (map shown pages) k [] ≡ shown page = part_at shown pages k page within is in
    page_set_spot shown pages k page new at (after (get_or (shown page) at d)) within is l (changed d)
    ∙ ap (λ x. set (flattened (map shown pages)) (start_of (map shown pages) k + at) (after x))
    (sym (item_at (map shown pages) k at d (omega (arith, length-map pages shown)) (subst (λ s. at < length s) (sym part) l) ∙ ap (λ s. get_or s at d) part))

pub kept_same : {X : Type 0} (page new : List X) → MakesPage page → length new ≡ length page → MakesPage new
kept_same page new h e = (omega (arith, h.0), omega (arith, h.1))
