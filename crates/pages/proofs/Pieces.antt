-- Pages, each seen as a list.
use Rattle.std.proofs.Common.{◌≡◌, ℕ, zero, suc, ◌/◌, ◌%◌, ◌<◌, ◌≤◌, List, [], ◌∷◌, ◌++◌, map, length, get_or, set, drop, slice_get, All, Vec, Global, vec_len, refl, sym, ap, ◌∙◌, subst, arith, length-drop, append_assoc}
use Rattle.std.proofs.lemmas.List.{get_or-map, length-map, map-set, map_push, drop-map, append-nil}
use Rattle.pages.specs.Pages.{Page, branch_parts, branch_list, IsBranch, flattened, IsPaged, IsPrefix}
use Rattle.pages.proofs.Parts.{IsPlace, place_of}
use Rattle.pages.proofs.Writes.{set_at_place, paged_set, IsPushed, push_at_place, flattened_push, paged_push}

pub vec_bound : {P : Type 0} (v : Vec P Global) (i : ℕ) → i < length v.items → i < vec_len v
vec_bound v i h = omega (arith, v.ok.0)

pub vec_room : {P : Type 0} (v : Vec P Global) (i n : ℕ) → n ≡ vec_len v → i < n → i < length v.items
vec_room v i n e h = omega (arith, v.ok.0)

pub vec_full : {P : Type 0} (v : Vec P Global) (i n : ℕ) → n ≡ vec_len v → n ≤ i → length v.items ≤ i
vec_full v i n e h = omega (arith, v.ok.0)

pub get_drop : {X : Type 0} (xs : List X) (i : ℕ) → slice_get xs i ≡ slice_get (drop i xs) 0
get_drop [] zero = refl
get_drop [] (suc i) = refl
get_drop (x ∷ xs) zero = refl
get_drop (x ∷ xs) (suc i) = get_drop xs i

-- what holds of each page holds of the page that was read
pub all_read : {P : Type 0} (F : P → Type 0) (pages : List P) (q : ℕ) (page : P) → All F pages → q < length pages → page ≡ get_or pages q page → F page
all_read F pages q page all h e = subst F (sym e) (all q page h)

-- a branch of one item
pub branch_new : {E X : Type 0} (item : E → X) (branch : Page (Page E)) (x : X) → branch_parts item branch ≡ (x ∷ []) ∷ [] → branch_list item branch ≡ x ∷ []
branch_new item branch x e = ap flattened e

pub is_branch_new : {E X : Type 0} (item : E → X) (n : ℕ) (branch : Page (Page E)) (x : X) → 0 < n → branch_parts item branch ≡ (x ∷ []) ∷ [] → IsBranch item n branch
is_branch_new item n branch x h e = rw e (omega (arith, h))

-- the rest of a leaf
pub leaf_prefix : {E X : Type 0} (item : E → X) (items front : List E) (r : ℕ) → front ≡ drop r items → IsPrefix (map item front) (drop r (map item items))
leaf_prefix item items front r e = ([], drop-map item r items ∙ (ap (λ l. map item l) (sym e) ∙ sym (append-nil (map item front))))

pub leaf_held : {E X : Type 0} (item : E → X) (items front : List E) (r : ℕ) → r < length (map item items) → front ≡ drop r items → 0 < length front
leaf_held item items front r h e = omega (arith, ap length e, length-drop r items, length-map items item)

module _ {P X : Type 0} (shown : P → List X) where
  -- the page that holds an item
  pub held_by : (n : ℕ) (pages : List P) (at : ℕ) → 0 < n → IsPaged n (map shown pages) → at < length (flattened (map shown pages)) → IsPlace (map shown pages) at (at / n) (at % n)
  held_by n pages at h paged held = place_of n (map shown pages) (at / n) (at % n) at paged (omega arith) (omega arith) held

  pub page_in : (pages : List P) (at q r : ℕ) → IsPlace (map shown pages) at q r → q < length pages
  page_in pages at q r w = omega (arith, w.part_in, length-map pages shown)

  -- the page that was read is the part
  pub part_at : (pages : List P) (q : ℕ) (page : P) → q < length pages → page ≡ get_or pages q page → get_or (map shown pages) q [] ≡ shown page
  part_at pages q page h e = get_or-map shown pages q page [] h ∙ ap shown (sym e)

  pub part_read : (pages : List P) (at q r : ℕ) (page : P) → IsPlace (map shown pages) at q r → page ≡ get_or pages q page → get_or (map shown pages) q [] ≡ shown page
  part_read pages at q r page w e = part_at pages q page (page_in pages at q r w) e

  pub item_in_page : (pages : List P) (at q r : ℕ) (page : P) → IsPlace (map shown pages) at q r → page ≡ get_or pages q page → r < length (shown page)
  item_in_page pages at q r page w e = subst (λ l. r < length l) (part_read pages at q r page w e) w.item_in

  pub prefix_in : (pages : List P) (at q r : ℕ) (page : P) (front : List X) → IsPlace (map shown pages) at q r → page ≡ get_or pages q page → IsPrefix front (drop r (shown page)) → IsPrefix front (drop at (flattened (map shown pages)))
  prefix_in pages at q r page front w e b = (
    b.0 ++ flattened (drop (suc q) (map shown pages)),
    w.rest ∙ (ap (λ l. drop r l ++ flattened (drop (suc q) (map shown pages))) (part_read pages at q r page w e) ∙ (ap (λ l. l ++ flattened (drop (suc q) (map shown pages))) b.1 ∙ append_assoc front b.0 (flattened (drop (suc q) (map shown pages))))),
  )

  -- a page is written, at r
  pub whole_set : (n : ℕ) (pages : List P) (at : ℕ) (page new : P) (x : X) → 0 < n → IsPaged n (map shown pages) → at < length (flattened (map shown pages)) → page ≡ get_or pages (at / n) page → shown new ≡ set (shown page) (at % n) x → flattened (map shown (set pages (at / n) new)) ≡ set (flattened (map shown pages)) at x
  whole_set n pages at page new x h paged held e is =
      let w : IsPlace (map shown pages) at (at / n) (at % n) = held_by n pages at h paged held in
      ap flattened (map-set shown pages (at / n) new)
      ∙ (ap (λ l. flattened (set (map shown pages) (at / n) l)) (is ∙ ap (λ l. set l (at % n) x) (sym (part_read pages at (at / n) (at % n) page w e)))
      ∙ set_at_place n (map shown pages) (at / n) (at % n) at x paged (omega arith) (omega arith) held)

  -- a page is replaced by one of the same length
  pub still_paged : (n : ℕ) (pages : List P) (q : ℕ) (page new : P) → IsPaged n (map shown pages) → q < length pages → page ≡ get_or pages q page → length (shown new) ≡ length (shown page) → IsPaged n (map shown (set pages q new))
  still_paged n pages q page new paged h e is =
      subst (IsPaged n) (sym (map-set shown pages q new)) (paged_set n (map shown pages) q (shown new) paged (is ∙ ap length (sym (part_at pages q page h e))))

  -- a page is replaced by one of the same list
  pub whole_same : (pages : List P) (q : ℕ) (page new : P) → q < length pages → page ≡ get_or pages q page → shown new ≡ shown page → map shown (set pages q new) ≡ map shown pages
  whole_same pages q page new h e is =
      map-set shown pages q new ∙ (ap (λ l. set (map shown pages) q l) (is ∙ sym (part_at pages q page h e)) ∙ set_itself (map shown pages) q)
    where
      set_itself : (xs : List (List X)) (i : ℕ) → set xs i (get_or xs i []) ≡ xs
      set_itself [] i = refl
      set_itself (x ∷ xs) zero = refl
      set_itself (x ∷ xs) (suc i) = ap (λ t. x ∷ t) (set_itself xs i)

  -- an item joins the page that has room
  pub has_room : (n : ℕ) (pages : List P) (at : ℕ) (x : X) → 0 < n → IsPaged n (map shown pages) → at ≡ length (flattened (map shown pages)) → at / n < length pages → IsPushed n (map shown pages) (at / n) (at % n) x
  has_room n pages at x h paged end room =
      push_at_place n (map shown pages) (at / n) (at % n) x paged (omega arith) (omega arith) (omega (arith, length-map pages shown))

  pub room_len : (n : ℕ) (pages : List P) (at : ℕ) (x : X) (page : P) → 0 < n → IsPaged n (map shown pages) → at ≡ length (flattened (map shown pages)) → at / n < length pages → page ≡ get_or pages (at / n) page → at % n ≡ length (shown page)
  room_len n pages at x page h paged end room e =
      sym (has_room n pages at x h paged end room).part_len ∙ ap length (part_at pages (at / n) page room e)

  pub whole_push : (n : ℕ) (pages : List P) (at : ℕ) (page new : P) (x : X) → 0 < n → IsPaged n (map shown pages) → at ≡ length (flattened (map shown pages)) → at / n < length pages → page ≡ get_or pages (at / n) page → shown new ≡ shown page ++ x ∷ [] → (flattened (map shown (set pages (at / n) new)) ≡ flattened (map shown pages) ++ x ∷ []) × IsPaged n (map shown (set pages (at / n) new))
  whole_push n pages at page new x h paged end room e is =
      let w : IsPushed n (map shown pages) (at / n) (at % n) x = has_room n pages at x h paged end room in
      let same : map shown (set pages (at / n) new) ≡ set (map shown pages) (at / n) (get_or (map shown pages) (at / n) [] ++ x ∷ []) =
      map-set shown pages (at / n) new ∙ ap (λ l. set (map shown pages) (at / n) l) (is ∙ ap (λ l. l ++ x ∷ []) (sym (part_at pages (at / n) page room e))) in
      (ap flattened same ∙ w.whole, subst (IsPaged n) (sym same) w.paged)

  -- an item in a new page
  pub page_push : (n : ℕ) (pages : List P) (at : ℕ) (new : P) (x : X) → 0 < n → IsPaged n (map shown pages) → at ≡ length (flattened (map shown pages)) → length pages ≤ at / n → shown new ≡ x ∷ [] → (flattened (map shown (pages ++ new ∷ [])) ≡ flattened (map shown pages) ++ x ∷ []) × IsPaged n (map shown (pages ++ new ∷ []))
  page_push n pages at new x h paged end room is =
      let same : map shown (pages ++ new ∷ []) ≡ map shown pages ++ (x ∷ []) ∷ [] =
      map_push shown pages new ∙ ap (λ l. map shown pages ++ l ∷ []) is in (
        ap flattened same ∙ flattened_push (map shown pages) (x ∷ []),
        subst (IsPaged n) (sym same) (paged_push n (map shown pages) (at / n) (at % n) (x ∷ []) paged (omega arith) (omega (arith, length-map pages shown)) (omega arith)),
      )
