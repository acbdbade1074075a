-- A change of one item in its page.
use Rattle.std.proofs.Common.{◌≡◌, ◌⊎◌, ℕ, zero, suc, ◌+◌, ◌/◌, ◌%◌, ◌<◌, List, [], ◌∷◌, map, length, get_or, set, drop, Vec, Global, refl, sym, ap, ◌∙◌, arith, length-drop, length-append, length-set}
use Rattle.std.specs.List.{AllZip}
use Rattle.std.specs.Vec.{with_item}
use Rattle.std.proofs.lemmas.List.{get_or-drop, get_or_append_left, get_or-map, map-set, length-map}
use Rattle.pages.specs.Pages.{flattened, IsPaged, IsChanged, IsSetAt}
use Rattle.pages.proofs.Parts.{IsPlace}
use Rattle.pages.proofs.Clones.{clone_items}
use Rattle.pages.proofs.Pieces.{held_by, part_read, part_at, whole_set}

set_itself : {X : Type 0} (xs : List X) (i : ℕ) (d : X) → set xs i (get_or xs i d) ≡ xs
set_itself [] i d = refl
set_itself (x ∷ xs) zero d = refl
set_itself (x ∷ xs) (suc i) d = ap (λ t. x ∷ t) (set_itself xs i d)

-- an entry of a page, or of a clone of it, is changed
module _ {E X : Type 0} (item : E → X) (is_clone : E → E → Type 0) (same : (x y : E) → is_clone x y → item y ≡ item x) (old own new : Vec E Global) (at : ℕ) (x y : E) (P : Type 0) (clone : (own ≡ old) ⊎ (AllZip is_clone old.items own.items × P)) (is : new ≡ with_item own at y) where
  pub page_changed : (after : X → X) → at < length (map item old.items) → x ≡ get_or own.items at x → item y ≡ after (item x) → IsChanged after (map item old.items) at (map item new.items)
  page_changed after h read e d =
      ap (λ (u : Vec _ Global). map item u.items) is
      ∙ map-set item own.items at y
      ∙ (λ i. set (items i) at (e i))
      ∙ ap (λ z. set (map item old.items) at (after z)) (ap item read ∙ sym (get_or-map item own.items at x d (omega (arith, h, ap length items, length-map own.items item))) ∙ ap (λ l. get_or l at d) items)
    where
      items : map item own.items ≡ map item old.items
      items = clone_items item is_clone same old own P clone

  -- an entry of a page, or of a clone of it, is as it was
  pub page_same : at < length (map item old.items) → x ≡ get_or own.items at x → item y ≡ item x → map item new.items ≡ map item old.items
  page_same h read e = page_changed (λ z. z) h read e (item x) ∙ set_itself (map item old.items) at (item x)

-- what is as it was has what may be another
pub set_as_it_was : {X : Type 0} (xs : List X) (at : ℕ) {new : List X} → at < length xs → new ≡ xs → IsSetAt xs at new
set_as_it_was [] at h e = absurd (omega (arith, h))
set_as_it_was (x ∷ xs) at h e = (get_or (x ∷ xs) at x, e ∙ sym (set_itself (x ∷ xs) at x))

-- the same, of an equal list and to an equal one
pub set_after : {X : Type 0} (at : ℕ) {old own new made : List X} → own ≡ old → new ≡ made → IsSetAt own at made → IsSetAt old at new
set_after at e f is = (is.0, f ∙ is.1 ∙ ap (λ l. set l at is.0) e)

-- a change keeps how many items there are
pub changed_count : {X : Type 0} (after : X → X) (old : List X) (at : ℕ) (new : List X) → at < length old → IsChanged after old at new → length new ≡ length old
changed_count after [] at new h is = absurd (omega (arith, h))
changed_count after (x ∷ xs) at new h is = ap length (is x) ∙ length-set (x ∷ xs) at (after (get_or (x ∷ xs) at x))

-- the same change of a list that is read from equal things
pub changed_in : {L X : Type 0} (after : X → X) (whole : L → List X) (place : L → ℕ) {own old : L} {new made : List X} → own ≡ old → new ≡ made → IsChanged after (whole own) (place own) made → IsChanged after (whole old) (place old) new
changed_in after whole place e f is d = f ∙ is d ∙ ap (λ l. set (whole l) (place l) (after (get_or (whole l) (place l) d))) e

-- the same change, of an equal list and to an equal one
pub changed_after : {X : Type 0} (after : X → X) (at : ℕ) {old own new made : List X} → own ≡ old → new ≡ made → IsChanged after own at made → IsChanged after old at new
changed_after after at e f is d = f ∙ is d ∙ ap (λ l. set l at (after (get_or l at d))) e

module _ {P X : Type 0} (shown : P → List X) where
  -- an item of all pages is the one of its page
  pub item_at : (pages : List P) (at q r : ℕ) (page : P) (d : X) → IsPlace (map shown pages) at q r → page ≡ get_or pages q page → get_or (flattened (map shown pages)) at d ≡ get_or (shown page) r d
  item_at pages at q r page d w e =
      let here : at + 0 ≡ at = omega arith in
      let there : r + 0 ≡ r = omega arith in
      let some : 0 < length (drop r (get_or (map shown pages) q [])) = let h = w.item_in in omega (arith, h, length-drop r (get_or (map shown pages) q [])) in
      ap (λ i. get_or (flattened (map shown pages)) i d) (sym here)
      ∙ sym (get_or-drop at (flattened (map shown pages)) 0 d)
      ∙ ap (λ l. get_or l 0 d) w.rest
      ∙ get_or_append_left (drop r (get_or (map shown pages) q [])) _ d 0 some
      ∙ get_or-drop r (get_or (map shown pages) q []) 0 d
      ∙ ap (λ i. get_or (get_or (map shown pages) q []) i d) there
      ∙ ap (λ l. get_or l r d) (part_read shown pages at q r page w e)

  -- an item of a page is changed
  pub whole_changed : (after : X → X) (n : ℕ) (pages : List P) (at : ℕ) (page new : P) → 0 < n → IsPaged n (map shown pages) → at < length (flattened (map shown pages)) → page ≡ get_or pages (at / n) page → IsChanged after (shown page) (at % n) (shown new) → IsChanged after (flattened (map shown pages)) at (flattened (map shown (set pages (at / n) new)))
  whole_changed after n pages at page new h paged held e is d =
      whole_set shown n pages at page new (after (get_or (shown page) (at % n) d)) h paged held e (is d)
      ∙ ap (λ x. set (flattened (map shown pages)) at (after x)) (sym (item_at pages at (at / n) (at % n) page d (held_by shown n pages at h paged held) e))

  -- an item of a page may be another
  pub whole_others : (n : ℕ) (pages : List P) (at : ℕ) (page new : P) → 0 < n → IsPaged n (map shown pages) → at < length (flattened (map shown pages)) → page ≡ get_or pages (at / n) page → IsSetAt (shown page) (at % n) (shown new) → IsSetAt (flattened (map shown pages)) at (flattened (map shown (set pages (at / n) new)))
  whole_others n pages at page new h paged held e is =
      (is.0, whole_set shown n pages at page new is.0 h paged held e is.1)

  pub whole_count : (pages : List P) (q : ℕ) (page new : P) → q < length pages → page ≡ get_or pages q page → length (shown new) ≡ length (shown page) → length (flattened (map shown (set pages q new))) ≡ length (flattened (map shown pages))
  whole_count pages q page new h e is =
      ap (λ l. length (flattened l)) (map-set shown pages q new)
      ∙ flattened_count (map shown pages) q (shown new) (is ∙ ap length (sym (part_at shown pages q page h e)))
    where
      flattened_count : (parts : List (List X)) (k : ℕ) (part : List X) → length part ≡ length (get_or parts k []) → length (flattened (set parts k part)) ≡ length (flattened parts)
      flattened_count [] k part l = refl
      flattened_count (p ∷ ps) zero part l = omega (arith, l, length-append part (flattened ps), length-append p (flattened ps))
      flattened_count (p ∷ ps) (suc k) part l =
          let rest = flattened_count ps k part l in
          omega (arith, rest, length-append p (flattened (set ps k part)), length-append p (flattened ps))
