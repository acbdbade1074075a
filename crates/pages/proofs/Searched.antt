-- What the searches of std answer, at pages and in one page.
use Rattle.std.proofs.Common.{◌≡◌, ℕ, suc, ◌+◌, ◌<◌, ◌≤◌, true, false, List, [], ◌∷◌, map, length, get_or, Result, Ok, Err, IfOk, IfErr, sym, subst, arith}
use Rattle.std.proofs.lemmas.List.{get_or-map, length-map}
use Rattle.std.specs.List.{AllWithin}
use Rattle.std.specs.List.Sorted.{IsSearchInRange, IsBinarySearchResult, IsNonDecreasingBy, IsPartitionedBy}
use Rattle.std.specs.Ordering.{ordering_index}
use Rattle.std.specs.declared.cmp.Ordering.{Ordering}
use Rattle.std.specs.declared.cmp.Ordering.TheVariants.{Less, Equal, Greater}
use Rattle.pages.specs.Pages.{flattened}
use Rattle.pages.specs.Sorted.{start_of, IsSplit, IsHit, IsGap, starts_low}
use Rattle.pages.proofs.Spots.{AreSome, low_before, hit_in, gap_in}
use Rattle.pages.proofs.Pieces.{part_at}

module _ {P X : Type 0} (shown : P → List X) (order : X → Ordering) where
  pub parted : (pages : List P) → AreSome (map shown pages) → IsSplit order (flattened (map shown pages)) → IsPartitionedBy (λ p. starts_low order (shown p)) pages
  parted pages kept split i j d l h e =
      subst (λ t. starts_low order t ≡ true) (get_or-map shown pages i d [] (omega arith))
      (low_before order (map shown pages) i j kept split l (omega (arith, length-map pages shown))
      (subst (λ t. starts_low order t ≡ true) (sym (get_or-map shown pages j d [] h)) e))

  pub low_of : (pages : List P) (n : ℕ) → n ≤ length pages → AllWithin (λ p. starts_low order (shown p) ≡ true) pages 0 n → (j : ℕ) → j < n → starts_low order (get_or (map shown pages) j []) ≡ true
  low_of [] n b h j l = absurd (omega arith)
  low_of (p ∷ ps) n b h j l = subst (λ t. starts_low order t ≡ true) (sym (get_or-map shown (p ∷ ps) j p [] (omega arith))) (h j p (omega arith) l)

  pub high_of : (pages : List P) (n : ℕ) → AllWithin (λ p. starts_low order (shown p) ≡ false) pages n (length pages) → (j : ℕ) → n ≤ j → j < length (map shown pages) → starts_low order (get_or (map shown pages) j []) ≡ false
  high_of [] n h j l b = absurd (omega arith)
  high_of (p ∷ ps) n h j l b =
      let c : j < length (p ∷ ps) = omega (arith, length-map (p ∷ ps) shown) in
      subst (λ t. starts_low order t ≡ false) (sym (get_or-map shown (p ∷ ps) j p [] c)) (h j p l c)

module _ {E X : Type 0} (item : E → X) (order : X → Ordering) where
  hit : (page : List E) (i : ℕ) → i < length page → ((d : E) → order (item (get_or page i d)) ≡ Equal) → IsHit order (map item page) i
  hit [] i h e = absurd (omega arith)
  hit (p ∷ ps) i h e = record {
    inside = omega (arith, length-map (p ∷ ps) item);
    same = λ d. subst (λ y. order y ≡ Equal) (sym (get_or-map item (p ∷ ps) i p d h)) (e p);
  }

  gap : (page : List E) (i : ℕ) → i ≤ length page → AllWithin (λ y. order (item y) ≡ Less) page 0 i → AllWithin (λ y. order (item y) ≡ Greater) page i (length page) → IsGap order (map item page) i
  gap [] i h less more = record { inside = h; below = λ k d b. absurd (omega arith); above = λ k d a b. absurd (omega arith) }
  gap (p ∷ ps) i h less more = record {
    inside = omega (arith, length-map (p ∷ ps) item);
    below = λ k d b. subst (λ y. order y ≡ Less) (sym (get_or-map item (p ∷ ps) k p d (omega arith))) (less k p (omega arith) b);
    above = λ k d a b.
        let c : k < length (p ∷ ps) = omega (arith, length-map (p ∷ ps) item) in
        subst (λ y. order y ≡ Greater) (sym (get_or-map item (p ∷ ps) k p d c)) (more k p a c);
  }

  entries_rise : (page : List E) → IsNonDecreasingBy (λ y. ordering_index (order y)) (map item page) → IsNonDecreasingBy (λ y. ordering_index (order (item y))) page
  entries_rise page h i j d l b =
      let here : get_or (map item page) i (item d) ≡ item (get_or page i d) = get_or-map item page i d (item d) (omega arith) in
      let there : get_or (map item page) j (item d) ≡ item (get_or page j d) = get_or-map item page j d (item d) b in
      subst (λ y. ordering_index (order y) ≤ ordering_index (order (item (get_or page j d)))) here
      (subst (λ y. ordering_index (order (get_or (map item page) i (item d))) ≤ ordering_index (order y)) there (h i j (item d) l (omega (arith, length-map page item))))

  pub record Searched (page : List E) (r : Result ℕ ℕ) : Type 0 where
    pub found : IfOk r (IsHit order (map item page))
    pub absent : IfErr r (IsGap order (map item page))

  pub searched : (page : List E) (r : Result ℕ ℕ) → IsNonDecreasingBy (λ y. ordering_index (order y)) (map item page) → IsSearchInRange r (length page) → IsBinarySearchResult (λ y. order (item y)) page r → Searched page r
  searched page (Ok i) rise range is = record { found = hit page i range is; absent = tt }
  searched page (Err i) rise range is =
      record { found = tt; absent = gap page i range (is (entries_rise page rise)).0 (is (entries_rise page rise)).1 }

-- what was found in a page, among the pages
module _ {P X : Type 0} (shown : P → List X) (order : X → Ordering) (pages : List P) (k : ℕ) (page : P) (within : k < length pages) (is : page ≡ get_or pages k page) where
  among : k < length (map shown pages)
  among = omega (arith, length-map pages shown)

  pub found_in : (at : ℕ) → IsHit order (shown page) at → IsHit order (flattened (map shown pages)) (start_of (map shown pages) k + at)
  found_in at h =
      let w : IsHit order (get_or (map shown pages) k []) at = subst (λ l. IsHit order l at) (sym (part_at shown pages k page within is)) h in
      hit_in order (map shown pages) k at among w.inside w.same

  pub absent_in : (at : ℕ) → AreSome (map shown pages) → IsSplit order (flattened (map shown pages)) → starts_low order (get_or (map shown pages) k []) ≡ true → ((j : ℕ) → suc k ≤ j → j < length (map shown pages) → starts_low order (get_or (map shown pages) j []) ≡ false) → IsGap order (shown page) at → IsGap order (flattened (map shown pages)) (start_of (map shown pages) k + at)
  absent_in at kept split low high h =
      gap_in order (map shown pages) k at kept split among (subst (λ l. IsGap order l at) (sym (part_at shown pages k page within is)) h) low high
