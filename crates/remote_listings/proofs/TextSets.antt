-- Texts that are added to a set, by their bytes.
use Rattle.std.proofs.Common.{◌≡◌, ◌<◌, ◌+◌, ℕ, List, [], ◌∷◌, ◌++◌, map}
use Rattle.std.proofs.Common.{length, get_or, drop, refl, sym, subst, ap, ◌∙◌}
use Rattle.std.specs.Borrow.{Bor}
use Rattle.std.specs.Prelude.{Bool, flat_map, fold, if◌then◌else◌, true, false}
use Rattle.std.specs.BTreeSet.{BTreeSet, insert_key}
use Rattle.std.specs.Cmp.Lexicographic.{slice_cmp}
use Rattle.std.specs.Ordering.{match_ordering, nat_cmp}
use Rattle.std.specs.declared.cmp.Ordering.{Ordering}
use Rattle.std.specs.declared.cmp.Ordering.TheVariants.{Less, Equal, Greater}
use Rattle.std.proofs.lemmas.List.{at_drop_more}
use Rattle.std.proofs.lemmas.List.Sums.{fold-append}
use Rattle.labels.specs.Labels.{Labels, text_cmp}
use Rattle.remote_listings.specs.Listed.{is_value, names_in}
use Rattle.remote_listings.specs.Sets.{bytes_in, HasAdded}

abbrev bor_cmp : Bor (List ℕ) → Bor (List ℕ) → Ordering
bor_cmp x y = slice_cmp nat_cmp x.now y.now

-- a borrowed text is put where its bytes are
pub put_bytes : (ks : List (Bor (List ℕ))) (k : Bor (List ℕ))
    → map (λ (t : Bor (List ℕ)). t.now) (insert_key bor_cmp ks k)
    ≡ insert_key text_cmp (map (λ (t : Bor (List ℕ)). t.now) ks) k.now
put_bytes [] k = refl
put_bytes (x ∷ ks) k = go (slice_cmp nat_cmp k.now x.now) (put_bytes ks k)
  where
    go : (o : Ordering)
        → map (λ (t : Bor (List ℕ)). t.now) (insert_key bor_cmp ks k)
        ≡ insert_key text_cmp (map (λ (t : Bor (List ℕ)). t.now) ks) k.now
        → map (λ (t : Bor (List ℕ)). t.now)
        (match_ordering o (k ∷ x ∷ ks) (x ∷ ks) (x ∷ insert_key bor_cmp ks k))
        ≡ match_ordering o (k.now ∷ x.now ∷ map (λ (t : Bor (List ℕ)). t.now) ks)
        (x.now ∷ map (λ (t : Bor (List ℕ)). t.now) ks)
        (x.now ∷ insert_key text_cmp (map (λ (t : Bor (List ℕ)). t.now) ks) k.now)
    go Less more = refl
    go Equal more = refl
    go Greater more = ap (λ (ts : List (List ℕ)). x.now ∷ ts) more

-- one text more
pub one_added : (old new : BTreeSet (Bor (List ℕ))) (k : Bor (List ℕ))
    → new.keys ≡ insert_key bor_cmp old.keys k → HasAdded (k.now ∷ []) old new
one_added old new k moved =
    ap (λ (ks : List (Bor (List ℕ))). map (λ (t : Bor (List ℕ)). t.now) ks) moved
    ∙ put_bytes old.keys k

-- one more of the lists of texts
pub texts_turn : {X : Type 0} (g : X → List (List ℕ)) (xs : List X) (i : ℕ) (x d : X)
    (old new : BTreeSet (Bor (List ℕ))) (first : List (List ℕ))
    → i < length xs → x ≡ get_or xs i d → HasAdded (g x) old new
    → fold (insert_key text_cmp) (bytes_in old) (flat_map g (drop i xs)) ≡ first
    → fold (insert_key text_cmp) (bytes_in new) (flat_map g (drop (i + 1) xs)) ≡ first
texts_turn g xs i x d old new first h is moved before =
    ap (λ (b : List (List ℕ)). fold (insert_key text_cmp) b (flat_map g (drop (i + 1) xs))) moved
    ∙ sym (fold-append (insert_key text_cmp) (bytes_in old) (g x) (flat_map g (drop (i + 1) xs)))
    ∙ ap (λ (y : _). fold (insert_key text_cmp) (bytes_in old) (g y ++ flat_map g (drop (i + 1) xs)))
    is
    ∙ ap (fold (insert_key text_cmp) (bytes_in old)) (sym (at_drop_more (flat_map g) xs i d h))
    ∙ before

-- the name of a pair
abbrev pub name_of : List ℕ × List ℕ → List (List ℕ)
name_of pair = pair.0 ∷ []

-- the names of a label set, pair by pair
pub names_each : (labels : Labels) → flat_map name_of labels ≡ names_in labels
names_each [] = refl
names_each (pair ∷ labels) = ap (λ (names : List (List ℕ)). pair.0 ∷ names) (names_each labels)

-- a value that is not empty was added
pub value_added : (old new : BTreeSet (Bor (List ℕ))) (k : Bor (List ℕ)) (v : List ℕ) → k.now ≡ v
    → is_value v ≡ true → new.keys ≡ insert_key bor_cmp old.keys k
    → HasAdded (if is_value v then v ∷ [] else []) old new
value_added old new k v same some moved =
    let added : HasAdded (v ∷ []) old new =
    subst (λ (t : List ℕ). HasAdded (t ∷ []) old new) same (one_added old new k moved) in
    subst (λ (b : Bool). HasAdded (if b then v ∷ [] else []) old new) (sym some) added

-- an empty one is none
pub value_passed : (old new : BTreeSet (Bor (List ℕ))) (v : List ℕ) → is_value v ≡ false
    → new ≡ old → HasAdded (if is_value v then v ∷ [] else []) old new
value_passed old new v none same =
    subst (λ (b : Bool). HasAdded (if b then v ∷ [] else []) old new) (sym none) (ap bytes_in same)
