-- Contents that are read one after another, and what each of them spells.
use Rattle.std.proofs.Common.{◌≡◌, ℕ, zero, suc, ◌+◌, ◌<◌, ◌≤◌, List, [], ◌∷◌, ◌++◌, length}
use Rattle.std.proofs.Common.{take, get_or, refl, sym, ap, subst, ◌∙◌, arith, Vec, Result, Err}
use Rattle.std.specs.declared.alloc.Global.{Global}
use Rattle.std.specs.List.{AllZip}
use Rattle.std.proofs.lemmas.List.{map-append, take_all}
use Rattle.std.proofs.lemmas.Grind.{take_at_read}
use Rattle.journal.specs.Contents.{contents_in}
use Rattle.kept_walk.specs.declared.fault.Fault.{Fault}
use Rattle.kept_walk.specs.declared.fault.Fault.TheVariants as faults
use Rattle.kept_walk.specs.Outcome.{Finds}

abbrev Bytes : Type 0
Bytes = Vec ℕ Global

module _ {A : Type 0} (R : List ℕ → A → Type 0) where
  -- one more behind those
  zip_last : (cs : List (List ℕ)) (xs : List A) (c : List ℕ) (x : A) → AllZip R cs xs → R c x
      → AllZip R (cs ++ c ∷ []) (xs ++ x ∷ [])
  zip_last [] [] c x all r = (r, tt)
  zip_last [] (y ∷ xs) c x all r = absurd all
  zip_last (d ∷ cs) [] c x all r = absurd all
  zip_last (d ∷ cs) (y ∷ xs) c x all r = (all.0, zip_last cs xs c x all.1 r)

  pub in_turn : (vs : List Bytes) (i : ℕ) (d : Bytes) (content : List ℕ) (xs : List A) (x : A)
      → i < length vs → content ≡ (get_or vs i d).items → AllZip R (contents_in (take i vs)) xs
      → R content x → AllZip R (contents_in (take (i + 1) vs)) (xs ++ x ∷ [])
  in_turn vs i d content xs x lt is so_far r =
      let v = get_or vs i d in
      let cut : contents_in (take (i + 1) vs) ≡ contents_in (take i vs) ++ v.items ∷ [] =
      ap contents_in (take_at_read vs i d lt).1
      ∙ map-append (λ (w : Bytes). w.items) (take i vs) (v ∷ []) in
      subst (λ (cs : List (List ℕ)). AllZip R cs (xs ++ x ∷ [])) (sym cut)
      (zip_last (contents_in (take i vs)) xs v.items x so_far
      (subst (λ (c : List ℕ). R c x) is r))

  pub in_the_end : (vs : List Bytes) (i : ℕ) (xs : List A) → length vs ≤ i
      → AllZip R (contents_in (take i vs)) xs → AllZip R (contents_in vs) xs
  in_the_end vs i xs le all =
      subst (λ (ws : List Bytes). AllZip R (contents_in ws) xs) (take_all i vs le) all

  -- each content spells something
  pub one_of : (vs : List Bytes) (i : ℕ) (d : Bytes) (xs : List A) → i < length vs
      → AllZip R (contents_in vs) xs → (x : A) × R (get_or vs i d).items x
  one_of [] i d xs lt all = absurd (omega (arith, lt))
  one_of (v ∷ vs) i d [] lt all = absurd all
  one_of (v ∷ vs) zero d (x ∷ xs) lt all = (x, all.0)
  one_of (v ∷ vs) (suc i) d (x ∷ xs) lt all = one_of vs i d xs (omega (arith, lt)) all.1

  pub none_is : (vs : List Bytes) (i : ℕ) (d : Bytes) (content : List ℕ) → i < length vs
      → content ≡ (get_or vs i d).items → ((x : A) → R content x → ⊥)
      → (xs : List A) → AllZip R (contents_in vs) xs → ⊥
  none_is vs i d content lt is none xs all =
      let one = one_of vs i d xs lt all in
      none one.0 (subst (λ (c : List ℕ). R c one.0) (sym is) one.1)

  -- where a content spells one thing, contents spell one list
  pub unique : ((c : List ℕ) (x y : A) → R c x → R c y → x ≡ y) → (cs : List (List ℕ))
      (xs ys : List A) → AllZip R cs xs → AllZip R cs ys → xs ≡ ys
  unique one [] [] [] a b = refl
  unique one [] [] (y ∷ ys) a b = absurd b
  unique one [] (x ∷ xs) ys a b = absurd a
  unique one (c ∷ cs) [] ys a b = absurd a
  unique one (c ∷ cs) (x ∷ xs) [] a b = absurd b
  unique one (c ∷ cs) (x ∷ xs) (y ∷ ys) a b =
      ap (λ (z : A). z ∷ xs) (one c x y a.0 b.0)
      ∙ ap (λ (zs : List A). y ∷ zs) (unique one cs xs ys a.1 b.1)

abbrev pub refusal : {X : Type 0} → Fault → Result X Fault
refusal e = Err e

-- a call failed: where it found none, there is none of the whole either
pub passes_on : {X Y A B : Type 0} (view : X → A) (P : A → Type 0) (whole : Y → B)
    (Q : B → Type 0) (e : Fault) → (((a : A) → P a → ⊥) → (b : B) → Q b → ⊥)
    → Finds view P (refusal e) → Finds whole Q (refusal e)
passes_on view P whole Q faults.Memory none h = tt
passes_on view P whole Q faults.Form none h = none h
