-- A text that grows keeps its pairs.
use Rattle.std.proofs.Common.{◌≡◌, ℕ, suc, ◌-◌, ◌≤◌, List, [], ◌∷◌, ◌++◌, length, get_or, take, drop, refl, ap, subst, ◌∙◌, inl, inr, append_assoc, arith}
use Rattle.std.specs.Prelude.{slice_range}
use Rattle.std.specs.Str.{IsUtf8, IsCharBoundary}
use Rattle.std.proofs.lemmas.Bool.{cases_lt}
use Rattle.std.proofs.lemmas.Str.{IsCharBoundary-at_seam, IsCharBoundary-end}
use Rattle.std.proofs.lemmas.List.{length-append, length-drop, drop-append-le, take-append-le, get_or_append_left, map_push, drop_at, take_all, get_or_append_left, get_or_at, length_push}
use Rattle.labels.specs.declared.text.Place.{Place}
use Rattle.labels.specs.Places.{pair_at, pairs_at, IsPlaced, AllPlaced}

boundary_grown : (text more : List ℕ) (i : ℕ) → IsUtf8 more → IsCharBoundary text i → IsCharBoundary (text ++ more) i
boundary_grown text more i u b =
    elim (cases_lt i (length text)) [
      | inl lt ↦ (omega (arith, length-append text more, b.0), λ _ high. rw (get_or_append_left text more 0 i lt) (b.1 lt (rw (get_or_append_left text more 0 i lt) at high)))
      | inr le ↦
          let e : length text ≡ i = omega (arith, b.0) in
          subst (IsCharBoundary (text ++ more)) e (IsCharBoundary-at_seam (text ++ more) text more refl u)
    ]

range_grown : (text more : List ℕ) (a b : ℕ) → a ≤ b → b ≤ length text → slice_range (text ++ more) a b ≡ slice_range text a b
range_grown text more a b le fits =
    ap (take (b - a)) (drop-append-le a text more (omega arith))
    ∙ take-append-le (b - a) (drop a text) more (omega (arith, length-drop a text))

placed_grown : (text more : List ℕ) (p : Place) → IsUtf8 more → IsPlaced text p → IsPlaced (text ++ more) p
placed_grown text more p u h = record {
  named = h.named;
  valued = h.valued;
  start_boundary = boundary_grown text more p.start u h.start_boundary;
  middle_boundary = boundary_grown text more p.middle u h.middle_boundary;
  end_boundary = boundary_grown text more p.end u h.end_boundary;
}

pub all_grown : (text more : List ℕ) (ps : List Place) → IsUtf8 more → AllPlaced text ps → AllPlaced (text ++ more) ps
all_grown text more ps u h = λ k d lt. placed_grown text more (get_or ps k d) u (h k d lt)

pair_grown : (text more : List ℕ) (p : Place) → IsPlaced text p → pair_at (text ++ more) p ≡ pair_at text p
pair_grown text more p h =
    let e = range_grown text more p.start p.middle h.named (h.middle_boundary.0) in
    let f = range_grown text more p.middle p.end h.valued (h.end_boundary.0) in
    rw (e, f) refl

pub pairs_grown : (text more : List ℕ) (ps : List Place) → AllPlaced text ps → pairs_at (text ++ more) ps ≡ pairs_at text ps
pairs_grown text more [] h = refl
pairs_grown text more (p ∷ ps) h =
    let one = pair_grown text more p (h 0 p (omega arith)) in
    let others = pairs_grown text more ps (λ k d lt. h (suc k) d (omega arith)) in
    rw (one, others) refl

-- the place of what was just added
new_place : List ℕ → List ℕ → List ℕ → Place
new_place text name value = record { start = length text; middle = length (text ++ name); end = length ((text ++ name) ++ value) }

range_end : (xs ys : List ℕ) → slice_range (xs ++ ys) (length xs) (length (xs ++ ys)) ≡ ys
range_end xs ys = ap (take (length (xs ++ ys) - length xs)) (drop_at xs ys (length xs) refl) ∙ take_all _ ys (omega (arith, length-append xs ys))

pub added_placed : (text name value : List ℕ) (p : Place) → IsUtf8 name → IsUtf8 value → p.start ≡ length text → p.middle ≡ length (text ++ name) → p.end ≡ length ((text ++ name) ++ value) → IsPlaced ((text ++ name) ++ value) p
added_placed text name value p un uv s m e = record {
  named = omega (arith, s, m, length-append text name);
  valued = omega (arith, m, e, length-append (text ++ name) value);
  start_boundary = rw s (boundary_grown (text ++ name) value (length text) uv (IsCharBoundary-at_seam (text ++ name) text name refl un));
  middle_boundary = rw m (IsCharBoundary-at_seam ((text ++ name) ++ value) (text ++ name) value refl uv);
  end_boundary = rw e (IsCharBoundary-end ((text ++ name) ++ value));
}

added_pair : (text name value : List ℕ) (p : Place) → p.start ≡ length text → p.middle ≡ length (text ++ name) → p.end ≡ length ((text ++ name) ++ value) → pair_at ((text ++ name) ++ value) p ≡ (name, value)
added_pair text name value p s m e =
    let one = range_grown (text ++ name) value (length text) (length (text ++ name)) (omega (arith, length-append text name)) (omega arith) ∙ range_end text name in
    let two = range_end (text ++ name) value in
    rw (s, m, e, one, two) refl

pub pairs_added : (text name value : List ℕ) (ps : List Place) (p : Place) → AllPlaced text ps → p.start ≡ length text → p.middle ≡ length (text ++ name) → p.end ≡ length ((text ++ name) ++ value)
    → pairs_at ((text ++ name) ++ value) (ps ++ p ∷ []) ≡ pairs_at text ps ++ (name, value) ∷ []
pairs_added text name value ps p h s m e =
    let whole = (text ++ name) ++ value in
    let same : pairs_at whole ps ≡ pairs_at text ps = ap (λ (t : List ℕ). pairs_at t ps) (append_assoc text name value) ∙ pairs_grown text (name ++ value) ps h in
    map_push (pair_at whole) ps p ∙ ap (λ (xs : List (List ℕ × List ℕ)). xs ++ pair_at whole p ∷ []) same ∙ ap (λ (x : List ℕ × List ℕ). pairs_at text ps ++ x ∷ []) (added_pair text name value p s m e)

pub all_added : (text name value : List ℕ) (ps : List Place) (p : Place) → IsUtf8 name → IsUtf8 value → AllPlaced text ps → p.start ≡ length text → p.middle ≡ length (text ++ name) → p.end ≡ length ((text ++ name) ++ value)
    → AllPlaced ((text ++ name) ++ value) (ps ++ p ∷ [])
all_added text name value ps p un uv h s m e = λ k d lt.
    let whole = (text ++ name) ++ value in
    elim (cases_lt k (length ps)) [
      | inl below ↦ rw (get_or_append_left ps (p ∷ []) d k below) (all_grown (text ++ name) value ps uv (all_grown text name ps un h) k d below)
      | inr from ↦
          let n : length ps ≡ k = omega (arith, lt, length_push ps p) in
          rw (get_or_at ps p [] d k n) (added_placed text name value p un uv s m e)
    ]
