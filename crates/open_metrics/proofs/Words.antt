-- Words, byte by byte.
use Rattle.std.proofs.Common.{◌≡◌, ℕ, suc, ◌+◌, ◌<◌, ◌≤◌, true, false, List, [], ◌∷◌, length, drop}
use Rattle.std.proofs.Common.{get_or, refl, ap, ◌∙◌, arith, add-one}
use Rattle.std.proofs.Math.Seq.{drop-cons}
use Rattle.std.proofs.lemmas.List.{nil_from_length, length-drop}
use Rattle.open_metrics.specs.declared.tokens.Class.{Class}
use Rattle.open_metrics.specs.Tokens.{goes_on, count_front}

next : (s : List ℕ) (i : ℕ) → i < length s → drop i s ≡ get_or s i 0 ∷ drop (i + 1) s
next s i lt = rw (add-one, drop-cons s i 0) refl

gone : (s : List ℕ) (i : ℕ) → length s ≤ i → drop i s ≡ []
gone s i le = nil_from_length (drop i s) (omega (arith, length-drop i s))

pub word_goes : (class : Class) (s : List ℕ) (i : ℕ) → i < length s
    → goes_on class (get_or s i 0) ≡ true
    → count_front class (drop i s) ≡ suc (count_front class (drop (i + 1) s))
unfolding count_front
word_goes class s i lt e = ap (count_front class) (next s i lt) ∙ rw e refl

pub word_stops : (class : Class) (s : List ℕ) (i : ℕ) → i < length s
    → goes_on class (get_or s i 0) ≡ false → count_front class (drop i s) ≡ 0
unfolding count_front
word_stops class s i lt e = ap (count_front class) (next s i lt) ∙ rw e refl

pub word_ends : (class : Class) (s : List ℕ) (i : ℕ) → length s ≤ i
    → count_front class (drop i s) ≡ 0
unfolding count_front
word_ends class s i le = ap (count_front class) (gone s i le)
