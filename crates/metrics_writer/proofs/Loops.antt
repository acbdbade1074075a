-- What is written piece by piece.
use Rattle.std.proofs.Common.{◌≡◌, ℕ, suc, ◌+◌, ◌-◌, ◌<◌, ◌≤◌, List, [], ◌∷◌, ◌++◌, length, drop}
use Rattle.std.proofs.Common.{get_or}
use Rattle.std.proofs.Common.{sym, ap, ◌∙◌, append_assoc, add-one, arith, Bool, true, false}
use Rattle.std.proofs.Common.{cond}
use Rattle.std.specs.List.{flat_map}
use Rattle.std.proofs.Math.Seq.{drop-cons}
use Rattle.std.proofs.lemmas.List.{append-nil, nil_from_length, length-drop}
use Rattle.std.proofs.lemmas.List.Concat.{flat_map-cons}
use Rattle.labels.specs.Labels.{Labels}
use Rattle.metrics_writer.specs.Numbers.{digit_at, last_digits}
use Rattle.metrics_writer.specs.Series.{closing, is_name_label, label_text, labels_text, mark_after}
use Rattle.metrics_writer.specs.Series.{pair_text}

-- the next part of what is left was written
pub moved : (old new part rest left whole : List ℕ) → new ≡ old ++ part → left ≡ part ++ rest
    → old ++ left ≡ whole → new ++ rest ≡ whole
moved old new part rest left whole wrote split e =
    ap (λ (l : List ℕ). l ++ rest) wrote
    ∙ (append_assoc old part rest ∙ (ap (λ (l : List ℕ). old ++ l) (sym split) ∙ e))

-- nothing is left
pub done : (old left whole : List ℕ) → left ≡ [] → old ++ left ≡ whole → old ≡ whole
done old left whole none e = sym (append-nil old) ∙ (ap (λ (l : List ℕ). old ++ l) (sym none) ∙ e)

pub next : {X : Type 0} (xs : List X) (i : ℕ) (x : X) → i < length xs → x ≡ get_or xs i x
    → drop i xs ≡ x ∷ drop (i + 1) xs
next {X} xs i x lt e =
    rw (add-one, drop-cons xs i x) (ap (λ (y : X). y ∷ drop (suc i) xs) (sym e))

pub gone : {X : Type 0} (xs : List X) (i : ℕ) → length xs ≤ i → drop i xs ≡ []
gone xs i le = nil_from_length (drop i xs) (omega (arith, length-drop i xs))

pub each_next : {X : Type 0} (text : X → List ℕ) (xs : List X) (i : ℕ) (x : X) → i < length xs
    → x ≡ get_or xs i x
    → flat_map text (drop i xs) ≡ text x ++ flat_map text (drop (i + 1) xs)
each_next text xs i x lt e =
    ap (flat_map text) (next xs i x lt e) ∙ flat_map-cons text x (drop (i + 1) xs)

pub each_done : {X : Type 0} (text : X → List ℕ) (xs : List X) (i : ℕ) → length xs ≤ i
    → flat_map text (drop i xs) ≡ []
each_done text xs i le = ap (flat_map text) (gone xs i le)

pub labels_next : (mark : ℕ) (ps : Labels) (i : ℕ) (p : List ℕ × List ℕ) → i < length ps
    → p ≡ get_or ps i p
    → labels_text mark (drop i ps)
    ≡ label_text mark p ++ labels_text (mark_after mark p) (drop (i + 1) ps)
unfolding labels_text
labels_next mark ps i p lt e = ap (labels_text mark) (next ps i p lt e)

pub labels_done : (mark : ℕ) (ps : Labels) (i : ℕ) → length ps ≤ i
    → labels_text mark (drop i ps) ≡ closing mark ++ []
unfolding labels_text
labels_done mark ps i le = ap (labels_text mark) (gone ps i le) ∙ sym (append-nil (closing mark))

pub digits_next : (places i k n : ℕ) → i < places → k ≡ places - 1 - i
    → last_digits (places - i) n ≡ (digit_at k n ∷ []) ++ last_digits (places - (i + 1)) n
unfolding last_digits
digits_next places i k n lt e =
    let one : places - i ≡ suc (places - (i + 1)) = omega arith in
    let same : places - (i + 1) ≡ k = omega arith in
    ap (λ (m : ℕ). last_digits m n) one
    ∙ ap (λ (m : ℕ). digit_at m n ∷ last_digits (places - (i + 1)) n) same

pub digits_done : (places i n : ℕ) → places ≤ i → last_digits (places - i) n ≡ []
unfolding last_digits
digits_done places i n le =
    let none : places - i ≡ 0 = omega arith in
    ap (λ (m : ℕ). last_digits m n) none

-- the label that names the metric, and another
pub name_is : (mark : ℕ) (p : List ℕ × List ℕ) → is_name_label p ≡ true → label_text mark p ≡ []
name_is mark p e = ap (λ (b : Bool). cond b [] (mark ∷ pair_text p)) e

pub other_is : (mark : ℕ) (p : List ℕ × List ℕ) → is_name_label p ≡ false
    → label_text mark p ≡ mark ∷ pair_text p
other_is mark p e = ap (λ (b : Bool). cond b [] (mark ∷ pair_text p)) e

pub mark_kept : (mark : ℕ) (p : List ℕ × List ℕ) → is_name_label p ≡ true → mark ≡ mark_after mark p
mark_kept mark p e = sym (ap (λ (b : Bool). cond b mark 44) e)

pub mark_comma : (mark : ℕ) (p : List ℕ × List ℕ) → is_name_label p ≡ false
    → 44 ≡ mark_after mark p
mark_comma mark p e = sym (ap (λ (b : Bool). cond b mark 44) e)
