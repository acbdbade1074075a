-- Two lists that are compared place by place.
use Rattle.std.proofs.Common.{◌≡◌, Bool, ℕ, ◌+◌, ◌<◌, ◌≤◌, List, [], ◌∷◌, ◌++◌, length, get_or, take, sym, ◌∙◌, ap, arith}
use Rattle.std.specs.Prelude.{IsTrue}
use Rattle.std.specs.Cmp.{Equal-is}
use Rattle.labels.specs.Labels.{Labels, labels_cmp, same_labels}
use Rattle.labels.proofs.OrderLaws.{labels_exact, same_self}
use Rattle.std.proofs.lemmas.List.{get_or_read, take_more, take_all}

-- lists that differ at a place differ
pub differ_at : {X : Type 0} (xs ys : List X) (i : ℕ) (x y : X) → i < length xs → i < length ys
    → x ≡ get_or xs i x → y ≡ get_or ys i y → (x ≡ y → ⊥) → xs ≡ ys → ⊥
differ_at {X} xs ys i x y l m read read' differ e =
    differ (read ∙ ap (λ (zs : List X). get_or zs i x) e ∙ sym (get_or_read ys i y m read' x))

-- lists that agree so far and at the next place agree past it
pub agree_more : {X : Type 0} (xs ys : List X) (i : ℕ) (x y : X) → i < length xs → i < length ys
    → x ≡ get_or xs i x → y ≡ get_or ys i y → x ≡ y
    → take i xs ≡ take i ys → take (i + 1) xs ≡ take (i + 1) ys
agree_more {X} xs ys i x y l m read read' same so_far =
    take_more xs i x l
    ∙ ap (λ (z : X). take i xs ++ z ∷ []) (sym read ∙ same ∙ read')
    ∙ ap (λ (zs : List X). zs ++ get_or ys i y ∷ []) so_far
    ∙ sym (take_more ys i y m)

-- lists of one length that agree at each place are the same
pub agree_whole : {X : Type 0} (xs ys : List X) (i : ℕ) → length xs ≡ length ys → length xs ≤ i
    → take i xs ≡ take i ys → xs ≡ ys
agree_whole xs ys i e l same = sym (take_all i xs l) ∙ same ∙ take_all i ys (omega arith)

-- what the test of label sets tells
pub labels_same : (a b : Labels) (r : Bool) → r ≡ same_labels a b
    → (IsTrue r → a ≡ b) × (a ≡ b → IsTrue r)
labels_same a b r e = (
  λ t. labels_exact a b ((Equal-is (labels_cmp a b)).0 (sym e ∙ t)),
  λ same. e ∙ ap (same_labels a) (sym same) ∙ same_self a,
)
