-- Texts that grow by one spelling after another.
use Rattle.std.proofs.Common.{◌≡◌, ℕ, ◌+◌, ◌<◌, List, [], ◌∷◌, ◌++◌, length, take, get_or, sym, ap}
use Rattle.std.proofs.Common.{◌∙◌, append_assoc}
use Rattle.byteorder.specs.Endian.{big_bytes}
use Rattle.std.specs.List.{flat_map}
use Rattle.std.proofs.lemmas.List.{flat_map_more, take_more}

pub one_more : {X : Type 0} (f : X → List ℕ) (start before after : List ℕ) (xs : List X) (i : ℕ)
    (x : X) → i < length xs → x ≡ get_or xs i x → before ≡ start ++ flat_map f (take i xs)
    → after ≡ before ++ f x
    → after ≡ start ++ flat_map f (take (i + 1) xs)
one_more {X} f start before after xs i x lt read so_far step =
    step
    ∙ ap (λ (ys : List ℕ). ys ++ f x) so_far
    ∙ flat_map_more f start (take i xs) x
    ∙ ap (λ (ys : List X). start ++ flat_map f ys)
    (sym (take_more xs i x lt ∙ ap (λ (y : X). take i xs ++ y ∷ []) (sym read)))

grouped : (a b c : List ℕ) → (a ++ b) ++ c ≡ a ++ (b ++ c)
grouped a b c = simp append_assoc

-- two numbers of eight bytes, one after the other
pub two_words : (start middle end : List ℕ) (a b x y : ℕ) → middle ≡ start ++ big_bytes 8 a
    → end ≡ middle ++ big_bytes 8 b → a ≡ x → b ≡ y
    → end ≡ start ++ (big_bytes 8 x ++ big_bytes 8 y)
two_words start middle end a b x y first second e f =
    let one : middle ≡ start ++ big_bytes 8 x = first ∙ ap (λ (n : ℕ). start ++ big_bytes 8 n) e in
    let two : end ≡ middle ++ big_bytes 8 y = second ∙ ap (λ (n : ℕ). middle ++ big_bytes 8 n) f in
    two
    ∙ ap (λ (xs : List ℕ). xs ++ big_bytes 8 y) one
    ∙ grouped start (big_bytes 8 x) (big_bytes 8 y)
