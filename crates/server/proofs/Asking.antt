-- What the bytes of a request ask for.
use Rattle.std.proofs.Common.{◌≡◌, ◌<◌, ◌≤◌, ◌+◌, ◌++◌, ◌==◌, ℕ, suc, Bool, true, false, List, []}
use Rattle.std.proofs.Common.{◌∷◌, None, Some, length, take, drop, codes, refl, ap, sym, subst, ◌∙◌}
use Rattle.std.proofs.Common.{arith, get_or, inl, inr, lt-ltb, le-ltb}
use Rattle.std.specs.Prelude.{◌≢◌, ◌⊎◌, ◌↔◌, ◌-◌, nat_eq, nat_lt, not, position, if◌then◌else◌}
use Rattle.std.specs.List.{position_or_len, starts_with}
use Rattle.std.proofs.lemmas.Bool.{both_ways, cases_Bool, cases_lt, eqb-true, eqb-false}
use Rattle.std.proofs.lemmas.Bool.Decides.{Decides-eqb}
use Rattle.std.proofs.lemmas.List.{length-drop, take_all}
use Rattle.std.proofs.lemmas.Option.{none-some}
use Rattle.std.proofs.lemmas.List.Sums.{passes_at_first, split_at_first}
use Rattle.std.proofs.lemmas.Slice.Eq.{starts_is}
use Rattle.server.specs.Status.{Lacks, IsParted, HasEnd, IsLine, IsRequest}

-- a text that begins so
begun : (text start : List ℕ) → starts_with nat_eq text start ≡ true
    → text ≡ start ++ drop (length start) text
begun text start = (starts_is Decides-eqb text start (starts_with nat_eq text start) refl).0

not_begun : (text start rest : List ℕ) → starts_with nat_eq text start ≡ false
    → text ≡ start ++ rest → ⊥
not_begun text start rest unlike e =
    let yes : starts_with nat_eq text start ≡ true =
    (starts_is Decides-eqb text start (starts_with nat_eq text start) refl).1 rest e in
    both_ways (starts_with nat_eq text start) unlike yes

-- the end of a head, and a byte before it
pub end_here : (text : List ℕ) → starts_with nat_eq text (codes "\r\n\r\n") ≡ true → HasEnd text
end_here text e = ([], drop 4 text, begun text (codes "\r\n\r\n") e)

end_more : (byte : ℕ) (text : List ℕ) → HasEnd text → HasEnd (byte ∷ text)
end_more byte text h = (byte ∷ h.0, h.1, ap (λ (t : List ℕ). byte ∷ t) h.2)

end_behind : (byte : ℕ) (text front rest : List ℕ)
    → byte ∷ text ≡ front ++ (codes "\r\n\r\n" ++ rest)
    → (byte ∷ text ≡ codes "\r\n\r\n" ++ rest → ⊥) → HasEnd text
end_behind byte text [] rest e unlike = absurd (unlike e)
end_behind byte text (x ∷ front) rest e unlike = (front, rest, cc)

end_less : (byte : ℕ) (text : List ℕ)
    → starts_with nat_eq (byte ∷ text) (codes "\r\n\r\n") ≡ false
    → HasEnd (byte ∷ text) → HasEnd text
end_less byte text unlike h =
    end_behind byte text h.0 h.1 h.2 (not_begun (byte ∷ text) (codes "\r\n\r\n") h.1 unlike)

pub end_step : (left : List ℕ) (byte : ℕ) (rest head : List ℕ) → left ≡ byte ∷ rest
    → starts_with nat_eq left (codes "\r\n\r\n") ≡ false → (HasEnd left ↔ HasEnd head)
    → (HasEnd rest ↔ HasEnd head)
end_step left byte rest head whole unlike same =
    let here : starts_with nat_eq (byte ∷ rest) (codes "\r\n\r\n") ≡ false =
    subst (λ (t : List ℕ). starts_with nat_eq t (codes "\r\n\r\n") ≡ false) whole unlike in (
      λ (h : HasEnd rest). same.0 (subst HasEnd (sym whole) (end_more byte rest h)),
      λ (h : HasEnd head). end_less byte rest here (subst HasEnd whole (same.1 h)),
    )

pub end_past : (byte : ℕ) (text : List ℕ) → byte ≢ 13 → HasEnd (byte ∷ text) → HasEnd text
end_past byte text other h =
    end_behind byte text h.0 h.1 h.2
    (λ (e : byte ∷ text ≡ codes "\r\n\r\n" ++ h.1). let one : byte ≡ 13 = cc in other one)

end_nowhere : (front rest : List ℕ) → [] ≡ front ++ (codes "\r\n\r\n" ++ rest) → ⊥
end_nowhere [] rest e = cc
end_nowhere (x ∷ front) rest e = cc

pub no_end : (text : List ℕ) → length text ≡ 0 → HasEnd text → ⊥
no_end [] none h = end_nowhere h.0 h.1 h.2
no_end (x ∷ text) none h = absurd (omega arith)

-- a text that lacks a byte does not have it
lacks_none : (byte : ℕ) (before behind : List ℕ) → Lacks byte (before ++ byte ∷ behind) → ⊥
lacks_none byte [] behind h = h.0 refl
lacks_none byte (x ∷ before) behind h = lacks_none byte before behind h.1

pub lacks_both : (byte : ℕ) (front rest : List ℕ) → Lacks byte front → Lacks byte rest
    → Lacks byte (front ++ rest)
lacks_both byte [] rest a b = b
lacks_both byte (x ∷ front) rest a b = (a.0, lacks_both byte front rest a.1 b)

pub lacks_behind : (byte : ℕ) (front rest : List ℕ) → Lacks byte (front ++ rest) → Lacks byte rest
lacks_behind byte [] rest h = h
lacks_behind byte (x ∷ front) rest h = lacks_behind byte front rest h.1

pub not_parted : (byte : ℕ) (text before behind : List ℕ) → Lacks byte text
    → IsParted byte text before behind → ⊥
not_parted byte text before behind lacks parts =
    lacks_none byte before behind (subst (Lacks byte) parts.1 lacks)

-- the first of a byte parts a text in one way
pub one_way : (byte : ℕ) (a b x y : List ℕ) → Lacks byte a → Lacks byte x
    → a ++ byte ∷ b ≡ x ++ byte ∷ y → (a ≡ x) × (b ≡ y)
one_way byte [] b [] y la lx e = (refl, cc)
one_way byte [] b (k ∷ x) y la lx e = let same : k ≡ byte = cc in absurd (lx.0 same)
one_way byte (k ∷ a) b [] y la lx e = let same : k ≡ byte = cc in absurd (la.0 same)
one_way byte (k ∷ a) b (l ∷ x) y la lx e =
    let same : k ≡ l = cc in
    let more : a ++ byte ∷ b ≡ x ++ byte ∷ y = cc in
    let rest : (a ≡ x) × (b ≡ y) = one_way byte a b x y la.1 lx.1 more in
    let front : a ≡ x = rest.0 in
    (cc, rest.1)

pub parted_once : (byte : ℕ) (text a b x y : List ℕ) → IsParted byte text a b
    → IsParted byte text x y → (a ≡ x) × (b ≡ y)
parted_once byte text a b x y p q = one_way byte a b x y p.0 q.0 (sym p.1 ∙ q.1)

-- the place of the first of a byte, or the length
abbrev place : ℕ → List ℕ → ℕ
place byte text = position_or_len (λ one. one == byte) text

-- what stands before the first of a byte lacks it
lacks_before : (byte : ℕ) (text : List ℕ) → Lacks byte (take (place byte text) text)
lacks_before byte [] = tt
lacks_before byte (x ∷ text) =
    elim (cases_Bool (x == byte)) [
      | inl same ↦
          subst
          (λ (b : Bool). Lacks byte (take (if not b then 1 + place byte text else 0) (x ∷ text)))
          (sym same) tt
      | inr other ↦
          let next : suc (place byte text) ≡ 1 + place byte text = omega arith in
          subst
          (λ (b : Bool). Lacks byte (take (if not b then 1 + place byte text else 0) (x ∷ text)))
          (sym other)
          (subst (λ (n : ℕ). Lacks byte (take n (x ∷ text))) next
          (eqb-false x byte other, lacks_before byte text))
    ]

place_told : (byte : ℕ) (text : List ℕ) (b : Bool) → nat_lt (place byte text) (length text) ≡ b
    → position (λ one. one == byte) text ≡ (if b then Some (place byte text) else None)
place_told byte text b e = ap (λ (t : Bool). if t then Some (place byte text) else None) e

pub lacking : (byte : ℕ) (text : List ℕ) → position (λ one. one == byte) text ≡ None
    → Lacks byte text
lacking byte text none =
    elim (cases_lt (place byte text) (length text)) [
      | inl h ↦
          let some : position (λ one. one == byte) text ≡ Some (place byte text) =
          place_told byte text true (lt-ltb (place byte text) (length text) h) in
          absurd (none-some (place byte text) (sym none ∙ some))
      | inr h ↦
          subst (Lacks byte) (take_all (place byte text) text h) (lacks_before byte text)
    ]

parted_there : (byte : ℕ) (text : List ℕ) → place byte text < length text
    → IsParted byte text (take (place byte text) text) (drop (place byte text + 1) text)
parted_there byte text h =
    let at : ℕ = place byte text in
    let same : get_or text at 0 ≡ byte =
    eqb-true (get_or text at 0) byte (passes_at_first (λ one. one == byte) text 0 h) in (
      lacks_before byte text,
      subst (λ (one : ℕ). text ≡ take at text ++ one ∷ drop (at + 1) text) same
          (split_at_first (λ one. one == byte) text 0 h),
    )

parted_at : (byte : ℕ) (text : List ℕ) (at : ℕ) → position (λ one. one == byte) text ≡ Some at
    → IsParted byte text (take at text) (drop (at + 1) text)
parted_at byte text at found =
    elim (cases_lt (place byte text) (length text)) [
      | inl h ↦
          let some : position (λ one. one == byte) text ≡ Some (place byte text) =
          place_told byte text true (lt-ltb (place byte text) (length text) h) in
          let same : place byte text ≡ at = cc in
          subst (λ (n : ℕ). IsParted byte text (take n text) (drop (n + 1) text)) same
          (parted_there byte text h)
      | inr h ↦
          let none : position (λ one. one == byte) text ≡ None =
          place_told byte text false (le-ltb (place byte text) (length text) h) in
          absurd (none-some at (sym none ∙ found))
    ]

-- the same as a range of the text gives it
pub parted_in : (byte : ℕ) (text : List ℕ) (at : ℕ) → position (λ one. one == byte) text ≡ Some at
    → IsParted byte text (take at text) (take (length text - (at + 1)) (drop (at + 1) text))
parted_in byte text at found =
    let most : length (drop (at + 1) text) ≤ length text - (at + 1) =
    omega (arith, length-drop (at + 1) text) in
    let all : take (length text - (at + 1)) (drop (at + 1) text) ≡ drop (at + 1) text =
    take_all (length text - (at + 1)) (drop (at + 1) text) most in
    subst (λ (behind : List ℕ). IsParted byte text (take at text) behind) (sym all)
    (parted_at byte text at found)

-- a line that is none of a request
pub no_method : (line : List ℕ) → Lacks 32 line → (m t : List ℕ) → IsLine line m t → ⊥
no_method line lacks m t is =
    not_parted 32 line m (t ++ 32 ∷ (codes "HTTP/1." ++ is.minor)) lacks (is.words.0, is.spelled)

target_parted : (line method rest : List ℕ) → IsParted 32 line method rest → (m t : List ℕ)
    → (is : IsLine line m t) → (method ≡ m) × IsParted 32 rest t (codes "HTTP/1." ++ is.minor)
target_parted line method rest parts m t is =
    let same : (method ≡ m) × (rest ≡ t ++ 32 ∷ (codes "HTTP/1." ++ is.minor)) =
    parted_once 32 line method rest m (t ++ 32 ∷ (codes "HTTP/1." ++ is.minor)) parts
    (is.words.0, is.spelled) in
    (same.0, (is.words.1, same.1))

pub no_target : (line method rest : List ℕ) → IsParted 32 line method rest → Lacks 32 rest
    → (m t : List ℕ) → IsLine line m t → ⊥
no_target line method rest parts lacks m t is =
    not_parted 32 rest t (codes "HTTP/1." ++ is.minor) lacks
    (target_parted line method rest parts m t is).1

pub record AreWords (method target version m t : List ℕ) : Type 0 where
  pub minor : List ℕ
  pub method_is : method ≡ m
  pub target_is : target ≡ t
  pub version_is : version ≡ codes "HTTP/1." ++ minor

pub words_are : (line method rest target version : List ℕ) → IsParted 32 line method rest
    → IsParted 32 rest target version → (m t : List ℕ) → IsLine line m t
    → AreWords method target version m t
words_are line method rest target version first second m t is =
    let one : (method ≡ m) × IsParted 32 rest t (codes "HTTP/1." ++ is.minor) =
    target_parted line method rest first m t is in
    let two : (target ≡ t) × (version ≡ codes "HTTP/1." ++ is.minor) =
    parted_once 32 rest target version t (codes "HTTP/1." ++ is.minor) second one.1 in
    record { minor = is.minor; method_is = one.0; target_is = two.0; version_is = two.1 }

-- a line of a request
pub is_line : (line method rest target version : List ℕ) → IsParted 32 line method rest
    → IsParted 32 rest target version → length method ≢ 0 → length target ≢ 0
    → starts_with nat_eq version (codes "HTTP/1.") ≡ true → IsLine line method target
is_line line method rest target version first second some_method some_target known =
    let tail : version ≡ codes "HTTP/1." ++ drop 7 version =
    begun version (codes "HTTP/1.") known in
    record {
      minor = drop 7 version;
      spelled =
          first.1 ∙ ap (λ (r : List ℕ). method ++ 32 ∷ r) second.1
          ∙ ap (λ (v : List ℕ). method ++ 32 ∷ (target ++ 32 ∷ v)) tail;
      words = (first.0, second.0);
      some = (
        λ (e : method ≡ []). some_method (ap length e),
        λ (e : target ≡ []). some_target (ap length e),
      );
    }

-- a text that is empty
empty : (text : List ℕ) → length text ≡ 0 → text ≡ []
empty [] none = refl
empty (x ∷ text) none = absurd (omega arith)

-- no method, no target, or another version
abbrev IsWrong : List ℕ → List ℕ → List ℕ → Type 0
IsWrong method target version =
    (length method ≡ 0) ⊎ (length target ≡ 0)
    ⊎ (starts_with nat_eq version (codes "HTTP/1.") ≡ false)

-- a line with wrong words
bare_line : (method target version m t : List ℕ) → AreWords method target version m t
    → (m ≢ []) × (t ≢ [])
    → IsWrong method target version
    → ⊥
bare_line method target version m t words some (inl none) =
    some.0 (sym words.method_is ∙ empty method none)
bare_line method target version m t words some (inr (inl none)) =
    some.1 (sym words.target_is ∙ empty target none)
bare_line method target version m t words some (inr (inr other)) =
    not_begun version (codes "HTTP/1.") words.minor other words.version_is

pub not_line : (line method rest target version : List ℕ) → IsParted 32 line method rest
    → IsParted 32 rest target version
    → IsWrong method target version
    → (m t : List ℕ) → IsLine line m t → ⊥
not_line line method rest target version first second wrong m t is =
    bare_line method target version m t
    (words_are line method rest target version first second m t is) is.some wrong

-- bytes that are no request
pub no_line : (head : List ℕ) → Lacks 13 head → (m t : List ℕ) → IsRequest head m t → ⊥
no_line head lacks m t r = not_parted 13 head r.1.0 r.1.1 lacks r.1.2

pub no_words : (head line fields : List ℕ) → IsParted 13 head line fields
    → ((m t : List ℕ) → IsLine line m t → ⊥) → (m t : List ℕ) → IsRequest head m t → ⊥
no_words head line fields parts none m t r =
    let same : line ≡ r.1.0 = (parted_once 13 head line fields r.1.0 r.1.1 parts r.1.2).0 in
    none m t (subst (λ (l : List ℕ). IsLine l m t) (sym same) r.1.3)
