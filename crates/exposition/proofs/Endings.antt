-- The ends of texts.
use Rattle.std.specs.Prelude.{◌≡◌, ◌⊎◌, List, [], ◌∷◌, ◌++◌, ℕ, refl}
use Rattle.std.specs.Borrow.{Bor}
use Rattle.std.proofs.Common.{sym, ap, subst, ◌∙◌, append_assoc, inl, inr}
use Rattle.std.proofs.lemmas.List.{append-nil, append_cancel_right, map-append}
use Rattle.open_metrics.specs.declared.comments.Format.{Format}
use Rattle.open_metrics.specs.declared.comments.Format.TheVariants.{OpenMetrics, Prometheus}
use Rattle.exposition.specs.Reading.{IsCutInto, eof, texts_in}
use Rattle.exposition.specs.Refusing.{AreBefore}

abbrev last_of : {A : Type 0} → A → List A → A
last_of d [] = d
last_of d (x ∷ xs) = last_of x xs

last_at : {A : Type 0} (d : A) (xs : List A) (a : A) → last_of d (xs ++ a ∷ []) ≡ a
last_at d [] a = refl
last_at d (x ∷ xs) a = last_at x xs a

-- lists with a last element that are equal have the same last, and the same before it
pub same_last : {A : Type 0} (xs ys : List A) (a b : A) → xs ++ a ∷ [] ≡ ys ++ b ∷ [] → a ≡ b
same_last xs ys a b e = sym (last_at a xs a) ∙ (ap (last_of a) e ∙ last_at a ys b)

pub same_front : {A : Type 0} (xs ys : List A) (a b : A) → xs ++ a ∷ [] ≡ ys ++ b ∷ [] → xs ≡ ys
same_front {A} xs ys a b e =
    append_cancel_right xs ys (b ∷ [])
    (subst (λ (x : A). xs ++ x ∷ [] ≡ ys ++ b ∷ []) (same_last xs ys a b e) e)

pub not_eof : eof ≡ [] → ⊥
not_eof e = absurd cc

-- a last line that is taken off
pub last_off : (all rest : List (Bor (List ℕ))) (last : Bor (List ℕ))
    → all ≡ rest ++ last ∷ [] → texts_in all ≡ texts_in rest ++ last.now ∷ []
last_off all rest last e =
    ap texts_in e ∙ map-append (λ (x : Bor (List ℕ)). x.now) rest (last ∷ [])

-- the lines before `# EOF`, and an empty line or none behind it
pub cut_open : (all front lines : List (List ℕ)) → AreBefore all front
    → front ≡ lines ++ eof ∷ [] → IsCutInto OpenMetrics all lines
cut_open all front lines (inl e) f =
    record { ending = eof ∷ []; parts = sym e.1 ∙ f; ends = inl refl }
cut_open all front lines (inr e) f = record {
  ending = eof ∷ [] ∷ [];
  parts =
      e
      ∙ (ap (λ (ls : List (List ℕ)). ls ++ [] ∷ []) f
      ∙ append_assoc lines (eof ∷ []) ([] ∷ []));
  ends = inr refl;
}

pub cut_older : (all lines : List (List ℕ)) → lines ≡ all → IsCutInto Prometheus all lines
cut_older all lines e =
    record { ending = []; parts = sym e ∙ sym (append-nil lines); ends = refl }

-- an end with an empty line is an end, and the empty line
two_ends : (all lines : List (List ℕ)) → all ≡ lines ++ eof ∷ [] ∷ []
    → all ≡ (lines ++ eof ∷ []) ++ [] ∷ []
two_ends all lines e = e ∙ sym (append_assoc lines (eof ∷ []) ([] ∷ []))

ended : (all front lines : List (List ℕ)) → AreBefore all front
    → (all ≡ lines ++ eof ∷ []) ⊎ (all ≡ lines ++ eof ∷ [] ∷ []) → front ≡ lines ++ eof ∷ []
ended all front lines (inl b) (inl e) = b.1 ∙ e
ended all front lines (inl b) (inr e) =
    absurd (b.0 (lines ++ eof ∷ []) (b.1 ∙ two_ends all lines e))
ended all front lines (inr b) (inl e) =
    absurd (not_eof (sym (same_last front lines [] eof (sym b ∙ e))))
ended all front lines (inr b) (inr e) =
    same_front front (lines ++ eof ∷ []) [] [] (sym b ∙ two_ends all lines e)

cases : (all lines ending : List (List ℕ)) → all ≡ lines ++ ending
    → (ending ≡ eof ∷ []) ⊎ (ending ≡ eof ∷ [] ∷ [])
    → (all ≡ lines ++ eof ∷ []) ⊎ (all ≡ lines ++ eof ∷ [] ∷ [])
cases all lines ending e (inl f) = inl (e ∙ ap (λ (x : List (List ℕ)). lines ++ x) f)
cases all lines ending e (inr f) = inr (e ∙ ap (λ (x : List (List ℕ)). lines ++ x) f)

-- where a text is cut, `# EOF` is the last of its lines but for an empty one
pub end_of : (all front lines : List (List ℕ)) → AreBefore all front
    → IsCutInto OpenMetrics all lines → front ≡ lines ++ eof ∷ []
end_of all front lines before cut =
    ended all front lines before (cases all lines cut.ending cut.parts cut.ends)

same_ends : (all a b : List (List ℕ)) → (all ≡ a ++ eof ∷ []) ⊎ (all ≡ a ++ eof ∷ [] ∷ [])
    → (all ≡ b ++ eof ∷ []) ⊎ (all ≡ b ++ eof ∷ [] ∷ []) → a ≡ b
same_ends all a b (inl e) (inl f) = same_front a b eof eof (sym e ∙ f)
same_ends all a b (inl e) (inr f) =
    absurd (not_eof (same_last a (b ++ eof ∷ []) eof [] (sym e ∙ two_ends all b f)))
same_ends all a b (inr e) (inl f) =
    absurd (not_eof (same_last b (a ++ eof ∷ []) eof [] (sym f ∙ two_ends all a e)))
same_ends all a b (inr e) (inr f) =
    same_front a b eof eof
    (same_front (a ++ eof ∷ []) (b ++ eof ∷ []) [] [] (sym (two_ends all a e) ∙ two_ends all b f))

no_end : (all lines ending : List (List ℕ)) → all ≡ lines ++ ending → ending ≡ [] → all ≡ lines
no_end all lines ending e f =
    e ∙ (ap (λ (x : List (List ℕ)). lines ++ x) f ∙ append-nil lines)

-- a text is cut in one way
pub one_cut : (format : Format) (all a b : List (List ℕ)) → IsCutInto format all a
    → IsCutInto format all b → a ≡ b
one_cut OpenMetrics all a b p q =
    same_ends all a b (cases all a p.ending p.parts p.ends) (cases all b q.ending q.parts q.ends)
one_cut Prometheus all a b p q =
    sym (no_end all a p.ending p.parts p.ends) ∙ no_end all b q.ending q.parts q.ends
