-- One step more of a loop.
use Rattle.std.proofs.Common.{◌≡◌, ℕ, ◌+◌, ◌<◌, List, [], ◌∷◌, ◌++◌, Option, None, Some, length}
use Rattle.std.proofs.Common.{get_or, take, refl, sym, ◌∙◌, ap}
use Rattle.std.specs.List.{filter_map, cons_option}
use Rattle.std.specs.Option.{option_to_list}
use Rattle.std.proofs.lemmas.List.{take_more}
use Rattle.std.proofs.lemmas.List.Elements.{filter_map-append}

cons_nothing : {Y : Type 0} (o : Option Y) → cons_option o [] ≡ option_to_list o
cons_nothing None = refl
cons_nothing (Some y) = refl

-- what h gives of one item more, if anything
pub filter_map_step : {X Y : Type 0} (h : X → Option Y) (xs : List X) (i : ℕ) (x : X) (o : Option Y)
    (old new : List Y) → i < length xs → x ≡ get_or xs i x
    → o ≡ h x → old ≡ filter_map h (take i xs) → new ≡ old ++ option_to_list o → new
    ≡ filter_map h (take (i + 1) xs)
filter_map_step h xs i x o old new lt is e inv moved =
    moved
    ∙ ap (λ ys. ys ++ option_to_list o) inv
    ∙ ap (λ zs. filter_map h (take i xs) ++ zs)
    (sym (ap (λ p. cons_option p []) (sym e) ∙ cons_nothing o))
    ∙ sym (filter_map-append h (take i xs) (x ∷ []))
    ∙ ap (filter_map h) (ap (λ y. take i xs ++ y ∷ []) is ∙ sym (take_more xs i x lt))
