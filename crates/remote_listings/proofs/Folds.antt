-- What is added to a set, list by list.
use Rattle.std.proofs.Common.{◌≡◌, ◌<◌, ◌+◌, ℕ, List, [], ◌++◌, length, get_or, drop}
use Rattle.std.proofs.Common.{Option, None, Some, refl, sym, ap, ◌∙◌}
use Rattle.std.specs.Prelude.{fold, flat_map}
use Rattle.std.specs.List.{filter_map, cons_option}
use Rattle.std.proofs.lemmas.List.{at_drop_more}
use Rattle.std.proofs.lemmas.List.Sums.{fold-append}

module _ {A B : Type 0} (f : B → A → B) where
  -- an item that may be none, and then others
  fold_option : (b : B) (o : Option A) (xs : List A)
      → fold f b (cons_option o xs) ≡ fold f (fold f b (cons_option o [])) xs
  fold_option b None xs = refl
  fold_option b (Some x) xs = refl

  -- one more of the items that may be none
  pub option_turn : {X : Type 0} (g : X → Option A) (xs : List X) (i : ℕ) (x : X) (first old new : B)
      → i < length xs → x ≡ get_or xs i x → new ≡ fold f old (cons_option (g x) [])
      → fold f old (filter_map g (drop i xs)) ≡ first
      → fold f new (filter_map g (drop (i + 1) xs)) ≡ first
  option_turn g xs i x first old new h is moved before =
      ap (λ (b : B). fold f b (filter_map g (drop (i + 1) xs))) moved
      ∙ sym (fold_option old (g x) (filter_map g (drop (i + 1) xs)))
      ∙ ap (λ (y : _). fold f old (cons_option (g y) (filter_map g (drop (i + 1) xs)))) is
      ∙ ap (fold f old) (sym (at_drop_more (filter_map g) xs i x h))
      ∙ before

  -- one more of the lists of items
  pub list_turn : {X : Type 0} (g : X → List A) (xs : List X) (i : ℕ) (x : X) (first old new : B)
      → i < length xs → x ≡ get_or xs i x → new ≡ fold f old (g x)
      → fold f old (flat_map g (drop i xs)) ≡ first
      → fold f new (flat_map g (drop (i + 1) xs)) ≡ first
  list_turn g xs i x first old new h is moved before =
      ap (λ (b : B). fold f b (flat_map g (drop (i + 1) xs))) moved
      ∙ sym (fold-append f old (g x) (flat_map g (drop (i + 1) xs)))
      ∙ ap (λ (y : _). fold f old (g y ++ flat_map g (drop (i + 1) xs))) is
      ∙ ap (fold f old) (sym (at_drop_more (flat_map g) xs i x h))
      ∙ before
