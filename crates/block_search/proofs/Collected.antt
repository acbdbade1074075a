-- What threads collect of a certificate is what one thread finds in it.
use Rattle.std.proofs.Common.{◌≡◌, List, [], ◌∷◌, Option, None, Some, Result, Ok, Err, map, Vec}
use Rattle.std.proofs.Common.{Global, IfOk, MatchOption, MatchResult, Contains, refl, sym, ap, ◌∙◌}
use Rattle.std.specs.List.{AllZip, filter_map, cons_option}

module _ {X Y E : Type 0} (h : X → Option Y) where
  -- what is found at an item: nothing where h gives nothing, and else what h gives, or an error
  abbrev Finds : X → Option (Result Y E) → Type 0
  Finds x found = MatchOption found (h x ≡ None) (λ r. IfOk r (λ y. h x ≡ Some y))

  all_found : (xs : List X) (os : List (Option (Result Y E))) (ys : List Y) → AllZip Finds xs os
      → filter_map (λ o. o) os ≡ map Ok ys → ys ≡ filter_map h xs
  all_found [] [] [] finds e = refl
  all_found [] [] (y ∷ ys) finds e = absurd cc
  all_found [] (o ∷ os) ys finds e = absurd finds
  all_found (x ∷ xs) [] ys finds e = absurd finds
  all_found (x ∷ xs) (None ∷ os) ys finds e =
      all_found xs os ys finds.1 e ∙ sym (ap (λ o. cons_option o (filter_map h xs)) finds.0)
  all_found (x ∷ xs) (Some (Ok y) ∷ os) [] finds e = absurd cc
  all_found (x ∷ xs) (Some (Ok y) ∷ os) (z ∷ zs) finds e =
      let rest = all_found xs os zs finds.1 cc in
      let same : z ≡ y = cc in
      (λ i. same i ∷ rest i) ∙ sym (ap (λ o. cons_option o (filter_map h xs)) finds.0)
  all_found (x ∷ xs) (Some (Err e) ∷ os) [] finds is = absurd cc
  all_found (x ∷ xs) (Some (Err e) ∷ os) (z ∷ zs) finds is = absurd cc

  -- collected with the first error, if there is one
  pub collected : (xs : List X) (r : Result (Vec Y Global) E) (os : List (Option (Result Y E)))
      → AllZip Finds xs os → (found : List (Result Y E)) → found ≡ filter_map (λ o. o) os
      → MatchResult r (λ v. (ys : List Y) × (found ≡ map Ok ys) × (v.items ≡ ys))
      (λ e. Contains found (Err e))
      → IfOk r (λ v. v.items ≡ filter_map h xs)
  collected xs (Ok v) os finds found kept told =
      told.2 ∙ all_found xs os told.0 finds (sym kept ∙ told.1)
  collected xs (Err e) os finds found kept told = tt
