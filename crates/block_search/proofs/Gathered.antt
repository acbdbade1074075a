-- Answers that were found side by side stand in the order of their places.
use Rattle.std.proofs.Common.{◌≡◌, ℕ, suc, ◌<◌, List, [], ◌∷◌, map, length, slice_index_or}
use Rattle.std.proofs.Common.{slice_index, vec_len, IfOk, Ok, Err, Result, Vec, sym, ◌∙◌, arith}
use Rattle.std.specs.List.{AllZip}
use Rattle.std.specs.declared.alloc.AllocError.{AllocError}
use Rattle.std.specs.declared.alloc.Global.{Global}
use Rattle.cover.specs.declared.part_cover.PartAnswer.{PartAnswer}

-- an answer, or none where there was no memory
abbrev Found : Type 0
Found = Result PartAnswer AllocError

module _ (Is : ℕ → PartAnswer → Type 0) where
  by_place : (places : List ℕ) (found : List Found) → length found ≡ length places
      → ((i : ℕ) (d : Found) → i < length places → IfOk (slice_index_or found i d)
      (Is (slice_index places i)))
      → AllZip (λ p r. IfOk r (Is p)) places found
  by_place [] [] e h = tt
  by_place [] (r ∷ rs) e h = absurd cc
  by_place (p ∷ ps) [] e h = absurd cc
  by_place (p ∷ ps) (r ∷ rs) e h = (
    h 0 r (omega arith),
    by_place ps rs (omega (arith, e))
        (λ i d lt. h (suc i) d (omega (arith, lt))),
  )

  -- what each call gave stands at its place
  pub all_found : (places : List ℕ) (r : Result (Vec Found Global) AllocError)
      → IfOk r (λ v. vec_len v ≡ length places)
      → IfOk r (λ v. (i : ℕ) (d : Found) → i < length places → IfOk (slice_index_or v.items i d)
      (Is (slice_index places i)))
      → IfOk r (λ v. AllZip (λ p r. IfOk r (Is p)) places v.items)
  all_found places (Ok v) e h = by_place places v.items (sym v.ok.0 ∙ e) h
  all_found places (Err e) len h = tt

  -- where none is missing, these are the answers
  pub none_missing : (places : List ℕ) (answers : List PartAnswer) → AllZip
      (λ (p : ℕ) (r : Found). IfOk r (Is p)) places (map Ok answers) → AllZip Is places answers
  none_missing [] [] h = tt
  none_missing [] (a ∷ more) h = absurd h
  none_missing (p ∷ ps) [] h = absurd h
  none_missing (p ∷ ps) (a ∷ more) h = (h.0, none_missing ps more h.1)
