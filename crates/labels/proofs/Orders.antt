-- Label sets are compared pair by pair.
use Rattle.std.proofs.Common.{◌≡◌, ℕ, ◌+◌, ◌<◌, ◌≤◌, List, [], length, drop, Some, refl, sym, ◌∙◌}
use Rattle.std.specs.Prelude.{slice_get}
use Rattle.std.specs.Ordering.{ordering_then}
use Rattle.std.specs.declared.cmp.Ordering.{Ordering}
use Rattle.std.specs.declared.cmp.Ordering.TheVariants.{Less, Equal, Greater}
use Rattle.std.proofs.lemmas.List.{drop_more, drop_all}
use Rattle.std.proofs.lemmas.Option.{get_or_from_slice_get}
use Rattle.labels.specs.Labels.{Labels, pair_cmp, labels_cmp}

at_both : (a b : Labels) (i : ℕ) (x y : (List ℕ × List ℕ)) → i < length a → i < length b → slice_get a i ≡ Some x → slice_get b i ≡ Some y → labels_cmp (drop i a) (drop i b) ≡ ordering_then (pair_cmp x y) (labels_cmp (drop (i + 1) a) (drop (i + 1) b))
unfolding labels_cmp
at_both a b i x y la lb ga gb =
    let none : (List ℕ × List ℕ) = ([], []) in
    rw (drop_more a i none la, drop_more b i none lb, get_or_from_slice_get a i x none ga, get_or_from_slice_get b i y none gb) refl

pub equal_here : (a b : Labels) (i : ℕ) (x y : (List ℕ × List ℕ)) (o whole : Ordering) → i < length a → i < length b → slice_get a i ≡ Some x → slice_get b i ≡ Some y → o ≡ pair_cmp x y → o ≡ Equal → labels_cmp (drop i a) (drop i b) ≡ whole → labels_cmp (drop (i + 1) a) (drop (i + 1) b) ≡ whole
equal_here a b i x y o whole la lb ga gb e q h = sym (rw (sym e ∙ q) at (at_both a b i x y la lb ga gb)) ∙ h

stays : (o rest : Ordering) → (o ≡ Equal → ⊥) → ordering_then o rest ≡ o
stays Less rest h = refl
stays Equal rest h = absurd (h refl)
stays Greater rest h = refl

pub other_here : (a b : Labels) (i : ℕ) (x y : (List ℕ × List ℕ)) (o whole : Ordering) → i < length a → i < length b → slice_get a i ≡ Some x → slice_get b i ≡ Some y → o ≡ pair_cmp x y → (o ≡ Equal → ⊥) → labels_cmp (drop i a) (drop i b) ≡ whole → o ≡ whole
other_here a b i x y o whole la lb ga gb e q h =
    sym (rw (← e) at (at_both a b i x y la lb ga gb) ∙ stays o _ q) ∙ h

pub second_ends : (a b : Labels) (i : ℕ) (whole : Ordering) → i < length a → length b ≤ i → labels_cmp (drop i a) (drop i b) ≡ whole → Greater ≡ whole
unfolding labels_cmp
second_ends a b i whole la lb h =
    let none : (List ℕ × List ℕ) = ([], []) in
    rw (drop_more a i none la, drop_all i b lb) at h

pub first_ends : (a b : Labels) (i : ℕ) (whole : Ordering) → length a ≤ i → i < length b → labels_cmp (drop i a) (drop i b) ≡ whole → Less ≡ whole
unfolding labels_cmp
first_ends a b i whole la lb h =
    let none : (List ℕ × List ℕ) = ([], []) in
    rw (drop_all i a la, drop_more b i none lb) at h

pub both_end : (a b : Labels) (i : ℕ) (whole : Ordering) → length a ≤ i → length b ≤ i → labels_cmp (drop i a) (drop i b) ≡ whole → Equal ≡ whole
unfolding labels_cmp
both_end a b i whole la lb h = rw (drop_all i a la, drop_all i b lb) at h
