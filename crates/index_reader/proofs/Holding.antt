-- Bytes that grow keep their lists.
use Rattle.std.proofs.Common.{◌≡◌, ℕ, suc, ◌-◌, ◌%◌, List, [], ◌∷◌, ◌++◌, length, get_or, refl, sym}
use Rattle.std.proofs.Common.{ap, subst, ◌∙◌, inl, inr, arith}
use Rattle.std.specs.List.Sorted.{IsStrictlyIncreasing}
use Rattle.std.proofs.lemmas.Bool.{cases_lt}
use Rattle.std.proofs.lemmas.List.{length-append, get_or_append_left, map_push, get_or_at}
use Rattle.std.proofs.lemmas.List.{length_push}
use Rattle.index_reader.specs.declared.lists.ListSpan.{ListSpan}
use Rattle.index_reader.specs.References.{references_in}
use Rattle.index_reader.specs.KeptLists.{kept_list_at, kept_lists_at, IsListAt, AreListsAt}
use Rattle.index_reader.proofs.Growth.{range_grown, range_end}

list_grown : (bytes more : List ℕ) (p : ListSpan) → IsListAt bytes p
    → kept_list_at (bytes ++ more) p ≡ kept_list_at bytes p
list_grown bytes more p h =
    ap references_in (range_grown bytes more p.start p.end h.ordered h.inside)

held_grown : (bytes more : List ℕ) (p : ListSpan) → IsListAt bytes p → IsListAt (bytes ++ more) p
held_grown bytes more p h = record {
  ordered = h.ordered;
  inside = omega (arith, h.inside, length-append bytes more);
  whole = h.whole;
  increasing = subst IsStrictlyIncreasing (sym (list_grown bytes more p h)) h.increasing;
}

pub all_grown : (bytes more : List ℕ) (ps : List ListSpan) → AreListsAt bytes ps
    → AreListsAt (bytes ++ more) ps
all_grown bytes more ps h = λ k d lt. held_grown bytes more (get_or ps k d) (h k d lt)

pub lists_grown : (bytes more : List ℕ) (ps : List ListSpan) → AreListsAt bytes ps
    → kept_lists_at (bytes ++ more) ps ≡ kept_lists_at bytes ps
lists_grown bytes more [] h = refl
lists_grown bytes more (p ∷ ps) h =
    let one = list_grown bytes more p (h 0 p (omega arith)) in
    let others = lists_grown bytes more ps (λ k d lt. h (suc k) d (omega arith)) in
    rw (one, others) refl

last_list : (bytes list : List ℕ) (p : ListSpan) → p.start ≡ length bytes
    → p.end ≡ length (bytes ++ list) → kept_list_at (bytes ++ list) p ≡ references_in list
last_list bytes list p s e = rw (s, e, range_end bytes list) refl

pub lists_added : (bytes list : List ℕ) (ps : List ListSpan) (p : ListSpan) → AreListsAt bytes ps
    → p.start ≡ length bytes → p.end ≡ length (bytes ++ list)
    → kept_lists_at (bytes ++ list) (ps ++ p ∷ [])
    ≡ kept_lists_at bytes ps ++ references_in list ∷ []
lists_added bytes list ps p h s e =
    map_push (kept_list_at (bytes ++ list)) ps p
    ∙ ap (λ (xs : List (List ℕ)). xs ++ kept_list_at (bytes ++ list) p ∷ [])
    (lists_grown bytes list ps h)
    ∙ ap (λ (x : List ℕ). kept_lists_at bytes ps ++ x ∷ []) (last_list bytes list p s e)

added_held : (bytes list : List ℕ) (p : ListSpan) → length list % 4 ≡ 0
    → IsStrictlyIncreasing (references_in list) → p.start ≡ length bytes
    → p.end ≡ length (bytes ++ list) → IsListAt (bytes ++ list) p
added_held bytes list p four inc s e =
    let size : p.end - p.start ≡ length list = omega (arith, s, e, length-append bytes list) in
    record {
      ordered = omega (arith, s, e, length-append bytes list);
      inside = omega (arith, e);
      whole = ap (λ (n : ℕ). n % 4) size ∙ four;
      increasing = subst IsStrictlyIncreasing (sym (last_list bytes list p s e)) inc;
    }

pub all_added : (bytes list : List ℕ) (ps : List ListSpan) (p : ListSpan) → AreListsAt bytes ps
    → length list % 4 ≡ 0 → IsStrictlyIncreasing (references_in list) → p.start ≡ length bytes
    → p.end ≡ length (bytes ++ list) → AreListsAt (bytes ++ list) (ps ++ p ∷ [])
all_added bytes list ps p h four inc s e = λ k d lt.
    elim (cases_lt k (length ps)) [
      | inl below ↦
          rw (get_or_append_left ps (p ∷ []) d k below)
          (held_grown bytes list (get_or ps k d) (h k d below))
      | inr from ↦
          let n : length ps ≡ k = omega (arith, lt, length_push ps p) in
          rw (get_or_at ps p [] d k n) (added_held bytes list p four inc s e)
    ]
