-- The samples of one chunk more.
use Rattle.std.proofs.Common.{◌≡◌, ◌⊎◌, inl, inr, ℕ, suc, ◌+◌, ◌<◌, List, [], ◌∷◌, ◌++◌, length}
use Rattle.std.proofs.Common.{take, get_or, refl, sym, ap, subst, ◌∙◌, append_assoc}
use Rattle.std.proofs.lemmas.List.{append-nil}
use Rattle.std.proofs.lemmas.Grind.{take_at_read}
use Rattle.index_reader.specs.declared.chunk.Chunk.{Chunk}
use Rattle.xor_reader.specs.Grammar.{Sample}
use Rattle.kept_samples.specs.declared.keeping.Times.{Times}
use Rattle.prometheus_block.specs.Series.{Segments, AreSamplesOf, AreSamplesIn}

-- what a chunk has, on its own
record Own (reads : Segments) (times : Times) (c : Chunk) (old new : List Sample) : Type 0 where
  first : List Sample
  of : AreSamplesOf reads times c [] first
  is : new ≡ old ++ first

own : (reads : Segments) (times : Times) (c : Chunk) (old new : List Sample)
    → AreSamplesOf reads times c old new → Own reads times c old new
own reads times c old new (inl h) = record {
  first = [];
  of = inl (h.0, refl);
  is = h.1 ∙ sym (append-nil old);
}
own reads times c old new (inr h) = record {
  first = h.1.0;
  of = inr (h.0, (h.1.0, h.1.1, refl));
  is = h.1.2;
}

chained_next : (reads : Segments) (times : Times) (cs : List Chunk) (c : Chunk)
    (samples first : List Sample)
    → AreSamplesIn reads times cs samples → AreSamplesOf reads times c [] first
    → AreSamplesIn reads times (cs ++ c ∷ []) (samples ++ first)
chained_next reads times [] c samples first none of =
    (first, [], ap (λ (x : List Sample). x ++ first) none ∙ sym (append-nil first), of, refl)
chained_next reads times (x ∷ cs) c samples first each of = (
  each.0,
  each.1 ++ first,
  ap (λ (y : List Sample). y ++ first) each.2 ∙ append_assoc each.0 each.1 first,
  each.3,
  chained_next reads times cs c each.1 first each.4 of,
)

pub one_more_chunk : (reads : Segments) (times : Times) (chunks : List Chunk) (i : ℕ) (d : Chunk)
    (old new : List Sample) → i < length chunks
    → AreSamplesIn reads times (take i chunks) old
    → AreSamplesOf reads times (get_or chunks i d) old new
    → AreSamplesIn reads times (take (i + 1) chunks) new
one_more_chunk reads times chunks i d old new lt each of =
    let o = own reads times (get_or chunks i d) old new of in
    subst (λ (x : List Sample). AreSamplesIn reads times (take (i + 1) chunks) x) (sym o.is)
    (subst (λ (x : List Chunk). AreSamplesIn reads times x (old ++ o.first))
    (sym (take_at_read chunks i d lt).1)
    (chained_next reads times (take i chunks) (get_or chunks i d) old o.first each o.of))
