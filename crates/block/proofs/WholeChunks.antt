-- A chunk of which each sample is asked for.
use Rattle.std.proofs.Common.{◌≡◌, ℕ, Bool, true, false, not, ◌&&◌, cond, List, [], ◌∷◌, refl, ap}
use Rattle.std.proofs.Common.{◌∙◌, arith}
use Rattle.std.specs.Prelude.{ℤ, int_lt, int_le}
use Rattle.std.specs.Int.Signed.{◌<ℤ◌, ◌≤ℤ◌}
use Rattle.std.specs.List.{filter, AllByRecursion}
use Rattle.std.proofs.lemmas.Int.{ints}
use Rattle.labels.proofs.Times.{first_T, second_T, T_of}
use Rattle.index_reader.specs.declared.chunk.Chunk.{Chunk}
use Rattle.tombstones.specs.declared.deletion.Deletion.{Deletion}
use Rattle.tombstones.specs.Covering.{covered, has_deletion}
use Rattle.block.specs.Samples.{Source}
use Rattle.block.specs.Sound.{IsHeldChunk}
use Rattle.block.specs.Wanted.{is_wanted, wants_whole}
use Rattle.block.proofs.Counts.{none_covers}
use Rattle.block.proofs.Turns.{below, upto, true_from, span_of}
use Rattle.block.proofs.Wanting.{is_asked}

not_below : (a b : ℤ) → b ≤ℤ a → int_lt a b ≡ false
not_below a b le = go (int_lt a b) refl
  where
    go : (v : Bool) → int_lt a b ≡ v → int_lt a b ≡ false
    go true e = let lt : a <ℤ b = below a b e in absurd (omega (arith, ints))
    go false e = e

false_from : (b : Bool) → not b ≡ true → b ≡ false
false_from true e = absurd cc
false_from false e = refl

module _ (deletions : List Deletion) (reference : ℕ) (from to : ℤ) where
  record IsAllAsked (c : Chunk) : Type 0 where
    begin : from ≤ℤ c.mint
    end : c.maxt ≤ℤ to
    none : has_deletion deletions reference ≡ false

  all_asked : (c : Chunk) → wants_whole deletions reference from to c ≡ true → IsAllAsked c
  all_asked c e =
      let whole = T_of _ e in
      let rest = second_T (int_le from c.mint) _ whole in
      record {
        begin = upto from c.mint (true_from _ (first_T (int_le from c.mint) _ whole));
        end = upto c.maxt to (true_from _ (first_T (int_le c.maxt to) _ rest));
        none = false_from _ (true_from _ (second_T (int_le c.maxt to) _ rest));
      }

  asked_time : (c : Chunk) (t : ℤ) → IsAllAsked c → c.mint ≤ℤ t → t ≤ℤ c.maxt
      → is_wanted deletions reference from to t ≡ true
  asked_time c t h low high =
      let begin : from ≤ℤ c.mint = h.begin in
      let end : c.maxt ≤ℤ to = h.end in
      let after : from ≤ℤ t = omega (arith, ints) in
      let before : t ≤ℤ to = omega (arith, ints) in
      ap (λ b. (not b && not (int_lt to t)) && not (covered deletions reference t))
      (not_below t from after)
      ∙ ap (λ b. not b && not (covered deletions reference t)) (not_below to t before)
      ∙ ap not (none_covers deletions reference t h.none)

  asked_each : (c : Chunk) (ss : List (ℤ × ℤ)) → IsAllAsked c
      → AllByRecursion (λ (s : ℤ × ℤ). c.mint ≤ℤ s.0) ss
      → AllByRecursion (λ (s : ℤ × ℤ). s.0 ≤ℤ c.maxt) ss
      → filter (is_asked deletions reference from to) ss ≡ ss
  asked_each c [] h low high = refl
  asked_each c (s ∷ ss) h low high =
      ap (λ b. cond b (s ∷ filter (is_asked deletions reference from to) ss)
      (filter (is_asked deletions reference from to) ss)) (asked_time c s.0 h low.0 high.0)
      ∙ ap (λ (xs : List (ℤ × ℤ)). s ∷ xs) (asked_each c ss h low.1 high.1)

  pub whole_kept : (source : Source) (c : Chunk) → IsHeldChunk source c
      → wants_whole deletions reference from to c ≡ true
      → filter (is_asked deletions reference from to) (source c) ≡ source c
  whole_kept source c held e =
      let span = span_of source c held in
      asked_each c (source c) (all_asked c e) span.begin span.end
