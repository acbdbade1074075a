-- The chunks of the series of an index are in the order of their times.
use Rattle.std.proofs.Common.{◌≡◌, ℕ, List, [], ◌∷◌, Bool, true, false, ◌&&◌, refl, sym, subst}
use Rattle.std.proofs.Common.{arith}
use Rattle.std.specs.Prelude.{ℤ, pos, ◌+ℤ◌, ◌<◌}
use Rattle.std.specs.Int.Signed.{◌≤ℤ◌, ◌<ℤ◌}
use Rattle.std.specs.List.{AllByRecursion, list_all}
use Rattle.std.proofs.lemmas.Bool.{leb-true}
use Rattle.std.proofs.lemmas.Int.{ints}
use Rattle.index_reader.specs.declared.chunk.Chunk.{Chunk}
use Rattle.index_reader.specs.Layout.{SeriesEntry, Body}
use Rattle.index_reader.specs.Indexes.{Series, Indexed, IsConsistent, chunk_lists, series_of}
use Rattle.index_reader.specs.Spelled.{AreLater, AreChunks, AreBodies, IsIndex}
use Rattle.block.proofs.Checks.{all_pass}
use Rattle.block.specs.Samples.{chunk_samples}
use Rattle.block.specs.Sound.{lies_in, IsReadChunk, IsHeldChunk, AreBehind, AreInTurn, IsStored, IsSoundBlock}
use Rattle.block.specs.Opening.{have_few}

spanned : (mint maxt : ℤ) (span : ℕ) → maxt ≡ mint +ℤ pos span → mint ≤ℤ maxt
spanned mint maxt span e = omega (arith, ints)

behind : (before mint : ℤ) (gap : ℕ) → 0 < gap → mint ≡ before +ℤ pos gap → before <ℤ mint
behind before mint gap lt e = omega (arith, ints)

behind_each : (before : Chunk) (cs : List Chunk) (text : List ℕ) → AreLater before cs text
    → AreBehind before cs
behind_each before [] text h = tt
behind_each before (c ∷ cs) text h = (
  behind before.maxt c.mint h.3.gap h.3.later h.3.begins,
  spanned c.mint c.maxt h.3.span h.3.ends,
  behind_each c cs h.1 h.4,
)

in_turn : (cs : List Chunk) (text : List ℕ) → AreChunks cs text → AreInTurn cs
in_turn [] text h = tt
in_turn (c ∷ cs) text h = (spanned c.mint c.maxt h.3.span h.3.ends, behind_each c cs h.1 h.4)

turned : (symbols : List (List ℕ)) (ps : List SeriesEntry) (bs : List Body)
    → AreBodies symbols ps bs
    → AllByRecursion (λ (s : Series). AreInTurn s.chunks) (series_of symbols ps bs)
unfolding series_of
turned symbols [] bs h = tt
turned symbols (p ∷ ps) [] h = tt
turned symbols (p ∷ ps) (b ∷ bs) h =
    (in_turn b.chunks h.0.chunks_text h.0.chunks, turned symbols ps bs h.1)

pub turned_in : (file : List ℕ) (x : Indexed) → IsIndex file x
    → AllByRecursion (λ (s : Series). AreInTurn s.chunks) x.series
turned_in file x i =
    subst (AllByRecursion (λ (s : Series). AreInTurn s.chunks)) (sym i.series)
    (turned i.parts.symbols i.parts.entries i.bodies i.spelled)

and_true : (a b : Bool) → (a && b) ≡ true → (a ≡ true) × (b ≡ true)
and_true true b h = (refl, h)
and_true false b h = absurd cc

held_of : (file : List ℕ) (c : Chunk) → IsReadChunk file c → IsHeldChunk (chunk_samples file) c
held_of file c h = record { batch = h.stands.batch; first = h.stands.first; last = h.stands.last }

each_held : (file : List ℕ) (cs : List Chunk) → AllByRecursion (IsReadChunk file) cs
    → AllByRecursion (IsHeldChunk (chunk_samples file)) cs
each_held file [] held = tt
each_held file (c ∷ cs) held = (held_of file c held.0, each_held file cs held.1)

pub stored_each : (range : ℤ × ℤ) (file : List ℕ) (ss : List Series)
    → AllByRecursion (λ (s : Series). AreInTurn s.chunks) ss
    → AllByRecursion (AllByRecursion (IsReadChunk file)) (chunk_lists ss)
    → list_all (have_few file) (chunk_lists ss) ≡ true
    → list_all (list_all (lies_in range)) (chunk_lists ss) ≡ true
    → AllByRecursion (IsStored range (chunk_samples file)) ss
stored_each range file [] turn held few inside = tt
stored_each range file (s ∷ ss) turn held few inside =
    let f = and_true (have_few file s.chunks) (list_all (have_few file) (chunk_lists ss)) few in
    let i =
    and_true (list_all (lies_in range) s.chunks)
    (list_all (list_all (lies_in range)) (chunk_lists ss)) inside in (
      record {
        held = each_held file s.chunks held.0;
        in_turn = turn.0;
        few = leb-true _ _ f.0;
        inside = all_pass (lies_in range) s.chunks i.0;
      },
      stored_each range file ss turn.1 held.1 f.1 i.1,
    )

pub sound_of : (range : ℤ × ℤ) (index file : List ℕ) (x : Indexed) → IsConsistent x
    → IsIndex index x → AllByRecursion (AllByRecursion (IsReadChunk file)) (chunk_lists x.series)
    → list_all (have_few file) (chunk_lists x.series) ≡ true
    → list_all (list_all (lies_in range)) (chunk_lists x.series) ≡ true → IsSoundBlock range (chunk_samples file) x
sound_of range index file x consistent i held few inside = record {
  consistent = consistent;
  stored = stored_each range file x.series (turned_in index x i) held few inside;
}
