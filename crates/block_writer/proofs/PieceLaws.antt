-- A piece of a row stands in the file as a chunk, and the chunks of a row have its samples.
use Rattle.std.proofs.Common.{◌≡◌, ℕ, zero, suc, ◌+◌, ◌-◌, ◌<◌, ◌≤◌, Bool, true, false, ◌&&◌, List}
use Rattle.std.proofs.Common.{[], ◌∷◌, ◌++◌, length, take, drop, pos, refl, sym, ap, subst, arith}
use Rattle.std.specs.Prelude.{ℤ, T, int_le, int_lt}
use Rattle.std.specs.List.{AllByRecursion}
use Rattle.std.specs.Int.{w64}
use Rattle.std.specs.Int.RustNames.{FitsSigned}
use Rattle.std.specs.Ordering.{int_cmp}
use Rattle.std.specs.FinMap.Entries.{is_sorted}
use Rattle.std.proofs.lemmas.List.{length-take, length-drop, length-append, take-append-drop}
use Rattle.labels.specs.Contents.{in_range}
use Rattle.labels.specs.declared.sample.TheConstants.{MIN_TIME, MAX_TIME}
use Rattle.index_reader.specs.declared.chunk.Chunk.{Chunk}
use Rattle.wire.specs.Spelling.{uvarint}
use Rattle.wire.proofs.Laws.{uvarint_long}
use Rattle.wire.specs.Checksum.{checked}
use Rattle.chunk_reader.specs.Grammar.{batch_text, chunk_text, plain, time_at, IsBatch, IsChunk}
use Rattle.block.specs.Ranges.{covers}
use Rattle.block.specs.Sound.{lies_in}
use Rattle.block_writer.specs.EntryBodies.{chunk_of, chunks_from}
use Rattle.block_writer.proofs.Storable.{AreStorable}
use Rattle.block_writer.specs.Writing.{pieces, piece_text}
use Rattle.block_writer.proofs.Parted.{sorted_front, sorted_back, pass_front, pass_back, each_front}
use Rattle.block_writer.proofs.Parted.{each_back, one_of}

-- samples in the order of their times, that a block of a range may have
pub record AreReady (range : ℤ × ℤ) (samples : List (ℤ × ℤ)) : Type 0 where
  pub ascending : T (is_sorted int_cmp samples)
  pub storable : AreStorable range samples

pub ready_front : (range : ℤ × ℤ) (xs ys : List (ℤ × ℤ))
    → AreReady range (xs ++ ys) → AreReady range xs
ready_front range xs ys r = record {
  ascending = sorted_front xs ys r.ascending;
  storable = record {
    inside = each_front (λ (s : ℤ × ℤ). covers range s.0 ≡ true) xs ys r.storable.inside;
    times = pass_front (λ (s : ℤ × ℤ). in_range MIN_TIME MAX_TIME s.0) xs ys r.storable.times;
    values = each_front (λ (s : ℤ × ℤ). FitsSigned w64 s.1) xs ys r.storable.values;
  };
}

pub ready_back : (range : ℤ × ℤ) (xs ys : List (ℤ × ℤ))
    → AreReady range (xs ++ ys) → AreReady range ys
ready_back range xs ys r = record {
  ascending = sorted_back xs ys r.ascending;
  storable = record {
    inside = each_back (λ (s : ℤ × ℤ). covers range s.0 ≡ true) xs ys r.storable.inside;
    times = pass_back (λ (s : ℤ × ℤ). in_range MIN_TIME MAX_TIME s.0) xs ys r.storable.times;
    values = each_back (λ (s : ℤ × ℤ). FitsSigned w64 s.1) xs ys r.storable.values;
  };
}

parted : (range : ℤ × ℤ) (samples : List (ℤ × ℤ)) → AreReady range samples
    → AreReady range (take 120 samples ++ drop 120 samples)
parted range samples r = subst (AreReady range) (sym (take-append-drop 120 samples)) r

pub first_ready : (range : ℤ × ℤ) (samples : List (ℤ × ℤ)) → AreReady range samples
    → AreReady range (take 120 samples)
first_ready range samples r =
    ready_front range (take 120 samples) (drop 120 samples) (parted range samples r)

pub rest_ready : (range : ℤ × ℤ) (samples : List (ℤ × ℤ)) → AreReady range samples
    → AreReady range (drop 120 samples)
rest_ready range samples r =
    ready_back range (take 120 samples) (drop 120 samples) (parted range samples r)

pub piece_some : (samples : List (ℤ × ℤ)) → 0 < length samples → 0 < length (take 120 samples)
piece_some samples some = omega (arith, some, length-take 120 samples)

pub piece_few : (samples : List (ℤ × ℤ)) → length (take 120 samples) < 65536
piece_few samples = omega (arith, length-take 120 samples)

pub batch_of : (range : ℤ × ℤ) (samples : List (ℤ × ℤ)) → 0 < length samples
    → AreReady range samples → IsBatch (take 120 samples)
batch_of range samples some r =
    let p = first_ready range samples r in
    record {
      some = piece_some samples some;
      few = piece_few samples;
      ascending = p.ascending;
      times = p.storable.times;
      values = p.storable.values;
    }

-- a chunk lies in the range where its samples do

both_true : (a b : Bool) → a ≡ true → b ≡ true → (a && b) ≡ true
both_true true b p q = q
both_true false b p q = p

first_true : (a b : Bool) → (a && b) ≡ true → a ≡ true
first_true true b h = refl
first_true false b h = h

second_true : (a b : Bool) → (a && b) ≡ true → b ≡ true
second_true true b h = h
second_true false b h = absurd cc

pub chunk_inside : (range : ℤ × ℤ) (at : ℕ) (samples : List (ℤ × ℤ)) → 0 < length samples
    → AreReady range samples → lies_in range (chunk_of at samples) ≡ true
chunk_inside range at samples some r =
    let first =
    one_of (λ (s : ℤ × ℤ). covers range s.0 ≡ true) samples 0 (pos 0, pos 0) some
    r.storable.inside in
    let last =
    one_of (λ (s : ℤ × ℤ). covers range s.0 ≡ true) samples (length samples - 1) (pos 0, pos 0)
    (omega (arith, some)) r.storable.inside in
    both_true (int_le range.0 (time_at samples 0))
    (int_lt (time_at samples (length samples - 1)) range.1)
    (first_true (int_le range.0 (time_at samples 0)) (int_lt (time_at samples 0) range.1) first)
    (second_true (int_le range.0 (time_at samples (length samples - 1)))
    (int_lt (time_at samples (length samples - 1)) range.1) last)

pub all_inside : (range : ℤ × ℤ) (n at : ℕ) (samples : List (ℤ × ℤ)) → AreReady range samples
    → AllByRecursion (λ (c : Chunk). lies_in range c ≡ true) (chunks_from at (pieces n samples))
unfolding pieces chunks_from
all_inside range zero at [] r = tt
all_inside range (suc n) at [] r = tt
all_inside range zero at (s ∷ ss) r = tt
all_inside range (suc n) at (s ∷ ss) r = (
  chunk_inside range at (take 120 (s ∷ ss)) (piece_some (s ∷ ss) (omega arith))
      (first_ready range (s ∷ ss) r),
  all_inside range n (at + length (piece_text (take 120 (s ∷ ss)))) (drop 120 (s ∷ ss))
      (rest_ready range (s ∷ ss) r),
)

-- a piece, and the file behind it

pub piece_stands : (file : List ℕ) (at : ℕ) (range : ℤ × ℤ) (samples : List (ℤ × ℤ)) (rest : List ℕ)
    → length file ≤ 0x4000_0000 → 8 ≤ at → 0 < length samples → AreReady range samples
    → drop at file ≡ piece_text (take 120 samples) ++ rest
    → IsChunk file at (time_at (take 120 samples) 0)
    (time_at (take 120 samples) (length (take 120 samples) - 1)) (take 120 samples)
unfolding piece_text
piece_stands file at range samples rest short behind some r stands =
    let body = batch_text (take 120 samples) in
    let size = length-append (uvarint (length body)) (checked (plain ∷ body)) in
    let inside : at < length file = omega (
      arith,
      length-drop at file,
      ap length stands,
      length-append (chunk_text plain body) rest,
      size,
      uvarint_long (length body),
    ) in
    record {
      segment = omega (arith, short, inside);
      behind_head = behind;
      stands = (rest, stands);
      batch = batch_of range samples some r;
      first = refl;
      last = refl;
    }
