-- The samples of a series, by the segments that its chunks stand in.
use Rattle.std.specs.Prelude.{◌≡◌, ◌⊎◌, ℕ, ℤ, ◌/◌, ◌%◌, ◌^◌, Bool, true, false, ◌&&◌, List, [], ◌∷◌}
use Rattle.std.specs.Prelude.{◌++◌, Option, Some, Ok, IfSome, int_le}
use Rattle.index_reader.specs.declared.chunk.Chunk.{Chunk}
use Rattle.xor_reader.specs.Grammar.{Sample}
use Rattle.kept_samples.specs.Keeping.{meets}
use Rattle.kept_samples.specs.declared.keeping.Times.{Times}
use Rattle.prometheus_block.specs.declared.segments.Held.{Held}
use Rattle.prometheus_block.specs.Reading.{chunk_read}

-- what reading a segment, counted from 0, may find
abbrev pub Segments : Type 1
Segments = ℕ → List ℕ → Type 0

-- the segment that is held, if one is, is as it may be read
abbrev pub IsHeld : Segments → Held → Type 0
IsHeld reads held = IfSome held.segment (λ bytes. reads held.number bytes)

-- the segment with this number is held
abbrev pub IsHeldAs : Held → ℕ → Type 0
IsHeldAs held number = held.number ≡ number

-- the chunk holds these samples: it stands in its segment, whose number is the upper 32 bits of its
-- reference, at the place that the lower 32 bits are; where it holds histograms, they are none
pub record AreHeldBy (reads : Segments) (c : Chunk) (samples : List Sample) : Type 0 where
  pub segment : List ℕ
  pub reads_so : reads (c.reference / 0x1_0000_0000) segment
  pub histograms : ℕ
  pub held : chunk_read segment c ≡ Ok (samples, histograms)

-- after some samples stand those of a chunk, none if its times do not meet the range
abbrev pub AreSamplesOf : Segments → Times → Chunk → List Sample → List Sample → Type 0
AreSamplesOf reads times c old new =
    ((meets times c ≡ false) × (new ≡ old))
    ⊎ ((meets times c ≡ true)
    × ((samples : List Sample) × AreHeldBy reads c samples × (new ≡ old ++ samples)))

-- the samples of chunks whose times meet the range, one chunk after the other
abbrev pub AreSamplesIn : Segments → Times → List Chunk → List Sample → Type 0
AreSamplesIn reads times [] samples = samples ≡ []
AreSamplesIn reads times (c ∷ cs) samples =
    (first rest : List Sample) × (samples ≡ first ++ rest)
    × AreSamplesOf reads times c [] first × AreSamplesIn reads times cs rest
