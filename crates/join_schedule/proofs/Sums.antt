-- One block more, and whether blocks may become one.
use Rattle.std.proofs.Common.{◌≡◌, ℕ, ◌+◌, ◌≤◌, ◌<◌, List, length}
use Rattle.std.proofs.Common.{take, get_or, arith, refl, sym, ap, subst, ◌∙◌}
use Rattle.std.specs.Prelude.{ℤ, pos, ◌≤ℤ◌, ◌<ℤ◌, sum_by, All, Bool, Option, Some, None}
use Rattle.std.specs.Prelude.{IfSome, IfNone, IsTrue, is_some, ◌↔◌}
use Rattle.std.proofs.lemmas.Int.{ints}
use Rattle.std.proofs.lemmas.List.{take_all}
use Rattle.std.proofs.lemmas.List.Sums.{sum_by_more, sum_by-take-le}
use Rattle.std.proofs.lemmas.List.Elements.{All-more, All-get_or, All-nil}
use Rattle.join_schedule.specs.declared.blocks.Shape.{Shape}
use Rattle.join_schedule.specs.declared.blocks.Limits.{Limits}
use Rattle.join_schedule.specs.Blocks.{Fits, samples_in, series_in, bytes_in}

-- what stands behind the last block
abbrev pub no_block : Shape
no_block = record { from = pos 0; to = pos 0; samples = 0; series = 0; bytes = 0 }

-- with one block more, no more than all
pub more_within : (f : Shape → ℕ) (blocks : List Shape) (i n : ℕ) (d : Shape) → i < length blocks
    → n ≡ sum_by f (take i blocks) → n + f (get_or blocks i d) ≤ sum_by f blocks
more_within f blocks i n d lt is =
    omega (arith, is, sum_by_more f blocks i d lt, sum_by-take-le f blocks (i + 1))

pub sum_more : (f : Shape → ℕ) (blocks : List Shape) (i j n m : ℕ) (d : Shape) → i < length blocks
    → j ≡ i + 1 → n ≡ sum_by f (take i blocks) → m ≡ n + f (get_or blocks i d)
    → m ≡ sum_by f (take j blocks)
sum_more f blocks i j n m d lt next is more =
    subst (λ (k : ℕ). m ≡ sum_by f (take k blocks)) (sym next)
    (omega (arith, is, more, sum_by_more f blocks i d lt))

-- the blocks before a place have these sums, which are within the limits, and all have ended
pub record AreSums (limits : Limits) (floor : ℤ) (blocks : List Shape)
    (i samples series bytes : ℕ) : Type 0 where
  pub samples_are : samples ≡ samples_in (take i blocks)
  pub series_are : series ≡ series_in (take i blocks)
  pub bytes_are : bytes ≡ bytes_in (take i blocks)
  pub fits : Fits limits floor (take i blocks)

pub none_yet : (limits : Limits) (floor : ℤ) (blocks : List Shape) → AreSums limits floor blocks 0 0 0 0
none_yet limits floor blocks = record {
  samples_are = refl;
  series_are = refl;
  bytes_are = refl;
  fits = record {
    samples = omega arith;
    series = omega arith;
    bytes = omega arith;
    ended = All-nil (λ (b : Shape). b.to ≤ℤ floor);
  };
}

pub sums_more : (limits : Limits) (floor : ℤ) (blocks : List Shape) (i j : ℕ) (d : Shape)
    (samples series bytes more_samples more_series more_bytes : ℕ) → i < length blocks → j ≡ i + 1
    → AreSums limits floor blocks i samples series bytes → (get_or blocks i d).to ≤ℤ floor
    → more_samples ≡ samples + (get_or blocks i d).samples → more_samples ≤ limits.samples
    → more_series ≡ series + (get_or blocks i d).series → more_series ≤ limits.series
    → more_bytes ≡ bytes + (get_or blocks i d).bytes → more_bytes ≤ limits.bytes
    → AreSums limits floor blocks j more_samples more_series more_bytes
sums_more limits floor blocks i j d samples series bytes a b c lt next sums ended a_is a_le b_is b_le c_is c_le =
    let x = sum_more (λ s. s.samples) blocks i j samples a d lt next sums.samples_are a_is in
    let y = sum_more (λ s. s.series) blocks i j series b d lt next sums.series_are b_is in
    let z = sum_more (λ s. s.bytes) blocks i j bytes c d lt next sums.bytes_are c_is in
    record {
      samples_are = x;
      series_are = y;
      bytes_are = z;
      fits = record {
        samples = omega (arith, x, a_le);
        series = omega (arith, y, b_le);
        bytes = omega (arith, z, c_le);
        ended = subst (λ (k : ℕ). All (λ (s : Shape). s.to ≤ℤ floor) (take k blocks)) (sym next)
            (All-more (λ (s : Shape). s.to ≤ℤ floor) blocks i d lt sums.fits.ended ended);
      };
    }

-- a block that has not ended
pub not_ended : (limits : Limits) (floor : ℤ) (blocks : List Shape) (i : ℕ) (d : Shape)
    → i < length blocks → floor <ℤ (get_or blocks i d).to → Fits limits floor blocks → ⊥
not_ended limits floor blocks i d lt late fits =
    omega (arith, ints, late, All-get_or (λ (s : Shape). s.to ≤ℤ floor) blocks i d lt fits.ended)

-- a block with which the sums are beyond the limits
pub too_much : (limits : Limits) (floor : ℤ) (blocks : List Shape) (i : ℕ) (d : Shape)
    (samples series bytes : ℕ) → i < length blocks
    → AreSums limits floor blocks i samples series bytes
    → (samples + (get_or blocks i d).samples ≤ limits.samples
    → series + (get_or blocks i d).series ≤ limits.series
    → bytes + (get_or blocks i d).bytes ≤ limits.bytes → ⊥) → Fits limits floor blocks → ⊥
too_much limits floor blocks i d samples series bytes lt sums none fits =
    none
    (omega (arith, fits.samples, more_within (λ s. s.samples) blocks i samples d lt sums.samples_are))
    (omega (arith, fits.series, more_within (λ s. s.series) blocks i series d lt sums.series_are))
    (omega (arith, fits.bytes, more_within (λ s. s.bytes) blocks i bytes d lt sums.bytes_are))

pub all_summed : (limits : Limits) (floor : ℤ) (blocks : List Shape) (i samples series bytes : ℕ)
    → length blocks ≤ i → AreSums limits floor blocks i samples series bytes
    → (samples ≡ samples_in blocks) × Fits limits floor blocks
all_summed limits floor blocks i samples series bytes all sums =
    let whole : take i blocks ≡ blocks = take_all i blocks all in (
      sums.samples_are ∙ ap samples_in whole,
      subst (λ (s : List Shape). Fits limits floor s) whole sums.fits,
    )

pub decides_fits : (limits : Limits) (floor : ℤ) (blocks : List Shape) (r : Option ℕ) (b : Bool)
    → b ≡ is_some r → IfSome r (λ n. (n ≡ samples_in blocks) × Fits limits floor blocks)
    → IfNone r (Fits limits floor blocks → ⊥) → IsTrue b ↔ Fits limits floor blocks
decides_fits limits floor blocks None b is some none = (λ t. absurd cc, λ fits. absurd (none fits))
decides_fits limits floor blocks (Some n) b is some none = (λ t. some.1, λ fits. is)
