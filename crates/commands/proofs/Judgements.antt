-- What `Block::open` says of files is what is judged of them.
use Rattle.std.proofs.Common.{◌≡◌, ℕ, ℤ, Option, None, Some, Result, Ok, Err, refl, sym, ap, ap₂}
use Rattle.std.proofs.Common.{subst, ◌∙◌, length}
use Rattle.std.specs.Prelude.{IfOk}
use Rattle.labels.specs.Parts.{Part}
use Rattle.block.specs.Blocks.{Shown, sample_count}
use Rattle.block.specs.Metas.{or_meta, range_said}
use Rattle.block.specs.Outcome.{Fails}
use Rattle.block.specs.declared.error.BlockError.{BlockError}
use Rattle.block.specs.declared.error.BlockError.TheVariants.{Memory, Meta, Index, Chunks}
use Rattle.block.specs.declared.error.BlockError.TheVariants.{Tombstones, UnknownSeries}
use Rattle.block.specs.declared.error.BlockError.TheVariants.{OutsideRange}
use Rattle.commands.specs.Judging.{block_in, judgement_of, IsSpelledAs, IsRefusalOf, IsJudged}
use Rattle.commands.specs.Reading.{Files}
use Rattle.commands.specs.declared.judgement.Judgement.{Judgement}
use Rattle.commands.specs.declared.judgement.Judgement.TheVariants.{Sound, Refused}

-- a part that was read
abbrev pub said_part : Part → Result Part BlockError
said_part part = Ok part

-- two facts of a value that is there
pub IfOk_both : {X Y : Type 0} (r : Result X Y) (P Q R : X → Type 0) → ((x : X) → P x → Q x → R x)
    → IfOk r P → IfOk r Q → IfOk r R
IfOk_both (Ok x) P Q R both p q = both x p q
IfOk_both (Err e) P Q R both p q = tt

-- a refusal is what reading gives, unless memory ran out
fails_but_memory : {Y : Type 0} (e : BlockError) (read : Result Y BlockError) → Fails e read
    → (e ≡ Memory → ⊥) → read ≡ Err e
fails_but_memory Memory read h other = absurd (other refl)
fails_but_memory Meta read h other = h
fails_but_memory (Index e) read h other = h
fails_but_memory (Chunks e) read h other = h
fails_but_memory (Tombstones e) read h other = h
fails_but_memory UnknownSeries read h other = h
fails_but_memory OutsideRange read h other = h

-- a refusal or a want of memory goes on
fails_on : {X Y : Type 0} (f : Result X BlockError → Result Y BlockError)
    → ((e : BlockError) → f (Err e) ≡ Err e) → (e : BlockError) (read : Result X BlockError)
    → Fails e read → Fails e (f read)
fails_on f keeps Memory read h = tt
fails_on f keeps Meta read h = ap f h ∙ keeps Meta
fails_on f keeps (Index e) read h = ap f h ∙ keeps (Index e)
fails_on f keeps (Chunks e) read h = ap f h ∙ keeps (Chunks e)
fails_on f keeps (Tombstones e) read h = ap f h ∙ keeps (Tombstones e)
fails_on f keeps UnknownSeries read h = ap f h ∙ keeps UnknownSeries
fails_on f keeps OutsideRange read h = ap f h ∙ keeps OutsideRange

-- the refusal of the meta is that of the block
pub meta_fails : (files : Files) (e : BlockError) (read : Result (ℤ × ℤ) BlockError) → Fails e read
    → Fails e (block_in read files)
meta_fails files e read h = fails_on (λ r. block_in r files) (λ e. refl) e read h

-- where the meta is refused there is no block
pub no_block_of_meta : (files : Files) (e : BlockError) → Fails e (or_meta (range_said files.meta))
    → (range : ℤ × ℤ) (part : Part) → IsSpelledAs files range part → Fails e (said_part part)
no_block_of_meta files e h range part spelled = go e (rw spelled.says at h)
  where
    go : (e : BlockError) → Fails e (or_meta (Some range)) → Fails e (said_part part)
    go Memory h = tt
    go Meta h = cc
    go (Index e) h = cc
    go (Chunks e) h = cc
    go (Tombstones e) h = cc
    go UnknownSeries h = cc
    go OutsideRange h = cc

-- a range that was given is the one that the meta says
pub said_of_given : (o : Option (ℤ × ℤ)) (range : ℤ × ℤ) → or_meta o ≡ Ok range → o ≡ Some range
said_of_given None range h = cc
said_of_given (Some r) range h = cc

refused_but_memory : (e : BlockError) (judgement : Judgement) → IsRefusalOf e judgement
    → (judgement ≡ Refused e) × (e ≡ Memory → ⊥)
refused_but_memory Memory judgement h = absurd h
refused_but_memory Meta judgement h = (h, λ m. cc)
refused_but_memory (Index e) judgement h = (h, λ m. cc)
refused_but_memory (Chunks e) judgement h = (h, λ m. cc)
refused_but_memory (Tombstones e) judgement h = (h, λ m. cc)
refused_but_memory UnknownSeries judgement h = (h, λ m. cc)
refused_but_memory OutsideRange judgement h = (h, λ m. cc)

-- files that were refused, and not for want of memory
pub refused_files : (files : Files) (e : BlockError) → (e ≡ Memory → ⊥)
    → Fails e (block_in (or_meta (range_said files.meta)) files)
    → ((range : ℤ × ℤ) (part : Part) → IsSpelledAs files range part → Fails e (said_part part))
    → IsJudged files (Refused e)
refused_files files e other exact only = record {
  first = sym (ap judgement_of (fails_but_memory e _ exact other));
  spelled =
      λ range part spelled.
      let bad : said_part part ≡ Err e = fails_but_memory e _ (only range part spelled) other in cc;
}

-- files that were refused
pub judged_refused : (files : Files) (e : BlockError) (judgement : Judgement)
    → IsRefusalOf e judgement → Fails e (block_in (or_meta (range_said files.meta)) files)
    → ((range : ℤ × ℤ) (part : Part) → IsSpelledAs files range part → Fails e (said_part part))
    → IsJudged files judgement
judged_refused files e judgement h exact only =
    let p = refused_but_memory e judgement h in
    subst (IsJudged files) (sym p.0) (refused_files files e p.1 exact only)

-- files that were opened
pub judged_sound : (files : Files) (shown : Shown) (series samples : ℕ)
    → block_in (or_meta (range_said files.meta)) files ≡ Ok shown
    → IsSpelledAs files shown.range shown.part
    → series ≡ length shown.part → samples ≡ sample_count shown.part
    → IsJudged files (Sound series samples)
judged_sound files shown series samples exact found s n = record {
  first = ap₂ Sound s n ∙ sym (ap judgement_of exact);
  spelled = record {
    range = shown.range;
    part = shown.part;
    spelled = found;
    series_are = s;
    samples_are = n;
  };
}
