-- Files that spell a block are opened.
use Rattle.std.proofs.Common.{◌≡◌, ℤ, Option, Some, None, Result, Ok}
use Rattle.std.proofs.Common.{Err, refl, sym, ap, subst, ◌∙◌}
use Rattle.std.specs.Prelude.{IfOk}
use Rattle.labels.specs.Parts.{Part}
use Rattle.block.specs.declared.error.BlockError.{BlockError}
use Rattle.block.specs.declared.error.BlockError.TheVariants as errors
use Rattle.block.specs.Blocks.{Shown}
use Rattle.block.specs.Grammar.{IsBlock}
use Rattle.block.specs.Metas.{or_meta, range_said}
use Rattle.block.specs.Opening.{block_of}
use Rattle.block.specs.Outcome.{Fails, Gives}
use Rattle.block.proofs.Refusals.{fails_next}
use Rattle.head.specs.Blocks.{part_in}
use Rattle.head.specs.Heads.{BlockPart}
use Rattle.store_folder.specs.Blocks.{BlockFiles, GivesBlock, SpellBlock, shown_of}
use Rattle.wire.specs.Outcome.{◌>>=◌}

abbrev Times : Type 0
Times = ℤ × ℤ

abbrev said : {X : Type 0} → X → Result X BlockError
said x = Ok x

abbrev refused : {X : Type 0} → BlockError → Result X BlockError
refused e = Err e

same_said : {X : Type 0} (x y : X) → said x ≡ Ok y → x ≡ y
same_said x y e = cc

no_refusal : {X A : Type 0} (x : X) (read : Result X BlockError) (e : BlockError)
    → read ≡ Ok x → read ≡ Err e → A
no_refusal x read e ok err = absurd (let a : said x ≡ Err e = sym ok ∙ err in cc)

-- where reading gives something, only want of memory is a refusal
only_memory : {X : Type 0} (x : X) (read : Result X BlockError) (e : BlockError) → read ≡ Ok x
    → Fails e read → e ≡ errors.Memory
only_memory x read errors.Memory ok h = refl
only_memory x read errors.Meta ok h = no_refusal x read errors.Meta ok h
only_memory x read (errors.Index f) ok h = no_refusal x read (errors.Index f) ok h
only_memory x read (errors.Chunks f) ok h = no_refusal x read (errors.Chunks f) ok h
only_memory x read (errors.Tombstones f) ok h = no_refusal x read (errors.Tombstones f) ok h
only_memory x read errors.UnknownSeries ok h = no_refusal x read errors.UnknownSeries ok h
only_memory x read errors.OutsideRange ok h = no_refusal x read errors.OutsideRange ok h

range_is : (o : Option Times) (range : Times) → or_meta o ≡ Ok range → o ≡ Some range
range_is (Some x) range e = ap (λ (y : Times). Some y) (same_said x range e)
range_is None range e = absurd cc

abbrev part_with : Times → Part → BlockPart
part_with range part = record { min = range.0; max = range.1; part = part }

-- what was opened is what the files spell
pub opened : (files : BlockFiles) (range : Times) (b : Shown)
    → or_meta (range_said files.meta) ≡ Ok range → b.range ≡ range
    → IsBlock range files.index files.chunks files.tombstones b.part → SpellBlock files (part_in b)
opened files range b meta is block = record {
  range = range_is (range_said files.meta) range meta ∙ ap (λ (r : Times). Some r) (sym is);
  block = subst (λ (r : Times). IsBlock r files.index files.chunks files.tombstones b.part)
      (sym is) block;
}

-- what the files spell is opened

abbrev times_of : BlockPart → Times
times_of part = (part.min, part.max)

the_range : (files : BlockFiles) (range : Times) (part : BlockPart)
    → or_meta (range_said files.meta) ≡ Ok range → SpellBlock files part
    → times_of part ≡ range
the_range files range part meta s =
    same_said (times_of part) range
    (sym (ap or_meta s.range) ∙ meta)

spelled_at : (files : BlockFiles) (range : Times) (part : BlockPart)
    → or_meta (range_said files.meta) ≡ Ok range → SpellBlock files part
    → IsBlock range files.index files.chunks files.tombstones part.part
spelled_at files range part meta s =
    subst (λ (r : Times). IsBlock r files.index files.chunks files.tombstones part.part)
    (the_range files range part meta s) s.block

by_result : (files : BlockFiles) (range : Times) (part : BlockPart)
    (result : Result Shown BlockError)
    → times_of part ≡ range → IfOk result (λ b. b.range ≡ range)
    → Gives (λ (b : Shown). b.part) result (Ok part.part) → GivesBlock part result
by_result files range part (Ok b) times is g =
    ap (λ (r : Times). part_with r b.part) (is ∙ sym times)
    ∙ ap (part_with (times_of part)) (sym (same_said part.part b.part g))
by_result files range part (Err e) times is g =
    only_memory part.part (Ok part.part) e refl g

pub only_block : (files : BlockFiles) (range : Times) (part : BlockPart)
    (result : Result Shown BlockError)
    → or_meta (range_said files.meta) ≡ Ok range → IfOk result (λ b. b.range ≡ range)
    → ((p : Part) → IsBlock range files.index files.chunks files.tombstones p
    → Gives (λ (b : Shown). b.part) result (Ok p)) → SpellBlock files part
    → GivesBlock part result
only_block files range part result meta is only s =
    by_result files range part result (the_range files range part meta s) is
    (only part.part (spelled_at files range part meta s))

pub only_range : (files : BlockFiles) (part : BlockPart) (e : BlockError)
    → Fails e (or_meta (range_said files.meta)) → SpellBlock files part → e ≡ errors.Memory
only_range files part e h s =
    only_memory (times_of part) (or_meta (range_said files.meta)) e (ap or_meta s.range) h

pub ok_and : {A E : Type 0} (r : Result A E) (P Q R : A → Type 0) → ((x : A) → P x → Q x → R x)
    → IfOk r P → IfOk r Q → IfOk r R
ok_and (Ok x) P Q R f p q = f x p q
ok_and (Err e) P Q R f p q = tt

-- check by check
pub exact_so : (files : BlockFiles) (range : Times) (r : Result Shown BlockError)
    → or_meta (range_said files.meta) ≡ Ok range
    → Gives (λ (b : Shown). b) r (block_of range files.index files.chunks files.tombstones)
    → Gives (λ (b : Shown). b) r (shown_of files)
exact_so files range r meta g =
    subst (λ (m : Result Times BlockError). Gives (λ (b : Shown). b) r
    (m >>= (λ (x : Times). block_of x files.index files.chunks files.tombstones))) (sym meta) g

pub fails_so : (files : BlockFiles) (e : BlockError) → Fails e (or_meta (range_said files.meta))
    → Fails e (shown_of files)
fails_so files e h =
    fails_next e (or_meta (range_said files.meta))
    (λ (x : Times). block_of x files.index files.chunks files.tombstones) h
