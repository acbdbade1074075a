-- What is judged of the first bytes of files that are longer than they may be is what would be
-- judged of all their bytes.
use Rattle.std.proofs.Common.{◌≡◌, ℕ, ◌+◌, ℤ, List, take, Option, Result, Ok, Err, refl, sym, ap}
use Rattle.std.proofs.Common.{subst, ◌∙◌}
use Rattle.labels.specs.Parts.{Part}
use Rattle.block.specs.Metas.{or_meta, range_said}
use Rattle.block.specs.declared.error.BlockError.{BlockError}
use Rattle.block.proofs.LongFiles.{meta_first, block_first, spelled_first, spelled_of_first}
use Rattle.commands.specs.Judging.{bytes_of, block_in, judgement_of, IsSpelledAs, IsSpelled}
use Rattle.commands.specs.Judging.{IsJudged}
use Rattle.commands.specs.Reading.{Host, Files, AreRead, AreFilesAt}
use Rattle.commands.specs.declared.files.BlockFiles.{BlockFiles}
use Rattle.commands.specs.declared.judgement.Judgement.{Judgement}
use Rattle.commands.specs.declared.judgement.Judgement.TheVariants.{Sound, Refused}

-- the first bytes of files, one more than each may have
abbrev first_of : Files → Files
first_of w = record {
  meta = take (1048576 + 1) w.meta;
  index = take (1073741824 + 1) w.index;
  chunks = take (1073741824 + 1) w.chunks;
  tombstones = take (1073741824 + 1) w.tombstones;
}

read_alike : (r : Result (ℤ × ℤ) BlockError) (w : Files) → block_in r (first_of w) ≡ block_in r w
read_alike (Ok range) w = block_first range w.index w.chunks w.tombstones
read_alike (Err e) w = refl

to_whole : (w : Files) (range : ℤ × ℤ) (part : Part) → IsSpelledAs (first_of w) range part
    → IsSpelledAs w range part
to_whole w range part s = record {
  says = sym (meta_first w.meta) ∙ s.says;
  block = spelled_of_first range w.index w.chunks w.tombstones part s.block;
}

to_first : (w : Files) (range : ℤ × ℤ) (part : Part) → IsSpelledAs w range part
    → IsSpelledAs (first_of w) range part
to_first w range part s = record {
  says = meta_first w.meta ∙ s.says;
  block = spelled_first range w.index w.chunks w.tombstones part s.block;
}

spelled_alike : (w : Files) (judgement : Judgement) → IsSpelled (first_of w) judgement
    → IsSpelled w judgement
spelled_alike w (Sound series samples) h = record {
  range = h.range;
  part = h.part;
  spelled = to_whole w h.range h.part h.spelled;
  series_are = h.series_are;
  samples_are = h.samples_are;
}
spelled_alike w (Refused error) h = λ range part s. h range part (to_first w range part s)

judged_alike : (w : Files) (judgement : Judgement) → IsJudged (first_of w) judgement
    → IsJudged w judgement
judged_alike w judgement h = record {
  first =
      h.first
      ∙ ap (λ (o : Option (ℤ × ℤ)). judgement_of (block_in (or_meta o) (first_of w)))
      (meta_first w.meta)
      ∙ ap judgement_of (read_alike (or_meta (range_said w.meta)) w);
  spelled = spelled_alike w judgement h.spelled;
}

-- ---- the files of a directory

pub whole_of : (reads : Host) (directory : List ℕ) (files : BlockFiles)
    → AreRead reads directory files → Files
whole_of reads directory files read = record {
  meta = read.meta.file;
  index = read.index.file;
  chunks = read.chunks.file;
  tombstones = read.tombstones.file;
}

pub whole_found : (reads : Host) (directory : List ℕ) (files : BlockFiles)
    (read : AreRead reads directory files)
    → AreFilesAt reads directory (whole_of reads directory files read)
unfolding whole_of
whole_found reads directory files read = record {
  meta = read.meta.found;
  index = read.index.found;
  chunks = read.chunks.found;
  tombstones = read.tombstones.found;
}

first_read : (reads : Host) (directory : List ℕ) (files : BlockFiles)
    (read : AreRead reads directory files)
    → bytes_of files ≡ first_of (whole_of reads directory files read)
unfolding whole_of
first_read reads directory files read = λ i. record {
  meta = read.meta.first i;
  index = read.index.first i;
  chunks = read.chunks.first i;
  tombstones = read.tombstones.first i;
}

pub whole_judged : (reads : Host) (directory : List ℕ) (files : BlockFiles)
    (read : AreRead reads directory files) (judgement : Judgement)
    → IsJudged (bytes_of files) judgement → IsJudged (whole_of reads directory files read) judgement
whole_judged reads directory files read judgement h =
    judged_alike (whole_of reads directory files read) judgement
    (subst (λ (w : Files). IsJudged w judgement) (first_read reads directory files read) h)

pub whole_spelled : (reads : Host) (directory : List ℕ) (files : BlockFiles)
    (read : AreRead reads directory files) (range : ℤ × ℤ) (part : Part)
    → IsSpelledAs (bytes_of files) range part
    → IsSpelledAs (whole_of reads directory files read) range part
whole_spelled reads directory files read range part s =
    to_whole (whole_of reads directory files read) range part
    (subst (λ (w : Files). IsSpelledAs w range part) (first_read reads directory files read) s)
