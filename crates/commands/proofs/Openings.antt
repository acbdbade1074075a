-- The blocks of the directories so far, and of one more; and which directory is the first at fault.
use Rattle.std.proofs.Common.{◌≡◌, ℕ, ◌+◌, ◌<◌, ℤ, List, [], ◌∷◌, ◌++◌, append_assoc, refl, sym, ap}
use Rattle.std.proofs.Common.{subst, ◌∙◌, take, drop, length, get_or, map, arith, Bor}
use Rattle.std.specs.List.{AllZip}
use Rattle.std.proofs.lemmas.List.{map-append, length-map, take-append-drop}
use Rattle.std.proofs.lemmas.Slice.Zip.{AllZip-long}
use Rattle.labels.specs.Parts.{Part}
use Rattle.block.specs.Blocks.{Shown}
use Rattle.block.specs.Metas.{or_meta, range_said}
use Rattle.block.specs.Outcome.{Fails}
use Rattle.block.specs.declared.error.BlockError.{BlockError}
use Rattle.block.specs.declared.error.BlockError.TheVariants as block
use Rattle.head.specs.Blocks.{part_in}
use Rattle.head.specs.Heads.{BlockPart}
use Rattle.snapshots.specs.declared.error.OpenError.TheVariants as store
use Rattle.commands.specs.Checking.{IsJudgedAt}
use Rattle.commands.specs.Faults.{block_fault}
use Rattle.commands.specs.Judging.{block_in, bytes_of, IsSpelledAs}
use Rattle.commands.specs.Opening.{IsBlockAt, AreBlocksAt, IsBlockFault, IsFirstFault}
use Rattle.commands.specs.Opening.{IsOpeningFault}
use Rattle.commands.specs.Reading.{Host, AreRead, IsReadingFault, paths_of}
use Rattle.commands.specs.declared.fault.Fault.{Fault}
use Rattle.commands.specs.declared.fault.Fault.TheVariants.{Words, Refused, CannotRead, CannotWrite}
use Rattle.commands.specs.declared.fault.Fault.TheVariants.{CannotWriteAt, Locked}
use Rattle.commands.specs.declared.fault.Fault.TheVariants.{CannotListen, NoListener, NoThread}
use Rattle.commands.specs.declared.fault.Fault.TheVariants.{Memory}
use Rattle.commands.specs.declared.fault.Refusal.TheVariants.{Labels, Matcher, Selector, Query}
use Rattle.commands.specs.declared.fault.Refusal.TheVariants.{Commit, Block, Open, Snapshot}
use Rattle.commands.specs.declared.fault.Refusal.TheVariants.{NotEmpty, Start, Unsettled, WholeNumbers}
use Rattle.commands.specs.declared.files.BlockFiles.{BlockFiles}
use Rattle.commands.specs.declared.judgement.Judgement.TheVariants as judgement
use Rattle.commands.proofs.Judgements.{said_part, refused_files}
use Rattle.commands.proofs.WholeFiles.{whole_of, whole_found, whole_judged}
use Rattle.commands.proofs.Paths.{paths_of_more, parts_of_paths}

AllZip_more : {A B : Type 0} (R : A → B → Type 0) (xs : List A) (ys : List B) (x : A) (y : B)
    → AllZip R xs ys → R x y → AllZip R (xs ++ x ∷ []) (ys ++ y ∷ [])
AllZip_more R [] [] x y all one = (one, tt)
AllZip_more R [] (w ∷ ys) x y all one = absurd all
AllZip_more R (z ∷ xs) [] x y all one = absurd all
AllZip_more R (z ∷ xs) (w ∷ ys) x y all one = (all.0, AllZip_more R xs ys x y all.1 one)

-- one more directory was opened
pub one_more_opened : (reads : Host) (texts : List (Bor (List ℕ))) (i : ℕ) (d : Bor (List ℕ))
    (blocks : List Shown) (block : Shown) → i < length texts
    → AreBlocksAt reads (take i (paths_of texts)) (map part_in blocks)
    → IsBlockAt reads (get_or texts i d).now (part_in block)
    → AreBlocksAt reads (take (i + 1) (paths_of texts)) (map part_in (blocks ++ block ∷ []))
one_more_opened reads texts i d blocks block h before one =
    rw (paths_of_more texts i d h, map-append part_in blocks (block ∷ []))
    (AllZip_more (IsBlockAt reads) (take i (paths_of texts)) (map part_in blocks)
    (get_or texts i d).now (part_in block) before one)

-- as many blocks as directories
pub as_many : (reads : Host) (directories : List (List ℕ)) (blocks : List Shown)
    → AreBlocksAt reads directories (map part_in blocks) → length blocks ≡ length directories
as_many reads directories blocks opened =
    rw (length-map blocks part_in) at
    (AllZip-long (IsBlockAt reads) directories (map part_in blocks) opened)

-- what keeps the files of a directory from being read keeps its block from being opened
pub unopened : (reads : Host) (directory : List ℕ) (fault : Fault)
    → IsReadingFault reads directory fault → IsBlockFault reads directory fault
unopened reads directory (CannotRead path) h = h
unopened reads directory Memory h = h
unopened reads directory CannotWrite h = h
unopened reads directory (CannotWriteAt path) h = h
unopened reads directory (Locked folder holder) h = h
unopened reads directory (CannotListen port) h = h
unopened reads directory NoListener h = h
unopened reads directory NoThread h = h
unopened reads directory (Words error) h = h
unopened reads directory (Refused refusal) h = absurd h

module _ (reads : Host) (directory : List ℕ) (files : BlockFiles)
    (read : AreRead reads directory files) where
  judged_at : (e : BlockError) → (e ≡ block.Memory → ⊥)
      → Fails e (block_in (or_meta (range_said files.meta.items)) (bytes_of files))
      → ((range : ℤ × ℤ) (part : Part) → IsSpelledAs (bytes_of files) range part
      → Fails e (said_part part)) → IsJudgedAt reads directory (judgement.Refused e)
  judged_at e other exact only = record {
    files = whole_of reads directory files read;
    found = whole_found reads directory files read;
    judged = whole_judged reads directory files read (judgement.Refused e)
        (refused_files (bytes_of files) e other exact only);
  }

  -- files that were read and refused
  pub refused_at : (e : BlockError)
      → Fails e (block_in (or_meta (range_said files.meta.items)) (bytes_of files))
      → ((range : ℤ × ℤ) (part : Part) → IsSpelledAs (bytes_of files) range part
      → Fails e (said_part part)) → IsBlockFault reads directory (block_fault e)
  refused_at block.Memory exact only = tt
  refused_at block.Meta exact only = judged_at block.Meta (λ m. cc) exact only
  refused_at (block.Index e) exact only = judged_at (block.Index e) (λ m. cc) exact only
  refused_at (block.Chunks e) exact only = judged_at (block.Chunks e) (λ m. cc) exact only
  refused_at (block.Tombstones e) exact only = judged_at (block.Tombstones e) (λ m. cc) exact only
  refused_at block.UnknownSeries exact only = judged_at block.UnknownSeries (λ m. cc) exact only
  refused_at block.OutsideRange exact only = judged_at block.OutsideRange (λ m. cc) exact only

module _ (reads : Host) (texts : List (Bor (List ℕ))) (i : ℕ) (d : Bor (List ℕ))
    (blocks : List BlockPart) (within : i < length texts)
    (opened : AreBlocksAt reads (take i (paths_of texts)) blocks) where
  -- the next of the directories is the first at fault
  pub first_fault : (fault : Fault) → IsBlockFault reads (get_or texts i d).now fault
      → IsFirstFault reads (paths_of texts) fault
  first_fault fault h = record {
    before = take i (paths_of texts);
    directory = (get_or texts i d).now;
    after = drop (i + 1) (paths_of texts);
    order = parts_of_paths texts i d within;
    blocks = blocks;
    opened = opened;
    at = h;
  }

  -- memory runs out when one of the directories was opened
  pub out_of_memory : (block : Shown) → IsBlockAt reads (get_or texts i d).now (part_in block)
      → IsFirstFault reads (paths_of texts) Memory
  out_of_memory block one = first_fault Memory tt

AllZip_both : {A B : Type 0} (R : A → B → Type 0) (xs us : List A) (ys vs : List B) → AllZip R xs ys
    → AllZip R us vs → AllZip R (xs ++ us) (ys ++ vs)
AllZip_both R [] us [] vs front back = back
AllZip_both R [] us (y ∷ ys) vs front back = absurd front
AllZip_both R (x ∷ xs) us [] vs front back = absurd front
AllZip_both R (x ∷ xs) us (y ∷ ys) vs front back = (front.0, AllZip_both R xs us ys vs front.1 back)

-- the paths of a run of directories and of the rest
pub paths_of_both : (texts : List (Bor (List ℕ))) (n : ℕ)
    → paths_of (take n texts) ++ paths_of (drop n texts) ≡ paths_of texts
paths_of_both texts n =
    sym (map-append (λ (text : Bor (List ℕ)). text.now) (take n texts) (drop n texts))
    ∙ ap paths_of (take-append-drop n texts)

-- the blocks of a run of directories and of the rest
pub both_opened : (reads : Host) (texts : List (Bor (List ℕ))) (n : ℕ) (front back : List Shown)
    → AreBlocksAt reads (paths_of (take n texts)) (map part_in front)
    → AreBlocksAt reads (paths_of (drop n texts)) (map part_in back)
    → AreBlocksAt reads (paths_of texts) (map part_in (front ++ back))
both_opened reads texts n front back first second =
    subst (λ (directories : List (List ℕ)). AreBlocksAt reads directories
    (map part_in (front ++ back))) (paths_of_both texts n)
    (subst (λ (blocks : List BlockPart). AreBlocksAt reads (paths_of (take n texts)
    ++ paths_of (drop n texts)) blocks) (sym (map-append part_in front back))
    (AllZip_both {A = List ℕ} {B = BlockPart} (IsBlockAt reads) (paths_of (take n texts))
    (paths_of (drop n texts)) (map part_in front) (map part_in back) first second))

-- the first at fault of a run of directories is that of all
pub fault_in_front : (reads : Host) (texts : List (Bor (List ℕ))) (n : ℕ) (fault : Fault)
    → IsFirstFault reads (paths_of (take n texts)) fault → IsFirstFault reads (paths_of texts) fault
fault_in_front reads texts n fault h = record {
  before = h.before;
  directory = h.directory;
  after = h.after ++ paths_of (drop n texts);
  order =
      sym (paths_of_both texts n)
      ∙ ap (λ (l : List (List ℕ)). l ++ paths_of (drop n texts)) h.order
      ∙ append_assoc h.before (h.directory ∷ h.after) (paths_of (drop n texts));
  blocks = h.blocks;
  opened = h.opened;
  at = h.at;
}

-- where a run of directories was opened, the first at fault of the rest is that of all
pub fault_in_back : (reads : Host) (texts : List (Bor (List ℕ))) (n : ℕ) (blocks : List Shown)
    (fault : Fault) → AreBlocksAt reads (paths_of (take n texts)) (map part_in blocks)
    → IsFirstFault reads (paths_of (drop n texts)) fault → IsFirstFault reads (paths_of texts) fault
fault_in_back reads texts n blocks fault opened h = record {
  before = paths_of (take n texts) ++ h.before;
  directory = h.directory;
  after = h.after;
  order =
      sym (paths_of_both texts n)
      ∙ ap (λ (l : List (List ℕ)). paths_of (take n texts) ++ l) h.order
      ∙ sym (append_assoc (paths_of (take n texts)) h.before (h.directory ∷ h.after));
  blocks = map part_in blocks ++ h.blocks;
  opened =
      AllZip_both {A = List ℕ} {B = BlockPart} (IsBlockAt reads) (paths_of (take n texts)) h.before
      (map part_in blocks) h.blocks opened h.opened;
  at = h.at;
}

-- where memory runs out, it may be at the first directory
pub fault_at_first : (reads : Host) (texts : List (Bor (List ℕ))) → 0 < length texts
    → IsFirstFault reads (paths_of texts) Memory
fault_at_first reads [] some = let none : ⊥ = omega (arith, some) in absurd none
fault_at_first reads (text ∷ texts) some = record {
  before = [];
  directory = text.now;
  after = paths_of texts;
  order = refl;
  blocks = [];
  opened = tt;
  at = tt;
}

-- the first of the directories at fault keeps all from being opened
pub first_is_opening : (reads : Host) (directories : List (List ℕ)) (fault : Fault)
    → IsFirstFault reads directories fault → IsOpeningFault reads directories fault
first_is_opening reads directories (CannotRead path) h = h
first_is_opening reads directories (Refused (Block error)) h = h
first_is_opening reads directories (Refused (Open store.Limit)) h = absurd h.at
first_is_opening reads directories (Refused (Open store.BadPasses)) h = h.at
first_is_opening reads directories (Refused (Open store.Unavailable)) h = h.at
first_is_opening reads directories (Refused (Open store.Memory)) h = h.at
first_is_opening reads directories (Refused (Snapshot error)) h = h.at
first_is_opening reads directories (Refused (Start error)) h = h.at
first_is_opening reads directories (Refused WholeNumbers) h = h.at
first_is_opening reads directories (Refused NotEmpty) h = h.at
first_is_opening reads directories (Refused Unsettled) h = h.at
first_is_opening reads directories (Refused (Selector error)) h = h.at
first_is_opening reads directories (Refused (Query error)) h = h.at
first_is_opening reads directories (Refused (Labels error)) h = h.at
first_is_opening reads directories (Refused (Matcher error)) h = h.at
first_is_opening reads directories (Refused (Commit error)) h = h.at
first_is_opening reads directories (Words error) h = h.at
first_is_opening reads directories CannotWrite h = h.at
first_is_opening reads directories (CannotWriteAt path) h = h.at
first_is_opening reads directories (Locked folder holder) h = h.at
first_is_opening reads directories (CannotListen port) h = h.at
first_is_opening reads directories NoListener h = h.at
first_is_opening reads directories NoThread h = h.at
first_is_opening reads directories Memory h = tt
