-- What is read of a folder that tells what its files have.
use Rattle.std.proofs.Common.{◌≡◌, inl, inr, ℕ, Bool, List, [], ◌∷◌, ◌++◌, map}
use Rattle.std.proofs.Common.{Option, None, Some, refl, sym, ap, subst, ◌∙◌, append_assoc}
use Rattle.std.proofs.lemmas.List.{append-nil, map-append}
use Rattle.block.specs.Blocks.{Shown}
use Rattle.data_folder.specs.Folders.{HasFile, KeepsAll}
use Rattle.data_folder.specs.States.{AreThere, Named}
use Rattle.head.specs.Blocks.{part_in}
use Rattle.head.specs.Heads.{BlockPart}
use Rattle.head_record.specs.Saved.{Place}
use Rattle.store_folder.specs.declared.error.BlockFault.{BlockFault}
use Rattle.store_folder.specs.declared.error.BlockFault.TheVariants as faults
use Rattle.store_folder.specs.Blocks.{BlockFiles, SpellBlock, named_files}
use Rattle.store_folder.specs.Faults.{DeniesFiles, LacksOne, MayFail, TellsFiles}
use Rattle.store_folder.specs.Holding.{AreAt}
use Rattle.store_folder.proofs.Files.{blocks_kept, file_stays}

abbrev some : List ℕ → Option (List ℕ)
some x = Some x

same_some : (a b : List ℕ) → some a ≡ Some b → a ≡ b
same_some a b e = cc

none_some : {A : Type 0} (a : List ℕ) → some a ≡ None → A
none_some a e = absurd cc

abbrev files_with : List ℕ → List ℕ → List ℕ → List ℕ → BlockFiles
files_with meta index chunks tombstones =
    record { meta = meta; index = index; chunks = chunks; tombstones = tombstones }

module _ {F : Type 0} (shows : F → List ℕ → Option (List ℕ) → Type 0)
    (kept : F → List ℕ → ℕ → Type 0) where
  pub all_stay : (files : List Named) (a b : F) → KeepsAll shows kept a b
      → AreThere shows kept files a → AreThere shows kept files b
  all_stay [] a b k h = tt
  all_stay (file ∷ files) a b k h =
      (file_stays shows kept file.0 file.1 a b k h.0, all_stay files a b k h.1)

  pub same_bytes : TellsFiles shows → (f : F) (name x y : List ℕ) → HasFile shows kept name x f
      → HasFile shows kept name y f → x ≡ y
  same_bytes tells f name x y h i = same_some x y (tells f name (Some x) (Some y) h.shown i.shown)

  -- one name has one file, so the files of a block are those that lie there
  pub same_named : TellsFiles shows → (f : F) (p : Place) (x y : BlockFiles)
      → AreThere shows kept (named_files p x) f → AreThere shows kept (named_files p y) f → x ≡ y
  same_named tells f p x y h i =
      let meta = same_bytes tells f _ x.meta y.meta h.0 i.0 in
      let index = same_bytes tells f _ x.index y.index h.1.0 i.1.0 in
      let chunks = same_bytes tells f _ x.chunks y.chunks h.1.1.0 i.1.1.0 in
      let deleted = same_bytes tells f _ x.tombstones y.tombstones h.1.1.1.0 i.1.1.1.0 in
      ap (λ (z : List ℕ). files_with z x.index x.chunks x.tombstones) meta
      ∙ (ap (λ (z : List ℕ). files_with y.meta z x.chunks x.tombstones) index
      ∙ (ap (λ (z : List ℕ). files_with y.meta y.index z x.tombstones) chunks
      ∙ ap (files_with y.meta y.index y.chunks) deleted))

  pub spelled_too : TellsFiles shows → (f : F) (p : Place) (x y : BlockFiles) (part : BlockPart)
      → AreThere shows kept (named_files p x) f → AreThere shows kept (named_files p y) f
      → SpellBlock y part → SpellBlock x part
  spelled_too tells f p x y part h i s =
      subst (λ (z : BlockFiles). SpellBlock z part) (sym (same_named tells f p x y h i)) s

  is_there : {A : Type 0} → TellsFiles shows → (f : F) (name bytes : List ℕ)
      → HasFile shows kept name bytes f → shows f name None → A
  is_there tells f name bytes h none =
      none_some bytes (tells f name (Some bytes) None h.shown none)

  -- no file of a block that lies there is missing
  lacks_none : {A : Type 0} → TellsFiles shows → (f : F) (p : Place) (x : BlockFiles)
      → AreThere shows kept (named_files p x) f → LacksOne shows f p → A
  lacks_none tells f p x h (inl none) = is_there tells f _ x.meta h.0 none
  lacks_none tells f p x h (inr (inl none)) = is_there tells f _ x.index h.1.0 none
  lacks_none tells f p x h (inr (inr (inl none))) = is_there tells f _ x.chunks h.1.1.0 none
  lacks_none tells f p x h (inr (inr (inr none))) = is_there tells f _ x.tombstones h.1.1.1.0 none

  pub may_fail : TellsFiles shows → (failed : F → Bool) (f : F) (p : Place) (x : BlockFiles)
      (e : BlockFault) → AreThere shows kept (named_files p x) f → DeniesFiles shows failed f p e
      → MayFail (failed f) e
  may_fail tells failed f p x faults.Memory h d = tt
  may_fail tells failed f p x faults.Medium h d = d
  may_fail tells failed f p x faults.Missing h d = lacks_none tells f p x h d
  may_fail tells failed f p x (faults.Refused e) h d = absurd d

  -- Blocks that lie at places, of which some were read: these are the first, and the others lie at
  -- the places that are left.
  pub record ReadSoFar (places : List Place) (parts read : List BlockPart) (f : F)
      : Type 0 where
    pub others : List BlockPart
    pub all : parts ≡ read ++ others
    pub at : AreAt shows kept places others f

  pub none_read : (places : List Place) (parts : List BlockPart) (bs : List Shown) (f : F)
      → bs ≡ [] → AreAt shows kept places parts f → ReadSoFar places parts (map part_in bs) f
  none_read places parts bs f none at = record {
    others = parts;
    all = ap (λ (x : List Shown). map part_in x ++ parts) (sym none);
    at = at;
  }

  -- the block at the next place
  pub record NextAt (p : Place) (places : List Place) (parts read : List BlockPart) (f : F)
      : Type 0 where
    pub part : BlockPart
    pub others : List BlockPart
    pub files : BlockFiles
    pub spell : SpellBlock files part
    pub there : AreThere shows kept (named_files p files) f
    pub all : parts ≡ read ++ part ∷ others
    pub at : AreAt shows kept places others f

  next_of : (p : Place) (places : List Place) (parts read others : List BlockPart) (f : F)
      → parts ≡ read ++ others → AreAt shows kept (p ∷ places) others f
      → NextAt p places parts read f
  next_of p places parts read [] f all at = absurd at
  next_of p places parts read (b ∷ others) f all at = record {
    part = b;
    others = others;
    files = at.0.0;
    spell = at.0.1;
    there = at.0.2;
    all = all;
    at = at.1;
  }

  pub next_at : (all_left places : List Place) (p : Place) (parts read : List BlockPart) (f : F)
      → all_left ≡ p ∷ places → ReadSoFar all_left parts read f → NextAt p places parts read f
  next_at all_left places p parts read f is r =
      next_of p places parts read r.others f r.all
      (subst (λ (x : List Place). AreAt shows kept x r.others f) is r.at)

  pub one_read : (p : Place) (places : List Place) (parts : List BlockPart) (old new : List Shown)
      (b : Shown) (f g : F) → new ≡ old ++ b ∷ [] → (n : NextAt p places parts (map part_in old) f)
      → KeepsAll shows kept f g → part_in b ≡ n.part
      → ReadSoFar places parts (map part_in new) g
  one_read p places parts old new b f g more n k is = record {
    others = n.others;
    all = n.all
        ∙ (sym (append_assoc (map part_in old) (n.part ∷ []) n.others)
        ∙ ap (λ (x : List BlockPart). x ++ n.others)
        (ap (λ (x : BlockPart). map part_in old ++ x ∷ []) (sym is)
        ∙ (sym (map-append part_in old (b ∷ []))
        ∙ ap (λ (x : List Shown). map part_in x) (sym more))));
    at = blocks_kept shows kept places n.others f g k n.at;
  }

  no_others : (others : List BlockPart) (f : F) → AreAt shows kept [] others f → others ≡ []
  no_others [] f at = refl
  no_others (b ∷ others) f at = absurd at

  pub all_read : (places : List Place) (parts read : List BlockPart) (f : F) → places ≡ []
      → ReadSoFar places parts read f → read ≡ parts
  all_read places parts read f none r =
      sym (r.all
      ∙ (ap (λ (x : List BlockPart). read ++ x)
      (no_others r.others f (subst (λ (x : List Place). AreAt shows kept x r.others f) none r.at))
      ∙ append-nil read))
