-- Files that are not the store's are removed.
use Rattle.std.proofs.Common.{◌≡◌, ℕ, ◌≤◌, Bool, true, false, List, [], ◌∷◌, ◌++◌}
use Rattle.std.proofs.Common.{Option, refl, sym, ap, subst, ◌∙◌, append_assoc}
use Rattle.std.specs.declared.alloc.Global.{Global}
use Rattle.std.specs.declared.string.String.{String}
use Rattle.std.specs.Prelude.{◌||◌, codes, string_bytes}
use Rattle.std.specs.Str.{bytes_eq}
use Rattle.std.proofs.lemmas.List.{append-nil, map-append}
use Rattle.std.proofs.lemmas.Slice.Eq.{bytes_eq-Decides}
use Rattle.data_folder.specs.declared.journal_file.JournalFile.{JournalFile}
use Rattle.data_folder.specs.Folders.{HasFile, Left, LeavesOnly, MayLeaveOf}
use Rattle.data_folder.specs.States.{AreThere, Named}
use Rattle.data_folder.specs.Sweeping.{AreAmong, KeepsStore, is_among, names_in}
use Rattle.data_folder.proofs.Moments.{weaker}
use Rattle.head.specs.Heads.{BlockPart}
use Rattle.head.specs.Worlds.{Event}
use Rattle.head_record.specs.Saved.{Place, Saved}
use Rattle.head_record.specs.Spelling.{head_texts}
use Rattle.store_folder.specs.Blocks.{BlockFiles, name_in, named_files}
use Rattle.store_folder.specs.Holding.{AreAt, HoldsAfterHead, HoldsAt, HoldsThese}
use Rattle.store_folder.specs.Origins.{Origin}
use Rattle.store_folder.specs.Starting.{StartFinds}
use Rattle.store_folder.specs.KeeperLaws.{state_stands}
use Rattle.store_folder.specs.States.{IsState, StandsFor}
use Rattle.store_folder.specs.Sweeps.{names_at, names_of}
use Rattle.store_folder.proofs.Rolls.{after_head, files_at, joined, keeps_now, lie_at, parted}
use Rattle.store_folder.proofs.Rolls.{of_these, there_at}

-- names among names

or_more : (b c d : Bool) → (c ≡ true → d ≡ true) → (b || c) ≡ true → (b || d) ≡ true
or_more true c d f h = refl
or_more false c d f h = f h

or_second : (b c : Bool) → c ≡ true → (b || c) ≡ true
or_second true c h = refl
or_second false c h = h

or_first : (b c : Bool) → b ≡ true → (b || c) ≡ true
or_first true c h = refl
or_first false c h = absurd cc

pub here : (name : List ℕ) (names : List (List ℕ)) → is_among (name ∷ names) name ≡ true
here name names =
    or_first (bytes_eq name name) (is_among names name) ((bytes_eq-Decides name name).1 refl)

after : (other name : List ℕ) (names : List (List ℕ)) → is_among names name ≡ true
    → is_among (other ∷ names) name ≡ true
after other name names h = or_second (bytes_eq other name) (is_among names name) h

pub among_more : (other : List ℕ) (names : List (List ℕ)) (files : List Named)
    → AreAmong names files → AreAmong (other ∷ names) files
among_more other names [] h = tt
among_more other names (file ∷ files) h =
    (after other file.0 names h.0, among_more other names files h.1)

-- the files of a block have its names
among_own : (p : Place) (files : BlockFiles) (rest : List (List ℕ))
    → AreAmong (names_of p ++ rest) (named_files p files)
among_own p files rest =
    let meta = name_in p.0 (codes "meta.json") in
    let index = name_in p.0 (codes "index") in
    let chunks = name_in p.0 (codes "chunks/000001") in
    let deleted = name_in p.0 (codes "tombstones") in
    let third = deleted ∷ rest in
    let second = chunks ∷ third in
    let first = index ∷ second in (
      here meta first,
      (
        after meta index first (here index second),
        (
          after meta chunks first (after index chunks second (here chunks third)),
          (
            after meta deleted first
                (after index deleted second (after chunks deleted third (here deleted rest))),
            tt,
          ),
        ),
      ),
    )

among_rest : (p : Place) (names : List (List ℕ)) (files : List Named) → AreAmong names files
    → AreAmong (names_of p ++ names) files
among_rest p names files h =
    let meta = name_in p.0 (codes "meta.json") in
    let index = name_in p.0 (codes "index") in
    let chunks = name_in p.0 (codes "chunks/000001") in
    let deleted = name_in p.0 (codes "tombstones") in
    let third = deleted ∷ names in
    let second = chunks ∷ third in
    let first = index ∷ second in
    among_more meta first files
    (among_more index second files
    (among_more chunks third files (among_more deleted names files h)))

-- the names of files, one block after another

abbrev Names : Type 0
Names = List (String Global)

pub name_more : (old new : Names) (name : String Global) (bytes : List ℕ)
    → new ≡ old ++ name ∷ [] → string_bytes name ≡ bytes
    → names_in new ≡ names_in old ++ bytes ∷ []
name_more old new name bytes is e =
    ap names_in is
    ∙ (map-append (λ (x : String Global). string_bytes x) old (name ∷ [])
    ∙ ap (λ (x : List ℕ). names_in old ++ x ∷ []) e)

pub four_more : (xs a b c d : List (List ℕ)) (i j k l : List ℕ) → a ≡ xs ++ i ∷ []
    → b ≡ a ++ j ∷ [] → c ≡ b ++ k ∷ [] → d ≡ c ++ l ∷ [] → d ≡ xs ++ (i ∷ j ∷ k ∷ l ∷ [])
four_more xs a b c d i j k l one two three four =
    four
    ∙ (ap (λ (x : List (List ℕ)). x ++ l ∷ []) (three
    ∙ (ap (λ (x : List (List ℕ)). x ++ k ∷ []) (two
    ∙ (ap (λ (x : List (List ℕ)). x ++ j ∷ []) one ∙ append_assoc xs (i ∷ []) (j ∷ [])))
    ∙ append_assoc xs (i ∷ j ∷ []) (k ∷ [])))
    ∙ append_assoc xs (i ∷ j ∷ k ∷ []) (l ∷ []))

at_last : (places : List Place) (p : Place)
    → names_at (places ++ p ∷ []) ≡ names_at places ++ names_of p
at_last [] p = append-nil (names_of p)
at_last (q ∷ places) p =
    ap (λ (x : List (List ℕ)). names_of q ++ x) (at_last places p)
    ∙ sym (append_assoc (names_of q) (names_at places) (names_of p))

pub block_more : (places next : List Place) (p : Place) (old new : List (List ℕ))
    → next ≡ places ++ p ∷ [] → old ≡ names_at places → new ≡ old ++ names_of p
    → new ≡ names_at next
block_more places next p old new is so_far more =
    more
    ∙ (ap (λ (x : List (List ℕ)). x ++ names_of p) so_far
    ∙ (sym (at_last places p) ∙ ap names_at (sym is)))

module _ {F : Type 0} (shows : F → List ℕ → Option (List ℕ) → Type 0)
    (kept : F → List ℕ → ℕ → Type 0) where
  pub among_at : (places : List Place) (parts : List BlockPart) (f : F)
      (at : AreAt shows kept places parts f)
      → AreAmong (names_at places) (files_at shows kept places parts f at)
  among_at [] [] f at = tt
  among_at [] (b ∷ parts) f at = absurd at
  among_at (p ∷ places) [] f at = absurd at
  among_at (p ∷ places) (b ∷ parts) f at =
      joined (λ (file : Named). is_among (names_of p ++ names_at places) file.0 ≡ true)
      (named_files p at.0.0) (files_at shows kept places parts f at.1)
      (among_own p at.0.0 (names_at places))
      (among_rest p (names_at places) (files_at shows kept places parts f at.1)
      (among_at places parts f at.1))

  -- the blocks stay, where their files do
  pub at_again : (places : List Place) (parts : List BlockPart) (f g : F)
      (at : AreAt shows kept places parts f)
      → AreThere shows kept (files_at shows kept places parts f at) g
      → AreAt shows kept places parts g
  at_again [] [] f g at there = tt
  at_again [] (b ∷ parts) f g at there = absurd at
  at_again (p ∷ places) [] f g at there = absurd at
  at_again (p ∷ places) (b ∷ parts) f g at there =
      let split =
      parted (λ (file : Named). HasFile shows kept file.0 file.1 g) (named_files p at.0.0)
      (files_at shows kept places parts f at.1) there in
      ((at.0.0, at.0.1, split.0), at_again places parts f g at.1 split.1)

module _ {F : Type 0} (shows : F → List ℕ → Option (List ℕ) → Type 0)
    (kept : F → List ℕ → ℕ → Type 0) (sound : F → Bool) (moment : F → ℕ)
    (left_since : F → ℕ → Left → Type 0) where
  pub blocks_kept : (places : List Place) (parts : List BlockPart) (old new : F)
      → AreAt shows kept places parts old
      → KeepsStore shows kept sound moment left_since (names_at places) old new
      → AreAt shows kept places parts new
  blocks_kept places parts old new at k =
      at_again shows kept places parts old new at
      (k.files (files_at shows kept places parts old at) (among_at shows kept places parts old at)
      (there_at shows kept places parts old at))

module _ {F : Type 0} (shows : F → List ℕ → Option (List ℕ) → Type 0)
    (kept : F → List ℕ → ℕ → Type 0) (sound : F → Bool) (moment : F → ℕ)
    (left_since : F → ℕ → Left → Type 0)
    (only_now : (f : F) (name : List ℕ) (x : Option (List ℕ)) (n : ℕ) (left : Left) → shows f name x
    → kept f name n → left_since f (moment f) left → MayLeaveOf n x (left name))
    (earlier : (f : F) (t u : ℕ) (left : Left) → t ≤ u → u ≤ moment f → left_since f u left
    → left_since f t left) where
  abbrev HoldsAll : Origin → JournalFile F → ℕ → Bool → List Event → Type 0
  HoldsAll first m len closed events =
      HoldsAfterHead shows kept sound moment left_since first m len closed events

  abbrev Sweeps : List (List ℕ) → F → F → Type 0
  Sweeps names old new = KeepsStore shows kept sound moment left_since names old new

  pub these_swept : (first : Origin) (old new : JournalFile F) (len : ℕ) (closed : Bool)
      (events : List Event) (saved : Saved) (parts : List BlockPart) (late : List Event)
      (names : List (List ℕ))
      → HoldsThese shows kept sound moment left_since first old len closed events saved parts late
      → closed ≡ false → new.names ≡ old.names → names ≡ names_at saved.places
      → Sweeps names old.folder new.folder
      → HoldsThese shows kept sound moment left_since first new len closed events saved parts late
  these_swept first old new len closed events saved parts late names t opened same is k =
      let h : HoldsAll first old len closed events = t.0 in
      let swept : Sweeps (names_at h.saved.places) old.folder new.folder =
      subst (λ (x : List (List ℕ)). Sweeps x old.folder new.folder)
      (is ∙ ap (λ (x : Saved). names_at x.places) (sym t.1)) k in (
        after_head shows kept sound moment left_since only_now earlier first new len closed h.saved
            h.parts events h.early h.late h.journal.contents h.journal.after h.all h.head
            h.journal.spell (same ∙ h.journal.named opened) h.begins
            (swept.journal (head_texts h.saved ++ h.journal.contents) len
            (keeps_now shows kept sound moment left_since only_now earlier first old len closed
            events h opened))
            (at_again shows kept h.saved.places h.parts old.folder new.folder h.blocks
            (swept.files (files_at shows kept h.saved.places h.parts old.folder h.blocks)
            (among_at shows kept h.saved.places h.parts old.folder h.blocks)
            (there_at shows kept h.saved.places h.parts old.folder h.blocks))),
        t.1,
        t.2,
        t.3,
      )

  pub holds_swept : (first : Origin) (old new : JournalFile F) (len : ℕ) (closed : Bool)
      (events : List Event) (places : List Place) (parts : List BlockPart)
      (names : List (List ℕ))
      → HoldsAt shows kept sound moment left_since first old len closed events places parts
      → closed ≡ false → new.names ≡ old.names → names ≡ names_at places
      → Sweeps names old.folder new.folder
      → HoldsAt shows kept sound moment left_since first new len closed events places parts
  holds_swept first old new len closed events places parts names at opened same is k =
      let h : HoldsAll first old len closed events = at.0 in
      let t = these_swept first old new len closed events h.saved h.parts h.late names
      (h, refl, refl, refl) opened same (is ∙ ap names_at (sym at.1)) k in
      (t.0, ap (λ (x : Saved). x.places) t.1 ∙ at.1, t.2 ∙ at.2)

  -- what is left has the same head, its blocks and the events after it
  pub swept_leaves : (first : Origin) (old : JournalFile F) (new : F) (len : ℕ) (closed : Bool)
      (events : List Event) (h : HoldsAll first old len closed events) → closed ≡ false
      → Sweeps (names_at h.saved.places) old.folder new
      → LeavesOnly moment left_since old.folder new (IsState h.saved h.parts h.late)
  swept_leaves first old new len closed events h opened swept =
      weaker moment left_since old.folder new _ (IsState h.saved h.parts h.late)
      (λ left has. record {
        head = h.head;
        kept = record {
          contents = h.journal.contents;
          names = h.journal.after;
          spell = h.journal.spell;
          journal = has.journal;
        };
        blocks = lie_at shows kept h.saved.places h.parts old.folder left h.blocks has.files;
      })
      (swept.any_moment (head_texts h.saved ++ h.journal.contents)
      (files_at shows kept h.saved.places h.parts old.folder h.blocks) len
      (keeps_now shows kept sound moment left_since only_now earlier first old len closed events h
      opened)
      (among_at shows kept h.saved.places h.parts old.folder h.blocks)
      (there_at shows kept h.saved.places h.parts old.folder h.blocks))

  pub these_leave : (first : Origin) (old : JournalFile F) (new : F) (len : ℕ) (closed : Bool)
      (events : List Event) (saved : Saved) (parts : List BlockPart) (late : List Event)
      (places : List Place)
      → HoldsThese shows kept sound moment left_since first old len closed events saved parts late
      → closed ≡ false → saved.places ≡ places → Sweeps (names_at places) old.folder new
      → LeavesOnly moment left_since old.folder new (IsState saved parts late)
  these_leave first old new len closed events saved parts late places t opened is k =
      of_these shows kept sound moment left_since
      (λ (x : Saved) (bs : List BlockPart) (es : List Event).
      LeavesOnly moment left_since old.folder new (IsState x bs es)) first old len closed events
      saved parts late t
      (swept_leaves first old new len closed events t.0 opened
      (subst (λ (ps : List Place). Sweeps (names_at ps) old.folder new)
      (sym (ap (λ (x : Saved). x.places) t.1 ∙ is)) k))

  -- so a start finds the same events
  pub swept_finds : (first : Origin) (old new : JournalFile F) (len : ℕ) (closed : Bool)
      (events : List Event) (places : List Place) (parts : List BlockPart)
      (names : List (List ℕ))
      → HoldsAt shows kept sound moment left_since first old len closed events places parts
      → closed ≡ false → names ≡ names_at places → Sweeps names old.folder new.folder
      → StartFinds moment left_since old.folder new.folder first events
  swept_finds first old new len closed events places parts names at opened is k =
      let h : HoldsAll first old len closed events = at.0 in
      let swept : Sweeps (names_at h.saved.places) old.folder new.folder =
      subst (λ (x : List (List ℕ)). Sweeps x old.folder new.folder)
      (is ∙ ap names_at (sym at.1)) k in
      weaker moment left_since old.folder new.folder (IsState h.saved h.parts h.late)
      (StandsFor first events)
      (λ left s. state_stands first events h.early h.late h.saved h.parts left h.all h.begins s)
      (swept_leaves first old new.folder len closed events h opened swept)
