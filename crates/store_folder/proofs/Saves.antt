-- A snapshot that is saved.
use Rattle.std.proofs.Common.{◌≡◌, ◌≤◌, ◌+◌, inl, inr, ⊎_elim, ℕ, zero, suc, Bool, true, false, List}
use Rattle.std.proofs.Common.{[], ◌∷◌, Option, None, Some, Ok, drop, length, refl, sym, ap, subst}
use Rattle.std.proofs.Common.{subst₂, ◌∙◌}
use Rattle.std.specs.Prelude.{slice_get}
use Rattle.std.proofs.lemmas.List.{append-nil}
use Rattle.block_folder.specs.declared.values.Values.{Values}
use Rattle.block_rewriter.proofs.Full.{same_points}
use Rattle.data_folder.specs.declared.journal_file.JournalFile.{JournalFile}
use Rattle.data_folder.specs.Folders.{Left, LeavesOnly, MayLeaveOf}
use Rattle.data_folder.specs.Sweeping.{KeepsStore}
use Rattle.data_folder.proofs.Moments.{joined as joined_calls, weaker}
use Rattle.head.specs.Heads.{BlockPart, SnapshotParts, world_of}
use Rattle.head.specs.Resuming.{MayStand}
use Rattle.head.specs.Worlds.{Event, replayed}
use Rattle.head_record.specs.Saved.{Place, Saved, save}
use Rattle.labels.specs.Parts.{rows_in}
use Rattle.labels.specs.Rows.{points_of}
use Rattle.store_folder.specs.Holding.{AreAt, HoldsAfterHead, HoldsAt, HoldsThese}
use Rattle.store_folder.specs.KeeperLaws.{state_stands}
use Rattle.store_folder.specs.Origins.{Origin}
use Rattle.store_folder.specs.Rewriting.{HaveSame}
use Rattle.store_folder.specs.RewritingLaws.{same_replay}
use Rattle.store_folder.specs.Rolls.{MayRoll}
use Rattle.store_folder.specs.Saving.{AreFound, IsOldOrSaved, MaySave}
use Rattle.store_folder.specs.Starting.{StartFindsEither}
use Rattle.store_folder.specs.States.{IsEither, IsState, StandsForEither, started}
use Rattle.store_folder.specs.Sweeps.{names_at}
use Rattle.store_folder.specs.Writing.{AreLike, AreRewritten, IsLike, IsRewritten, places_from}
use Rattle.store_folder.specs.Writing.{places_with, unfound}
use Rattle.store_folder.proofs.Swept.{holds_swept, these_leave, these_swept}

-- blocks that are like others

rewritten_like : (a b : BlockPart) → IsRewritten a b → IsLike a b
rewritten_like a b w = record {
  min = w.min;
  max = w.max;
  points = sym (ap points_of w.rows ∙ same_points (rows_in a.part));
}

pub each_like : (a b : List BlockPart) → AreRewritten a b → AreLike a b
each_like [] [] w = tt
each_like [] (y ∷ b) w = absurd w
each_like (x ∷ a) [] w = absurd w
each_like (x ∷ a) (y ∷ b) w = (rewritten_like x y w.0, each_like a b w.1)

pub have_same : (a b : List BlockPart) → AreLike a b → HaveSame a b
have_same [] [] l = tt
have_same [] (y ∷ b) l = absurd l
have_same (x ∷ a) [] l = absurd l
have_same (x ∷ a) (y ∷ b) l = (l.0.points, have_same a b l.1)

pub length_like : (a b : List BlockPart) → AreLike a b → length a ≡ length b
length_like [] [] l = refl
length_like [] (y ∷ b) l = absurd l
length_like (x ∷ a) [] l = absurd l
length_like (x ∷ a) (y ∷ b) l = ap suc (length_like a b l.1)

module _ {F : Type 0} (shows : F → List ℕ → Option (List ℕ) → Type 0)
    (kept : F → List ℕ → ℕ → Type 0) where
  -- one of blocks that lie there, and those behind it

  at_place : (i : ℕ) (ps : List Place) (bs : List BlockPart) (p : Place) (b : BlockPart) (f : F)
      → AreAt shows kept ps bs f → slice_get ps i ≡ Some p → slice_get bs i ≡ Some b
      → AreAt shows kept (p ∷ []) (b ∷ []) f
  at_place i [] bs p b f at here is = absurd cc
  at_place i (q ∷ ps) [] p b f at here is = absurd at
  at_place zero (q ∷ ps) (c ∷ bs) p b f at here is =
      let same : q ≡ p = cc in
      let block : c ≡ b = cc in
      subst₂ (λ (r : Place) (d : BlockPart). AreAt shows kept (r ∷ []) (d ∷ []) f) same block
      (at.0, tt)
  at_place (suc i) (q ∷ ps) (c ∷ bs) p b f at here is = at_place i ps bs p b f at.1 here is

  at_behind : (n : ℕ) (ps : List Place) (bs : List BlockPart) (f : F) → AreAt shows kept ps bs f
      → AreAt shows kept (drop n ps) (drop n bs) f
  at_behind zero ps bs f at = at
  at_behind (suc n) [] [] f at = tt
  at_behind (suc n) [] (b ∷ bs) f at = absurd at
  at_behind (suc n) (p ∷ ps) [] f at = absurd at
  at_behind (suc n) (p ∷ ps) (b ∷ bs) f at = at_behind n ps bs f at.1

  -- the blocks that are found at their places, and the others, which are written anew
  pub made_like : (next : ℕ) (held : List Place) (parts : List BlockPart)
      (found : List (Option Place)) (blocks news : List BlockPart)
      → AreFound IsLike held parts found blocks → AreRewritten (unfound found blocks) news
      → (made : List BlockPart) × AreLike blocks made
      × ((f : F) → AreAt shows kept held parts f
      → AreAt shows kept (places_from next (length (unfound found blocks))) news f
      → AreAt shows kept (places_with next found (length blocks)) made f)
  made_like next held parts [] blocks news at anew =
      (news, each_like blocks news anew, λ f old new. new)
  made_like next held parts (x ∷ found) [] news at anew = absurd at
  made_like next held parts (None ∷ found) (b ∷ blocks) [] at anew = absurd anew
  made_like next held parts (None ∷ found) (b ∷ blocks) (y ∷ news) at anew =
      let rest = made_like (next + 1) held parts found blocks news at anew.1 in (
        y ∷ rest.0,
        (rewritten_like b y anew.0, rest.1),
        λ f old new. (new.0, rest.2 f old new.1),
      )
  made_like next held parts (Some p ∷ found) (b ∷ blocks) news at anew =
      let i = at.0 in
      let rest = made_like next (drop (i + 1) held) (drop (i + 1) parts) found blocks news at.3
      anew in (
        at.2.0 ∷ rest.0,
        (at.2.2, rest.1),
        λ f old new. (
          (at_place i held parts p at.2.0 f old at.1 at.2.1).0,
          rest.2 f (at_behind (i + 1) held parts f old) new,
        ),
      )

  -- so many places as blocks
  as_many : (ps : List Place) (bs : List BlockPart) (f : F) → AreAt shows kept ps bs f
      → length ps ≡ length bs
  as_many [] [] f at = refl
  as_many [] (b ∷ bs) f at = absurd at
  as_many (p ∷ ps) [] f at = absurd at
  as_many (p ∷ ps) (b ∷ bs) f at = ap suc (as_many ps bs f at.1)

module _ {F : Type 0} (shows : F → List ℕ → Option (List ℕ) → Type 0)
    (kept : F → List ℕ → ℕ → Type 0) (sound : F → Bool) (moment : F → ℕ)
    (left_since : F → ℕ → Left → Type 0)
    (only_now : (f : F) (name : List ℕ) (x : Option (List ℕ)) (n : ℕ) (left : Left) → shows f name x
    → kept f name n → left_since f (moment f) left → MayLeaveOf n x (left name))
    (earlier : (f : F) (t u : ℕ) (left : Left) → t ≤ u → u ≤ moment f → left_since f u left
    → left_since f t left) where
  abbrev At : Origin → JournalFile F → ℕ → Bool → List Event → List Place → List BlockPart → Type 0
  At first m len closed events held parts =
      HoldsAt shows kept sound moment left_since first m len closed events held parts

  abbrev May : Origin → JournalFile F → ℕ → Bool → List Event → List Event → SnapshotParts
      → List Place → List BlockPart → List (Option Place) → Type 0
  May first m len closed events after s held parts found =
      MaySave shows kept sound moment left_since first m len closed events after s held parts found

  abbrev Stays : List (List ℕ) → F → F → Type 0
  Stays names old new = KeepsStore shows kept sound moment left_since names old new

  -- the blocks of the head lie there
  held_blocks : (first : Origin) (m : JournalFile F) (len : ℕ) (closed : Bool)
      (events : List Event) (held : List Place) (parts : List BlockPart)
      → At first m len closed events held parts → AreAt shows kept held parts m.folder
  held_blocks first m len closed events held parts at =
      subst (λ (ps : List Place). AreAt shows kept ps parts m.folder) at.1
      (subst (λ (bs : List BlockPart). AreAt shows kept at.0.saved.places bs m.folder) at.2
      at.0.blocks)

  -- the folder is sound while the journal is open
  pub is_sound : (first : Origin) (m : JournalFile F) (len : ℕ) (closed : Bool)
      (events after : List Event) (s : SnapshotParts) (held : List Place) (parts : List BlockPart)
      (found : List (Option Place)) → May first m len closed events after s held parts found → closed ≡ false
      → sound m.folder ≡ true
  is_sound first m len closed events after s held parts found may opened =
      (may.holds.0.journal.keeps opened).has.is_sound

  -- while blocks are written the head stays, and its blocks
  pub still_these : (first : Origin) (old new : JournalFile F) (len : ℕ) (closed : Bool)
      (events after : List Event) (s : SnapshotParts) (held : List Place) (parts : List BlockPart)
      (found : List (Option Place)) (may : May first old len closed events after s held parts found) → closed ≡ false
      → new.names ≡ old.names → Stays (names_at held) old.folder new.folder
      → HoldsThese shows kept sound moment left_since first new len closed events
      may.holds.0.saved may.holds.0.parts may.holds.0.late
  still_these first old new len closed events after s held parts found may opened named stays =
      let h = may.holds.0 in
      these_swept shows kept sound moment left_since only_now earlier first old new len closed
      events h.saved h.parts h.late (names_at held) (h, refl, refl, refl) opened named
      (ap names_at (sym may.holds.1)) stays

  pub still_held : (first : Origin) (old new : JournalFile F) (len : ℕ) (closed : Bool)
      (events after : List Event) (s : SnapshotParts) (held : List Place) (parts : List BlockPart)
      (found : List (Option Place)) → May first old len closed events after s held parts found → closed ≡ false
      → new.names ≡ old.names → Stays (names_at held) old.folder new.folder
      → At first new len closed events held parts
  still_held first old new len closed events after s held parts found may opened named stays =
      holds_swept shows kept sound moment left_since only_now earlier first old new len closed
      events held parts (names_at held) may.holds opened named refl stays

  pub writing_leaves : (first : Origin) (old : JournalFile F) (new : F) (len : ℕ) (closed : Bool)
      (events after : List Event) (s : SnapshotParts) (held : List Place) (parts : List BlockPart)
      (found : List (Option Place)) (values : Values) (may : May first old len closed events after s held parts found)
      → closed ≡ false → Stays (names_at held) old.folder new
      → LeavesOnly moment left_since old.folder new
      (IsOldOrSaved may.holds.0.saved may.holds.0.parts may.holds.0.late values s)
  writing_leaves first old new len closed events after s held parts found values may opened stays =
      let h = may.holds.0 in
      weaker moment left_since old.folder new (IsState h.saved h.parts h.late)
      (IsOldOrSaved h.saved h.parts h.late values s) (λ left state. inl state)
      (these_leave shows kept sound moment left_since only_now earlier first old new len closed
      events h.saved h.parts h.late held (h, refl, refl, refl) opened may.holds.1 stays)

  -- and then, while the journal begins with what is saved
  pub saving_leaves : (first : Origin) (old : JournalFile F) (mid new : F) (len : ℕ) (closed : Bool)
      (events after : List Event) (s : SnapshotParts) (held : List Place) (parts : List BlockPart)
      (found : List (Option Place)) (values meant : Values) (places : List Place) (made : List BlockPart)
      (saved : Saved) (may : May first old len closed events after s held parts found)
      → closed ≡ false → Stays (names_at held) old.folder mid
      → AreLike s.blocks made → MayStand (started saved made) → meant ≡ values
      → saved ≡ save meant s places
      → LeavesOnly moment left_since mid new
      (IsEither may.holds.0.saved may.holds.0.parts may.holds.0.late saved made)
      → LeavesOnly moment left_since old.folder new
      (IsOldOrSaved may.holds.0.saved may.holds.0.parts may.holds.0.late values s)
  saving_leaves first old mid new len closed events after s held parts found values meant places made
      saved may opened stays like stands means is leaves =
      let h = may.holds.0 in
      let named : saved ≡ save values s places = is ∙ ap (λ (v : Values). save v s places) means in
      joined_calls moment left_since old.folder mid new
      (IsOldOrSaved h.saved h.parts h.late values s)
      (writing_leaves first old mid len closed events after s held parts found values may opened
      stays)
      (weaker moment left_since mid new (IsEither h.saved h.parts h.late saved made)
      (IsOldOrSaved h.saved h.parts h.late values s)
      (λ left x. ⊎_elim (λ state. inl state)
      (λ state. inr (
        places,
        made,
        like,
        subst (λ (y : Saved). IsState y made [] left) named state,
        subst (λ (y : Saved). MayStand (started y made)) named stands,
      )) x) leaves)

  -- so a start finds the events before, or those after
  pub saved_finds : (first : Origin) (old : JournalFile F) (new : F) (len : ℕ) (closed : Bool)
      (events after : List Event) (s : SnapshotParts)
      (h : HoldsAfterHead shows kept sound moment left_since first old len closed events)
      → replayed first.world after ≡ Ok (world_of s)
      → LeavesOnly moment left_since old.folder new
      (IsOldOrSaved h.saved h.parts h.late first.values s)
      → StartFindsEither moment left_since old.folder new first events after
  saved_finds first old new len closed events after s h world leaves =
      weaker moment left_since old.folder new (IsOldOrSaved h.saved h.parts h.late first.values s)
      (StandsForEither first events after)
      (λ left is. ⊎_elim
      (λ state. inl (state_stands first events h.early h.late h.saved h.parts left h.all h.begins
      state))
      (λ x. inr (state_stands first after after [] (save first.values s x.0) x.1 left
      (sym (append-nil after))
      (record {
        world = same_replay first.world after s (save first.values s x.0) x.1
            (have_same s.blocks x.1 x.2) refl refl world;
        values = refl;
      }) x.3)) is) leaves

  -- the blocks that the new head names
  pub made_of : (first : Origin) (old : JournalFile F) (len : ℕ) (closed : Bool)
      (events after : List Event) (s : SnapshotParts) (held : List Place) (parts : List BlockPart)
      (found : List (Option Place)) (next : ℕ) (news : List BlockPart)
      → May first old len closed events after s held parts found
      → AreRewritten (unfound found s.blocks) news
      → (made : List BlockPart) × AreLike s.blocks made
      × ((f : F) → AreAt shows kept held parts f
      → AreAt shows kept (places_from next (length (unfound found s.blocks))) news f
      → AreAt shows kept (places_with next found (length s.blocks)) made f)
  made_of first old len closed events after s held parts found next news may anew =
      made_like shows kept next held parts found s.blocks news may.like anew

  -- then the journal may begin with the snapshot
  pub may_roll : (first : Origin) (old new : JournalFile F) (len : ℕ) (closed : Bool)
      (events after : List Event) (s : SnapshotParts) (held : List Place) (parts : List BlockPart)
      (found : List (Option Place)) (next : ℕ) (news : List BlockPart) (values : Values)
      (saved : Saved) (may : May first old len closed events after s held parts found)
      → closed ≡ false → new.names ≡ old.names → Stays (names_at held) old.folder new.folder
      → (anew : AreRewritten (unfound found s.blocks) news)
      → AreAt shows kept (places_from next (length (unfound found s.blocks))) news new.folder
      → values ≡ first.values
      → saved ≡ save values s (places_with next found (length s.blocks))
      → ((made : List BlockPart) → AreLike s.blocks made → MayStand (started saved made))
      → MayRoll shows kept sound moment left_since first new len closed events after saved
      (made_of first old len closed events after s held parts found next news may anew).0
  may_roll first old new len closed events after s held parts found next news values saved may
      opened named stays anew at means is stands =
      let holds = still_held first old new len closed events after s held parts found may opened
      named stays in
      let places = places_with next found (length s.blocks) in
      let made = made_of first old len closed events after s held parts found next news may anew in
      subst (λ (x : Saved). MayRoll shows kept sound moment left_since first new len closed events
      after x made.0) (sym is)
      (record {
        holds = inl holds.0;
        world = same_replay first.world after s (save values s places) made.0
            (have_same s.blocks made.0 made.1) refl refl may.world;
        values = means;
        may = subst (λ (x : Saved). MayStand (started x made.0)) is (stands made.0 made.1);
        blocks = made.2 new.folder (held_blocks first new len closed events held parts holds) at;
      })

  -- there are as many places as blocks
  pub so_many : (first : Origin) (m : JournalFile F) (len : ℕ) (closed : Bool)
      (events : List Event) (s : SnapshotParts) (places : List Place) (made : List BlockPart)
      → At first m len closed events places made → AreLike s.blocks made
      → length places ≡ length s.blocks
  so_many first m len closed events s places made at like =
      as_many shows kept places made m.folder
      (held_blocks first m len closed events places made at)
      ∙ sym (length_like s.blocks made like)
