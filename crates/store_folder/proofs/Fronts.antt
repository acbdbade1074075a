-- The blocks that a head names, and those in memory.
use Rattle.std.proofs.Common.{◌≡◌, inl, inr, ⊎_elim, ℕ, suc, Bool, true, false, List, [], ◌∷◌, ◌++◌}
use Rattle.std.proofs.Common.{append_assoc, Option, Ok, length, refl, sym, ap, subst, subst₂, ◌∙◌}
use Rattle.data_folder.specs.declared.journal_file.JournalFile.{JournalFile}
use Rattle.data_folder.specs.Folders.{Left, MayLeaveOf}
use Rattle.head.specs.Heads.{BlockPart, SnapshotParts, world_of}
use Rattle.head.specs.Worlds.{Event, replayed}
use Rattle.head_record.specs.Saved.{Place}
use Rattle.store_folder.specs.Holding.{AreAt, HoldsAt, HoldsLike, HoldsOrLost, HoldsStore}
use Rattle.store_folder.specs.Holding.{HoldsOrLostBetween, HoldsStoreBetween, IsLostBetween}
use Rattle.store_folder.specs.Holding.{StandsForMore}
use Rattle.store_folder.specs.KeeperLaws.{now_found}
use Rattle.store_folder.specs.Origins.{Origin}
use Rattle.store_folder.specs.Saving.{AreFound, MaySave}
use Rattle.store_folder.specs.States.{StandsFor}
use Rattle.store_folder.specs.Writing.{AreLike, IsLike}
use Rattle.store_folder.proofs.Found.{found_like}

pub like_all : (blocks : List BlockPart) → AreLike blocks blocks
like_all [] = tt
like_all (b ∷ blocks) = (record { min = refl; max = refl; points = refl }, like_all blocks)

-- what stands for more events, and more, stands for fewer, and more
pub stands_more : (first : Origin) (events more : List Event) (left : Left)
    → StandsForMore first (events ++ more) left → StandsForMore first events left
stands_more first events more left s = (
  more ++ s.0,
  subst (λ (x : List Event). StandsFor first x left) (append_assoc events more s.0) s.1,
)

module _ {F : Type 0} (shows : F → List ℕ → Option (List ℕ) → Type 0)
    (kept : F → List ℕ → ℕ → Type 0) (sound : F → Bool) (moment : F → ℕ)
    (left_since : F → ℕ → Left → Type 0) where
  pub as_many : (places : List Place) (parts : List BlockPart) (f : F)
      → AreAt shows kept places parts f → length places ≡ length parts
  as_many [] [] f at = refl
  as_many [] (b ∷ parts) f at = absurd at
  as_many (p ∷ places) [] f at = absurd at
  as_many (p ∷ places) (b ∷ parts) f at = ap suc (as_many places parts f at.1)

  abbrev Like : Origin → JournalFile F → ℕ → Bool → List Event → List Place → List BlockPart → Type 0
  Like first m len closed events places blocks =
      HoldsLike shows kept sound moment left_since first m len closed events places blocks

  -- while the journal is open
  pub open_like : (first : Origin) (m : JournalFile F) (len : ℕ) (closed : Bool)
      (events : List Event) (places : List Place) (blocks : List BlockPart)
      → HoldsOrLost shows kept sound moment left_since first m len closed events places blocks
      → closed ≡ false → Like first m len closed events places blocks
  open_like first m len closed events places blocks (inl h) opened = h
  open_like first m len closed events places blocks (inr lost) opened =
      absurd (let a : true ≡ false = sym lost.is_closed ∙ opened in cc)

  -- the blocks that were found, and shares of them
  pub resumed_like : (first : Origin) (m : JournalFile F) (len : ℕ) (closed : Bool)
      (events : List Event) (places : List Place) (parts : List BlockPart) (copied : List Place)
      (shares : List BlockPart) → copied ≡ places → shares ≡ parts
      → HoldsAt shows kept sound moment left_since first m len closed events places parts
      → Like first m len closed events copied shares
  resumed_like first m len closed events places parts copied shares where_ same at = (
    at.0,
    at.1 ∙ sym where_,
    subst₂ AreLike (sym same) (sym at.2) (like_all parts),
  )

  -- lost on the way from some events to others

  pub store_between : (first : Origin) (m : JournalFile F) (len : ℕ) (closed : Bool)
      (events after : List Event)
      → HoldsStore shows kept sound moment left_since first m len closed events
      → HoldsStoreBetween shows kept sound moment left_since first m len closed events after
  store_between first m len closed events after (inl h) = inl h
  store_between first m len closed events after (inr lost) = inr (record {
    is_closed = lost.is_closed;
    leaves = λ left had. inl (lost.leaves left had);
  })

  pub as_between : (first : Origin) (m : JournalFile F) (len : ℕ) (closed : Bool)
      (events after : List Event) (places : List Place) (blocks : List BlockPart)
      → HoldsOrLost shows kept sound moment left_since first m len closed events places blocks
      → HoldsOrLostBetween shows kept sound moment left_since first m len closed events after
      places blocks
  as_between first m len closed events after places blocks (inl h) = inl h
  as_between first m len closed events after places blocks (inr lost) = inr (record {
    is_closed = lost.is_closed;
    leaves = λ left had. inl (lost.leaves left had);
  })

  -- to the same
  pub same_between : (first : Origin) (m : JournalFile F) (len : ℕ) (closed : Bool)
      (events : List Event) (places : List Place) (blocks : List BlockPart)
      → HoldsOrLostBetween shows kept sound moment left_since first m len closed events events
      places blocks
      → HoldsOrLost shows kept sound moment left_since first m len closed events places blocks
  same_between first m len closed events places blocks (inl h) = inl h
  same_between first m len closed events places blocks (inr lost) = inr (record {
    is_closed = lost.is_closed;
    leaves = λ left had. ⊎_elim (λ s. s) (λ s. s) (lost.leaves left had);
  })

  -- to the same and some more
  pub more_between : (first : Origin) (m : JournalFile F) (len : ℕ) (closed : Bool)
      (events more : List Event) (places : List Place) (blocks : List BlockPart)
      → HoldsOrLostBetween shows kept sound moment left_since first m len closed events
      (events ++ more) places blocks
      → HoldsOrLost shows kept sound moment left_since first m len closed events places blocks
  more_between first m len closed events more places blocks (inl h) = inl h
  more_between first m len closed events more places blocks (inr lost) = inr (record {
    is_closed = lost.is_closed;
    leaves = λ left had. ⊎_elim (λ s. s) (λ s. stands_more first events more left s)
        (lost.leaves left had);
  })

  -- a snapshot may be saved, whose blocks are found among these where they are the same
  abbrev pub may_save : (first : Origin) (m : JournalFile F) (len : ℕ) (closed : Bool)
      (events after : List Event) (places held looked : List Place)
      (blocks shown others : List BlockPart) (s : SnapshotParts)
      (found given : List (Option Place)) (h : Like first m len closed events places blocks)
      → replayed first.world after ≡ Ok (world_of s) → held ≡ places → looked ≡ places
      → shown ≡ s.blocks → others ≡ blocks → given ≡ found
      → AreFound (λ (block part : BlockPart). block ≡ part) looked others found shown
      → MaySave shows kept sound moment left_since first m len closed events after s held h.0.parts
      given
  may_save first m len closed events after places held looked blocks shown others s found given h
      world is seen snaps mine so at = record {
        holds = (h.0, h.1 ∙ sym is, refl);
        world = world;
        like = subst₂ (λ (ps : List Place) (bs : List BlockPart).
            AreFound IsLike ps h.0.parts given bs) (seen ∙ sym is) snaps
            (subst (λ (xs : List (Option Place)). AreFound IsLike looked h.0.parts xs shown) (sym so)
            (found_like looked others h.0.parts found shown at
            (subst (λ (bs : List BlockPart). AreLike bs h.0.parts) (sym mine) h.2)));
      }

  -- what is held after a new head
  pub saved_like : (first : Origin) (m : JournalFile F) (len : ℕ) (closed : Bool)
      (events : List Event) (places now : List Place) (made blocks shares : List BlockPart)
      → HoldsAt shows kept sound moment left_since first m len closed events places made
      → AreLike blocks made → now ≡ places → shares ≡ blocks
      → Like first m len closed events now shares
  saved_like first m len closed events places now made blocks shares at like is same = (
    at.0,
    at.1 ∙ sym is,
    subst₂ AreLike (sym same) (sym at.2) like,
  )

  -- where it failed and goes on
  pub still_like : (first : Origin) (old m : JournalFile F) (was len : ℕ) (shut closed : Bool)
      (events : List Event) (places now : List Place) (blocks : List BlockPart)
      (h : Like first old was shut events places blocks)
      → HoldsAt shows kept sound moment left_since first m len closed events now h.0.parts
      → now ≡ places → Like first m len closed events places blocks
  still_like first old m was len shut closed events places now blocks h at is = (
    at.0,
    at.1 ∙ is,
    subst (λ (bs : List BlockPart). AreLike blocks bs) (sym at.2) h.2,
  )

module _ {F : Type 0} (shows : F → List ℕ → Option (List ℕ) → Type 0)
    (kept : F → List ℕ → ℕ → Type 0) (sound : F → Bool) (moment : F → ℕ)
    (left_since : F → ℕ → Left → Type 0)
    (only_now : (f : F) (name : List ℕ) (x : Option (List ℕ)) (n : ℕ) (left : Left) → shows f name x
    → kept f name n → left_since f (moment f) left → MayLeaveOf n x (left name)) where
  lost_so : (first : Origin) (m : JournalFile F) (len : ℕ) (closed : Bool)
      (events after : List Event) → closed ≡ true
      → HoldsStoreBetween shows kept sound moment left_since first m len closed events after
      → IsLostBetween moment left_since first m closed events after
  lost_so first m len closed events after shut (inl h) = record {
    is_closed = shut;
    leaves = λ left had. inl (now_found shows kept sound moment left_since only_now first m len
        closed events left (inl h) had);
  }
  lost_so first m len closed events after shut (inr lost) = lost

  -- a roll has failed: the journal goes on, or it is lost
  pub failed_like : (first : Origin) (old mid new : JournalFile F) (was mid_len len : ℕ)
      (shut mid_closed closed : Bool) (events after : List Event) (places held : List Place)
      (blocks : List BlockPart)
      (h : HoldsLike shows kept sound moment left_since first old was shut events places blocks)
      → closed ≡ mid_closed
      → (mid_closed ≡ false
      → HoldsAt shows kept sound moment left_since first mid mid_len mid_closed events held h.0.parts)
      → (mid_closed ≡ false
      → HoldsAt shows kept sound moment left_since first mid mid_len mid_closed events held h.0.parts
      → HoldsAt shows kept sound moment left_since first new len closed events held h.0.parts)
      → HoldsStoreBetween shows kept sound moment left_since first new len closed events after
      → held ≡ places
      → HoldsOrLostBetween shows kept sound moment left_since first new len closed events after
      places blocks
  failed_like first old mid new was mid_len len shut true closed events after places held blocks h
      same goes stays holds is =
      inr (lost_so first new len closed events after same holds)
  failed_like first old mid new was mid_len len shut false closed events after places held blocks h
      same goes stays holds is =
      inl (still_like shows kept sound moment left_since first old new was len shut closed events
      places held blocks h (stays refl (goes refl)) is)
