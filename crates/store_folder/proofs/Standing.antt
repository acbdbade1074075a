-- That a start makes a snapshot of what is saved of one.
use Rattle.std.proofs.Common.{◌≡◌, ◌≤◌, ℤ, true, List, [], ◌∷◌, None, ap, length, map, sym}
use Rattle.std.proofs.Common.{subst, ◌∙◌, refl, arith, inl, inr, ℕ, Option, Some}
use Rattle.std.specs.Prelude.{int_le}
use Rattle.std.specs.FinMap.Entries.{find}
use Rattle.block_folder.specs.declared.values.Values.{Values}
use Rattle.data_folder.specs.Folders.{Left}
use Rattle.head.specs.Heads.{AreBelow, BlockPart, EndBy, HeadSeries, IsSoundSnapshot}
use Rattle.head.specs.Heads.{SnapshotParts}
use Rattle.head.specs.Limits.{max_series}
use Rattle.head.specs.Resuming.{MayStand}
use Rattle.head_record.specs.Saved.{Place, Saved, save}
use Rattle.labels.specs.Contents.{Content}
use Rattle.labels.specs.Labels.{Point, point_cmp}
use Rattle.labels.specs.Parts.{Part, laid_over, over, rows_in}
use Rattle.labels.specs.Rows.{points_of}
use Rattle.store_folder.specs.Starting.{IsNoneOrNothing, nothing_with}
use Rattle.store_folder.specs.States.{MayStart, started}
use Rattle.store_folder.specs.StoreLaws.{may_start}
use Rattle.store_folder.specs.Writing.{AreLike}
use Rattle.store_folder.proofs.Saves.{length_like}

abbrev parts_in : List BlockPart → List Part
parts_in blocks = map (λ (b : BlockPart). b.part) blocks

-- blocks like others have the same content
like_content : (c : Content) (a b : List BlockPart) → AreLike a b
    → over c (parts_in a) ≡ over c (parts_in b)
like_content c [] [] l = refl
like_content c [] (y ∷ b) l = absurd l
like_content c (x ∷ a) [] l = absurd l
like_content c (x ∷ a) (y ∷ b) l =
    like_content (laid_over (points_of (rows_in x.part)) c) a b l.1
    ∙ ap (λ (ps : List (Point × ℤ)). over (laid_over ps c) (parts_in b)) l.0.points

-- they end where the others do
like_ends : (floor : ℤ) (a b : List BlockPart) → AreLike a b → EndBy floor a → EndBy floor b
like_ends floor [] [] l e = tt
like_ends floor [] (y ∷ b) l e = absurd l
like_ends floor (x ∷ a) [] l e = absurd l
like_ends floor (x ∷ a) (y ∷ b) l e = (
  subst (λ (t : ℤ). int_le t floor ≡ true) (sym l.0.max) e.0,
  like_ends floor a b l.1 e.1,
)

-- and so they have no sample from the floor on
like_below : (floor : ℤ) (a b : List BlockPart) → AreLike a b → AreBelow floor a
    → AreBelow floor b
like_below floor a b l h = record {
  none = λ label t above. subst (λ (c : Content). find point_cmp (label, t) c ≡ None)
      (like_content [] a b l) (h.none label t above);
}

-- what is saved of a sound snapshot may stand beside blocks like its own

may_stand : (values : Values) (s : SnapshotParts) (places : List Place) (made : List BlockPart)
    → IsSoundSnapshot s → length s.head ≤ max_series → AreLike s.blocks made
    → MayStand (started (save values s places) made)
may_stand values s places made sound few like = record {
  sound = record {
    few = omega (arith, sound.few, length_like s.blocks made like);
    time = sound.time;
    ends = like_ends s.floor s.blocks made like sound.ends;
    head = sound.head;
    blocks = like_below s.floor s.blocks made like sound.blocks;
  };
  few = few;
}

pub saved_stands : (values : Values) (s : SnapshotParts) (places : List Place)
    (series : List HeadSeries) (saved : Saved) → saved ≡ save values s places
    → series ≡ s.head → IsSoundSnapshot s → length series ≤ max_series
    → (made : List BlockPart) → AreLike s.blocks made → MayStand (started saved made)
saved_stands values s places series saved is is_head sound few made like =
    let short : length s.head ≤ max_series =
    subst (λ (hs : List HeadSeries). length hs ≤ max_series) is_head few in
    subst (λ (x : Saved). MayStand (started x made)) (sym is)
    (may_stand values s places made sound short like)

-- of the same head
pub same_stand : (blocks : List BlockPart) (a b : Saved) → a ≡ b
    → ((made : List BlockPart) → AreLike blocks made → MayStand (started a made))
    → (made : List BlockPart) → AreLike blocks made → MayStand (started b made)
same_stand blocks a b same h made like =
    subst (λ (x : Saved). MayStand (started x made)) same (h made like)

-- a store that has nothing

pub nothing_stands : (values : Values) → MayStand (started (nothing_with values) [])
nothing_stands values = record {
  sound = record {
    few = omega arith;
    time = refl;
    ends = tt;
    head = tt;
    blocks = record { none = λ label t above. refl };
  };
  few = omega arith;
}

abbrev some : List ℕ → Option (List ℕ)
some bytes = Some bytes

not_some : (bytes : List ℕ) → None ≡ some bytes → ⊥
not_some bytes e = cc

-- what is left has no journal, or is such a store: a start finds none, or takes it
pub nothing_starts : (values : Values) (left : Left) → IsNoneOrNothing values left → MayStart left
nothing_starts values left (inl none) =
    λ fits saved parts events state. absurd
    (not_some state.kept.journal.0 (sym none ∙ state.kept.journal.1))
nothing_starts values left (inr state) =
    may_start (nothing_with values) [] [] left state (nothing_stands values)
