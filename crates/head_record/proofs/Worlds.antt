-- The snapshot of a start has the world of the one that was saved.
use Rattle.std.proofs.Common.{◌≡◌, ℕ, false, List, [], ◌∷◌, map, refl, sym, subst}
use Rattle.block_folder.specs.declared.values.Values.{Values}
use Rattle.block_folder.specs.declared.values.Values.TheVariants.{Whole, Doubles}
use Rattle.head.specs.Heads.{BlockPart, HeadSeries, IsSoundSnapshot, SnapshotParts, world_of}
use Rattle.event_journal.specs.Holding.{AreInFront, begins_event}
use Rattle.head_record.specs.Saved.{Place, Saved, save, start}
use Rattle.head_record.specs.Spelling.{head_texts, opening_kind, opening_of_saved, opening_text}
use Rattle.head_record.specs.Spelling.{series_content}

abbrev with : SnapshotParts → List BlockPart → SnapshotParts
with s blocks = record { blocks = blocks; head = s.head; floor = s.floor; copied = 0 }

same_world : (s : SnapshotParts) → world_of (with s s.blocks) ≡ world_of s
unfolding world_of
same_world s = refl

pub same_start : (values : Values) (s : SnapshotParts) (places : List Place) (at : Place → BlockPart)
    → map at places ≡ s.blocks → world_of (start at (save values s places)) ≡ world_of s
same_start values s places at e =
    subst (λ (blocks : List BlockPart). world_of (with s blocks) ≡ world_of s) (sym e)
    (same_world s)

pub sound_start : (values : Values) (s : SnapshotParts) (places : List Place)
    (at : Place → BlockPart)
    → map at places ≡ s.blocks → IsSoundSnapshot s → IsSoundSnapshot (start at (save values s places))
sound_start values s places at e h =
    subst (λ (blocks : List BlockPart). IsSoundSnapshot (with s blocks)) (sym e) (record {
      few = h.few;
      time = h.time;
      ends = h.ends;
      head = h.head;
      blocks = h.blocks;
    })

series_in_front : (head : List HeadSeries) → AreInFront (map series_content head)
series_in_front [] = tt
series_in_front (h ∷ head) = (refl, series_in_front head)

opening_in_front : (values : Values) (rest : List ℕ)
    → begins_event (opening_kind values ∷ rest) ≡ false
opening_in_front Whole rest = refl
opening_in_front Doubles rest = refl

pub in_front : (saved : Saved) → AreInFront (head_texts saved)
in_front saved = (
  opening_in_front saved.values (opening_text (opening_of_saved saved)),
  series_in_front saved.head,
)
