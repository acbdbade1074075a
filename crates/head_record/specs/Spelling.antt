-- The one spelling of what is saved, as the first contents of a journal.
use Rattle.std.specs.Prelude.{◌≡◌, ◌<◌, ◌^◌, ℕ, ℤ, List, ◌∷◌, ◌++◌, map, length}
use Rattle.std.specs.List.{AllByRecursion}
use Rattle.wire.specs.Spelling.{uvarint, varint, zigzag}
use Rattle.labels.specs.LabelSets.{IsLabelSet}
use Rattle.block_folder.specs.declared.values.Values.{Values}
use Rattle.block_folder.specs.declared.values.Values.TheVariants.{Whole, Doubles}
use Rattle.head.specs.Heads.{HeadSeries}
use Rattle.event_text.specs.Spelling.{labels_text, many_text, sample_text}
use Rattle.event_text.specs.Spelling.{AreMany, IsPair, IsSample}
use Rattle.head_record.specs.Saved.{Place, Saved}

abbrev pub place_text : Place → List ℕ
place_text p = uvarint p.0 ++ uvarint p.1

-- what the first content says
pub record Opening : Type 0 where
  -- what the values mean: the kind says it
  pub values : Values
  pub floor : ℤ
  pub places : List Place
  -- how many series follow, each a content
  pub count : ℕ

unfoldable pub opening_text : Opening → List ℕ
opening_text o = varint o.floor ++ (many_text place_text o.places ++ uvarint o.count)

unfoldable pub series_text : HeadSeries → List ℕ
series_text h = labels_text h.labels ++ (sample_text h.newest ++ many_text sample_text h.samples)

-- the kinds of the two contents, beside those of events, 1 to 3; the first has one for each meaning
-- of the values
abbrev pub opening_kind : Values → ℕ
opening_kind Whole = 16
opening_kind Doubles = 18

abbrev pub series_kind : ℕ
series_kind = 17

abbrev pub opening_content : Opening → List ℕ
opening_content o = opening_kind o.values ∷ opening_text o

abbrev pub series_content : HeadSeries → List ℕ
series_content h = series_kind ∷ series_text h

abbrev pub opening_of_saved : Saved → Opening
opening_of_saved s = record {
  values = s.values;
  floor = s.floor;
  places = s.places;
  count = length s.head;
}

-- the contents that a journal begins with
abbrev pub head_texts : Saved → List (List ℕ)
head_texts s = opening_content (opening_of_saved s) ∷ map series_content s.head

-- what has a spelling: each number fits its type, and label sets are ones

pub record IsPlace (p : Place) : Type 0 where
  pub folder : p.0 < 2 ^ 64
  pub tombstones : p.1 < 2 ^ 64

pub record IsOpening (o : Opening) : Type 0 where
  pub floor : zigzag o.floor < 2 ^ 64
  pub places : AreMany IsPlace o.places
  pub count : o.count < 2 ^ 64

pub record IsSeries (h : HeadSeries) : Type 0 where
  pub pairs : AreMany IsPair h.labels
  pub label_set : IsLabelSet h.labels
  pub newest : IsSample h.newest
  pub samples : AreMany IsSample h.samples

pub record IsSaved (s : Saved) : Type 0 where
  pub opening : IsOpening (opening_of_saved s)
  pub series : AllByRecursion IsSeries s.head

-- the content is that of an opening, of a series
pub record SpellsOpening (content : List ℕ) (o : Opening) : Type 0 where
  pub text : content ≡ opening_content o
  pub fits : IsOpening o

pub record SpellsSeries (content : List ℕ) (h : HeadSeries) : Type 0 where
  pub text : content ≡ series_content h
  pub fits : IsSeries h

-- the contents are those of series
pub record SpellEach (contents : List (List ℕ)) (head : List HeadSeries) : Type 0 where
  pub texts : contents ≡ map series_content head
  pub each : AllByRecursion IsSeries head
