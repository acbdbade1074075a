-- What one of several threads reads.
use Rattle.std.specs.Prelude.{◌≡◌, ℕ, List, Result, IfOk}
use Rattle.index_reader.specs.declared.bodies.Bodies.{Bodies}
use Rattle.index_reader.specs.declared.error.IndexError.{IndexError}
use Rattle.index_reader.specs.declared.layout.Layout.{Layout}
use Rattle.index_reader.specs.declared.parts.Listed.{Listed}
use Rattle.index_reader.specs.CheckedFile.{bodies_seen, layout_seen, symbol_texts}
use Rattle.index_reader.specs.Layout.{SeriesEntry}
use Rattle.index_reader.specs.Outcome.{Gives}
use Rattle.index_reader.specs.Reading.Agreement.{entry_references}
use Rattle.index_reader.specs.Reading.Flat.{body_of_entry, references_in_order}
use Rattle.index_reader.specs.Reading.Steps.{each}
use Rattle.index_reader.specs.Reading.Whole.{bodies_of, postings_of}
use Rattle.index_reader.specs.Seen.{bytes_of, entries_seen, table_seen}

-- the first refusal is answered; else the bodies of these entries, and their references
pub record AreBodiesOf (symbols : List (List ℕ)) (entries : List SeriesEntry)
    (r : Result Bodies IndexError) : Type 0 where
  pub exact : Gives bodies_seen r (each (body_of_entry symbols) entries)
  pub referred : IfOk r (λ b. references_in_order b.series.items ≡ entry_references entries)

-- the same of all entries of a file, with the bytes between them and their order
pub record AreBodiesIn (file : List ℕ) (o : Layout) (r : Result Bodies IndexError) : Type 0 where
  pub exact : Gives bodies_seen r (bodies_of file (layout_seen o))
  pub referred : IfOk r (λ b. references_in_order b.series.items
      ≡ entry_references (entries_seen o.entries.items))

-- the first refusal is answered; else the table and its lists, and the texts of the symbols
pub record AreListsIn (file : List ℕ) (o : Layout) (r : Result Listed IndexError) : Type 0 where
  pub exact : Gives (λ x. (table_seen x.table.entries.items, bytes_of x.table.lists.items)) r
      (postings_of file o.contents)
  pub symbols : IfOk r (λ x. symbol_texts x.symbols ≡ bytes_of o.symbols.texts.items)
