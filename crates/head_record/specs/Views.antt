-- What is read, without where it lies in memory.
use Rattle.head_record.specs.declared.parts.OpeningParts.{OpeningParts}
use Rattle.head_record.specs.Spelling.{Opening}

abbrev pub opening_in : OpeningParts → Opening
opening_in o = record {
  values = o.values;
  floor = o.floor;
  places = o.places.items;
  count = o.count;
}
