-- What the values of a block mean, as its meta.json says.
use Rattle.std.specs.Prelude.{ℕ, List, length, Option, Some, None, option_and_then, codes}
use Rattle.std.specs.Prelude.{if◌then◌else◌, nat_lt}
use Rattle.std.specs.Str.{bytes_eq}
use Rattle.serde_json.specs.Data.{Data}
use Rattle.serde_json.specs.Find.{as_str, get}
use Rattle.block.specs.Metas.{json_of}
use Rattle.block_folder.specs.declared.values.Values.{Values}
use Rattle.block_folder.specs.declared.values.Values.TheVariants.{Whole, Doubles}

-- the meaning that has this name
abbrev pub values_named : List ℕ → Option Values
values_named name = if bytes_eq name (codes "doubles") then Some Doubles else None

-- the meaning that a member names; whole numbers, if there is none
abbrev pub values_by : Option Data → Option Values
values_by None = Some Whole
values_by (Some d) = option_and_then values_named (as_str d)

-- the meaning by the member `values` of an object
abbrev pub values_in : Data → Option Values
values_in d = values_by (get (codes "values") d)

-- the meaning that a text of at most 1,048,576 bytes says
abbrev pub values_said : List ℕ → Option Values
values_said bytes =
    if nat_lt 1048576 (length bytes) then None else option_and_then values_in (json_of bytes)
