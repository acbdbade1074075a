-- Blocks of this project that are opened by the names of their directories, and taken together.
use Rattle.std.specs.Prelude.{◌≡◌, ◌==◌, ℕ, Bool, true, not, List, [], ◌∷◌, ◌++◌, Option, None}
use Rattle.std.specs.Prelude.{Some, filter, length, map, unwrap_or}
use Rattle.std.specs.Borrow.{Bor}
use Rattle.std.specs.List.{list_all}
use Rattle.block.specs.Blocks.{Shown}
use Rattle.block_folder.specs.declared.values.Values.{Values}
use Rattle.block_folder.specs.declared.values.Values.TheVariants.{Doubles, Whole}
use Rattle.labels.specs.Parts.{rows_in}
use Rattle.labels.specs.Rows.{Row}
use Rattle.blocktool.specs.declared.own_blocks.Opened.{Opened}
use Rattle.blocktool.specs.declared.rewrite.Inputs.{Inputs}
use Rattle.blocktool.specs.declared.listed.Listed.{Listed}
use Rattle.blocktool.specs.Rewriting.{are_small}

-- in the directory of a name such a block may be found
abbrev pub MayOpen : Type 0 → Type 1
MayOpen B = B → List ℕ → Opened → Type 0

abbrev pub names_in : List (Bor (List ℕ)) → List (List ℕ)
names_in names = map (λ (name : Bor (List ℕ)). name.now) names

-- whether a row has a sample
abbrev pub is_filled : Row → Bool
is_filled row = not (length row.1 == 0)

-- the rows that have one
abbrev pub filled : List Row → List Row
filled rows = filter is_filled rows

-- the rows of a block that have a sample
abbrev pub rows_of : Opened → List Row
rows_of opened = filled (rows_in opened.block.part)

-- the inputs of a rewriting: the rows of each, how many digits after the point all their values
-- have, and what these mean
pub record Taken : Type 0 where
  pub lists : List (List Row)
  pub digits : Option ℕ
  pub values : Option Values

abbrev pub taken_in : Inputs → Taken
taken_in inputs = record {
  lists = map (λ (l : Listed). l.rows.items) inputs.listed.items;
  digits = inputs.digits;
  values = inputs.values;
}

abbrev pub nothing_taken : Taken
nothing_taken = record { lists = []; digits = None; values = None }

-- the block has so many digits after the point, and so have those before it
abbrev pub HasDigits : Opened → Option ℕ → ℕ → Type 0
HasDigits opened before digits =
    (digits ≡ opened.digits) × (unwrap_or before digits ≡ digits)

-- its values mean this, and so do those before it
abbrev pub HasValues : Opened → Option Values → Values → Type 0
HasValues opened before values =
    (values ≡ opened.values) × (unwrap_or before values ≡ values)

-- its values are taken as doubles: if they are whole numbers, without digits after the point, each
-- is within 2^53
abbrev pub AreDoubles : Opened → Values → Type 0
AreDoubles opened values =
    (values ≡ Doubles)
    × (opened.values ≡ Whole → (opened.digits ≡ 0) × (list_all are_small (rows_of opened) ≡ true))

-- what its values mean, where this is asked for
abbrev pub IsMeantAs : Option Values → Opened → Option Values → Values → Type 0
IsMeantAs None opened before values = HasValues opened before values
IsMeantAs (Some Whole) opened before values = HasValues opened before values
IsMeantAs (Some Doubles) opened before values = AreDoubles opened values

-- a block more is taken: its rows that have a sample
pub record Takes (asked : Option Values) (opened : Opened) (old new : Taken) : Type 0 where
  pub lists : new.lists ≡ old.lists ++ rows_of opened ∷ []
  pub count : ℕ
  pub digits : HasDigits opened old.digits count
  pub digits_are : new.digits ≡ Some count
  pub meaning : Values
  pub values : IsMeantAs asked opened old.values meaning
  pub values_are : new.values ≡ Some meaning

-- the blocks in directories are taken, one after another
abbrev pub AreTaken : {B : Type 0} → MayOpen B → B → Option Values → List (List ℕ) → Taken → Taken
    → Type 0
AreTaken may_open own asked [] old new = new ≡ old
AreTaken may_open own asked (name ∷ names) old new =
    (opened : Opened) × (mid : Taken) × may_open own name opened × Takes asked opened old mid
    × AreTaken may_open own asked names mid new

-- The blocks in directories are added, in their order. The values of each have as many digits after
-- the point as those before it, and mean the same; at the end that of all is told.
abbrev pub AreAdded : {B : Type 0} → MayOpen B → B → List (List ℕ) → Option ℕ → Option Values
    → List Shown → Option Values → Type 0
AreAdded may_open own [] digits values [] end = end ≡ values
AreAdded may_open own [] digits values (b ∷ blocks) end = ⊥
AreAdded may_open own (name ∷ names) digits values [] end = ⊥
AreAdded may_open own (name ∷ names) digits values (b ∷ blocks) end =
    (opened : Opened) × may_open own name opened × (b ≡ opened.block)
    × HasDigits opened digits opened.digits × HasValues opened values opened.values
    × AreAdded may_open own names (Some opened.digits) (Some opened.values) blocks end
