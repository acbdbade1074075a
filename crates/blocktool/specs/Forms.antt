-- What is asked of the values of an import, by their form.
use Rattle.std.specs.Prelude.{ℕ}
use Rattle.block_folder.specs.declared.values.Values.{Values}
use Rattle.block_folder.specs.declared.values.Values.TheVariants as values
use Rattle.imported_values.specs.declared.form.Form.{Form}
use Rattle.imported_values.specs.declared.form.Form.TheVariants as form
use Rattle.imported_values.specs.declared.policy.Rest.{Rest}
use Rattle.imported_values.specs.declared.policy.Rest.TheVariants.{Drop, Refuse, Round}
use Rattle.exposition.specs.declared.text.Fractions.{Fractions}
use Rattle.exposition.specs.declared.text.Fractions.TheVariants.{Beside, Rounded}
use Rattle.exposition.specs.declared.text.Reading.{Reading}
use Rattle.exposition.specs.declared.text.Reading.TheVariants as reading

-- how many digits after the point are kept; doubles are kept whole
abbrev pub places_of : Form → ℕ
places_of (form.Parts policy) = policy.digits
places_of form.Doubles = 0

-- what the values of the outputs mean
abbrev pub values_of : Form → Values
values_of (form.Parts policy) = values.Whole
values_of form.Doubles = values.Doubles

-- what is done with values that have no number; of doubles a text that writes none is refused
abbrev pub rest_of : Form → Rest
rest_of (form.Parts policy) = policy.rest
rest_of form.Doubles = Refuse

-- whether fractions are rounded, as a policy asks
abbrev pub fractions_of : Rest → Fractions
fractions_of Refuse = Beside
fractions_of Drop = Beside
fractions_of Round = Rounded

-- what the values of a text are read as
abbrev pub reading_of : Form → Reading
reading_of (form.Parts policy) = reading.Decimals (fractions_of policy.rest)
reading_of form.Doubles = reading.Doubles
