use Rattle.std.proofs.Common.{◌≡◌, chars, IsUtf8, drop}
use Rattle.text_choices.specs.Alternatives.{fits}
use Rattle.std.specs.Str.Iter.{chars_rest}
use Rattle.text_choices.proofs.choice.fits.Given as goal

abbrev pub invariant-loop-atom : goal.invariant-loop-atom
invariant-loop-atom l = record {
  same : fits (drop l.atom-index l.atoms) (chars (chars_rest l.rest)) ≡ fits l.atoms (chars l.value);
  utf8 : IsUtf8 (chars_rest l.rest);
}
