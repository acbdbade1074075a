use Rattle.std.proofs.Common.{◌≡◌, ◌++◌, drop}
use Rattle.std.specs.List.{flat_map}
use Rattle.page_text.specs.Printing.{attribute_text}
use Rattle.page_text.proofs.printing.append_attributes.Given as goal

abbrev pub invariant-loop-attribute : goal.invariant-loop-attribute
invariant-loop-attribute l =
    l.out.items ++ flat_map attribute_text (drop l.attribute-index l.attributes)
    ≡ l.fn.out.items ++ flat_map attribute_text l.attributes
