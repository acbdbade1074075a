use Rattle.std.proofs.Common.{◌≡◌, take}
use Rattle.labels.specs.Pairs.{texts_of}
use Rattle.labels.proofs.label_set.pack_texts.Given as goal

abbrev pub invariant-loop-name : goal.invariant-loop-name
invariant-loop-name l = l.packed ≡ texts_of (take l.name-index l.pairs)
