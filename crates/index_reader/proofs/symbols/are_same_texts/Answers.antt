use Rattle.std.proofs.Common.{◌≡◌, ◌∙◌, sym}
use Rattle.std.proofs.lemmas.Slice.Eq.{bytes_eq-Decides, slice_eq-Decides}
use Rattle.std.specs.Cmp.Derive.Mapped.{pointwise-map}
use Rattle.std.specs.Str.{bytes_eq}
use Rattle.std.specs.String.{string_bytes}
use Rattle.index_reader.specs.Seen.{strings_of}
use Rattle.index_reader.proofs.symbols.are_same_texts.Goals as goal

pub returns : goal.returns
returns c =
    (slice_eq-Decides bytes_eq-Decides (strings_of c.args.xs.now) (strings_of c.args.ys.now) c.eq.result
    (c.eq.ensures ∙ sym (pointwise-map string_bytes bytes_eq c.args.xs.now c.args.ys.now))).0
