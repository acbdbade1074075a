use Rattle.std.proofs.Common.{rules}
use Rattle.std.proofs.lemmas.Fn.{dedup_same}
use Rattle.auditor.specs.Listing.{same_point}
use Rattle.auditor.proofs.merged.keep_first.Goals as goal

pub returns : goal.returns
returns c =
    dedup_same _ same_point _ (λ x y b f x' y' k. search rules) c.args.all.now.items
    c.dedup_by.new.self.items c.dedup_by.ensures.filtered
