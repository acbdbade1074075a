use Rattle.std.proofs.Common.{rules}
use Rattle.std.proofs.lemmas.List.Sorted.{answers_always}
use Rattle.std.proofs.lemmas.Result.{on_ok_weaker}
use Rattle.auditor.specs.Listing.{point_before}
use Rattle.auditor.proofs.Merging.{before_order}
use Rattle.auditor.proofs.merged.sort_listed.Goals as goal

pub returns-clause-sorted : goal.returns-clause-sorted
returns-clause-sorted c =
    on_ok_weaker c.sort_by.result
    (λ h. h point_before before_order (answers_always _ _ _ (λ f a r k q. search rules)))
    c.sort_by.ensures.sorted

pub returns-clause-stable : goal.returns-clause-stable
returns-clause-stable c =
    c.sort_by.ensures.stable point_before before_order
    (answers_always _ _ _ (λ f a r k q. search rules))
