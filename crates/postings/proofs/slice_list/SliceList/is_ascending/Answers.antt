use Rattle.std.proofs.Common.{◌≡◌, ltb, rules}
use Rattle.std.proofs.lemmas.Fn.{always_returns_same}
use Rattle.postings.proofs.Search.{ascending_from_pairs}
use Rattle.postings.proofs.slice_list.SliceList.is_ascending.Goals as goal

pub returns : goal.returns
returns c =
    ascending_from_pairs c.args.list.now c.is_sorted_by.result
    (c.is_sorted_by.ensures.cases ltb (always_returns_same _ (λ a r. r ≡ ltb a.0.now a.1.0.now) _ (λ a r q k. search rules)))
