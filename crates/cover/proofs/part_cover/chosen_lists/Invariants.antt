use Rattle.std.proofs.Common.{◌≡◌, take}
use Rattle.postings.specs.contracts.chosen.ChosenPostings.TheImpl.{ghosts as chosen_ghosts}
use Rattle.postings.specs.contracts.union.UnionPostings.TheImpl.{ghosts as union_ghosts, dict as union_dict}
use Rattle.cover.specs.Walking.{AllFresh, matcher_lists, remaining_of_each}
use Rattle.cover.proofs.part_cover.chosen_lists.Given as goal

abbrev pub invariant-loop-matcher : goal.invariant-loop-matcher
invariant-loop-matcher g l = record {
  lists : remaining_of_each (chosen_ghosts g.row.S-List g.S.List.Postings g.S.List.Postings-dict
      (union_ghosts g.row.S-List g.S.List.Postings g.S.List.Postings-dict g.S.List.Destruct-dict)
      (union_dict g.row.S-List g.S.List.Postings g.S.List.Postings-dict
      g.S.List.Destruct-dict)).remaining l.lists.items
      ≡ matcher_lists (g.S.Source.part l.source) (take l.matcher-index l.matchers);
  fresh : AllFresh l.lists.items;
}
