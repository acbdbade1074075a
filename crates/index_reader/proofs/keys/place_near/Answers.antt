use Rattle.std.proofs.Common.{sym, ◌∙◌}
use Rattle.index_reader.specs.Lookups.{key_cmp}
use Rattle.index_reader.proofs.Searching.{keys_total, strict_from_rises, search_found}
use Rattle.index_reader.proofs.keys.place_near.Goals.{in-Equal, in_default}
use Rattle.index_reader.proofs.keys.place_near.Goals as goal

pub returns-then-matches-clause-exact : goal.returns-then-matches-clause-exact
returns-then-matches-clause-exact c =
    elim c.match-matches.branch [
      | in-Equal w ↦
          sym (search_found key_cmp keys_total c.args.keys.now.pairs.items c.args.key _ _
          (strict_from_rises key_cmp keys_total c.args.keys.now.pairs.items c.args.keys.now.rising)
          c.pair_at.ensures (sym c.key_cmp.ensures ∙ w.in-Equal.is))
      | in_default w ↦ absurd (let e = w.matches-is in let f = c.if-matches.true in cc)
    ]
