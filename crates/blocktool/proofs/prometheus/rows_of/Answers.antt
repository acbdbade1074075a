use Rattle.std.proofs.Common.{refl, rules}
use Rattle.std.specs.Int.{w64}
use Rattle.std.proofs.lemmas.Int.{to_z-of_z}
use Rattle.blocktool.proofs.Wanted.{given_by}
use Rattle.blocktool.proofs.prometheus.rows_of.Goals as goal

pub returns-in-Ok : goal.returns-in-Ok
returns-in-Ok g c =
    let source = c.args.source.now in
    given_by _ source.index source.tombstones source.form c.args.times _ _ _ _
    c.in-Ok.ensures.found
    (record {
      index_is = refl;
      deletions_are = refl;
      form_is = refl;
      from = to_z-of_z w64 c.args.times.from (search rules);
      to = to_z-of_z w64 c.args.times.to (search rules);
    })
