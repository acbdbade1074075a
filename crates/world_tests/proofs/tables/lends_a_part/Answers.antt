use Rattle.world_tests.proofs.tables.lends_a_part.Goals as goal

pub returns : goal.returns
returns g c = g.met.S.Source.is_part c.args.source.now
