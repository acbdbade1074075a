use Rattle.std.proofs.Common.{subst}
use Rattle.index_reader.specs.Outcome.{Gives}
use Rattle.index_reader.specs.Seen.{table_seen, bytes_of, strings_of}
use Rattle.index_reader.specs.CheckedFile.{carriers_seen}
use Rattle.index_reader.proofs.Taken.{used_up_is}
use Rattle.index_reader.proofs.agreement.check_agreement.Goals as goal

pub returns : goal.returns
returns c =
    subst (λ read. Gives (λ v. v.pairs.items) c.use_up_lists.result read)
    (used_up_is (strings_of c.args.symbols.now.texts.items)
    (table_seen c.args.table.now.entries.items) (bytes_of c.args.table.now.lists.items)
    (carriers_seen c.args.bodies.now)) c.use_up_lists.ensures
