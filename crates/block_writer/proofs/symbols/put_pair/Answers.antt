use Rattle.block_writer.proofs.Found.{pushed_unless}
use Rattle.block_writer.proofs.symbols.put_pair.Goals as goal

pub returns-then-known-clause-typed : goal.returns-then-known-clause-typed
returns-then-known-clause-typed c = (c.utf8.name, c.utf8.value)

pub returns-clause-text : goal.returns-clause-text
returns-clause-text c =
    pushed_unless c.args.known c.args.found.now.items c.push.new.self.items
    (c.args.name, c.args.value) c.if-known.false c.in_ok-push.ensures.items

pub returns-clause-typed : goal.returns-clause-typed
returns-clause-typed c = (c.utf8.name, c.utf8.value)
