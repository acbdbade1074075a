use Rattle.std.proofs.Common.{arith}
use Rattle.store_folder.proofs.Found.{read_found, read_past}
use Rattle.store_folder.proofs.writing.found_at.Goals as goal

pub returns-then-at-found : goal.returns-then-at-found
returns-then-at-found c = read_past c.args.found.now c.args.at (omega arith)

pub returns : goal.returns
returns c =
    read_found c.args.found.now c.args.at c.index-found-at.result c.index-found-at.result
    (omega arith) c.index-found-at.is
