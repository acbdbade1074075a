use Rattle.pages.proofs.Tops.{first_of}
use Rattle.pages.proofs.list.PagedList.get.Goals as goal

pub returns-then-i-len-clause-some : goal.returns-then-i-len-clause-some
returns-then-i-len-clause-some g c =
    first_of g.E.Entry.item c.leaf_from.result.now c.args.self.now c.args.i c.index-leaf_from-0.result c.leaf_from.ensures.some c.leaf_from.ensures.prefix c.index-leaf_from-0.is
