use Rattle.pages.proofs.Tops.{first_at}
use Rattle.pages.proofs.list.PagedList.at.Goals as goal

pub returns : goal.returns
returns g c =
    first_at g.E.Entry.item c.leaf_from.result.now c.args.self.now c.args.i c.index-leaf_from-0.result c.leaf_from.ensures.some c.leaf_from.ensures.prefix c.index-leaf_from-0.is
