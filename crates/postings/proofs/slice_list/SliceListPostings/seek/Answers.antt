use Rattle.labels.proofs.Lists.{tail_range, drop-not_below}
use Rattle.std.proofs.Common.{◌∙◌}
use Rattle.postings.proofs.slice_list.SliceListPostings.seek.Goals as goal

pub returns : goal.returns
returns c = tail_range c.args.self.now.rest.now c.count_below-below.result ∙ drop-not_below c.args.self.now.rest.now c.args.target c.count_below-below.result c.args.self.now.increasing c.count_below-below.ensures.within c.count_below-below.ensures.below c.count_below-below.ensures.above
