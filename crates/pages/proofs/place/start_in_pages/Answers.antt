use Rattle.std.proofs.Common.{◌≡◌, ◌<◌, length, arith}
use Rattle.pages.specs.Pages.{leaf_list}
use Rattle.pages.proofs.Inserts.{page_len}
use Rattle.pages.proofs.Counts.{count_next, count_fits}
use Rattle.pages.proofs.place.start_in_pages.Goals as goal

pub overflow_add-count : goal.overflow_add-count
overflow_add-count g c =
    let l = c.loop-k in
    let within : l.k < length c.args.pages.now = omega (arith, c.loop-k-test.true, c.requires.within) in
    let len : c.len-count.result ≡ length (leaf_list g.E.Entry.item c.index-pages-k.result) = page_len g.E.Entry.item c.index-pages-k.result c.deref.result.now c.len-count.result c.deref.ensures c.len-count.ensures in
    omega (arith, count_fits (leaf_list g.E.Entry.item) c.args.pages.now l.k c.index-pages-k.result c.len-count.result within c.index-pages-k.is len, l.invariant.counted, c.requires.few)

pub loop-k-preserved : goal.loop-k-preserved
loop-k-preserved g c =
    let l = c.loop-k in
    let within : l.k < length c.args.pages.now = omega (arith, c.loop-k-test.true, c.requires.within) in
    let len : c.len-count.result ≡ length (leaf_list g.E.Entry.item c.index-pages-k.result) = page_len g.E.Entry.item c.index-pages-k.result c.deref.result.now c.len-count.result c.deref.ensures c.len-count.ensures in
    record {
      within = omega (arith, c.loop-k-test.true);
      counted = omega (arith, count_next (leaf_list g.E.Entry.item) c.args.pages.now l.k c.index-pages-k.result c.len-count.result within c.index-pages-k.is len, l.invariant.counted);
    }
