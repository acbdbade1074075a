use Rattle.std.proofs.Common.{arith}
use Rattle.index_reader.proofs.BothParts.{joined_in, joined_are, joined_references}
use Rattle.index_reader.proofs.joining.joined.Goals as goal

pub invariant_of-result : goal.invariant_of-result
invariant_of-result c =
    let front = c.args.front in
    let back = c.args.back in
    record {
      inside =
          joined_in front.labels.items back.labels.items c.append.new.self.items front.chunks.items
          back.chunks.items c.append-2.new.self.items front.series.items back.series.items
          c.add_moved.new.series.items c.len-label_count.result c.len-chunk_count.result front.inside
          back.inside (omega arith) (omega arith) c.in_ok-append.ensures.items c.in_ok-append-2.ensures.items
          (rw c.deref.ensures.value at c.in_ok-add_moved.ensures);
    }

pub returns-clause-bodies : goal.returns-clause-bodies
returns-clause-bodies c =
    let front = c.args.front in
    let back = c.args.back in
    joined_are front.labels.items back.labels.items c.append.new.self.items front.chunks.items
    back.chunks.items c.append-2.new.self.items front.series.items back.series.items
    c.add_moved.new.series.items c.len-label_count.result c.len-chunk_count.result front.inside
    (omega arith) (omega arith) c.in_ok-append.ensures.items c.in_ok-append-2.ensures.items
    (rw c.deref.ensures.value at c.in_ok-add_moved.ensures)

pub returns-clause-referred : goal.returns-clause-referred
returns-clause-referred c =
    joined_references c.args.front.series.items c.args.back.series.items
    c.add_moved.new.series.items _ _ (rw c.deref.ensures.value at c.in_ok-add_moved.ensures)
