use Rattle.std.proofs.Common.{map, arith, rules}
use Rattle.std.proofs.lemmas.List.{length-map}
use Rattle.remote_read.specs.Reading.{matcher_seen}
use Rattle.remote_requests.specs.Queries.{IsMatcherOf}
use Rattle.remote_requests.proofs.Lists.{zip_length}
use Rattle.remote_requests.proofs.reads.reading_of.Goals as goal

pub query_over-requires : goal.query_over-requires
query_over-requires c =
    let each = rw c.as_slice.ensures.value at c.in_ok-matchers.ensures in
    let many = zip_length IsMatcherOf (map matcher_seen c.args.sent.now.matchers.items)
    c.in_ok-matchers.matchers.items each in
    let sent = length-map c.args.sent.now.matchers.items matcher_seen in
    omega (arith, many, sent, c.len.ensures, c.if-len-gt-MAX_MATCHERS.false)

pub returns : goal.returns
returns c =
    let each = rw c.as_slice.ensures.value at c.in_ok-matchers.ensures in
    let sent = length-map c.args.sent.now.matchers.items matcher_seen in
    record {
      matchers = c.in_ok-matchers.matchers.items;
      each = each;
      few = omega (arith, sent, c.len.ensures, c.if-len-gt-MAX_MATCHERS.false);
      query = search rules;
      names = search rules;
    }
