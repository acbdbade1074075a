use Rattle.std.proofs.Common.{rules, ◌∙◌}
use Rattle.remote_requests.proofs.HeadLaws.{fields_few}
use Rattle.remote_requests.proofs.head.head_of.Goals as goal

pub returns : goal.returns
returns c =
    let found = c.requires.parsed in (
      found.0,
      record {
        reads = found.1.reads;
        within = search rules;
        few =
            fields_few c.args.buf.now c.args.headers.now c.args.spans.headers found.0.fields found.1.fields
            (search rules);
        claims = search rules;
        target = c.of-target.ensures ∙ found.1.path;
        path = search rules;
        length = search rules;
        form = search rules;
      },
    )
