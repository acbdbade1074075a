use Rattle.std.proofs.Common.{◌≡◌, refl, ap, ◌∙◌}
use Rattle.labels.specs.Pairs.{texts_of}
use Rattle.requests.proofs.UsualTexts.{row_comes}
use Rattle.requests.proofs.usual.row.Goals as goal

pub returns : goal.returns
returns c =
    let made = c.in_ok-read_pairs.ensures.labels in
    let pairs = texts_of c.read_pairs.new.pairs.items in
    let samples = c.in_ok-samples.samples.items in
    let copied : c.in_ok-labels.labels ≡ pairs = c.in_ok-labels.ensures
    ∙ ap texts_of c.as_slice.ensures.value in (
      (pairs, samples),
      row_comes c.args.reader.now c.begin_object.new.reader c.key.new.reader c.read_pairs.new.reader
          c.key-2.new.reader c.samples.new.reader c.end_object.new.reader pairs samples
          c.in_ok-begin_object.ensures c.in_ok-key.ensures c.in_ok-read_pairs.ensures.comes
          c.in_ok-key-2.ensures c.in_ok-samples.ensures c.in_ok-end_object.ensures made.0,
      rw (c.new.ensures, copied) (record { labels = made.1; samples = refl }),
    )
