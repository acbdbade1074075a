use Rattle.std.proofs.Common.{rules, w64, SFits}
use Rattle.std.proofs.lemmas.Int.{to_z-of_z}
use Rattle.reply_reader.proofs.UsualReplies.{sample_comes}
use Rattle.reply_reader.proofs.usual.sample.Goals as goal

pub returns : goal.returns
returns c =
    let time_fits : SFits w64 c.in_ok-t.t = search rules in
    let value_fits : SFits w64 c.in_ok-v.v = search rules in
    rw (c.new.ensures, to_z-of_z w64 _ time_fits, to_z-of_z w64 _ value_fits)
    (sample_comes c.args.reader.now c.begin_array.new.reader c.integer.new.reader
    c.integer-2.new.reader c.end_array.new.reader c.in_ok-t.t c.in_ok-v.v
    c.in_ok-begin_array.ensures c.in_ok-t.ensures c.in_ok-v.ensures c.in_ok-end_array.ensures)
