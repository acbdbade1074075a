use Rattle.std.proofs.Common.{refl, ap, length, arith}
use Rattle.remote_http.proofs.Fillings.{filled_anew, filled_more, row_fits}
use Rattle.remote_http.proofs.parts.add_short.Goals as goal

pub returns-then-count-room-clause-filled : goal.returns-then-count-room-clause-filled
returns-then-count-room-clause-filled c =
    filled_anew c.args.parts.now.items c.end_part.new.parts.items c.args.rows.now.items c.end_part.new.rows.items
    c.push.new.self.items c.args.row c.in_ok-end_part.ensures.parts c.end_part.ensures.rows c.in_ok-push.ensures.items

pub returns-clause-room : goal.returns-clause-room
returns-clause-room c =
    rw c.samples-count.ensures
    (row_fits c.args.rows.now.items c.push-2.new.self.items c.args.room c.args.row c.in_ok-push-2.ensures.items c.requires.room
    (omega (arith, ap length c.samples-count.ensures)) c.requires.timed)

pub returns-clause-filled : goal.returns-clause-filled
returns-clause-filled c =
    filled_more c.args.parts.now.items c.args.parts.now.items c.args.rows.now.items c.push-2.new.self.items c.args.row refl
    c.in_ok-push-2.ensures.items
