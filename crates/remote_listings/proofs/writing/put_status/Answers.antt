use Rattle.std.proofs.lemmas.Result.{on_ok_weaker}
use Rattle.json.specs.Token.{begin_object}
use Rattle.remote_listings.proofs.Written.{then_adds}
use Rattle.remote_listings.proofs.writing.put_status.Goals as goal

pub returns : goal.returns
returns c =
    on_ok_weaker c.put_pair.result
    (λ m. then_adds c.args.out.now c.begin_object.new.self c.put_pair.new.out begin_object _
    c.in_ok-begin_object.ensures.room.0 c.in_ok-begin_object.ensures.ok m)
    c.put_pair.ensures
