use Rattle.std.proofs.Common.{subst}
use Rattle.std.proofs.lemmas.Result.{err_from_is_err_and}
use Rattle.index_reader.specs.Seen.{bytes_of, entries_seen}
use Rattle.index_reader.specs.Shared.{AreBodiesOf}
use Rattle.index_reader.proofs.BothParts.{fail_early, fail_late, are_both, seen_both}
use Rattle.index_reader.proofs.sharing.+halves.Goals as goal

pub returns-in_err-front : goal.returns-in_err-front
returns-in_err-front g t c =
    let symbols = bytes_of c.args.symbols.now.texts.items in
    let early = entries_seen c.split_at.result.0.now in
    let late = entries_seen c.split_at.result.1.now in
    let p = err_from_is_err_and c.from_residual.result c.from_residual.ensures.1 in
    rw (p.1, p.2) (fail_early symbols (entries_seen c.args.entries.now) early late _
    (seen_both c.args.entries.now c.split_at.result.0.now c.split_at.result.1.now _
    c.split_at.ensures.front c.split_at.ensures.back)
    (subst (AreBodiesOf symbols early) c.in_err-front.was c.join-of_early.ensures.first))

pub returns-in_err-back : goal.returns-in_err-back
returns-in_err-back g t c =
    let symbols = bytes_of c.args.symbols.now.texts.items in
    let early = entries_seen c.split_at.result.0.now in
    let late = entries_seen c.split_at.result.1.now in
    let p =
    err_from_is_err_and c.from_residual-in_err-back.result c.from_residual-in_err-back.ensures.1 in
    rw (p.1, p.2) (fail_late symbols (entries_seen c.args.entries.now) early late _ _
    (seen_both c.args.entries.now c.split_at.result.0.now c.split_at.result.1.now _
    c.split_at.ensures.front c.split_at.ensures.back)
    (subst (AreBodiesOf symbols early) c.in_ok-front.was c.join-of_early.ensures.first)
    (subst (AreBodiesOf symbols late) c.in_err-back.was c.join-of_early.ensures.second))

pub returns : goal.returns
returns g t c =
    let symbols = bytes_of c.args.symbols.now.texts.items in
    let early = entries_seen c.split_at.result.0.now in
    let late = entries_seen c.split_at.result.1.now in
    are_both symbols (entries_seen c.args.entries.now) early late _ _ _
    (seen_both c.args.entries.now c.split_at.result.0.now c.split_at.result.1.now _
    c.split_at.ensures.front c.split_at.ensures.back)
    (subst (AreBodiesOf symbols early) c.in_ok-front.was c.join-of_early.ensures.first)
    (subst (AreBodiesOf symbols late) c.in_ok-back.was c.join-of_early.ensures.second)
    c.in_ok-bodies.ensures.bodies c.in_ok-bodies.ensures.referred
