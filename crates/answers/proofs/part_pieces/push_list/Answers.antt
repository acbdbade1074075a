use Rattle.std.proofs.Common.{◌∷◌}
use Rattle.std.proofs.lemmas.Result.{on_ok_weaker}
use Rattle.serde_json.specs.Written.{compact_text}
use Rattle.answers.specs.Body.{part_data}
use Rattle.answers.specs.Joined.{joined}
use Rattle.answers.proofs.Runs.{list_more, pieces_more}
use Rattle.answers.proofs.part_pieces.push_list.Goals as goal

pub returns : goal.returns
returns g c =
    let pieces = c.args.pieces.now.items in
    let one = c.in-Some.one.now in
    on_ok_weaker c.push_text-2.result
    (λ last. list_more (joined pieces) (joined c.append.new.self.items)
    (joined c.push_parts.new.pieces.items) _ one c.in-Some.later.now c.args.parts.now
    c.in-Some.ensures.cases.0
    (pieces_more pieces c.in_ok-more.more.items c.append.new.self.items
    (91 ∷ compact_text (part_data one)) c.in_ok-append.ensures.items c.in_ok-more.ensures)
    c.in_ok-push_parts.ensures last)
    c.push_text-2.ensures
