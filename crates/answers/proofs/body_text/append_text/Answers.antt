use Rattle.std.proofs.Common.{◌++◌, ap, ◌∙◌}
use Rattle.std.specs.Prelude.{codes}
use Rattle.answers.specs.Joined.{joined}
use Rattle.answers.specs.Kept.{again_in}
use Rattle.answers.proofs.Objects.{joined_3}
use Rattle.answers.proofs.body_text.append_text.Goals as goal

pub returns : goal.returns
returns c =
    let text = c.args.text.now in
    joined_3 c.args.out.now.items (joined text.pieces.items) (again_in text) (codes "}")
    _ _ _
    (c.in_ok-append_pieces.ensures
    ∙ ap (λ pieces. c.args.out.now.items ++ joined pieces) c.first.ensures)
    (c.in_ok-append_pieces-2.ensures
    ∙ ap (λ pieces. c.append_pieces.new.out.items ++ joined pieces) c.again.ensures)
    c.in_ok-push.ensures.items
