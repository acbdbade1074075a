use Rattle.std.proofs.Common.{◌∷◌, [], ◌++◌, ap, ◌∙◌}
use Rattle.std.specs.Prelude.{codes}
use Rattle.answers.specs.Body.{json_list, natural}
use Rattle.answers.proofs.Objects.{joined_3}
use Rattle.answers.proofs.parts.append_searched_back.Goals as goal

pub returns : goal.returns
returns c =
    joined_3 c.args.out.now.items (codes ",\"separators\":")
    (json_list natural c.args.answer.now.cover.separators.items) (125 ∷ [])
    _ c.append_references.new.out.items _
    c.in_ok-extend_from_slice.ensures.items
    (c.in_ok-append_references.ensures
    ∙ ap (λ xs. c.extend_from_slice.new.self.items ++ json_list natural xs)
    c.as_slice.ensures.value)
    c.in_ok-push.ensures.items
