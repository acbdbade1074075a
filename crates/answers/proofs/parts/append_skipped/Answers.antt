use Rattle.std.proofs.Common.{◌++◌, ap, sym, ◌∙◌}
use Rattle.std.specs.Prelude.{codes}
use Rattle.json.specs.Print.{quoted}
use Rattle.answers.specs.Body.{name_text}
use Rattle.answers.proofs.Objects.{joined_3, skipped_text}
use Rattle.answers.proofs.parts.append_skipped.Goals as goal

pub returns : goal.returns
returns c =
    let name = c.args.name in
    joined_3 c.args.out.now.items (codes "{\"part\":") (quoted (name_text name))
    (codes ",\"skipped\":true}")
    _ c.append_string.new.out.items _
    c.in_ok-extend_from_slice.ensures.items
    (c.in_ok-append_string.ensures
    ∙ ap (λ s. c.extend_from_slice.new.self.items ++ quoted s) (c.as_str.ensures.value
    ∙ c.in_ok-name.ensures))
    c.in_ok-extend_from_slice-2.ensures.items
    ∙ ap (λ s. c.args.out.now.items ++ s) (sym (skipped_text name))
