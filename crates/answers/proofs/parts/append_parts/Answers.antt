use Rattle.std.proofs.Common.{◌∙◌, arith}
use Rattle.std.proofs.lemmas.Result.{on_ok_weaker}
use Rattle.answers.specs.Body.{part_data}
use Rattle.answers.proofs.Lists.{listed}
use Rattle.answers.proofs.parts.append_parts.Goals as goal

pub returns : goal.returns
returns c =
    on_ok_weaker c.close_list.result
    (λ e. e
    ∙ listed part_data c.args.parts.now c.args.out.now.items
    c.append_parts_after_commas.new.out.items c.len-start.result (omega (
      arith,
      c.len-start.ensures,
    )) c.in_ok-append_parts_after_commas.ensures) c.close_list.ensures
