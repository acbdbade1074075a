use Rattle.std.proofs.Common.{◌++◌, ◌<◌, take, length, arith, sym, ap, ◌∙◌}
use Rattle.std.proofs.Math.Seq.{drop-cons}
use Rattle.std.proofs.lemmas.List.{set_split}
use Rattle.answers.specs.AfterCommas.{with_bracket}
use Rattle.answers.proofs.brackets.open_list.Goals as goal

pub returns : goal.returns
returns c =
    let xs = c.args.out.now.items in
    let within : c.args.start < length xs =
    omega (arith, c.requires, c.if-start-len.false, c.len.ensures) in
    set_split xs c.args.start c.args.first within
    ∙ ap (λ s. take c.args.start xs ++ with_bracket c.args.first s)
    (sym (drop-cons xs c.args.start 0 within))
