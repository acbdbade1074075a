use Rattle.std.proofs.Common.{List, Vec, Global, [], ◌∷◌, ap, ◌∙◌}
use Rattle.std.proofs.lemmas.List.{map-append}
use Rattle.labels.specs.Rows.{Row}
use Rattle.block_outputs.specs.Joined.{lists_in}
use Rattle.blocktool.proofs.Given.{given_more}
use Rattle.blocktool.proofs.conversion.rows_of_all.Goals as goal

pub loop-input-preserved : goal.loop-input-preserved
loop-input-preserved g c =
    let l = c.loop-input in
    let pushed =
    ap (λ (ls : List (Vec Row Global)). lists_in ls) c.in_ok-push.ensures.items
    ∙ map-append (λ (v : Vec Row Global). v.items) l.lists.items (c.in_ok-rows.rows ∷ []) in
    given_more g.I.Input.may_give c.args.inputs.now l.input-index c.input-item.result c.args.times
    (lists_in l.lists.items) (lists_in c.push.new.self.items) c.in_ok-rows.rows.items _ _ _
    c.loop-input-test.true c.input-item.is pushed l.invariant c.in_ok-rows.ensures
