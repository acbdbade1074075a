use Rattle.std.proofs.Common.{ℕ, List, [], ◌∷◌, ◌++◌, length, ap, ◌∙◌, arith}
use Rattle.std.proofs.lemmas.Result.{err_from_is_err_and}
use Rattle.index_reader.specs.References.{references_in}
use Rattle.index_reader.proofs.Holding.{all_grown, lists_grown, lists_added, all_added}
use Rattle.index_reader.proofs.lists.Lists.push.Goals as goal

pub invariant_of-self-in_err-push : goal.invariant_of-self-in_err-push
invariant_of-self-in_err-push c =
    rw (c.in_err-push.ensures.items, c.in_ok-extend_from_slice.ensures.items)
    (all_grown _ _ _ c.self.invariant)

pub returns-in_err-push-clause-err : goal.returns-in_err-push-clause-err
returns-in_err-push-clause-err c =
    let p =
    err_from_is_err_and c.from_residual-in_err-push.result c.from_residual-in_err-push.ensures.1 in
    rw (p.1, c.in_err-push.ensures.items, c.in_ok-extend_from_slice.ensures.items)
    (lists_grown _ _ _ c.self.invariant ∙ c.self.view_is)

pub invariant_of-self-2 : goal.invariant_of-self-2
invariant_of-self-2 c =
    rw (c.in_ok-push.ensures.items, c.in_ok-extend_from_slice.ensures.items)
    (all_added c.self.inside.bytes.items c.args.list.now c.self.inside.spans.items _
    c.self.invariant c.requires.whole c.requires.increasing (omega arith)
    (omega (arith, ap length c.in_ok-extend_from_slice.ensures.items)))

pub returns-clause-ok : goal.returns-clause-ok
returns-clause-ok c =
    rw (c.in_ok-push.ensures.items, c.in_ok-extend_from_slice.ensures.items)
    (lists_added c.self.inside.bytes.items c.args.list.now c.self.inside.spans.items _
    c.self.invariant (omega arith)
    (omega (arith, ap length c.in_ok-extend_from_slice.ensures.items))
    ∙ ap (λ (ls : List (List ℕ)). ls ++ references_in c.args.list.now ∷ []) c.self.view_is)
