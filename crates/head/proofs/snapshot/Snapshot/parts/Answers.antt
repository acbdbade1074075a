use Rattle.std.proofs.Common.{◌≡◌, ◌++◌, ◌-◌, ◌+◌, ◌∙◌, [], ◌∷◌, ap, sym, map, length, length-append, arith, rules}
use Rattle.std.specs.Arc.{arc_value}
use Rattle.std.proofs.lemmas.List.{length-map}
use Rattle.postings.specs.declared.part_name.PartName.TheVariants.{Head}
use Rattle.head.specs.Blocks.{block_names, part_in}
use Rattle.head.proofs.BlockNaming.{next_name, length-block_names}
use Rattle.head.proofs.snapshot.Snapshot.parts.Goals as goal

pub loop-n-preserved : goal.loop-n-preserved
loop-n-preserved c =
    ap (λ ns. ns ++ block_names (c.loop-n.n + 1) (c.len-n-end.result - (c.loop-n.n + 1))) c.in_ok-push.ensures.items
    ∙ next_name c.loop-n.names.items c.loop-n.n c.len-n-end.result c.loop-n-test.true
    ∙ c.loop-n.invariant

pub returns-clause-few : goal.returns-clause-few
returns-clause-few c =
    let names = c.loop-n.names.items in
    let n = c.loop-n.n in
    let end = c.len-n-end.result in
    let left : length names + (end - n) ≡ end =
    ap (λ m. length names + m) (sym (length-block_names n (end - n))) ∙ sym (length-append names (block_names n (end - n)))
    ∙ ap length c.loop-n.invariant ∙ length-block_names 0 end in
    let pushed : length c.push-2.new.self.items ≡ length names + 1 = ap length c.in_ok-push-2.ensures.items ∙ length-append names (Head ∷ []) in
    let counted : end ≡ length (arc_value c.self.inside.blocks).items = search (rules, c.len-n-end.ensures, c.deref.ensures) in
    let shown : length (map part_in (arc_value c.self.inside.blocks).items) ≡ end = length-map (arc_value c.self.inside.blocks).items part_in ∙ sym counted in
    omega (arith, left, pushed, shown, c.self.invariant.few)
