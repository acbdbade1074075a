use Rattle.std.proofs.Common.{rules, ◌≡◌, ◌+◌, ◌++◌, [], ◌∷◌, to_z, of_z, w64, ap, sym, ◌∙◌, arith}
use Rattle.labels.specs.Rows.{Row}
use Rattle.labels.specs.Parts.{row_at, labels_in, samples_within}
use Rattle.head.specs.Heads.{head_part}
use Rattle.head.specs.Shown.{series_of}
use Rattle.history.proofs.Listing.{AreListed, listed_step, listed_all}
use Rattle.history.proofs.walk.list_head.Goals as goal

pub loop-labels-preserved : goal.loop-labels-preserved
loop-labels-preserved c =
    let q = c.args.query.now in
    let hs = series_of c.args.head.now in
    let r = c.new-reference.result in
    let from_is : to_z w64 (of_z w64 c.from.result) ≡ q.from =
    search rules ∙ c.from.ensures.value in
    let to_is : to_z w64 (of_z w64 c.to.result) ≡ q.to = search rules ∙ c.to.ensures in
    let one : c.new.result ≡ r = c.new.ensures ∙ sym c.new-reference.ensures in
    listed_step q hs c.loop-labels.number r c.in-Some.labels.now c.in_ok-try_clone.field-0
    c.in_ok-samples.samples.items c.loop-labels.part.items c.push.new.self.items
    c.new-reference.ensures
    (ap (λ x. labels_in (row_at x (head_part hs))) (sym one) ∙ c.in-Some.ensures.some)
    c.in_ok-try_clone.ensures
    (c.in_ok-samples.ensures
    ∙ (λ i. samples_within (from_is i) (to_is i) (row_at r (head_part hs))))
    (c.in_ok-push.ensures.items
    ∙ ap (λ (row : Row). c.loop-labels.part.items ++ (r, row) ∷ []) c.new-in-Some.ensures)
    c.loop-labels.invariant

pub loop-labels-smaller : goal.loop-labels-smaller
loop-labels-smaller c =
    let q = c.args.query.now in
    let hs = series_of c.args.head.now in
    let r = c.new-reference.result in
    let from_is : to_z w64 (of_z w64 c.from.result) ≡ q.from =
    search rules ∙ c.from.ensures.value in
    let to_is : to_z w64 (of_z w64 c.to.result) ≡ q.to = search rules ∙ c.to.ensures in
    let one : c.new.result ≡ r = c.new.ensures ∙ sym c.new-reference.ensures in
    let next : AreListed q hs (c.loop-labels.number + 1) c.push.new.self.items = listed_step q hs
    c.loop-labels.number r c.in-Some.labels.now c.in_ok-try_clone.field-0
    c.in_ok-samples.samples.items c.loop-labels.part.items c.push.new.self.items
    c.new-reference.ensures
    (ap (λ x. labels_in (row_at x (head_part hs))) (sym one) ∙ c.in-Some.ensures.some)
    c.in_ok-try_clone.ensures
    (c.in_ok-samples.ensures
    ∙ (λ i. samples_within (from_is i) (to_is i) (row_at r (head_part hs))))
    (c.in_ok-push.ensures.items
    ∙ ap (λ (row : Row). c.loop-labels.part.items ++ (r, row) ∷ []) c.new-in-Some.ensures)
    c.loop-labels.invariant in
    let upto = next.upto in
    omega arith

pub returns : goal.returns
returns c =
    listed_all c.args.query.now (series_of c.args.head.now) c.loop-labels.number c.new.result
    c.loop-labels.part.items c.new.ensures c.in_default.ensures.none c.loop-labels.invariant
