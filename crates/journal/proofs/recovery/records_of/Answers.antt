use Rattle.std.proofs.Common.{◌≡◌, List, [], ◌∷◌, ◌++◌, ℕ, sym, ap, ◌∙◌, subst, arith, rules}
use Rattle.journal.specs.Contents.{contents_in}
use Rattle.journal.proofs.Loops.{Reads, begun, contents_last, one_more, shorter}
use Rattle.journal.proofs.recovery.records_of.Goals as goal

pub records-init : goal.records-init
records-init c = begun c.args.bytes.now c.new-contents.result.items c.new-contents.ensures.items
    (λ i. omega (arith, c.type_inv.bytes i))

pub records-smaller : goal.records-smaller
records-smaller c =
    shorter c.records.rest.now (c.in-Ok.content.now, c.in-Ok.after.now) c.records.invariant.fits c.in-Ok.ensures

pub records-preserved : goal.records-preserved
records-preserved c =
    let v = c.in_ok-to_vec-in-Ok.field-0 in
    let same : v.items ≡ c.in-Ok.content.now = search rules in
    let all = contents_in c.records.contents.items in
    let e : contents_in c.push.new.self.items ≡ all ++ c.in-Ok.content.now ∷ [] =
    ap contents_in c.in_ok-push-in-Ok.ensures.items
    ∙ (contents_last c.records.contents.items v ∙ ap (λ (x : List ℕ). all ++ x ∷ []) same) in
    subst (λ (r : List (List ℕ)). Reads c.args.bytes.now r c.in-Ok.after.now) (sym e)
    (one_more c.args.bytes.now all c.records.rest.now c.in-Ok.content.now c.in-Ok.after.now
    c.records.invariant c.in-Ok.ensures)
