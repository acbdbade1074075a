use Rattle.std.proofs.Common.{◌≡◌, ℕ, ◌<◌, List, length, Err, sym, ap, ◌∙◌, subst, arith}
use Rattle.std.specs.Borrow.{Bor}
use Rattle.std.proofs.lemmas.List.{map-set}
use Rattle.index_reader.specs.declared.error.IndexError.TheVariants.{PostingsDisagree}
use Rattle.index_reader.specs.References.{references_in}
use Rattle.index_reader.specs.Seen.{references_in_each}
use Rattle.index_reader.specs.Reading.Walk.{Rests, take_reference}
use Rattle.index_reader.proofs.Draining.{rest_at}
use Rattle.index_reader.proofs.Taken.{beside, walked, taken_none, taken_other, taken_first}
use Rattle.index_reader.proofs.agreement.Rests.take_reference.Goals as goal

pub returns-in_default : goal.returns-in_default
returns-in_default c =
    let x = c.self.inside in
    let xs = x.lists.items in
    let rests = beside x.keys.pairs.items (references_in_each xs) in
    let inside : c.args.place < length xs =
    omega (arith, c.self.invariant, ap (λ (r : Rests). length r.keys) c.self.view_is) in
    subst (λ (r : Rests). take_reference c.args.reference r c.args.place ≡ Err PostingsDisagree)
    c.self.view_is (taken_none c.args.reference rests c.args.place
    (rest_at xs c.args.place c.index-list.result.now inside c.index-list.ensures
    ∙ c.in_default.ensures))

pub returns-then-first-reference : goal.returns-then-first-reference
returns-then-first-reference c =
    let x = c.self.inside in
    let xs = x.lists.items in
    let rests = beside x.keys.pairs.items (references_in_each xs) in
    let inside : c.args.place < length xs =
    omega (arith, c.self.invariant, ap (λ (r : Rests). length r.keys) c.self.view_is) in
    subst (λ (r : Rests). take_reference c.args.reference r c.args.place ≡ Err PostingsDisagree)
    c.self.view_is (taken_other c.args.reference rests c.args.place c.in-Some.first
    (references_in c.in-Some.after.now)
    (rest_at xs c.args.place c.index-list.result.now inside c.index-list.ensures
    ∙ c.in-Some.ensures) c.if-first-reference.true)

pub returns : goal.returns
returns c =
    let x = c.self.inside in
    let xs = x.lists.items in
    let rests = beside x.keys.pairs.items (references_in_each xs) in
    let inside : c.args.place < length xs =
    omega (arith, c.self.invariant, ap (λ (r : Rests). length r.keys) c.self.view_is) in
    ap (λ (r : Rests). take_reference c.args.reference r c.args.place) (sym c.self.view_is)
    ∙ taken_first c.args.reference rests c.args.place c.in-Some.first
    (references_in c.in-Some.after.now)
    (rest_at xs c.args.place c.index-list.result.now inside c.index-list.ensures
    ∙ c.in-Some.ensures) c.if-first-reference.false
    ∙ ap (λ (ys : List (List ℕ)). walked x.keys.pairs.items ys)
    (sym (map-set (λ (y : Bor (List ℕ)). references_in y.now) xs c.args.place c.in-Some.after))
