use Rattle.std.proofs.Common.{◌≡◌, ◌∙◌, ◌++◌, ◌∷◌, [], List, ℤ, ap, get_or, refl, sym, subst, rules}
use Rattle.std.proofs.Common.{length, ◌≤◌, to_z, of_z}
use Rattle.std.specs.Int.{w64}
use Rattle.std.proofs.lemmas.Int.{to_z-of_z}
use Rattle.tombstones.specs.Order.{begins_by}
use Rattle.tombstones.proofs.Begun.{in_order_by}
use Rattle.tombstones.proofs.Covers.{added, covered_all, deletion, same_deletion}
use Rattle.tombstones.proofs.Reaches.{kept_reaches, ordered_by}
use Rattle.tombstones.proofs.tombstones.Tombstones.add.Goals as goal

pub set_reaches-requires-clause-in_order : goal.set_reaches-requires-clause-in_order
set_reaches-requires-clause-in_order c =
    let x : to_z w64 (of_z w64 c.interval_of-deletion.result.from)
    ≡ c.interval_of-deletion.result.from = search rules in
    in_order_by c.self.inside.deletions.items c.as_slice.result.now c.as_slice-2.result.now
    c.count_begun-place.result c.interval_of-deletion.result c.self.invariant.in_order
    c.as_slice.ensures.value c.count_begun-place.ensures.within (λ k d l. ap (λ (t : ℤ).
    begins_by c.interval_of-deletion.result.reference t (get_or c.as_slice.result.now k d)) (sym x)
    ∙ c.count_begun-place.ensures.begun k d l)
    (λ k d l m. ap (λ (t : ℤ). begins_by c.interval_of-deletion.result.reference t
    (get_or c.as_slice.result.now k d)) (sym x)
    ∙ c.count_begun-place.ensures.not_begun k d l m)
    (c.as_slice-2.ensures.value ∙ c.in_ok-insert.ensures.items)

pub set_reaches-requires-clause-before : goal.set_reaches-requires-clause-before
set_reaches-requires-clause-before c =
    let within =
    subst (λ ds. c.count_begun-place.result ≤ length ds) c.as_slice.ensures.value
    c.count_begun-place.ensures.within in
    kept_reaches c.self.inside.deletions.items c.as_slice-2.result.now c.self.inside.reaches.items
    c.as_mut_slice.result.now c.count_begun-place.result c.interval_of-deletion.result
    (to_z w64 (of_z w64 c.args.to)) c.self.invariant within
    (c.as_slice-2.ensures.value ∙ c.in_ok-insert.ensures.items) (c.as_mut_slice.ensures.value
    ∙ c.in_ok-push.ensures.items
    ∙ ap (λ (xs : List ℤ). xs ++ to_z w64 (of_z w64 c.args.to) ∷ []) c.in_ok-reserve.ensures.items)

pub invariant_of-self-2 : goal.invariant_of-self-2
invariant_of-self-2 c =
    let x : to_z w64 (of_z w64 c.interval_of-deletion.result.from)
    ≡ c.interval_of-deletion.result.from = search rules in
    let count : c.push.new.self.len ≡ length c.insert.new.self.items = search rules in
    ordered_by c.insert.new.self.items c.as_slice-2.result.now _ c.set_reaches.new.reaches _
    c.as_slice-2.ensures.value count
    (in_order_by c.self.inside.deletions.items c.as_slice.result.now c.insert.new.self.items
    c.count_begun-place.result c.interval_of-deletion.result c.self.invariant.in_order
    c.as_slice.ensures.value c.count_begun-place.ensures.within (λ k d l. ap (λ (t : ℤ).
    begins_by c.interval_of-deletion.result.reference t (get_or c.as_slice.result.now k d)) (sym x)
    ∙ c.count_begun-place.ensures.begun k d l)
    (λ k d l m. ap (λ (t : ℤ). begins_by c.interval_of-deletion.result.reference t
    (get_or c.as_slice.result.now k d)) (sym x)
    ∙ c.count_begun-place.ensures.not_begun k d l m) c.in_ok-insert.ensures.items)
    c.set_reaches.ensures.each c.set_reaches.ensures.all

pub returns-clause-all : goal.returns-clause-all
returns-clause-all c =
    let same =
    same_deletion c.args.reference c.args.reference _ _ c.args.from c.args.to refl
    (to_z-of_z w64 c.args.from c.ranges.from) (to_z-of_z w64 c.args.to c.ranges.to) in
    added c.self.inside.deletions.items c.args.self.now c.insert.new.self.items
    c.count_begun-place.result c.interval_of-deletion.result (deletion c.args.reference c.args.from
    c.args.to) (c.interval_of-deletion.ensures ∙ same) c.self.view_is c.in_ok-insert.ensures.items

pub returns-clause-ok : goal.returns-clause-ok
returns-clause-ok c r t =
    let same =
    same_deletion c.args.reference c.args.reference _ _ c.args.from c.args.to refl
    (to_z-of_z w64 c.args.from c.ranges.from) (to_z-of_z w64 c.args.to c.ranges.to) in
    covered_all _ c.insert.new.self.items r t (added c.self.inside.deletions.items c.args.self.now
    c.insert.new.self.items c.count_begun-place.result c.interval_of-deletion.result
    (deletion c.args.reference c.args.from c.args.to) (c.interval_of-deletion.ensures
    ∙ same) c.self.view_is c.in_ok-insert.ensures.items)
