use Rattle.std.proofs.Common.{◌≡◌, ◌∙◌, ap, arith, rules, ◌-◌, to_z, of_z, w64, get_or, pos}
use Rattle.std.specs.Prelude.{int_le}
use Rattle.tombstones.specs.Covering.{covered}
use Rattle.tombstones.proofs.Reaches.{decided, none_of_it, undecided}
use Rattle.tombstones.proofs.tombstones.is_covered.Goals as goal

pub returns-then-begun-eq0 : goal.returns-then-begun-eq0
returns-then-begun-eq0 c =
    let x : to_z w64 (of_z w64 c.args.t) ≡ c.args.t = search rules in
    undecided c.args.deletions.now c.args.reference (to_z w64 (of_z w64 c.args.t)) (λ k d le lt.
    c.count_begun-begun.ensures.not_begun k d (omega arith) lt)
    ∙ ap (covered c.args.deletions.now c.args.reference) x

pub returns-then-deletions-begun : goal.returns-then-deletions-begun
returns-then-deletions-begun c =
    let last = c.count_begun-begun.result - 1 in
    let t = to_z w64 (of_z w64 c.args.t) in
    let x : to_z w64 (of_z w64 c.args.t) ≡ c.args.t = search rules in
    let y : to_z w64 (of_z w64 (get_or c.args.reaches.now last (pos 0)))
    ≡ get_or c.args.reaches.now last (pos 0) = search rules in
    ap (int_le t) y
    ∙ decided c.args.deletions.now c.args.reaches.now c.count_begun-begun.result c.args.reference t
    c.requires (omega arith) c.count_begun-begun.ensures.within c.count_begun-begun.ensures.begun
    c.count_begun-begun.ensures.not_begun c.if-deletions-begun.true
    ∙ ap (covered c.args.deletions.now c.args.reference) x

pub returns-else-deletions-begun : goal.returns-else-deletions-begun
returns-else-deletions-begun c =
    let x : to_z w64 (of_z w64 c.args.t) ≡ c.args.t = search rules in
    none_of_it c.args.deletions.now c.args.reaches.now c.count_begun-begun.result c.args.reference
    (to_z w64 (of_z w64 c.args.t)) c.requires (omega arith) c.count_begun-begun.ensures.within
    c.count_begun-begun.ensures.begun c.count_begun-begun.ensures.not_begun
    c.if-deletions-begun.false
    ∙ ap (covered c.args.deletions.now c.args.reference) x
