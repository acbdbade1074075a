use Rattle.std.proofs.Common.{◌≡◌, ◌∙◌, List, true, Decides, sym, subst, arith}
use Rattle.std.proofs.lemmas.Bool.Decides.{nat_tests}
use Rattle.std.proofs.lemmas.Slice.Eq.{slice_eq-Decides}
use Rattle.tombstones.specs.declared.deletion.Deletion.{Deletion}
use Rattle.tombstones.specs.contracts.deletion.DeletionPartialEq.TheImpl as own
use Rattle.tombstones.proofs.tombstones.Tombstones.is_same.Goals as goal

told : (a b : Deletion) → own.eq-value.it a b ≡ true → a ≡ b
told a b e = grind (arith, nat_tests)

itself : (a : Deletion) → own.eq-value.it a a ≡ true
itself a = grind (arith, nat_tests)

decided : (a b : Deletion) → Decides (own.eq-value.it a b) (a ≡ b)
decided a b = (told a b, λ same. subst (λ (x : Deletion). own.eq-value.it a x ≡ true) same (itself a))

pub returns : goal.returns
returns c =
    let mine : c.as_slice.result.now ≡ c.args.self.now = c.as_slice.ensures.value ∙ c.self.view_is in
    let others : c.as_slice-2.result.now ≡ c.args.other.now = c.as_slice-2.ensures.value ∙ c.other.view_is in
    subst (λ (x : List Deletion). Decides c.eq.result (x ≡ c.args.other.now)) mine
    (subst (λ (y : List Deletion). Decides c.eq.result (c.as_slice.result.now ≡ y)) others
    (slice_eq-Decides decided _ _ _ c.eq.ensures))
