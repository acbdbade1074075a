use Rattle.std.proofs.Common.{◌≡◌, ℕ, List, [], subst}
use Rattle.std.specs.Prelude.{IfNone, IfSome}
use Rattle.block.proofs.Showing.{lists_are}
use Rattle.block.proofs.blocks.Block.list.Goals as goal

pub returns-clause-none : goal.returns-clause-none
returns-clause-none c =
    subst (λ (rs : List ℕ). IfNone c.entries.result (rs ≡ [])) (lists_are c.deref.result.now
    c.self.inside c.args.self.now c.deref.ensures c.self.view_is c.args.name.now c.args.value.now)
    c.entries.ensures.none

pub returns-clause-listed : goal.returns-clause-listed
returns-clause-listed c =
    subst (λ (rs : List ℕ). IfSome c.entries.result (λ entries. entries ≡ (rs, 0)))
    (lists_are c.deref.result.now c.self.inside c.args.self.now c.deref.ensures c.self.view_is
    c.args.name.now c.args.value.now) c.entries.ensures.listed

pub returns-clause-some : goal.returns-clause-some
returns-clause-some c =
    subst (λ (rs : List ℕ). IfSome c.entries.result (λ entries. rs ≡ [] → ⊥))
    (lists_are c.deref.result.now c.self.inside c.args.self.now c.deref.ensures c.self.view_is
    c.args.name.now c.args.value.now) c.entries.ensures.some
