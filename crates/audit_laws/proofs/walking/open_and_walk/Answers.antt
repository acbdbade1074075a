use Rattle.std.proofs.Common.{◌≡◌, ℕ, List, sym, subst, ◌∙◌}
use Rattle.block_walk.specs.BlockFiles.Spelled.{IsWalked}
use Rattle.audit_laws.proofs.Walked.{block_walked}
use Rattle.audit_laws.proofs.walking.open_and_walk.Goals as goal

pub returns-clause-walked : goal.returns-clause-walked
returns-clause-walked c =
    let part = c.in_ok-block.block.part in
    let same : c.in_ok-copy.copy.items ≡ c.args.chunks.items =
    c.in_ok-copy.ensures ∙ c.as_slice.ensures.value in
    c.walk-walked.ensures.only part
    (subst (λ (chunks : List ℕ). IsWalked c.args.index.now chunks c.args.tombstones.now part)
    (sym same)
    (block_walked c.args.range c.args.index.now c.args.chunks.items c.args.tombstones.now part
    c.in_ok-block.ensures.found))
