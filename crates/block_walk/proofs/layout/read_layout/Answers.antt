use Rattle.std.proofs.Common.{subst, arith}
use Rattle.block_walk.specs.IndexFile.Seen.{seen}
use Rattle.block_walk.specs.IndexFile.Outcome.{Gives}
use Rattle.block_walk.proofs.IndexFile.Whole.{is_found, parts_again}
use Rattle.block_walk.proofs.IndexFile.Sound.{sound_found}
use Rattle.block_walk.proofs.layout.read_layout.Goals as goal

pub returns-clause-found : goal.returns-clause-found
returns-clause-found c = is_found seen c.args.file.now c.layout_of.result (λ i. omega (
  arith,
  c.type_inv.file i,
)) c.layout_of.ensures

pub returns-clause-only : goal.returns-clause-only
returns-clause-only c =
    λ x p. subst (λ f. Gives seen c.layout_of.result f) (parts_again c.args.file.now x (λ i. omega (
      arith,
      c.type_inv.file i,
    )) p) c.layout_of.ensures

pub returns-clause-sound : goal.returns-clause-sound
returns-clause-sound c =
    sound_found c.args.file.now c.layout_of.result (is_found seen c.args.file.now c.layout_of.result
    (λ i. omega (arith, c.type_inv.file i)) c.layout_of.ensures)
