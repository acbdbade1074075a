use Rattle.std.proofs.Common.{subst, arith}
use Rattle.index_reader.specs.CheckedFile.{layout_seen}
use Rattle.index_reader.specs.Outcome.{Gives}
use Rattle.index_reader.proofs.Whole.{is_found, parts_again}
use Rattle.index_reader.proofs.Sound.{sound_found}
use Rattle.index_reader.proofs.layout.read_layout.Goals as goal

pub returns-clause-found : goal.returns-clause-found
returns-clause-found c = is_found layout_seen c.args.file.now c.layout_of.result (λ i. omega (
  arith,
  c.type_inv.file i,
)) c.layout_of.ensures

pub returns-clause-only : goal.returns-clause-only
returns-clause-only c =
    λ x p. subst (λ f. Gives layout_seen c.layout_of.result f)
    (parts_again c.args.file.now x (λ i. omega (arith, c.type_inv.file i)) p) c.layout_of.ensures

pub returns-clause-sound : goal.returns-clause-sound
returns-clause-sound c =
    sound_found c.args.file.now c.layout_of.result (is_found layout_seen c.args.file.now
    c.layout_of.result (λ i. omega (arith, c.type_inv.file i)) c.layout_of.ensures)
