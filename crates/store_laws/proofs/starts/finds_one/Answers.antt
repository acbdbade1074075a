use Rattle.std.proofs.Common.{List, refl, subst, sym}
use Rattle.head.specs.Worlds.{Event}
use Rattle.keeper.specs.Finding.{IsOfAll}
use Rattle.store_folder.specs.KeeperLaws.{finds_no_other, finds_world}
use Rattle.store_laws.proofs.Accepted.{few_accepted}
use Rattle.store_laws.proofs.starts.finds_one.Goals as goal

pub returns-clause-all : goal.returns-clause-all
returns-clause-all c first w events left s world fits =
    (w, finds_world first w left events (fits, s) world, refl)

pub returns-clause-few : goal.returns-clause-few
returns-clause-few c first w events more left s world fits =
    let few = s.2.0 in
    let found = few_accepted first.world w events more few world in (
      found.0,
      finds_world first found.0 left s.0 (fits, s.1)
          (subst (λ (es : List Event). IsOfAll first.world es found.0) (sym s.2.1) found.1),
      (few, found.1),
    )

pub returns-clause-only : goal.returns-clause-only
returns-clause-only c first w events left s made =
    finds_no_other first w left events (made.0, s) made
