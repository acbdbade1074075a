use Rattle.std.proofs.Common.{◌+◌, length, ap, ◌∙◌, arith}
use Rattle.cover.specs.Certificates.{begins_of}
use Rattle.cover.proofs.Covering.{cover_of}
use Rattle.cover.proofs.Farthest.{bound_of_any}
use Rattle.cover.proofs.part_cover.cover_with_moves.Goals as goal

pub returns-clause-cover : goal.returns-clause-cover
returns-clause-cover g c =
    cover_of (g.S.Source.part c.args.source.now) c.args.query.now _
    (g.met.S.Source.is_part c.args.source.now) c.in_ok-certificate.ensures.leftmost
    (c.in_ok-separators.ensures ∙ ap begins_of c.as_slice.ensures.value)
    (omega (
      arith,
      c.saturating_add.ensures,
      c.in_ok-certificate.ensures.of_lists,
      c.in_ok-certificate.ensures.of_live,
    ))

pub returns-clause-of_lists : goal.returns-clause-of_lists
returns-clause-of_lists g c = λ other valid.
    bound_of_any _ (length c.args.query.now.matchers + 1) _ (length other)
    c.in_ok-certificate.ensures.of_lists ((returns-clause-cover g c).least other valid)

pub returns-clause-of_live : goal.returns-clause-of_live
returns-clause-of_live g c = λ other valid. omega (
  arith,
  c.in_ok-certificate.ensures.of_live,
  (returns-clause-cover g c).least other valid,
)
