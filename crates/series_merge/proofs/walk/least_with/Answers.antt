use Rattle.std.proofs.Common.{◌++◌, ◌∷◌, [], sym, ◌∙◌, subst}
use Rattle.series_merge.specs.Walking.{IsLeast}
use Rattle.series_merge.proofs.Least.{least_without, least_first, least_lesser, least_stays}
use Rattle.series_merge.proofs.walk.least_with.Goals as goal

pub returns-in_default : goal.returns-in_default
returns-in_default c = λ parts is.
    least_without c.args.least parts c.args.part.now c.in_default.ensures.none is

pub returns-in_default-least : goal.returns-in_default-least
returns-in_default-least c = λ parts is.
    least_first c.in-Some.first parts c.args.part.now c.in-Some.ensures.some
    (rw c.in_default-least.is at is)

pub returns-then-is_less : goal.returns-then-is_less
returns-then-is_less c = λ parts is.
    least_lesser c.in-Some-least.labels c.in-Some.first parts c.args.part.now c.in-Some.ensures.some
    (sym c.is_less.ensures ∙ c.if-is_less.true) (rw c.in-Some-least.is at is)

pub returns : goal.returns
returns c = λ parts is.
    subst (λ least. IsLeast least (parts ++ c.args.part.now ∷ [])) (sym c.in-Some-least.is)
    (least_stays c.in-Some-least.labels c.in-Some.first parts c.args.part.now c.in-Some.ensures.some
    (sym c.is_less.ensures ∙ c.if-is_less.false) (rw c.in-Some-least.is at is))
