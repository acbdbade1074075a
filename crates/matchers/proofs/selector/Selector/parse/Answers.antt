use Rattle.std.proofs.lemmas.Result.{IfErr-weaker, IfOk-weaker}
use Rattle.matchers.proofs.Makings.{accepted_short, refused_short}
use Rattle.matchers.proofs.selector.Selector.parse.Goals as goal

pub returns-clause-ok : goal.returns-clause-ok
returns-clause-ok c =
    IfOk-weaker c.parse_within.result _ _ (λ v is. is.selector) c.parse_within.ensures.ok

pub returns-clause-some : goal.returns-clause-some
returns-clause-some c =
    IfOk-weaker c.parse_within.result _ _ (λ v is. is.some) c.parse_within.ensures.ok

pub returns-clause-few : goal.returns-clause-few
returns-clause-few c =
    IfOk-weaker c.parse_within.result _ _ (λ v is. is.few) c.parse_within.ensures.ok

pub returns-clause-made : goal.returns-clause-made
returns-clause-made c =
    IfOk-weaker c.parse_within.result _ _ (λ v is. accepted_short _ _ is)
    c.parse_within.ensures.ok

pub returns-clause-err : goal.returns-clause-err
returns-clause-err c =
    IfErr-weaker c.parse_within.result _ _ (λ e is. refused_short c.args.text.now e is)
    c.parse_within.ensures.err
