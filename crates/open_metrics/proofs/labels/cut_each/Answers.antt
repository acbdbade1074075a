use Rattle.std.proofs.Common.{◌≡◌, ◌++◌, ◌∷◌, [], Option, Ok, subst}
use Rattle.std.proofs.lemmas.Result.{err_from_is_err_and}
use Rattle.std.proofs.lemmas.List.{map_push}
use Rattle.open_metrics.specs.declared.error.Reason.TheVariants.{Many}
use Rattle.open_metrics.specs.declared.labels.Label.{Label}
use Rattle.open_metrics.specs.Labels.{next_at, next_in, pair_in, pairs_in}
use Rattle.open_metrics.specs.Texts.{until_end}
use Rattle.open_metrics.proofs.Items.{goes_on, ends, fails, runs_out}
use Rattle.open_metrics.proofs.labels.cut_each.Goals as goal

pub returns-in_err-next : goal.returns-in_err-next
returns-in_err-next c =
    let p = err_from_is_err_and c.from_residual.result c.from_residual.ensures.1 in
    let l = c.loop-counter in
    rw (p.1, p.2) (fails (next_at c.args.format) Many c.in_err-next.field-0.0 (pairs_in l.labels.items)
    c.args.count l.counter l.rest.now
    (until_end (next_at c.args.format) Many c.args.count c.args.bytes.now) c.loop-counter-test.true
    c.in_err-next.ensures l.invariant)

pub returns-in_default : goal.returns-in_default
returns-in_default c =
    let l = c.loop-counter in
    let after = c.in_ok-next.after.now in
    let h = subst (λ (o : Option Label). next_at c.args.format l.rest.now ≡ Ok (next_in o, after))
    c.in_default.is c.in_ok-next.ensures in
    ends (next_at c.args.format) Many (pairs_in l.labels.items) c.args.count l.counter l.rest.now after
    (until_end (next_at c.args.format) Many c.args.count c.args.bytes.now) c.loop-counter-test.true h l.invariant

pub loop-counter-preserved : goal.loop-counter-preserved
loop-counter-preserved c =
    let l = c.loop-counter in
    let after = c.in_ok-next.after.now in
    let x = c.in-Some.label in
    let h = subst (λ (o : Option Label). next_at c.args.format l.rest.now ≡ Ok (next_in o, after)) c.in-Some.is
    c.in_ok-next.ensures in
    let e : pairs_in c.push.new.self.items ≡ pairs_in l.labels.items ++ pair_in x ∷ [] =
    rw c.in_ok-push.ensures.items (map_push _ l.labels.items x) in
    rw e (goes_on (next_at c.args.format) Many (pairs_in l.labels.items) c.args.count l.counter l.rest.now
    (pair_in x) after (until_end (next_at c.args.format) Many c.args.count c.args.bytes.now)
    c.loop-counter-test.true h l.invariant)

pub returns : goal.returns
returns c =
    let l = c.loop-counter in
    runs_out (next_at c.args.format) Many (pairs_in l.labels.items) c.args.count l.counter l.rest.now
    (until_end (next_at c.args.format) Many c.args.count c.args.bytes.now) c.loop-counter-test.false l.invariant
