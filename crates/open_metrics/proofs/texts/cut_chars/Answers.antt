use Rattle.std.proofs.Common.{◌≡◌, ℕ, Option, Ok, subst}
use Rattle.std.proofs.lemmas.Result.{err_from_is_err_and}
use Rattle.open_metrics.specs.declared.error.Reason.TheVariants.{Text}
use Rattle.open_metrics.specs.Texts.{char_at, until_end}
use Rattle.open_metrics.proofs.Items.{goes_on, ends, fails, runs_out}
use Rattle.open_metrics.proofs.texts.cut_chars.Goals as goal

pub returns-in_err-next : goal.returns-in_err-next
returns-in_err-next c =
    let p = err_from_is_err_and c.from_residual.result c.from_residual.ensures.1 in
    let l = c.loop-counter in
    rw (p.1, p.2) (fails char_at Text c.in_err-next.field-0.0 l.text.items c.args.count l.counter
    l.rest.now
    (until_end char_at Text c.args.count c.args.bytes.now) c.loop-counter-test.true
    c.in_err-next.ensures l.invariant)

pub returns-in_default : goal.returns-in_default
returns-in_default c =
    let l = c.loop-counter in
    let after = c.in_ok-next.after.now in
    let h = subst (λ (o : Option ℕ). char_at l.rest.now ≡ Ok (o, after)) c.in_default.is
    c.in_ok-next.ensures in
    ends char_at Text l.text.items c.args.count l.counter l.rest.now after
    (until_end char_at Text c.args.count c.args.bytes.now) c.loop-counter-test.true h l.invariant

pub loop-counter-preserved : goal.loop-counter-preserved
loop-counter-preserved c =
    let l = c.loop-counter in
    let after = c.in_ok-next.after.now in
    let h = subst (λ (o : Option ℕ). char_at l.rest.now ≡ Ok (o, after)) c.in-Some.is
    c.in_ok-next.ensures in
    rw c.in_ok-push.ensures.items (goes_on char_at Text l.text.items c.args.count l.counter
    l.rest.now
    c.in-Some.c after (until_end char_at Text c.args.count c.args.bytes.now)
    c.loop-counter-test.true h l.invariant)

pub returns : goal.returns
returns c =
    let l = c.loop-counter in
    runs_out char_at Text l.text.items c.args.count l.counter l.rest.now
    (until_end char_at Text c.args.count c.args.bytes.now) c.loop-counter-test.false l.invariant
