use Rattle.std.proofs.Common.{◌≡◌, true, false, codes, refl, sym, ◌∙◌, nat_eq}
use Rattle.std.specs.List.{starts_with}
use Rattle.server.proofs.Asking.{end_here, end_step}
use Rattle.server.proofs.status.has_end.Goals as goal

pub returns-then-starts_with : goal.returns-then-starts_with
returns-then-starts_with c =
    let ends : starts_with nat_eq c.tails.left.now (codes "\r\n\r\n") ≡ true =
    sym c.starts_with.ensures.value ∙ c.if-starts_with.true in
    (λ t. c.tails.invariant.0 (end_here c.tails.left.now ends), λ h. refl)

pub tails-preserved : goal.tails-preserved
tails-preserved c =
    let unlike : starts_with nat_eq c.tails.left.now (codes "\r\n\r\n") ≡ false =
    sym c.starts_with.ensures.value ∙ c.if-starts_with.false in
    end_step c.tails.left.now c.in-Some._byte.now c.in-Some.rest.now c.args.head.now
    c.in-Some.ensures.cases.0 unlike c.tails.invariant
