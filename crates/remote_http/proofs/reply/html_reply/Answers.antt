use Rattle.std.proofs.Common.{◌≡◌, List, ℕ, ◌++◌, length, ap, ◌∙◌, arith, rules}
use Rattle.std.proofs.lemmas.Grind.{common_steps}
use Rattle.remote_requests.specs.declared.status.Status.TheVariants.{Done}
use Rattle.remote_http.specs.Text.{head_text, html_lines}
use Rattle.remote_http.proofs.reply.html_reply.Goals as goal

pub returns-clause-spelled : goal.returns-clause-spelled
returns-clause-spelled c =
    let same : c.len.result ≡ length c.args.body.items =
    first_of (search rules, omega arith, grind (arith, common_steps)) in
    ap (λ (head : List ℕ). head ++ c.args.body.items)
    (c.in_ok-head.ensures ∙ ap (λ (n : ℕ). head_text Done html_lines n) same)
