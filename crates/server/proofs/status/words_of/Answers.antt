use Rattle.std.proofs.Common.{◌≡◌, None, inl, inr, length, rules, sym, ◌∙◌}
use Rattle.std.proofs.lemmas.Bool.{eqb-true, eqb-false}
use Rattle.server.proofs.Asking.{is_line, no_method, no_target, not_line}
use Rattle.server.proofs.status.words_of.Goals as goal
use Rattle.server.proofs.status.words_of.Goals.{then-is_empty-via-then-is_empty}
use Rattle.server.proofs.status.words_of.Goals.{then-is_empty-via-else-is_empty+then-is_empty-2}
use Rattle.server.proofs.status.words_of.Goals.{then-is_empty-via-else-is_empty+else-is_empty-2+then-not-starts_with}

pub returns-in_err-method : goal.returns-in_err-method
returns-in_err-method c =
    let none : c.from_residual.result ≡ None = search rules in
    rw none (no_method c.args.line.now c.in_err-method.ensures)

pub returns-in_err-target : goal.returns-in_err-target
returns-in_err-target c =
    let none : c.from_residual-in_err-target.result ≡ None = search rules in
    rw none
    (no_target c.args.line.now c.in_ok-method.method.now c.in_ok-method.rest.now
    c.in_ok-method.ensures c.in_err-target.ensures)

pub returns-then-is_empty : goal.returns-then-is_empty
returns-then-is_empty c =
    let method = c.in_ok-method.method.now in
    let target = c.in_ok-target.target.now in
    let none =
    not_line c.args.line.now c.in_ok-method.method.now c.in_ok-method.rest.now
    c.in_ok-target.target.now c.in_ok-target.version.now c.in_ok-method.ensures
    c.in_ok-target.ensures in
    elim c.then-is_empty.branch [
      | then-is_empty-via-then-is_empty w ↦
          let empty = sym c.is_empty.ensures ∙ w.if-is_empty.true in
          none (inl (eqb-true (length method) 0 empty))
      | then-is_empty-via-else-is_empty+then-is_empty-2 w ↦
          let empty = sym w.is_empty-else-is_empty.ensures ∙ w.if-is_empty-2.true in
          none (inr (inl (eqb-true (length target) 0 empty)))
      | then-is_empty-via-else-is_empty+else-is_empty-2+then-not-starts_with w ↦
          none (inr (inr (sym w.starts_with.ensures.value ∙ w.if-not-starts_with.true)))
    ]

pub returns : goal.returns
returns c =
    let method = c.in_ok-method.method.now in
    let target = c.in_ok-target.target.now in
    is_line c.args.line.now c.in_ok-method.method.now c.in_ok-method.rest.now
    c.in_ok-target.target.now c.in_ok-target.version.now c.in_ok-method.ensures
    c.in_ok-target.ensures
    (eqb-false (length method) 0 (sym c.is_empty.ensures ∙ c.if-is_empty.false))
    (eqb-false (length target) 0
    (sym c.is_empty-else-is_empty.ensures ∙ c.if-is_empty-2.false))
    (sym c.starts_with.ensures.value ∙ c.if-not-starts_with.false)
