use Rattle.std.proofs.Common.{◌++◌, ℕ, List, ap, subst, ◌∙◌, append_assoc}
use Rattle.std.specs.Prelude.{codes}
use Rattle.std.proofs.lemmas.Result.{on_ok_weaker, on_err_weaker}
use Rattle.std.specs.Io.KnownBytes.{Appends}
use Rattle.answers.specs.Joined.{joined}
use Rattle.answers.specs.Kept.{again_in}
use Rattle.std.proofs.Common.{Vec, Global}
use Rattle.query_http.specs.Writing.{AppendsFront}
use Rattle.query_http.proofs.Written.{on_err, both, front_of_both, front_behind}
use Rattle.query_http.proofs.outlet.write_answer.Goals as goal

pub returns-in_err-write_before-clause-err : goal.returns-in_err-write_before-clause-err
returns-in_err-write_before-clause-err g c =
    let answer = c.args.answer.now in
    let a = g.W.Outlet.output c.args.writer.now in
    let b = g.W.Outlet.output c.write_before.new.writer in
    let head = c.args.head.now in
    let rest = again_in answer ++ codes "}" in
    on_err c.from_residual.result _
    (subst (λ (s : List ℕ). AppendsFront a b s)
    (ap (λ (ps : List (Vec ℕ Global)). (head ++ joined ps) ++ rest) c.first.ensures
    ∙ append_assoc head (joined answer.pieces.items) rest)
    (front_of_both a b (head ++ joined c.first.result.now) rest c.in_err-write_before.ensures.err))

pub returns-clause-ok : goal.returns-clause-ok
returns-clause-ok g c =
    let answer = c.args.answer.now in
    let a = g.W.Outlet.output c.args.writer.now in
    let b = g.W.Outlet.output c.write_before.new.writer in
    let d = g.W.Outlet.output c.write_behind.new.writer in
    let head = c.args.head.now in
    on_ok_weaker c.write_behind.result
    (λ p. subst (λ (s : List ℕ). Appends a d s)
    (ap (λ (ps : List (Vec ℕ Global)). (head ++ joined ps) ++ (joined c.again.result.now ++ codes "}"))
    c.first.ensures
    ∙ ap (λ (ps : List (Vec ℕ Global)). (head ++ joined answer.pieces.items)
    ++ (joined ps ++ codes "}")) c.again.ensures
    ∙ append_assoc head (joined answer.pieces.items) (again_in answer ++ codes "}"))
    (both a b d (head ++ joined c.first.result.now) (joined c.again.result.now ++ codes "}")
    c.in_ok-write_before.ensures.ok p))
    c.write_behind.ensures.ok

pub returns-clause-err : goal.returns-clause-err
returns-clause-err g c =
    let answer = c.args.answer.now in
    let a = g.W.Outlet.output c.args.writer.now in
    let b = g.W.Outlet.output c.write_before.new.writer in
    let d = g.W.Outlet.output c.write_behind.new.writer in
    let head = c.args.head.now in
    on_err_weaker c.write_behind.result
    (λ h. subst (λ (s : List ℕ). AppendsFront a d s)
    (ap (λ (ps : List (Vec ℕ Global)). (head ++ joined ps) ++ (joined c.again.result.now ++ codes "}"))
    c.first.ensures
    ∙ ap (λ (ps : List (Vec ℕ Global)). (head ++ joined answer.pieces.items)
    ++ (joined ps ++ codes "}")) c.again.ensures
    ∙ append_assoc head (joined answer.pieces.items) (again_in answer ++ codes "}"))
    (front_behind a b d (head ++ joined c.first.result.now) (joined c.again.result.now ++ codes "}")
    c.in_ok-write_before.ensures.ok h))
    c.write_behind.ensures.err

pub returns-clause-failed : goal.returns-clause-failed
returns-clause-failed g c =
    on_err_weaker c.write_behind.result
    (λ h. rw c.in_ok-write_before.ensures.counted at h)
    c.write_behind.ensures.failed
