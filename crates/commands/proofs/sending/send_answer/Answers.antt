use Rattle.std.proofs.Common.{◌≡◌, ◌++◌, ℕ, List, ap, ap₂, subst, ◌∙◌, append_assoc}
use Rattle.std.specs.Prelude.{codes}
use Rattle.std.specs.Io.KnownBytes.{Appends}
use Rattle.std.proofs.lemmas.Result.{on_ok_weaker, on_err_weaker}
use Rattle.answers.specs.Joined.{joined}
use Rattle.answers.specs.Kept.{again_in}
use Rattle.commands.specs.Sending.{AppendsPrefix}
use Rattle.commands.proofs.Checks.{appends_on}
use Rattle.commands.proofs.Sendings.{on_err, prefix_of_both, prefix_behind}
use Rattle.commands.proofs.sending.send_answer.Goals as goal

regroup : (a b c d : List ℕ) → (a ++ b) ++ (c ++ d) ≡ (a ++ (b ++ c)) ++ d
regroup a b c d = simp append_assoc

-- what is sent is the text of the answer and a line feed
sent : (x y a b : List ℕ) → x ≡ a → y ≡ b
    → (x ++ y) ++ codes "}\n" ≡ (a ++ (b ++ codes "}")) ++ codes "\n"
sent x y a b p q =
    ap₂ (λ (s t : List ℕ). (s ++ t) ++ codes "}\n") p q ∙ regroup a b (codes "}") (codes "\n")

pub returns-in_err-write_both-clause-err : goal.returns-in_err-write_both-clause-err
returns-in_err-write_both-clause-err g c =
    let answer = c.args.answer.now in
    let old = g.W.Write.contents c.args.out.now in
    let mid = g.W.Write.contents c.write_both.new.out in
    on_err c.from_residual.result
    (subst (λ (s : List ℕ). AppendsPrefix old mid s)
    (sent (joined c.first.result.now) (joined c.again.result.now) (joined answer.pieces.items)
    (again_in answer) (ap joined c.first.ensures) (ap joined c.again.ensures))
    (prefix_of_both old mid (joined c.first.result.now ++ joined c.again.result.now) (codes "}\n")
    c.in_err-write_both.ensures.err))

pub returns-clause-ok : goal.returns-clause-ok
returns-clause-ok g c =
    let answer = c.args.answer.now in
    let old = g.W.Write.contents c.args.out.now in
    let mid = g.W.Write.contents c.write_both.new.out in
    let new = g.W.Write.contents c.send.new.out in
    on_ok_weaker c.send.result
    (λ p. subst (λ (s : List ℕ). Appends old new s)
    (sent (joined c.first.result.now) (joined c.again.result.now) (joined answer.pieces.items)
    (again_in answer) (ap joined c.first.ensures) (ap joined c.again.ensures))
    (appends_on old mid new (joined c.first.result.now ++ joined c.again.result.now) (codes "}\n")
    c.in_ok-write_both.ensures.ok p))
    c.send.ensures.ok

pub returns-clause-err : goal.returns-clause-err
returns-clause-err g c =
    let answer = c.args.answer.now in
    let old = g.W.Write.contents c.args.out.now in
    let mid = g.W.Write.contents c.write_both.new.out in
    let new = g.W.Write.contents c.send.new.out in
    on_err_weaker c.send.result
    (λ h. subst (λ (s : List ℕ). AppendsPrefix old new s)
    (sent (joined c.first.result.now) (joined c.again.result.now) (joined answer.pieces.items)
    (again_in answer) (ap joined c.first.ensures) (ap joined c.again.ensures))
    (prefix_behind old mid new (joined c.first.result.now ++ joined c.again.result.now) (codes "}\n")
    c.in_ok-write_both.ensures.ok h))
    c.send.ensures.err
