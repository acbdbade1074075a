use Rattle.std.proofs.Common.{◌-◌, List, ℕ, ℤ, drop, subst, take_all, length, length-drop, arith}
use Rattle.std.proofs.Common.{rules, SFits, w64, to_z, of_z}
use Rattle.std.proofs.lemmas.Int.{to_z-of_z}
use Rattle.remote_requests.specs.Meaning.{PathMeans}
use Rattle.remote_requests.specs.Writing.{Told}
use Rattle.remote_requests.proofs.HeadLaws.{told_admitted}
use Rattle.remote_requests.proofs.answering.asked.Goals as goal

pub returns-in-Ok-judge : goal.returns-in-Ok-judge
returns-in-Ok-judge c =
    let fits : SFits w64 c.args.now = search rules in
    let head = c.in-Ok.head in
    let found = c.in-Ok.ensures.ok in
    let bytes = c.args.bytes.now in
    let rest = drop head.end bytes in
    let here = subst (λ (r : List ℕ). Told (PathMeans head.path head.target.now head.length head.form
    (to_z w64 (of_z w64 c.args.now)) r) c.path_asked.result) (take_all (length bytes - head.end)
    rest (omega (arith, length-drop head.end bytes))) c.path_asked.ensures in
    let asks = subst (λ (z : ℤ). Told (PathMeans head.path head.target.now head.length head.form z rest)
    c.path_asked.result) (to_z-of_z w64 _ fits) here in
    told_admitted c.args.rules.now c.args.now bytes head found.0 _ c.path_asked.result
    found.1 found.2 c.in-Ok-judge.ensures.is asks
