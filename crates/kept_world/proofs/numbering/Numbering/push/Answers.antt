use Rattle.std.proofs.Common.{◌≡◌, sym, subst, map, length, ℕ, ◌∙◌, ◌+◌, arith}
use Rattle.std.specs.List.{AllByRecursion}
use Rattle.labels.specs.Rows.{Row}
use Rattle.labels.specs.Parts.{Part}
use Rattle.kept_world.specs.States.{numbered}
use Rattle.kept_world.specs.Sound.{IsAscending}
use Rattle.kept_world.proofs.Parts.{numbered_more}
use Rattle.kept_world.proofs.numbering.Numbering.push.Goals as goal

pub invariant_of-self-2 : goal.invariant_of-self-2
invariant_of-self-2 c =
    let rows : Part = c.self.inside.rows.items in
    let l = c.len.ensures in
    let n : c.new.result ≡ length rows + 1 = c.new.ensures ∙ (let e : c.len.result + 1 ≡ length rows + 1 = omega (arith, l) in e) in
    subst (λ (p : Part). (p ≡ numbered 1 (map (λ (r : ℕ × Row). r.1) p)) × AllByRecursion IsAscending (map (λ (r : ℕ × Row). r.1) p))
    (sym {A = Part} c.in_ok-push.ensures.items)
    (numbered_more rows c.new.result c.args.row n c.self.invariant.0 c.self.invariant.1 c.requires.ascending)
