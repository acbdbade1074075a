use Rattle.std.proofs.Common.{◌≡◌, ◌∙◌, ◌-◌, ℕ, List, Vec, Global, sym, ap, length, take, arith, rules}
use Rattle.std.proofs.lemmas.Grind.{common_steps}
use Rattle.std.proofs.lemmas.List.{length-map, take-map}
use Rattle.std.proofs.lemmas.Result.{IfOk-weaker}
use Rattle.wire.specs.Checksum.{crc32c}
use Rattle.journal.specs.Contents.{contents_in}
use Rattle.kept_folder.specs.Heads.{front_of}
use Rattle.kept_folder.proofs.heads.head_sum.Goals as goal

-- the first few of contents in memory
first_in : (vs own : List (Vec ℕ Global)) (count events : ℕ) → count ≡ length vs - events
    → own ≡ take count vs
    → contents_in own ≡ take (length (contents_in vs) - events) (contents_in vs)
first_in vs own count events counted is =
    ap contents_in is
    ∙ sym (take-map (λ (v : Vec ℕ Global). v.items) count vs)
    ∙ ap (λ (n : ℕ). take n (contents_in vs))
    (counted ∙ ap (λ (n : ℕ). n - events) (sym (length-map vs (λ (v : Vec ℕ Global). v.items))))

pub returns-in-Ok : goal.returns-in-Ok
returns-in-Ok c =
    let vs = c.in-Ok.recovered.contents.items in
    let same =
    first_in vs c.split_at.result.0.now c.saturating_sub-own.result c.args.events
    (first_of (search rules, omega arith, grind (arith, common_steps)))
    (c.split_at.ensures.front
    ∙ ap (λ (all : List (Vec ℕ Global)). take c.saturating_sub-own.result all)
    c.deref.ensures.value) in
    IfOk-weaker c.front_sum.result _ _ (λ sum h. record {
      contents = contents_in vs;
      recovers = c.in-Ok.ensures.found;
      sum_is = h ∙ ap (λ (cs : List (List ℕ)). crc32c (front_of cs)) same;
    }) c.front_sum.ensures
