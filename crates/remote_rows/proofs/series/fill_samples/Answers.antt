use Rattle.std.proofs.Common.{◌≡◌, ◌++◌, ◌+◌, ◌<◌, ◌∷◌, ℕ, ℤ, List, [], length, map, take, get_or, ap, sym, subst, ◌∙◌, add-one, arith}
use Rattle.std.proofs.Math.Seq.{take-suc}
use Rattle.std.proofs.lemmas.List.{map-append}
use Rattle.protobuf_fields.specs.Format.{EachIs}
use Rattle.remote_write.specs.declared.sample.Sample.{Sample}
use Rattle.remote_write.specs.Format.{SampleValue}
use Rattle.remote_write.specs.Reading.{sample_seen}
use Rattle.remote_rows.specs.Sent.{IsSampleOf}
use Rattle.remote_rows.proofs.Each.{each_more}
use Rattle.remote_rows.proofs.series.fill_samples.Goals as goal

one_sample : (xs : List (ℤ × ℤ)) (i : ℕ) (x : ℤ × ℤ) (items new : List Sample) (y : Sample)
    → i < length xs → x ≡ get_or xs i x → EachIs IsSampleOf (take i xs) (map sample_seen items)
    → IsSampleOf x (sample_seen y) → new ≡ items ++ y ∷ []
    → EachIs IsSampleOf (take (i + 1) xs) (map sample_seen new)
one_sample xs i x items new y h is each of e =
    let at : take (i + 1) xs ≡ take i xs ++ x ∷ [] =
    rw add-one (take-suc xs i x h ∙ ap (λ (s : ℤ × ℤ). take i xs ++ s ∷ []) (sym is)) in
    let seen : map sample_seen new ≡ map sample_seen items ++ sample_seen y ∷ [] =
    ap (map sample_seen) e ∙ map-append sample_seen items (y ∷ []) in
    subst (λ (l : List (ℤ × ℤ)). EachIs IsSampleOf l (map sample_seen new)) (sym at)
    (subst (λ (l : List SampleValue). EachIs IsSampleOf (take i xs ++ x ∷ []) l) (sym seen)
    (each_more IsSampleOf (take i xs) (map sample_seen items) x (sample_seen y) each of))

pub loop-sample-preserved : goal.loop-sample-preserved
loop-sample-preserved c =
    one_sample c.args.samples.now c.loop-sample.sample-index c.sample-item.result c.loop-sample.out.items _ c.sample_of.result
    (omega arith) c.sample-item.is c.loop-sample.invariant c.sample_of.ensures c.in_ok-push.ensures.items
