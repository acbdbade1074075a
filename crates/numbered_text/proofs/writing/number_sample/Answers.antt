use Rattle.std.proofs.Common.{◌≡◌, ◌∙◌, ◌<◌, ◌^◌, ◌++◌, true, ap, subst, sym, rules, ℤ, ℕ, List, to_z, of_z}
use Rattle.std.specs.Int.{w64}
use Rattle.std.specs.Prelude.{◌-ℤ◌}
use Rattle.std.proofs.lemmas.Int.{to_z-of_z}
use Rattle.wire.specs.Spelling.{varint, zigzag}
use Rattle.labels.specs.Contents.{is_time}
use Rattle.numbered_text.specs.Reading.{sample_at}
use Rattle.numbered_text.specs.Writing.{Writes}
use Rattle.numbered_text.proofs.Writes.{sample_written}
use Rattle.numbered_text.proofs.writing.number_sample.Goals as goal

-- as numbers of 64 bits they are the same
as_sent : (t u v step sent value : ℤ) (bytes rest old new : List ℕ) → is_time u ≡ true
    → step ≡ u -ℤ t → zigzag sent < 2 ^ 64 → zigzag value < 2 ^ 64
    → bytes ≡ varint u ++ (varint v ++ rest) → new ≡ old ++ (varint sent ++ varint value)
    → sent ≡ step → value ≡ v → Writes sample_at t u bytes rest old new
as_sent t u v step sent value bytes rest old new dated is small few parts put s e =
    sample_written t u v step bytes rest old new dated is
    (subst (λ (z : ℤ). zigzag z < 2 ^ 64) s small) (subst (λ (z : ℤ). zigzag z < 2 ^ 64) e few)
    parts (put ∙ (ap (λ (z : ℤ). old ++ (varint z ++ varint value)) s
    ∙ ap (λ (z : ℤ). old ++ (varint step ++ varint z)) e))

pub returns-clause-ok : goal.returns-clause-ok
returns-clause-ok c =
    let step = c.step.result in
    let value = c.in_ok-at.value in
    let dated : is_time c.in_ok-at.at ≡ true = search rules in
    let later : c.step.result ≡ c.in_ok-at.at -ℤ c.args.time.now = search rules in
    let same : to_z w64 (of_z w64 c.in_ok-at.value) ≡ c.in_ok-at.value = search rules in
    let fresh : c.new.result ≡ c.in_ok-at.at = search rules in
    subst (λ (u : ℤ). Writes sample_at c.args.time.now u c.args.bytes.now c.in_ok-at.rest.now
    c.args.out.now.items c.push_text.new.out.items) (sym fresh)
    (as_sent c.args.time.now c.in_ok-at.at value step (to_z w64 (of_z w64 step))
    (to_z w64 (of_z w64 value)) c.args.bytes.now c.in_ok-at.rest.now c.args.out.now.items
    c.push_text.new.out.items dated later c.push_text.ensures.small.0
    c.push_text.ensures.small.1 c.in_ok-at.ensures c.in_ok-push_text.ensures.ok
    (to_z-of_z w64 step (record { sfits = c.step.type_inv })) same)
