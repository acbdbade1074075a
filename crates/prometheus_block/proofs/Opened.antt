-- A segment that is opened is the file, and a chunk of it is appended.
use Rattle.std.proofs.Common.{◌≡◌, ◌⊎◌, inl, inr, ℕ, ◌/◌, ◌%◌, ◌<◌, Bool, true, ltb, eqb, List}
use Rattle.std.proofs.Common.{◌++◌, length, Result, Ok, Option, Some, IfSome, refl, sym, ap, subst}
use Rattle.std.proofs.Common.{◌∙◌}
use Rattle.wire.specs.Outcome.{or_refused}
use Rattle.wire.specs.Reading.{number_at}
use Rattle.wire.proofs.Steps.{bind_ok, not_failed, passed, same_value}
use Rattle.chunk_reader.specs.declared.error.ChunkError.TheVariants.{Magic, Version, Shape}
use Rattle.chunk_reader.specs.Reading.{opened}
use Rattle.index_reader.specs.declared.chunk.Chunk.{Chunk}
use Rattle.xor_reader.specs.Grammar.{Sample}
use Rattle.kept_samples.specs.declared.keeping.Times.{Times}
use Rattle.prometheus_block.specs.declared.segments.Held.{Held}
use Rattle.prometheus_block.specs.Reading.{chunk_read}
use Rattle.prometheus_block.specs.Series.{Segments, IsHeld, AreHeldBy, AreSamplesOf}
use Rattle.kept_samples.specs.Keeping.{meets}

pub opened_same : (file x : List ℕ) → opened file ≡ Ok x → file ≡ x
unfolding opened
opened_same file x h =
    let a = not_failed (ltb 0x4000_0000 (length file)) Shape _ x h in
    let m = bind_ok (or_refused Magic (number_at 4 file)) _ x a.1 in
    let mt = passed (eqb m.0.0 0x85BD_40DD) Magic _ x m.2 in
    let v = bind_ok (or_refused Version (number_at 4 m.0.1)) _ x mt.1 in
    let vt = passed (eqb v.0.0 0x0100_0000) Version _ x v.2 in
    same_value file x vt.1

pub chunk_appended : (reads : Segments) (times : Times) (c : Chunk) (old new : List Sample)
    (held : Held) (bytes : List ℕ) (samples : List Sample) (histograms : ℕ)
    → meets times c ≡ true → IsHeld reads held → held.number ≡ c.reference / 0x1_0000_0000
    → held.segment ≡ Some bytes
    → chunk_read bytes c ≡ Ok (samples, histograms)
    → new ≡ old ++ samples → AreSamplesOf reads times c old new
chunk_appended reads times c old new held bytes samples histograms m h number segment read e =
    let held_so : reads held.number bytes =
    subst (λ (x : Option (List ℕ)). IfSome x (λ b. reads held.number b)) segment h in
    let by : AreHeldBy reads c samples = record {
      segment = bytes;
      reads_so = subst (λ (n : ℕ). reads n bytes) number held_so;
      histograms = histograms;
      held = read;
    } in
    inr (m, (samples, by, e))
