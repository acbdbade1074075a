-- A whole line.
use Rattle.std.proofs.Common.{◌≡◌, ℕ, Bool, true, false, eqb, List, [], ◌∷◌, ◌++◌, Result, Ok, Err}
use Rattle.std.proofs.Common.{refl, sym, ap, subst, ◌∙◌, inl, inr}
use Rattle.std.proofs.lemmas.Bool.{cases_Bool, eqb-true}
use Rattle.std.specs.Prelude.{IfOk}
use Rattle.wire.specs.Outcome.{◌>>=◌}
use Rattle.wire.proofs.Steps.{bind_ok, same_value}
use Rattle.open_metrics.specs.declared.comments.Format.{Format}
use Rattle.open_metrics.specs.declared.comments.Format.TheVariants.{OpenMetrics, Prometheus}
use Rattle.open_metrics.specs.declared.error.Fault.{Fault}
use Rattle.open_metrics.specs.declared.lines.Line.{Line}
use Rattle.open_metrics.specs.declared.tokens.Class.TheVariants.{Metric}
use Rattle.open_metrics.specs.Comments.{comment_at}
use Rattle.open_metrics.specs.Grammar.{IfSampled, IsSample, IsName}
use Rattle.open_metrics.specs.Lines.{Sampled, Meaning, nothing, sampled, meaning_in}
use Rattle.open_metrics.specs.Lines.{of_comment}
use Rattle.open_metrics.specs.Lines.{line_at, line_in, sample_at}
use Rattle.open_metrics.specs.Outcome.{Gives}
use Rattle.open_metrics.specs.Tokens.{after_blanks, goes_on}
use Rattle.open_metrics.proofs.Again.{begins_with, sample_again}
use Rattle.open_metrics.proofs.Taken.{sample_takes}

no_sample : (ends : Bool) (P : Sampled → Type 0) → IfSampled (of_comment ends) P
no_sample true P = tt
no_sample false P = tt

empty_takes : (format : Format) (places : ℕ) (m : Meaning) (P : Sampled → Type 0)
    → line_in format places [] ≡ Ok m → IfSampled m P
unfolding line_in
empty_takes OpenMetrics places m P h = absurd cc
empty_takes Prometheus places m P h =
    subst (λ (x : Meaning). IfSampled x P) (same_value nothing m h) tt

begun_takes : (format : Format) (places : ℕ) (begun : List ℕ) (m : Meaning)
    (P : Sampled → Type 0) → ((s : Sampled) → sample_at format places begun ≡ Ok s → P s)
    → line_in format places begun ≡ Ok m → IfSampled m P
unfolding line_in
begun_takes format places [] m P takes h = empty_takes format places m P h
begun_takes format places (c ∷ rest) m P takes h =
    elim (cases_Bool (eqb c 35)) [
      | inl e ↦
          let a = bind_ok (comment_at format rest) _ m (rw e at h) in
          subst (λ (x : Meaning). IfSampled x P) (same_value (of_comment a.0) m a.2)
          (no_sample a.0 P)
      | inr e ↦
          let a = bind_ok (sample_at format places (c ∷ rest)) _ m (rw e at h) in
          subst (λ (x : Meaning). IfSampled x P) (same_value (sampled a.0) m a.2)
          (takes a.0 a.1)
    ]

pub line_takes : (format : Format) (places : ℕ) (line : List ℕ) (m : Meaning)
    → line_at format places line ≡ Ok m → IfSampled m (IsSample format places line)
line_takes format places line m h =
    begun_takes format places (after_blanks format line) m (IsSample format places line)
    (sample_takes format places line) h

-- a line that begins with the name of a metric is no comment
no_comment : (format : Format) (places : ℕ) (name rest : List ℕ) → IsName Metric name
    → line_in format places (name ++ rest)
    ≡ (sample_at format places (name ++ rest) >>= λ s. Ok (sampled s))
unfolding line_in
no_comment format places [] rest is = absurd (let b = is.begun in cc)
no_comment format places (c ∷ cs) rest is =
    elim (cases_Bool (eqb c 35)) [
      | inl e ↦ absurd (let a = (is.in_class).0 in let f = eqb-true c 35 e in
          let b : goes_on Metric 35 ≡ true = subst (λ (x : ℕ). goes_on Metric x ≡ true) f a in cc)
      | inr e ↦ rw e refl
    ]

pub line_again : (format : Format) (places : ℕ) (line : List ℕ) (s : Sampled)
    → IsSample format places line s → line_at format places line ≡ Ok (sampled s)
line_again format places line s is =
    let one = sample_again format places line s is in
    let begun = begins_with format places line s is in
    let other = no_comment format places s.name is.from_labels is.name_is in
    ap (line_in format places) begun
    ∙ (other
    ∙ ap (λ (r : Result Sampled Fault). r >>= λ x. Ok (sampled x))
    (ap (sample_at format places) (sym begun) ∙ one))

pub found_in : (format : Format) (places : ℕ) (line : List ℕ) (r : Result Line Fault)
    → Gives meaning_in r (line_at format places line)
    → IfOk r (λ l. IfSampled (meaning_in l) (IsSample format places line))
found_in format places line (Ok l) h = line_takes format places line (meaning_in l) h
found_in format places line (Err e) h = tt

pub only_in : (format : Format) (places : ℕ) (line : List ℕ) (r : Result Line Fault) (s : Sampled)
    → Gives meaning_in r (line_at format places line) → IsSample format places line s
    → Gives meaning_in r (Ok (sampled s))
only_in format places line r s h is =
    subst (λ (x : Result Meaning Fault). Gives meaning_in r x) (line_again format places line s
    is) h
