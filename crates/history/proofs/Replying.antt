-- Replies, one step after another.
use Rattle.std.proofs.Common.{◌≡◌, ◌≤◌, ◌<◌, ◌+◌, ℕ, ℤ, true, false, List, [], ◌∷◌, ◌++◌, length, drop, get_or, refl, sym, ◌∙◌, ap, subst, arith, append_assoc}
use Rattle.std.specs.Prelude.{Some, Err, nat_le, if◌then◌else◌}
use Rattle.std.specs.List.{AllZip}
use Rattle.std.proofs.lemmas.List.{drop_more}
use Rattle.std.proofs.lemmas.Bool.Decides.{nat_tests}
use Rattle.labels.specs.Labels.{Labels}
use Rattle.labels.specs.Contents.{is_time}
use Rattle.head.specs.declared.error.AppendError.TheVariants.{Full, TimeRange}
use Rattle.head.specs.declared.error.CommitError.{CommitError}
use Rattle.head.specs.Worlds.{World, Batch, Event, batch, batch_of, stepped}
use Rattle.history.specs.declared.reply.Reply.{Reply}
use Rattle.history.specs.declared.reply.Reply.TheVariants.{Done, NotAppended, Refused}
use Rattle.history.specs.Steps.{Step, append, commit}
use Rattle.history.specs.Machine.{Buffers, with_buffer, Machine, Outcome, done, not_appended, refused, settled, machine_step, machine_replies}
use Rattle.history.specs.Replies.{TellsOutcome, IsSettled, IsStep}
use Rattle.history.proofs.Keeping.{replaced, put_back}

is_step : (old new : Machine) (step : Step) (reply : Reply) (o : Outcome × Machine)
    → machine_step old step ≡ o → TellsOutcome o.0 reply → o.1 ≡ new → IsStep old step reply new
is_step old new step reply o is said after = record {
  answer =
      subst (λ (x : Outcome). TellsOutcome x reply) (sym (ap (λ (p : Outcome × Machine). p.0) is)) said;
  after = ap (λ (p : Outcome × Machine). p.1) is ∙ after;
}

full : (n : ℕ) → 4096 ≤ n → nat_le 4096 n ≡ true
full n h = grind (arith, nat_tests)

not_full : (n : ℕ) → n < 4096 → nat_le 4096 n ≡ false
not_full n h = grind (arith, nat_tests)

at_buffers : World → Buffers → Machine
at_buffers w buffers = record { world = w; buffers = buffers }

module _ (w : World) (old left new : Buffers) (actor : ℕ)
    (taken : left ≡ with_buffer actor [] old) where
  module _ (l : Labels) (s : ℤ × ℤ) (own samples : Batch) (reply : Reply) (own_is : own ≡ old actor)
      (put : new ≡ with_buffer actor samples left) where
    pub full_step : samples ≡ own → reply ≡ NotAppended Full → 4096 ≤ length own
        → IsStep (record { world = w; buffers = old }) (append actor l s) reply (record {
          world = w;
          buffers = new;
        })
    full_step same said many =
        let m : Machine = record { world = w; buffers = old } in
        is_step m (record { world = w; buffers = new }) (append actor l s) reply
        (not_appended Full, m)
        (ap (λ b. if b then (not_appended Full, m) else (if is_time s.0 then (
          done,
          record { world = w; buffers = with_buffer actor (old actor ++ (l, s) ∷ []) old },
        ) else (not_appended TimeRange, m))) (ap (λ xs. nat_le 4096 (length xs)) (sym own_is)
        ∙ full (length own) many))
        (subst (TellsOutcome (not_appended Full)) (sym said) refl)
        (ap (λ (b : Buffers). record { world = w; buffers = b })
        (put_back actor samples old left new (same ∙ own_is) taken put))

    pub untimed_step : samples ≡ own → reply ≡ NotAppended TimeRange → length own < 4096
        → is_time s.0 ≡ false
        → IsStep (record { world = w; buffers = old }) (append actor l s) reply (record {
          world = w;
          buffers = new;
        })
    untimed_step same said few timed =
        let m : Machine = record { world = w; buffers = old } in
        is_step m (record { world = w; buffers = new }) (append actor l s) reply
        (not_appended TimeRange, m)
        (ap (λ b. if b then (not_appended Full, m) else (if is_time s.0 then (
          done,
          record { world = w; buffers = with_buffer actor (old actor ++ (l, s) ∷ []) old },
        ) else (not_appended TimeRange, m))) (ap (λ xs. nat_le 4096 (length xs)) (sym own_is)
        ∙ not_full (length own) few)
        ∙ ap (λ b. if b then (
          done,
          record { world = w; buffers = with_buffer actor (old actor ++ (l, s) ∷ []) old },
        ) else (not_appended TimeRange, m)) timed)
        (subst (TellsOutcome (not_appended TimeRange)) (sym said) refl)
        (ap (λ (b : Buffers). record { world = w; buffers = b })
        (put_back actor samples old left new (same ∙ own_is) taken put))

    pub appended_step : samples ≡ own ++ (l, s) ∷ [] → reply ≡ Done → length own < 4096
        → is_time s.0 ≡ true
        → IsStep (record { world = w; buffers = old }) (append actor l s) reply (record {
          world = w;
          buffers = new;
        })
    appended_step more said few timed =
        let m : Machine = record { world = w; buffers = old } in
        let next : Machine =
        record { world = w; buffers = with_buffer actor (old actor ++ (l, s) ∷ []) old } in
        is_step m (record { world = w; buffers = new }) (append actor l s) reply (done, next)
        (ap (λ b. if b then (not_appended Full, m) else (if is_time s.0 then (done, next) else (
          not_appended TimeRange,
          m,
        ))) (ap (λ xs. nat_le 4096 (length xs)) (sym own_is) ∙ not_full (length own) few)
        ∙ ap (λ b. if b then (done, next) else (not_appended TimeRange, m)) timed)
        (subst (TellsOutcome done) (sym said) refl)
        (ap (λ (b : Buffers). record { world = w; buffers = b })
        (sym (replaced actor samples old left new taken put
        ∙ ap (λ xs. with_buffer actor xs old) (more ∙ ap (λ xs. xs ++ (l, s) ∷ []) own_is))))

  -- a batch that was refused is the buffer again
  pub refused_step : (own samples : Batch) (event : Event) (error : CommitError) → own ≡ old actor
      → event ≡ batch own → IsSettled (stepped w event) (Err error)
      → batch_of event ≡ Some samples → new ≡ with_buffer actor samples left → IsStep (record {
        world = w;
        buffers = old;
      }) (commit actor) (Refused error) (record { world = w; buffers = new })
  refused_step own samples event error own_is is settles back put =
      let m : Machine = record { world = w; buffers = old } in
      let same : Some own ≡ Some samples = sym (ap batch_of is) ∙ back in
      let samples_is : samples ≡ own = cc in
      is_step m (record { world = w; buffers = new }) (commit actor) (Refused error)
      (refused settles.0, m)
      (ap (settled m (with_buffer actor [] old)) (ap (λ xs. stepped w (batch xs)) (sym own_is)
      ∙ ap (stepped w) (sym is)
      ∙ settles.1))
      (settles.0, refl, settles.2)
      (ap (λ (b : Buffers). record { world = w; buffers = b })
      (put_back actor samples old left new (samples_is ∙ own_is) taken put))

-- replies to a step more
pub reply_step : (first m next : Machine) (steps : List Step) (i : ℕ) (step : Step) (reply : Reply)
    (old new : List Reply) → i < length steps → step ≡ get_or steps i step
    → IsStep m step reply next
    → new ≡ old ++ reply ∷ []
    → ((rest : List Reply) → AllZip TellsOutcome (machine_replies m (drop i steps)) rest
    → AllZip TellsOutcome (machine_replies first steps) (old ++ rest))
    → (rest : List Reply) → AllZip TellsOutcome (machine_replies next (drop (i + 1) steps)) rest
    → AllZip TellsOutcome (machine_replies first steps) (new ++ rest)
reply_step first m next steps i step reply old new inside at is pushed before rest h =
    subst (AllZip TellsOutcome (machine_replies first steps))
    (sym (ap (λ rs. rs ++ rest) pushed ∙ append_assoc old (reply ∷ []) rest))
    (before (reply ∷ rest)
    (subst (λ (ss : List Step). AllZip TellsOutcome (machine_replies m ss) (reply ∷ rest))
    (sym (drop_more steps i step inside ∙ ap (λ x. x ∷ drop (i + 1) steps) (sym at))) (
      is.answer,
      subst (λ (n : Machine). AllZip TellsOutcome (machine_replies n (drop (i + 1) steps)) rest)
          (sym is.after) h,
    )))
