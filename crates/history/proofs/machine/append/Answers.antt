use Rattle.std.proofs.Common.{rules, ◌≡◌, true, false, ℤ, ◌++◌, [], ◌∷◌, length, to_z, of_z, w64, ap, ◌∙◌, arith}
use Rattle.labels.specs.Labels.{Labels}
use Rattle.labels.specs.Contents.{is_time}
use Rattle.head.specs.Worlds.{Batch}
use Rattle.history.specs.Held.{buffers_of}
use Rattle.history.proofs.Replying.{full_step, untimed_step, appended_step}
use Rattle.history.proofs.machine.append.Goals.{then-len-ge-MAX_BATCH, else-len-ge-MAX_BATCH+then-is_time+in_ok-try_clone+in_ok-push, else-len-ge-MAX_BATCH+else-is_time}
use Rattle.history.proofs.machine.append.Goals as goal

pub returns : goal.returns
returns c = λ w.
    let own : Batch = c.take-samples.result.items in
    let samples : Batch = c.if-len-ge-MAX_BATCH.samples.items in
    let reply = c.if-len-ge-MAX_BATCH.reply in
    let old = buffers_of c.args.held.now in
    let left = buffers_of c.take-samples.new.self in
    let new = buffers_of c.put.new.self in
    let l : Labels = c.args.labels.now in
    let s : ℤ × ℤ = c.args.sample in
    let size : c.len.result ≡ length own = search (rules, c.len.ensures) in
    elim c.if-len-ge-MAX_BATCH.branch [
      | then-len-ge-MAX_BATCH x ↦
          full_step w old left new c.args.actor c.take-samples.ensures.left l s own samples reply
          c.take-samples.ensures.taken c.in_ok-put.ensures
          (ap (λ v. v.items) x.samples-is) x.reply-is
          (omega (arith, size, x.if-len-ge-MAX_BATCH.true))
      | else-len-ge-MAX_BATCH+then-is_time+in_ok-try_clone+in_ok-push x ↦
          let fits : to_z w64 (of_z w64 x.t.result) ≡ x.t.result = search rules in
          let timed : is_time s.0 ≡ true = cc (x.t.ensures, x.is_time.ensures, x.if-is_time.true) in
          appended_step w old left new c.args.actor c.take-samples.ensures.left l s own samples
          reply c.take-samples.ensures.taken c.in_ok-put.ensures
          (ap (λ v. v.items) x.samples-is
          ∙ x.in_ok-push.ensures.items
          ∙ ap (λ (k : Labels). own ++ (k, s) ∷ []) x.in_ok-try_clone.ensures)
          x.reply-is (omega (arith, size, x.if-len-ge-MAX_BATCH.false)) timed
      | else-len-ge-MAX_BATCH+else-is_time x ↦
          let fits : to_z w64 (of_z w64 x.t.result) ≡ x.t.result = search rules in
          let timed : is_time s.0 ≡ false =
          cc (x.t.ensures, x.is_time.ensures, x.if-is_time.false) in
          untimed_step w old left new c.args.actor c.take-samples.ensures.left l s own samples reply
          c.take-samples.ensures.taken c.in_ok-put.ensures
          (ap (λ v. v.items) x.samples-is) x.reply-is
          (omega (arith, size, x.if-len-ge-MAX_BATCH.false)) timed
    ]
