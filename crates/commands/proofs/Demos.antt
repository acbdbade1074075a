-- What a pass has seen that was told of the two events of the demo, and why the demo is not
-- answered.
use Rattle.std.proofs.Common.{◌≡◌, ℕ, List, [], ◌∷◌, ◌++◌, length, length-append, sym, ap, ◌∙◌}
use Rattle.std.proofs.Common.{subst, arith, append_assoc}
use Rattle.std.specs.Prelude.{Result, IfOk, IfErr}
use Rattle.std.specs.List.{Contains}
use Rattle.std.proofs.lemmas.List.{append-nil}
use Rattle.std.proofs.lemmas.Result.{IfOk-weaker, IfErr-weaker}
use mathlib.Core.List.{IsPrefix}
use Rattle.labels.specs.Contents.{Content}
use Rattle.labels.specs.Rows.{AreRows}
use Rattle.matchers.specs.Views.{QueryView}
use Rattle.matchers.specs.Queries.{selected_by}
use Rattle.head.specs.Blocks.{opening_of}
use Rattle.head.specs.Heads.{SnapshotParts, world_of}
use Rattle.head.specs.Worlds.{Event, replayed}
use Rattle.snapshots.specs.declared.entry.Entry.{Entry}
use Rattle.snapshots.specs.Replays.{events_in, EndsWith}
use Rattle.snapshots.specs.Seats.{SeatView}
use Rattle.snapshots.specs.Views.{Known}
use Rattle.snapshots.proofs.Prefixes.{prefix_trans}
use Rattle.answers.specs.Headline.{IsHeadline}
use Rattle.answers.specs.declared.audited.AuditedAnswer.{AuditedAnswer}
use Rattle.answers.specs.MergedRows.{rows_of}
use Rattle.answers.proofs.Headlines.{world_content}
use Rattle.commands.specs.Demo.{first_event, second_event, demo_events}
use Rattle.commands.specs.DemoAnswer.{IsAnswerAfter, IsCommitFault, IsDemoFault, HasLast}
use Rattle.commands.specs.DemoAnswer.{by_commit}
use Rattle.commands.specs.declared.fault.Fault.{Fault}

whole_by : {A : Type 0} (xs ys rest : List A) → xs ++ rest ≡ ys → length rest ≡ 0 → xs ≡ ys
whole_by xs ys [] e none = sym (append-nil xs) ∙ e
whole_by xs ys (r ∷ rest) e none = absurd (omega (arith, none))

-- a prefix as long as the list is the list
whole : {A : Type 0} (xs ys : List A) → IsPrefix xs ys → length xs ≡ length ys → xs ≡ ys
whole xs ys p same =
    whole_by xs ys p.0 p.1 (omega (arith, length-append xs p.0, ap length p.1, same))

alone : {A : Type 0} (xs before : List A) (x : A) → xs ≡ before ++ x ∷ []
    → length xs ≡ 1 → xs ≡ x ∷ []
alone xs [] x e one = e
alone xs (b ∷ before) x e one =
    absurd (omega (arith, length-append before (x ∷ []), ap length e, one))

-- of two items the second is the last, and the first what a prefix of one item has
pair_of : {A : Type 0} (xs before rest : List A) (x y : A) → xs ≡ before ++ y ∷ [] → length xs ≡ 2
    → (x ∷ []) ++ rest ≡ xs → xs ≡ x ∷ y ∷ []
pair_of xs [] rest x y e two p = absurd (omega (arith, ap length e, two))
pair_of xs (b ∷ []) rest x y e two p =
    let same : x ≡ b = cc (p ∙ e) in e ∙ ap (λ z. z ∷ y ∷ []) (sym same)
pair_of xs (b ∷ c ∷ before) rest x y e two p =
    absurd (omega (arith, length-append before (y ∷ []), ap length e, two))

module _ (first second seen : List Entry) (n m : ℕ) (ends_first : EndsWith first_event n first)
    (ends_second : EndsWith second_event m second)
    (one : length first ≡ 1) (two : length second ≡ 2) (both : length seen ≡ 2) where
  -- a list of two events which begins with each of two lists, of which one ends with the first
  -- event and the other with the second
  events_seen : IsPrefix first seen → IsPrefix second seen → events_in seen ≡ demo_events
  events_seen p q =
      let is_second : second ≡ seen = whole second seen q (two ∙ sym both) in
      let is_first = alone first ends_first.0 _ ends_first.1 one in
      ap events_in (pair_of seen ends_second.0 p.0 _ _ (sym is_second ∙ ends_second.1) both
      (subst (λ (xs : List Entry). xs ++ p.0 ≡ seen) is_first p.1))

module _ (opening : SnapshotParts) (query : QueryView) (before after : Known)
    (answer : AuditedAnswer) where
  -- the headline of a store that was opened empty, where the events that were seen are the demo's
  answer_after : opening_of [] ≡ opening → IsHeadline opening query before after answer
      → events_in after.seen ≡ demo_events
      → IsAnswerAfter demo_events query answer
  answer_after empty h events = record {
    snapshot = h.snapshot;
    replayed = ap (λ (s : SnapshotParts). replayed (world_of s) demo_events) empty
        ∙ (ap (replayed (world_of opening)) (sym events) ∙ h.replay.replay);
    audited = record {
      each = h.parts;
      rows = subst (λ (c : Content). AreRows (rows_of answer) (selected_by query c))
          (sym (world_content h.snapshot)) h.rows;
    };
  }

  pub demo_answered : opening_of [] ≡ opening → IsHeadline opening query before after answer
      → (first second told : List Entry) → HasLast first_event first
      → HasLast second_event second
      → IsPrefix first told → IsPrefix told before.told → IsPrefix second before.told
      → length first ≡ 1 → length second ≡ 2 → length after.seen ≡ 2
      → IsAnswerAfter demo_events query answer
  demo_answered empty h first second told ends_first ends_second p q r one two both =
      let up = prefix_trans told before.told after.seen q h.told in
      answer_after empty h (events_seen first second after.seen ends_first.0 ends_second.0
      ends_first.1 ends_second.1 one two both
      (prefix_trans first told after.seen p up) (prefix_trans second before.told
      after.seen r h.told))

-- what the commit of one of the demo's events says
module _ (event wanted : Event) (same : event ≡ wanted) (result : Result (List Entry) Fault) where
  pub has_last : (seat : ℕ) → IfOk result (EndsWith event seat) → IfOk result (HasLast wanted)
  has_last seat =
      IfOk-weaker result (EndsWith event seat) (HasLast wanted)
      (λ entries h. (seat, subst (λ (e : Event). EndsWith e seat entries) same h))

  pub was_refused : (opening : SnapshotParts) → opening_of [] ≡ opening → (seat : SeatView)
      → Contains demo_events wanted
      → IfErr result (λ fault. IsCommitFault opening seat event fault)
      → IfErr result (λ fault. IsDemoFault fault)
  was_refused opening empty seat among =
      IfErr-weaker result (λ fault. IsCommitFault opening seat event fault)
      (λ fault. IsDemoFault fault)
      (λ fault h. by_commit seat event
      (subst (λ (e : Event). Contains demo_events e) (sym same) among)
      (subst (λ (s : SnapshotParts). IsCommitFault s seat event fault) (sym empty) h))

-- two items more
pub two_more : {A : Type 0} (xs ys zs : List A) (x y v w : A) → ys ≡ xs ++ x ∷ [] → x ≡ v → y ≡ w
    → zs ≡ ys ++ y ∷ [] → zs ≡ xs ++ v ∷ w ∷ []
two_more xs ys zs x y v w one same_x same_y two =
    two
    ∙ (ap (λ l. l ++ y ∷ []) one
    ∙ (append_assoc xs (x ∷ []) (y ∷ []) ∙ (λ i. xs ++ same_x i ∷ same_y i ∷ [])))
