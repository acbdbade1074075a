-- What a report says of searches.
use Rattle.std.proofs.Common.{◌≡◌, ◌≤◌, ◌-◌, ◌+◌, ◌++◌, ◌∷◌, [], ℕ, Bool, true, false, List, length, take, Option, Some, None, refl, sym, ap, subst, ◌∙◌, arith}
use Rattle.std.specs.Prelude.{unwrap_or, slice_get, if◌then◌else◌}
use Rattle.std.specs.List.{flat_map}
use Rattle.std.proofs.lemmas.List.{length-append}
use Rattle.std.proofs.lemmas.Option.{slice_get_read}
use Rattle.std.proofs.Math.Seq.{get_or-append_seam, take-length}
use Rattle.labels.specs.Parts.{Part}
use Rattle.labels.specs.Rows.{Row, AreRows}
use Rattle.labels.proofs.Times.{true_not_false}
use Rattle.matchers.specs.Views.{QueryView}
use Rattle.reply_reader.specs.declared.reply.Reply.{Reply}
use Rattle.reply_reader.specs.declared.reply.ToldPart.{ToldPart}
use Rattle.auditor.specs.Judgements.{answers_of}
use Rattle.auditor.specs.Listing.{last_listed}
use Rattle.whole_audit.specs.Grading.{is_right}
use Rattle.whole_audit.specs.StateLines.{AreStateLines, IsGradeOfRows}
use Rattle.whole_audit.specs.declared.grade.Grade.{Grade}
use Rattle.whole_audit.specs.declared.grade.Grade.TheVariants.{Valid, NumberedOtherwise, Skipped, Flawed, Misnamed}
use Rattle.whole_audit.specs.declared.lines.StateLine.{StateLine}
use Rattle.whole_audit.specs.declared.lines.StateSubject.TheVariants as of
use Rattle.kept_walk.specs.Kept.{Event}
use Rattle.kept_world.specs.Changes.{LeadsTo}
use Rattle.kept_world.specs.States.{State, numbered, shown, state_after}
use Rattle.reply_state.specs.Searches.{AreRightIn}
use Rattle.reply_state.proofs.Rights.{whole_when, listed_when}
use Rattle.store_audit.specs.Reports.{AreLinesAt, ArePlaces, IsEarlier, IsFound, IsReport}
use Rattle.store_audit.specs.Reports.{has_right_rows, is_right_line}
use Rattle.store_audit.specs.declared.judging.StateReport.{StateReport}

-- THE LINE OF THE ROWS

last_of : (xs : List StateLine) (x : StateLine)
    → slice_get (xs ++ x ∷ []) (length (xs ++ x ∷ []) - 1) ≡ Some x
last_of xs x =
    let all : List StateLine = xs ++ x ∷ [] in
    let long : length all ≡ length xs + 1 = length-append xs (x ∷ []) in
    ap (slice_get all) (let e : length all - 1 ≡ length xs = omega (arith, long) in e)
    ∙ slice_get_read all (length all) (length xs) x refl (omega (arith, long))
    (sym (get_or-append_seam xs x [] x))

grade_right : (told : List ToldPart) (rows : List Row) (grade : Grade)
    → IsGradeOfRows (flat_map answers_of told) rows grade → is_right grade ≡ true
    → AreRows rows (last_listed (flat_map answers_of told))
grade_right told rows Valid h e = h
grade_right told rows NumberedOtherwise h e = absurd h
grade_right told rows Skipped h e = absurd h
grade_right told rows (Flawed flaw) h e = absurd (true_not_false (sym e))
grade_right told rows Misnamed h e = absurd h

grade_wrong : (told : List ToldPart) (rows : List Row) (grade : Grade)
    → IsGradeOfRows (flat_map answers_of told) rows grade → is_right grade ≡ false
    → AreRows rows (last_listed (flat_map answers_of told)) → ⊥
grade_wrong told rows Valid h e are = true_not_false e
grade_wrong told rows NumberedOtherwise h e are = h
grade_wrong told rows Skipped h e are = h
grade_wrong told rows (Flawed flaw) h e are = h.1 are
grade_wrong told rows Misnamed h e are = h

module _ (blocks : List Part) (head : Part) (query : QueryView) (reply : Reply)
    (lines : List StateLine) (are : AreStateLines blocks head query reply lines) where
  grade_is : has_right_rows lines ≡ is_right are.of_rows
  grade_is =
      let last : StateLine = record { subject = of.Rows; grade = are.of_rows } in
      ap has_right_rows are.whole
      ∙ ap is_right_line
      (last_of (are.of_parts ++ are.of_blocks ++ are.of_head ++ are.of_names) last)

  rows_right : has_right_rows lines ≡ true
      → AreRows reply.rows.items (last_listed (flat_map answers_of reply.parts.items))
  rows_right e =
      grade_right reply.parts.items reply.rows.items are.of_rows are.is_of_rows
      (sym grade_is ∙ e)

  rows_wrong : has_right_rows lines ≡ false
      → AreRows reply.rows.items (last_listed (flat_map answers_of reply.parts.items)) → ⊥
  rows_wrong e =
      grade_wrong reply.parts.items reply.rows.items are.of_rows are.is_of_rows
      (sym grade_is ∙ e)

-- THE STATES

module _ (query : QueryView) (reply : Reply) (since : ℕ) (first : State) (events : List Event) where
  pub found_of : (found earlier : Option ℕ) (told many : ℕ)
      → ArePlaces query reply since first events found earlier → told ≡ unwrap_or found many
      → many ≡ length events → IsFound query reply since first events found told
  found_of (Some at) earlier told many are is n = (is, are.1)
  found_of None (Some place) told many are is n = (is ∙ n, are.0)
  found_of None None told many are is n = (is ∙ n, are.0)

  module _ (blocks : List Part) (head : Part) (lines : List StateLine)
      (of_state : AreStateLines blocks head query reply lines) where
    pub earlier_of : (found earlier : Option ℕ) (right : Bool) → has_right_rows lines ≡ right
        → ArePlaces query reply since first events found earlier
        → IsEarlier query reply first events found (if right then earlier else None)
    earlier_of (Some at) earlier true e are = are.0
    earlier_of (Some at) earlier false e are = refl
    earlier_of None (Some place) true e are = (
      are.1.0,
      are.1.1,
      (
        are.1.2.0,
        are.1.2.1,
        whole_when query reply are.1.2.0 are.1.2.2
            (rows_right blocks head query reply lines of_state e),
      ),
    )
    earlier_of None (Some place) false e are = λ n s low high leads whole.
        rows_wrong blocks head query reply lines of_state e (listed_when query reply s whole)
    earlier_of None None true e are = λ n s low high leads whole. are.1 n s low high leads whole.parts
    earlier_of None None false e are = λ n s low high leads whole. are.1 n s low high leads whole.parts

  -- a report of what was found, with the lines over the state that is told
  pub is_report : (report : StateReport) (found earlier : Option ℕ) (many : ℕ) (s : State)
      → LeadsTo first events report.told s
      → AreStateLines s.blocks (numbered 1 (shown s.head)) query reply report.lines.items
      → report.found ≡ found
      → report.earlier ≡ (if has_right_rows report.lines.items then earlier else None)
      → report.told ≡ unwrap_or found many → many ≡ length events → report.events ≡ many
      → ArePlaces query reply since first events found earlier
      → IsReport query reply since first events report
  is_report report found earlier many s leads lines f e t n m are = record {
    found = subst (λ (o : Option ℕ). IsFound query reply since first events o report.told) (sym f)
        (found_of found earlier report.told many are t n);
    earlier = subst (λ (o : Option ℕ). IsEarlier query reply first events o report.earlier) (sym f)
        (subst (λ (o : Option ℕ). IsEarlier query reply first events found o) (sym e)
        (earlier_of s.blocks (numbered 1 (shown s.head)) report.lines.items lines found earlier
        (has_right_rows report.lines.items) refl are));
    lines = (s, leads, lines);
    counted = m ∙ n;
  }

  -- a report of the last state, with the lines over that
  pub is_last : (report : StateReport) (many : ℕ) (s : State) → many ≡ length events → since ≤ many
      → state_after events first ≡ Some s → AreRightIn query reply.parts.items s
      → AreStateLines s.blocks (numbered 1 (shown s.head)) query reply report.lines.items
      → report.found ≡ Some many → report.earlier ≡ None → report.told ≡ many
      → report.events ≡ many → IsReport query reply since first events report
  is_last report many s m after leads right lines f e t n =
      let at : LeadsTo first events many s =
      ap (λ (es : List Event). state_after es first)
      (ap (λ (k : ℕ). take k events) m ∙ take-length events)
      ∙ leads in
      record {
        found = subst (λ (o : Option ℕ). IsFound query reply since first events o report.told) (sym f)
            (t, (after, omega (arith, m), (s, at, right)));
        earlier = subst (λ (o : Option ℕ). IsEarlier query reply first events o report.earlier) (sym f)
            e;
        lines = subst (λ (k : ℕ). AreLinesAt query reply first events k report.lines.items) (sym t)
            (s, at, lines);
        counted = n ∙ m;
      }
