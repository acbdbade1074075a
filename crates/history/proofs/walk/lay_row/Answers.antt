use Rattle.std.proofs.Common.{rules, ◌≡◌, ℤ, true, false, to_z, of_z, w64, ap, ◌∙◌}
use Rattle.std.specs.BTreeMap.{insert_entry}
use Rattle.labels.specs.Labels.{point_cmp}
use Rattle.labels.specs.Contents.{in_range}
use Rattle.labels.specs.Rows.{Row, points_in}
use Rattle.labels.specs.Parts.{laid_over, within}
use Rattle.history.proofs.Laying.{put_step, skip_step}
use Rattle.history.proofs.walk.lay_row.Goals as goal

pub loop-sample-preserved-in_ok-insert : goal.loop-sample-preserved-in_ok-insert
loop-sample-preserved-in_ok-insert c =
    let row : Row = c.args.row in
    let q = c.args.query.now in
    let s : ℤ × ℤ = c.in-Some.sample in
    let t_fits : to_z w64 (of_z w64 c.t.result) ≡ c.t.result = search rules in
    let u_fits : to_z w64 (of_z w64 c.t-then-has_time.result) ≡ c.t-then-has_time.result =
    search rules in
    let v_fits : to_z w64 (of_z w64 c.v.result) ≡ c.v.result = search rules in
    let inside : in_range q.from q.to s.0 ≡ true =
    cc (c.t.ensures, c.has_time.ensures, c.if-has_time.true) in
    let labels_is : c.in_ok-try_clone.field-0 ≡ row.0 =
    c.in_ok-try_clone.ensures ∙ ap (λ (r : Row). r.0) c.into_parts-labels.ensures in
    let made : c.insert.new.self.entries
    ≡ insert_entry point_cmp c.loop-sample.content.entries (row.0, s.0) s.1
    = c.in_ok-insert.ensures.entries
    ∙ (λ i. insert_entry point_cmp c.loop-sample.content.entries (
      labels_is i,
      (u_fits ∙ c.t-then-has_time.ensures) i,
    ) ((v_fits ∙ c.v.ensures) i)) in
    put_step row.0 q.from q.to c.loop-sample.samples.items c.pop.new.self.items s
    c.loop-sample.content.entries c.insert.new.self.entries
    (laid_over (points_in row.0 (within q.from q.to row.1))
    c.args.content.now.entries) c.in-Some.ensures.items inside made c.loop-sample.invariant

pub loop-sample-preserved : goal.loop-sample-preserved
loop-sample-preserved c =
    let row : Row = c.args.row in
    let q = c.args.query.now in
    let s : ℤ × ℤ = c.in-Some.sample in
    let t_fits : to_z w64 (of_z w64 c.t.result) ≡ c.t.result = search rules in
    let outside : in_range q.from q.to s.0 ≡ false =
    cc (c.t.ensures, c.has_time.ensures, c.if-has_time.false) in
    skip_step row.0 q.from q.to c.loop-sample.samples.items c.pop.new.self.items s
    c.loop-sample.content.entries
    (laid_over (points_in row.0 (within q.from q.to row.1))
    c.args.content.now.entries) c.in-Some.ensures.items outside c.loop-sample.invariant
