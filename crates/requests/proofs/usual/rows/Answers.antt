use Rattle.std.proofs.Common.{◌≡◌, [], ◌∷◌, ◌++◌, None, Some, refl, sym, subst, arith}
use Rattle.json.specs.Json.{after_end_array}
use Rattle.requests.specs.Rows.{WrittenRow, AreRowsOf, row_in, rows_in}
use Rattle.requests.specs.Usual.{Comes}
use Rattle.requests.proofs.RowTexts.{zip_more}
use Rattle.requests.proofs.UsualTexts.{comes_shorter, items_turn, items_end}
use Rattle.requests.proofs.usual.rows.Goals as goal

pub rows-smaller : goal.rows-smaller
rows-smaller c =
    let stays : c.take_end_array.new.self ≡ c.rows.reader = grind arith in
    let one = c.in_ok-row.ensures in
    comes_shorter row_in 3 c.rows.reader c.row.new.reader one.0
    (subst (λ r. Comes row_in 3 r one.0 c.row.new.reader) stays one.1)

pub rows-preserved : goal.rows-preserved
rows-preserved c =
    let going : after_end_array c.rows.reader ≡ None = grind arith in
    let stays : c.take_end_array.new.self ≡ c.rows.reader = grind arith in
    let one = c.in_ok-row.ensures in
    let so_far = c.rows.invariant in (
      so_far.0 ++ one.0 ∷ [],
      subst (λ rs. AreRowsOf (so_far.0 ++ one.0 ∷ []) rs) (sym c.in_ok-push.ensures.items)
          (zip_more so_far.0 c.rows.rows.items one.0 c.in_ok-row.row so_far.1 one.2),
      items_turn WrittenRow row_in rows_in refl (λ d ds. refl) 3 c.begin_array.new.reader
          c.rows.reader c.row.new.reader so_far.0 one.0 so_far.2 going
          (subst (λ r. Comes row_in 3 r one.0 c.row.new.reader) stays one.1),
    )

pub returns : goal.returns
returns c =
    let over : after_end_array c.rows.reader ≡ Some c.take_end_array.new.self = grind arith in
    let so_far = c.rows.invariant in (
      so_far.0,
      items_end WrittenRow row_in rows_in refl (λ d ds. refl) 3 c.args.reader.now
          c.begin_array.new.reader c.rows.reader c.take_end_array.new.self so_far.0
          c.in_ok-begin_array.ensures
          so_far.2 over,
      so_far.1,
    )
