use Rattle.std.proofs.Common.{◌+◌, ◌<◌, [], ◌++◌, length, drop, arith, ap, sym, ◌∙◌, append-nil}
use Rattle.json.specs.Print.{escape}
use Rattle.json.proofs.Printed.Strings.{escape_to_stop, escape_at, escape_end}
use Rattle.json.proofs.Printed.Room.{moved}
use Rattle.answers.proofs.strings.append_escaped.Goals as goal

pub returns-then-stop-text : goal.returns-then-stop-text
returns-then-stop-text c =
    let text = c.args.text.now in
    let close = c.args.close.now in
    let stop = c.plain_end-stop.result in
    let mid =
    moved _ _ _ _ _ _ c.in_ok-extend_from_slice.ensures.items (escape_to_stop text c.loop-out.at
    stop close c.plain_end-stop.ensures.value) c.loop-out.invariant.written in
    sym (append-nil _)
    ∙ moved _ _ close [] _ _ c.in_ok-extend_from_slice-2.ensures.items
    (escape_end text stop close (omega (arith, c.if-stop-text.true))) mid

pub loop-out-preserved : goal.loop-out-preserved
loop-out-preserved c =
    let text = c.args.text.now in
    let close = c.args.close.now in
    let stop = c.plain_end-stop.result in
    let within : stop < length text =
    omega (arith, c.plain_end-stop.ensures.within, c.if-stop-text.false) in
    let mid =
    moved _ _ _ _ _ _ c.in_ok-extend_from_slice.ensures.items (escape_to_stop text c.loop-out.at
    stop close c.plain_end-stop.ensures.value) c.loop-out.invariant.written in
    let split =
    escape_at text stop close within
    ∙ ap (λ l. l ++ (escape (drop (stop + 1) text) ++ close)) (sym c.escape_of-len.ensures.value) in
    record {
      within = omega (arith, within);
      written = moved _ _ _ _ _ _ c.in_ok-extend_from_slice-3.ensures.items split mid;
    }
