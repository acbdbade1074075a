use Rattle.std.proofs.Common.{◌<◌, ◌≤◌, ◌+◌, length, subst, sym, vec_len}
use Rattle.waiting_room.specs.Fields.{IsHeadIn}
use Rattle.waiting_room.specs.Coming.{HeadEnds, IsTold, IsStop, IsHanded}
use Rattle.waiting_room.specs.declared.reading.End.TheVariants.{Whole}
use Rattle.waiting_room.proofs.ReadTexts.{handed_early, handed_astray, handed_part, handed_whole}
use Rattle.waiting_room.proofs.reading.receive.Goals as goal

pub returns-in-Some-clause-handed : goal.returns-in-Some-clause-handed
returns-in-Some-clause-handed g c =
    let ends : HeadEnds c.read_head.new.buf.items c.in-Some.end =
    rw c.in-Some.is at c.in_ok-end.ensures.comes in
    let told : IsTold (g.S.Source.input c.read_head.new.source)
    (g.S.Source.missed c.read_head.new.source) c.in-Some.end =
    rw c.in-Some.is at c.in_ok-end.ensures.told in
    handed_early _ _ _ _ _ _ ends c.in_ok-end.ensures.taken told

pub returns-in_default-length-clause-handed : goal.returns-in_default-length-clause-handed
returns-in_default-length-clause-handed g c =
    let frame = c.frame_of-frame.result in
    let h = c.frame_of-frame.ensures.0 in
    let is : IsHeadIn c.args.most c.read_head.new.buf.items frame h =
    subst (λ l. IsHeadIn c.args.most l frame h) c.as_slice.ensures.value c.frame_of-frame.ensures.1 in
    let fits : length c.read_head.new.buf.items ≤ 8192 =
    rw c.read_head.new.buf.ok.0 at c.in_ok-end.ensures.short in
    handed_astray _ _ _ _ _ frame h c.in_default-length.field-0 is fits c.in_default-length.is
    c.in_ok-end.ensures.taken

pub returns-in-Some-2-clause-handed : goal.returns-in-Some-2-clause-handed
returns-in-Some-2-clause-handed g c =
    let frame = c.frame_of-frame.result in
    let h = c.frame_of-frame.ensures.0 in
    let is : IsHeadIn c.args.most c.read_head.new.buf.items frame h =
    subst (λ l. IsHeadIn c.args.most l frame h) c.as_slice.ensures.value c.frame_of-frame.ensures.1 in
    let fits : length c.read_head.new.buf.items ≤ 8192 =
    rw c.read_head.new.buf.ok.0 at c.in_ok-end.ensures.short in
    let some : 0 < vec_len c.read_head.new.buf =
    rw c.in_default.is at c.in_ok-end.ensures.some in
    let here : 0 < length c.read_head.new.buf.items = rw c.read_head.new.buf.ok.0 at some in
    let stop : IsStop c.read_body.new.buf.items c.in-Some-2.end =
    rw c.in-Some-2.is at c.in_ok-end-2.ensures.stop in
    let told : IsTold (g.S.Source.input c.read_body.new.source)
    (g.S.Source.missed c.read_body.new.source) c.in-Some-2.end =
    rw c.in-Some-2.is at c.in_ok-end-2.ensures.told in
    let short : vec_len c.read_body.new.buf < c.frame_of-frame.result.end + c.in-Ok.length =
    rw c.in-Some-2.is at c.in_ok-end-2.ensures.short in
    let less : length c.read_body.new.buf.items < c.frame_of-frame.result.end + c.in-Ok.length =
    rw c.read_body.new.buf.ok.0 at short in
    let read = c.in_ok-end-2.ensures.bytes in
    handed_part _ _ _ _ _ _ read.0 _ frame h c.in-Ok.length _ is here fits c.in-Ok.is read.1 less
    stop c.in_ok-end.ensures.taken read.2 told

pub returns-clause-handed : goal.returns-clause-handed
returns-clause-handed g c =
    let frame = c.frame_of-frame.result in
    let h = c.frame_of-frame.ensures.0 in
    let is : IsHeadIn c.args.most c.read_head.new.buf.items frame h =
    subst (λ l. IsHeadIn c.args.most l frame h) c.as_slice.ensures.value c.frame_of-frame.ensures.1 in
    let fits : length c.read_head.new.buf.items ≤ 8192 =
    rw c.read_head.new.buf.ok.0 at c.in_ok-end.ensures.short in
    let whole : c.frame_of-frame.result.end + c.in-Ok.length ≤ vec_len c.read_body.new.buf =
    rw c.in_default-2.is at c.in_ok-end-2.ensures.whole in
    let read = c.in_ok-end-2.ensures.bytes in
    subst (λ l. IsHanded c.args.most (g.S.Source.input c.args.source.now)
    (g.S.Source.input c.read_body.new.source) (g.S.Source.missed c.read_body.new.source) l Whole)
    (sym c.truncate.ensures.items)
    (handed_whole _ _ _ _ _ c.read_head.new.buf.items read.0 c.read_body.new.buf.items frame h
    c.in-Ok.length is fits c.in-Ok.is read.1 (rw c.read_body.new.buf.ok.0 at whole)
    c.in_ok-end.ensures.taken read.2)
