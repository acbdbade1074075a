use Rattle.server.proofs.status.answer_client.Goals as goal

pub returns-clause-replied : goal.returns-clause-replied
returns-clause-replied g c =
    let told = rw c.as_slice.ensures.value at c.in_ok-reply.ensures in
    let sent = rw c.as_slice-2.ensures.value at c.in_ok-write_all.ensures.bytes in
    (c.in_ok-reply.reply.items, told, sent)
