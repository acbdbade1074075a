use Rattle.std.proofs.Common.{◌≡◌, ◌∙◌, ◌++◌, ◌+◌, ap, take, ℕ, List, length, rules}
use Rattle.std.proofs.Math.Seq.{take-append-add}
use Rattle.packed_chunks.proofs.Bits.{take_bytes}
use Rattle.packed_chunks.proofs.rows.push_low.Goals as goal

pub returns : goal.returns
returns c =
    let end : c.len.result ≡ length c.args.rows.now.items = search rules in
    c.truncate.ensures.items
    ∙ ap (take (c.len.result + c.args.bytes)) c.in_ok-extend_from_slice.ensures.items
    ∙ ap (λ (n : ℕ). take (n + c.args.bytes) (c.args.rows.now.items ++ c.write_u64.new.buf)) end
    ∙ take-append-add c.args.rows.now.items c.write_u64.new.buf c.args.bytes
    ∙ ap (λ (l : List ℕ). c.args.rows.now.items ++ take c.args.bytes l) c.write_u64.ensures
    ∙ ap (λ (l : List ℕ). c.args.rows.now.items ++ l) (take_bytes 0 8 c.args.bytes c.args.number c.requires)
