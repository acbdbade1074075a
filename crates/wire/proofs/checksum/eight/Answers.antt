use Rattle.std.proofs.Common.{ℕ, ◌+◌, ◌<◌, refl, sym, ap, ◌∙◌, arith, drop}
use Rattle.std.specs.Prelude.{slice_index}
use Rattle.wire.specs.Checksum.{register}
use Rattle.wire.proofs.Shifts.{word_is, two_words_in, drop_eight}
use Rattle.wire.proofs.checksum.eight.Goals as goal

pub returns : goal.returns
returns c =
    let xs = c.args.bytes.now in
    let i = c.args.at in
    let byte = λ (k : ℕ). slice_index xs k in
    let first =
    c.from_le_bytes-first.ensures ∙ word_is (byte i) (byte (i + 1)) (byte (i + 2)) (byte (i + 3)) in
    let second =
    c.from_le_bytes-second.ensures
    ∙ word_is (byte (i + 4)) (byte (i + 5)) (byte (i + 6)) (byte (i + 7)) in
    let low = c.type_inv.bytes in
    let f : (k : ℕ) → byte k < 256 = λ k. omega (arith, low k) in
    ap (register c.args.state) (drop_eight xs i c.requires)
    ∙ two_words_in c.args.state (byte i) (byte (i + 1)) (byte (i + 2)) (byte (i + 3)) (byte (i + 4))
    (byte (i + 5)) (byte (i + 6)) (byte (i + 7)) (drop (i + 8) xs) (f i) (f (i + 1)) (f (i + 2))
    (f (i + 3)) (f (i + 4)) (f (i + 5)) (f (i + 6)) (f (i + 7))
    ∙ sym (ap (λ (r : ℕ). register r (drop (i + 8) xs))
    (rw (c.word_after_8.ensures, c.word_after_4.ensures, first, second) refl))
