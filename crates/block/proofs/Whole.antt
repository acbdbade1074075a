-- What opening answers, by what the files spell.
use Rattle.std.proofs.Common.{◌≡◌, ℕ, List, Result, Ok, Err, sym, ap, ◌∙◌}
use Rattle.std.specs.Prelude.{ℤ}
use Rattle.wire.specs.Spelling.{IsBytes}
use Rattle.labels.specs.Parts.{Part}
use Rattle.block.specs.declared.error.BlockError.{BlockError}
use Rattle.block.specs.declared.error.BlockError.TheVariants.{Memory}
use Rattle.block.specs.Blocks.{Shown}
use Rattle.block.specs.Grammar.{IsBlock}
use Rattle.block.specs.Opening.{block_of}
use Rattle.block.specs.Outcome.{Gives}
use Rattle.block.proofs.Only.{block_again}

pub is_only : (range : ℤ × ℤ) (file chunks tombstones : List ℕ) (part : Part)
    (r : Result Shown BlockError) → IsBytes file → IsBytes tombstones
    → Gives (λ (b : Shown). b) r (block_of range file chunks tombstones)
    → IsBlock range file chunks tombstones part → Gives (λ (b : Shown). b.part) r (Ok part)
is_only range file chunks tombstones part (Ok b) one two exact spelled =
    let a = block_again range file chunks tombstones part one two spelled in
    let read = a.1 in
    let e : a.0 ≡ b = cc in
    ap (λ (p : Part). Ok p) (sym a.2 ∙ ap (λ (s : Shown). s.part) e)
is_only range file chunks tombstones part (Err Memory) one two exact spelled = tt
is_only range file chunks tombstones part (Err e) one two exact spelled =
    let a = block_again range file chunks tombstones part one two spelled in
    let read = a.1 in
    absurd cc
