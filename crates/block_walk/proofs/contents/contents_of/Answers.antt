use Rattle.std.proofs.Common.{length, Result, Ok, Err, List, ℕ}
use Rattle.std.specs.Prelude.{IfOk}
use Rattle.block_walk.specs.declared.contents.Contents.{Contents}
use Rattle.block_walk.specs.declared.error.WalkError.{WalkError}
use Rattle.block_walk.specs.IndexFile.Outcome.{Gives}
use Rattle.block_walk.specs.IndexFile.Layout.{IsPlaced}
use Rattle.block_walk.specs.IndexFile.Reading.{head_of}
use Rattle.block_walk.proofs.IndexFile.Head.{head_placed}
use Rattle.block_walk.proofs.contents.contents_of.Goals as goal

is_placed : (file : List ℕ) (r : Result Contents WalkError) → Gives (λ t. t) r (head_of file)
    → IfOk r (λ t. IsPlaced t (length file))
is_placed file (Ok t) h = head_placed file t h
is_placed file (Err e) h = tt

pub returns-clause-placed : goal.returns-clause-placed
returns-clause-placed c = is_placed c.args.file.now c.head_of.result c.head_of.ensures
