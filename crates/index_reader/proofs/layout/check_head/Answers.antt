use Rattle.std.proofs.Common.{length, Result, Ok, Err, List, ℕ}
use Rattle.std.specs.Prelude.{IfOk}
use Rattle.index_reader.specs.declared.layout.TableOfContents.{TableOfContents}
use Rattle.index_reader.specs.declared.error.IndexError.{IndexError}
use Rattle.index_reader.specs.Outcome.{Gives}
use Rattle.index_reader.specs.Layout.{IsPlaced}
use Rattle.index_reader.specs.Reading.Head.{head_of}
use Rattle.index_reader.proofs.Head.{head_placed}
use Rattle.index_reader.proofs.layout.check_head.Goals as goal

is_placed : (file : List ℕ) (r : Result TableOfContents IndexError)
    → Gives (λ t. t) r (head_of file) → IfOk r (λ t. IsPlaced t (length file))
is_placed file (Ok t) h = head_placed file t h
is_placed file (Err e) h = tt

pub returns-clause-fits : goal.returns-clause-fits
returns-clause-fits c = is_placed c.args.file.now c.head_of.result c.head_of.ensures
