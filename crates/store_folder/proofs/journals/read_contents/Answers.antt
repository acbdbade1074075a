use Rattle.std.proofs.Common.{◌≡◌, ℕ, ap}
use Rattle.head_record.specs.Saved.{Saved}
use Rattle.journal.specs.Contents.{contents_in}
use Rattle.store_folder.proofs.Contents.{renamed}
use Rattle.store_folder.proofs.journals.read_contents.Goals as goal

pub returns-in-Ok-clause-only : goal.returns-in-Ok-clause-only
returns-in-Ok-clause-only c saved events after h =
    let same : c.in-Ok.head ≡ saved =
    ap (λ (x : Saved × ℕ). x.0) (c.in-Ok.ensures.only saved h.after h.head h.whole) in
    renamed (contents_in c.args.contents.now) c.in-Ok.head saved events after c.with_events.result
    same h (λ own. c.with_events.ensures.only events after own)

pub returns-in-Err-clause-only : goal.returns-in-Err-clause-only
returns-in-Err-clause-only c saved events after h =
    c.in-Err.ensures.only saved h.after h.head h.whole

pub returns-in-Err-clause-refused : goal.returns-in-Err-clause-refused
returns-in-Err-clause-refused c = c.in-Err.ensures.exact
