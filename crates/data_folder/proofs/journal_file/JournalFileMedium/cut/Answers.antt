use Rattle.std.proofs.Common.{ℕ, List, min, refl}
use Rattle.data_folder.specs.Folders.{MayGrow}
use Rattle.data_folder.specs.JournalFile.{journal_name}
use Rattle.data_folder.proofs.Moments.{journal_beside, journal_time}
use Rattle.data_folder.proofs.journal_file.JournalFileMedium.cut.Goals as goal

pub returns-clause-time : goal.returns-clause-time
returns-clause-time g c old n shown durable =
    let f = g.F.Folder in
    journal_time f.shows f.kept f.left_since c.args.self.now.folder c.cut.new.self _ _
    (λ (x : List ℕ). x) (λ (k : ℕ). min c.args.len k) c.cut.ensures.time old n shown durable

pub returns-clause-beside : goal.returns-clause-beside
returns-clause-beside g c =
    let f = g.F.Folder in (
      journal_beside f.shows f.kept f.moment f.left_since c.args.self.now.folder c.cut.new.self
          (MayGrow f.shows f.kept c.args.self.now.folder journal_name
          (λ (x : List ℕ). x) (λ (k : ℕ). min c.args.len k))
          c.cut.ensures.others c.cut.ensures.time,
      refl,
    )
