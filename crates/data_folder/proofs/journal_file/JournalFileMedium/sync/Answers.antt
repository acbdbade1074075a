use Rattle.std.proofs.Common.{ℕ, List, refl}
use Rattle.data_folder.specs.Folders.{MayGrow}
use Rattle.data_folder.specs.JournalFile.{journal_name}
use Rattle.data_folder.proofs.Moments.{journal_beside, journal_time, on_ok}
use Rattle.data_folder.proofs.journal_file.JournalFileMedium.sync.Goals as goal

pub returns-clause-same : goal.returns-clause-same
returns-clause-same g c =
    on_ok c.sync.result _ _ (λ same old shown. (same old shown).shown) c.sync.ensures.same

pub returns-clause-durable : goal.returns-clause-durable
returns-clause-durable g c =
    on_ok c.sync.result _ _ (λ same old shown. (same old shown).durable) c.sync.ensures.same

pub returns-clause-time : goal.returns-clause-time
returns-clause-time g c old n shown durable =
    let f = g.F.Folder in
    journal_time f.shows f.kept f.left_since c.args.self.now.folder c.sync.new.self _ _
    (λ (x : List ℕ). x) (λ (k : ℕ). k) c.sync.ensures.time old n shown durable

pub returns-clause-beside : goal.returns-clause-beside
returns-clause-beside g c =
    let f = g.F.Folder in (
      journal_beside f.shows f.kept f.moment f.left_since c.args.self.now.folder c.sync.new.self
          (MayGrow f.shows f.kept c.args.self.now.folder journal_name
          (λ (x : List ℕ). x) (λ (k : ℕ). k))
          c.sync.ensures.others c.sync.ensures.time,
      refl,
    )
