use Rattle.std.proofs.Common.{◌≡◌, List, None, Some, true, false, inl, inr, ⊎_elim, ◌∙◌}
use Rattle.std.proofs.lemmas.Result.{IfErr-weaker, IfOk-weaker}
use Rattle.data_folder.specs.JournalFile.{journal_name}
use Rattle.data_folder.proofs.Moments.{untouched_on}
use Rattle.head.specs.Heads.{BlockPart}
use Rattle.head.specs.Worlds.{Event}
use Rattle.head_record.specs.Saved.{Saved}
use Rattle.store_backup.specs.declared.error.CopyFault.TheVariants.{Blocks, Taken}
use Rattle.store_backup.specs.Reading.{IsRead}
use Rattle.store_backup.proofs.Sources.{not_changed, not_taken, of_target}
use Rattle.store_backup.proofs.Targets.{copied_later, later_or_not, only_read}
use Rattle.store_backup.proofs.copying.copy_store.Goals as goal

pub returns-in-Ok-clause-copied : goal.returns-in-Ok-clause-copied
returns-in-Ok-clause-copied g c =
    let f = g.G.Folder in
    let met = g.met.G.Folder in
    let mid = c.check_target.new.target in
    let same = c.check_target.ensures.untouched in
    let before =
    only_read f.shows f.kept f.sound f.moment f.left_since met.only_now c.args.target mid
    same.all c.in-Ok.ensures.sound same.time in
    IfOk-weaker c.copy_into.result _ _
    (λ x h. (
      h.0,
      h.1,
      h.2,
      h.3,
      copied_later f.shows f.kept f.sound f.moment f.left_since met.only_now met.earlier h.0 h.1 h.2
          x.0 c.args.target mid x.1 before h.4,
    )) c.copy_into.ensures.copied

pub returns-in-Ok-clause-begins : goal.returns-in-Ok-clause-begins
returns-in-Ok-clause-begins g c =
    let f = g.G.Folder in
    let met = g.met.G.Folder in
    let mid = c.check_target.new.target in
    let same = c.check_target.ensures.untouched in
    let before =
    only_read f.shows f.kept f.sound f.moment f.left_since met.only_now c.args.target mid
    same.all c.in-Ok.ensures.sound same.time in
    IfErr-weaker c.copy_into.result _ _
    (λ e h. later_or_not f.shows f.kept f.sound f.moment f.left_since met.only_now met.earlier
    (λ (saved : Saved) (parts : List BlockPart) (events : List Event). IsRead g.F.Folder.shows
    g.F.Folder.kept saved parts events c.args.source.now c.copy_into.new.source) c.args.target mid
    e.1 same before h) c.copy_into.ensures.begins

pub returns-in-Ok-clause-taken : goal.returns-in-Ok-clause-taken
returns-in-Ok-clause-taken g c =
    let f = g.F.Folder in
    IfErr-weaker c.copy_into.result _ _
    (λ e h taken. not_taken f.shows f.kept f.failed c.args.source.now c.copy_into.new.source
    c.copy_into.new.again e.0 Taken tt h taken) c.copy_into.ensures.refused

pub returns-in-Ok-clause-listed : goal.returns-in-Ok-clause-listed
returns-in-Ok-clause-listed g c =
    let f = g.F.Folder in
    IfErr-weaker c.copy_into.result _ _
    (λ e h taken. not_taken f.shows f.kept f.failed c.args.source.now c.copy_into.new.source
    c.copy_into.new.again e.0 Blocks tt h taken) c.copy_into.ensures.refused

pub returns-in-Ok-clause-refused : goal.returns-in-Ok-clause-refused
returns-in-Ok-clause-refused g c =
    IfErr-weaker c.copy_into.result _ _ (λ e h. inr h) c.copy_into.ensures.refused

-- a journal or a block lies in the target

pub returns-in-Ok-clause-safe : goal.returns-in-Ok-clause-safe
returns-in-Ok-clause-safe g c tells file shown =
    let same = c.check_target.ensures.untouched in
    absurd (let has : Some file ≡ None = tells c.check_target.new.target journal_name (Some file) None
    (same.all.same journal_name (Some file) shown) c.in-Ok.ensures.none.0 in cc)

pub returns-in-Ok-clause-blocks : goal.returns-in-Ok-clause-blocks
returns-in-Ok-clause-blocks g c tells shown has =
    let none = c.in-Ok.ensures.empty in
    absurd (let both : false ≡ true = none.2
    ∙ has c.check_target.new.target none.0 c.check_target.ensures.untouched none.1 in cc)

pub returns-in-Err-clause-taken : goal.returns-in-Err-clause-taken
returns-in-Err-clause-taken g c taken =
    let has = c.in-Err.ensures.taken taken in
    (has.0, has.1, c.check_target.ensures.untouched)

pub returns-in-Err-clause-listed : goal.returns-in-Err-clause-listed
returns-in-Err-clause-listed g c taken =
    let has = c.in-Err.ensures.listed taken in
    (has.0, has.1, c.check_target.ensures.untouched)

pub returns-in-Err-clause-begins : goal.returns-in-Err-clause-begins
returns-in-Err-clause-begins g c = inl c.check_target.ensures.untouched

pub returns-in-Err-clause-refused : goal.returns-in-Err-clause-refused
returns-in-Err-clause-refused g c =
    ⊎_elim (λ taken. inl taken) (λ other. inr (inl other)) c.in-Err.ensures.refused

pub returns-in-Err-clause-told : goal.returns-in-Err-clause-told
returns-in-Err-clause-told g c = of_target c.in-Err.fault c.in-Err.ensures.refused

-- the source has changed

pub returns-in-Ok-clause-changed : goal.returns-in-Ok-clause-changed
returns-in-Ok-clause-changed g c =
    let f = g.G.Folder in
    IfErr-weaker c.copy_into.result _ _
    (λ e h is. (
      (h is).0,
      untouched_on f.shows f.kept f.moment f.left_since g.met.G.Folder.earlier c.args.target
          c.check_target.new.target e.1 c.check_target.ensures.untouched (h is).1,
    )) c.copy_into.ensures.changed

pub returns-in-Err-clause-changed : goal.returns-in-Err-clause-changed
returns-in-Err-clause-changed g c =
    not_changed c.in-Err.fault c.in-Err.ensures.refused
