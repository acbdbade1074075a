use Rattle.std.proofs.Common.{ℕ, subst}
use Rattle.std.specs.Prelude.{codes}
use Rattle.std.proofs.lemmas.Result.{err_from_is_err_and}
use Rattle.data_folder.specs.Folders.{HasFile}
use Rattle.data_folder.proofs.Moments.{untouched_on}
use Rattle.store_folder.specs.Blocks.{name_in}
use Rattle.store_folder.proofs.Files.{file_stays}
use Rattle.store_folder.proofs.Faults.{lacks_chunks, lacks_index, lacks_meta, lacks_tombstones}
use Rattle.store_folder.proofs.blocks.read_files.Goals as goal

pub returns-clause-found : goal.returns-clause-found
returns-clause-found g c =
    let f = g.F.Folder in
    let on = file_stays f.shows f.kept in
    let end = c.read_in-4.new.folder in
    let second = c.read_in-2.ensures.untouched.all in
    let third = c.read_in-3.ensures.untouched.all in
    let fourth = c.read_in-4.ensures.untouched.all in (
      subst (λ (k : ℕ).
          HasFile f.shows f.kept (name_in k (codes "meta.json")) c.in_ok-meta.meta.items end)
          c.folder-number.ensures
          (on _ _ _ _ fourth (on _ _ _ _ third (on _ _ _ _ second c.in_ok-meta.ensures.found))),
      (
        subst (λ (k : ℕ).
            HasFile f.shows f.kept (name_in k (codes "index")) c.in_ok-index.index.items end)
            c.folder-number.ensures (on _ _ _ _ fourth (on _ _ _ _ third c.in_ok-index.ensures.found)),
        (
          subst (λ (k : ℕ). HasFile f.shows f.kept (name_in k (codes "chunks/000001"))
              c.in_ok-chunks.chunks.items end)
              c.folder-number.ensures (on _ _ _ _ fourth c.in_ok-chunks.ensures.found),
          (
            subst (λ (k : ℕ). HasFile f.shows f.kept (name_in k (codes "tombstones"))
                c.in_ok-tombstones.tombstones.items end)
                c.folder-number.ensures c.in_ok-tombstones.ensures.found,
            tt,
          ),
        ),
      ),
    )

pub returns-clause-untouched : goal.returns-clause-untouched
returns-clause-untouched g c =
    let f = g.F.Folder in
    let on = untouched_on f.shows f.kept f.moment f.left_since g.met.F.Folder.earlier in
    on _ _ _ (on _ _ _ (on _ _ _ c.read_in.ensures.untouched c.read_in-2.ensures.untouched)
    c.read_in-3.ensures.untouched) c.read_in-4.ensures.untouched

pub returns-in_err-index-clause-untouched : goal.returns-in_err-index-clause-untouched
returns-in_err-index-clause-untouched g c =
    let f = g.F.Folder in
    let on = untouched_on f.shows f.kept f.moment f.left_since g.met.F.Folder.earlier in
    on _ _ _ c.read_in.ensures.untouched c.read_in-2.ensures.untouched

pub returns-in_err-chunks-clause-untouched : goal.returns-in_err-chunks-clause-untouched
returns-in_err-chunks-clause-untouched g c =
    let f = g.F.Folder in
    let on = untouched_on f.shows f.kept f.moment f.left_since g.met.F.Folder.earlier in
    on _ _ _ (on _ _ _ c.read_in.ensures.untouched c.read_in-2.ensures.untouched)
    c.read_in-3.ensures.untouched

pub returns-in_err-tombstones-clause-untouched : goal.returns-in_err-tombstones-clause-untouched
returns-in_err-tombstones-clause-untouched g c =
    let f = g.F.Folder in
    let on = untouched_on f.shows f.kept f.moment f.left_since g.met.F.Folder.earlier in
    on _ _ _ (on _ _ _ (on _ _ _ c.read_in.ensures.untouched c.read_in-2.ensures.untouched)
    c.read_in-3.ensures.untouched) c.read_in-4.ensures.untouched

pub returns-in_err-meta-clause-refused : goal.returns-in_err-meta-clause-refused
returns-in_err-meta-clause-refused g c =
    let f = g.F.Folder in
    let p =
    err_from_is_err_and c.from_residual.result c.from_residual.ensures.1 in
    rw (p.1, p.2)
    (lacks_meta f.shows f.failed c.read_in.new.folder c.args.place c.folder-number.result _ c.folder-number.ensures
    c.in_err-meta.ensures.refused)

pub returns-in_err-index-clause-refused : goal.returns-in_err-index-clause-refused
returns-in_err-index-clause-refused g c =
    let f = g.F.Folder in
    let p =
    err_from_is_err_and c.from_residual-in_err-index.result c.from_residual-in_err-index.ensures.1 in
    rw (p.1, p.2)
    (lacks_index f.shows f.failed c.read_in-2.new.folder c.args.place c.folder-number.result _
    c.folder-number.ensures c.in_err-index.ensures.refused)

pub returns-in_err-chunks-clause-refused : goal.returns-in_err-chunks-clause-refused
returns-in_err-chunks-clause-refused g c =
    let f = g.F.Folder in
    let p =
    err_from_is_err_and c.from_residual-in_err-chunks.result c.from_residual-in_err-chunks.ensures.1 in
    rw (p.1, p.2)
    (lacks_chunks f.shows f.failed c.read_in-3.new.folder c.args.place c.folder-number.result _
    c.folder-number.ensures c.in_err-chunks.ensures.refused)

pub returns-in_err-tombstones-clause-refused : goal.returns-in_err-tombstones-clause-refused
returns-in_err-tombstones-clause-refused g c =
    let f = g.F.Folder in
    let p =
    err_from_is_err_and c.from_residual-in_err-tombstones.result c.from_residual-in_err-tombstones.ensures.1 in
    rw (p.1, p.2)
    (lacks_tombstones f.shows f.failed c.read_in-4.new.folder c.args.place c.folder-number.result _
    c.folder-number.ensures c.in_err-tombstones.ensures.refused)
