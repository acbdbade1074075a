use Rattle.std.proofs.Common.{refl}
use Rattle.data_folder.proofs.Foreign.{others_beside}
use Rattle.head_record.specs.Spelling.{head_texts}
use Rattle.store_folder.proofs.Kept.{named_so}
use Rattle.store_folder.proofs.Starts.{events_found, holds_found, resume_finds, resume_leaves}
use Rattle.store_folder.proofs.store_journal.StoreJournal.resume.Goals as goal

pub resume-requires : goal.resume-requires
resume-requires g c =
    let f = g.F.Folder in
    let j = c.args.journal.now in (
      head_texts j.head,
      c.args.names,
      j.events.items,
      events_found f.shows f.kept f.sound f.moment f.left_since g.met.F.Folder.only_now
          (record { folder = c.args.folder; names = c.args.names }) j c.requires.found.0
          c.requires.found.1
          c.requires.sound c.requires.names,
    )

pub returns-in-Ok-clause-holds : goal.returns-in-Ok-clause-holds
returns-in-Ok-clause-holds g c parts h begins =
    let f = g.F.Folder in
    let j = c.args.journal.now in
    let new = c.in-Ok.events.journal in (
      holds_found f.shows f.kept f.sound f.moment f.left_since g.met.F.Folder.only_now
          g.N.Beginning.first c.args.folder new.medium new.len new.closed j parts h begins
          c.in-Ok.ensures.beside.0
          (named_so f.shows f.kept f.sound f.moment f.left_since g.met.F.Folder.only_now
          (head_texts j.head) new.medium new.len new.closed c.args.names j.events.items
          c.in-Ok.ensures.beside.1 (c.in-Ok.ensures.holds (head_texts j.head) c.args.names
          j.events.items
          (events_found f.shows f.kept f.sound f.moment f.left_since g.met.F.Folder.only_now
          (record { folder = c.args.folder; names = c.args.names }) j parts h c.requires.sound
          c.requires.names))),
      refl,
      refl,
    )

pub returns-in-Ok-clause-head : goal.returns-in-Ok-clause-head
returns-in-Ok-clause-head g c parts h begins =
    let f = g.F.Folder in
    let j = c.args.journal.now in
    let new = c.in-Ok.events.journal in (
      holds_found f.shows f.kept f.sound f.moment f.left_since g.met.F.Folder.only_now
          g.N.Beginning.first c.args.folder new.medium new.len new.closed j parts h begins
          c.in-Ok.ensures.beside.0
          (named_so f.shows f.kept f.sound f.moment f.left_since g.met.F.Folder.only_now
          (head_texts j.head) new.medium new.len new.closed c.args.names j.events.items
          c.in-Ok.ensures.beside.1 (c.in-Ok.ensures.holds (head_texts j.head) c.args.names
          j.events.items
          (events_found f.shows f.kept f.sound f.moment f.left_since g.met.F.Folder.only_now
          (record { folder = c.args.folder; names = c.args.names }) j parts h c.requires.sound
          c.requires.names))),
      refl,
      refl,
      refl,
    )

pub returns-in-Ok-clause-any_moment : goal.returns-in-Ok-clause-any_moment
returns-in-Ok-clause-any_moment g c parts h begins =
    let f = g.F.Folder in
    let j = c.args.journal.now in
    resume_finds f.shows f.kept f.sound f.moment f.left_since g.met.F.Folder.only_now
    g.N.Beginning.first (record { folder = c.args.folder; names = c.args.names })
    c.in-Ok.events.journal.medium j parts h
    begins c.in-Ok.ensures.beside.0
    (c.in-Ok.ensures.any_moment (head_texts j.head) c.args.names j.events.items
    (events_found f.shows f.kept f.sound f.moment f.left_since g.met.F.Folder.only_now
    (record { folder = c.args.folder; names = c.args.names }) j parts h c.requires.sound
    c.requires.names))

pub returns-in-Err-clause-any_moment : goal.returns-in-Err-clause-any_moment
returns-in-Err-clause-any_moment g c parts h begins =
    let f = g.F.Folder in
    let j = c.args.journal.now in
    resume_finds f.shows f.kept f.sound f.moment f.left_since g.met.F.Folder.only_now
    g.N.Beginning.first (record { folder = c.args.folder; names = c.args.names }) c.in-Err.medium j
    parts h begins
    c.in-Err.ensures.beside.0
    (c.in-Err.ensures.any_moment (head_texts j.head) c.args.names j.events.items
    (events_found f.shows f.kept f.sound f.moment f.left_since g.met.F.Folder.only_now
    (record { folder = c.args.folder; names = c.args.names }) j parts h c.requires.sound
    c.requires.names))

pub returns-in-Ok-clause-leaves : goal.returns-in-Ok-clause-leaves
returns-in-Ok-clause-leaves g c parts h =
    let f = g.F.Folder in
    let j = c.args.journal.now in
    resume_leaves f.shows f.kept f.sound f.moment f.left_since g.met.F.Folder.only_now
    (record { folder = c.args.folder; names = c.args.names }) c.in-Ok.events.journal.medium j parts
    h c.in-Ok.ensures.beside.0
    (c.in-Ok.ensures.any_moment (head_texts j.head) c.args.names j.events.items
    (events_found f.shows f.kept f.sound f.moment f.left_since g.met.F.Folder.only_now
    (record { folder = c.args.folder; names = c.args.names }) j parts h c.requires.sound
    c.requires.names))

pub returns-in-Err-clause-leaves : goal.returns-in-Err-clause-leaves
returns-in-Err-clause-leaves g c parts h =
    let f = g.F.Folder in
    let j = c.args.journal.now in
    resume_leaves f.shows f.kept f.sound f.moment f.left_since g.met.F.Folder.only_now
    (record { folder = c.args.folder; names = c.args.names }) c.in-Err.medium j parts h
    c.in-Err.ensures.beside.0
    (c.in-Err.ensures.any_moment (head_texts j.head) c.args.names j.events.items
    (events_found f.shows f.kept f.sound f.moment f.left_since g.met.F.Folder.only_now
    (record { folder = c.args.folder; names = c.args.names }) j parts h c.requires.sound
    c.requires.names))

pub returns-in-Ok-clause-others : goal.returns-in-Ok-clause-others
returns-in-Ok-clause-others g c =
    let f = g.F.Folder in
    others_beside f.shows f.kept f.moment f.left_since c.args.folder
    c.in-Ok.events.journal.medium.folder c.in-Ok.ensures.beside.0

pub returns-in-Err-clause-others : goal.returns-in-Err-clause-others
returns-in-Err-clause-others g c =
    let f = g.F.Folder in
    others_beside f.shows f.kept f.moment f.left_since c.args.folder
    c.in-Err.medium.folder c.in-Err.ensures.beside.0
