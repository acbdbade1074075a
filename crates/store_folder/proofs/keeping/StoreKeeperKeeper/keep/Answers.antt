use Rattle.std.proofs.Common.{◌≡◌, ◌++◌, List, true, false, inl, map, subst, sym, ◌∙◌, take, ap}
use Rattle.data_folder.specs.JournalLaws.{all_stays}
use Rattle.head.specs.Blocks.{part_in}
use Rattle.store_folder.proofs.Fronts.{open_like}
use Rattle.store_folder.proofs.Kept.{before_kept, each_kept, like_last, like_more, like_stays}
use Rattle.store_folder.proofs.Kept.{named_anew, named_so, none_more, store_leaves}
use Rattle.store_folder.proofs.Rolls.{stays_so}
use Rattle.store_folder.specs.Holding.{HoldsOrLost}
use Rattle.store_folder.specs.KeeperLaws.{as_store}
use Rattle.name_table.specs.Names.{Label}
use Rattle.event_journal.specs.Naming.{AreNext}
use Rattle.event_journal.proofs.Keepers.{told_closed, told_failed, told_full}
use Rattle.head_record.specs.Spelling.{head_texts}
use Rattle.keeper.specs.Finding.{AreAllAndSome}
use Rattle.store_folder.proofs.keeping.StoreKeeperKeeper.keep.Goals as goal

pub numbered_records-requires : goal.numbered_records-requires
numbered_records-requires g c = (c.requires.1, c.requires.3)

pub append-requires-clause-held : goal.append-requires-clause-held
append-requires-clause-held g c =
    let f = g.F.Folder in
    let k = c.args.self.now in
    let old = k.store.events.journal in
    let h = (open_like f.shows f.kept f.sound f.moment f.left_since g.N.Beginning.first old.medium
    old.len old.closed c.requires.0 k.places.items (map part_in k.blocks.items)
    c.requires.2 c.if-self.false).0 in (
      head_texts h.saved,
      old.medium.names,
      h.late,
      named_anew f.shows f.kept f.sound f.moment f.left_since g.met.F.Folder.only_now
          (head_texts h.saved) old.medium c.numbered_records.new.names old.len old.closed
          old.medium.names h.late h.journal,
    )

pub append-requires-clause-spelled : goal.append-requires-clause-spelled
append-requires-clause-spelled g c = (
  c.args.self.now.store.events.journal.medium.names,
  c.requires.1,
  c.numbered_records.new.names,
  subst (λ records. AreNext c.args.self.now.store.events.journal.medium.names records c.requires.1
      c.numbered_records.new.names) (sym c.deref.ensures.value)
      (c.in-Ok.ensures.ok c.requires.1 c.requires.3),
)

pub returns-in-Ok-append-clause-ok : goal.returns-in-Ok-append-clause-ok
returns-in-Ok-append-clause-ok g c events more held s =
    let f = g.F.Folder in
    let k = c.args.self.now in
    let old = k.store.events.journal in
    let new = c.append.new.self.journal in
    let after = c.numbered_records.new.names in
    let like = open_like f.shows f.kept f.sound f.moment f.left_since g.N.Beginning.first old.medium
    old.len old.closed events k.places.items (map part_in k.blocks.items) held c.if-self.false in
    let h = like.0 in
    let before =
    named_anew f.shows f.kept f.sound f.moment f.left_since g.met.F.Folder.only_now
    (head_texts h.saved) old.medium after old.len old.closed old.medium.names h.late h.journal in
    let next =
    subst (λ records. AreNext old.medium.names records more after) (sym c.deref.ensures.value)
    (c.in-Ok.ensures.ok more s) in
    inl (like_more f.shows f.kept f.sound f.moment f.left_since g.met.F.Folder.only_now
    g.N.Beginning.first old.medium new.medium old.len new.len old.closed new.closed events more
    k.places.items (map part_in k.blocks.items) like c.in-Ok-append.ensures.beside.0
    (named_so f.shows f.kept f.sound f.moment f.left_since g.met.F.Folder.only_now
    (head_texts h.saved) new.medium new.len new.closed after (h.late ++ more)
    c.in-Ok-append.ensures.beside.1
    (c.in-Ok-append.ensures.ok (head_texts h.saved) old.medium.names after h.late more before
    next)))

pub returns-in-Ok-append-clause-last : goal.returns-in-Ok-append-clause-last
returns-in-Ok-append-clause-last g c events more held s =
    let f = g.F.Folder in
    let k = c.args.self.now in
    let old = k.store.events.journal in
    let new = c.append.new.self.journal in
    let after = c.numbered_records.new.names in
    let like = open_like f.shows f.kept f.sound f.moment f.left_since g.N.Beginning.first old.medium
    old.len old.closed events k.places.items (map part_in k.blocks.items) held c.if-self.false in
    let h = like.0 in
    let before =
    named_anew f.shows f.kept f.sound f.moment f.left_since g.met.F.Folder.only_now
    (head_texts h.saved) old.medium after old.len old.closed old.medium.names h.late h.journal in
    let next =
    subst (λ records. AreNext old.medium.names records more after) (sym c.deref.ensures.value)
    (c.in-Ok.ensures.ok more s) in
    inl (like_last f.shows f.kept f.sound f.moment f.left_since g.met.F.Folder.only_now
    g.N.Beginning.first old.medium new.medium old.len new.len old.closed new.closed events more
    k.places.items (map part_in k.blocks.items) like c.in-Ok-append.ensures.beside.0
    (named_so f.shows f.kept f.sound f.moment f.left_since g.met.F.Folder.only_now
    (head_texts h.saved) new.medium new.len new.closed after (h.late ++ more)
    c.in-Ok-append.ensures.beside.1
    (c.in-Ok-append.ensures.ok (head_texts h.saved) old.medium.names after h.late more before
    next)))

pub returns-clause-err : goal.returns-clause-err
returns-clause-err g c events held =
    let more = c.requires.1 in
    let s = c.requires.3 in
    let f = g.F.Folder in
    let k = c.args.self.now in
    let old = k.store.events.journal in
    let new = c.append.new.self.journal in
    let after = c.numbered_records.new.names in
    let like = open_like f.shows f.kept f.sound f.moment f.left_since g.N.Beginning.first old.medium
    old.len old.closed events k.places.items (map part_in k.blocks.items) held c.if-self.false in
    let h = like.0 in
    let before =
    named_anew f.shows f.kept f.sound f.moment f.left_since g.met.F.Folder.only_now
    (head_texts h.saved) old.medium after old.len old.closed old.medium.names h.late h.journal in
    let next =
    subst (λ records. AreNext old.medium.names records more after) (sym c.deref.ensures.value)
    (c.in-Ok.ensures.ok more s) in
    let back = record (new.medium) { names = c.forget.new.self } in
    inl (like_stays f.shows f.kept f.sound f.moment f.left_since g.met.F.Folder.only_now
    g.N.Beginning.first old.medium back old.len new.len old.closed new.closed events
    k.places.items (map part_in k.blocks.items) like c.in-Err-append.ensures.beside.0
    (named_so f.shows f.kept f.sound f.moment f.left_since g.met.F.Folder.only_now
    (head_texts h.saved) back new.len new.closed old.medium.names h.late
    (c.forget.ensures ∙ (ap (take c.len-count.result) c.in-Err-append.ensures.beside.1
    ∙ (ap (λ n. take n after) c.len-count.ensures ∙ c.in-Ok.ensures.begins)))
    (named_anew f.shows f.kept f.sound f.moment f.left_since g.met.F.Folder.only_now
    (head_texts h.saved) new.medium c.forget.new.self new.len new.closed old.medium.names h.late
    (c.in-Err-append.ensures.err (head_texts h.saved) old.medium.names after h.late more before
    next))))

pub returns-in-Ok-append-clause-any_moment : goal.returns-in-Ok-append-clause-any_moment
returns-in-Ok-append-clause-any_moment g c events more held s opened =
    let f = g.F.Folder in
    let k = c.args.self.now in
    let old = k.store.events.journal in
    let new = c.append.new.self.journal in
    let after = c.numbered_records.new.names in
    let like = open_like f.shows f.kept f.sound f.moment f.left_since g.N.Beginning.first old.medium
    old.len old.closed events k.places.items (map part_in k.blocks.items) held c.if-self.false in
    let h = like.0 in
    let before =
    named_anew f.shows f.kept f.sound f.moment f.left_since g.met.F.Folder.only_now
    (head_texts h.saved) old.medium after old.len old.closed old.medium.names h.late h.journal in
    let next =
    subst (λ records. AreNext old.medium.names records more after) (sym c.deref.ensures.value)
    (c.in-Ok.ensures.ok more s) in
    let found = store_leaves f.shows f.kept f.sound f.moment f.left_since g.met.F.Folder.only_now
    g.N.Beginning.first (record (old.medium) { names = after }) new.medium h.saved h.parts h.early
    h.late events more h.all h.head h.begins h.blocks c.in-Ok-append.ensures.beside.0
    (c.in-Ok-append.ensures.any_moment (head_texts h.saved) old.medium.names after h.late more
    before next
    opened) in
    record {
      later = found.later;
      each = λ left had. each_kept f.moment f.left_since g.N.Beginning.first old.medium.folder
          new.medium.folder (AreAllAndSome events more) found left had;
      before = λ t left le had. before_kept f.moment f.left_since g.N.Beginning.first
          old.medium.folder new.medium.folder (AreAllAndSome events more) found t left le had;
    }

pub returns-clause-any_moment : goal.returns-clause-any_moment
returns-clause-any_moment g c events more held s opened =
    let f = g.F.Folder in
    let k = c.args.self.now in
    let old = k.store.events.journal in
    let new = c.append.new.self.journal in
    let after = c.numbered_records.new.names in
    let like = open_like f.shows f.kept f.sound f.moment f.left_since g.N.Beginning.first old.medium
    old.len old.closed events k.places.items (map part_in k.blocks.items) held c.if-self.false in
    let h = like.0 in
    let before =
    named_anew f.shows f.kept f.sound f.moment f.left_since g.met.F.Folder.only_now
    (head_texts h.saved) old.medium after old.len old.closed old.medium.names h.late h.journal in
    let next =
    subst (λ records. AreNext old.medium.names records more after) (sym c.deref.ensures.value)
    (c.in-Ok.ensures.ok more s) in
    let found = store_leaves f.shows f.kept f.sound f.moment f.left_since g.met.F.Folder.only_now
    g.N.Beginning.first (record (old.medium) { names = after }) new.medium h.saved h.parts h.early
    h.late events more h.all h.head h.begins h.blocks c.in-Err-append.ensures.beside.0
    (c.in-Err-append.ensures.any_moment (head_texts h.saved) old.medium.names after h.late more
    before next
    opened) in
    record {
      later = found.later;
      each = λ left had. each_kept f.moment f.left_since g.N.Beginning.first old.medium.folder
          new.medium.folder (AreAllAndSome events more) found left had;
      before = λ t left le had. before_kept f.moment f.left_since g.N.Beginning.first
          old.medium.folder new.medium.folder (AreAllAndSome events more) found t left le had;
    }

pub returns-clause-closed : goal.returns-clause-closed
returns-clause-closed g c t =
    absurd (let a : true ≡ false = sym t ∙ c.if-self.false in cc)

pub returns-in-Ok-append-clause-closed : goal.returns-in-Ok-append-clause-closed
returns-in-Ok-append-clause-closed g c t =
    absurd (let a : true ≡ false = sym t ∙ c.if-self.false in cc)

pub returns-clause-told : goal.returns-clause-told
returns-clause-told g c said =
    told_closed c.in-Err-append.error c.keep_error.result c.keep_error.ensures said
    c.in-Err-append.ensures.told

pub returns-then-self-clause-err : goal.returns-then-self-clause-err
returns-then-self-clause-err g c events held = held

pub returns-then-self-clause-any_moment : goal.returns-then-self-clause-any_moment
returns-then-self-clause-any_moment g c events more held s opened =
    absurd (let a : true ≡ false = sym c.if-self.true ∙ opened in cc)

pub returns-clause-full : goal.returns-clause-full
returns-clause-full g c said =
    told_full c.in-Err-append.error c.keep_error.result c.keep_error.ensures said
    c.in-Err-append.ensures.size

pub returns-clause-failed : goal.returns-clause-failed
returns-clause-failed g c said =
    told_failed c.in-Err-append.error c.keep_error.result c.keep_error.ensures
    c.in-Err-append.ensures.other said
    c.in-Err-append.ensures.medium

-- what lies beside the journal

pub returns-then-self-clause-beside : goal.returns-then-self-clause-beside
returns-then-self-clause-beside g c =
    let f = g.F.Folder in
    all_stays f.shows f.kept f.moment f.left_since
    c.args.self.now.store.events.journal.medium.folder

pub returns-in-Ok-append-clause-beside : goal.returns-in-Ok-append-clause-beside
returns-in-Ok-append-clause-beside g c = c.in-Ok-append.ensures.beside.0

pub returns-clause-beside : goal.returns-clause-beside
returns-clause-beside g c = c.in-Err-append.ensures.beside.0

-- no memory was left

pub returns-in-Err-clause-err : goal.returns-in-Err-clause-err
returns-in-Err-clause-err g c events held =
    let f = g.F.Folder in
    let k = c.args.self.now in
    let old = k.store.events.journal in
    subst (λ (ns : List Label). HoldsOrLost f.shows f.kept f.sound f.moment f.left_since
    g.N.Beginning.first (record (old.medium) { names = ns }) old.len old.closed events
    k.places.items (map part_in k.blocks.items)) (sym c.in-Err.ensures.err) held

pub returns-in-Err-clause-any_moment : goal.returns-in-Err-clause-any_moment
returns-in-Err-clause-any_moment g c events more held s opened =
    let f = g.F.Folder in
    let met = g.met.F.Folder in
    let first = g.N.Beginning.first in
    let k = c.args.self.now in
    let j = k.store.events.journal in
    let folder = j.medium.folder in
    let found = none_more f.moment f.left_since first events more folder folder
    (stays_so f.shows f.kept f.sound f.moment f.left_since met.only_now met.earlier first j.medium
    j.len j.closed events
    (as_store f.shows f.kept f.sound f.moment f.left_since met.only_now first j.medium j.len
    j.closed events k.places.items (map part_in k.blocks.items) held) opened) in
    record {
      later = found.later;
      each = λ left had. each_kept f.moment f.left_since first folder folder
          (AreAllAndSome events more) found left had;
      before = λ t left le had. before_kept f.moment f.left_since first folder folder
          (AreAllAndSome events more) found t left le had;
    }

pub returns-in-Err-clause-closed : goal.returns-in-Err-clause-closed
returns-in-Err-clause-closed g c t =
    absurd (let a : true ≡ false = sym t ∙ c.if-self.false in cc)

pub returns-in-Err-clause-beside : goal.returns-in-Err-clause-beside
returns-in-Err-clause-beside g c =
    let f = g.F.Folder in
    all_stays f.shows f.kept f.moment f.left_since
    c.args.self.now.store.events.journal.medium.folder
