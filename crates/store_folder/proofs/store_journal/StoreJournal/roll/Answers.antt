use Rattle.std.proofs.Common.{◌≡◌, ◌++◌, true, false, List, [], inl, refl, subst, sym, ◌∙◌}
use Rattle.data_folder.specs.Folders.{LeavesOnly}
use Rattle.data_folder.specs.JournalFile.{journal_name, next_name}
use Rattle.data_folder.proofs.Moments.{nothing_changed, weaker}
use Rattle.event_journal.specs.Holding.{contents_with}
use Rattle.head.specs.Heads.{BlockPart}
use Rattle.head.specs.Worlds.{Event}
use Rattle.head_record.specs.Saved.{Saved}
use Rattle.head_record.specs.Spelling.{head_texts}
use Rattle.journal.specs.Group.{IsJournalText}
use Rattle.store_folder.specs.KeeperLaws.{open_head}
use Rattle.store_folder.proofs.Causes.{folder_cause}
use Rattle.store_folder.proofs.Fronts.{store_between}
use Rattle.store_folder.proofs.HeadsAlone.{head_alone}
use Rattle.store_folder.proofs.Rolls.{apart_both, files_of_both, finds_first, goes_on, keeps_now}
use Rattle.store_folder.proofs.Rolls.{not_rolled}
use Rattle.store_folder.proofs.Rolls.{of_these, roll_finds, roll_leaves, rolled, same_these}
use Rattle.store_folder.proofs.Rolls.{state_rests, stays_so, there_both}
use Rattle.store_folder.specs.States.{IsEither, IsState}
use Rattle.store_folder.proofs.store_journal.StoreJournal.roll.Goals as goal

pub roll-requires-clause-kept : goal.roll-requires-clause-kept
roll-requires-clause-kept g c opened =
    let f = g.F.Folder in
    let met = g.met.F.Folder in
    let old = c.args.self.now.events.journal in
    let r = c.requires in
    let h =
    open_head f.shows f.kept f.sound f.moment f.left_since met.only_now g.N.Beginning.first old.medium
    old.len old.closed r.0 r.3.holds c.if-self.false in (
      head_texts h.saved ++ h.journal.contents,
      keeps_now f.shows f.kept f.sound f.moment f.left_since met.only_now met.earlier
          g.N.Beginning.first old.medium old.len old.closed r.0 h c.if-self.false,
    )

pub roll-requires-clause-whole : goal.roll-requires-clause-whole
roll-requires-clause-whole g c =
    let new = contents_with (head_texts c.args.head.now) [] in
    (new, subst (IsJournalText new) (sym c.deref.ensures.value) c.in-Ok.ensures.text)

pub returns-in-Ok-roll-clause-alone : goal.returns-in-Ok-roll-clause-alone
returns-in-Ok-roll-clause-alone g c events after parts m =
    let f = g.F.Folder in
    let met = g.met.F.Folder in
    let old = c.args.self.now.events.journal in
    let made = c.roll.new.journal in
    let new = contents_with (head_texts c.args.head.now) [] in
    rolled f.shows f.kept f.sound f.moment f.left_since met.only_now met.earlier
    g.N.Beginning.first old.medium made.medium old.len made.len old.closed made.closed
    c.args.head.now parts events after m c.in-Ok.ensures.saved c.in-Ok-roll.ensures.named
    (c.in-Ok-roll.ensures.ok new
    (subst (IsJournalText new) (sym c.deref.ensures.value) c.in-Ok.ensures.text))
    c.in-Ok-roll.ensures.files

pub returns-in-Ok-roll-clause-len : goal.returns-in-Ok-roll-clause-len
returns-in-Ok-roll-clause-len g c =
    let new = contents_with (head_texts c.args.head.now) [] in
    let k =
    c.in-Ok-roll.ensures.ok new
    (subst (IsJournalText new) (sym c.deref.ensures.value) c.in-Ok.ensures.text) in
    k.counted

pub returns-in-Ok-roll-clause-file : goal.returns-in-Ok-roll-clause-file
returns-in-Ok-roll-clause-file g c =
    let f = g.F.Folder in
    let made = c.roll.new.journal in
    let new = contents_with (head_texts c.args.head.now) [] in
    head_alone f.shows f.kept f.sound c.args.head.now made.medium.folder made.len
    c.in-Ok.ensures.saved
    (c.in-Ok-roll.ensures.ok new
    (subst (IsJournalText new) (sym c.deref.ensures.value) c.in-Ok.ensures.text))

pub returns-clause-goes_on : goal.returns-clause-goes_on
returns-clause-goes_on g c unless opened =
    let f = g.F.Folder in
    let made = c.roll.new.journal in
    goes_on c.roll.result c.in-Err-roll.error c.args.self.now.events.journal.closed made.closed
    (f.failed made.medium.folder) c.in-Err-roll.is c.roll.ensures.closed
    c.roll.ensures.not_written unless opened

pub returns-in-Ok-roll-clause-leaves : goal.returns-in-Ok-roll-clause-leaves
returns-in-Ok-roll-clause-leaves g c events after was parts blocks late t m opened =
    let f = g.F.Folder in
    let met = g.met.F.Folder in
    let first = g.N.Beginning.first in
    let old = c.args.self.now.events.journal in
    let made = c.roll.new.journal in
    let saved = c.args.head.now in
    let new = contents_with (head_texts saved) [] in
    let h = t.0 in
    of_these f.shows f.kept f.sound f.moment f.left_since
    (λ (x : Saved) (bs : List BlockPart) (es : List Event). LeavesOnly f.moment f.left_since
    old.medium.folder made.medium.folder (IsEither x bs es saved blocks)) first old.medium old.len
    old.closed events was parts late t
    (roll_leaves f.shows f.kept f.sound f.moment f.left_since met.only_now met.earlier first old.medium
    made.medium.folder old.len old.closed saved blocks events h m.blocks c.in-Ok.ensures.saved
    (c.in-Ok-roll.ensures.any_moment (head_texts h.saved ++ h.journal.contents) new
    (files_of_both f.shows f.kept h.saved.places saved.places h.parts blocks old.medium.folder
    h.blocks m.blocks)
    (keeps_now f.shows f.kept f.sound f.moment f.left_since met.only_now met.earlier first old.medium
    old.len old.closed events h opened)
    (subst (IsJournalText new) (sym c.deref.ensures.value) c.in-Ok.ensures.text)
    (apart_both f.shows f.kept h.saved.places saved.places h.parts blocks old.medium.folder h.blocks
    m.blocks)
    (there_both f.shows f.kept h.saved.places saved.places h.parts blocks old.medium.folder h.blocks
    m.blocks)))

pub returns-in-Ok-roll-clause-any_moment : goal.returns-in-Ok-roll-clause-any_moment
returns-in-Ok-roll-clause-any_moment g c events after parts m opened =
    let f = g.F.Folder in
    let met = g.met.F.Folder in
    let first = g.N.Beginning.first in
    let old = c.args.self.now.events.journal in
    let h =
    open_head f.shows f.kept f.sound f.moment f.left_since met.only_now first old.medium old.len
    old.closed events m.holds opened in
    roll_finds f.shows f.kept f.sound f.moment f.left_since met.only_now met.earlier first old.medium
    c.roll.new.journal.medium old.len old.closed c.args.head.now parts events after h m
    (returns-in-Ok-roll-clause-leaves g c events after h.saved h.parts parts h.late
    (h, refl, refl, refl) m opened)

pub returns-clause-leaves : goal.returns-clause-leaves
returns-clause-leaves g c events after was parts blocks late t m opened =
    let f = g.F.Folder in
    let met = g.met.F.Folder in
    let first = g.N.Beginning.first in
    let old = c.args.self.now.events.journal in
    let made = c.roll.new.journal in
    let saved = c.args.head.now in
    let new = contents_with (head_texts saved) [] in
    let h = t.0 in
    of_these f.shows f.kept f.sound f.moment f.left_since
    (λ (x : Saved) (bs : List BlockPart) (es : List Event). LeavesOnly f.moment f.left_since
    old.medium.folder made.medium.folder (IsEither x bs es saved blocks)) first old.medium old.len
    old.closed events was parts late t
    (roll_leaves f.shows f.kept f.sound f.moment f.left_since met.only_now met.earlier first old.medium
    made.medium.folder old.len old.closed saved blocks events h m.blocks c.in-Ok.ensures.saved
    (c.in-Err-roll.ensures.any_moment (head_texts h.saved ++ h.journal.contents) new
    (files_of_both f.shows f.kept h.saved.places saved.places h.parts blocks old.medium.folder
    h.blocks m.blocks)
    (keeps_now f.shows f.kept f.sound f.moment f.left_since met.only_now met.earlier first old.medium
    old.len old.closed events h opened)
    (subst (IsJournalText new) (sym c.deref.ensures.value) c.in-Ok.ensures.text)
    (apart_both f.shows f.kept h.saved.places saved.places h.parts blocks old.medium.folder h.blocks
    m.blocks)
    (there_both f.shows f.kept h.saved.places saved.places h.parts blocks old.medium.folder h.blocks
    m.blocks)))

pub returns-clause-any_moment : goal.returns-clause-any_moment
returns-clause-any_moment g c events after parts m opened =
    let f = g.F.Folder in
    let met = g.met.F.Folder in
    let first = g.N.Beginning.first in
    let old = c.args.self.now.events.journal in
    let h =
    open_head f.shows f.kept f.sound f.moment f.left_since met.only_now first old.medium old.len
    old.closed events m.holds opened in
    roll_finds f.shows f.kept f.sound f.moment f.left_since met.only_now met.earlier first old.medium
    c.roll.new.journal.medium old.len old.closed c.args.head.now parts events after h m
    (returns-clause-leaves g c events after h.saved h.parts parts h.late
    (h, refl, refl, refl) m opened)

pub returns-clause-held : goal.returns-clause-held
returns-clause-held g c events after parts m =
    let f = g.F.Folder in
    let met = g.met.F.Folder in
    let old = c.args.self.now.events.journal in
    let made = c.roll.new.journal in
    let opened = c.if-self.false in
    let h =
    open_head f.shows f.kept f.sound f.moment f.left_since met.only_now g.N.Beginning.first old.medium
    old.len old.closed events m.holds opened in
    not_rolled f.shows f.kept f.sound f.moment f.left_since met.only_now met.earlier
    g.N.Beginning.first old.medium made.medium old.len made.len old.closed made.closed events after h
    opened c.in-Err-roll.ensures.names
    (c.in-Err-roll.ensures.err (head_texts h.saved ++ h.journal.contents)
    (keeps_now f.shows f.kept f.sound f.moment f.left_since met.only_now met.earlier
    g.N.Beginning.first old.medium old.len old.closed events h opened))
    c.in-Err-roll.ensures.files (returns-clause-any_moment g c events after parts m opened)

pub returns-clause-same : goal.returns-clause-same
returns-clause-same g c events was parts late t goes_on =
    let f = g.F.Folder in
    let met = g.met.F.Folder in
    let old = c.args.self.now.events.journal in
    let made = c.roll.new.journal in
    let h = t.0 in
    same_these f.shows f.kept f.sound f.moment f.left_since met.only_now met.earlier
    g.N.Beginning.first old.medium made.medium old.len made.len old.closed made.closed events was
    parts late t c.if-self.false c.in-Err-roll.ensures.names
    (c.in-Err-roll.ensures.err (head_texts h.saved ++ h.journal.contents)
    (keeps_now f.shows f.kept f.sound f.moment f.left_since met.only_now met.earlier
    g.N.Beginning.first old.medium old.len old.closed events h c.if-self.false) goes_on)
    c.in-Err-roll.ensures.files

-- where nothing was done

pub returns-then-self-clause-same : goal.returns-then-self-clause-same
returns-then-self-clause-same g c events was parts late t goes_on = t

pub returns-in-Err-clause-same : goal.returns-in-Err-clause-same
returns-in-Err-clause-same g c events was parts late t goes_on = t

pub returns-then-self-clause-leaves : goal.returns-then-self-clause-leaves
returns-then-self-clause-leaves g c events after was parts blocks late t m opened =
    absurd (let a : true ≡ false = sym c.if-self.true ∙ opened in cc)

pub returns-in-Err-clause-leaves : goal.returns-in-Err-clause-leaves
returns-in-Err-clause-leaves g c events after was parts blocks late t m opened =
    let f = g.F.Folder in
    let met = g.met.F.Folder in
    let old = c.args.self.now.events.journal in
    let folder = old.medium.folder in
    let saved = c.args.head.now in
    of_these f.shows f.kept f.sound f.moment f.left_since
    (λ (x : Saved) (bs : List BlockPart) (es : List Event). LeavesOnly f.moment f.left_since folder
    folder (IsEither x bs es saved blocks)) g.N.Beginning.first old.medium old.len old.closed events
    was parts late t
    (weaker f.moment f.left_since folder folder (IsState t.0.saved t.0.parts t.0.late)
    (IsEither t.0.saved t.0.parts t.0.late saved blocks) (λ left state. inl state)
    (state_rests f.shows f.kept f.sound f.moment f.left_since met.only_now met.earlier
    g.N.Beginning.first old.medium old.len old.closed events t.0 opened))

pub returns-then-self-clause-held : goal.returns-then-self-clause-held
returns-then-self-clause-held g c events after parts m =
    let f = g.F.Folder in
    let old = c.args.self.now.events.journal in
    store_between f.shows f.kept f.sound f.moment f.left_since g.N.Beginning.first old.medium old.len
    old.closed events after m.holds

pub returns-then-self-clause-any_moment : goal.returns-then-self-clause-any_moment
returns-then-self-clause-any_moment g c events after parts m opened =
    absurd (let a : true ≡ false = sym c.if-self.true ∙ opened in cc)

pub returns-in-Err-clause-held : goal.returns-in-Err-clause-held
returns-in-Err-clause-held g c events after parts m =
    let f = g.F.Folder in
    let old = c.args.self.now.events.journal in
    store_between f.shows f.kept f.sound f.moment f.left_since g.N.Beginning.first old.medium old.len
    old.closed events after m.holds

pub returns-in-Err-clause-any_moment : goal.returns-in-Err-clause-any_moment
returns-in-Err-clause-any_moment g c events after parts m opened =
    let f = g.F.Folder in
    let met = g.met.F.Folder in
    let old = c.args.self.now.events.journal in
    finds_first f.moment f.left_since g.N.Beginning.first events after old.medium.folder
    old.medium.folder
    (stays_so f.shows f.kept f.sound f.moment f.left_since met.only_now met.earlier
    g.N.Beginning.first old.medium old.len old.closed events m.holds opened)

pub returns-then-self-clause-others : goal.returns-then-self-clause-others
returns-then-self-clause-others g c =
    let f = g.F.Folder in
    nothing_changed f.shows f.kept next_name journal_name
    c.args.self.now.events.journal.medium.folder

pub returns-in-Err-clause-others : goal.returns-in-Err-clause-others
returns-in-Err-clause-others g c =
    let f = g.F.Folder in
    nothing_changed f.shows f.kept next_name journal_name
    c.args.self.now.events.journal.medium.folder

-- what the fault tells

pub returns-clause-cause : goal.returns-clause-cause
returns-clause-cause g c =
    let f = g.F.Folder in
    let made = c.roll.new.journal in
    folder_cause c.roll.result c.in-Err-roll.error c.args.self.now.events.journal.closed made.closed
    (f.failed made.medium.folder) c.in-Err-roll.is c.roll.ensures.closed
    c.roll.ensures.not_written c.roll.ensures.lost
