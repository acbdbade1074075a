use Rattle.std.proofs.Common.{ap, inl, length, refl, subst, sym, ◌∙◌, Bool, List, []}
use Rattle.data_folder.proofs.Foreign.{foreign_beside, foreign_kept, foreign_rests, foreign_then}
use Rattle.store_folder.specs.Sweeps.{names_at}
use Rattle.block_folder.specs.declared.values.Values.{Values}
use Rattle.event_journal.specs.Holding.{contents_with}
use Rattle.head_record.specs.Saved.{Place, Saved, save}
use Rattle.head_record.specs.Spelling.{head_texts}
use Rattle.journal.specs.Records.{file_of}
use Rattle.store_folder.specs.Causes.{IsRollCause}
use Rattle.store_folder.specs.Holding.{HoldsThese}
use Rattle.store_folder.specs.Writing.{EachSays, IsLike, places_from, places_with, unfound}
use Rattle.store_folder.proofs.Found.{found_of}
use Rattle.store_folder.proofs.Saves.{is_sound, made_of, may_roll, saved_finds, saving_leaves}
use Rattle.store_folder.proofs.Saves.{still_held, still_these, writing_leaves}
use Rattle.store_folder.proofs.HeadsAlone.{same_alone}
use Rattle.store_folder.proofs.Says.{says_on, says_saved, there_beside}
use Rattle.store_folder.proofs.Standing.{same_stand}
use Rattle.store_folder.proofs.store_journal.StoreJournal.save.Goals as goal

pub write_saved-requires : goal.write_saved-requires
write_saved-requires g c =
    let f = g.F.Folder in
    let met = g.met.F.Folder in
    let old = c.args.self.now.events.journal in
    let given = c.requires c.if-self.false in
    is_sound f.shows f.kept f.sound f.moment f.left_since met.only_now met.earlier
    g.N.Beginning.first old.medium old.len old.closed given.0 given.1 c.args.snapshot.now
    c.args.held.now given.2 c.args.found.now given.3 c.if-self.false

pub returns-in-Err-clause-same : goal.returns-in-Err-clause-same
returns-in-Err-clause-same g c events after parts may goes_on =
    let f = g.F.Folder in
    let met = g.met.F.Folder in
    let old = c.args.self.now.events.journal in
    let s = c.args.snapshot.now in
    let held = c.args.held.now in
    let found = c.args.found.now in
    let first = g.N.Beginning.first in
    still_these f.shows f.kept f.sound f.moment f.left_since met.only_now met.earlier first old.medium
    (record (old.medium) { folder = c.write_saved.new.folder }) old.len old.closed events after s held
    parts found may c.if-self.false refl
    c.write_saved.ensures.stays

pub returns-in-Err-clause-leaves : goal.returns-in-Err-clause-leaves
returns-in-Err-clause-leaves g c events after parts may opened =
    let f = g.F.Folder in
    let met = g.met.F.Folder in
    let old = c.args.self.now.events.journal in
    let s = c.args.snapshot.now in
    let held = c.args.held.now in
    let found = c.args.found.now in
    let first = g.N.Beginning.first in
    writing_leaves f.shows f.kept f.sound f.moment f.left_since met.only_now met.earlier first old.medium
    c.write_saved.new.folder old.len old.closed events after s held parts found first.values may opened
    c.write_saved.ensures.stays

pub returns-in-Err-clause-held : goal.returns-in-Err-clause-held
returns-in-Err-clause-held g c events after parts may =
    let f = g.F.Folder in
    let met = g.met.F.Folder in
    let old = c.args.self.now.events.journal in
    let s = c.args.snapshot.now in
    let held = c.args.held.now in
    let found = c.args.found.now in
    let first = g.N.Beginning.first in
    let at =
    still_held f.shows f.kept f.sound f.moment f.left_since met.only_now met.earlier first old.medium
    (record (old.medium) { folder = c.write_saved.new.folder }) old.len old.closed events after s held
    parts found may c.if-self.false refl
    c.write_saved.ensures.stays in
    inl at.0

pub returns-in-Err-clause-any_moment : goal.returns-in-Err-clause-any_moment
returns-in-Err-clause-any_moment g c events after parts may opened =
    let f = g.F.Folder in
    let met = g.met.F.Folder in
    let old = c.args.self.now.events.journal in
    saved_finds f.shows f.kept f.sound f.moment f.left_since met.only_now met.earlier
    g.N.Beginning.first old.medium c.write_saved.new.folder old.len old.closed events
    after c.args.snapshot.now may.holds.0 may.world
    (returns-in-Err-clause-leaves g c events after parts may opened)

pub returns-in_default-clause-same : goal.returns-in_default-clause-same
returns-in_default-clause-same g c events after parts may goes_on =
    let f = g.F.Folder in
    let met = g.met.F.Folder in
    let old = c.args.self.now.events.journal in
    let s = c.args.snapshot.now in
    let held = c.args.held.now in
    let found = c.args.found.now in
    let first = g.N.Beginning.first in
    still_these f.shows f.kept f.sound f.moment f.left_since met.only_now met.earlier first old.medium
    (record (old.medium) { folder = c.write_saved.new.folder }) old.len old.closed events after s held
    parts found may c.if-self.false refl
    c.write_saved.ensures.stays

pub returns-in_default-clause-leaves : goal.returns-in_default-clause-leaves
returns-in_default-clause-leaves g c events after parts may opened =
    let f = g.F.Folder in
    let met = g.met.F.Folder in
    let old = c.args.self.now.events.journal in
    let s = c.args.snapshot.now in
    let held = c.args.held.now in
    let found = c.args.found.now in
    let first = g.N.Beginning.first in
    writing_leaves f.shows f.kept f.sound f.moment f.left_since met.only_now met.earlier first old.medium
    c.write_saved.new.folder old.len old.closed events after s held parts found first.values may opened
    c.write_saved.ensures.stays

pub returns-in_default-clause-held : goal.returns-in_default-clause-held
returns-in_default-clause-held g c events after parts may =
    let f = g.F.Folder in
    let met = g.met.F.Folder in
    let old = c.args.self.now.events.journal in
    let s = c.args.snapshot.now in
    let held = c.args.held.now in
    let found = c.args.found.now in
    let first = g.N.Beginning.first in
    let at =
    still_held f.shows f.kept f.sound f.moment f.left_since met.only_now met.earlier first old.medium
    (record (old.medium) { folder = c.write_saved.new.folder }) old.len old.closed events after s held
    parts found may c.if-self.false refl
    c.write_saved.ensures.stays in
    inl at.0

pub returns-in_default-clause-any_moment : goal.returns-in_default-clause-any_moment
returns-in_default-clause-any_moment g c events after parts may opened =
    let f = g.F.Folder in
    let met = g.met.F.Folder in
    let old = c.args.self.now.events.journal in
    saved_finds f.shows f.kept f.sound f.moment f.left_since met.only_now met.earlier
    g.N.Beginning.first old.medium c.write_saved.new.folder old.len old.closed events
    after c.args.snapshot.now may.holds.0 may.world
    (returns-in_default-clause-leaves g c events after parts may opened)

pub roll-requires : goal.roll-requires
roll-requires g c =
    let f = g.F.Folder in
    let met = g.met.F.Folder in
    let old = c.args.self.now.events.journal in
    let s = c.args.snapshot.now in
    let held = c.args.held.now in
    let found = c.args.found.now in
    let first = g.N.Beginning.first in
    let given = c.requires c.if-self.false in
    let there = c.in-Ok.ensures.there in
    let made = made_of f.shows f.kept f.sound f.moment f.left_since met.only_now met.earlier first
    old.medium old.len old.closed given.0 given.1 s held given.2 found c.args.next there.0 given.3
    there.1 in
    let rolls =
    may_roll f.shows f.kept f.sound f.moment f.left_since met.only_now met.earlier first old.medium
    (record (old.medium) { folder = c.write_saved.new.folder }) old.len old.closed given.0 given.1 s
    held given.2 found
    c.args.next there.0 c.values-values.result
    c.in-Ok.head given.3 c.if-self.false refl c.write_saved.ensures.stays there.1 there.2
    c.values-values.ensures
    c.in-Ok.ensures.saved c.in-Ok.ensures.stands in
    (given.0, given.1, made.0, rolls)

pub returns-in-Ok-roll-clause-places : goal.returns-in-Ok-roll-clause-places
returns-in-Ok-roll-clause-places g c events after parts may =
    let f = g.F.Folder in
    let met = g.met.F.Folder in
    let old = c.args.self.now.events.journal in
    let s = c.args.snapshot.now in
    let held = c.args.held.now in
    let found = c.args.found.now in
    let first = g.N.Beginning.first in
    let there = c.in-Ok.ensures.there in
    let made = made_of f.shows f.kept f.sound f.moment f.left_since met.only_now met.earlier first
    old.medium old.len old.closed events after s held parts found c.args.next there.0 may
    there.1 in
    let rolls =
    may_roll f.shows f.kept f.sound f.moment f.left_since met.only_now met.earlier first old.medium
    (record (old.medium) { folder = c.write_saved.new.folder }) old.len old.closed events after s held
    parts found
    c.args.next there.0 c.values-values.result
    c.in-Ok.head may c.if-self.false refl c.write_saved.ensures.stays there.1 there.2
    c.values-values.ensures
    c.in-Ok.ensures.saved c.in-Ok.ensures.stands in
    let now = c.roll.new.self.events.journal in
    let named = c.in-Ok-from_slice.ensures.items ∙ c.places.ensures in
    let is =
    c.in-Ok.ensures.saved
    ∙ (ap (save c.values-values.result s)
    (sym (named ∙ ap (λ (h : Saved). h.places) c.in-Ok.ensures.saved))
    ∙ ap (λ (v : Values). save v s c.in-Ok-from_slice.places.items) c.values-values.ensures) in (
      made.0,
      made.1,
      subst (λ (x : Saved). HoldsThese f.shows f.kept f.sound f.moment f.left_since first
          now.medium now.len now.closed after x made.0 []) is
          (c.in-Ok-roll.ensures.alone events after made.0 rolls),
    )

pub returns-clause-held : goal.returns-clause-held
returns-clause-held g c events after parts may =
    let f = g.F.Folder in
    let met = g.met.F.Folder in
    let old = c.args.self.now.events.journal in
    let s = c.args.snapshot.now in
    let held = c.args.held.now in
    let found = c.args.found.now in
    let first = g.N.Beginning.first in
    let there = c.in-Ok.ensures.there in
    let made = made_of f.shows f.kept f.sound f.moment f.left_since met.only_now met.earlier first
    old.medium old.len old.closed events after s held parts found c.args.next there.0 may
    there.1 in
    let rolls =
    may_roll f.shows f.kept f.sound f.moment f.left_since met.only_now met.earlier first old.medium
    (record (old.medium) { folder = c.write_saved.new.folder }) old.len old.closed events after s held
    parts found
    c.args.next there.0 c.values-values.result
    c.in-Ok.head may c.if-self.false refl c.write_saved.ensures.stays there.1 there.2
    c.values-values.ensures
    c.in-Ok.ensures.saved c.in-Ok.ensures.stands in
    c.in-Err-roll.ensures.held events after made.0 rolls

pub returns-clause-same : goal.returns-clause-same
returns-clause-same g c events after parts may goes_on =
    let f = g.F.Folder in
    let met = g.met.F.Folder in
    let old = c.args.self.now.events.journal in
    let s = c.args.snapshot.now in
    let held = c.args.held.now in
    let found = c.args.found.now in
    let first = g.N.Beginning.first in
    let h = may.holds.0 in
    c.in-Err-roll.ensures.same events h.saved h.parts h.late
    (still_these f.shows f.kept f.sound f.moment f.left_since met.only_now met.earlier first old.medium
    (record (old.medium) { folder = c.write_saved.new.folder }) old.len old.closed events after s held
    parts found may c.if-self.false refl
    c.write_saved.ensures.stays) goes_on

pub returns-in-Ok-roll-clause-leaves : goal.returns-in-Ok-roll-clause-leaves
returns-in-Ok-roll-clause-leaves g c events after parts may opened =
    let f = g.F.Folder in
    let met = g.met.F.Folder in
    let old = c.args.self.now.events.journal in
    let s = c.args.snapshot.now in
    let held = c.args.held.now in
    let found = c.args.found.now in
    let first = g.N.Beginning.first in
    let there = c.in-Ok.ensures.there in
    let made = made_of f.shows f.kept f.sound f.moment f.left_since met.only_now met.earlier first
    old.medium old.len old.closed events after s held parts found c.args.next there.0 may
    there.1 in
    let places = places_with c.args.next found (length s.blocks) in
    let rolls =
    may_roll f.shows f.kept f.sound f.moment f.left_since met.only_now met.earlier first old.medium
    (record (old.medium) { folder = c.write_saved.new.folder }) old.len old.closed events after s held
    parts found c.args.next there.0 c.values-values.result c.in-Ok.head may c.if-self.false refl
    c.write_saved.ensures.stays there.1 there.2 c.values-values.ensures c.in-Ok.ensures.saved
    c.in-Ok.ensures.stands in
    let h = may.holds.0 in
    saving_leaves f.shows f.kept f.sound f.moment f.left_since met.only_now met.earlier first old.medium
    c.write_saved.new.folder c.roll.new.self.events.journal.medium.folder old.len old.closed events after s
    held parts found first.values c.values-values.result places made.0 c.in-Ok.head may
    opened c.write_saved.ensures.stays
    made.1 (c.in-Ok.ensures.stands made.0 made.1)
    c.values-values.ensures c.in-Ok.ensures.saved
    (c.in-Ok-roll.ensures.leaves events after h.saved h.parts made.0 h.late
    (still_these f.shows f.kept f.sound f.moment f.left_since met.only_now met.earlier first old.medium
    (record (old.medium) { folder = c.write_saved.new.folder }) old.len old.closed events after s held
    parts found may c.if-self.false refl
    c.write_saved.ensures.stays)
    rolls c.if-self.false)

pub returns-in-Ok-roll-clause-any_moment : goal.returns-in-Ok-roll-clause-any_moment
returns-in-Ok-roll-clause-any_moment g c events after parts may opened =
    let f = g.F.Folder in
    let met = g.met.F.Folder in
    let old = c.args.self.now.events.journal in
    saved_finds f.shows f.kept f.sound f.moment f.left_since met.only_now met.earlier
    g.N.Beginning.first old.medium c.roll.new.self.events.journal.medium.folder old.len old.closed events
    after c.args.snapshot.now may.holds.0 may.world
    (returns-in-Ok-roll-clause-leaves g c events after parts may opened)

pub returns-clause-leaves : goal.returns-clause-leaves
returns-clause-leaves g c events after parts may opened =
    let f = g.F.Folder in
    let met = g.met.F.Folder in
    let old = c.args.self.now.events.journal in
    let s = c.args.snapshot.now in
    let held = c.args.held.now in
    let found = c.args.found.now in
    let first = g.N.Beginning.first in
    let there = c.in-Ok.ensures.there in
    let made = made_of f.shows f.kept f.sound f.moment f.left_since met.only_now met.earlier first
    old.medium old.len old.closed events after s held parts found c.args.next there.0 may
    there.1 in
    let places = places_with c.args.next found (length s.blocks) in
    let rolls =
    may_roll f.shows f.kept f.sound f.moment f.left_since met.only_now met.earlier first old.medium
    (record (old.medium) { folder = c.write_saved.new.folder }) old.len old.closed events after s held
    parts found c.args.next there.0 c.values-values.result c.in-Ok.head may c.if-self.false refl
    c.write_saved.ensures.stays there.1 there.2 c.values-values.ensures c.in-Ok.ensures.saved
    c.in-Ok.ensures.stands in
    let h = may.holds.0 in
    saving_leaves f.shows f.kept f.sound f.moment f.left_since met.only_now met.earlier first old.medium
    c.write_saved.new.folder c.roll.new.self.events.journal.medium.folder old.len old.closed events after s
    held parts found first.values c.values-values.result places made.0 c.in-Ok.head may
    opened c.write_saved.ensures.stays
    made.1 (c.in-Ok.ensures.stands made.0 made.1)
    c.values-values.ensures c.in-Ok.ensures.saved
    (c.in-Err-roll.ensures.leaves events after h.saved h.parts made.0 h.late
    (still_these f.shows f.kept f.sound f.moment f.left_since met.only_now met.earlier first old.medium
    (record (old.medium) { folder = c.write_saved.new.folder }) old.len old.closed events after s held
    parts found may c.if-self.false refl
    c.write_saved.ensures.stays)
    rolls c.if-self.false)

pub returns-clause-any_moment : goal.returns-clause-any_moment
returns-clause-any_moment g c events after parts may opened =
    let f = g.F.Folder in
    let met = g.met.F.Folder in
    let old = c.args.self.now.events.journal in
    saved_finds f.shows f.kept f.sound f.moment f.left_since met.only_now met.earlier
    g.N.Beginning.first old.medium c.roll.new.self.events.journal.medium.folder old.len old.closed events
    after c.args.snapshot.now may.holds.0 may.world
    (returns-clause-leaves g c events after parts may opened)

pub returns-in-Ok-roll-clause-len : goal.returns-in-Ok-roll-clause-len
returns-in-Ok-roll-clause-len g c =
    let s = c.args.snapshot.now in
    let named = c.in-Ok-from_slice.ensures.items ∙ c.places.ensures in
    let same =
    c.in-Ok.ensures.saved
    ∙ (ap (save c.values-values.result s)
    (sym (named ∙ ap (λ (h : Saved). h.places) c.in-Ok.ensures.saved))
    ∙ ap (λ (v : Values). save v s c.in-Ok-from_slice.places.items) c.values-values.ensures) in
    c.in-Ok-roll.ensures.len
    ∙ ap (λ (h : Saved). length (file_of (contents_with (head_texts h) []))) same

pub returns-in-Ok-roll-clause-file : goal.returns-in-Ok-roll-clause-file
returns-in-Ok-roll-clause-file g c =
    let f = g.F.Folder in
    let s = c.args.snapshot.now in
    let named = c.in-Ok-from_slice.ensures.items ∙ c.places.ensures in
    let same =
    c.in-Ok.ensures.saved
    ∙ (ap (save c.values-values.result s)
    (sym (named ∙ ap (λ (h : Saved). h.places) c.in-Ok.ensures.saved))
    ∙ ap (λ (v : Values). save v s c.in-Ok-from_slice.places.items) c.values-values.ensures) in
    same_alone f.shows f.kept c.in-Ok.head
    (save g.N.Beginning.first.values s c.in-Ok-from_slice.places.items)
    c.roll.new.self.events.journal.medium.folder same c.in-Ok-roll.ensures.file

pub returns-in-Ok-roll-clause-stands : goal.returns-in-Ok-roll-clause-stands
returns-in-Ok-roll-clause-stands g c =
    let s = c.args.snapshot.now in
    let named = c.in-Ok-from_slice.ensures.items ∙ c.places.ensures in
    let same =
    c.in-Ok.ensures.saved
    ∙ (ap (save c.values-values.result s)
    (sym (named ∙ ap (λ (h : Saved). h.places) c.in-Ok.ensures.saved))
    ∙ ap (λ (v : Values). save v s c.in-Ok-from_slice.places.items) c.values-values.ensures) in
    same_stand s.blocks c.in-Ok.head
    (save g.N.Beginning.first.values s c.in-Ok-from_slice.places.items) same c.in-Ok.ensures.stands

-- what is none of the store's

pub returns-then-self-clause-foreign : goal.returns-then-self-clause-foreign
returns-then-self-clause-foreign g c =
    let f = g.F.Folder in
    foreign_rests f.shows f.kept c.args.self.now.events.journal.medium.folder

pub returns-in-Err-clause-foreign : goal.returns-in-Err-clause-foreign
returns-in-Err-clause-foreign g c =
    let f = g.F.Folder in
    foreign_kept f.shows f.kept f.sound f.moment f.left_since (names_at c.args.held.now)
    c.args.self.now.events.journal.medium.folder c.write_saved.new.folder
    c.write_saved.ensures.stays

pub returns-in_default-clause-foreign : goal.returns-in_default-clause-foreign
returns-in_default-clause-foreign g c =
    let f = g.F.Folder in
    foreign_kept f.shows f.kept f.sound f.moment f.left_since (names_at c.args.held.now)
    c.args.self.now.events.journal.medium.folder c.write_saved.new.folder
    c.write_saved.ensures.stays

pub returns-in-Ok-roll-clause-foreign : goal.returns-in-Ok-roll-clause-foreign
returns-in-Ok-roll-clause-foreign g c =
    let f = g.F.Folder in
    foreign_then f.shows f.kept c.args.self.now.events.journal.medium.folder
    c.write_saved.new.folder c.roll.new.self.events.journal.medium.folder
    (foreign_kept f.shows f.kept f.sound f.moment f.left_since (names_at c.args.held.now)
    c.args.self.now.events.journal.medium.folder c.write_saved.new.folder
    c.write_saved.ensures.stays)
    (foreign_beside f.shows f.kept c.write_saved.new.folder
    c.roll.new.self.events.journal.medium.folder c.roll.ensures.others)

pub returns-clause-foreign : goal.returns-clause-foreign
returns-clause-foreign g c =
    let f = g.F.Folder in
    foreign_then f.shows f.kept c.args.self.now.events.journal.medium.folder
    c.write_saved.new.folder c.roll.new.self.events.journal.medium.folder
    (foreign_kept f.shows f.kept f.sound f.moment f.left_since (names_at c.args.held.now)
    c.args.self.now.events.journal.medium.folder c.write_saved.new.folder
    c.write_saved.ensures.stays)
    (foreign_beside f.shows f.kept c.write_saved.new.folder
    c.roll.new.self.events.journal.medium.folder c.roll.ensures.others)

-- the files of the held blocks, and what the meta.json of blocks says

pub returns-in-Err-clause-blocks : goal.returns-in-Err-clause-blocks
returns-in-Err-clause-blocks g c files among there =
    c.write_saved.ensures.stays.files files among there

pub returns-in_default-clause-blocks : goal.returns-in_default-clause-blocks
returns-in_default-clause-blocks g c files among there =
    c.write_saved.ensures.stays.files files among there

pub returns-in-Ok-roll-clause-blocks : goal.returns-in-Ok-roll-clause-blocks
returns-in-Ok-roll-clause-blocks g c files among there =
    let f = g.F.Folder in
    there_beside f.shows f.kept c.args.held.now files c.write_saved.new.folder
    c.roll.new.self.events.journal.medium.folder c.roll.ensures.others among
    (c.write_saved.ensures.stays.files files among there)

pub returns-clause-blocks : goal.returns-clause-blocks
returns-clause-blocks g c files among there =
    let f = g.F.Folder in
    there_beside f.shows f.kept c.args.held.now files c.write_saved.new.folder
    c.roll.new.self.events.journal.medium.folder c.roll.ensures.others among
    (c.write_saved.ensures.stays.files files among there)

pub returns-in-Ok-roll-clause-says : goal.returns-in-Ok-roll-clause-says
returns-in-Ok-roll-clause-says g c says =
    let f = g.F.Folder in
    let old = c.args.self.now.events.journal.medium.folder in
    let mid = c.write_saved.new.folder in
    let new = c.roll.new.self.events.journal.medium.folder in
    let values = g.N.Beginning.first.values in
    let found = c.args.found.now in
    let held = c.args.held.now in
    let blocks = c.args.snapshot.now.blocks in
    let places = places_with c.args.next found (length blocks) in
    let given = c.requires c.if-self.false in
    let written = says_saved f.shows f.kept values c.values-values.result c.args.next held found
    blocks old mid c.values-values.ensures
    (found_of IsLike held given.2 found blocks given.3.like)
    (λ files among there. c.write_saved.ensures.stays.files files among there)
    says c.in-Ok.ensures.says in
    let named = c.in-Ok-from_slice.ensures.items ∙ c.places.ensures
    ∙ ap (λ (h : Saved). h.places) c.in-Ok.ensures.saved in
    subst (λ (ps : List Place). EachSays f.shows f.kept values ps new) (sym named)
    (says_on f.shows f.kept values places mid new
    (λ files among there. there_beside f.shows f.kept places files mid new c.roll.ensures.others among there)
    written)

pub returns-in-Ok-roll-clause-written : goal.returns-in-Ok-roll-clause-written
returns-in-Ok-roll-clause-written g c =
    let f = g.F.Folder in
    let mid = c.write_saved.new.folder in
    let new = c.roll.new.self.events.journal.medium.folder in
    let places =
    places_from c.args.next (length (unfound c.args.found.now c.args.snapshot.now.blocks)) in
    says_on f.shows f.kept g.N.Beginning.first.values places mid new
    (λ files among there. there_beside f.shows f.kept places files mid new c.roll.ensures.others among there)
    (subst (λ (v : Values). EachSays f.shows f.kept v places mid) c.values-values.ensures
    c.in-Ok.ensures.says)

-- what the fault tells

pub returns-in-Err-clause-cause : goal.returns-in-Err-clause-cause
returns-in-Err-clause-cause g c =
    let f = g.F.Folder in
    subst (λ (b : Bool). IsRollCause b (f.failed c.write_saved.new.folder) c.in-Err.fault)
    (sym c.if-self.false) c.in-Err.ensures.cause
