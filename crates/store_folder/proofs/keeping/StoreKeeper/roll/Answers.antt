use Rattle.std.proofs.Common.{List, [], Option, ap, inl, inr, length, map, refl, subst, subst₂, sym}
use Rattle.std.proofs.Common.{◌∙◌}
use Rattle.block.specs.Blocks.{Shown}
use Rattle.data_folder.proofs.Foreign.{foreign_rests, foreign_then}
use Rattle.data_folder.proofs.Moments.{joined, weaker}
use Rattle.data_folder.specs.Sweeping.{AreAmong}
use Rattle.head.specs.Blocks.{part_in}
use Rattle.head.specs.Heads.{BlockPart}
use Rattle.head_record.specs.Saved.{Place, save}
use Rattle.store_folder.specs.Saving.{AreBelow, AreFound, IsAbove, IsOldOrSaved}
use Rattle.store_folder.specs.States.{IsState}
use Rattle.store_folder.specs.Sweeps.{names_at}
use Rattle.store_folder.specs.Writing.{EachSays, places_from, unfound}
use Rattle.store_folder.proofs.Causes.{cause_lasts}
use Rattle.store_folder.proofs.Found.{Same}
use Rattle.store_folder.proofs.Fronts.{as_between, failed_like, may_save, open_like, same_between}
use Rattle.store_folder.proofs.Fronts.{saved_like}
use Rattle.store_folder.proofs.HeadsAlone.{head_stays}
use Rattle.store_folder.proofs.Rolls.{at_these, finds_same, state_rests}
use Rattle.store_folder.proofs.Saves.{saved_finds}
use Rattle.store_folder.proofs.Says.{among_all, says_on}
use Rattle.store_folder.proofs.keeping.StoreKeeper.roll.Goals as goal

pub save-requires : goal.save-requires
save-requires g c opened =
    let f = g.F.Folder in
    let met = g.met.F.Folder in
    let self = c.args.self.now in
    let j = self.store.events.journal in
    let first = g.N.Beginning.first in
    let blocks = map part_in self.blocks.items in
    let events = c.requires.0 in
    let after = c.requires.1 in
    let held = c.requires.2 in
    let world = c.requires.3 in
    let like = open_like f.shows f.kept f.sound f.moment f.left_since first j.medium j.len j.closed
    events self.places.items blocks held c.if-self.false in
    let may = may_save f.shows f.kept f.sound f.moment f.left_since first j.medium j.len j.closed
    events after self.places.items c.deref-4.result.now c.deref-2.result.now blocks
    (map part_in c.blocks-3.result.now) (map part_in c.deref.result.now) c.args.snapshot.now
    c.in-Ok-find_places.found.items c.deref-5.result.now like world c.deref-4.ensures.value
    c.deref-2.ensures.value c.blocks-3.ensures
    (ap (λ (bs : List Shown). map part_in bs) c.deref.ensures.value) c.deref-5.ensures.value
    c.in-Ok-find_places.ensures.found in
    (events, after, like.0.parts, may)

pub sweep_blocks-requires-clause-held : goal.sweep_blocks-requires-clause-held
sweep_blocks-requires-clause-held g c =
    let f = g.F.Folder in
    let met = g.met.F.Folder in
    let self = c.args.self.now in
    let j = self.store.events.journal in
    let first = g.N.Beginning.first in
    let blocks = map part_in self.blocks.items in
    let events = c.requires.0 in
    let after = c.requires.1 in
    let held = c.requires.2 in
    let world = c.requires.3 in
    let like = open_like f.shows f.kept f.sound f.moment f.left_since first j.medium j.len j.closed
    events self.places.items blocks held c.if-self.false in
    let may = may_save f.shows f.kept f.sound f.moment f.left_since first j.medium j.len j.closed
    events after self.places.items c.deref-4.result.now c.deref-2.result.now blocks
    (map part_in c.blocks-3.result.now) (map part_in c.deref.result.now) c.args.snapshot.now
    c.in-Ok-find_places.found.items c.deref-5.result.now like world c.deref-4.ensures.value
    c.deref-2.ensures.value c.blocks-3.ensures
    (ap (λ (bs : List Shown). map part_in bs) c.deref.ensures.value) c.deref-5.ensures.value
    c.in-Ok-find_places.ensures.found in
    let placed = c.in-Ok-save.ensures.places events after like.0.parts may in
    let at = at_these f.shows f.kept f.sound f.moment f.left_since first _ _ _ after _ placed.0 []
    c.in-Ok-save.places.items placed.2 refl in
    (after, placed.0, (at.0, at.1 ∙ sym c.deref-in-Ok-save.ensures.value, at.2))

pub sweep_after-requires : goal.sweep_after-requires
sweep_after-requires g c opened =
    let f = g.F.Folder in
    let met = g.met.F.Folder in
    let self = c.args.self.now in
    let j = self.store.events.journal in
    let first = g.N.Beginning.first in
    let blocks = map part_in self.blocks.items in
    let events = c.requires.0 in
    let after = c.requires.1 in
    let held = c.requires.2 in
    let world = c.requires.3 in
    let like = open_like f.shows f.kept f.sound f.moment f.left_since first j.medium j.len j.closed
    events self.places.items blocks held c.if-self.false in
    let may = may_save f.shows f.kept f.sound f.moment f.left_since first j.medium j.len j.closed
    events after self.places.items c.deref-4.result.now c.deref-2.result.now blocks
    (map part_in c.blocks-3.result.now) (map part_in c.deref.result.now) c.args.snapshot.now
    c.in-Ok-find_places.found.items c.deref-5.result.now like world c.deref-4.ensures.value
    c.deref-2.ensures.value c.blocks-3.ensures
    (ap (λ (bs : List Shown). map part_in bs) c.deref.ensures.value) c.deref-5.ensures.value
    c.in-Ok-find_places.ensures.found in
    let at = at_these f.shows f.kept f.sound f.moment f.left_since first _ _ _ events _ _ _ _
    (c.in-Err.ensures.same events after like.0.parts may opened) may.holds.1 in
    (events, like.0.parts, (at.0, at.1 ∙ (c.deref-4.ensures.value ∙ sym c.deref-in-Err.ensures.value), at.2))

pub returns-in-Ok-save-clause-saved : goal.returns-in-Ok-save-clause-saved
returns-in-Ok-save-clause-saved g c events after held world =
    let f = g.F.Folder in
    let met = g.met.F.Folder in
    let self = c.args.self.now in
    let j = self.store.events.journal in
    let first = g.N.Beginning.first in
    let blocks = map part_in self.blocks.items in
    let like = open_like f.shows f.kept f.sound f.moment f.left_since first j.medium j.len j.closed
    events self.places.items blocks held c.if-self.false in
    let may = may_save f.shows f.kept f.sound f.moment f.left_since first j.medium j.len j.closed
    events after self.places.items c.deref-4.result.now c.deref-2.result.now blocks
    (map part_in c.blocks-3.result.now) (map part_in c.deref.result.now) c.args.snapshot.now
    c.in-Ok-find_places.found.items c.deref-5.result.now like world c.deref-4.ensures.value
    c.deref-2.ensures.value c.blocks-3.ensures
    (ap (λ (bs : List Shown). map part_in bs) c.deref.ensures.value) c.deref-5.ensures.value
    c.in-Ok-find_places.ensures.found in
    let placed = c.in-Ok-save.ensures.places events after like.0.parts may in
    let at = at_these f.shows f.kept f.sound f.moment f.left_since first _ _ _ after _ placed.0 []
    c.in-Ok-save.places.items placed.2 refl in
    let swept = c.sweep_blocks.ensures.held after placed.0
    (at.0, at.1 ∙ sym c.deref-in-Ok-save.ensures.value, at.2) in
    let now = c.sweep_blocks.new.self.events.journal in
    saved_like f.shows f.kept f.sound f.moment f.left_since first now.medium now.len now.closed
    after c.deref-in-Ok-save.result.now c.in-Ok-save.places.items placed.0 c.args.snapshot.now.blocks
    (map part_in c.in-Ok.blocks.items) swept placed.1 (sym c.deref-in-Ok-save.ensures.value)
    (c.in-Ok.ensures ∙ c.blocks-2.ensures)

pub returns-in-Ok-save-clause-held : goal.returns-in-Ok-save-clause-held
returns-in-Ok-save-clause-held g c events held world =
    inl (returns-in-Ok-save-clause-saved g c events events held world)

pub returns-in-Ok-save-clause-blocks : goal.returns-in-Ok-save-clause-blocks
returns-in-Ok-save-clause-blocks g c = c.in-Ok.ensures ∙ c.blocks-2.ensures

pub returns-in-Err-clause-unsaved : goal.returns-in-Err-clause-unsaved
returns-in-Err-clause-unsaved g c events after held world =
    let f = g.F.Folder in
    let met = g.met.F.Folder in
    let self = c.args.self.now in
    let j = self.store.events.journal in
    let first = g.N.Beginning.first in
    let blocks = map part_in self.blocks.items in
    let like = open_like f.shows f.kept f.sound f.moment f.left_since first j.medium j.len j.closed
    events self.places.items blocks held c.if-self.false in
    let may = may_save f.shows f.kept f.sound f.moment f.left_since first j.medium j.len j.closed
    events after self.places.items c.deref-4.result.now c.deref-2.result.now blocks
    (map part_in c.blocks-3.result.now) (map part_in c.deref.result.now) c.args.snapshot.now
    c.in-Ok-find_places.found.items c.deref-5.result.now like world c.deref-4.ensures.value
    c.deref-2.ensures.value c.blocks-3.ensures
    (ap (λ (bs : List Shown). map part_in bs) c.deref.ensures.value) c.deref-5.ensures.value
    c.in-Ok-find_places.ensures.found in
    let parts = like.0.parts in
    let mid = c.save.new.self.events.journal in
    let now = c.sweep_after.new.self.events.journal in
    let there = c.deref-4.ensures.value ∙ sym c.deref-in-Err.ensures.value in
    failed_like f.shows f.kept f.sound f.moment f.left_since met.only_now first j.medium mid.medium
    now.medium j.len mid.len now.len j.closed mid.closed now.closed events after self.places.items
    c.deref-in-Err.result.now blocks like c.sweep_after.ensures.closed
    (λ opened. (let at = at_these f.shows f.kept f.sound f.moment f.left_since first _ _ _ events _ _ _ _
    (c.in-Err.ensures.same events after parts may opened) may.holds.1 in (at.0, at.1 ∙ there, at.2)))
    (λ opened at. c.sweep_after.ensures.at opened events parts at)
    (c.sweep_after.ensures.held events after parts
    (λ opened. (let at = at_these f.shows f.kept f.sound f.moment f.left_since first _ _ _ events _ _ _ _
    (c.in-Err.ensures.same events after parts may opened) may.holds.1 in (at.0, at.1 ∙ there, at.2)))
    (c.in-Err.ensures.held events after parts may))
    c.deref-in-Err.ensures.value

pub returns-in-Err-clause-held : goal.returns-in-Err-clause-held
returns-in-Err-clause-held g c events held world =
    let f = g.F.Folder in
    let self = c.args.self.now in
    let now = c.sweep_after.new.self.events.journal in
    same_between f.shows f.kept f.sound f.moment f.left_since g.N.Beginning.first now.medium now.len
    now.closed events self.places.items (map part_in self.blocks.items)
    (returns-in-Err-clause-unsaved g c events events held world)

pub returns-in-Ok-save-clause-leaves : goal.returns-in-Ok-save-clause-leaves
returns-in-Ok-save-clause-leaves g c events after h world opened =
    let f = g.F.Folder in
    let self = c.args.self.now in
    let j = self.store.events.journal in
    let first = g.N.Beginning.first in
    let blocks = map part_in self.blocks.items in
    let may = may_save f.shows f.kept f.sound f.moment f.left_since first j.medium j.len j.closed
    events after self.places.items c.deref-4.result.now c.deref-2.result.now blocks
    (map part_in c.blocks-3.result.now) (map part_in c.deref.result.now) c.args.snapshot.now
    c.in-Ok-find_places.found.items c.deref-5.result.now h world c.deref-4.ensures.value
    c.deref-2.ensures.value c.blocks-3.ensures
    (ap (λ (bs : List Shown). map part_in bs) c.deref.ensures.value) c.deref-5.ensures.value
    c.in-Ok-find_places.ensures.found in
    let s = c.args.snapshot.now in
    let places = c.in-Ok-save.places.items in
    let saved = save first.values s places in
    let placed = c.in-Ok-save.ensures.places events after h.0.parts may in
    let mid = c.save.new.self.events.journal.medium.folder in
    let new = c.sweep_blocks.new.self.events.journal.medium.folder in
    let P = IsOldOrSaved h.0.saved h.0.parts h.0.late first.values s in
    joined f.moment f.left_since j.medium.folder mid new P
    (c.in-Ok-save.ensures.leaves events after h.0.parts may opened)
    (weaker f.moment f.left_since mid new (IsState saved placed.0 []) P
    (λ left state. inr (
      places,
      placed.0,
      placed.1,
      state,
      c.in-Ok-save.ensures.stands placed.0 placed.1,
    ))
    (c.sweep_blocks.ensures.leaves after saved placed.0 [] placed.2
    (sym c.deref-in-Ok-save.ensures.value)))

pub returns-in-Ok-save-clause-finds : goal.returns-in-Ok-save-clause-finds
returns-in-Ok-save-clause-finds g c events after held world opened =
    let f = g.F.Folder in
    let met = g.met.F.Folder in
    let self = c.args.self.now in
    let j = self.store.events.journal in
    let first = g.N.Beginning.first in
    let like = open_like f.shows f.kept f.sound f.moment f.left_since first j.medium j.len j.closed
    events self.places.items (map part_in self.blocks.items) held opened in
    saved_finds f.shows f.kept f.sound f.moment f.left_since met.only_now met.earlier first j.medium
    c.sweep_blocks.new.self.events.journal.medium.folder j.len j.closed events after
    c.args.snapshot.now like.0 world (returns-in-Ok-save-clause-leaves g c events after like world opened)

pub returns-in-Ok-save-clause-any_moment : goal.returns-in-Ok-save-clause-any_moment
returns-in-Ok-save-clause-any_moment g c events held world opened =
    let f = g.F.Folder in
    finds_same f.moment f.left_since g.N.Beginning.first events
    c.args.self.now.store.events.journal.medium.folder
    c.sweep_blocks.new.self.events.journal.medium.folder
    (returns-in-Ok-save-clause-finds g c events events held world opened)

pub returns-in-Err-clause-leaves : goal.returns-in-Err-clause-leaves
returns-in-Err-clause-leaves g c events after h world opened =
    let f = g.F.Folder in
    let self = c.args.self.now in
    let j = self.store.events.journal in
    let first = g.N.Beginning.first in
    let blocks = map part_in self.blocks.items in
    let may = may_save f.shows f.kept f.sound f.moment f.left_since first j.medium j.len j.closed
    events after self.places.items c.deref-4.result.now c.deref-2.result.now blocks
    (map part_in c.blocks-3.result.now) (map part_in c.deref.result.now) c.args.snapshot.now
    c.in-Ok-find_places.found.items c.deref-5.result.now h world c.deref-4.ensures.value
    c.deref-2.ensures.value c.blocks-3.ensures
    (ap (λ (bs : List Shown). map part_in bs) c.deref.ensures.value) c.deref-5.ensures.value
    c.in-Ok-find_places.ensures.found in
    c.sweep_after.ensures.leaves events h.0.saved h.0.parts h.0.late first.values c.args.snapshot.now
    j.medium.folder (λ goes. c.in-Err.ensures.same events after h.0.parts may goes)
    (h.1 ∙ sym c.deref-in-Err.ensures.value) (c.in-Err.ensures.leaves events after h.0.parts may opened)

pub returns-in-Err-clause-finds : goal.returns-in-Err-clause-finds
returns-in-Err-clause-finds g c events after held world opened =
    let f = g.F.Folder in
    let met = g.met.F.Folder in
    let self = c.args.self.now in
    let j = self.store.events.journal in
    let first = g.N.Beginning.first in
    let like = open_like f.shows f.kept f.sound f.moment f.left_since first j.medium j.len j.closed
    events self.places.items (map part_in self.blocks.items) held opened in
    saved_finds f.shows f.kept f.sound f.moment f.left_since met.only_now met.earlier first j.medium
    c.sweep_after.new.self.events.journal.medium.folder j.len j.closed events after
    c.args.snapshot.now like.0 world (returns-in-Err-clause-leaves g c events after like world opened)

pub returns-in-Err-clause-any_moment : goal.returns-in-Err-clause-any_moment
returns-in-Err-clause-any_moment g c events held world opened =
    let f = g.F.Folder in
    finds_same f.moment f.left_since g.N.Beginning.first events
    c.args.self.now.store.events.journal.medium.folder
    c.sweep_after.new.self.events.journal.medium.folder
    (returns-in-Err-clause-finds g c events events held world opened)

pub returns-in_default-clause-leaves : goal.returns-in_default-clause-leaves
returns-in_default-clause-leaves g c events after h world opened =
    let f = g.F.Folder in
    let met = g.met.F.Folder in
    let j = c.args.self.now.store.events.journal in
    let folder = j.medium.folder in
    weaker f.moment f.left_since folder folder (IsState h.0.saved h.0.parts h.0.late)
    (IsOldOrSaved h.0.saved h.0.parts h.0.late g.N.Beginning.first.values c.args.snapshot.now)
    (λ left state. inl state)
    (state_rests f.shows f.kept f.sound f.moment f.left_since met.only_now met.earlier
    g.N.Beginning.first j.medium j.len j.closed events h.0 opened)

pub returns-in_default-find_places-clause-leaves : goal.returns-in_default-find_places-clause-leaves
returns-in_default-find_places-clause-leaves g c events after h world opened =
    let f = g.F.Folder in
    let met = g.met.F.Folder in
    let j = c.args.self.now.store.events.journal in
    let folder = j.medium.folder in
    weaker f.moment f.left_since folder folder (IsState h.0.saved h.0.parts h.0.late)
    (IsOldOrSaved h.0.saved h.0.parts h.0.late g.N.Beginning.first.values c.args.snapshot.now)
    (λ left state. inl state)
    (state_rests f.shows f.kept f.sound f.moment f.left_since met.only_now met.earlier
    g.N.Beginning.first j.medium j.len j.closed events h.0 opened)

-- nothing was saved

pub returns-then-self-clause-unsaved : goal.returns-then-self-clause-unsaved
returns-then-self-clause-unsaved g c events after held world =
    let f = g.F.Folder in
    let self = c.args.self.now in
    let j = self.store.events.journal in
    as_between f.shows f.kept f.sound f.moment f.left_since g.N.Beginning.first j.medium j.len
    j.closed events after self.places.items (map part_in self.blocks.items) held

pub returns-in_default-clause-unsaved : goal.returns-in_default-clause-unsaved
returns-in_default-clause-unsaved g c events after held world =
    let f = g.F.Folder in
    let self = c.args.self.now in
    let j = self.store.events.journal in
    as_between f.shows f.kept f.sound f.moment f.left_since g.N.Beginning.first j.medium j.len
    j.closed events after self.places.items (map part_in self.blocks.items) held

pub returns-in_default-find_places-clause-unsaved : goal.returns-in_default-find_places-clause-unsaved
returns-in_default-find_places-clause-unsaved g c events after held world =
    let f = g.F.Folder in
    let self = c.args.self.now in
    let j = self.store.events.journal in
    as_between f.shows f.kept f.sound f.moment f.left_since g.N.Beginning.first j.medium j.len
    j.closed events after self.places.items (map part_in self.blocks.items) held

pub returns-in_default-clause-finds : goal.returns-in_default-clause-finds
returns-in_default-clause-finds g c events after held world opened =
    let f = g.F.Folder in
    let met = g.met.F.Folder in
    let self = c.args.self.now in
    let j = self.store.events.journal in
    let first = g.N.Beginning.first in
    let like = open_like f.shows f.kept f.sound f.moment f.left_since first j.medium j.len j.closed
    events self.places.items (map part_in self.blocks.items) held opened in
    saved_finds f.shows f.kept f.sound f.moment f.left_since met.only_now met.earlier first j.medium
    c.args.self.now.store.events.journal.medium.folder j.len j.closed events after
    c.args.snapshot.now like.0 world (returns-in_default-clause-leaves g c events after like world opened)

pub returns-in_default-find_places-clause-finds : goal.returns-in_default-find_places-clause-finds
returns-in_default-find_places-clause-finds g c events after held world opened =
    let f = g.F.Folder in
    let met = g.met.F.Folder in
    let self = c.args.self.now in
    let j = self.store.events.journal in
    let first = g.N.Beginning.first in
    let like = open_like f.shows f.kept f.sound f.moment f.left_since first j.medium j.len j.closed
    events self.places.items (map part_in self.blocks.items) held opened in
    saved_finds f.shows f.kept f.sound f.moment f.left_since met.only_now met.earlier first j.medium
    c.args.self.now.store.events.journal.medium.folder j.len j.closed events after
    c.args.snapshot.now like.0 world (returns-in_default-find_places-clause-leaves g c events after like world opened)

pub returns-in_default-clause-any_moment : goal.returns-in_default-clause-any_moment
returns-in_default-clause-any_moment g c events held world opened =
    let f = g.F.Folder in
    finds_same f.moment f.left_since g.N.Beginning.first events
    c.args.self.now.store.events.journal.medium.folder
    c.args.self.now.store.events.journal.medium.folder
    (returns-in_default-clause-finds g c events events held world opened)

pub returns-in_default-find_places-clause-any_moment : goal.returns-in_default-find_places-clause-any_moment
returns-in_default-find_places-clause-any_moment g c events held world opened =
    let f = g.F.Folder in
    finds_same f.moment f.left_since g.N.Beginning.first events
    c.args.self.now.store.events.journal.medium.folder
    c.args.self.now.store.events.journal.medium.folder
    (returns-in_default-find_places-clause-finds g c events events held world opened)

pub returns-then-self-clause-foreign : goal.returns-then-self-clause-foreign
returns-then-self-clause-foreign g c =
    let f = g.F.Folder in
    foreign_rests f.shows f.kept c.args.self.now.store.events.journal.medium.folder

pub returns-in_default-clause-foreign : goal.returns-in_default-clause-foreign
returns-in_default-clause-foreign g c =
    let f = g.F.Folder in
    foreign_rests f.shows f.kept c.args.self.now.store.events.journal.medium.folder

pub returns-in_default-find_places-clause-foreign : goal.returns-in_default-find_places-clause-foreign
returns-in_default-find_places-clause-foreign g c =
    let f = g.F.Folder in
    foreign_rests f.shows f.kept c.args.self.now.store.events.journal.medium.folder

pub returns-in-Ok-save-clause-foreign : goal.returns-in-Ok-save-clause-foreign
returns-in-Ok-save-clause-foreign g c =
    let f = g.F.Folder in
    foreign_then f.shows f.kept c.args.self.now.store.events.journal.medium.folder
    c.save.new.self.events.journal.medium.folder c.sweep_blocks.new.self.events.journal.medium.folder
    c.save.ensures.foreign c.sweep_blocks.ensures.foreign

pub returns-in-Err-clause-foreign : goal.returns-in-Err-clause-foreign
returns-in-Err-clause-foreign g c =
    let f = g.F.Folder in
    foreign_then f.shows f.kept c.args.self.now.store.events.journal.medium.folder
    c.save.new.self.events.journal.medium.folder c.sweep_after.new.self.events.journal.medium.folder
    c.save.ensures.foreign c.sweep_after.ensures.foreign

-- what the meta.json of blocks says

pub returns-then-self-clause-says : goal.returns-then-self-clause-says
returns-then-self-clause-says g c says = says

pub returns-in_default-clause-says : goal.returns-in_default-clause-says
returns-in_default-clause-says g c says = says

pub returns-in_default-find_places-clause-says : goal.returns-in_default-find_places-clause-says
returns-in_default-find_places-clause-says g c says = says

pub returns-in-Ok-save-clause-says : goal.returns-in-Ok-save-clause-says
returns-in-Ok-save-clause-says g c says =
    let f = g.F.Folder in
    let values = g.N.Beginning.first.values in
    let old = c.args.self.now.store.events.journal.medium.folder in
    let mid = c.save.new.self.events.journal.medium.folder in
    let new = c.sweep_blocks.new.self.events.journal.medium.folder in
    says_on f.shows f.kept values c.in-Ok-save.places.items mid new
    (λ files among there. c.sweep_blocks.ensures.kept.files files
    (subst (λ (ps : List Place). AreAmong (names_at ps) files) (sym c.deref-in-Ok-save.ensures.value)
    among) there)
    (c.in-Ok-save.ensures.says
    (subst (λ (ps : List Place). EachSays f.shows f.kept values ps old) (sym c.deref-4.ensures.value)
    says))

pub returns-in-Err-clause-says : goal.returns-in-Err-clause-says
returns-in-Err-clause-says g c says =
    let f = g.F.Folder in
    let values = g.N.Beginning.first.values in
    let old = c.args.self.now.store.events.journal.medium.folder in
    let new = c.sweep_after.new.self.events.journal.medium.folder in
    says_on f.shows f.kept values c.args.self.now.places.items old new
    (λ files among there. c.sweep_after.ensures.blocks files
    (subst (λ (ps : List Place). AreAmong (names_at ps) files) (sym c.deref-in-Err.ensures.value) among)
    (c.save.ensures.blocks files
    (subst (λ (ps : List Place). AreAmong (names_at ps) files) (sym c.deref-4.ensures.value) among)
    there)) says

-- the journal, and that a start takes it

pub returns-in-Ok-save-clause-file : goal.returns-in-Ok-save-clause-file
returns-in-Ok-save-clause-file g c =
    let f = g.F.Folder in
    let places = c.in-Ok-save.places.items in
    head_stays f.shows f.kept f.sound f.moment f.left_since
    (names_at c.deref-in-Ok-save.result.now)
    (save g.N.Beginning.first.values c.args.snapshot.now places)
    c.save.new.self.events.journal.medium.folder c.sweep_blocks.new.self.events.journal.medium.folder
    c.sweep_blocks.ensures.kept c.in-Ok-save.ensures.file

pub returns-in-Ok-save-clause-stands : goal.returns-in-Ok-save-clause-stands
returns-in-Ok-save-clause-stands g c = c.in-Ok-save.ensures.stands

-- the numbers of the folders

pub returns-in-Ok-save-clause-numbers : goal.returns-in-Ok-save-clause-numbers
returns-in-Ok-save-clause-numbers g c =
    let f = g.F.Folder in
    let mid = c.save.new.self.events.journal.medium.folder in
    let new = c.sweep_blocks.new.self.events.journal.medium.folder in
    let blocks = c.args.snapshot.now.blocks in
    let looked = c.in-Ok-find_places.found.items in
    let found = c.deref-5.result.now in
    let next = c.next_number-next.result in
    let written = places_from next (length (unfound found blocks)) in
    let at : AreFound Same c.args.self.now.places.items (map part_in c.args.self.now.blocks.items)
    looked blocks =
    subst (λ (bs : List BlockPart). AreFound Same c.args.self.now.places.items
    (map part_in c.args.self.now.blocks.items) looked bs) c.blocks-3.ensures
    (subst₂ (λ (ps : List Place) (bs : List Shown).
    AreFound Same ps (map part_in bs) looked (map part_in c.blocks-3.result.now))
    c.deref-2.ensures.value c.deref.ensures.value c.in-Ok-find_places.ensures.found) in (
      found,
      next,
      c.next_number-next.ensures.some,
      subst (λ (ps : List Place). IsAbove next ps) c.deref-3.ensures.value
          c.next_number-next.ensures.above,
      λ n one below. c.next_number-next.ensures.least n one
          (subst (λ (ps : List Place). AreBelow n ps) (sym c.deref-3.ensures.value) below),
      subst (λ (xs : List (Option Place)). AreFound Same c.args.self.now.places.items
          (map part_in c.args.self.now.blocks.items) xs blocks) (sym c.deref-5.ensures.value) at,
      c.in-Ok-save.ensures.numbers,
      says_on f.shows f.kept g.N.Beginning.first.values written mid new
          (λ files among there. c.sweep_blocks.ensures.kept.files files
          (among_all next found blocks files c.deref-in-Ok-save.result.now
          (c.deref-in-Ok-save.ensures.value ∙ c.in-Ok-save.ensures.numbers) among) there)
          c.in-Ok-save.ensures.written,
    )

-- what the fault tells

pub returns-in-Err-clause-cause : goal.returns-in-Err-clause-cause
returns-in-Err-clause-cause g c =
    let f = g.F.Folder in
    cause_lasts c.args.self.now.store.events.journal.closed
    (f.failed c.save.new.self.events.journal.medium.folder)
    (f.failed c.sweep_after.new.self.events.journal.medium.folder) c.in-Err.fault
    c.sweep_after.ensures.lasting c.in-Err.ensures.cause
