use Rattle.std.proofs.Common.{inl}
use Rattle.data_folder.proofs.Foreign.{foreign_rests}
use Rattle.data_folder.proofs.Moments.{joined, weaker}
use Rattle.store_folder.specs.Saving.{IsOldOrSaved}
use Rattle.store_folder.specs.States.{IsState}
use Rattle.store_folder.proofs.Rolls.{finds_on}
use Rattle.store_folder.proofs.store_journal.StoreJournal.sweep_after.Goals as goal

pub sweep_blocks-requires-clause-held : goal.sweep_blocks-requires-clause-held
sweep_blocks-requires-clause-held g c = c.requires c.if-self.false

pub returns-then-self-clause-held : goal.returns-then-self-clause-held
returns-then-self-clause-held g c events after parts at held = held

pub returns-then-self-clause-any_moment : goal.returns-then-self-clause-any_moment
returns-then-self-clause-any_moment g c events parts before at found = found

pub returns-clause-held : goal.returns-clause-held
returns-clause-held g c events after parts at held =
    let swept = c.sweep_blocks.ensures.held events parts (at c.if-self.false) in
    inl swept.0

pub returns-clause-any_moment : goal.returns-clause-any_moment
returns-clause-any_moment g c events parts before at found =
    let f = g.F.Folder in
    let old = c.args.self.now.events.journal.medium.folder in
    let new = c.sweep_blocks.new.self.events.journal.medium.folder in
    finds_on f.moment f.left_since g.N.Beginning.first events before old new found
    (c.sweep_blocks.ensures.any_moment events parts (at c.if-self.false))

pub returns-clause-at : goal.returns-clause-at
returns-clause-at g c opened events parts at = c.sweep_blocks.ensures.held events parts at

pub returns-then-self-clause-at : goal.returns-then-self-clause-at
returns-then-self-clause-at g c opened events parts at = at

pub returns-then-self-clause-foreign : goal.returns-then-self-clause-foreign
returns-then-self-clause-foreign g c =
    let f = g.F.Folder in
    foreign_rests f.shows f.kept c.args.self.now.events.journal.medium.folder

pub returns-then-self-clause-blocks : goal.returns-then-self-clause-blocks
returns-then-self-clause-blocks g c files among there = there

pub returns-clause-blocks : goal.returns-clause-blocks
returns-clause-blocks g c files among there =
    c.sweep_blocks.ensures.kept.files files among there

pub returns-then-self-clause-leaves : goal.returns-then-self-clause-leaves
returns-then-self-clause-leaves g c events saved parts late values s before t is leaves = leaves

pub returns-clause-leaves : goal.returns-clause-leaves
returns-clause-leaves g c events saved parts late values s before t is leaves =
    let f = g.F.Folder in
    let old = c.args.self.now.events.journal.medium.folder in
    let new = c.sweep_blocks.new.self.events.journal.medium.folder in
    let P = IsOldOrSaved saved parts late values s in
    joined f.moment f.left_since before old new P leaves
    (weaker f.moment f.left_since old new (IsState saved parts late) P (λ left state. inl state)
    (c.sweep_blocks.ensures.leaves events saved parts late (t c.if-self.false) is))
