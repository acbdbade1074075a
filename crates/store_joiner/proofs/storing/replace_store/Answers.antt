use Rattle.std.proofs.Common.{◌≡◌, ◌++◌, List, [], ap, length, refl, subst, sym, ℕ, false, ◌∙◌}
use Rattle.event_journal.specs.Holding.{contents_with}
use Rattle.head.specs.Heads.{world_of}
use Rattle.head_record.specs.Saved.{Place, Saved}
use Rattle.head_record.specs.Spelling.{head_texts}
use Rattle.journal.specs.Group.{IsJournalText}
use Rattle.data_folder.specs.Sweeping.{KeepsStore}
use Rattle.data_folder.proofs.Moments.{joined}
use Rattle.store_folder.specs.Sweeps.{names_at}
use Rattle.block_folder.specs.declared.values.Values.{Values}
use Rattle.store_folder.specs.Writing.{EachSays, places_from}
use Rattle.store_folder.specs.Holding.{AreAt}
use Rattle.store_folder.proofs.HeadsAlone.{head_alone}
use Rattle.store_folder.proofs.Rolls.{blocks_rolled, goes_on}
use Rattle.store_folder.proofs.Saves.{each_like}
use Rattle.store_folder.proofs.Says.{files_apart, says_on}
use Rattle.store_folder.proofs.Swept.{blocks_kept}
use Rattle.store_joiner.specs.Finds.{other_of}
use Rattle.store_joiner.proofs.Joins.{as_before, begun_anew, counted, finds_first}
use Rattle.store_joiner.proofs.Joins.{begun_these, finds_other, rolling_starts, writing_starts}
use Rattle.store_joiner.proofs.Joins.{keeps_before, meanwhile, next_head, now_at, roll_either, still_at}
use Rattle.data_folder.proofs.Foreign.{foreign_beside, foreign_kept, foreign_then}
use Rattle.store_joiner.proofs.Says.{head_says}
use Rattle.store_joiner.proofs.Starting.{starts_on}
use Rattle.store_joiner.proofs.storing.replace_store.Goals as goal

pub write_saved-requires : goal.write_saved-requires
write_saved-requires g c =
    (c.requires.held.1.0.journal.keeps c.requires.open).has.is_sound

-- where the blocks are not written

pub returns-in-Err-clause-any_moment : goal.returns-in-Err-clause-any_moment
returns-in-Err-clause-any_moment g c =
    let f = g.F.Folder in
    let met = g.met.F.Folder in
    let first = g.N.Beginning.first in
    let old = c.args.store.events.journal in
    let held = c.requires.held in
    finds_first f.moment f.left_since old.medium.folder c.write_saved.new.folder first
    (world_of c.args.next.now)
    (meanwhile f.shows f.kept f.sound f.moment f.left_since met.only_now met.earlier first old.medium
    c.write_saved.new.folder old.len old.closed c.args.held.now held.0 held.1 c.requires.open
    c.write_saved.ensures.stays)

pub returns-in-Err-clause-stays : goal.returns-in-Err-clause-stays
returns-in-Err-clause-stays g c unless =
    let f = g.F.Folder in
    let met = g.met.F.Folder in
    let first = g.N.Beginning.first in
    let old = c.args.store.events.journal in
    let held = c.requires.held in
    now_at f.shows f.kept f.sound f.moment f.left_since met.only_now met.earlier first
    (record (old.medium) { folder = c.write_saved.new.folder }) old.len old.closed c.args.held.now held.0
    (still_at f.shows f.kept f.sound f.moment f.left_since met.only_now met.earlier first old.medium
    c.write_saved.new.folder old.len old.closed c.args.held.now held.0 held.1 c.requires.open
    c.write_saved.ensures.stays) c.requires.open

pub returns-in_default-clause-any_moment : goal.returns-in_default-clause-any_moment
returns-in_default-clause-any_moment g c =
    let f = g.F.Folder in
    let met = g.met.F.Folder in
    let first = g.N.Beginning.first in
    let old = c.args.store.events.journal in
    let held = c.requires.held in
    finds_first f.moment f.left_since old.medium.folder c.write_saved.new.folder first
    (world_of c.args.next.now)
    (meanwhile f.shows f.kept f.sound f.moment f.left_since met.only_now met.earlier first old.medium
    c.write_saved.new.folder old.len old.closed c.args.held.now held.0 held.1 c.requires.open
    c.write_saved.ensures.stays)

pub returns-in_default-clause-stays : goal.returns-in_default-clause-stays
returns-in_default-clause-stays g c unless =
    let f = g.F.Folder in
    let met = g.met.F.Folder in
    let first = g.N.Beginning.first in
    let old = c.args.store.events.journal in
    let held = c.requires.held in
    now_at f.shows f.kept f.sound f.moment f.left_since met.only_now met.earlier first
    (record (old.medium) { folder = c.write_saved.new.folder }) old.len old.closed c.args.held.now held.0
    (still_at f.shows f.kept f.sound f.moment f.left_since met.only_now met.earlier first old.medium
    c.write_saved.new.folder old.len old.closed c.args.held.now held.0 held.1 c.requires.open
    c.write_saved.ensures.stays) c.requires.open

pub returns-in-Err-head_journal-clause-any_moment : goal.returns-in-Err-head_journal-clause-any_moment
returns-in-Err-head_journal-clause-any_moment g c =
    let f = g.F.Folder in
    let met = g.met.F.Folder in
    let first = g.N.Beginning.first in
    let old = c.args.store.events.journal in
    let held = c.requires.held in
    finds_first f.moment f.left_since old.medium.folder c.write_saved.new.folder first
    (world_of c.args.next.now)
    (meanwhile f.shows f.kept f.sound f.moment f.left_since met.only_now met.earlier first old.medium
    c.write_saved.new.folder old.len old.closed c.args.held.now held.0 held.1 c.requires.open
    c.write_saved.ensures.stays)

pub returns-in-Err-head_journal-clause-stays : goal.returns-in-Err-head_journal-clause-stays
returns-in-Err-head_journal-clause-stays g c unless =
    let f = g.F.Folder in
    let met = g.met.F.Folder in
    let first = g.N.Beginning.first in
    let old = c.args.store.events.journal in
    let held = c.requires.held in
    now_at f.shows f.kept f.sound f.moment f.left_since met.only_now met.earlier first
    (record (old.medium) { folder = c.write_saved.new.folder }) old.len old.closed c.args.held.now held.0
    (still_at f.shows f.kept f.sound f.moment f.left_since met.only_now met.earlier first old.medium
    c.write_saved.new.folder old.len old.closed c.args.held.now held.0 held.1 c.requires.open
    c.write_saved.ensures.stays) c.requires.open

-- the journal is begun anew

pub roll-requires-clause-kept : goal.roll-requires-clause-kept
roll-requires-clause-kept g c opened =
    let f = g.F.Folder in
    let met = g.met.F.Folder in
    let first = g.N.Beginning.first in
    let old = c.args.store.events.journal in
    let held = c.requires.held in
    let at =
    still_at f.shows f.kept f.sound f.moment f.left_since met.only_now met.earlier first old.medium
    c.write_saved.new.folder old.len old.closed c.args.held.now held.0 held.1 c.requires.open
    c.write_saved.ensures.stays in (
      head_texts at.0.saved ++ at.0.journal.contents,
      keeps_before f.shows f.kept f.sound f.moment f.left_since met.only_now met.earlier first
          c.write_saved.new.folder old.medium.names old.len old.closed c.args.held.now held.0 at c.requires.open,
    )

pub roll-requires-clause-whole : goal.roll-requires-clause-whole
roll-requires-clause-whole g c =
    let new = contents_with (head_texts c.in-Ok.head) [] in
    (new, subst (IsJournalText new) (sym c.deref.ensures.value) c.in-Ok-head_journal.ensures.text)

pub returns-in-Ok-roll-clause-any_moment : goal.returns-in-Ok-roll-clause-any_moment
returns-in-Ok-roll-clause-any_moment g c =
    let f = g.F.Folder in
    let met = g.met.F.Folder in
    let first = g.N.Beginning.first in
    let old = c.args.store.events.journal in
    let held = c.requires.held in
    let s = c.args.next.now in
    let n = length s.blocks in
    let mid = c.write_saved.new.folder in
    let new = c.roll.new.journal in
    let head = c.in-Ok.head in
    let there = c.in-Ok.ensures.there in
    let at =
    still_at f.shows f.kept f.sound f.moment f.left_since met.only_now met.earlier first old.medium
    mid old.len old.closed c.args.held.now held.0 held.1 c.requires.open c.write_saved.ensures.stays in
    let next =
    next_head f.shows f.kept f.sound f.moment f.left_since met.only_now met.earlier first
    (record (old.medium) { folder = mid }) s c.values-values.result head
    (places_from c.next_number.result n) there.0 c.values-values.ensures
    c.in-Ok.ensures.saved c.in-Ok-head_journal.ensures.saved there.1 there.2 in
    let whole =
    subst (IsJournalText (contents_with (head_texts head) [])) (sym c.deref.ensures.value)
    c.in-Ok-head_journal.ensures.text in
    let after =
    begun_anew f.shows f.kept f.sound f.moment f.left_since met.only_now met.earlier first
    (world_of s) (record (old.medium) { folder = mid }) new.medium new.len head there.0 next c.in-Ok-roll.ensures.named
    (c.in-Ok-roll.ensures.ok (contents_with (head_texts head) []) whole) c.in-Ok-roll.ensures.files in
    joined f.moment f.left_since old.medium.folder mid c.sweep_apart.new.folder _
    (finds_first f.moment f.left_since old.medium.folder mid first (world_of s)
    (meanwhile f.shows f.kept f.sound f.moment f.left_since met.only_now met.earlier first old.medium
    mid old.len old.closed c.args.held.now held.0 held.1 c.requires.open c.write_saved.ensures.stays))
    (joined f.moment f.left_since mid new.medium.folder c.sweep_apart.new.folder _
    (roll_either f.shows f.kept f.sound f.moment f.left_since met.only_now met.earlier first
    (world_of s) mid old.medium.names new.medium.folder old.len old.closed c.args.held.now held.0 head there.0 c.deref.result.now at
    c.requires.open next whole c.in-Ok-roll.ensures.any_moment)
    (finds_other f.moment f.left_since new.medium.folder c.sweep_apart.new.folder first (world_of s)
    (meanwhile f.shows f.kept f.sound f.moment f.left_since met.only_now met.earlier
    (other_of first (world_of s)) new.medium c.sweep_apart.new.folder new.len false head.places there.0 after
    refl (subst (λ (ps : List Place). KeepsStore f.shows f.kept f.sound f.moment f.left_since
    (names_at ps) new.medium.folder c.sweep_apart.new.folder)
    (c.deref-in-Ok-roll.ensures.value ∙ c.in-Ok-from_slice.ensures.items ∙ c.places.ensures)
    c.sweep_apart.ensures.kept))))

pub returns-in-Ok-roll-clause-finds : goal.returns-in-Ok-roll-clause-finds
returns-in-Ok-roll-clause-finds g c =
    let f = g.F.Folder in
    let met = g.met.F.Folder in
    let first = g.N.Beginning.first in
    let old = c.args.store.events.journal in
    let s = c.args.next.now in
    let n = length s.blocks in
    let mid = c.write_saved.new.folder in
    let new = c.roll.new.journal in
    let head = c.in-Ok.head in
    let there = c.in-Ok.ensures.there in
    let next =
    next_head f.shows f.kept f.sound f.moment f.left_since met.only_now met.earlier first
    (record (old.medium) { folder = mid }) s c.values-values.result head
    (places_from c.next_number.result n) there.0 c.values-values.ensures
    c.in-Ok.ensures.saved c.in-Ok-head_journal.ensures.saved there.1 there.2 in
    let whole =
    subst (IsJournalText (contents_with (head_texts head) [])) (sym c.deref.ensures.value)
    c.in-Ok-head_journal.ensures.text in
    let after =
    begun_anew f.shows f.kept f.sound f.moment f.left_since met.only_now met.earlier first
    (world_of s) (record (old.medium) { folder = mid }) new.medium new.len head there.0 next c.in-Ok-roll.ensures.named
    (c.in-Ok-roll.ensures.ok (contents_with (head_texts head) []) whole) c.in-Ok-roll.ensures.files in
    now_at f.shows f.kept f.sound f.moment f.left_since met.only_now met.earlier
    (other_of first (world_of s)) (record (new.medium) { folder = c.sweep_apart.new.folder }) new.len false head.places
    there.0
    (still_at f.shows f.kept f.sound f.moment f.left_since met.only_now met.earlier
    (other_of first (world_of s)) new.medium c.sweep_apart.new.folder new.len false head.places there.0 after
    refl (subst (λ (ps : List Place). KeepsStore f.shows f.kept f.sound f.moment f.left_since
    (names_at ps) new.medium.folder c.sweep_apart.new.folder)
    (c.deref-in-Ok-roll.ensures.value ∙ c.in-Ok-from_slice.ensures.items ∙ c.places.ensures)
    c.sweep_apart.ensures.kept)) refl

pub returns-clause-any_moment : goal.returns-clause-any_moment
returns-clause-any_moment g c =
    let f = g.F.Folder in
    let met = g.met.F.Folder in
    let first = g.N.Beginning.first in
    let old = c.args.store.events.journal in
    let held = c.requires.held in
    let s = c.args.next.now in
    let n = length s.blocks in
    let mid = c.write_saved.new.folder in
    let new = c.roll.new.journal in
    let head = c.in-Ok.head in
    let there = c.in-Ok.ensures.there in
    let at =
    still_at f.shows f.kept f.sound f.moment f.left_since met.only_now met.earlier first old.medium
    mid old.len old.closed c.args.held.now held.0 held.1 c.requires.open c.write_saved.ensures.stays in
    let next =
    next_head f.shows f.kept f.sound f.moment f.left_since met.only_now met.earlier first
    (record (old.medium) { folder = mid }) s c.values-values.result head
    (places_from c.next_number.result n) there.0 c.values-values.ensures
    c.in-Ok.ensures.saved c.in-Ok-head_journal.ensures.saved there.1 there.2 in
    joined f.moment f.left_since old.medium.folder mid new.medium.folder _
    (finds_first f.moment f.left_since old.medium.folder mid first (world_of s)
    (meanwhile f.shows f.kept f.sound f.moment f.left_since met.only_now met.earlier first old.medium
    mid old.len old.closed c.args.held.now held.0 held.1 c.requires.open c.write_saved.ensures.stays))
    (roll_either f.shows f.kept f.sound f.moment f.left_since met.only_now met.earlier first
    (world_of s) mid old.medium.names new.medium.folder old.len old.closed c.args.held.now held.0 head there.0 c.deref.result.now at
    c.requires.open next
    (subst (IsJournalText (contents_with (head_texts head) [])) (sym c.deref.ensures.value)
    c.in-Ok-head_journal.ensures.text)
    c.in-Err-roll.ensures.any_moment)

pub returns-clause-stays : goal.returns-clause-stays
returns-clause-stays g c unless =
    let f = g.F.Folder in
    let met = g.met.F.Folder in
    let first = g.N.Beginning.first in
    let old = c.args.store.events.journal in
    let held = c.requires.held in
    let mid = c.write_saved.new.folder in
    let new = c.roll.new.journal in
    let at =
    still_at f.shows f.kept f.sound f.moment f.left_since met.only_now met.earlier first old.medium
    mid old.len old.closed c.args.held.now held.0 held.1 c.requires.open c.write_saved.ensures.stays in
    let opened =
    goes_on c.roll.result c.in-Err-roll.error old.closed new.closed (f.failed new.medium.folder)
    c.in-Err-roll.is c.roll.ensures.closed c.roll.ensures.not_written unless c.requires.open in
    now_at f.shows f.kept f.sound f.moment f.left_since met.only_now met.earlier first new.medium
    new.len new.closed c.args.held.now held.0
    (as_before f.shows f.kept f.sound f.moment f.left_since met.only_now met.earlier first mid
    old.medium.names new.medium old.len new.len old.closed new.closed c.args.held.now held.0 at
    c.requires.open c.in-Err-roll.ensures.names
    (c.in-Err-roll.ensures.err (head_texts at.0.saved ++ at.0.journal.contents)
    (keeps_before f.shows f.kept f.sound f.moment f.left_since met.only_now met.earlier first mid
    old.medium.names old.len old.closed c.args.held.now held.0 at c.requires.open) opened)
    c.in-Err-roll.ensures.files) opened

pub returns-in-Ok-roll-clause-places : goal.returns-in-Ok-roll-clause-places
returns-in-Ok-roll-clause-places g c =
    let n = length c.args.next.now.blocks in
    ap length (c.in-Ok-from_slice.ensures.items ∙ c.places.ensures)
    ∙ ap (λ (h : Saved). length h.places) c.in-Ok.ensures.saved
    ∙ counted c.next_number.result n

-- what is none of the store's

pub returns-in-Err-clause-foreign : goal.returns-in-Err-clause-foreign
returns-in-Err-clause-foreign g c =
    let f = g.F.Folder in
    foreign_kept f.shows f.kept f.sound f.moment f.left_since (names_at c.args.held.now)
    c.args.store.events.journal.medium.folder c.write_saved.new.folder
    c.write_saved.ensures.stays

pub returns-in_default-clause-foreign : goal.returns-in_default-clause-foreign
returns-in_default-clause-foreign g c =
    let f = g.F.Folder in
    foreign_kept f.shows f.kept f.sound f.moment f.left_since (names_at c.args.held.now)
    c.args.store.events.journal.medium.folder c.write_saved.new.folder
    c.write_saved.ensures.stays

pub returns-in-Err-head_journal-clause-foreign : goal.returns-in-Err-head_journal-clause-foreign
returns-in-Err-head_journal-clause-foreign g c =
    let f = g.F.Folder in
    foreign_kept f.shows f.kept f.sound f.moment f.left_since (names_at c.args.held.now)
    c.args.store.events.journal.medium.folder c.write_saved.new.folder
    c.write_saved.ensures.stays

pub returns-clause-foreign : goal.returns-clause-foreign
returns-clause-foreign g c =
    let f = g.F.Folder in
    foreign_then f.shows f.kept c.args.store.events.journal.medium.folder
    c.write_saved.new.folder c.roll.new.journal.medium.folder
    (foreign_kept f.shows f.kept f.sound f.moment f.left_since (names_at c.args.held.now)
    c.args.store.events.journal.medium.folder c.write_saved.new.folder
    c.write_saved.ensures.stays)
    (foreign_beside f.shows f.kept c.write_saved.new.folder c.roll.new.journal.medium.folder
    c.roll.ensures.others)

pub returns-in-Ok-roll-clause-foreign : goal.returns-in-Ok-roll-clause-foreign
returns-in-Ok-roll-clause-foreign g c =
    let f = g.F.Folder in
    foreign_then f.shows f.kept c.args.store.events.journal.medium.folder
    c.roll.new.journal.medium.folder c.sweep_apart.new.folder
    (foreign_then f.shows f.kept c.args.store.events.journal.medium.folder
    c.write_saved.new.folder c.roll.new.journal.medium.folder
    (foreign_kept f.shows f.kept f.sound f.moment f.left_since (names_at c.args.held.now)
    c.args.store.events.journal.medium.folder c.write_saved.new.folder
    c.write_saved.ensures.stays)
    (foreign_beside f.shows f.kept c.write_saved.new.folder c.roll.new.journal.medium.folder
    c.roll.ensures.others))
    (foreign_kept f.shows f.kept f.sound f.moment f.left_since _ c.roll.new.journal.medium.folder
    c.sweep_apart.new.folder c.sweep_apart.ensures.kept)

-- what the meta.json of its blocks says

pub returns-in-Ok-roll-clause-says : goal.returns-in-Ok-roll-clause-says
returns-in-Ok-roll-clause-says g c =
    let f = g.F.Folder in
    let s = c.args.next.now in
    let values = g.N.Beginning.first.values in
    let n = length c.args.next.now.blocks in
    let written = places_from c.next_number.result n in
    let mid = c.write_saved.new.folder in
    let new = c.roll.new.journal.medium.folder in
    let last = c.sweep_apart.new.folder in
    let says =
    subst (λ (v : Values). EachSays f.shows f.kept v written mid) c.values-values.ensures
    c.in-Ok.ensures.says in
    let rolled = says_on f.shows f.kept values written mid new
    (λ files among there. c.in-Ok-roll.ensures.files files (files_apart written files among) there) says in
    let named = c.in-Ok-from_slice.ensures.items ∙ c.places.ensures
    ∙ ap (λ (h : Saved). h.places) c.in-Ok.ensures.saved in
    let swept = subst (λ (ps : List Place). KeepsStore f.shows f.kept f.sound f.moment f.left_since
    (names_at ps) new last) (c.deref-in-Ok-roll.ensures.value ∙ named) c.sweep_apart.ensures.kept in
    let head = c.in-Ok.head in
    let contents = contents_with (head_texts head) [] in
    let there = c.in-Ok.ensures.there in
    let keeps = c.sweep_apart.ensures.kept.journal contents c.roll.new.journal.len
    (c.in-Ok-roll.ensures.ok contents (subst (IsJournalText contents) (sym c.deref.ensures.value)
    c.in-Ok-head_journal.ensures.text)) in
    record {
      saved = head;
      alone = head_alone f.shows f.kept f.sound head last c.roll.new.journal.len
          c.in-Ok-head_journal.ensures.saved keeps;
      means = ap (λ (h : Saved). h.values) c.in-Ok.ensures.saved ∙ c.values-values.ensures;
      names = sym (c.in-Ok-from_slice.ensures.items ∙ c.places.ensures);
      says = subst (λ (ps : List Place). EachSays f.shows f.kept values ps last) (sym named)
          (says_on f.shows f.kept values written new last
          (λ files among there. swept.files files among there) rolled);
      parts = there.0;
      blocks = subst (λ (ps : List Place). AreAt f.shows f.kept ps there.0 last)
          (sym (ap (λ (h : Saved). h.places) c.in-Ok.ensures.saved))
          (blocks_kept f.shows f.kept f.sound f.moment f.left_since written there.0 new last
          (blocks_rolled f.shows f.kept written there.0 mid new c.in-Ok-roll.ensures.files there.2)
          swept);
      stands = c.in-Ok.ensures.stands there.0 (each_like s.blocks there.0 there.1);
    }

-- after an `Err` too

pub returns-in-Err-clause-says_stays : goal.returns-in-Err-clause-says_stays
returns-in-Err-clause-says_stays g c says unless =
    let f = g.F.Folder in
    let met = g.met.F.Folder in
    let first = g.N.Beginning.first in
    let old = c.args.store.events.journal in
    let held = c.requires.held in
    let mid = c.write_saved.new.folder in
    let at =
    still_at f.shows f.kept f.sound f.moment f.left_since met.only_now met.earlier first old.medium
    mid old.len old.closed c.args.held.now held.0 held.1 c.requires.open c.write_saved.ensures.stays in
    head_says f.shows f.kept f.sound f.moment f.left_since met.only_now met.earlier first
    (record (old.medium) { folder = mid }) old.len old.closed [] c.args.held.now at.0 at.1
    c.requires.open
    (says_on f.shows f.kept first.values c.args.held.now old.medium.folder mid
    (λ files among there. c.write_saved.ensures.stays.files files among there) says)

pub returns-in_default-clause-says_stays : goal.returns-in_default-clause-says_stays
returns-in_default-clause-says_stays g c says unless =
    let f = g.F.Folder in
    let met = g.met.F.Folder in
    let first = g.N.Beginning.first in
    let old = c.args.store.events.journal in
    let held = c.requires.held in
    let mid = c.write_saved.new.folder in
    let at =
    still_at f.shows f.kept f.sound f.moment f.left_since met.only_now met.earlier first old.medium
    mid old.len old.closed c.args.held.now held.0 held.1 c.requires.open c.write_saved.ensures.stays in
    head_says f.shows f.kept f.sound f.moment f.left_since met.only_now met.earlier first
    (record (old.medium) { folder = mid }) old.len old.closed [] c.args.held.now at.0 at.1
    c.requires.open
    (says_on f.shows f.kept first.values c.args.held.now old.medium.folder mid
    (λ files among there. c.write_saved.ensures.stays.files files among there) says)

pub returns-in-Err-head_journal-clause-says_stays : goal.returns-in-Err-head_journal-clause-says_stays
returns-in-Err-head_journal-clause-says_stays g c says unless =
    let f = g.F.Folder in
    let met = g.met.F.Folder in
    let first = g.N.Beginning.first in
    let old = c.args.store.events.journal in
    let held = c.requires.held in
    let mid = c.write_saved.new.folder in
    let at =
    still_at f.shows f.kept f.sound f.moment f.left_since met.only_now met.earlier first old.medium
    mid old.len old.closed c.args.held.now held.0 held.1 c.requires.open c.write_saved.ensures.stays in
    head_says f.shows f.kept f.sound f.moment f.left_since met.only_now met.earlier first
    (record (old.medium) { folder = mid }) old.len old.closed [] c.args.held.now at.0 at.1
    c.requires.open
    (says_on f.shows f.kept first.values c.args.held.now old.medium.folder mid
    (λ files among there. c.write_saved.ensures.stays.files files among there) says)

pub returns-clause-says_stays : goal.returns-clause-says_stays
returns-clause-says_stays g c says unless =
    let f = g.F.Folder in
    let met = g.met.F.Folder in
    let first = g.N.Beginning.first in
    let old = c.args.store.events.journal in
    let held = c.requires.held in
    let places = c.args.held.now in
    let mid = c.write_saved.new.folder in
    let new = c.roll.new.journal in
    let at =
    still_at f.shows f.kept f.sound f.moment f.left_since met.only_now met.earlier first old.medium
    mid old.len old.closed places held.0 held.1 c.requires.open c.write_saved.ensures.stays in
    let opened =
    goes_on c.roll.result c.in-Err-roll.error old.closed new.closed (f.failed new.medium.folder)
    c.in-Err-roll.is c.roll.ensures.closed c.roll.ensures.not_written unless c.requires.open in
    let then =
    as_before f.shows f.kept f.sound f.moment f.left_since met.only_now met.earlier first mid
    old.medium.names new.medium old.len new.len old.closed new.closed places held.0 at
    c.requires.open c.in-Err-roll.ensures.names
    (c.in-Err-roll.ensures.err (head_texts at.0.saved ++ at.0.journal.contents)
    (keeps_before f.shows f.kept f.sound f.moment f.left_since met.only_now met.earlier first mid
    old.medium.names old.len old.closed places held.0 at c.requires.open) opened)
    c.in-Err-roll.ensures.files in
    head_says f.shows f.kept f.sound f.moment f.left_since met.only_now met.earlier first new.medium
    new.len new.closed [] places then.0 then.1 opened
    (says_on f.shows f.kept first.values places mid new.medium.folder
    (λ files among there. c.in-Err-roll.ensures.files files (files_apart places files among) there)
    (says_on f.shows f.kept first.values places old.medium.folder mid
    (λ files among there. c.write_saved.ensures.stays.files files among there) says))

-- what a start takes

pub returns-in-Err-clause-starts : goal.returns-in-Err-clause-starts
returns-in-Err-clause-starts g c saved parts late t is may =
    let f = g.F.Folder in
    let met = g.met.F.Folder in
    let old = c.args.store.events.journal in
    writing_starts f.shows f.kept f.sound f.moment f.left_since met.only_now met.earlier
    g.N.Beginning.first old.medium c.write_saved.new.folder old.len old.closed saved parts late
    c.args.held.now t c.requires.open is c.write_saved.ensures.stays may

pub returns-in_default-clause-starts : goal.returns-in_default-clause-starts
returns-in_default-clause-starts g c saved parts late t is may =
    let f = g.F.Folder in
    let met = g.met.F.Folder in
    let old = c.args.store.events.journal in
    writing_starts f.shows f.kept f.sound f.moment f.left_since met.only_now met.earlier
    g.N.Beginning.first old.medium c.write_saved.new.folder old.len old.closed saved parts late
    c.args.held.now t c.requires.open is c.write_saved.ensures.stays may

pub returns-in-Err-head_journal-clause-starts : goal.returns-in-Err-head_journal-clause-starts
returns-in-Err-head_journal-clause-starts g c saved parts late t is may =
    let f = g.F.Folder in
    let met = g.met.F.Folder in
    let old = c.args.store.events.journal in
    writing_starts f.shows f.kept f.sound f.moment f.left_since met.only_now met.earlier
    g.N.Beginning.first old.medium c.write_saved.new.folder old.len old.closed saved parts late
    c.args.held.now t c.requires.open is c.write_saved.ensures.stays may

pub returns-in-Ok-roll-clause-starts : goal.returns-in-Ok-roll-clause-starts
returns-in-Ok-roll-clause-starts g c saved parts late t is may =
    let f = g.F.Folder in
    let met = g.met.F.Folder in
    let first = g.N.Beginning.first in
    let old = c.args.store.events.journal in
    let held = c.args.held.now in
    let s = c.args.next.now in
    let n = length s.blocks in
    let mid = c.write_saved.new.folder in
    let new = c.roll.new.journal in
    let head = c.in-Ok.head in
    let there = c.in-Ok.ensures.there in
    let next =
    next_head f.shows f.kept f.sound f.moment f.left_since met.only_now met.earlier first
    (record (old.medium) { folder = mid }) s c.values-values.result head
    (places_from c.next_number.result n) there.0 c.values-values.ensures
    c.in-Ok.ensures.saved c.in-Ok-head_journal.ensures.saved there.1 there.2 in
    let whole =
    subst (IsJournalText (contents_with (head_texts head) [])) (sym c.deref.ensures.value)
    c.in-Ok-head_journal.ensures.text in
    let stands = c.in-Ok.ensures.stands there.0 (each_like s.blocks there.0 there.1) in
    let wrote = writing_starts f.shows f.kept f.sound f.moment f.left_since met.only_now met.earlier first
    old.medium mid old.len old.closed saved parts late held t c.requires.open is
    c.write_saved.ensures.stays may in
    let after =
    begun_these f.shows f.kept f.sound f.moment f.left_since met.only_now met.earlier first
    (world_of s) (record (old.medium) { folder = mid }) new.medium new.len head there.0 next
    c.in-Ok-roll.ensures.named (c.in-Ok-roll.ensures.ok (contents_with (head_texts head) []) whole)
    c.in-Ok-roll.ensures.files in
    starts_on f.moment f.left_since old.medium.folder mid c.sweep_apart.new.folder wrote
    (starts_on f.moment f.left_since mid new.medium.folder c.sweep_apart.new.folder
    (rolling_starts f.shows f.kept f.sound f.moment f.left_since met.only_now met.earlier first
    (world_of s) old.medium mid new.medium.folder old.len old.closed saved parts late held head there.0
    c.deref.result.now t c.requires.open is c.write_saved.ensures.stays next whole
    c.in-Ok-roll.ensures.any_moment may stands)
    (writing_starts f.shows f.kept f.sound f.moment f.left_since met.only_now met.earlier
    (other_of first (world_of s)) new.medium c.sweep_apart.new.folder new.len false head there.0 []
    head.places after refl refl
    (subst (λ (ps : List Place). KeepsStore f.shows f.kept f.sound f.moment f.left_since
    (names_at ps) new.medium.folder c.sweep_apart.new.folder)
    (c.deref-in-Ok-roll.ensures.value ∙ c.in-Ok-from_slice.ensures.items ∙ c.places.ensures)
    c.sweep_apart.ensures.kept) stands))

pub returns-clause-starts : goal.returns-clause-starts
returns-clause-starts g c saved parts late t is may =
    let f = g.F.Folder in
    let met = g.met.F.Folder in
    let first = g.N.Beginning.first in
    let old = c.args.store.events.journal in
    let held = c.args.held.now in
    let s = c.args.next.now in
    let n = length s.blocks in
    let mid = c.write_saved.new.folder in
    let new = c.roll.new.journal in
    let head = c.in-Ok.head in
    let there = c.in-Ok.ensures.there in
    let next =
    next_head f.shows f.kept f.sound f.moment f.left_since met.only_now met.earlier first
    (record (old.medium) { folder = mid }) s c.values-values.result head
    (places_from c.next_number.result n) there.0 c.values-values.ensures
    c.in-Ok.ensures.saved c.in-Ok-head_journal.ensures.saved there.1 there.2 in
    let whole =
    subst (IsJournalText (contents_with (head_texts head) [])) (sym c.deref.ensures.value)
    c.in-Ok-head_journal.ensures.text in
    let stands = c.in-Ok.ensures.stands there.0 (each_like s.blocks there.0 there.1) in
    let wrote = writing_starts f.shows f.kept f.sound f.moment f.left_since met.only_now met.earlier first
    old.medium mid old.len old.closed saved parts late held t c.requires.open is
    c.write_saved.ensures.stays may in
    starts_on f.moment f.left_since old.medium.folder mid new.medium.folder wrote
    (rolling_starts f.shows f.kept f.sound f.moment f.left_since met.only_now met.earlier first
    (world_of s) old.medium mid new.medium.folder old.len old.closed saved parts late held head there.0
    c.deref.result.now t c.requires.open is c.write_saved.ensures.stays next whole
    c.in-Err-roll.ensures.any_moment may stands)

-- where the blocks lie

pub returns-in-Ok-roll-clause-numbers : goal.returns-in-Ok-roll-clause-numbers
returns-in-Ok-roll-clause-numbers g c =
    let n = length c.args.next.now.blocks in
    let first = c.next_number.result in (
      first,
      (c.next_number.ensures.some, c.next_number.ensures.above, c.next_number.ensures.least),
      subst (λ (ps : List Place). ps ≡ places_from first (length ps))
          (sym (c.in-Ok-from_slice.ensures.items ∙ c.places.ensures
          ∙ ap (λ (h : Saved). h.places) c.in-Ok.ensures.saved))
          (ap (λ (k : ℕ). places_from first k) (sym (counted first n))),
    )
