use Rattle.std.proofs.Common.{◌≡◌, ◌∙◌, List, ap, inl, inr, map, refl, subst, subst₂, sym}
use Rattle.block.specs.Blocks.{Shown}
use Rattle.std.specs.Prelude.{Ok}
use Rattle.data_folder.specs.JournalFile.{journal_name, next_name}
use Rattle.data_folder.proofs.Moments.{nothing_changed}
use Rattle.head.specs.Blocks.{part_in}
use Rattle.head.specs.Heads.{world_of}
use Rattle.head.specs.Worlds.{replayed}
use Rattle.head_record.specs.Saved.{Saved}
use Rattle.store_folder.specs.Writing.{AreLike}
use Rattle.store_folder.specs.Origins.{Origin}
use Rattle.store_folder.proofs.Refusals.{found_refused, no_refusal}
use Rattle.store_folder.proofs.Fronts.{like_all, resumed_like}
use Rattle.store_folder.proofs.Starts.{state_stays, stays_found}
use Rattle.store_folder.proofs.starting.resume_store.Goals as goal

pub resume-requires-clause-found : goal.resume-requires-clause-found
resume-requires-clause-found g c = (map part_in c.args.found.blocks.items, c.requires.found)

pub resume-requires-clause-values : goal.resume-requires-clause-values
resume-requires-clause-values g c = sym (ap (λ (x : Origin). x.values) c.requires.first)

pub returns-in-Ok-resume-clause-resumed : goal.returns-in-Ok-resume-clause-resumed
returns-in-Ok-resume-clause-resumed g c =
    let f = g.F.Folder in
    let parts = map part_in c.args.found.blocks.items in
    let j = c.in-Ok-resume.store.events.journal in
    record {
      world = subst (λ (x : Origin). replayed x.world c.args.found.journal.events.items
          ≡ Ok (world_of c.in-Ok-snapshot_of.snapshot)) (sym c.requires.first)
          c.in-Ok-snapshot_of.ensures.world;
      holds = resumed_like f.shows f.kept f.sound f.moment f.left_since g.N.Beginning.first
          j.medium j.len j.closed c.args.found.journal.events.items
          c.args.found.journal.head.places parts _ _
          (c.in-Ok-from_slice.ensures.items ∙ c.places.ensures)
          (c.in-Ok.ensures ∙ ap (λ (bs : List Shown). map part_in bs) c.deref.ensures.value)
          (c.in-Ok-resume.ensures.holds parts c.requires.found c.requires.first);
      is_open = c.in-Ok-resume.ensures.open;
    }

pub returns-in-Ok-resume-clause-any_moment : goal.returns-in-Ok-resume-clause-any_moment
returns-in-Ok-resume-clause-any_moment g c =
    c.in-Ok-resume.ensures.any_moment (map part_in c.args.found.blocks.items) c.requires.found
    c.requires.first

pub returns-in-Ok-resume-clause-stands : goal.returns-in-Ok-resume-clause-stands
returns-in-Ok-resume-clause-stands g c = c.in-Ok-snapshot_of.ensures.stands

pub returns-in-Ok-resume-clause-head : goal.returns-in-Ok-resume-clause-head
returns-in-Ok-resume-clause-head g c =
    let parts = map part_in c.args.found.blocks.items in
    let t = c.in-Ok-resume.ensures.head parts c.requires.found c.requires.first in (
      (
        t.0,
        ap (λ (x : Saved). x.places) t.1
            ∙ sym (c.in-Ok-from_slice.ensures.items ∙ c.places.ensures),
        subst₂ AreLike
            (sym (c.in-Ok.ensures ∙ ap (λ (bs : List Shown). map part_in bs) c.deref.ensures.value))
            (sym t.2) (like_all parts),
      ),
      t.1,
      t.2,
      t.3,
    )

pub returns-in-Ok-resume-clause-places : goal.returns-in-Ok-resume-clause-places
returns-in-Ok-resume-clause-places g c = c.in-Ok-from_slice.ensures.items ∙ c.places.ensures

pub returns-in-Err-clause-refused : goal.returns-in-Err-clause-refused
returns-in-Err-clause-refused g c = inr c.in-Err.ensures.refused

pub returns-in-Err-clause-told : goal.returns-in-Err-clause-told
returns-in-Err-clause-told g c is =
    let f = g.F.Folder in
    found_refused f.shows f.kept c.args.found.journal (map part_in c.args.found.blocks.items)
    c.args.folder c.in-Err.error c.requires.found c.in-Err.ensures.refused

pub returns-in-Err-clause-any_moment : goal.returns-in-Err-clause-any_moment
returns-in-Err-clause-any_moment g c =
    let f = g.F.Folder in
    stays_found f.shows f.kept f.sound f.moment f.left_since g.met.F.Folder.only_now
    g.N.Beginning.first c.args.folder c.args.found.journal (map part_in c.args.found.blocks.items)
    c.requires.found c.requires.first

pub returns-in-Err-resume-clause-refused : goal.returns-in-Err-resume-clause-refused
returns-in-Err-resume-clause-refused g c = inl refl

pub returns-in-Err-resume-clause-told : goal.returns-in-Err-resume-clause-told
returns-in-Err-resume-clause-told g c is = no_refusal is

pub returns-in-Err-resume-clause-any_moment : goal.returns-in-Err-resume-clause-any_moment
returns-in-Err-resume-clause-any_moment g c =
    c.in-Err-resume.ensures.any_moment (map part_in c.args.found.blocks.items) c.requires.found
    c.requires.first

-- no memory was left

pub returns-in_default-clause-any_moment : goal.returns-in_default-clause-any_moment
returns-in_default-clause-any_moment g c =
    let f = g.F.Folder in
    stays_found f.shows f.kept f.sound f.moment f.left_since g.met.F.Folder.only_now
    g.N.Beginning.first c.args.folder c.args.found.journal (map part_in c.args.found.blocks.items)
    c.requires.found c.requires.first

pub returns-in_default-from_slice-clause-any_moment : goal.returns-in_default-from_slice-clause-any_moment
returns-in_default-from_slice-clause-any_moment g c =
    let f = g.F.Folder in
    stays_found f.shows f.kept f.sound f.moment f.left_since g.met.F.Folder.only_now
    g.N.Beginning.first c.args.folder c.args.found.journal (map part_in c.args.found.blocks.items)
    c.requires.found c.requires.first

pub returns-in_default-copied-clause-any_moment : goal.returns-in_default-copied-clause-any_moment
returns-in_default-copied-clause-any_moment g c =
    let f = g.F.Folder in
    stays_found f.shows f.kept f.sound f.moment f.left_since g.met.F.Folder.only_now
    g.N.Beginning.first c.args.folder c.args.found.journal (map part_in c.args.found.blocks.items)
    c.requires.found c.requires.first

pub returns-in-Err-resume-clause-unchanged : goal.returns-in-Err-resume-clause-unchanged
returns-in-Err-resume-clause-unchanged g c unless = absurd (unless refl)

pub returns-in-Err-clause-others : goal.returns-in-Err-clause-others
returns-in-Err-clause-others g c =
    let f = g.F.Folder in
    nothing_changed f.shows f.kept next_name journal_name c.args.folder

pub returns-in_default-clause-others : goal.returns-in_default-clause-others
returns-in_default-clause-others g c =
    let f = g.F.Folder in
    nothing_changed f.shows f.kept next_name journal_name c.args.folder

pub returns-in_default-from_slice-clause-others : goal.returns-in_default-from_slice-clause-others
returns-in_default-from_slice-clause-others g c =
    let f = g.F.Folder in
    nothing_changed f.shows f.kept next_name journal_name c.args.folder

pub returns-in_default-copied-clause-others : goal.returns-in_default-copied-clause-others
returns-in_default-copied-clause-others g c =
    let f = g.F.Folder in
    nothing_changed f.shows f.kept next_name journal_name c.args.folder

-- the head and the events that were found are left

pub returns-in-Ok-resume-clause-leaves : goal.returns-in-Ok-resume-clause-leaves
returns-in-Ok-resume-clause-leaves g c =
    c.in-Ok-resume.ensures.leaves (map part_in c.args.found.blocks.items) c.requires.found

pub returns-in-Err-resume-clause-leaves : goal.returns-in-Err-resume-clause-leaves
returns-in-Err-resume-clause-leaves g c =
    c.in-Err-resume.ensures.leaves (map part_in c.args.found.blocks.items) c.requires.found

pub returns-in-Err-clause-leaves : goal.returns-in-Err-clause-leaves
returns-in-Err-clause-leaves g c =
    let f = g.F.Folder in
    state_stays f.shows f.kept f.sound f.moment f.left_since g.met.F.Folder.only_now
    c.args.folder c.args.found.journal (map part_in c.args.found.blocks.items) c.requires.found

pub returns-in_default-clause-leaves : goal.returns-in_default-clause-leaves
returns-in_default-clause-leaves g c =
    let f = g.F.Folder in
    state_stays f.shows f.kept f.sound f.moment f.left_since g.met.F.Folder.only_now
    c.args.folder c.args.found.journal (map part_in c.args.found.blocks.items) c.requires.found

pub returns-in_default-from_slice-clause-leaves : goal.returns-in_default-from_slice-clause-leaves
returns-in_default-from_slice-clause-leaves g c =
    let f = g.F.Folder in
    state_stays f.shows f.kept f.sound f.moment f.left_since g.met.F.Folder.only_now
    c.args.folder c.args.found.journal (map part_in c.args.found.blocks.items) c.requires.found

pub returns-in_default-copied-clause-leaves : goal.returns-in_default-copied-clause-leaves
returns-in_default-copied-clause-leaves g c =
    let f = g.F.Folder in
    state_stays f.shows f.kept f.sound f.moment f.left_since g.met.F.Folder.only_now
    c.args.folder c.args.found.journal (map part_in c.args.found.blocks.items) c.requires.found
