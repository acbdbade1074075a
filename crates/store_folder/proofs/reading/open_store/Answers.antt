use Rattle.std.proofs.Common.{◌≡◌, ⊎_elim, inl, inr, refl, ℕ, false, List, Some, ap, rules, subst, sym, ◌∙◌}
use Rattle.data_folder.specs.Folders.{HasFile, LeavesOnly}
use Rattle.data_folder.specs.JournalFile.{journal_name, next_name}
use Rattle.data_folder.proofs.Moments.{joined, untouched_on}
use Rattle.store_folder.specs.Journals.{IsJournalOf}
use Rattle.store_folder.specs.Plain.{DeniesText, HasEither, StandsAlone, begins_plain}
use Rattle.store_folder.proofs.Files.{blocks_kept}
use Rattle.store_folder.proofs.Openings.{journal_left, others_after, others_stay, plain_found}
use Rattle.store_folder.proofs.Openings.{same_file}
use Rattle.store_folder.proofs.Refusals.{plain_refused, store_refused}
use Rattle.store_folder.proofs.reading.open_store.Goals as goal

pub open_file-requires-clause-has : goal.open_file-requires-clause-has
open_file-requires-clause-has g c κs within =
    let f = g.F.Folder in
    let old = c.args.folder.now in
    let read = c.read.new.self in
    let there : HasFile f.shows f.kept journal_name c.in-Some.file.items read = search rules in
    subst (λ (bytes : List ℕ). HasFile f.shows f.kept journal_name bytes read)
    (sym c.deref.ensures.value) there

pub returns-in-Ok-open_file-clause-only : goal.returns-in-Ok-open_file-clause-only
returns-in-Ok-open_file-clause-only g c tells file saved parts events has other is at =
    let f = g.F.Folder in
    let old = c.args.folder.now in
    let read = c.read.new.self in
    let there : HasFile f.shows f.kept journal_name c.in-Some.file.items read = search rules in
    let same : c.deref.result.now ≡ file =
    c.deref.ensures.value ∙ same_file c.in-Some.file.items file
    (tells read journal_name (Some c.in-Some.file.items) (Some file) there.shown
    (c.read.ensures.all.same journal_name (Some file) has.shown)) in
    c.in-Ok-open_file.ensures.only tells saved parts events (ap begins_plain same ∙ other)
    (subst (λ (bytes : List ℕ). IsJournalOf bytes saved events) (sym same) is)
    (blocks_kept f.shows f.kept saved.places parts old read c.read.ensures.all at)

pub returns-in-Ok-open_file-clause-plain : goal.returns-in-Ok-open_file-clause-plain
returns-in-Ok-open_file-clause-plain g c tells file shown plain =
    let f = g.F.Folder in
    let old = c.args.folder.now in
    let read = c.read.new.self in
    let there : HasFile f.shows f.kept journal_name c.in-Some.file.items read = search rules in
    let same : c.deref.result.now ≡ file =
    c.deref.ensures.value ∙ same_file c.in-Some.file.items file
    (tells read journal_name (Some c.in-Some.file.items) (Some file) there.shown
    (c.read.ensures.all.same journal_name (Some file) shown)) in
    let found = c.in-Ok-open_file.ensures.plain (ap begins_plain same ∙ plain) in
    (subst (λ (bytes : List ℕ). StandsAlone bytes c.in-Ok-open_file.store.journal.events.items) same found.0, found.1)

pub returns-in-Ok-open_file-clause-whole : goal.returns-in-Ok-open_file-clause-whole
returns-in-Ok-open_file-clause-whole g c tells x shown other =
    let f = g.F.Folder in
    let old = c.args.folder.now in
    let read = c.read.new.self in
    let there : HasFile f.shows f.kept journal_name c.in-Some.file.items read = search rules in
    let is : x ≡ Some c.in-Some.file.items =
    tells read journal_name x (Some c.in-Some.file.items)
    (c.read.ensures.all.same journal_name x shown) there.shown in
    let whole : begins_plain c.deref.result.now ≡ false =
    ap begins_plain c.deref.ensures.value ∙ plain_found x c.in-Some.file.items is other in
    untouched_on f.shows f.kept f.moment f.left_since g.met.F.Folder.earlier old read
    c.open_file.new.folder (record { all = c.read.ensures.all; time = c.read.ensures.time }) (c.open_file.ensures.whole whole)

pub returns-in-Ok-open_file-clause-any_moment : goal.returns-in-Ok-open_file-clause-any_moment
returns-in-Ok-open_file-clause-any_moment g c tells file has =
    let f = g.F.Folder in
    let old = c.args.folder.now in
    let read = c.read.new.self in
    let there : HasFile f.shows f.kept journal_name c.in-Some.file.items read = search rules in
    let same : c.deref.result.now ≡ file =
    c.deref.ensures.value ∙ same_file c.in-Some.file.items file
    (tells read journal_name (Some c.in-Some.file.items) (Some file) there.shown
    (c.read.ensures.all.same journal_name (Some file) has.shown)) in
    joined f.moment f.left_since old read c.open_file.new.folder (HasEither file)
    (journal_left f.shows f.kept f.failed f.moment f.left_since old read file
    (λ name y n left. g.met.F.Folder.only_now old name y n left) has
    (record { all = c.read.ensures.all; time = c.read.ensures.time }))
    (subst (λ (bytes : List ℕ). LeavesOnly f.moment f.left_since read c.open_file.new.folder
    (HasEither bytes)) same c.open_file.ensures.any_moment)

pub returns-in-Ok-open_file-clause-others : goal.returns-in-Ok-open_file-clause-others
returns-in-Ok-open_file-clause-others g c =
    let f = g.F.Folder in
    let old = c.args.folder.now in
    let read = c.read.new.self in
    others_after f.shows f.kept f.failed f.moment f.left_since next_name journal_name old read
    c.open_file.new.folder c.read.ensures.all c.open_file.ensures.others

pub returns-in-Some-clause-only : goal.returns-in-Some-clause-only
returns-in-Some-clause-only g c tells file saved parts events has other is at =
    let f = g.F.Folder in
    let old = c.args.folder.now in
    let read = c.read.new.self in
    let there : HasFile f.shows f.kept journal_name c.in-Some.file.items read = search rules in
    let same : c.deref.result.now ≡ file =
    c.deref.ensures.value ∙ same_file c.in-Some.file.items file
    (tells read journal_name (Some c.in-Some.file.items) (Some file) there.shown
    (c.read.ensures.all.same journal_name (Some file) has.shown)) in
    c.in-Err-open_file.ensures.only tells saved parts events (ap begins_plain same ∙ other)
    (subst (λ (bytes : List ℕ). IsJournalOf bytes saved events) (sym same) is)
    (blocks_kept f.shows f.kept saved.places parts old read c.read.ensures.all at)

pub returns-in-Some-clause-told : goal.returns-in-Some-clause-told
returns-in-Some-clause-told g c is =
    let f = g.F.Folder in
    ⊎_elim (λ d. store_refused f.shows f.kept f.failed c.open_file.new.folder c.in-Err-open_file.error is d)
    (λ d. plain_refused d.0 c.in-Err-open_file.error d.3) c.in-Err-open_file.ensures.refused

pub returns-in-Some-clause-unchanged : goal.returns-in-Some-clause-unchanged
returns-in-Some-clause-unchanged g c unless =
    let f = g.F.Folder in
    let old = c.args.folder.now in
    let read = c.read.new.self in
    untouched_on f.shows f.kept f.moment f.left_since g.met.F.Folder.earlier old read
    c.open_file.new.folder (record { all = c.read.ensures.all; time = c.read.ensures.time }) (c.in-Err-open_file.ensures.unchanged unless)

pub returns-in-Some-clause-whole : goal.returns-in-Some-clause-whole
returns-in-Some-clause-whole g c tells x shown other =
    let f = g.F.Folder in
    let old = c.args.folder.now in
    let read = c.read.new.self in
    let there : HasFile f.shows f.kept journal_name c.in-Some.file.items read = search rules in
    let is : x ≡ Some c.in-Some.file.items =
    tells read journal_name x (Some c.in-Some.file.items)
    (c.read.ensures.all.same journal_name x shown) there.shown in
    let whole : begins_plain c.deref.result.now ≡ false =
    ap begins_plain c.deref.ensures.value ∙ plain_found x c.in-Some.file.items is other in
    untouched_on f.shows f.kept f.moment f.left_since g.met.F.Folder.earlier old read
    c.open_file.new.folder (record { all = c.read.ensures.all; time = c.read.ensures.time }) (c.open_file.ensures.whole whole)

pub returns-in-Some-clause-any_moment : goal.returns-in-Some-clause-any_moment
returns-in-Some-clause-any_moment g c tells file has =
    let f = g.F.Folder in
    let old = c.args.folder.now in
    let read = c.read.new.self in
    let there : HasFile f.shows f.kept journal_name c.in-Some.file.items read = search rules in
    let same : c.deref.result.now ≡ file =
    c.deref.ensures.value ∙ same_file c.in-Some.file.items file
    (tells read journal_name (Some c.in-Some.file.items) (Some file) there.shown
    (c.read.ensures.all.same journal_name (Some file) has.shown)) in
    joined f.moment f.left_since old read c.open_file.new.folder (HasEither file)
    (journal_left f.shows f.kept f.failed f.moment f.left_since old read file
    (λ name y n left. g.met.F.Folder.only_now old name y n left) has
    (record { all = c.read.ensures.all; time = c.read.ensures.time }))
    (subst (λ (bytes : List ℕ). LeavesOnly f.moment f.left_since read c.open_file.new.folder
    (HasEither bytes)) same c.open_file.ensures.any_moment)

pub returns-in-Some-clause-others : goal.returns-in-Some-clause-others
returns-in-Some-clause-others g c =
    let f = g.F.Folder in
    let old = c.args.folder.now in
    let read = c.read.new.self in
    others_after f.shows f.kept f.failed f.moment f.left_since next_name journal_name old read
    c.open_file.new.folder c.read.ensures.all c.open_file.ensures.others

-- no journal was found, or it was not read

pub returns-in-Ok-clause-nothing : goal.returns-in-Ok-clause-nothing
returns-in-Ok-clause-nothing g c is =
    record { all = c.read.ensures.all; time = c.read.ensures.time }

pub returns-in-Ok-clause-whole : goal.returns-in-Ok-clause-whole
returns-in-Ok-clause-whole g c tells x shown other =
    record { all = c.read.ensures.all; time = c.read.ensures.time }

pub returns-in-Ok-clause-any_moment : goal.returns-in-Ok-clause-any_moment
returns-in-Ok-clause-any_moment g c tells file has =
    let f = g.F.Folder in
    let old = c.args.folder.now in
    let read = c.read.new.self in
    journal_left f.shows f.kept f.failed f.moment f.left_since old read file
    (λ name y n left. g.met.F.Folder.only_now old name y n left) has
    (record { all = c.read.ensures.all; time = c.read.ensures.time })

pub returns-in-Ok-clause-others : goal.returns-in-Ok-clause-others
returns-in-Ok-clause-others g c =
    let f = g.F.Folder in
    let old = c.args.folder.now in
    let read = c.read.new.self in
    others_stay f.shows f.kept f.failed f.moment f.left_since next_name journal_name old read
    c.read.ensures.all

pub returns-clause-whole : goal.returns-clause-whole
returns-clause-whole g c tells x shown other =
    record { all = c.read.ensures.all; time = c.read.ensures.time }

pub returns-clause-any_moment : goal.returns-clause-any_moment
returns-clause-any_moment g c tells file has =
    let f = g.F.Folder in
    let old = c.args.folder.now in
    let read = c.read.new.self in
    journal_left f.shows f.kept f.failed f.moment f.left_since old read file
    (λ name y n left. g.met.F.Folder.only_now old name y n left) has
    (record { all = c.read.ensures.all; time = c.read.ensures.time })

pub returns-clause-others : goal.returns-clause-others
returns-clause-others g c =
    let f = g.F.Folder in
    let old = c.args.folder.now in
    let read = c.read.new.self in
    others_stay f.shows f.kept f.failed f.moment f.left_since next_name journal_name old read
    c.read.ensures.all

pub returns-clause-unchanged : goal.returns-clause-unchanged
returns-clause-unchanged g c unless =
    record { all = c.read.ensures.all; time = c.read.ensures.time }

-- a journal of events alone is refused

pub returns-in-Some-clause-plain_refused : goal.returns-in-Some-clause-plain_refused
returns-in-Some-clause-plain_refused g c tells file shown plain =
    let f = g.F.Folder in
    let read = c.read.new.self in
    let there : HasFile f.shows f.kept journal_name c.in-Some.file.items read = search rules in
    let same : c.deref.result.now ≡ file =
    c.deref.ensures.value ∙ same_file c.in-Some.file.items file
    (tells read journal_name (Some c.in-Some.file.items) (Some file) there.shown
    (c.read.ensures.all.same journal_name (Some file) shown)) in
    ⊎_elim (λ x. inl x)
    (λ x. inr (subst (λ (bytes : List ℕ). DeniesText bytes c.in-Err-open_file.error) same x))
    (c.in-Err-open_file.ensures.plain_refused (ap begins_plain same ∙ plain))

pub returns-clause-plain_refused : goal.returns-clause-plain_refused
returns-clause-plain_refused g c tells file shown plain = inl (refl, c.in-Err.ensures.failed)

-- it is accepted
pub returns-in-Ok-open_file-clause-admitted : goal.returns-in-Ok-open_file-clause-admitted
returns-in-Ok-open_file-clause-admitted g c tells file shown plain =
    let f = g.F.Folder in
    let read = c.read.new.self in
    let there : HasFile f.shows f.kept journal_name c.in-Some.file.items read = search rules in
    let same : c.deref.result.now ≡ file =
    c.deref.ensures.value ∙ same_file c.in-Some.file.items file
    (tells read journal_name (Some c.in-Some.file.items) (Some file) there.shown
    (c.read.ensures.all.same journal_name (Some file) shown)) in
    c.in-Ok-open_file.ensures.admitted (ap begins_plain same ∙ plain)
