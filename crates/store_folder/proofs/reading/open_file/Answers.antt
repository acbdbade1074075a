use Rattle.std.proofs.Common.{◌≡◌, inl, inr, ⊎_elim, true, false, sym, ◌∙◌}
use Rattle.data_folder.specs.JournalFile.{journal_name, next_name}
use Rattle.store_folder.proofs.Openings.{adopting_denied, adopting_undone, if_both, if_err}
use Rattle.store_folder.proofs.Openings.{journal_left, others_stay}
use Rattle.store_folder.proofs.reading.open_file.Goals as goal

-- a journal of events alone

pub adopt-requires-clause-plain : goal.adopt-requires-clause-plain
adopt-requires-clause-plain g c = sym c.begins_plain.ensures ∙ c.if-begins_plain.true

pub returns-then-begins_plain-clause-plain : goal.returns-then-begins_plain-clause-plain
returns-then-begins_plain-clause-plain g c =
    if_both c.adopt.result _ _ _ (λ s stands head plain. (stands, head)) c.adopt.ensures.events
    c.adopt.ensures.head

pub returns-then-begins_plain-clause-only : goal.returns-then-begins_plain-clause-only
returns-then-begins_plain-clause-only g c tells saved parts events other is at =
    absurd (let a : true ≡ false = sym c.if-begins_plain.true ∙ (c.begins_plain.ensures ∙ other) in cc)

pub returns-then-begins_plain-clause-whole : goal.returns-then-begins_plain-clause-whole
returns-then-begins_plain-clause-whole g c other =
    absurd (let a : true ≡ false = sym c.if-begins_plain.true ∙ (c.begins_plain.ensures ∙ other) in cc)

pub returns-then-begins_plain-clause-refused : goal.returns-then-begins_plain-clause-refused
returns-then-begins_plain-clause-refused g c =
    let f = g.F.Folder in
    if_err c.adopt.result _ _
    (λ e r. adopting_denied f.shows f.kept f.failed f.moment f.left_since c.args.folder.now
    c.adopt.new.folder c.args.file.now e (sym c.begins_plain.ensures ∙ c.if-begins_plain.true)
    c.requires.has r) c.adopt.ensures.refused

pub returns-then-begins_plain-clause-unchanged : goal.returns-then-begins_plain-clause-unchanged
returns-then-begins_plain-clause-unchanged g c =
    let f = g.F.Folder in
    if_err c.adopt.result _ _
    (λ e r. adopting_undone f.shows f.kept f.failed f.moment f.left_since c.args.folder.now
    c.adopt.new.folder c.args.file.now e r) c.adopt.ensures.refused

-- any other

pub returns-else-begins_plain-clause-plain : goal.returns-else-begins_plain-clause-plain
returns-else-begins_plain-clause-plain g c =
    if_both c.with_file.result _ _ _ (λ s found again plain.
    absurd (let a : true ≡ false = sym plain ∙ (sym c.begins_plain.ensures ∙ c.if-begins_plain.false) in cc))
    c.with_file.ensures.found c.with_file.ensures.found

pub returns-else-begins_plain-clause-only : goal.returns-else-begins_plain-clause-only
returns-else-begins_plain-clause-only g c tells saved parts events other is at =
    c.with_file.ensures.only tells saved parts events is at

pub returns-else-begins_plain-clause-refused : goal.returns-else-begins_plain-clause-refused
returns-else-begins_plain-clause-refused g c =
    if_err c.with_file.result _ _ (λ e d. inl d) c.with_file.ensures.refused

pub returns-else-begins_plain-clause-unchanged : goal.returns-else-begins_plain-clause-unchanged
returns-else-begins_plain-clause-unchanged g c =
    if_err c.with_file.result _ _ (λ e d unless. c.with_file.ensures.untouched)
    c.with_file.ensures.refused

pub returns-else-begins_plain-clause-any_moment : goal.returns-else-begins_plain-clause-any_moment
returns-else-begins_plain-clause-any_moment g c =
    let f = g.F.Folder in
    journal_left f.shows f.kept f.failed f.moment f.left_since c.args.folder.now
    c.with_file.new.folder c.args.file.now
    (λ name x n left. g.met.F.Folder.only_now c.args.folder.now name x n left)
    c.requires.has c.with_file.ensures.untouched

pub returns-else-begins_plain-clause-others : goal.returns-else-begins_plain-clause-others
returns-else-begins_plain-clause-others g c =
    let f = g.F.Folder in
    others_stay f.shows f.kept f.failed f.moment f.left_since next_name journal_name
    c.args.folder.now c.with_file.new.folder c.with_file.ensures.untouched.all

pub returns-then-begins_plain-clause-plain_refused : goal.returns-then-begins_plain-clause-plain_refused
returns-then-begins_plain-clause-plain_refused g c plain =
    if_err c.adopt.result _ _ (λ e r. ⊎_elim (λ x. inl x) (λ x. inr x.1) r) c.adopt.ensures.refused

pub returns-else-begins_plain-clause-plain_refused : goal.returns-else-begins_plain-clause-plain_refused
returns-else-begins_plain-clause-plain_refused g c plain =
    absurd (let a : true ≡ false = sym plain ∙ (sym c.begins_plain.ensures ∙ c.if-begins_plain.false) in cc)

-- it is accepted

pub returns-then-begins_plain-clause-admitted : goal.returns-then-begins_plain-clause-admitted
returns-then-begins_plain-clause-admitted g c =
    if_both c.adopt.result _ _ _ (λ s admitted head plain. admitted) c.adopt.ensures.admitted
    c.adopt.ensures.head

pub returns-else-begins_plain-clause-admitted : goal.returns-else-begins_plain-clause-admitted
returns-else-begins_plain-clause-admitted g c =
    if_both c.with_file.result _ _ _ (λ s found again plain.
    absurd (let a : true ≡ false = sym plain ∙ (sym c.begins_plain.ensures ∙ c.if-begins_plain.false) in cc))
    c.with_file.ensures.found c.with_file.ensures.found
