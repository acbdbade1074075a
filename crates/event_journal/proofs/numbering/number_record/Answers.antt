use Rattle.std.proofs.Common.{◌∙◌, ◌++◌, ◌∷◌, [], ap, subst, List, ℕ}
use Rattle.journal.specs.Group.{AreRecords}
use Rattle.numbered_text.specs.Reading.{is_numbered}
use Rattle.event_journal.proofs.Records.{numbered_so, split_is}
use Rattle.event_journal.proofs.numbering.number_record.Goals as goal

pub numbered_text-requires : goal.numbered_text-requires
numbered_text-requires c =
    let r = c.requires in
    let is = split_is r.0 r.1 c.in-Ok.content.now c.in-Ok.rest.now c.args.bytes.now r.2.fits
    r.3 c.in-Ok.ensures in
    ap is_numbered is.0 ∙ r.2.plain

pub returns-in-Ok-push_record-clause-ok : goal.returns-in-Ok-push_record-clause-ok
returns-in-Ok-push_record-clause-ok c content rest plain parts =
    let is = split_is content rest c.in-Ok.content.now c.in-Ok.rest.now c.args.bytes.now
    plain.fits parts c.in-Ok.ensures in (
      is.1,
      numbered_so c.args.names.now c.numbered_text.new.names content c.in-Ok.content.now
          c.in_ok-text-in-Ok.text.items c.args.out.now.items c.push_record.new.records.items is.0
          c.in_ok-text-in-Ok.ensures.stands
          (subst (λ (text : List ℕ). (contents : List (List ℕ))
          → AreRecords contents c.args.out.now.items
          → AreRecords (contents ++ text ∷ []) c.push_record.new.records.items)
          c.deref.ensures.value c.in-Ok-push_record.ensures.together),
    )
