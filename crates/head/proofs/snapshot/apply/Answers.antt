use Rattle.std.proofs.Common.{◌≡◌, Ok, sym, ◌∙◌, ap, subst, rules, to_z, of_z, w64}
use Rattle.head.specs.Heads.{SnapshotParts, world_of}
use Rattle.head.specs.Kept.{KeepsBlocks}
use Rattle.head.specs.Kinds.{change_seen}
use Rattle.head.specs.Removing.{snapshot_less, survives}
use Rattle.head.specs.Worlds.{Event, deletion, stepped}
use Rattle.head.proofs.Deleting.{deleted-world_of}
use Rattle.head.proofs.snapshot.apply.Goals as goal

pub returns-in_ok-snapshot_without-in-Deletion-clause-ok : goal.returns-in_ok-snapshot_without-in-Deletion-clause-ok
returns-in_ok-snapshot_without-in-Deletion-clause-ok c =
    let from_is : to_z w64 (of_z w64 c.in-Deletion.from) ≡ c.in-Deletion.from = search rules in
    let to_is : to_z w64 (of_z w64 c.in-Deletion.to) ≡ c.in-Deletion.to = search rules in
    let ms = c.in-Deletion.matchers.now in
    let event_is : c.args.event.now ≡ deletion ms c.in-Deletion.from c.in-Deletion.to = sym c.view.ensures.shown ∙ ap change_seen c.in-Deletion.is in
    let made : c.in_ok-snapshot_without-in-Deletion.field-0 ≡ snapshot_less (survives ms c.in-Deletion.from c.in-Deletion.to) c.args.at.now =
    c.in_ok-snapshot_without-in-Deletion.ensures ∙ (λ i. snapshot_less (survives ms (from_is i) (to_is i)) c.args.at.now) in
    ap (stepped (world_of c.args.at.now)) event_is
    ∙ ap Ok (sym (ap world_of made ∙ deleted-world_of ms c.in-Deletion.from c.in-Deletion.to c.args.at.now))

pub returns-in_ok-snapshot_without-in-Deletion-clause-kept : goal.returns-in_ok-snapshot_without-in-Deletion-clause-kept
returns-in_ok-snapshot_without-in-Deletion-clause-kept c =
    let from_is : to_z w64 (of_z w64 c.in-Deletion.from) ≡ c.in-Deletion.from = search rules in
    let to_is : to_z w64 (of_z w64 c.in-Deletion.to) ≡ c.in-Deletion.to = search rules in
    let ms = c.in-Deletion.matchers.now in
    let event_is : c.args.event.now ≡ deletion ms c.in-Deletion.from c.in-Deletion.to = sym c.view.ensures.shown ∙ ap change_seen c.in-Deletion.is in
    let made : c.in_ok-snapshot_without-in-Deletion.field-0 ≡ snapshot_less (survives ms c.in-Deletion.from c.in-Deletion.to) c.args.at.now =
    c.in_ok-snapshot_without-in-Deletion.ensures ∙ (λ i. snapshot_less (survives ms (from_is i) (to_is i)) c.args.at.now) in
    subst (λ (event : Event). KeepsBlocks event c.args.at.now c.in_ok-snapshot_without-in-Deletion.field-0.blocks) (sym event_is)
    (ap (λ (s : SnapshotParts). s.blocks) made)
