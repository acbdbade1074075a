use Rattle.std.proofs.Common.{◌∙◌, List, map, slice_get, sym, ap, arith}
use Rattle.std.proofs.lemmas.List.{length-map}
use Rattle.pages.specs.Pages.{groups_of}
use Rattle.pages.specs.Sorted.{place_of, entries_of}
use Rattle.pages.proofs.Counts.{got_in_prefix}
use Rattle.pages.proofs.place.entry_after.Goals as goal

pub returns-then-left-entries : goal.returns-then-left-entries
returns-then-left-entries g c =
    let groups : List (List (List _)) = groups_of g.E.Entry.item c.args.groups.now in
    ap (slice_get (entries_of groups)) (sym c.loop-entries.invariant.same)
    ∙ got_in_prefix (entries_of groups) (map g.E.Entry.item c.in-Some.entries.now) (place_of groups c.loop-entries.spot) c.loop-entries.left c.in-Some.ensures.prefix (omega (arith, c.if-left-entries.true, length-map c.in-Some.entries.now g.E.Entry.item))
    ∙ c.entry_of.ensures
