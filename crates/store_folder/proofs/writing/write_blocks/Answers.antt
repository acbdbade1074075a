use Rattle.std.proofs.Common.{◌≡◌, ◌+◌, ◌-◌, ◌<◌, ◌++◌, ℕ, List, [], ◌∷◌, None, Option, Some}
use Rattle.std.proofs.Common.{ap, append-nil, append_assoc, arith, drop, length, map, refl, subst, sym}
use Rattle.std.proofs.Common.{◌∙◌}
use Rattle.std.proofs.lemmas.List.{drop-drop, drop-map, drop_all, drop_more, length-append}
use Rattle.data_folder.specs.States.{Named}
use Rattle.data_folder.specs.Sweeping.{AreAmong, names_in}
use Rattle.data_folder.proofs.Sweeps.{nothing_removed}
use Rattle.block.specs.Blocks.{Shown}
use Rattle.head.specs.Blocks.{part_in}
use Rattle.head.specs.Heads.{BlockPart}
use Rattle.head_record.specs.Saved.{Place}
use Rattle.store_folder.specs.Holding.{AreAt}
use Rattle.store_folder.specs.Sweeps.{names_at, names_of}
use Rattle.store_folder.specs.Writing.{AreRewritten, EachSays, found_at, places_from, places_with}
use Rattle.store_folder.specs.Writing.{unfound}
use Rattle.store_folder.proofs.Found.{all_placed, all_written, none_if, none_placed, one_kept}
use Rattle.store_folder.proofs.Found.{one_written, place_kept, place_written, written_places}
use Rattle.store_folder.proofs.Writes.{at_joined, at_stays, each_last, more_stays, names_joined}
use Rattle.store_folder.proofs.Writes.{places_more, rewritten_joined, says_more}
use Rattle.store_folder.proofs.writing.write_blocks.Goals as goal

pub loop-at-init : goal.loop-at-init
loop-at-init g c =
    let f = g.F.Folder in
    let names = names_in c.args.kept.now.items in
    record {
      blocks = ([], [], tt, tt, refl, refl);
      says = tt;
      places = none_placed c.args.first (length c.args.blocks.now) c.args.found.now
          c.new-places.result.items c.new-places.ensures.items;
      few = omega arith;
      names = sym (append-nil names);
      sound = c.requires;
      stays = nothing_removed f.shows f.kept f.sound f.moment f.left_since g.met.F.Folder.only_now
          names c.args.folder.now;
    }

pub returns-in_err-write_block-clause-stays : goal.returns-in_err-write_block-clause-stays
returns-in_err-write_block-clause-stays g c =
    let f = g.F.Folder in
    let l = c.loop-at in
    more_stays f.shows f.kept f.sound f.moment f.left_since g.met.F.Folder.only_now
    (names_in c.args.kept.now.items) (names_in l.kept.items)
    (names_at (places_from c.args.first l.written)) c.args.folder.now l.folder
    c.write_block.new.folder l.invariant.names l.invariant.stays c.write_block.ensures.stays

pub returns-in_default-push-2-clause-stays : goal.returns-in_default-push-2-clause-stays
returns-in_default-push-2-clause-stays g c =
    let f = g.F.Folder in
    let l = c.loop-at in
    more_stays f.shows f.kept f.sound f.moment f.left_since g.met.F.Folder.only_now
    (names_in c.args.kept.now.items) (names_in l.kept.items)
    (names_at (places_from c.args.first l.written)) c.args.folder.now l.folder
    c.write_block.new.folder l.invariant.names l.invariant.stays c.write_block.ensures.stays

-- a block that is found at its place

pub loop-at-preserved-in-Some : goal.loop-at-preserved-in-Some
loop-at-preserved-in-Some g c =
    let l = c.loop-at in
    let i = l.at in
    let n = c.args.first + l.written in
    let blocks : List Shown = c.args.blocks.now in
    let found : List (Option Place) = c.args.found.now in
    let p : Place = c.in-Some.place in
    let inside : i < length blocks = omega arith in
    let some : found_at found i ≡ Some p = sym c.found_at.ensures ∙ c.in-Some.is in
    let w = l.invariant.blocks in
    let left : drop 1 (map part_in (drop i blocks)) ≡ map part_in (drop (i + 1) blocks) =
    drop-map part_in 1 (drop i blocks)
    ∙ ap (λ (bs : List Shown). map part_in bs) (drop-drop 1 i blocks) in
    record {
      blocks = (
        w.0,
        w.1,
        w.2,
        w.3,
        w.4,
        one_kept found i w.0 p (map part_in (drop i blocks)) (map part_in (drop (i + 1) blocks))
            (unfound found (map part_in blocks)) some left w.5,
      );
      says = l.invariant.says;
      places =
          ap (λ (ps : List Place). ps
          ++ places_with n (drop (i + 1) found) (length blocks - (i + 1))) c.in-Ok.ensures.items
          ∙ place_kept n i (length blocks) found l.places.items
          (places_with c.args.first found (length blocks)) p some inside l.invariant.places;
      few = omega arith;
      names = l.invariant.names;
      sound = l.invariant.sound;
      stays = l.invariant.stays;
    }

-- one that is written

pub loop-at-preserved : goal.loop-at-preserved
loop-at-preserved g c =
    let f = g.F.Folder in
    let l = c.loop-at in
    let i = l.at in
    let first = c.args.first in
    let blocks : List Shown = c.args.blocks.now in
    let found : List (Option Place) = c.args.found.now in
    let b : Shown = c.index-blocks-at.result in
    let before = names_in c.args.kept.now.items in
    let names = names_in l.kept.items in
    let old = places_from first l.written in
    let new = c.write_block.new.folder in
    let w = l.invariant.blocks in
    let made = c.in_ok-write_block.ensures.there in
    let at = c.in-Some-checked_add.number in
    let place : Place = (at, 0) in
    let inside : i < length blocks = omega arith in
    let number : at ≡ first + l.written = omega (arith, c.in-Some-checked_add.ensures.1) in
    let none : found_at found i ≡ None =
    sym c.found_at.ensures ∙ none_if c.found_at.result c.in_default.not-Some in
    let next : places_from first (l.written + 1) ≡ old ++ place ∷ [] =
    places_more first l.written ∙ ap (λ (n : ℕ). old ++ (n, 0) ∷ []) (sym number) in
    let left : map part_in (drop i blocks) ≡ part_in b ∷ map part_in (drop (i + 1) blocks) =
    ap (λ (bs : List Shown). map part_in bs) (drop_more blocks i b inside)
    ∙ ap (λ (x : Shown). part_in x ∷ map part_in (drop (i + 1) blocks)) (sym c.index-blocks-at.is) in
    let lie : AreAt f.shows f.kept old w.1 new =
    at_stays f.shows f.kept f.sound f.moment f.left_since g.met.F.Folder.only_now old w.1 names
    l.folder new
    (λ (files : List Named) among. subst (λ (ns : List (List ℕ)). AreAmong ns files)
    (sym l.invariant.names) (each_last before (names_at old) files among))
    c.write_block.ensures.stays w.3 in
    record {
      blocks = (
        w.0 ++ part_in b ∷ [],
        w.1 ++ made.0 ∷ [],
        rewritten_joined w.0 w.1 (part_in b ∷ []) (made.0 ∷ []) w.2 (made.1, tt),
        subst (λ (ps : List Place). AreAt f.shows f.kept ps (w.1 ++ made.0 ∷ []) new) (sym next)
            (at_joined f.shows f.kept old (place ∷ []) w.1 (made.0 ∷ []) new lie made.2),
        (let all = length-append w.0 (part_in b ∷ []) in omega (arith, all, w.4)),
        one_written found i w.0 (part_in b) (map part_in (drop i blocks))
            (map part_in (drop (i + 1) blocks)) (unfound found (map part_in blocks)) none left w.5,
      );
      says = says_more f.shows f.kept f.sound f.moment f.left_since g.met.F.Folder.only_now
          c.args.values before names old (places_from first (l.written + 1)) place l.folder new
          l.invariant.names c.write_block.ensures.stays next l.invariant.says
          c.in_ok-write_block.ensures.says;
      places =
          ap (λ (ps : List Place). ps ++ places_with (first + (l.written + 1)) (drop (i + 1) found)
          (length blocks - (i + 1))) c.in-Ok-push.ensures.items
          ∙ place_written first l.written i (length blocks) found l.places.items
          (places_with first found (length blocks)) c.new.result none inside
          (c.new.ensures ∙ ap (λ (n : ℕ). (n, 0)) number) l.invariant.places;
      few = omega arith;
      names = c.in_ok-write_block.ensures.names
          ∙ ap (λ (ns : List (List ℕ)). ns ++ names_of place) l.invariant.names
          ∙ append_assoc before (names_at old) (names_of place)
          ∙ ap (λ (ns : List (List ℕ)). before ++ ns) (sym (names_joined old (place ∷ [])))
          ∙ ap (λ (ps : List Place). before ++ names_at ps) (sym next);
      sound = c.write_block.ensures.sound;
      stays = more_stays f.shows f.kept f.sound f.moment f.left_since g.met.F.Folder.only_now before
          names (names_at old) c.args.folder.now l.folder new l.invariant.names l.invariant.stays
          c.write_block.ensures.stays;
    }

-- behind the last block

pub returns-clause-there : goal.returns-clause-there
returns-clause-there g c =
    let f = g.F.Folder in
    let l = c.loop-at in
    let blocks : List Shown = c.args.blocks.now in
    let all = unfound c.args.found.now (map part_in blocks) in
    let w = l.invariant.blocks in
    let done = all_written (drop l.at c.args.found.now) w.0 (map part_in (drop l.at blocks)) all
    (ap (λ (bs : List Shown). map part_in bs) (drop_all l.at blocks c.loop-at-test.false)) w.5 in (
      w.1,
      subst (λ (bs : List BlockPart). AreRewritten bs w.1) done w.2,
      subst (λ (ps : List Place). AreAt f.shows f.kept ps w.1 l.folder)
          (written_places c.args.first l.written w.0 all done w.4) w.3,
    )

pub returns-clause-says : goal.returns-clause-says
returns-clause-says g c =
    let f = g.F.Folder in
    let l = c.loop-at in
    let blocks : List Shown = c.args.blocks.now in
    let all = unfound c.args.found.now (map part_in blocks) in
    let w = l.invariant.blocks in
    let done = all_written (drop l.at c.args.found.now) w.0 (map part_in (drop l.at blocks)) all
    (ap (λ (bs : List Shown). map part_in bs) (drop_all l.at blocks c.loop-at-test.false)) w.5 in
    subst (λ (ps : List Place). EachSays f.shows f.kept c.args.values ps l.folder)
    (written_places c.args.first l.written w.0 all done w.4) l.invariant.says

pub returns-clause-names : goal.returns-clause-names
returns-clause-names g c =
    let l = c.loop-at in
    let blocks : List Shown = c.args.blocks.now in
    let all = unfound c.args.found.now (map part_in blocks) in
    let w = l.invariant.blocks in
    let done = all_written (drop l.at c.args.found.now) w.0 (map part_in (drop l.at blocks)) all
    (ap (λ (bs : List Shown). map part_in bs) (drop_all l.at blocks c.loop-at-test.false)) w.5 in
    l.invariant.names
    ∙ ap (λ (ps : List Place). names_in c.args.kept.now.items ++ names_at ps)
    (written_places c.args.first l.written w.0 all done w.4)

pub returns-clause-places : goal.returns-clause-places
returns-clause-places g c =
    let l = c.loop-at in
    let count = length c.args.blocks.now in
    let ends : l.at ≡ count = omega (arith, c.loop-at-test.false, l.auto.at-end) in
    all_placed (c.args.first + l.written) l.at count (drop l.at c.args.found.now) l.places.items
    (places_with c.args.first c.args.found.now count) ends l.invariant.places
