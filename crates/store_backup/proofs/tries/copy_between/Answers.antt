use Rattle.std.proofs.Common.{◌≡◌, ◌<◌, List, Err, Ok, arith, get_or, inl, inr, length, refl, subst}
use Rattle.std.proofs.Common.{sym, true, ◌∙◌}
use Rattle.std.proofs.lemmas.List.{get_or-set_other}
use Rattle.block.proofs.Passing.{held_at}
use Rattle.data_folder.proofs.Moments.{untouched, untouched_on}
use Rattle.head.specs.Heads.{BlockPart}
use Rattle.head.specs.Worlds.{Event}
use Rattle.head_record.specs.Saved.{Saved}
use Rattle.store_backup.specs.Reading.{HasChanged, IsRead}
use Rattle.store_backup.specs.Tries.{IsCopy}
use Rattle.store_backup.proofs.Sources.{has_changed}
use Rattle.store_backup.proofs.Views.{at_last, each_before, each_more, looked_more, none_looked, tells_some}
use Rattle.store_backup.proofs.tries.copy_between.Goals as goal

pub loop-view-init : goal.loop-view-init
loop-view-init g c =
    let f = g.F.Folder in
    let t = g.G.Folder in
    record {
      looked = none_looked f.shows f.kept f.moment f.left_since c.args.views.now;
      rest = λ k d least. refl;
      changed = λ k d low. absurd (omega (arith, low));
      target = untouched t.shows t.kept t.moment t.left_since c.args.target;
      sound = c.requires.target;
    }

pub loop-view-preserved : goal.loop-view-preserved
loop-view-preserved g c =
    let f = g.F.Folder in
    let t = g.G.Folder in
    let i = c.loop-view.view-index in
    let x = c.view-item.result in
    let now = c.loop-view.views in
    let last : i < length now = omega (arith, c.loop-view-test.true) in
    let both = c.in-Err.ensures.changed c.in-Changed.is in
    record {
      looked = looked_more f.shows f.kept f.moment f.left_since c.args.views.now now i x
          (c.copy_store.new.source, c.copy_store.new.again) c.loop-view-test.true last
          c.view-item.is (c.loop-view.invariant.rest i x (omega arith))
          c.loop-view.invariant.looked
          (c.copy_store.ensures.untouched, c.copy_store.ensures.looked);
      rest = λ k d high. get_or-set_other now i k (c.copy_store.new.source, c.copy_store.new.again) d
          (omega (arith, high)) ∙ c.loop-view.invariant.rest k d (omega (arith, high));
      changed = each_more (λ v. HasChanged f.shows f.kept v.0 v.1) now i
          (c.copy_store.new.source, c.copy_store.new.again) last c.loop-view.invariant.changed
          (has_changed f.shows f.kept f.failed (get_or now i x).0 c.copy_store.new.source
          c.copy_store.new.again c.in-Err.fault c.in-Err.ensures.refused c.in-Changed.is);
      target = untouched_on t.shows t.kept t.moment t.left_since g.met.G.Folder.earlier
          c.args.target c.loop-view.target c.in-Err.left
          c.loop-view.invariant.target both.1;
      sound = both.0;
    }

-- the last try

pub returns-in-Ok-clause-untouched : goal.returns-in-Ok-clause-untouched
returns-in-Ok-clause-untouched g c =
    let f = g.F.Folder in
    let i = c.loop-view.view-index in
    let x = c.view-item.result in
    let last : i < length c.loop-view.views = omega (arith, c.loop-view-test.true) in
    looked_more f.shows f.kept f.moment f.left_since c.args.views.now c.loop-view.views i x
    (c.copy_store.new.source, c.copy_store.new.again) c.loop-view-test.true last c.view-item.is
    (c.loop-view.invariant.rest i x (omega arith)) c.loop-view.invariant.looked
    (c.copy_store.ensures.untouched, c.copy_store.ensures.looked)

pub returns-in-Ok-clause-tried : goal.returns-in-Ok-clause-tried
returns-in-Ok-clause-tried g c =
    let f = g.F.Folder in
    let t = g.G.Folder in
    let i = c.loop-view.view-index in
    let x = c.view-item.result in
    let now = c.loop-view.views in
    let last : i < length now = omega (arith, c.loop-view-test.true) in
    record {
      left = c.loop-view.target;
      same = c.loop-view.invariant.target;
      last = inl (
        i,
        c.loop-view-test.true,
        each_before (λ v. HasChanged f.shows f.kept v.0 v.1) now i
            (c.copy_store.new.source, c.copy_store.new.again) c.loop-view.invariant.changed,
        at_last (λ a b. IsCopy f.shows f.kept f.failed t.shows t.lists t.kept t.moment t.left_since
            a b c.loop-view.target (Ok c.in-Ok.done)) c.args.views.now now i x
            (c.copy_store.new.source, c.copy_store.new.again) c.loop-view-test.true last
            c.view-item.is (c.loop-view.invariant.rest i x (omega arith)) (record {
              copied = c.in-Ok.ensures.copied;
              settled = c.in-Ok.ensures.settled;
              begins = c.in-Ok.ensures.begins;
              taken = c.in-Ok.ensures.taken;
              safe = c.in-Ok.ensures.safe;
              listed = c.in-Ok.ensures.listed;
              blocks = c.in-Ok.ensures.blocks;
              refused = c.in-Ok.ensures.refused;
            }),
        tt,
      );
    }

pub returns-in-Ok-clause-tells : goal.returns-in-Ok-clause-tells
returns-in-Ok-clause-tells g c =
    let f = g.F.Folder in
    let t = g.G.Folder in
    let x = get_or c.loop-view.views c.loop-view.view-index c.view-item.result in
    tells_some t.shows t.kept t.moment t.left_since
    (λ (saved : Saved) (parts : List BlockPart) (events : List Event). IsRead f.shows f.kept saved
    parts events x.0 c.copy_store.new.source) c.in-Ok.done.0 c.loop-view.target c.in-Ok.done.1
    c.in-Ok.ensures.copied

pub returns-in_default-clause-untouched : goal.returns-in_default-clause-untouched
returns-in_default-clause-untouched g c =
    let f = g.F.Folder in
    let i = c.loop-view.view-index in
    let x = c.view-item.result in
    let last : i < length c.loop-view.views = omega (arith, c.loop-view-test.true) in
    looked_more f.shows f.kept f.moment f.left_since c.args.views.now c.loop-view.views i x
    (c.copy_store.new.source, c.copy_store.new.again) c.loop-view-test.true last c.view-item.is
    (c.loop-view.invariant.rest i x (omega arith)) c.loop-view.invariant.looked
    (c.copy_store.ensures.untouched, c.copy_store.ensures.looked)

pub returns-in_default-clause-tried : goal.returns-in_default-clause-tried
returns-in_default-clause-tried g c =
    let f = g.F.Folder in
    let t = g.G.Folder in
    let i = c.loop-view.view-index in
    let x = c.view-item.result in
    let now = c.loop-view.views in
    let last : i < length now = omega (arith, c.loop-view-test.true) in
    record {
      left = c.loop-view.target;
      same = c.loop-view.invariant.target;
      last = inl (
        i,
        c.loop-view-test.true,
        each_before (λ v. HasChanged f.shows f.kept v.0 v.1) now i
            (c.copy_store.new.source, c.copy_store.new.again) c.loop-view.invariant.changed,
        at_last (λ a b. IsCopy f.shows f.kept f.failed t.shows t.lists t.kept t.moment t.left_since
            a b c.loop-view.target (Err (c.in-Err.fault, c.in-Err.left))) c.args.views.now now i x
            (c.copy_store.new.source, c.copy_store.new.again) c.loop-view-test.true last
            c.view-item.is (c.loop-view.invariant.rest i x (omega arith)) (record {
              copied = c.in-Err.ensures.copied;
              settled = c.in-Err.ensures.settled;
              begins = c.in-Err.ensures.begins;
              taken = c.in-Err.ensures.taken;
              safe = c.in-Err.ensures.safe;
              listed = c.in-Err.ensures.listed;
              blocks = c.in-Err.ensures.blocks;
              refused = c.in-Err.ensures.refused;
            }),
        c.in_default.not-Changed,
      );
    }

-- no try did

pub returns-clause-tried : goal.returns-clause-tried
returns-clause-tried g c = record {
  left = c.loop-view.target;
  same = c.loop-view.invariant.target;
  last = inr (
    refl,
    λ k d low. c.loop-view.invariant.changed k d (omega (arith, low, c.loop-view-test.false)),
  );
}

-- each view is sound before its try

pub copy_store-requires-clause-source : goal.copy_store-requires-clause-source
copy_store-requires-clause-source g c κs within =
    let sound = g.F.Folder.sound in
    let i = c.loop-view.view-index in
    let x = c.view-item.result in
    subst (λ v. sound v.0 ≡ true) (sym (c.loop-view.invariant.rest i x (omega arith)))
    (held_at (λ v. (sound v.0 ≡ true) × (sound v.1 ≡ true)) c.args.views.now i x
    c.loop-view-test.true c.requires.views).0

pub copy_store-requires-clause-again : goal.copy_store-requires-clause-again
copy_store-requires-clause-again g c κs within =
    let sound = g.F.Folder.sound in
    let i = c.loop-view.view-index in
    let x = c.view-item.result in
    subst (λ v. sound v.1 ≡ true) (sym (c.loop-view.invariant.rest i x (omega arith)))
    (held_at (λ v. (sound v.0 ≡ true) × (sound v.1 ≡ true)) c.args.views.now i x
    c.loop-view-test.true c.requires.views).1
