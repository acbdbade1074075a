use Rattle.std.proofs.Common.{◌≡◌, [], ◌∷◌, ◌++◌, get_or, OnOk, refl, sym, ◌∙◌}
use Rattle.std.specs.Arc.{arc_value}
use Rattle.std.proofs.lemmas.Option.{get_or_from_slice_get}
use Rattle.labels.proofs.Texts.{pair_total}
use Rattle.pages.specs.Sorted.{entries_of, place_of}
use Rattle.head.specs.Index.{Pair, PairLists, listed, listed_more}
use Rattle.head.proofs.Keyed.{put_sorted}
use Rattle.head.proofs.Listing.{pushed_as, inserted_as}
use Rattle.head.proofs.index.Index.add_at.Goals as goal

pushed : (c : goal.After-change) (ys : PairLists) → entries_of c.self.inside.lists ≡ ys → OnOk c.change.result (entries_of c.change.new.self ≡ listed_more (get_or c.args.labels.now c.args.place ([], [])) c.args.reference ys)
pushed c ys is =
    pushed_as (c.pair.result.0.now, c.pair.result.1.now) (get_or c.args.labels.now c.args.place ([], [])) c.args.reference (entries_of c.self.inside.lists) ys (entries_of c.change.new.self) (place_of c.self.inside.lists c.in-Ok.spot) c.change.result
    c.self.invariant is (sym (get_or_from_slice_get c.args.labels.now c.args.place (c.pair.result.0.now, c.pair.result.1.now) ([], []) c.pair.ensures)) c.in-Ok.ensures.found c.change.ensures.ok

inserted : (c : goal.After-insert) (ys : PairLists) → entries_of c.self.inside.lists ≡ ys → OnOk c.insert.result (entries_of c.insert.new.self ≡ listed_more (get_or c.args.labels.now c.args.place ([], [])) c.args.reference ys)
inserted c ys is =
    inserted_as (c.pair.result.0.now, c.pair.result.1.now) (get_or c.args.labels.now c.args.place ([], [])) c.args.reference (entries_of c.self.inside.lists) ys (entries_of c.insert.new.self) (place_of c.self.inside.lists c.in-Err.spot) (arc_value c.in_ok-listed-in-Err.listed) c.insert.result
    c.self.invariant is (sym (get_or_from_slice_get c.args.labels.now c.args.place (c.pair.result.0.now, c.pair.result.1.now) ([], []) c.pair.ensures)) c.in-Err.ensures.absent
    (c.in_ok-listed-in-Err.ensures.ok ∙ c.in_ok-new-in-Err.ensures) c.insert.ensures.ok

pub invariant_of-self : goal.invariant_of-self
invariant_of-self c =
    let p : Pair = get_or c.args.labels.now c.args.place ([], []) in
    put_sorted pair_total entries_of p (listed p (entries_of c.self.inside.lists) ++ c.args.reference ∷ []) c.self.inside.lists c.change.new.self c.change.result c.self.invariant (pushed c _ refl) c.change.ensures.err

pub invariant_of-self-in-Err : goal.invariant_of-self-in-Err
invariant_of-self-in-Err c =
    let p : Pair = get_or c.args.labels.now c.args.place ([], []) in
    put_sorted pair_total entries_of p (listed p (entries_of c.self.inside.lists) ++ c.args.reference ∷ []) c.self.inside.lists c.insert.new.self c.insert.result c.self.invariant (inserted c _ refl) c.insert.ensures.err

pub returns-in-Ok : goal.returns-in-Ok
returns-in-Ok c = pushed c c.args.self.now c.self.view_is

pub returns-in_ok-listed-in-Err : goal.returns-in_ok-listed-in-Err
returns-in_ok-listed-in-Err c = inserted c c.args.self.now c.self.view_is
