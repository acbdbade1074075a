use Rattle.std.proofs.Common.{rules, ◌≡◌, ℕ, true, false, cond, List, [], ◌∷◌, ◌++◌, map, sym}
use Rattle.std.proofs.Common.{subst, ap, ◌∙◌}
use Rattle.std.specs.List.{All}
use Rattle.std.proofs.lemmas.List.{take_all}
use Rattle.std.proofs.lemmas.List.Elements.{All-more}
use Rattle.block.specs.Blocks.{Shown}
use Rattle.head.specs.Blocks.{part_in}
use Rattle.block_search.specs.Skipping.{is_skipped}
use Rattle.block_search.specs.Places.{block_places}
use Rattle.block_search.proofs.Skips.{IsSilent, none_outside, loses_nothing}
use Rattle.block_search.proofs.PlaceLaws.{next_places}
use Rattle.block_search.proofs.skipping.searched_places.Goals as goal
use Rattle.block_search.proofs.skipping.searched_places.Goals.{then-not-is_skipped+in_ok-push}
use Rattle.block_search.proofs.skipping.searched_places.Goals.{else-not-is_skipped}

pub loop-n-preserved : goal.loop-n-preserved
loop-n-preserved c =
    let query = c.args.query.now in
    let blocks : List Shown = c.blocks-blocks.result.now in
    let n = c.loop-n.n in
    let block : Shown = c.index-blocks-n.result in
    let old : List ℕ = c.loop-n.places.items in
    let new : List ℕ = c.if-not-is_skipped.places.items in
    let skips : c.is_skipped.result ≡ is_skipped query block.range = c.is_skipped.ensures
    ∙ ap (is_skipped query) c.range.ensures.range in
    let moved : new ≡ cond (is_skipped query block.range) old (old ++ n ∷ []) = elim
    c.if-not-is_skipped.branch [
      | then-not-is_skipped+in_ok-push w ↦
          let off : c.is_skipped.result ≡ false = search (rules, w.if-not-is_skipped.true) in
          ap (λ v. v.items) w.places-is ∙ w.in_ok-push.ensures.items ∙ ap
          (λ b. cond b old (old ++ n ∷ [])) (sym off ∙ skips)
      | else-not-is_skipped w ↦
          let on : c.is_skipped.result ≡ true = search (rules, w.if-not-is_skipped.false) in
          ap (λ v. v.items) w.places-is ∙ ap (λ b. cond b old (old ++ n ∷ [])) (sym on ∙ skips)
    ] in
    record {
      so_far = next_places query n blocks block old new (block_places query 0 (map part_in blocks))
          c.loop-n-test.true c.index-blocks-n.is moved c.loop-n.invariant.so_far;
      silent = All-more (IsSilent query) blocks n block c.loop-n-test.true c.loop-n.invariant.silent
          (subst (IsSilent query) c.index-blocks-n.is (λ e. none_outside block.range query.from
          query.to block.part e c.range.ensures.inside));
    }

pub returns-clause-whole : goal.returns-clause-whole
returns-clause-whole c =
    let query = c.args.query.now in
    let blocks : List Shown = c.blocks-blocks.result.now in
    loses_nothing query c.args.snapshot.now blocks c.blocks-blocks.ensures
    (subst (λ (bs : List Shown). All (IsSilent query) bs) (take_all c.loop-n.n blocks
    c.loop-n-test.false) c.loop-n.invariant.silent)
