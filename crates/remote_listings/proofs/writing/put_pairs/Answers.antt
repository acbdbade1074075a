use Rattle.std.proofs.Common.{ℕ, List, [], sym, ◌∙◌, arith}
use Rattle.std.proofs.lemmas.Option.{get_or_from_slice_get}
use Rattle.remote_listings.specs.Texts.{pair_tokens}
use Rattle.remote_listings.proofs.Written.{tokens_turn}
use Rattle.remote_listings.proofs.writing.put_pairs.Goals as goal

pub loop-at-preserved : goal.loop-at-preserved
loop-at-preserved c =
    let labels = c.args.labels.now in
    let none : List ℕ × List ℕ = ([], []) in
    let pair : List ℕ × List ℕ = (c.pair.result.0.now, c.pair.result.1.now) in
    record {
      before = c.in_ok-put_pair.ensures.before ∙ c.loop-at.invariant.before;
      tokens =
          tokens_turn pair_tokens labels c.loop-at.at pair none _ _ _ (omega arith)
          (sym (get_or_from_slice_get labels c.loop-at.at pair none c.pair.ensures))
          c.in_ok-put_pair.ensures.tokens c.loop-at.invariant.tokens;
    }
