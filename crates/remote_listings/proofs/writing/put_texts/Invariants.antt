use Rattle.std.proofs.Common.{◌≡◌, ◌++◌, ℕ, List, drop}
use Rattle.std.specs.Borrow.{Bor}
use Rattle.std.specs.Prelude.{flat_map}
use Rattle.remote_listings.specs.Texts.{text_tokens}
use Rattle.remote_listings.proofs.writing.put_texts.Given as goal

abbrev pub invariant-loop-text : goal.invariant-loop-text
invariant-loop-text l = record {
  before : l.out.before ≡ l.fn.out.before;
  tokens : l.out.tokens
      ++ flat_map (λ (t : Bor (List ℕ)). text_tokens t.now) (drop l.text-index l.texts)
      ≡ l.fn.out.tokens ++ flat_map (λ (t : Bor (List ℕ)). text_tokens t.now) l.texts;
}
