use Rattle.std.proofs.Common.{List, ℕ, Bool, rules, subst, ◌∙◌}
use Rattle.std.specs.Borrow.{Bor}
use Rattle.std.specs.Prelude.{flat_map}
use Rattle.remote_listings.specs.Texts.{text_tokens}
use Rattle.remote_listings.specs.Writing.{Adds, back_tokens}
use Rattle.remote_listings.proofs.Written.{seen_text, text_written}
use Rattle.remote_listings.proofs.spelled.texts_text.Goals as goal

pub returns : goal.returns
returns c =
    text_written (λ (t : Bor (List ℕ)). text_tokens t.now) c.args.limit c.args.texts.now
    c.new-out.result c.put_front.new.out c.put_texts.new.out c.put_back.new.out
    c.into_inner.result.items (search rules) (search rules) c.in_ok-put_front.ensures
    (subst (λ (xs : List (Bor (List ℕ))). Adds c.put_front.new.out c.put_texts.new.out
    (flat_map (λ (t : Bor (List ℕ)). text_tokens t.now) xs)) c.cut_to.ensures
    c.in_ok-put_texts.ensures)
    (subst (λ (b : Bool). Adds c.put_texts.new.out c.put_back.new.out (back_tokens b))
    c.is_cut.ensures c.in_ok-put_back.ensures)
    c.into_inner.ensures.items
    ∙ seen_text text_tokens (λ (t : Bor (List ℕ)). t.now) c.args.limit c.args.texts.now
