use Rattle.std.proofs.Common.{List, Bool, rules, subst}
use Rattle.std.specs.Prelude.{flat_map}
use Rattle.labels.specs.Labels.{Labels}
use Rattle.remote_listings.specs.Texts.{labels_tokens}
use Rattle.remote_listings.specs.Writing.{Adds, back_tokens}
use Rattle.remote_listings.proofs.Written.{text_written}
use Rattle.remote_listings.proofs.spelled.sets_text.Goals as goal

pub returns : goal.returns
returns c =
    text_written labels_tokens c.args.limit c.args.sets.now c.new-out.result c.put_front.new.out
    c.put_sets.new.out c.put_back.new.out c.into_inner.result.items (search rules) (search rules)
    c.in_ok-put_front.ensures
    (subst (λ (xs : List Labels). Adds c.put_front.new.out c.put_sets.new.out
    (flat_map labels_tokens xs)) c.cut_to.ensures c.in_ok-put_sets.ensures)
    (subst (λ (b : Bool). Adds c.put_sets.new.out c.put_back.new.out (back_tokens b))
    c.is_cut.ensures c.in_ok-put_back.ensures)
    c.into_inner.ensures.items
