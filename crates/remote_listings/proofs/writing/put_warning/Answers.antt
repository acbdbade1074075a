use Rattle.std.proofs.Common.{◌≡◌, Bool, true, rules, subst, sym}
use Rattle.std.proofs.lemmas.Result.{on_ok_weaker}
use Rattle.remote_listings.specs.Texts.{warning_tokens}
use Rattle.remote_listings.specs.Writing.{Adds}
use Rattle.remote_listings.proofs.Written.{both_add}
use Rattle.remote_listings.proofs.writing.put_warning.Goals as goal

pub returns : goal.returns
returns c =
    let is : c.args.cut ≡ true = search rules in
    on_ok_weaker c.put_last.result
    (λ m. subst (λ (b : Bool). Adds c.args.out.now c.put_last.new.out (warning_tokens b)) (sym is)
    (both_add c.args.out.now c.put_list.new.out c.put_last.new.out _ _ c.in_ok-put_list.ensures m))
    c.put_last.ensures
