use Rattle.std.proofs.Common.{◌≡◌, ℕ, true, false, List, [], ◌∷◌, ◌++◌, sym, ap, ◌∙◌, append_assoc}
use Rattle.std.proofs.lemmas.List.{append-nil}
use Rattle.metrics_writer.specs.Series.{is_name_label, pair_text}
use Rattle.metrics_writer.proofs.Loops.{name_is, other_is, mark_kept, mark_comma}
use Rattle.metrics_writer.proofs.series.append_label.Goals as goal

pub returns-then-is_name_label-clause-text : goal.returns-then-is_name_label-clause-text
returns-then-is_name_label-clause-text c =
    let out = c.args.out.now.items in
    let p : List ℕ × List ℕ = (c.args.name.now, c.args.value.now) in
    let h : is_name_label p ≡ true =
    sym (c.is_name_label.ensures c.args.value.now) ∙ c.if-is_name_label.true in
    sym (ap (λ l. out ++ l) (name_is c.args.mark p h) ∙ append-nil out)

pub returns-then-is_name_label-clause-mark : goal.returns-then-is_name_label-clause-mark
returns-then-is_name_label-clause-mark c =
    let p : List ℕ × List ℕ = (c.args.name.now, c.args.value.now) in
    mark_kept c.args.mark p (sym (c.is_name_label.ensures c.args.value.now) ∙
    c.if-is_name_label.true)

pub returns-clause-text : goal.returns-clause-text
returns-clause-text c =
    let out = c.args.out.now.items in
    let p : List ℕ × List ℕ = (c.args.name.now, c.args.value.now) in
    let h : is_name_label p ≡ false =
    sym (c.is_name_label.ensures c.args.value.now) ∙ c.if-is_name_label.false in
    c.in_ok-append_pair.ensures
    ∙ (ap (λ l. l ++ pair_text p) c.in_ok-push.ensures.items
    ∙ (append_assoc out (c.args.mark ∷ []) (pair_text p)
    ∙ ap (λ l. out ++ l) (sym (other_is c.args.mark p h))))

pub returns-clause-mark : goal.returns-clause-mark
returns-clause-mark c =
    let p : List ℕ × List ℕ = (c.args.name.now, c.args.value.now) in
    mark_comma c.args.mark p (sym (c.is_name_label.ensures c.args.value.now) ∙
    c.if-is_name_label.false)
