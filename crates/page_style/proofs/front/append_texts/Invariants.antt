use Rattle.std.proofs.Common.{◌≡◌, ◌++◌, drop}
use Rattle.std.specs.List.{flat_map}
use Rattle.page_style.proofs.front.append_texts.Given as goal

abbrev pub invariant-loop-text : goal.invariant-loop-text
invariant-loop-text l =
    l.out.items ++ flat_map (λ t. t.now) (drop l.text-index l.texts)
    ≡ l.fn.out.items ++ flat_map (λ t. t.now) l.texts
