use Rattle.std.proofs.Common.{ℕ, ◌+◌, drop, sym, ap, ◌∙◌}
use Rattle.block.proofs.Places.{rest_at}
use Rattle.head.proofs.reference_list.ReferenceListPostings.advance.Goals as goal

pub returns-then-self-len : goal.returns-then-self-len
returns-then-self-len c =
    ap (λ (n : ℕ). drop n c.go_on_to.new.self.references.now) c.go_on_to.ensures.place
    ∙ ap (λ r. drop (c.args.self.now.place + 1) r.now) c.go_on_to.ensures.references
    ∙ sym (rest_at c.args.self.now.references.now c.args.self.now.place)
