use Rattle.std.proofs.Common.{rules, ◌≡◌, ◌∷◌, ◌++◌, []}
use Rattle.std.proofs.lemmas.List.Elements.{All-push}
use Rattle.snapshots.specs.Views.{Known, nothing}
use Rattle.snapshots.proofs.Growing.{admits}
use Rattle.snapshots.proofs.store.passes_of.Goals as goal

pub reader-requires : goal.reader-requires
reader-requires g c = admits g.J.Naming.book g.J.Naming.opening g.J.Naming.asked g.J.Naming.kept

pub loop-i-preserved : goal.loop-i-preserved
loop-i-preserved g c =
    let items : c.push.new.self.items ≡ c.loop-i.passes.items ++ c.of.result ∷ [] = search rules in (
      search rules,
      rw items (All-push (λ (p : Known). p ≡ nothing) c.loop-i.passes.items c.of.result c.loop-i.invariant.1 c.of.ensures),
    )
