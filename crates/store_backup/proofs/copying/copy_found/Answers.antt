use Rattle.std.proofs.Common.{ℕ, rules, subst, subst₂, sym}
use Rattle.block_folder.specs.declared.values.Values.{Values}
use Rattle.head.specs.Heads.{world_of}
use Rattle.store_joiner.specs.Finds.{FindsNow}
use Rattle.store_folder.specs.Writing.{places_from}
use Rattle.store_joiner.specs.Stores.{SaysMeaning}
use Rattle.store_backup.specs.Copies.{Begins}
use Rattle.store_backup.proofs.Targets.{as_many, counted_so}
use Rattle.store_backup.proofs.copying.copy_found.Goals as goal

pub returns-in-Ok-begin_with-clause-copied : goal.returns-in-Ok-begin_with-clause-copied
returns-in-Ok-begin_with-clause-copied g c =
    let f = g.G.Folder in
    let s = c.in-Ok.snapshot in
    let new = c.in-Ok-begin_with.begun in
    record {
      world = world_of s;
      accepted = c.in-Ok.ensures.world;
      finds = subst (λ (values : Values).
          FindsNow f.moment f.left_since new (record { world = world_of s; values = values }))
          c.values.ensures c.in-Ok-begin_with.ensures.finds;
      events = search rules;
      blocks = as_many c.blocks-2.result.now s c.blocks-2.ensures;
      begins = subst (λ (values : Values). Begins f.shows f.kept f.moment f.left_since
          (record { world = world_of s; values = values }) c.args.target new) c.values.ensures
          c.in-Ok-begin_with.ensures.begins;
      says = subst₂ (λ (values : Values) (n : ℕ). SaysMeaning f.shows f.kept values
          (places_from 1 n) new) c.values.ensures
          (sym (counted_so c.blocks-2.result.now s c.blocks-2.ensures))
          c.in-Ok-begin_with.ensures.says;
    }
