use Rattle.std.proofs.Common.{ℕ, ap, ◌∙◌}
use Rattle.std.specs.Prelude.{codes}
use Rattle.data_folder.specs.Sweeping.{names_in}
use Rattle.store_folder.specs.Blocks.{name_in}
use Rattle.store_folder.proofs.Swept.{four_more, name_more}
use Rattle.store_folder.proofs.sweeping.push_files.Goals as goal

pub returns : goal.returns
returns c =
    let p = c.args.place in
    let number = c.folder-number.ensures in
    four_more (names_in c.args.names.now.items) (names_in c.push.new.self.items)
    (names_in c.push-2.new.self.items) (names_in c.push-3.new.self.items)
    (names_in c.push-4.new.self.items) (name_in p.0 (codes "meta.json"))
    (name_in p.0 (codes "index")) (name_in p.0 (codes "chunks/000001"))
    (name_in p.0 (codes "tombstones"))
    (name_more _ _ _ _ c.in_ok-push.ensures.items (c.in_ok-name_in.ensures
    ∙ ap (λ (k : ℕ). name_in k (codes "meta.json")) number))
    (name_more _ _ _ _ c.in_ok-push-2.ensures.items (c.in_ok-name_in-2.ensures
    ∙ ap (λ (k : ℕ). name_in k (codes "index")) number))
    (name_more _ _ _ _ c.in_ok-push-3.ensures.items (c.in_ok-name_in-3.ensures
    ∙ ap (λ (k : ℕ). name_in k (codes "chunks/000001")) number))
    (name_more _ _ _ _ c.in_ok-push-4.ensures.items (c.in_ok-name_in-4.ensures
    ∙ ap (λ (k : ℕ). name_in k (codes "tombstones")) number))
