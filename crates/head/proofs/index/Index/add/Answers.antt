use Rattle.std.proofs.Common.{◌≡◌, ℕ, [], ◌∷◌, ◌++◌, Result, Ok, Err, OnOk, subst, sym}
use Rattle.labels.specs.Labels.{Labels}
use Rattle.labels.specs.LabelSets.{IsLabelSet}
use Rattle.head.specs.Index.{PairLists, listed_each, IsIndexOf, AddsSeries}
use Rattle.head.specs.IndexLaws.{IsIndexOf-last, proper_set}
use Rattle.head.proofs.index.Index.add.Goals as goal

kept_if : {A B : Type 0} (res : Result A B) (old new : PairLists) (labels : Labels) (r : ℕ) → OnOk res (new ≡ listed_each labels r old) → IsLabelSet labels
    → OnOk res (AddsSeries r labels old new)
kept_if (Ok a) old new labels r e h =
    λ part samples is. subst (λ (lists : PairLists). IsIndexOf lists (part ++ (r, (labels, samples)) ∷ [])) (sym e) (IsIndexOf-last old part r (labels, samples) (proper_set labels h) is)
kept_if (Err b) old new labels r e h = tt

pub returns : goal.returns
returns c =
    kept_if c.add_pairs.result c.args.self.now c.add_pairs.new.self c.args.labels.now c.args.reference c.add_pairs.ensures.added c.add_pairs.ensures.label_set
