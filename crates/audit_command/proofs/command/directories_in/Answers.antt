use Rattle.std.proofs.Common.{ap, List, [], ◌∙◌, codes}
use Rattle.std.proofs.lemmas.Result.{IfOk-weaker}
use Rattle.std.specs.Prelude.{Option, unwrap_or}
use Rattle.clap.specs.Words.{Text, found_of}
use Rattle.clap.proofs.WalkLemmas.{raw_values-rows}
use Rattle.audit_command.proofs.command.directories_in.Goals as goal

pub returns-in-Some : goal.returns-in-Some
returns-in-Some c =
    let same = ap (λ (o : Option (List Text)). unwrap_or o []) (c.in-Some.ensures ∙ raw_values-rows (found_of c.args.found.now) (codes "directories")) in
    IfOk-weaker c.from_slice.result _ _ (λ v items. rw items same) c.from_slice.ensures.items

pub returns-in-None : goal.returns-in-None
returns-in-None c =
    let same = ap (λ (o : Option (List Text)). unwrap_or o []) (c.in-None.ensures ∙ raw_values-rows (found_of c.args.found.now) (codes "directories")) in
    rw c.new.ensures.items same
