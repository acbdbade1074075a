use Rattle.std.proofs.Common.{◌≡◌, ℕ, List, [], ◌∷◌, ◌++◌, length, ap, ◌∙◌, string_bytes}
use Rattle.std.specs.Str.{IsUtf8}
use Rattle.std.proofs.lemmas.Result.{err_from_is_err_and}
use Rattle.labels.specs.declared.text.Place.{Place}
use Rattle.labels.specs.Places.{pairs_at, AllPlaced}
use Rattle.labels.proofs.Growth.{all_grown, pairs_grown, pairs_added, all_added}
use Rattle.labels.proofs.text.Pairs.push.Goals as goal

pub invariant_of-self-in_err-push_str-2 : goal.invariant_of-self-in_err-push_str-2
invariant_of-self-in_err-push_str-2 c = rw (c.in_err-push_str-2.ensures.bytes, c.in_ok-push_str.ensures.bytes) (all_grown _ _ _ c.utf8.name c.self.invariant)

pub returns-in_err-push_str-2-clause-err : goal.returns-in_err-push_str-2-clause-err
returns-in_err-push_str-2-clause-err c =
    let p = err_from_is_err_and c.from_residual-in_err-push_str-2.result c.from_residual-in_err-push_str-2.ensures.1 in
    rw (p.1, c.in_err-push_str-2.ensures.bytes, c.in_ok-push_str.ensures.bytes) (pairs_grown _ _ _ c.self.invariant ∙ c.self.view_is)

twice_grown : (text name value : List ℕ) (ps : List Place) → IsUtf8 name → IsUtf8 value → AllPlaced text ps → AllPlaced ((text ++ name) ++ value) ps
twice_grown text name value ps n v h = all_grown (text ++ name) value ps v (all_grown text name ps n h)

twice_same : (text name value : List ℕ) (ps : List Place) → IsUtf8 name → AllPlaced text ps → pairs_at ((text ++ name) ++ value) ps ≡ pairs_at text ps
twice_same text name value ps n h = pairs_grown (text ++ name) value ps (all_grown text name ps n h) ∙ pairs_grown text name ps h

pub invariant_of-self-in_err-push : goal.invariant_of-self-in_err-push
invariant_of-self-in_err-push c = rw (c.in_err-push.ensures.items, c.in_ok-push_str-2.ensures.bytes, c.in_ok-push_str.ensures.bytes) (twice_grown _ _ _ _ c.utf8.name c.utf8.value c.self.invariant)

pub returns-in_err-push-clause-err : goal.returns-in_err-push-clause-err
returns-in_err-push-clause-err c =
    let p = err_from_is_err_and c.from_residual-in_err-push.result c.from_residual-in_err-push.ensures.1 in
    rw (p.1, c.in_err-push.ensures.items, c.in_ok-push_str-2.ensures.bytes, c.in_ok-push_str.ensures.bytes) (twice_same _ _ _ _ c.utf8.name c.self.invariant ∙ c.self.view_is)

pub invariant_of-self-2 : goal.invariant_of-self-2
invariant_of-self-2 c =
    rw (c.in_ok-push.ensures.items, c.in_ok-push_str-2.ensures.bytes, c.in_ok-push_str.ensures.bytes)
    (all_added (string_bytes c.self.inside.text) c.args.name.now c.args.value.now c.self.inside.places.items _ c.utf8.name c.utf8.value c.self.invariant
    c.len_of-start.ensures
    (c.len_of-middle.ensures ∙ ap length c.in_ok-push_str.ensures.bytes)
    (c.len_of-end.ensures ∙ ap length (c.in_ok-push_str-2.ensures.bytes ∙ ap (λ (t : List ℕ). t ++ c.args.value.now) c.in_ok-push_str.ensures.bytes)))

pub returns-clause-ok : goal.returns-clause-ok
returns-clause-ok c =
    rw (c.in_ok-push.ensures.items, c.in_ok-push_str-2.ensures.bytes, c.in_ok-push_str.ensures.bytes)
    (pairs_added (string_bytes c.self.inside.text) c.args.name.now c.args.value.now c.self.inside.places.items _ c.self.invariant
    c.len_of-start.ensures
    (c.len_of-middle.ensures ∙ ap length c.in_ok-push_str.ensures.bytes)
    (c.len_of-end.ensures ∙ ap length (c.in_ok-push_str-2.ensures.bytes ∙ ap (λ (t : List ℕ). t ++ c.args.value.now) c.in_ok-push_str.ensures.bytes))
    ∙ ap (λ (ps : List (List ℕ × List ℕ)). ps ++ (c.args.name.now, c.args.value.now) ∷ []) c.self.view_is)
