-- Directories as bytes, one by one.
use Rattle.std.proofs.Common.{◌≡◌, ℕ, ◌+◌, ◌<◌, List, [], ◌∷◌, ◌++◌, sym, ap, subst, ◌∙◌, take}
use Rattle.std.proofs.Common.{drop, length, get_or, Bor}
use Rattle.std.proofs.lemmas.List.{length-map, take-map, take-append-drop, map_more, drop_more}
use Rattle.std.proofs.lemmas.List.{get_or-map}
use Rattle.commands.specs.Reading.{paths_of}

pub paths_of_more : (texts : List (Bor (List ℕ))) (i : ℕ) (d : Bor (List ℕ)) → i < length texts
    → take (i + 1) (paths_of texts) ≡ take i (paths_of texts) ++ (get_or texts i d).now ∷ []
paths_of_more texts i d h =
    take-map (λ (text : Bor (List ℕ)). text.now) (i + 1) texts
    ∙ map_more (λ (text : Bor (List ℕ)). text.now) texts i d h
    ∙ ap (λ (l : List (List ℕ)). l ++ (get_or texts i d).now ∷ [])
    (sym (take-map (λ (text : Bor (List ℕ)). text.now) i texts))

pub parts_of_paths : (texts : List (Bor (List ℕ))) (i : ℕ) (d : Bor (List ℕ)) → i < length texts
    → paths_of texts
    ≡ take i (paths_of texts) ++ (get_or texts i d).now ∷ drop (i + 1) (paths_of texts)
parts_of_paths texts i d h =
    let within : i < length (paths_of texts) =
    subst (λ (n : ℕ). i < n) (sym (length-map texts (λ (text : Bor (List ℕ)). text.now))) h in
    sym (take-append-drop i (paths_of texts))
    ∙ ap (λ (l : List (List ℕ)). take i (paths_of texts) ++ l)
    (drop_more (paths_of texts) i d.now within
    ∙ ap (λ (x : List ℕ). x ∷ drop (i + 1) (paths_of texts))
    (get_or-map (λ (text : Bor (List ℕ)). text.now) texts i d d.now h))
