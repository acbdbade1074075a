-- What is known of the directories so far, and of one more; and which directory is the first at fault.
use Rattle.std.proofs.Common.{◌≡◌, ℕ, ◌+◌, ◌<◌, List, [], ◌∷◌, ◌++◌, sym, ap, subst, ◌∙◌, take, drop, length, get_or, Bor}
use Rattle.std.specs.List.{AllZip}
use Rattle.std.proofs.lemmas.List.{length-map, take-map, take-append-drop, map_more, drop_more, get_or-map}
use Rattle.auditor.specs.declared.judgement.BlockTable.{BlockTable}
use Rattle.audit_command.specs.Reading.{Host, IsReadingFault, paths_of}
use Rattle.audit_command.specs.Walking.{IsTableAt, AreTablesAt, IsFaultAt, IsFirstFault}
use Rattle.audit_command.specs.declared.fault.Fault.{Fault}
use Rattle.audit_command.specs.declared.fault.Fault.TheVariants.{Words, Refused, CannotReadInput, BadReply, CannotRead, CannotWrite, Memory}

AllZip_more : {A B : Type 0} (R : A → B → Type 0) (xs : List A) (ys : List B) (x : A) (y : B) → AllZip R xs ys → R x y → AllZip R (xs ++ x ∷ []) (ys ++ y ∷ [])
AllZip_more R [] [] x y all one = (one, tt)
AllZip_more R [] (w ∷ ys) x y all one = absurd all
AllZip_more R (z ∷ xs) [] x y all one = absurd all
AllZip_more R (z ∷ xs) (w ∷ ys) x y all one = (all.0, AllZip_more R xs ys x y all.1 one)

module _ (reads : Host) (texts : List (Bor (List ℕ))) (i : ℕ) (d : Bor (List ℕ)) (tables : List BlockTable) (within : i < length texts)
    (known : AreTablesAt reads (take i (paths_of texts)) tables) where
  more_paths : take (i + 1) (paths_of texts) ≡ take i (paths_of texts) ++ (get_or texts i d).now ∷ []
  more_paths =
      take-map (λ (text : Bor (List ℕ)). text.now) (i + 1) texts
      ∙ map_more (λ (text : Bor (List ℕ)). text.now) texts i d within
      ∙ ap (λ (l : List (List ℕ)). l ++ (get_or texts i d).now ∷ []) (sym (take-map (λ (text : Bor (List ℕ)). text.now) i texts))

  parts_of_paths : paths_of texts ≡ take i (paths_of texts) ++ (get_or texts i d).now ∷ drop (i + 1) (paths_of texts)
  parts_of_paths =
      let inside : i < length (paths_of texts) = subst (λ (n : ℕ). i < n) (sym (length-map texts (λ (text : Bor (List ℕ)). text.now))) within in
      sym (take-append-drop i (paths_of texts))
      ∙ ap (λ (l : List (List ℕ)). take i (paths_of texts) ++ l)
      (drop_more (paths_of texts) i d.now inside
      ∙ ap (λ (x : List ℕ). x ∷ drop (i + 1) (paths_of texts)) (get_or-map (λ (text : Bor (List ℕ)). text.now) texts i d d.now within))

  -- one more directory is known
  pub one_more : (table : BlockTable) → IsTableAt reads (get_or texts i d).now table → AreTablesAt reads (take (i + 1) (paths_of texts)) (tables ++ table ∷ [])
  one_more table one =
      rw more_paths (AllZip_more (IsTableAt reads) (take i (paths_of texts)) tables (get_or texts i d).now table known one)

  fault_at : (fault : Fault) → IsReadingFault reads (get_or texts i d).now fault → IsFaultAt reads (paths_of texts) fault
  fault_at fault h = record {
    before = take i (paths_of texts);
    directory = (get_or texts i d).now;
    after = drop (i + 1) (paths_of texts);
    order = parts_of_paths;
    tables = tables;
    known = known;
    at = h;
  }

  -- the next of the directories is the first at fault
  pub first_fault : (fault : Fault) → IsReadingFault reads (get_or texts i d).now fault → IsFirstFault reads (paths_of texts) fault
  first_fault (CannotRead path) h = fault_at (CannotRead path) h
  first_fault Memory h = tt
  first_fault CannotWrite h = h
  first_fault CannotReadInput h = h
  first_fault BadReply h = h
  first_fault (Words error) h = h
  first_fault (Refused refusal) h = h
