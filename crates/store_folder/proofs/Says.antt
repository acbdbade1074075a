-- What the meta.json of blocks says, while a store is saved.
use Rattle.std.proofs.Common.{◌≡◌, ◌≢◌, ◌+◌, ℕ, zero, suc, Bool, true, false, List, [], ◌∷◌, ◌++◌}
use Rattle.std.proofs.Common.{Option, None, Some, drop, length, refl, subst, sym}
use Rattle.std.proofs.Common.{◌⊎◌, inl, inr, ⊎_elim}
use Rattle.std.specs.Prelude.{◌||◌, codes, decimal, slice_get}
use Rattle.std.specs.List.{AllByRecursion}
use Rattle.std.specs.Str.{bytes_eq}
use Rattle.std.proofs.lemmas.Slice.Eq.{bytes_eq-Decides}
use Rattle.block_folder.specs.declared.values.Values.{Values}
use Rattle.data_folder.specs.Folders.{KeepsOthers}
use Rattle.data_folder.specs.JournalFile.{journal_name, next_name}
use Rattle.data_folder.specs.States.{AreThere, IsApart, Named}
use Rattle.data_folder.specs.Sweeping.{AreAmong, is_among}
use Rattle.head_record.specs.Saved.{Place}
use Rattle.store_folder.specs.Blocks.{name_in}
use Rattle.store_folder.specs.Saving.{AreOf}
use Rattle.store_folder.specs.Sweeps.{names_at, names_of}
use Rattle.store_folder.specs.Writing.{EachSays, Says, places_from, places_with, unfound}
use Rattle.store_folder.proofs.Rolls.{begins_so}
use Rattle.store_folder.proofs.Writes.{among_last, or_first, or_second, says_still}

or_either : (a b : Bool) → (a || b) ≡ true → (a ≡ true) ⊎ (b ≡ true)
or_either true b h = inl refl
or_either false b h = inr h

-- one of names that all have P
of_one : (P : List ℕ → Type 0) (names : List (List ℕ)) (name : List ℕ) → AllByRecursion P names
    → is_among names name ≡ true → P name
of_one P [] name all h = absurd cc
of_one P (other ∷ names) name all h =
    ⊎_elim (λ is. subst P ((bytes_eq-Decides other name).0 is) all.0)
    (λ rest. of_one P names name all.1 rest) (or_either (bytes_eq other name) (is_among names name) h)

-- no file of a block is a journal

abbrev IsNoJournal : List ℕ → Type 0
IsNoJournal name = (name ≢ journal_name) × (name ≢ next_name)

no_journal : (n : ℕ) (name : List ℕ) → IsNoJournal (name_in n name)
no_journal n name =
    let rest = decimal n ++ (codes "/" ++ name) in
    (begins_so rest journal_name refl, begins_so rest next_name refl)

names_apart : (places : List Place) → AllByRecursion IsNoJournal (names_at places)
names_apart [] = tt
names_apart (p ∷ places) = (
  no_journal p.0 (codes "meta.json"),
  (
    no_journal p.0 (codes "index"),
    (
      no_journal p.0 (codes "chunks/000001"),
      (no_journal p.0 (codes "tombstones"), names_apart places),
    ),
  ),
)

pub files_apart : (places : List Place) (files : List Named) → AreAmong (names_at places) files
    → AllByRecursion IsApart files
files_apart places [] among = tt
files_apart places (file ∷ files) among = (
  of_one IsNoJournal (names_at places) file.0 (names_apart places) among.0,
  files_apart places files among.1,
)

-- the files of the blocks that are written are among those of all

-- among names with others in front
is_within : (names rest more : List (List ℕ)) (name : List ℕ)
    → (is_among rest name ≡ true → is_among more name ≡ true)
    → is_among (names ++ rest) name ≡ true → is_among (names ++ more) name ≡ true
is_within [] rest more name in_rest h = in_rest h
is_within (other ∷ names) rest more name in_rest h =
    ⊎_elim (λ is. or_first (bytes_eq other name) (is_among (names ++ more) name) is)
    (λ later. or_second (bytes_eq other name) (is_among (names ++ more) name)
    (is_within names rest more name in_rest later))
    (or_either (bytes_eq other name) (is_among (names ++ rest) name) h)

written_among : {A : Type 0} (next : ℕ) (found : List (Option Place)) (blocks : List A)
    (name : List ℕ)
    → is_among (names_at (places_from next (length (unfound found blocks)))) name ≡ true
    → is_among (names_at (places_with next found (length blocks))) name ≡ true
written_among next [] blocks name h = h
written_among next (x ∷ found) [] name h = h
written_among next (None ∷ found) (b ∷ blocks) name h =
    is_within (names_of (next, 0))
    (names_at (places_from (next + 1) (length (unfound found blocks))))
    (names_at (places_with (next + 1) found (length blocks))) name
    (λ later. written_among (next + 1) found blocks name later) h
written_among next (Some p ∷ found) (b ∷ blocks) name h =
    among_last (names_of p) (names_at (places_with next found (length blocks))) name
    (written_among next found blocks name h)

pub among_all : {A : Type 0} (next : ℕ) (found : List (Option Place)) (blocks : List A)
    (files : List Named) (all : List Place) → all ≡ places_with next found (length blocks)
    → AreAmong (names_at (places_from next (length (unfound found blocks)))) files
    → AreAmong (names_at all) files
among_all next found blocks [] all is among = tt
among_all next found blocks (file ∷ files) all is among = (
  subst (λ (ps : List Place). is_among (names_at ps) file.0 ≡ true) (sym is)
      (written_among next found blocks file.0 among.0),
  among_all next found blocks files all is among.1,
)

module _ {F : Type 0} (shows : F → List ℕ → Option (List ℕ) → Type 0)
    (kept : F → List ℕ → ℕ → Type 0) where
  others_there : (files : List Named) (old new : F) → AllByRecursion IsApart files
      → KeepsOthers shows kept next_name journal_name old new → AreThere shows kept files old
      → AreThere shows kept files new
  others_there [] old new apart k there = tt
  others_there (file ∷ files) old new apart k there = (
    record {
      shown = k.same file.0 (Some file.1) apart.0.1 apart.0.0 there.0.shown;
      durable = k.durable file.0 (length file.1) apart.0.1 apart.0.0 there.0.durable;
    },
    others_there files old new apart.1 k there.1,
  )

  -- the files of blocks stay, where a journal is begun anew
  pub there_beside : (places : List Place) (files : List Named) (old new : F)
      → KeepsOthers shows kept next_name journal_name old new → AreAmong (names_at places) files
      → AreThere shows kept files old → AreThere shows kept files new
  there_beside places files old new k among there =
      others_there files old new (files_apart places files among) k there

  pub says_on : (values : Values) (places : List Place) (f g : F)
      → ((files : List Named) → AreAmong (names_at places) files → AreThere shows kept files f
      → AreThere shows kept files g)
      → EachSays shows kept values places f → EachSays shows kept values places g
  says_on values places f g still says = says_still shows kept values [] places f g still says

  says_at : (values : Values) (i : ℕ) (places : List Place) (p : Place) (f : F)
      → EachSays shows kept values places f → slice_get places i ≡ Some p
      → Says shows kept values f p
  says_at values i [] p f says is = absurd cc
  says_at values zero (q ∷ places) p f says is =
      let same : q ≡ p = cc in
      subst (λ (r : Place). Says shows kept values f r) same says.0
  says_at values (suc i) (q ∷ places) p f says is = says_at values i places p f says.1 is

  says_behind : (values : Values) (n : ℕ) (places : List Place) (f : F)
      → EachSays shows kept values places f → EachSays shows kept values (drop n places) f
  says_behind values zero places f says = says
  says_behind values (suc n) [] f says = tt
  says_behind values (suc n) (p ∷ places) f says = says_behind values n places f says.1

  says_with : {A : Type 0} (values : Values) (next : ℕ) (held : List Place)
      (found : List (Option Place)) (blocks : List A) (f : F) → AreOf held found
      → EachSays shows kept values held f
      → EachSays shows kept values (places_from next (length (unfound found blocks))) f
      → EachSays shows kept values (places_with next found (length blocks)) f
  says_with values next held [] blocks f of says written = written
  says_with values next held (x ∷ found) [] f of says written = tt
  says_with values next held (None ∷ found) (b ∷ blocks) f of says written =
      (written.0, says_with values (next + 1) held found blocks f of says written.1)
  says_with values next held (Some p ∷ found) (b ∷ blocks) f of says written = (
    says_at values of.0 held p f says of.1,
    says_with values next (drop (of.0 + 1) held) found blocks f of.2
        (says_behind values (of.0 + 1) held f says) written,
  )

  -- the blocks that are found among those before, and those that were written
  pub says_saved : {A : Type 0} (values meant : Values) (next : ℕ) (held : List Place)
      (found : List (Option Place)) (blocks : List A) (f g : F) → meant ≡ values
      → AreOf held found
      → ((files : List Named) → AreAmong (names_at held) files → AreThere shows kept files f
      → AreThere shows kept files g)
      → EachSays shows kept values held f
      → EachSays shows kept meant (places_from next (length (unfound found blocks))) g
      → EachSays shows kept values (places_with next found (length blocks)) g
  says_saved values meant next held found blocks f g is of still says written =
      says_with values next held found blocks g of (says_on values held f g still says)
      (subst (λ (v : Values).
      EachSays shows kept v (places_from next (length (unfound found blocks))) g) is written)
