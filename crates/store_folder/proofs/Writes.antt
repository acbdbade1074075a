-- Blocks that are written anew beside a store.
use Rattle.std.proofs.Common.{◌≡◌, ℕ, ◌+◌, zero, suc, Bool, true, false, List, [], ◌∷◌, ◌++◌}
use Rattle.std.proofs.Common.{Option}
use Rattle.std.proofs.Common.{map, length, refl, sym, ap, subst, ◌∙◌, append_assoc, arith}
use Rattle.std.specs.Prelude.{◌||◌, codes}
use Rattle.std.specs.Str.{bytes_eq}
use Rattle.std.proofs.lemmas.List.{map-append}
use Rattle.std.proofs.lemmas.List.Folds.{list_any-append}
use Rattle.std.proofs.lemmas.Slice.Eq.{bytes_eq-Decides}
use Rattle.data_folder.specs.Folders.{HasFile, Left, MayLeaveOf}
use Rattle.data_folder.specs.States.{AreThere, Named}
use Rattle.data_folder.specs.Sweeping.{AreAmong, KeepsStore, is_among}
use Rattle.data_folder.proofs.Sweeps.{of_fewer, then_kept}
use Rattle.head.specs.Heads.{BlockPart}
use Rattle.head_record.specs.Saved.{Place}
use Rattle.store_folder.specs.Blocks.{BlockFiles, name_in, named_files}
use Rattle.store_folder.specs.Holding.{AreAt}
use Rattle.store_folder.specs.Sweeps.{names_at, names_of}
use Rattle.block_folder.specs.declared.values.Values.{Values}
use Rattle.store_folder.specs.Writing.{AreRewritten, EachSays, Says, Wrote, places_from}
use Rattle.store_folder.proofs.Swept.{among_at, at_again}
use Rattle.store_folder.proofs.Rolls.{files_at, joined, there_at}

abbrev names_with : List Named → List (List ℕ)
names_with files = map (λ (file : Named). file.0) files

-- names among names

pub or_second : (b c : Bool) → c ≡ true → (b || c) ≡ true
or_second true c h = refl
or_second false c h = h

pub or_first : (b c : Bool) → b ≡ true → (b || c) ≡ true
or_first true c h = refl
or_first false c h = absurd cc

pub among_last : (before after : List (List ℕ)) (name : List ℕ) → is_among after name ≡ true
    → is_among (before ++ after) name ≡ true
among_last before after name h =
    list_any-append (λ (other : List ℕ). bytes_eq other name) before after
    ∙ or_second (is_among before name) (is_among after name) h

pub each_last : (before after : List (List ℕ)) (files : List Named) → AreAmong after files
    → AreAmong (before ++ after) files
each_last before after [] h = tt
each_last before after (file ∷ files) h =
    (among_last before after file.0 h.0, each_last before after files h.1)

itself : (name : List ℕ) (names : List (List ℕ)) → is_among (name ∷ names) name ≡ true
itself name names =
    or_first (bytes_eq name name) (is_among names name) ((bytes_eq-Decides name name).1 refl)

-- files are among their own names
own_names : (before : List (List ℕ)) (files : List Named)
    → AreAmong (before ++ names_with files) files
own_names before [] = tt
own_names before (file ∷ files) = (
  among_last before (file.0 ∷ names_with files) file.0 (itself file.0 (names_with files)),
  subst (λ (names : List (List ℕ)). AreAmong names files)
      (append_assoc before (file.0 ∷ []) (names_with files))
      (own_names (before ++ file.0 ∷ []) files),
)

module _ {F : Type 0} (shows : F → List ℕ → Option (List ℕ) → Type 0)
    (kept : F → List ℕ → ℕ → Type 0) where
  -- blocks, and others after them
  pub at_joined : (ps qs : List Place) (bs cs : List BlockPart) (f : F)
      → AreAt shows kept ps bs f → AreAt shows kept qs cs f
      → AreAt shows kept (ps ++ qs) (bs ++ cs) f
  at_joined [] qs [] cs f first second = second
  at_joined [] qs (b ∷ bs) cs f first second = absurd first
  at_joined (p ∷ ps) qs [] cs f first second = absurd first
  at_joined (p ∷ ps) qs (b ∷ bs) cs f first second =
      (first.0, at_joined ps qs bs cs f first.1 second)

  -- what the meta.json of blocks says stays, if their files do
  pub says_still : (values : Values) (before : List (List ℕ)) (places : List Place) (f g : F)
      → ((files : List Named) → AreAmong (before ++ names_at places) files
      → AreThere shows kept files f → AreThere shows kept files g)
      → EachSays shows kept values places f → EachSays shows kept values places g
  says_still values before [] f g still says = tt
  says_still values before (p ∷ places) f g still says =
      let name = name_in p.0 (codes "meta.json") in
      let rest : List (List ℕ) =
      name_in p.0 (codes "index") ∷ name_in p.0 (codes "chunks/000001")
      ∷ name_in p.0 (codes "tombstones") ∷ names_at places in
      let file : Named = (name, says.0.0) in
      let among : AreAmong (before ++ (name ∷ rest)) (file ∷ []) =
      (among_last before (name ∷ rest) name (itself name rest), tt) in
      let there = still (file ∷ []) among (says.0.1, tt) in (
        (says.0.0, there.0, says.0.2),
        says_still values (before ++ names_of p) places f g
            (subst (λ (names : List (List ℕ)). (files : List Named) → AreAmong names files
            → AreThere shows kept files f → AreThere shows kept files g)
            (sym (append_assoc before (names_of p) (names_at places))) still) says.1,
      )

module _ {F : Type 0} (shows : F → List ℕ → Option (List ℕ) → Type 0)
    (kept : F → List ℕ → ℕ → Type 0) (sound : F → Bool) (moment : F → ℕ)
    (left_since : F → ℕ → Left → Type 0)
    (only_now : (f : F) (name : List ℕ) (x : Option (List ℕ)) (n : ℕ) (left : Left) → shows f name x
    → kept f name n → left_since f (moment f) left → MayLeaveOf n x (left name)) where
  abbrev pub Stays : List (List ℕ) → F → F → Type 0
  Stays names old new = KeepsStore shows kept sound moment left_since names old new

  abbrev pub Writes : List Named → List (List ℕ) → List (List ℕ) → F → F → Type 0
  Writes files before after old new =
      Wrote shows kept sound moment left_since files before after old new

  pub one_wrote : (name path bytes : List ℕ) (before after : List (List ℕ)) (old new : F)
      → path ≡ name → HasFile shows kept path bytes new → after ≡ before ++ path ∷ []
      → Stays before old new → Writes ((name, bytes) ∷ []) before after old new
  one_wrote name path bytes before after old new is has next stays = record {
    there = (subst (λ (n : List ℕ). HasFile shows kept n bytes new) is has, tt);
    names = next ∙ ap (λ (n : List ℕ). before ++ n ∷ []) is;
    stays = stays;
  }

  -- the same bytes
  pub wrote_same : (name a b : List ℕ) (before after : List (List ℕ)) (old new : F) → a ≡ b
      → Writes ((name, a) ∷ []) before after old new → Writes ((name, b) ∷ []) before after old new
  wrote_same name a b before after old new is w =
      subst (λ (bytes : List ℕ). Writes ((name, bytes) ∷ []) before after old new) is w

  -- what keeps more names, after what keeps some
  pub more_stays : (before after more : List (List ℕ)) (a b c : F) → after ≡ before ++ more
      → Stays before a b → Stays after b c → Stays before a c
  more_stays before after more a b c is first second =
      then_kept shows kept sound moment left_since only_now before a b c first
      (of_fewer shows kept sound moment left_since only_now before more b c
      (subst (λ (names : List (List ℕ)). Stays names b c) is second))

  -- files, and then what keeps their names too
  pub still : (files : List Named) (before mid : List (List ℕ)) (a b c : F)
      → Writes files before mid a b → Stays mid b c → Stays before a c
  still files before mid a b c first second =
      more_stays before mid (names_with files) a b c first.names first.stays second

  -- files, and then others
  pub then_wrote : (xs ys : List Named) (before mid after : List (List ℕ)) (a b c : F)
      → Writes xs before mid a b → Writes ys mid after b c → Writes (xs ++ ys) before after a c
  then_wrote xs ys before mid after a b c first second = record {
    there = joined (λ (file : Named). HasFile shows kept file.0 file.1 c) xs ys
        (second.stays.files xs
        (subst (λ (names : List (List ℕ)). AreAmong names xs) (sym first.names)
        (own_names before xs)) first.there) second.there;
    names = second.names
        ∙ ap (λ (names : List (List ℕ)). names ++ names_with ys) first.names
        ∙ append_assoc before (names_with xs) (names_with ys)
        ∙ ap (λ (names : List (List ℕ)). before ++ names)
        (sym (map-append (λ (file : Named). file.0) xs ys));
    stays = still xs before mid a b c first second.stays;
  }

  -- the files of a block, one after another
  pub four_wrote : (n : ℕ) (files : BlockFiles) (meta index chunks tombstones : List ℕ)
      (k l m o p : List (List ℕ)) (a b c d e : F) → meta ≡ files.meta → index ≡ files.index
      → chunks ≡ files.chunks → tombstones ≡ files.tombstones
      → Writes ((name_in n (codes "meta.json"), meta) ∷ []) k l a b
      → Writes ((name_in n (codes "index"), index) ∷ []) l m b c
      → Writes ((name_in n (codes "chunks/000001"), chunks) ∷ []) m o c d
      → Writes ((name_in n (codes "tombstones"), tombstones) ∷ []) o p d e
      → Writes (named_files (n, 0) files) k p a e
  four_wrote n files meta index chunks tombstones k l m o p a b c d e i j q r one two three four =
      let first : Named = (name_in n (codes "meta.json"), files.meta) in
      let second : Named = (name_in n (codes "index"), files.index) in
      let third : Named = (name_in n (codes "chunks/000001"), files.chunks) in
      let fourth : Named = (name_in n (codes "tombstones"), files.tombstones) in
      then_wrote (first ∷ []) (second ∷ third ∷ fourth ∷ []) k l p a b e
      (wrote_same first.0 meta files.meta k l a b i one)
      (then_wrote (second ∷ []) (third ∷ fourth ∷ []) l m p b c e
      (wrote_same second.0 index files.index l m b c j two)
      (then_wrote (third ∷ []) (fourth ∷ []) m o p c d e
      (wrote_same third.0 chunks files.chunks m o c d q three)
      (wrote_same fourth.0 tombstones files.tombstones o p d e r four)))

  -- what the meta.json of blocks says stays, if their names are kept; so it is with one block more
  pub says_more : (values : Values) (before names : List (List ℕ)) (places next : List Place)
      (p : Place) (f g : F) → names ≡ before ++ names_at places → Stays names f g
      → next ≡ places ++ p ∷ [] → EachSays shows kept values places f
      → Says shows kept values g p → EachSays shows kept values next g
  says_more values before names places next p f g is stays more says one =
      subst (λ (ps : List Place). EachSays shows kept values ps g) (sym more)
      (joined (λ (q : Place). Says shows kept values g q) places (p ∷ [])
      (says_still shows kept values before places f g
      (subst (λ (ns : List (List ℕ)). Stays ns f g) is stays).files says) (one, tt))

  -- blocks stay, whose names are kept
  pub at_stays : (places : List Place) (parts : List BlockPart) (names : List (List ℕ)) (f g : F)
      → ((files : List Named) → AreAmong (names_at places) files → AreAmong names files)
      → Stays names f g → AreAt shows kept places parts f → AreAt shows kept places parts g
  at_stays places parts names f g among stays at =
      let files = files_at shows kept places parts f at in
      at_again shows kept places parts f g at
      (stays.files files (among files (among_at shows kept places parts f at))
      (there_at shows kept places parts f at))

pub names_joined : (ps qs : List Place) → names_at (ps ++ qs) ≡ names_at ps ++ names_at qs
names_joined [] qs = refl
names_joined (p ∷ ps) qs =
    ap (λ (names : List (List ℕ)). names_of p ++ names) (names_joined ps qs)
    ∙ sym (append_assoc (names_of p) (names_at ps) (names_at qs))

-- blocks written anew, and one more

pub rewritten_joined : (a b c d : List BlockPart) → AreRewritten a b → AreRewritten c d
    → AreRewritten (a ++ c) (b ++ d)
rewritten_joined [] [] c d first second = second
rewritten_joined [] (y ∷ b) c d first second = absurd first
rewritten_joined (x ∷ a) [] c d first second = absurd first
rewritten_joined (x ∷ a) (y ∷ b) c d first second =
    (first.0, rewritten_joined a b c d first.1 second)

pub places_more : (n i : ℕ) → places_from n (i + 1) ≡ places_from n i ++ (n + i, 0) ∷ []
places_more n zero =
    let e : n ≡ n + 0 = omega arith in ap (λ (k : ℕ). (k, 0) ∷ []) e
places_more n (suc i) =
    let e : suc i + 1 ≡ suc (i + 1) = omega arith in
    let f : n + 1 + i ≡ n + suc i = omega arith in
    ap (places_from n) e
    ∙ ap (λ (ps : List Place). (n, 0) ∷ ps) (places_more (n + 1) i
    ∙ ap (λ (k : ℕ). places_from (n + 1) i ++ (k, 0) ∷ []) f)

pub length_places : (n i : ℕ) → length (places_from n i) ≡ i
length_places n zero = refl
length_places n (suc i) = ap suc (length_places (n + 1) i)
