-- What a start finds of a store.
use Rattle.std.specs.Prelude.{◌≡◌, ◌≢◌, ◌+◌, ℕ, ℤ, List, [], ◌∷◌, ◌++◌, Option, Some, Result, Ok}
use Rattle.std.specs.Prelude.{Err, codes, decimal, length, refl}
use Rattle.std.proofs.Common.{get_or, sym, ap, subst, subst₂, ◌∙◌, arith}
use Rattle.std.specs.List.{AllByRecursion}
use Rattle.std.proofs.lemmas.List.{append-nil, take_all}
use Rattle.wire.specs.Spelling.{IsBytes}
use Rattle.block.specs.declared.error.BlockError.{BlockError}
use Rattle.block.specs.Blocks.{Shown}
use Rattle.block.specs.Grammar.{IsBlock}
use Rattle.block.proofs.Only.{block_again}
use Rattle.data_folder.specs.Folders.{Left, MayLeaveOf}
use Rattle.data_folder.specs.JournalFile.{journal_name}
use Rattle.data_folder.specs.States.{AreThere, HasFiles, Named}
use Rattle.event_journal.specs.FindingLaws.{one_list}
use Rattle.event_journal.specs.Holding.{Stands}
use Rattle.head.specs.Heads.{BlockPart, world_of}
use Rattle.head.specs.Refusals.{Refusal}
use Rattle.head.specs.Resuming.{MayStand}
use Rattle.head.specs.Worlds.{Event, World, replayed, replayed_from, stepped}
use Rattle.head_record.specs.declared.error.RefusedHead.{RefusedHead}
use Rattle.head_record.specs.Reading.{head_of}
use Rattle.head_record.specs.Saved.{Place, Saved}
use Rattle.head_record.specs.Spelling.{head_texts, IsSaved}
use Rattle.head_record.proofs.Contents.{head_read}
use Rattle.head_record.proofs.Worlds.{in_front}
use Rattle.labels.specs.Parts.{Part}
use Rattle.store_folder.specs.Blocks.{BlockFiles, SpellBlock, named_files}
use Rattle.store_folder.specs.Holding.{AreAt}
use Rattle.store_folder.specs.Origins.{Origin}
use Rattle.store_folder.specs.States.{AreBytes, HasWorld, IsState, LieAt, MayStart, Means}
use Rattle.store_folder.specs.States.{StandsFor, StartsWith, started}

abbrev some : List ℕ → Option (List ℕ)
some x = Some x

same_bytes : (a b : List ℕ) → some a ≡ Some b → a ≡ b
same_bytes a b e = cc

abbrev Times : Type 0
Times = ℤ × ℤ

abbrev said : Times → Option Times
said x = Some x

same_times : (a b : Times) → said a ≡ Some b → a ≡ b
same_times a b e = cc

-- files spell one block

abbrev opened : Shown → Result Shown BlockError
opened b = Ok b

same_shown : (a b : Shown) → opened a ≡ Ok b → a ≡ b
same_shown a b e = cc

one_part : (range : Times) (index chunks tombstones : List ℕ) (p q : Part) → IsBytes index
    → IsBytes tombstones → IsBlock range index chunks tombstones p
    → IsBlock range index chunks tombstones q → p ≡ q
one_part range index chunks tombstones p q fits deleted x y =
    let a = block_again range index chunks tombstones p fits deleted x in
    let b = block_again range index chunks tombstones q fits deleted y in
    sym a.2 ∙ (ap (λ (s : Shown). s.part) (same_shown a.0 b.0 (sym a.1 ∙ b.1)) ∙ b.2)

abbrev times_of : BlockPart → Times
times_of b = (b.min, b.max)

abbrev part_with : Times → Part → BlockPart
part_with range part = record { min = range.0; max = range.1; part = part }

one_block : (files : BlockFiles) (b c : BlockPart) → IsBytes files.index
    → IsBytes files.tombstones → SpellBlock files b → SpellBlock files c → b ≡ c
one_block files b c fits deleted x y =
    let range : times_of b ≡ times_of c =
    same_times (times_of b) (times_of c) (sym x.range ∙ y.range) in
    let spelled : IsBlock (times_of c) files.index files.chunks files.tombstones b.part =
    subst (λ (r : Times). IsBlock r files.index files.chunks files.tombstones b.part) range
    x.block in
    ap (λ (r : Times). part_with r b.part) range
    ∙ ap (part_with (times_of c)) (one_part (times_of c) files.index files.chunks files.tombstones
    b.part c.part fits deleted spelled y.block)

abbrev files_with : List ℕ → List ℕ → List ℕ → List ℕ → BlockFiles
files_with meta index chunks tombstones =
    record { meta = meta; index = index; chunks = chunks; tombstones = tombstones }

-- under the names of a place lie the files of one block
same_files : (p : Place) (f g : BlockFiles) (left : Left) → HasFiles (named_files p f) left
    → HasFiles (named_files p g) left → f ≡ g
same_files p f g left h i =
    let meta = same_bytes f.meta g.meta (sym h.0 ∙ i.0) in
    let index = same_bytes f.index g.index (sym h.1.0 ∙ i.1.0) in
    let chunks = same_bytes f.chunks g.chunks (sym h.1.1.0 ∙ i.1.1.0) in
    let tombstones = same_bytes f.tombstones g.tombstones (sym h.1.1.1.0 ∙ i.1.1.1.0) in
    ap (λ (x : List ℕ). files_with x f.index f.chunks f.tombstones) meta
    ∙ (ap (λ (x : List ℕ). files_with g.meta x f.chunks f.tombstones) index
    ∙ (ap (λ (x : List ℕ). files_with g.meta g.index x f.tombstones) chunks
    ∙ ap (files_with g.meta g.index g.chunks) tombstones))

pub same_parts : (places : List Place) (a b : List BlockPart) (left : Left) → AreBytes left
    → LieAt places a left → LieAt places b left → a ≡ b
same_parts [] [] [] left fits h i = refl
same_parts [] [] (y ∷ b) left fits h i = absurd i
same_parts [] (x ∷ a) b left fits h i = absurd h
same_parts (p ∷ places) [] b left fits h i = absurd h
same_parts (p ∷ places) (x ∷ a) [] left fits h i = absurd i
same_parts (p ∷ places) (x ∷ a) (y ∷ b) left fits h i =
    let f = h.0.0 in
    let g = i.0.0 in
    let same : f ≡ g = same_files p f g left h.0.2 i.0.2 in
    let spelled : SpellBlock f y = subst (λ (z : BlockFiles). SpellBlock z y) (sym same) i.0.1 in
    let index : IsBytes f.index = fits _ f.index h.0.2.1.0 in
    let deleted : IsBytes f.tombstones = fits _ f.tombstones h.0.2.1.1.1.0 in
    ap (λ (z : BlockPart). z ∷ a) (one_block f x y index deleted h.0.1 spelled)
    ∙ ap (λ (zs : List BlockPart). y ∷ zs) (same_parts places a b left fits h.1 i.1)

-- contents begin with one head

abbrev read : Saved × ℕ → Result (Saved × ℕ) RefusedHead
read x = Ok x

same_read : (x y : Saved × ℕ) → read x ≡ Ok y → x ≡ y
same_read x y e = cc

head_alone : (saved : Saved) → IsSaved saved
    → head_of (head_texts saved) ≡ Ok (saved, length saved.head + 1)
head_alone saved h =
    ap head_of (sym (append-nil (head_texts saved))) ∙ head_read saved [] h

pub one_head : (a b : Saved) → IsSaved a → IsSaved b → head_texts a ≡ head_texts b → a ≡ b
one_head a b h i e =
    ap (λ (x : Saved × ℕ). x.0)
    (same_read (a, length a.head + 1) (b, length b.head + 1)
    (sym (head_alone a h) ∙ (ap head_of e ∙ head_alone b i)))

-- worlds

abbrev fine : World → Result World Refusal
fine w = Ok w

same_world : (a b : World) → fine a ≡ Ok b → a ≡ b
same_world a b e = cc

joined_from : (r : Result World Refusal) (early late : List Event) (v w : World)
    → replayed_from r early ≡ Ok v → replayed v late ≡ Ok w → replayed_from r (early ++ late) ≡ Ok w
joined_from (Ok u) [] late v w one two =
    ap (λ (x : World). replayed x late) (same_world u v one) ∙ two
joined_from (Err f) [] late v w one two = absurd cc
joined_from (Ok u) (e ∷ early) late v w one two =
    joined_from (stepped u e) early late v w one two
joined_from (Err f) (e ∷ early) late v w one two = absurd cc

-- A start finds the world of the early events, and of those that stand after the head.
pub found_store : (first w : World) (saved : Saved) (parts : List BlockPart)
    (early late : List Event) (bytes : List ℕ) (left : Left) → IsSaved saved
    → replayed first early ≡ Ok (world_of (started saved parts))
    → LieAt saved.places parts left → left journal_name ≡ Some bytes
    → Stands (head_texts saved) bytes late → StartsWith left w
    → replayed first (early ++ late) ≡ Ok w
found_store first w saved parts early late bytes left head begins lie has stands found =
    let fits = found.0 in
    let other = found.1.0 in
    let others = found.1.1 in
    let events = found.1.2 in
    let state = found.1.3 in
    let world : HasWorld other others events w = found.1.4 in
    let file = state.kept.journal.0 in
    let same : file ≡ bytes = same_bytes file bytes (sym state.kept.journal.1 ∙ has) in
    let again : Stands (head_texts other) bytes events =
    subst (λ (x : List ℕ). Stands (head_texts other) x events) same (record {
      before = in_front other;
      contents = state.kept.contents;
      names = state.kept.names;
      spell = state.kept.spell;
      recovers = state.kept.journal.2;
    }) in
    let one = one_list bytes (head_texts saved) (head_texts other) late events
    (fits journal_name bytes has) stands again in
    let is_head : other ≡ saved = sym (one_head saved other head state.head one.0) in
    let lie_too : LieAt saved.places others left =
    subst (λ (x : Saved). LieAt x.places others left) is_head state.blocks in
    let is_parts : others ≡ parts =
    same_parts saved.places others parts left fits lie_too lie in
    let here : replayed (world_of (started saved parts)) late ≡ Ok w =
    ap (λ (xs : List Event). replayed (world_of (started saved parts)) xs) one.1
    ∙ (ap (λ (ps : List BlockPart). replayed (world_of (started saved ps)) events) (sym is_parts)
    ∙ (ap (λ (x : Saved). replayed (world_of (started x others)) events) (sym is_head)
    ∙ world)) in
    joined_from (Ok first) early late (world_of (started saved parts)) w begins here

-- the late events lead from the world of the early ones to the world of all

later_from : (r : Result World Refusal) (early late : List Event) (v w : World)
    → replayed_from r early ≡ Ok v → replayed_from r (early ++ late) ≡ Ok w
    → replayed v late ≡ Ok w
later_from r [] late v w one all =
    subst (λ (x : Result World Refusal). replayed_from x late ≡ Ok w) one all
later_from (Ok u) (e ∷ early) late v w one all = later_from (stepped u e) early late v w one all
later_from (Err f) (e ∷ early) late v w one all = absurd cc

pub later : (first : World) (early late : List Event) (v w : World)
    → replayed first early ≡ Ok v → replayed first (early ++ late) ≡ Ok w
    → replayed v late ≡ Ok w
later first early late v w one all = later_from (Ok first) early late v w one all

-- of a store that is left, a start finds the world of the early events and of those after the head
pub found_here : (first w : World) (saved : Saved) (parts : List BlockPart)
    (early late : List Event) (left : Left)
    → replayed first early ≡ Ok (world_of (started saved parts)) → IsState saved parts late left
    → StartsWith left w → replayed first (early ++ late) ≡ Ok w
found_here first w saved parts early late left begins state found =
    found_store first w saved parts early late state.kept.journal.0 left state.head begins
    state.blocks state.kept.journal.1 (record {
      before = in_front saved;
      contents = state.kept.contents;
      names = state.kept.names;
      spell = state.kept.spell;
      recovers = state.kept.journal.2;
    }) found

-- so it finds one world
pub one_world : (left : Left) (v w : World) → StartsWith left v → StartsWith left w → v ≡ w
one_world left v w one two =
    let first = world_of (started one.1.0 one.1.1) in
    let mine : replayed first one.1.2 ≡ Ok v = one.1.4 in
    same_world v w (sym mine
    ∙ found_here first w one.1.0 one.1.1 [] one.1.2 left refl one.1.3 two)

-- what is left has one head
pub one_saved : (a b : Saved) (parts others : List BlockPart) (early late : List Event)
    (left : Left) → AreBytes left → IsState a parts early left → IsState b others late left → b ≡ a
one_saved a b parts others early late left fits one two =
    let bytes = one.kept.journal.0 in
    let file = two.kept.journal.0 in
    let same : file ≡ bytes = same_bytes file bytes (sym two.kept.journal.1 ∙ one.kept.journal.1) in
    let again : Stands (head_texts b) bytes late =
    subst (λ (x : List ℕ). Stands (head_texts b) x late) same (record {
      before = in_front b;
      contents = two.kept.contents;
      names = two.kept.names;
      spell = two.kept.spell;
      recovers = two.kept.journal.2;
    }) in
    let here : Stands (head_texts a) bytes early = record {
      before = in_front a;
      contents = one.kept.contents;
      names = one.kept.names;
      spell = one.kept.spell;
      recovers = one.kept.journal.2;
    } in
    let front = one_list bytes (head_texts a) (head_texts b) early late
    (fits journal_name bytes one.kept.journal.1) here again in
    sym (one_head a b one.head two.head front.0)

-- and one list of blocks
one_parts : (a b : Saved) (parts others : List BlockPart) (early late : List Event) (left : Left)
    → AreBytes left → IsState a parts early left → IsState b others late left → others ≡ parts
one_parts a b parts others early late left fits one two =
    let same = one_saved a b parts others early late left fits one two in
    same_parts a.places others parts left fits
    (subst (λ (x : Saved). LieAt x.places others left) same two.blocks) one.blocks

-- so a start takes it, if it takes this head and these blocks
pub may_start : (saved : Saved) (parts : List BlockPart) (events : List Event) (left : Left)
    → IsState saved parts events left → MayStand (started saved parts) → MayStart left
may_start saved parts events left state may fits other others late found =
    subst₂ (λ (x : Saved) (ps : List BlockPart). MayStand (started x ps))
    (sym (one_saved saved other parts others events late left fits state found))
    (sym (one_parts saved other parts others events late left fits state found)) may

-- so the values mean what they meant from the first
pub one_meaning : (first : Origin) (events : List Event) (left : Left)
    → StandsFor first events left → Means first.values left
one_meaning first events left s fits saved parts late state =
    ap (λ (x : Saved). x.values)
    (one_saved s.saved saved s.parts parts s.late late left fits s.state state)
    ∙ s.begins.values

-- files that are there for good are left

pub whole_left : (bytes : List ℕ) (found : Option (List ℕ))
    → MayLeaveOf (length bytes) (Some bytes) found → found ≡ Some bytes
whole_left bytes found m =
    m.1 ∙ ap (λ (x : List ℕ). Some x) (m.2.front ∙ take_all m.2.n bytes m.2.kept)

not_the_journal : (rest : List ℕ) → codes "blocks/" ++ rest ≢ journal_name
not_the_journal rest e =
    absurd (let n : 98 ≡ 106 = ap (λ (xs : List ℕ). get_or xs 0 0) e in omega (arith, n))

-- no file of a block is the journal

abbrev AreBeside : List Named → Type 0
AreBeside files = AllByRecursion (λ (file : Named). file.0 ≢ journal_name) files

not_one : (p : Place) (files : BlockFiles) → AreBeside (named_files p files)
not_one p files =
    let of = λ (name : List ℕ). decimal p.0 ++ (codes "/" ++ name) in (
      not_the_journal (of (codes "meta.json")),
      (
        not_the_journal (of (codes "index")),
        (
          not_the_journal (of (codes "chunks/000001")),
          (not_the_journal (of (codes "tombstones")), tt),
        ),
      ),
    )

module _ {F : Type 0} (shows : F → List ℕ → Option (List ℕ) → Type 0)
    (kept : F → List ℕ → ℕ → Type 0) where
  each_left : (files : List Named) (f : F) (left : Left) → AreBeside files
      → AreThere shows kept files f
      → ((n : List ℕ) (x : Option (List ℕ)) (k : ℕ) → n ≢ journal_name → shows f n x → kept f n k
      → MayLeaveOf k x (left n)) → HasFiles files left
  each_left [] f left away there may = tt
  each_left (file ∷ files) f left away there may = (
    whole_left file.1 (left file.0)
        (may file.0 (Some file.1) (length file.1) away.0 there.0.shown there.0.durable),
    each_left files f left away.1 there.1 may,
  )

  -- the files of blocks are left, by what a crash may leave beside the journal
  pub blocks_left : (places : List Place) (parts : List BlockPart) (f : F) (left : Left)
      → AreAt shows kept places parts f
      → ((n : List ℕ) (x : Option (List ℕ)) (k : ℕ) → n ≢ journal_name → shows f n x → kept f n k
      → MayLeaveOf k x (left n)) → LieAt places parts left
  blocks_left [] [] f left at may = tt
  blocks_left [] (b ∷ parts) f left at may = absurd at
  blocks_left (p ∷ places) [] f left at may = absurd at
  blocks_left (p ∷ places) (b ∷ parts) f left at may =
      let g = at.0.0 in
      let there = at.0.2 in (
        (
          g,
          at.0.1,
          each_left (named_files p g) f left (not_one p g) there may,
        ),
        blocks_left places parts f left at.1 may,
      )

  -- the files of blocks stay, where names other than the journal's do
  each_stays : (files : List Named) (f g : F) → AreBeside files → AreThere shows kept files f
      → ((n : List ℕ) (x : Option (List ℕ)) → n ≢ journal_name → shows f n x → shows g n x)
      → ((n : List ℕ) (k : ℕ) → n ≢ journal_name → kept f n k → kept g n k)
      → AreThere shows kept files g
  each_stays [] f g away there same durable = tt
  each_stays (file ∷ files) f g away there same durable = (
    record {
      shown = same file.0 (Some file.1) away.0 there.0.shown;
      durable = durable file.0 (length file.1) away.0 there.0.durable;
    },
    each_stays files f g away.1 there.1 same durable,
  )

  pub blocks_stay : (places : List Place) (parts : List BlockPart) (f g : F)
      → AreAt shows kept places parts f
      → ((n : List ℕ) (x : Option (List ℕ)) → n ≢ journal_name → shows f n x → shows g n x)
      → ((n : List ℕ) (k : ℕ) → n ≢ journal_name → kept f n k → kept g n k)
      → AreAt shows kept places parts g
  blocks_stay [] [] f g at same durable = tt
  blocks_stay [] (b ∷ parts) f g at same durable = absurd at
  blocks_stay (p ∷ places) [] f g at same durable = absurd at
  blocks_stay (p ∷ places) (b ∷ parts) f g at same durable =
      let x = at.0.0 in
      let there = at.0.2 in (
        (
          x,
          at.0.1,
          each_stays (named_files p x) f g (not_one p x) there same durable,
        ),
        blocks_stay places parts f g at.1 same durable,
      )
