use Rattle.std.proofs.Common.{◌≡◌, ℕ, List, [], inl, refl, subst, sym}
use Rattle.block_folder.specs.declared.values.Values.{Values}
use Rattle.data_folder.specs.JournalFile.{journal_name, next_name}
use Rattle.data_folder.proofs.Moments.{nothing_changed}
use Rattle.event_journal.specs.Holding.{contents_with}
use Rattle.head_record.specs.Saved.{Saved}
use Rattle.head_record.specs.Spelling.{head_texts, IsSaved}
use Rattle.journal.specs.Group.{IsJournalText}
use Rattle.store_folder.specs.Starting.{nothing_with}
use Rattle.store_folder.proofs.Rolls.{at_these}
use Rattle.store_folder.proofs.Starts.{holds_nothing, leaves_nothing, none_yet}
use Rattle.store_folder.proofs.store_journal.StoreJournal.create.Goals as goal

abbrev of_head : Saved → List (List ℕ)
of_head head = contents_with (head_texts head) []

abbrev new_contents : Values → List (List ℕ)
new_contents values = of_head (nothing_with values)

abbrev text_is : Values → List ℕ → Type 0
text_is values text = IsJournalText (new_contents values) text

-- the text is that of nothing
given : (values : Values) (head : Saved) (text bytes : List ℕ) → head ≡ nothing_with values
    → bytes ≡ text → IsJournalText (of_head head) text → text_is values bytes
given values head text bytes is same h =
    subst (text_is values) (sym same) (subst (λ (x : Saved). IsJournalText (of_head x) text) is h)

pub begin-requires-clause-whole : goal.begin-requires-clause-whole
begin-requires-clause-whole g c = (
  new_contents c.args.values,
  given c.args.values c.nothing_with.result _ _ c.nothing_with.ensures c.deref.ensures.value
      c.in-Ok.ensures.text,
)

pub returns-in-Ok-begin-clause-head : goal.returns-in-Ok-begin-clause-head
returns-in-Ok-begin-clause-head g c =
    let f = g.F.Folder in
    let j = c.in-Ok-begin.journal in (
      holds_nothing f.shows f.kept f.sound f.moment f.left_since g.met.F.Folder.only_now
          g.met.F.Folder.earlier g.N.Beginning.first c.args.values j.medium j.len j.closed c.requires.first
          (subst IsSaved c.nothing_with.ensures c.in-Ok.ensures.saved) c.in-Ok-begin.ensures.named
          (c.in-Ok-begin.ensures.keeps (new_contents c.args.values)
          (given c.args.values c.nothing_with.result _ _ c.nothing_with.ensures c.deref.ensures.value
          c.in-Ok.ensures.text)),
      refl,
      refl,
      refl,
    )

pub returns-in-Ok-begin-clause-places : goal.returns-in-Ok-begin-clause-places
returns-in-Ok-begin-clause-places g c =
    let f = g.F.Folder in
    at_these f.shows f.kept f.sound f.moment f.left_since g.N.Beginning.first _ _ _ [] _ [] [] []
    (returns-in-Ok-begin-clause-head g c) refl

pub returns-in-Ok-begin-clause-holds : goal.returns-in-Ok-begin-clause-holds
returns-in-Ok-begin-clause-holds g c =
    let h = returns-in-Ok-begin-clause-places g c in inl h.0

pub returns-in-Ok-begin-clause-any_moment : goal.returns-in-Ok-begin-clause-any_moment
returns-in-Ok-begin-clause-any_moment g c =
    let f = g.F.Folder in
    leaves_nothing f.moment f.left_since c.args.values c.args.folder c.in-Ok-begin.journal.medium.folder
    (subst IsSaved c.nothing_with.ensures c.in-Ok.ensures.saved)
    (c.in-Ok-begin.ensures.any_moment (new_contents c.args.values)
    (given c.args.values c.nothing_with.result _ _ c.nothing_with.ensures c.deref.ensures.value c.in-Ok.ensures.text))

pub returns-in-Err-clause-any_moment : goal.returns-in-Err-clause-any_moment
returns-in-Err-clause-any_moment g c =
    let f = g.F.Folder in
    none_yet f.moment f.left_since c.args.values f.shows f.kept g.met.F.Folder.only_now c.args.folder
    c.requires.none.0 c.requires.none.1

pub returns-clause-any_moment : goal.returns-clause-any_moment
returns-clause-any_moment g c =
    let f = g.F.Folder in
    leaves_nothing f.moment f.left_since c.args.values c.args.folder c.in-Err-begin.folder
    (subst IsSaved c.nothing_with.ensures c.in-Ok.ensures.saved)
    (c.in-Err-begin.ensures.any_moment (new_contents c.args.values)
    (given c.args.values c.nothing_with.result _ _ c.nothing_with.ensures c.deref.ensures.value c.in-Ok.ensures.text))

pub returns-in-Err-clause-others : goal.returns-in-Err-clause-others
returns-in-Err-clause-others g c =
    let f = g.F.Folder in
    nothing_changed f.shows f.kept next_name journal_name c.args.folder
