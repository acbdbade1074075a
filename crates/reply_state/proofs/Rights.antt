-- What is right of the parts of a state, part by part and all together.
use Rattle.std.proofs.Common.{◌≡◌, ℕ, true, false, List, [], ◌∷◌, ◌++◌, length, map}
use Rattle.std.proofs.Common.{refl, sym, ap, subst, ◌∙◌, arith}
use Rattle.std.specs.Prelude.{◌&&◌, ◌==◌}
use Rattle.std.specs.List.{AllZip, flat_map}
use Rattle.labels.specs.Parts.{Part}
use Rattle.labels.specs.Rows.{AreRows}
use Rattle.matchers.specs.Views.{QueryView}
use Rattle.postings.specs.declared.part_name.PartName.{PartName}
use Rattle.postings.specs.declared.part_name.PartName.TheVariants.{Block, Head}
use Rattle.cover.specs.declared.part_cover.PartAnswer.{PartAnswer}
use Rattle.reply_reader.specs.declared.reply.Reply.{Reply}
use Rattle.reply_reader.specs.declared.reply.ToldPart.{ToldPart}
use Rattle.reply_reader.specs.declared.reply.ToldPart.TheVariants as parts
use Rattle.reply_reader.proofs.Booleans.{and_left, and_right}
use Rattle.auditor.specs.Auditing.{IsSoundAnswer}
use Rattle.auditor.specs.Errors.{OrMemory}
use Rattle.auditor.specs.Listing.{last_listed}
use Rattle.auditor.specs.declared.flaw.Flaw.{Flaw}
use Rattle.auditor.specs.declared.flaw.Flaw.TheVariants as flaws
use Rattle.auditor.specs.Judgements.{answers_of, name_of}
use Rattle.whole_audit.specs.Grading.{are_blocks_from, is_head}
use Rattle.whole_audit.specs.Wholes.{AreRightOf, IsRightOf, IsRightUnder}
use Rattle.whole_audit.proofs.Merged.{whole_listed}
use Rattle.whole_audit.proofs.Right.{as_many, of_named, zip_push, zip_split}
use Rattle.kept_walk.specs.Kept.{Event}
use Rattle.kept_world.specs.States.{State, numbered, shown}
use Rattle.state_search.specs.declared.search.Search.{Search}
use Rattle.state_search.specs.declared.search.Search.TheVariants.{Found, Nowhere, Refused}
use Rattle.reply_state.specs.Searches.{AreRightBlocks, AreRightIn, IsWholeIn, Searches}

head_right : (query : QueryView) (part : Part) (answer : PartAnswer) (name : PartName) → name ≡ Head
    → IsSoundAnswer part query answer → IsRightUnder name query part answer
head_right query part answer name is h =
    subst (λ (n : PartName). IsRightUnder n query part answer) (sym is) h

head_sound : (query : QueryView) (part : Part) (answer : PartAnswer) (name : PartName) → name ≡ Head
    → IsRightUnder name query part answer → IsSoundAnswer part query answer
head_sound query part answer name is h =
    subst (λ (n : PartName). IsRightUnder n query part answer) is h

module _ (query : QueryView) (blocks : List Part) (head : Part) (told all : List ToldPart)
    (answer : PartAnswer) (is : answer.part ≡ Head)
    (parted : all ≡ told ++ parts.Searched answer ∷ []) where
  pub together : AreRightBlocks query blocks all told → IsSoundAnswer head query answer
      → AreRightOf query blocks head all
  together right sound = record {
    named = right.named;
    each = subst (AllZip (IsRightOf query) (blocks ++ head ∷ [])) (sym parted)
        (zip_push (IsRightOf query) blocks told head (parts.Searched answer) right.each
        (head_right query head answer answer.part is sound));
  }

  split : AreRightOf query blocks head all
      → AllZip (IsRightOf query) blocks told × IsRightOf query head (parts.Searched answer)
  split h =
      let same : length told ≡ length blocks =
      as_many (parts.Searched answer) told (length blocks)
      (ap (λ (ts : List ToldPart). map name_of ts) (sym parted) ∙ h.named) in
      zip_split (IsRightOf query) blocks told head (parts.Searched answer) (sym same)
      (subst (AllZip (IsRightOf query) (blocks ++ head ∷ [])) parted h.each)

  pub blocks_apart : AreRightOf query blocks head all → AreRightBlocks query blocks all told
  blocks_apart h = record { named = h.named; each = (split h).0 }

  pub head_apart : AreRightOf query blocks head all → IsSoundAnswer head query answer
  head_apart h = head_sound query head answer answer.part is (split h).1

-- a search for what is so is one for what is the same
pub searches_so : (is_so is_such : State → Type 0) (since : ℕ) (first : State) (events : List Event)
    (search : Search) → ((s : State) → is_so s → is_such s) → ((s : State) → is_such s → is_so s)
    → Searches is_so since first events search → Searches is_such since first events search
searches_so is_so is_such since first events (Found at) to from h =
    (h.0, h.1, (h.2.0, h.2.1, to h.2.0 h.2.2))
searches_so is_so is_such since first events Nowhere to from h =
    λ n s a b c such. h n s a b c (from s such)
searches_so is_so is_such since first events (Refused i) to from h = h

-- where no state is so, a search says what it says of what no state is
pub none_so : (is_such : State → Type 0) (since : ℕ) (first : State) (events : List Event)
    (search : Search) → ((s : State) → is_such s → ⊥)
    → Searches (λ _. ⊥) since first events search → Searches is_such since first events search
none_so is_such since first events search none h =
    searches_so (λ (_ : State). ⊥) is_such since first events search (λ s so. absurd so) none h

-- of a state the last part is the head

head_of : (name : PartName) → is_head name ≡ true → name ≡ Head
head_of (Block n) h = absurd (let e : false ≡ true = h in cc)
head_of Head h = refl

pub last_is_head : (query : QueryView) (blocks : List Part) (head : Part) (others : List ToldPart)
    (last : ToldPart) → AreRightOf query blocks head (others ++ last ∷ []) → name_of last ≡ Head
last_is_head query blocks head others last h =
    let count = length others == length blocks in
    let end = of_named last others (length blocks) h.named in
    let front = and_left (count && is_head (name_of last)) (are_blocks_from 0 others) end in
    head_of (name_of last) (and_right count (is_head (name_of last)) front)

pub none_of_none : (query : QueryView) (blocks : List Part) (head : Part) (told : List ToldPart)
    → length told ≡ 0 → AreRightOf query blocks head told → ⊥
none_of_none query blocks head [] none h = none_zip blocks h.each
  where
    none_zip : (xs : List Part) → AllZip (IsRightOf query) (xs ++ head ∷ []) [] → ⊥
    none_zip [] all = all
    none_zip (x ∷ xs) all = all
none_of_none query blocks head (t ∷ told) none h = absurd (omega arith)

-- rows, beside parts that are right

pub whole_when : (query : QueryView) (reply : Reply) (s : State)
    → AreRightIn query reply.parts.items s
    → AreRows reply.rows.items (last_listed (flat_map answers_of reply.parts.items))
    → IsWholeIn query reply s
whole_when query reply s right rows = record {
  parts = right;
  rows = subst (AreRows reply.rows.items)
      (whole_listed query (s.blocks ++ numbered 1 (shown s.head) ∷ []) reply.parts.items right.each)
      rows;
}

pub listed_when : (query : QueryView) (reply : Reply) (s : State) → IsWholeIn query reply s
    → AreRows reply.rows.items (last_listed (flat_map answers_of reply.parts.items))
listed_when query reply s whole =
    subst (AreRows reply.rows.items)
    (sym (whole_listed query (s.blocks ++ numbered 1 (shown s.head) ∷ []) reply.parts.items
    whole.parts.each)) whole.rows

-- a flaw that is one

pub not_memory : (P : Flaw → Type 0) (flaw : Flaw) → OrMemory P flaw → (flaw ≡ flaws.Memory → ⊥)
    → P flaw
not_memory P flaws.Memory h none = absurd (none refl)
not_memory P flaws.NotAPartition h none = h
not_memory P flaws.NotMatching h none = h
not_memory P (flaws.NotRejected at) h none = h
not_memory P flaws.SeparatorCount h none = h
not_memory P (flaws.SeparatorsFit at) h none = h
not_memory P flaws.WrongRows h none = h
not_memory P flaws.UnknownMatcher h none = h
not_memory P flaws.NotSilent h none = h
not_memory P flaws.Hidden h none = h
not_memory P flaws.WrongMerge h none = h
