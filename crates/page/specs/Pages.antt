-- What a page is: what it claims, what it says of a label set that somebody asks about, and what it
-- prints.
use Rattle.std.specs.Prelude.{◌≡◌, ◌≤◌, ◌++◌, ◌↔◌, ℕ, List, Option, None, IsTrue, IsSomeAnd}
use Rattle.std.specs.Prelude.{MatchOption, Some, length, codes, min, take}
use Rattle.std.specs.List.{flat_map}
use Rattle.std.specs.Option.{option_copied}
use Rattle.labels.specs.Rows.{AreRows}
use Rattle.auditor.specs.Listing.{last_listed}
use Rattle.page_claims.specs.Claiming.{IsClaimed}
use Rattle.page_claims.specs.Judging.{names_of, unjudged_of}
use Rattle.page_claims.specs.declared.claim.Claim.{Claim}
use Rattle.page_marks.specs.Pages.{page_marks, text_marks}
use Rattle.page_marks.specs.Values.{AreValuesOf}
use Rattle.page_pins.specs.Boxes.{HasNoBox}
use Rattle.page_pins.specs.Replies.{reply_text}
use Rattle.page_pins.specs.Selectors.{ShowsFirst}
use Rattle.page_style.specs.declared.front.TheConstants.{FRONT}
use Rattle.page_text.specs.Marks.{marks_in, values_in}
use Rattle.page_text.specs.Nesting.{IsContent}
use Rattle.page_text.specs.Plain.{plain_text}
use Rattle.page_text.specs.Printing.{page_text}
use Rattle.page_text.specs.declared.mark.Mark.{Mark}
use Rattle.page_text.specs.declared.piece.Piece.{Piece}
use Rattle.page_text.specs.declared.value.Value.{Value}
use Rattle.page.specs.declared.asked.Asked.{Asked}
use Rattle.page.specs.declared.shown.Shown.{Shown}
use Rattle.page.specs.declared.write.Page.{Page}
use Rattle.page.specs.Asking.{IsSaid}
use Rattle.page.specs.Saying.{claim_text, plain_claim, plain_state, state_text}
use Rattle.state_claims.specs.Claiming.{IsStateClaimed, unjudged_in}
use Rattle.state_claims.specs.declared.verdicts.StateSaid.{StateSaid}

-- what a judge said over a store, if one was asked
abbrev pub state_of : Shown → Option StateSaid
state_of s = option_copied s.state

-- the claim is the one that the checks and the auditor's lines allow, and beside it stand the parts
-- that nobody judged
pub record IsBlocksClaim (s : Shown) (claim : Claim) : Type 0 where
  pub claimed : IsClaimed (length s.query.now.matchers) s.told.now s.tables.now s.lines.now
      claim.completeness
  pub merged : IsTrue claim.is_merged
      ↔ AreRows s.told.now.rows.items (last_listed s.told.now.answers.items)
  pub unjudged : claim.unjudged.items ≡ unjudged_of s.tables.now s.lines.now s.told.now

-- the same of a reply that was judged over a store
pub record IsStoreClaim (s : Shown) (said : StateSaid) (claim : Claim) : Type 0 where
  pub claimed : IsStateClaimed (length s.query.now.matchers) s.told.now said claim.completeness
  pub merged : IsTrue claim.is_merged
      ↔ AreRows s.told.now.rows.items (last_listed s.told.now.answers.items)
  pub unjudged : claim.unjudged.items ≡ unjudged_in said.lines.now (names_of s.told.now)

abbrev pub IsClaimBy : Shown → Option StateSaid → Claim → Type 0
IsClaimBy s None claim = IsBlocksClaim s claim
IsClaimBy s (Some said) claim = IsStoreClaim s said claim

-- the claim of what is shown
abbrev pub IsClaimOf : Shown → Claim → Type 0
IsClaimOf s claim = IsClaimBy s (state_of s) claim

-- what is said of the label set that somebody asks about, if there is one
abbrev pub IsSaidOf : Shown → Option Asked → Type 0
IsSaidOf s said =
    MatchOption s.about (said ≡ None) (λ labels. IsSomeAnd said
    (λ asked. IsSaid s.query.now.matchers s.told.now.rows.items labels.now asked))

-- the counts and the tiles that what is shown has below the claim
abbrev pub wanted_marks : Shown → List Mark
wanted_marks s =
    page_marks (length s.query.now.matchers) s.told.now.answers.items s.told.now.rows.items

-- the values that what is shown has below the claim: those of the rows of the table
abbrev pub AreShownValues : Shown → List Value → Type 0
AreShownValues s shown =
    AreValuesOf s.values
    (take (min 50 (length s.told.now.rows.items)) s.told.now.rows.items) shown

-- the counts that what is shown has in a text
abbrev pub wanted_counts : Shown → List Mark
wanted_counts s = text_marks (length s.query.now.matchers) s.told.now.answers.items

-- what begins each page
unfoldable pub page_front : List ℕ
page_front = flat_map (λ t. t.now) FRONT

-- the constant front, the heading, and the claim in a box that is open still, with the state of the
-- store of which it is made
unfoldable pub page_top : Shown → Claim → List Piece → List ℕ
page_top s claim heading =
    page_front ++ page_text heading ++ claim_text claim.completeness claim.unjudged.items
    ++ state_text (state_of s)

-- the details, the end of the box, and the sections
unfoldable pub page_rest : List Piece → List Piece → List ℕ
page_rest details sections = page_text details ++ codes "</div>\n" ++ page_text sections

-- which reply is shown, and a constant end
unfoldable pub page_end : Shown → List ℕ
page_end s = reply_text s.length s.digest ++ codes "</body>\n</html>\n"

unfoldable pub page_bytes : Shown → Claim → List Piece → List Piece → List Piece → List ℕ
page_bytes s claim heading details sections =
    page_top s claim heading ++ page_rest details sections ++ page_end s

-- the trees draw no box as that of the claim: the page has one
pub record HasOneBox (page : Page) : Type 0 where
  pub heading : HasNoBox page.heading.items
  pub details : HasNoBox page.details.items
  pub sections : HasNoBox page.sections.items

-- The print of trees, with the claim between them, and which reply is shown. The texts from outside
-- above the claim are the selector; below it stand the counts and the tiles of the reply, and the
-- values of its rows by what they mean.
pub record IsPageOf (s : Shown) (page : Page) : Type 0 where
  pub heading : IsContent page.heading.items
  pub details : IsContent page.details.items
  pub sections : IsContent page.sections.items
  pub claim : IsClaimOf s page.claim
  pub asked : IsSaidOf s page.asked
  pub one_box : HasOneBox page
  pub selector : ShowsFirst 4096 s.selector.now page.heading.items
  pub marks : marks_in page.sections.items ≡ wanted_marks s
  pub values : AreShownValues s (values_in page.sections.items)
  pub bytes : page.bytes.items
      ≡ page_bytes s page.claim page.heading.items page.details.items page.sections.items
  pub few : length page.bytes.items ≤ 268435456

-- the claim, and the texts and numbers of trees: of the first, which has the selector, and the rest
pub record IsTextOf (s : Shown) (page : Page) : Type 0 where
  pub heading : IsContent page.heading.items
  pub sections : IsContent page.sections.items
  pub claim : IsClaimOf s page.claim
  pub asked : IsSaidOf s page.asked
  pub selector : ShowsFirst 4180 s.selector.now page.heading.items
  pub marks : marks_in page.sections.items ≡ wanted_counts s
  pub bytes : page.bytes.items ≡ plain_claim page.claim.completeness
      ++ plain_state (state_of s) ++ plain_text page.heading.items
      ++ plain_text page.sections.items
  pub few : length page.bytes.items ≤ 268435456
