use Rattle.std.proofs.Common.{◌≡◌, ◌⊎◌, inl, inr, ◌<◌, ◌≤◌, ℕ, true, false, List, Result}
use Rattle.std.proofs.Common.{Err, length, get_or, sym, ap, subst, ◌∙◌, arith, rules}
use Rattle.journal.specs.declared.error.JournalError.{JournalError}
use Rattle.journal.specs.declared.error.JournalError.TheVariants.{Memory, Size}
use Rattle.journal.specs.Records.{is_length, IsContent}
use Rattle.journal.proofs.Keeping.{content_at, text_begun, text_more, text_whole}
use Rattle.journal.proofs.texts.file_text.Goals as goal

pub loop-content-init : goal.loop-content-init
loop-content-init c =
    text_begun c.new-text.result.items c.extend_from_slice.new.self.items c.new-text.ensures.items
    c.in_ok-extend_from_slice.ensures.items

pub loop-content-preserved : goal.loop-content-preserved
loop-content-preserved c =
    let vs = c.args.contents.now in
    let i = c.loop-content.content-index in
    let v = c.content-item.result in
    let lt : i < length vs = omega (arith, c.loop-content-test.true) in
    let is : c.deref.result.now ≡ (get_or vs i v).items = search rules in
    text_more vs i v c.deref.result.now c.loop-content.text.items c.push_record.new.records.items lt
    is c.in-Ok.ensures.fits c.in-Ok.ensures.text c.loop-content.invariant

pub returns-clause-text : goal.returns-clause-text
returns-clause-text c =
    let vs = c.args.contents.now in
    let i = c.loop-content.content-index in
    let past : length vs ≤ i = omega (arith, c.loop-content-test.false) in
    text_whole vs i c.loop-content.text.items past c.loop-content.invariant

abbrev refused : {X : Type 0} → JournalError → Result X JournalError
refused e = Err e

-- a content that fits is refused for want of memory alone
memory_alone : {X : Type 0} (e : JournalError) (content : List ℕ) → (e ≡ Memory) ⊎ (e ≡ Size)
    → (refused {X = X} e ≡ Err Size → is_length (length content) ≡ false) → IsContent content
    → e ≡ Memory
memory_alone e content (inl m) long fits = m
memory_alone {X} e content (inr s) long fits =
    let no : is_length (length content) ≡ false =
    long (ap (λ (x : JournalError). refused {X = X} x) s) in
    absurd (let a : true ≡ false = sym fits.sized ∙ no in cc)

pub returns-in-Err-clause-only : goal.returns-in-Err-clause-only
returns-in-Err-clause-only c each =
    let vs = c.args.contents.now in
    let i = c.loop-content.content-index in
    let v = c.content-item.result in
    let lt : i < length vs = omega (arith, c.loop-content-test.true) in
    let is : c.deref.result.now ≡ (get_or vs i v).items = search rules in
    memory_alone c.in-Err.error c.deref.result.now c.in-Err.ensures.other c.in-Err.ensures.size
    (subst IsContent (sym is) (content_at vs i v lt each))
