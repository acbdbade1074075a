-- Of the lines of a reply, what is said of the part at a place is what a judge says of that part.
use Rattle.std.proofs.Common.{◌≡◌, ℕ, zero, suc, true, List, [], ◌∷◌, ◌++◌, Option, None, Some}
use Rattle.std.proofs.Common.{refl, sym, subst}
use Rattle.std.specs.Prelude.{slice_get, IsSomeAnd}
use Rattle.std.specs.List.{AllZip}
use Rattle.std.specs.Option.{option_or}
use Rattle.std.proofs.lemmas.Bool.{eq-eqb}
use Rattle.labels.specs.Parts.{Part as Series}
use Rattle.matchers.specs.Views.{QueryView}
use Rattle.postings.specs.declared.part_name.PartName.{PartName}
use Rattle.postings.specs.declared.part_name.PartName.TheVariants.{Block, Head}
use Rattle.reply_reader.specs.declared.reply.Reply.{Reply}
use Rattle.reply_reader.specs.declared.reply.ToldPart.{ToldPart}
use Rattle.auditor.specs.declared.judgement.BlockTable.{BlockTable}
use Rattle.auditor.specs.declared.judgement.Judgement.{Judgement}
use Rattle.auditor.specs.declared.judgement.Line.{Line}
use Rattle.auditor.specs.declared.judgement.Subject.{Subject}
use Rattle.auditor.specs.declared.judgement.Subject.TheVariants.{Part, Rows}
use Rattle.auditor.specs.Judgements.{AreLines, IsOfPart, IsPartLine, name_of}
use Rattle.whole_audit.specs.declared.grade.Grade.{Grade}
use Rattle.whole_audit.specs.declared.lines.StateLine.{StateLine}
use Rattle.whole_audit.specs.declared.lines.StateSubject.{StateSubject}
use Rattle.whole_audit.specs.declared.lines.StateSubject.TheVariants as of
use Rattle.whole_audit.specs.StateLines.{AreStateLines, IsGradeIn, IsStatePartLine, part_of}
use Rattle.page_claims.specs.Judging.{same_name, is_of}
use Rattle.state_claims.specs.Claiming.{is_of as is_of_state}
use Rattle.page.specs.Places.{judgement_in, judgement_at, first_fault, grade_in, grade_at}

-- what holds of the items of two lists, place by place, holds at a place
at_place : {A B : Type 0} (R : A → B → Type 0) (xs : List A) (ys : List B) (at : ℕ) (x : A)
    → AllZip R xs ys → slice_get xs at ≡ Some x → IsSomeAnd (slice_get ys at) (R x)
at_place R [] ys at x zipped there = cc
at_place R (a ∷ xs) [] at x zipped there = absurd zipped
at_place {A = A} R (a ∷ xs) (b ∷ ys) zero x zipped there =
    let same : a ≡ x = cc in subst (λ (y : A). R y b) same zipped.0
at_place R (a ∷ xs) (b ∷ ys) (suc at) x zipped there = at_place R xs ys at x zipped.1 there

-- whatever stands behind
in_front : {B : Type 0} (P : B → Type 0) (ys zs : List B) (at : ℕ)
    → IsSomeAnd (slice_get ys at) P → IsSomeAnd (slice_get (ys ++ zs) at) P
in_front P [] zs at is = absurd is
in_front P (y ∷ ys) zs zero is = is
in_front P (y ∷ ys) zs (suc at) is = in_front P ys zs at is

same_itself : (name : PartName) → same_name name name ≡ true
same_itself (Block n) = eq-eqb n n refl
same_itself Head = refl

is_own : (name : PartName) (subject : Subject) → subject ≡ Part name → is_of name subject ≡ true
is_own name subject same = rw same (same_itself name)

is_own_state : (name : PartName) (subject : StateSubject) → subject ≡ of.Part name
    → is_of_state name subject ≡ true
is_own_state name subject same = rw same (same_itself name)

-- what the line of a part says is what is said of the part
said_of : (name : PartName) (P : Judgement → Type 0) (line : Option Line)
    (other : Option Judgement)
    → IsSomeAnd line (λ l. (l.subject ≡ Part name) × P l.judgement)
    → IsSomeAnd (option_or (judgement_in name line) other) P
said_of name P None other is = absurd is
said_of name P (Some line) other is = rw (is_own name line.subject is.0) is.1

graded_of : (name : PartName) (P : Grade → Type 0) (line : Option StateLine)
    → IsSomeAnd line (λ l. (l.subject ≡ of.Part name) × P l.grade)
    → IsSomeAnd (grade_in name line) P
graded_of name P None is = absurd is
graded_of name P (Some line) is = rw (is_own_state name line.subject is.0) is.1

-- a line for each part, in order, stands in front
line_at : (blocks : List BlockTable) (query : QueryView) (reply : Reply) (lines : List Line)
    (at : ℕ) (told : ToldPart) → AreLines blocks query reply lines
    → slice_get reply.parts.items at ≡ Some told
    → IsSomeAnd (slice_get lines at) (IsPartLine blocks query told)
line_at blocks query reply lines at told are there =
    let P = IsPartLine blocks query told in
    let rows = record { subject = Rows; judgement = are.of_rows } ∷ [] in
    subst (λ (ls : List Line). IsSomeAnd (slice_get ls at) P) (sym are.whole)
    (in_front P (are.of_parts ++ are.of_left) rows at
    (in_front P are.of_parts are.of_left at
    (at_place (IsPartLine blocks query) reply.parts.items are.of_parts at told
    are.are_of_parts there)))

state_line_at : (blocks : List Series) (head : Series) (query : QueryView) (reply : Reply)
    (lines : List StateLine) (at : ℕ) (told : ToldPart)
    → AreStateLines blocks head query reply lines
    → slice_get reply.parts.items at ≡ Some told
    → IsSomeAnd (slice_get lines at) (IsStatePartLine blocks head query told)
state_line_at blocks head query reply lines at told are there =
    let P = IsStatePartLine blocks head query told in
    let rows = record { subject = of.Rows; grade = are.of_rows } ∷ [] in
    let two = are.of_parts ++ are.of_blocks in
    subst (λ (ls : List StateLine). IsSomeAnd (slice_get ls at) P) (sym are.whole)
    (in_front P (two ++ are.of_head ++ are.of_names) rows at
    (in_front P (two ++ are.of_head) are.of_names at
    (in_front P two are.of_head at
    (in_front P are.of_parts are.of_blocks at
    (at_place (IsStatePartLine blocks head query) reply.parts.items are.of_parts at told
    are.are_of_parts there)))))

pub said_at : (blocks : List BlockTable) (query : QueryView) (reply : Reply) (lines : List Line)
    (at : ℕ) (told : ToldPart) → AreLines blocks query reply lines
    → slice_get reply.parts.items at ≡ Some told
    → IsSomeAnd (judgement_at lines at (name_of told)) (IsOfPart blocks query told)
said_at blocks query reply lines at told are there =
    said_of (name_of told) (IsOfPart blocks query told) (slice_get lines at)
    (first_fault lines (name_of told)) (line_at blocks query reply lines at told are there)

pub graded_at : (blocks : List Series) (head : Series) (query : QueryView) (reply : Reply)
    (lines : List StateLine) (at : ℕ) (told : ToldPart)
    → AreStateLines blocks head query reply lines
    → slice_get reply.parts.items at ≡ Some told
    → IsSomeAnd (grade_at lines at (name_of told))
    (IsGradeIn (part_of blocks head (name_of told)) query told)
graded_at blocks head query reply lines at told are there =
    graded_of (name_of told) (IsGradeIn (part_of blocks head (name_of told)) query told)
    (slice_get lines at) (state_line_at blocks head query reply lines at told are there)
