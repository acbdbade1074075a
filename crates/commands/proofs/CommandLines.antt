-- What the getters of `clap` say of the line that the words ask for.
use Rattle.std.proofs.Common.{◌≡◌, ◌<◌, ◌^◌, ℕ, ℤ, true, false, List, Option, Some, None, refl, sym}
use Rattle.std.proofs.Common.{ap, ap₂, subst, ◌∙◌, inl, inr, codes, [], ◌∷◌, length, arith}
use Rattle.std.proofs.Common.{true≢false}
use Rattle.std.proofs.lemmas.List.{length-map}
use Rattle.std.proofs.lemmas.Bool.Decides.{nat_tests}
use Rattle.std.specs.Borrow.{Bor}
use Rattle.std.specs.Prelude.{option_map, unwrap_or, is_some, FitsSigned, Bool, not, ◌&&◌, ◌==◌}
use Rattle.std.specs.Prelude.{zero, suc, ◌⊎◌}
use Rattle.std.specs.Int.{w64}
use Rattle.std.specs.Str.Parse.{IsNumeral, without_leading_sign, signed_digits_value}
use Rattle.std.specs.Str.Parse.{without_leading_plus, digits_value}
use Rattle.clap.specs.Words.{Row, Text, first_of, one_of, one_text, rows_of, subcommand_name_of}
use Rattle.clap.specs.Words.{subcommand_rows_of}
use Rattle.clap.specs.declared.parser.matches.ArgMatches.{ArgMatches}
use Rattle.clap.specs.declared.parser.matches.Found.{Found}
use Rattle.clap.proofs.WalkLemmas.{one_text-rows}
use Rattle.commands.specs.Lines.{IsTimeIn, IsDemo, IsSelect, IsCheck, IsSelectionIn, IsLineIn}
use Rattle.commands.specs.Lines.{IsBackup, IsJournal, IsFoundLine}
use Rattle.commands.specs.ServingLines.{IsCountIn, IsFlagIn, IsServingIn, IsReadingIn}
use Rattle.commands.specs.ServingLines.{IsServeIn, IsServeLine, IsFoundServe, IsOneStore}
use Rattle.commands.specs.declared.command.Reading.{Reading}
use Rattle.commands.specs.declared.command.Line.{Line}
use Rattle.commands.specs.declared.command.Line.TheVariants.{Demo, Select, Check, Serve, Journal}
use Rattle.commands.specs.declared.command.Line.TheVariants.{Backup}
use Rattle.commands.specs.declared.command.Serving.{Serving}
use Rattle.std.specs.Prelude.{Result, Ok, Err, IfOk, IsOkAnd}
use Rattle.clap.specs.Words.{App, AddsSubcommand, app_of, with_subcommand}
use Rattle.clap.specs.declared.builder.command.Command.{Command}

-- a text that was read is the number
pub time_given : (f : Found) (name : Text) (other time shown : ℤ)
    → (FitsSigned w64 time → shown ≡ time) → (one_text f name ≡ None → Some time ≡ None)
    → ((t : Text) → one_text f name ≡ Some t → (IsNumeral 10 (without_leading_sign t)
    × FitsSigned w64 (signed_digits_value 10 t)) × (time ≡ signed_digits_value 10 t))
    → IsTimeIn (one_of name (rows_of f)) other shown
time_given f name other time shown same none value =
    subst (λ (o : Option Text). IsTimeIn o other shown) (one_text-rows f name)
    (go (one_text f name) refl)
  where
    go : (o : Option Text) → one_text f name ≡ o → IsTimeIn o other shown
    go None e = let no : Some time ≡ None = none e in cc
    go (Some t) e =
        let p = value t e in
        let fits : FitsSigned w64 time = subst (FitsSigned w64) (sym p.1) p.0.1 in
        inl (record { numeral = p.0.0; fits = p.0.1 }, same fits ∙ p.1)

-- the other time stands where no text is, or one that is no number
pub time_missing : (f : Found) (name : Text) (other : ℤ)
    → ((t : Text) → one_text f name ≡ Some t
    → IsNumeral 10 (without_leading_sign t) × FitsSigned w64 (signed_digits_value 10 t) → ⊥)
    → IsTimeIn (one_of name (rows_of f)) other other
time_missing f name other value =
    subst (λ (o : Option Text). IsTimeIn o other other) (one_text-rows f name)
    (go (one_text f name) refl)
  where
    go : (o : Option Text) → one_text f name ≡ o → IsTimeIn o other other
    go None e = refl
    go (Some t) e = inr (λ n. value t e (n.numeral, n.fits), refl)

-- a text that was read is the number
pub count_given : (f : Found) (name : Text) (other count : ℕ)
    → (one_text f name ≡ None → Some count ≡ None)
    → ((t : Text) → one_text f name ≡ Some t
    → (IsNumeral 10 (without_leading_plus t) × (digits_value 10 (without_leading_plus t) < 2 ^ 64))
    × (count ≡ digits_value 10 (without_leading_plus t)))
    → IsCountIn (one_of name (rows_of f)) other count
count_given f name other count none value =
    subst (λ (o : Option Text). IsCountIn o other count) (one_text-rows f name)
    (go (one_text f name) refl)
  where
    go : (o : Option Text) → one_text f name ≡ o → IsCountIn o other count
    go None e = let no : Some count ≡ None = none e in cc
    go (Some t) e =
        let p = value t e in
        inl (record { numeral = p.0.0; fits = p.0.1 }, p.1)

-- the other number stands where no text is, or one that is no number
pub count_missing : (f : Found) (name : Text) (other : ℕ)
    → ((t : Text) → one_text f name ≡ Some t → IsNumeral 10 (without_leading_plus t)
    × (digits_value 10 (without_leading_plus t) < 2 ^ 64) → ⊥)
    → IsCountIn (one_of name (rows_of f)) other other
count_missing f name other value =
    subst (λ (o : Option Text). IsCountIn o other other) (one_text-rows f name)
    (go (one_text f name) refl)
  where
    go : (o : Option Text) → one_text f name ≡ o → IsCountIn o other other
    go None e = refl
    go (Some t) e = inr (λ n. value t e (n.numeral, n.fits), refl)

-- a flag that was read
pub flag_read : (f : Found) (name : Text) (flag : Bool) → (one_text f name ≡ None → flag ≡ false)
    → (one_text f name ≡ Some (codes "true") → flag ≡ true)
    → (one_text f name ≡ Some (codes "false") → flag ≡ false)
    → IsFlagIn (one_of name (rows_of f)) flag
flag_read f name flag none set unset =
    subst (λ (o : Option Text). IsFlagIn o flag) (one_text-rows f name) (go (one_text f name) refl)
  where
    go : (o : Option Text) → one_text f name ≡ o → IsFlagIn o flag
    go None e = none e
    go (Some t) e = (
      λ is. set (e ∙ ap (λ (t : Text). Some t) is),
      λ is. unset (e ∙ ap (λ (t : Text). Some t) is),
    )

mapped_twice : {A B C : Type 0} (f : B → C) (g : A → B) (o : Option A)
    → option_map f (option_map g o) ≡ option_map (λ a. f (g a)) o
mapped_twice f g None = refl
mapped_twice f g (Some a) = refl

-- the name of the subcommand that was met stands beside its arguments
pub name_of_rows : (m : ArgMatches)
    → option_map (λ (p : Text × List Row). p.0) (subcommand_rows_of m) ≡ subcommand_name_of m
name_of_rows m = mapped_twice (λ (p : Text × List Row). p.0) _ _

pub some_is_kept : {A B : Type 0} (f : A → B) (o : Option A) → is_some o ≡ true
    → option_map f o ≡ None → ⊥
some_is_kept f None some e = cc
some_is_kept f (Some a) some e = cc

pub none_is_kept : {A B : Type 0} (f : A → B) (o : Option A) → is_some o ≡ false
    → option_map f o ≡ None
none_is_kept f None none = refl
none_is_kept f (Some a) none = cc

-- what the third of several tests denies does not hold where all hold
pub third_denied : (a b g rest : Bool) → (a && (b && (not g && rest))) ≡ true → g ≡ false
third_denied a b false rest e = refl
third_denied false b true rest e = cc
third_denied true false true rest e = cc
third_denied true true true rest e = cc

-- what is known of a subcommand, if there was memory for it, is known of what it is added to
pub added_as : {E : Type 0} (old new : Command) (a b : App) (sub : Result Command E)
    → app_of old ≡ a → IfOk sub (λ s. app_of s ≡ b) → b.top.is_plain ≡ true
    → IsOkAnd sub (λ s. AddsSubcommand old s new) → app_of new ≡ with_subcommand a b.top
added_as old new a b (Ok s) is known plain adds =
    adds.shape (third_denied _ _ _ _ (ap (λ (x : App). x.top.is_plain) known ∙ plain))
    ∙ ap₂ with_subcommand is (ap (λ (x : App). x.top) known)
added_as old new a b (Err e) is known plain adds = absurd adds

-- a name found is a subcommand found
pub demo_found : (o : Option (Text × List Row))
    → option_map (λ p. p.0) o ≡ Some (codes "demo") → IsDemo o
demo_found None e = cc
demo_found (Some p) e =
    record { rows = p.1; is = ap (λ (n : Option Text). Some (unwrap_or n p.0, p.1)) e }

-- and so with its arguments
pub select_found : (o : Option (Text × List Row)) (rows : List Row) (text : List ℕ) (from to : ℤ)
    (reading : Reading) → option_map (λ p. p.0) o ≡ Some (codes "select")
    → option_map (λ p. p.1) o ≡ Some rows → IsSelectionIn rows text from to
    → IsReadingIn rows reading → IsSelect o text from to reading
select_found None rows text from to reading e f selection given = cc
select_found (Some p) rows text from to reading e f selection given = record {
  rows = rows;
  is =
      ap₂ (λ (n : Option Text) (r : Option (List Row)). Some (unwrap_or n p.0, unwrap_or r p.1)) e
      f;
  selection = selection;
  given = given;
}

-- and so with the directories of `check`
pub check_found : (o : Option (Text × List Row)) (rows : List Row) (reading : Reading)
    → option_map (λ p. p.0) o ≡ Some (codes "check")
    → option_map (λ p. p.1) o ≡ Some rows
    → IsReadingIn rows reading → IsCheck o reading
check_found None rows reading e f given = cc
check_found (Some p) rows reading e f given = record {
  rows = rows;
  is =
      ap₂ (λ (n : Option Text) (r : Option (List Row)). Some (unwrap_or n p.0, unwrap_or r p.1)) e
      f;
  given = given;
}

-- and so with what `serve` is to serve
named_so : (name : Text) (p : Text × List Row) (rows : List Row)
    → option_map (λ (p : Text × List Row). p.0) (Some p) ≡ Some name
    → option_map (λ (p : Text × List Row). p.1) (Some p) ≡ Some rows → Some p ≡ Some (name, rows)
named_so name p rows e f =
    ap₂ (λ (n : Option Text) (r : Option (List Row)). Some (unwrap_or n p.0, unwrap_or r p.1)) e f

name_is : (o : Option (Text × List Row)) (name : Text) (rows : List Row) → o ≡ Some (name, rows)
    → option_map (λ (p : Text × List Row). p.0) o ≡ Some name
name_is o name rows is = ap (option_map (λ (p : Text × List Row). p.0)) is

serve_in : (o : Option (Text × List Row)) (rows : List Row) (line : Line)
    → o ≡ Some (codes "serve", rows) → IsServeIn rows line → IsLineIn o line
serve_in o rows (Serve serving reading) is h = record { rows = rows; is = is; line = h }
serve_in o rows Demo is h = absurd h
serve_in o rows (Check reading) is h = absurd h
serve_in o rows (Select s reading) is h = absurd h
serve_in o rows (Journal path) is h = absurd h
serve_in o rows (Backup from out) is h = absurd h

not_serve : {X : Type 0} (o : Option (Text × List Row)) (name : Text) (rows : List Row)
    → option_map (λ (p : Text × List Row). p.0) o ≡ Some (codes "serve")
    → (name ≡ codes "serve" → ⊥) → o ≡ Some (name, rows) → X
not_serve o name rows e other is =
    let same : Some (codes "serve") ≡ Some name = sym e ∙ name_is o name rows is in
    absurd (other (let n : codes "serve" ≡ name = cc in sym n))

abbrev first_of_text : Text → ℕ
first_of_text [] = 0
first_of_text (letter ∷ letters) = letter

serve_out : (o : Option (Text × List Row)) (rows : List Row)
    → o ≡ Some (codes "serve", rows) → ((line : Line) → IsServeIn rows line → ⊥)
    → (line : Line) → IsLineIn o line → ⊥
serve_out o rows is none (Serve serving reading) h =
    let same : Some (codes "serve", rows) ≡ Some (codes "serve", h.rows) = sym is ∙ h.is in
    let these : h.rows ≡ rows =
    sym (ap (λ (o : Option (Text × List Row)).
    unwrap_or (option_map (λ (p : Text × List Row). p.1) o) []) same) in
    none (Serve serving reading)
    (subst (λ (r : List Row). IsServeLine r serving reading) these h.line)
serve_out o rows is none Demo h =
    not_serve o (codes "demo") h.rows (name_is o (codes "serve") rows is) (λ e. cc) h.is
serve_out o rows is none (Check reading) h =
    not_serve o (codes "check") h.rows (name_is o (codes "serve") rows is) (λ e.
    let letters : 99 ≡ 115 = ap first_of_text e in absurd (omega (arith, letters))) h.is
serve_out o rows is none (Select s reading) h =
    not_serve o (codes "select") h.rows (name_is o (codes "serve") rows is) (λ e. cc) h.is
serve_out o rows is none (Journal path) h =
    not_serve o (codes "journal") h.rows (name_is o (codes "serve") rows is) (λ e. cc) h.is
serve_out o rows is none (Backup from out) h =
    not_serve o (codes "backup") h.rows (name_is o (codes "serve") rows is) (λ e. cc) h.is

serve_parts : (o : Option (Text × List Row)) (rows : List Row)
    → option_map (λ (p : Text × List Row). p.0) o ≡ Some (codes "serve")
    → option_map (λ (p : Text × List Row). p.1) o ≡ Some rows → o ≡ Some (codes "serve", rows)
serve_parts None rows e f = cc
serve_parts (Some p) rows e f = named_so (codes "serve") p rows e f

serve_is : (o : Option (Text × List Row)) (rows : List Row) (line : Option Line)
    → o ≡ Some (codes "serve", rows) → IsFoundServe rows line → IsFoundLine o line
serve_is o rows (Some line) is h = serve_in o rows line is h
serve_is o rows None is h = serve_out o rows is h

pub serve_found : {E : Type 0} (o : Option (Text × List Row)) (rows : List Row)
    (r : Result (Option Line) E)
    → option_map (λ (p : Text × List Row). p.0) o ≡ Some (codes "serve")
    → option_map (λ (p : Text × List Row). p.1) o ≡ Some rows
    → IfOk r (λ line. IsFoundServe rows line) → IfOk r (λ line. IsFoundLine o line)
serve_found o rows (Ok line) e f h = serve_is o rows line (serve_parts o rows e f) h
serve_found o rows (Err x) e f h = tt

-- and so with the journal that is listed
pub journal_found : (o : Option (Text × List Row)) (rows : List Row) (path : List ℕ)
    → option_map (λ p. p.0) o ≡ Some (codes "journal")
    → option_map (λ p. p.1) o ≡ Some rows
    → path ≡ unwrap_or (first_of (codes "path") rows) [] → IsJournal o path
journal_found None rows path e f given = cc
journal_found (Some p) rows path e f given = record {
  rows = rows;
  is =
      ap₂ (λ (n : Option Text) (r : Option (List Row)). Some (unwrap_or n p.0, unwrap_or r p.1)) e
      f;
  given = given;
}

-- and so with the store that is copied
pub backup_found : (o : Option (Text × List Row)) (rows : List Row) (from out : List ℕ)
    → option_map (λ p. p.0) o ≡ Some (codes "backup")
    → option_map (λ p. p.1) o ≡ Some rows
    → from ≡ unwrap_or (first_of (codes "data") rows) []
    → out ≡ unwrap_or (first_of (codes "out") rows) [] → IsBackup o from out
backup_found None rows from out e f source target = cc
backup_found (Some p) rows from out e f source target = record {
  rows = rows;
  is =
      ap₂ (λ (n : Option Text) (r : Option (List Row)). Some (unwrap_or n p.0, unwrap_or r p.1)) e
      f;
  source = source;
  target = target;
}

given_both : {A B : Type 0} (f : A → B) (o : Option A) (x : Option B) → option_map f o ≡ x
    → is_some o ≡ is_some x
given_both f None x e = ap is_some e
given_both f (Some a) x e = ap is_some e

not_one : (serving : Serving) (reading : Reading) → is_some serving.folder ≡ true
    → (length reading.directories.items ≡ 0 → ⊥) → IsOneStore serving reading → ⊥
not_one serving reading some many (inl none) = true≢false (sym some ∙ none)
not_one serving reading some many (inr few) = many few

-- no line of `serve` has directories beside a folder
pub both_denied : (rows : List Row) (serving : Serving) (reading : Reading)
    → IsServingIn rows serving → IsReadingIn rows reading → is_some serving.folder ≡ true
    → (length reading.directories.items ≡ 0 → ⊥) → (line : Line) → IsServeIn rows line → ⊥
both_denied rows serving reading asked given some many (Serve other texts) h =
    let folder : is_some other.folder ≡ true =
    given_both (λ (folder : Bor (List ℕ)). folder.now) other.folder _ h.asked.folder
    ∙ sym (given_both (λ (folder : Bor (List ℕ)). folder.now) serving.folder _ asked.folder) ∙ some in
    let same : length texts.directories.items ≡ length reading.directories.items =
    sym (length-map texts.directories.items (λ (d : Bor (List ℕ)). d.now))
    ∙ (ap length (h.given.directories ∙ sym given.directories)
    ∙ length-map reading.directories.items (λ (d : Bor (List ℕ)). d.now)) in
    not_one other texts folder (λ e. many (sym same ∙ e)) h.one
both_denied rows serving reading asked given some many Demo h = h
both_denied rows serving reading asked given some many (Check texts) h = h
both_denied rows serving reading asked given some many (Select s texts) h = h
both_denied rows serving reading asked given some many (Journal path) h = h
both_denied rows serving reading asked given some many (Backup from out) h = h

-- whether directories stand beside a folder, by a test
pub both_stand : (folder : Bool) (n : ℕ) → (folder && not (n == 0)) ≡ true
    → (folder ≡ true) × (n ≡ 0 → ⊥)
both_stand false n e = absurd (true≢false (sym e))
both_stand true zero e = absurd (true≢false (sym e))
both_stand true (suc n) e = (refl, λ none. omega (arith, none))

pub one_stands : (folder : Bool) (n : ℕ) → (folder && not (n == 0)) ≡ false
    → (folder ≡ false) ⊎ (n ≡ 0)
one_stands false n e = inl refl
one_stands true zero e = inr refl
one_stands true (suc n) e =
    let some : (suc n == 0) ≡ false = grind (arith, nat_tests) in
    absurd (true≢false (sym (ap not some) ∙ e))

-- none of the six is no line
pub no_line : (o : Option (Text × List Row)) → (option_map (λ p. p.0) o ≡ Some (codes "demo") → ⊥)
    → (option_map (λ p. p.0) o ≡ Some (codes "check") → ⊥)
    → (option_map (λ p. p.0) o ≡ Some (codes "select") → ⊥)
    → (option_map (λ p. p.0) o ≡ Some (codes "serve") → ⊥)
    → (option_map (λ p. p.0) o ≡ Some (codes "journal") → ⊥)
    → (option_map (λ p. p.0) o ≡ Some (codes "backup") → ⊥) → (line : Line)
    → IsLineIn o line → ⊥
no_line o no_demo no_check no_select no_serve no_journal no_backup Demo h =
    no_demo (ap (option_map (λ (p : Text × List Row). p.0)) h.is)
no_line o no_demo no_check no_select no_serve no_journal no_backup (Check texts) h =
    no_check (ap (option_map (λ (p : Text × List Row). p.0)) h.is)
no_line o no_demo no_check no_select no_serve no_journal no_backup (Select s texts) h =
    no_select (ap (option_map (λ (p : Text × List Row). p.0)) h.is)
no_line o no_demo no_check no_select no_serve no_journal no_backup (Serve serving texts) h =
    no_serve (ap (option_map (λ (p : Text × List Row). p.0)) h.is)
no_line o no_demo no_check no_select no_serve no_journal no_backup (Journal path) h =
    no_journal (ap (option_map (λ (p : Text × List Row). p.0)) h.is)
no_line o no_demo no_check no_select no_serve no_journal no_backup (Backup from out) h =
    no_backup (ap (option_map (λ (p : Text × List Row). p.0)) h.is)
