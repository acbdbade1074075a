-- What is spelled is read.
use Rattle.std.proofs.Common.{◌≡◌, ℕ, zero, suc, ◌<◌, ◌≤◌, Bool, true, false, eqb, List}
use Rattle.std.proofs.Common.{[]}
use Rattle.std.proofs.Common.{◌∷◌, ◌++◌, length, take, drop, Result, Ok, Option, None, Some}
use Rattle.std.proofs.Common.{refl, sym, ap, subst, ◌∙◌, append_assoc, inl, inr, arith}
use Rattle.std.proofs.lemmas.Bool.{cases_Bool, eqb-true}
use Rattle.std.proofs.lemmas.List.{take_at, drop_at}
use Rattle.std.specs.List.{AllByRecursion}
use Rattle.open_metrics.specs.declared.comments.Format.{Format}
use Rattle.open_metrics.specs.declared.comments.Format.TheVariants.{OpenMetrics, Prometheus}
use Rattle.open_metrics.specs.declared.error.Fault.{Fault}
use Rattle.open_metrics.specs.declared.error.Reason.{Reason}
use Rattle.open_metrics.specs.declared.error.Reason.TheVariants as reason
use Rattle.open_metrics.specs.declared.tokens.Class.{Class}
use Rattle.open_metrics.specs.declared.tokens.Class.TheVariants.{Metric, Label, Word, Blank}
use Rattle.open_metrics.specs.declared.numbers.Value.{Value}
use Rattle.open_metrics.specs.declared.numbers.Value.TheVariants.{Parts}
use Rattle.open_metrics.specs.Grammar.{AreBlanks, AreIn, IsGap, IsName, escape_then}
use Rattle.open_metrics.specs.Grammar.{IsNoEscape, SpellsChar, SpellsText}
use Rattle.open_metrics.specs.Grammar.{SpellsPair, IsClose, SpellsOthers, SpellsWithin}
use Rattle.open_metrics.specs.Grammar.{SpellsLabels, IsTail, IsSample}
use Rattle.open_metrics.specs.Labels.{Pair, pair_at, is_end, after_comma, comma_at, next_at}
use Rattle.open_metrics.specs.Labels.{others_at, within_at, labels_at}
use Rattle.open_metrics.specs.Lines.{Sampled, value_at, time_at, time_places, tail_at}
use Rattle.open_metrics.specs.Lines.{exemplar_at, sample_at}
use Rattle.open_metrics.specs.Numbers.{number_at, signed_at, exponent_at, scaled_at}
use Rattle.open_metrics.specs.Texts.{char_at, escape_at, text_at, until_end}
use Rattle.open_metrics.specs.Tokens.{after_blanks, blanks_at, byte_at, gap_at, goes_on}
use Rattle.open_metrics.specs.Tokens.{count_front, front, behind, name_at}
use Rattle.decimal_text.specs.Reading.{digits_at, digits_in_front, fraction_at}
use Rattle.decimal_text.specs.Tenths.{nearest_at}

-- no byte goes on with a word here
abbrev pub Stops : Class → List ℕ → Type 0
Stops class [] = Unit {0}
Stops class (c ∷ cs) = goes_on class c ≡ false

pub count_again : (class : Class) (xs rest : List ℕ) → AreIn class xs → Stops class rest
    → count_front class (xs ++ rest) ≡ length xs
unfolding count_front
count_again class [] [] are stop = refl
count_again class [] (c ∷ cs) are stop = rw stop refl
count_again class (x ∷ xs) rest are stop = rw are.0 (ap suc (count_again class xs rest are.1 stop))

pub front_again : (class : Class) (xs rest : List ℕ) → AreIn class xs → Stops class rest
    → front class (xs ++ rest) ≡ xs
front_again class xs rest are stop =
    ap (λ (n : ℕ). take n (xs ++ rest)) (count_again class xs rest are stop)
    ∙ take_at xs rest (length xs) refl

pub behind_again : (class : Class) (xs rest : List ℕ) → AreIn class xs → Stops class rest
    → behind class (xs ++ rest) ≡ rest
behind_again class xs rest are stop =
    ap (λ (n : ℕ). drop n (xs ++ rest)) (count_again class xs rest are stop)
    ∙ drop_at xs rest (length xs) refl

pub name_again : (class : Class) (why : Reason) (name rest : List ℕ) → IsName class name
    → Stops class rest → name_at class why (name ++ rest) ≡ Ok (name, rest)
unfolding name_at
name_again class why name rest is stop =
    let f = front_again class name rest is.in_class stop in
    let b = behind_again class name rest is.in_class stop in
    rw (f, b, is.begun) refl

same_char : (a b : ℕ) (rest : List ℕ) → a ≡ b
    → ◌≡◌ {A = Result (Option ℕ × List ℕ) Fault} (Ok (Some a, rest)) (Ok (Some b, rest))
same_char a b rest e =
    ap (λ (x : ℕ). let r : Result (Option ℕ × List ℕ) Fault = Ok (Some x, rest) in r) e

escaped_again : (c : ℕ) (rest : List ℕ) → char_at (escape_then c rest) ≡ Ok (Some c, rest)
unfolding char_at escape_at
escaped_again c rest =
    elim (cases_Bool (eqb c 92)) [
      | inl e ↦ rw e (same_char 92 c rest (sym (eqb-true c 92 e)))
      | inr e ↦ elim (cases_Bool (eqb c 34)) [
        | inl f ↦ rw (e, f) (same_char 34 c rest (sym (eqb-true c 34 f)))
        | inr f ↦ elim (cases_Bool (eqb c 10)) [
          | inl g ↦ rw (e, f, g) (same_char 10 c rest (sym (eqb-true c 10 g)))
          | inr g ↦ rw (e, f, g, f, e, g) refl
        ]
      ]
    ]

-- a backslash that begins no escape
itself_again : (rest : List ℕ) → IsNoEscape rest → escape_at rest ≡ (92, rest)
unfolding escape_at
itself_again [] none = refl
itself_again (c ∷ cs) none = rw none refl

backslash_again : (rest : List ℕ) → IsNoEscape rest → char_at (92 ∷ rest) ≡ Ok (Some 92, rest)
unfolding char_at
backslash_again rest none = rw (itself_again rest none) refl

char_again : (c : ℕ) (rest bytes : List ℕ) → SpellsChar c rest bytes
    → char_at bytes ≡ Ok (Some c, rest)
char_again c rest bytes (inl is) = ap char_at is ∙ escaped_again c rest
char_again c rest bytes (inr is) =
    ap char_at is.1 ∙ (backslash_again rest is.2 ∙ same_char 92 c rest (sym is.0))

text_again_in : (cs rest bytes : List ℕ) (n : ℕ) → SpellsText cs rest bytes → length cs < n
    → until_end char_at reason.Text n bytes ≡ Ok (cs, rest)
unfolding until_end char_at
text_again_in [] rest bytes zero is lt = absurd (omega arith)
text_again_in [] rest bytes (suc n) is lt = ap (until_end char_at reason.Text (suc n)) is
text_again_in (c ∷ cs) rest bytes zero is lt = absurd (omega arith)
text_again_in (c ∷ cs) rest bytes (suc n) is lt =
    let one = char_again c is.0 bytes is.1 in
    let others = text_again_in cs rest is.0 n is.2 (omega arith) in
    rw (one, others) refl

escape_long : (c : ℕ) (rest : List ℕ) → suc (length rest) ≤ length (escape_then c rest)
escape_long c rest =
    elim (cases_Bool (eqb c 92)) [
      | inl e ↦ rw e (omega arith)
      | inr e ↦ elim (cases_Bool (eqb c 34)) [
        | inl f ↦ rw (e, f) (omega arith)
        | inr f ↦ elim (cases_Bool (eqb c 10)) [
          | inl g ↦ rw (e, f, g) (omega arith)
          | inr g ↦ rw (e, f, g) (omega arith)
        ]
      ]
    ]

char_long : (c : ℕ) (rest bytes : List ℕ) → SpellsChar c rest bytes
    → suc (length rest) ≤ length bytes
char_long c rest bytes (inl is) =
    subst (λ (b : List ℕ). suc (length rest) ≤ length b) (sym is) (escape_long c rest)
char_long c rest bytes (inr is) =
    subst (λ (b : List ℕ). suc (length rest) ≤ length b) (sym is.1) (omega arith)

text_long : (cs rest bytes : List ℕ) → SpellsText cs rest bytes → length cs < length bytes
text_long [] rest bytes is = subst (λ (b : List ℕ). 0 < length b) (sym is) (omega arith)
text_long (c ∷ cs) rest bytes is =
    omega (arith, text_long cs rest is.0 is.2, char_long c is.0 bytes is.1)

pub text_again : (cs rest bytes : List ℕ) → SpellsText cs rest bytes
    → text_at bytes ≡ Ok (cs, rest)
unfolding text_at
text_again cs rest bytes is = text_again_in cs rest bytes (length bytes) is (text_long cs rest bytes is)

-- BLANKS
true_is_false : true ≡ false → ⊥
true_is_false e = absurd cc

-- a blank goes on with no other word
not_both : (class : Class) → goes_on class 32 ≡ false → goes_on class 9 ≡ false → (c : ℕ)
    → goes_on class c ≡ true → goes_on Blank c ≡ false
not_both class space tab c h =
    elim (cases_Bool (eqb c 32)) [
      | inl e ↦ absurd (true_is_false
          (sym (subst (λ (x : ℕ). goes_on class x ≡ true) (eqb-true c 32 e) h) ∙ space))
      | inr e ↦ elim (cases_Bool (eqb c 9)) [
        | inl f ↦ absurd (true_is_false
            (sym (subst (λ (x : ℕ). goes_on class x ≡ true) (eqb-true c 9 f) h) ∙ tab))
        | inr f ↦ rw (e, f) refl
      ]
    ]

-- nor a blank with a word
blank_stops : (class : Class) → goes_on class 32 ≡ false → goes_on class 9 ≡ false → (c : ℕ)
    → goes_on Blank c ≡ true → goes_on class c ≡ false
blank_stops class space tab c h =
    elim (cases_Bool (goes_on class c)) [
      | inl e ↦ absurd (true_is_false (sym h ∙ not_both class space tab c e))
      | inr e ↦ e
    ]

-- what begins with a byte that is no blank
abbrev pub Begins : List ℕ → Type 0
Begins [] = ⊥
Begins (c ∷ cs) = goes_on Blank c ≡ false

begins_stops : (bytes : List ℕ) → Begins bytes → Stops Blank bytes
begins_stops [] h = absurd h
begins_stops (c ∷ cs) h = h

pub blanks_again : (format : Format) (blanks rest : List ℕ) → AreBlanks format blanks
    → Begins rest → after_blanks format (blanks ++ rest) ≡ rest
blanks_again OpenMetrics blanks rest are begins = ap (λ (b : List ℕ). b ++ rest) are
blanks_again Prometheus blanks rest are begins =
    behind_again Blank blanks rest are (begins_stops rest begins)

no_blanks : (format : Format) (rest : List ℕ) → Begins rest → after_blanks format rest ≡ rest
no_blanks OpenMetrics rest begins = refl
no_blanks Prometheus rest begins = behind_again Blank [] rest tt (begins_stops rest begins)

-- blanks, and a byte behind them, stop a word
after_stops : (class : Class) (format : Format) (blanks : List ℕ) (c : ℕ) (rest : List ℕ)
    → goes_on class 32 ≡ false → goes_on class 9 ≡ false → goes_on class c ≡ false
    → AreBlanks format blanks → Stops class (blanks ++ c ∷ rest)
after_stops class format [] c rest space tab stop are = stop
after_stops class OpenMetrics (b ∷ bs) c rest space tab stop are = absurd cc
after_stops class Prometheus (b ∷ bs) c rest space tab stop are =
    blank_stops class space tab b are.0

gap_stops : (class : Class) (format : Format) (gap rest : List ℕ)
    → goes_on class 32 ≡ false → goes_on class 9 ≡ false → IsGap format gap
    → Stops class (gap ++ rest)
gap_stops class OpenMetrics gap rest space tab is =
    subst (λ (g : List ℕ). Stops class (g ++ rest)) (sym is) space
gap_stops class Prometheus [] rest space tab is = absurd (omega (arith, is.0))
gap_stops class Prometheus (b ∷ bs) rest space tab is = blank_stops class space tab b is.1.0

gap_again : (format : Format) (why : Reason) (gap rest : List ℕ) → IsGap format gap → Begins rest
    → gap_at format why (gap ++ rest) ≡ Ok rest
unfolding byte_at blanks_at
gap_again OpenMetrics why gap rest is begins =
    ap (λ (g : List ℕ). gap_at OpenMetrics why (g ++ rest)) is
gap_again Prometheus why [] rest is begins = absurd (omega (arith, is.0))
gap_again Prometheus why (b ∷ bs) rest is begins =
    let behind_is = behind_again Blank bs rest is.1.1 (begins_stops rest begins) in
    rw (is.1.0, behind_is) refl

name_begins : (class : Class) (name rest : List ℕ) → goes_on class 32 ≡ false
    → goes_on class 9 ≡ false → IsName class name → Begins (name ++ rest)
name_begins class [] rest space tab is = absurd (let b = is.begun in cc)
name_begins class (c ∷ cs) rest space tab is = not_both class space tab c is.in_class.0

-- LABELS
pub pair_again : (format : Format) (p : Pair) (after bytes : List ℕ) → IsName Label p.0
    → SpellsPair format p after bytes → pair_at format bytes ≡ Ok (p, after)
unfolding pair_at byte_at
pair_again format p after bytes is spells =
    let from_text = 34 ∷ spells.value in
    let from_quote = spells.behind ++ from_text in
    let from_equals = 61 ∷ from_quote in
    let from_name = spells.between ++ from_equals in
    let one =
    blanks_again format spells.before (p.0 ++ from_name) spells.before_blank
    (name_begins Label p.0 from_name refl refl is) in
    let name =
    name_again Label reason.Label p.0 from_name is
    (after_stops Label format spells.between 61 from_quote refl refl refl spells.between_blank) in
    let two = blanks_again format spells.between from_equals spells.between_blank refl in
    let three = blanks_again format spells.behind from_text spells.behind_blank refl in
    let text = text_again p.1 after spells.value spells.value_is in
    ap (pair_at format) spells.text ∙ rw (one, name, two, three, text) refl

end_again : (format : Format) (blanks close rest : List ℕ) → AreBlanks format blanks
    → IsClose format close → next_at format (blanks ++ (close ++ rest)) ≡ Ok (None, rest)
unfolding comma_at after_comma
end_again OpenMetrics blanks close rest are is =
    ap (λ (b : List ℕ). comma_at OpenMetrics (b ++ (close ++ rest))) are
    ∙ ap (λ (c : List ℕ). comma_at OpenMetrics (c ++ rest)) is
end_again Prometheus blanks close rest are (inl is) =
    ap (λ (c : List ℕ). next_at Prometheus (blanks ++ (c ++ rest))) is
    ∙ ap (comma_at Prometheus) (blanks_again Prometheus blanks (125 ∷ rest) are refl)
end_again Prometheus blanks close rest are (inr is) =
    let more = is.0 ++ 125 ∷ rest in
    let text : close ++ rest ≡ 44 ∷ more =
    ap (λ (c : List ℕ). c ++ rest) is.2
    ∙ ap (λ (r : List ℕ). 44 ∷ r) (append_assoc is.0 (125 ∷ []) rest) in
    let brace = blanks_again Prometheus is.0 (125 ∷ rest) is.1 refl in
    ap (λ (t : List ℕ). next_at Prometheus (blanks ++ t)) text
    ∙ (ap (comma_at Prometheus) (blanks_again Prometheus blanks (44 ∷ more) are refl)
    ∙ rw brace refl)

name_no_end : (name rest : List ℕ) → IsName Label name → is_end (name ++ rest) ≡ false
name_no_end [] rest is = absurd (let b = is.begun in cc)
name_no_end (c ∷ cs) rest is =
    elim (cases_Bool (eqb c 125)) [
      | inl e ↦ absurd (let a = (is.in_class).0 in let f = eqb-true c 125 e in
          let b : goes_on Label 125 ≡ true = subst (λ (x : ℕ). goes_on Label x ≡ true) f a in cc)
      | inr e ↦ e
    ]

-- where a label stands, no brace does
pair_no_end : (format : Format) (p : Pair) (after bytes : List ℕ) → IsName Label p.0
    → SpellsPair format p after bytes → is_end (after_blanks format bytes) ≡ false
pair_no_end format p after bytes is spells =
    let from_name = spells.between ++ (61 ∷ (spells.behind ++ (34 ∷ spells.value))) in
    ap (λ (b : List ℕ). is_end (after_blanks format b)) spells.text
    ∙ (ap is_end (blanks_again format spells.before (p.0 ++ from_name) spells.before_blank
    (name_begins Label p.0 from_name refl refl is))
    ∙ name_no_end p.0 from_name is)

comma_again : (format : Format) (p : Pair) (more after : List ℕ) → IsName Label p.0
    → SpellsPair format p after more → after_comma format more ≡ Ok (Some p, after)
unfolding after_comma
comma_again OpenMetrics p more after is spells =
    rw (pair_again OpenMetrics p after more is spells) refl
comma_again Prometheus p more after is spells =
    rw (
      pair_no_end Prometheus p after more is spells,
      pair_again Prometheus p after more is
          spells,
    ) refl

next_again : (format : Format) (p : Pair) (blanks more after : List ℕ) → AreBlanks format blanks
    → IsName Label p.0 → SpellsPair format p after more
    → next_at format (blanks ++ 44 ∷ more) ≡ Ok (Some p, after)
unfolding comma_at
next_again format p blanks more after are is spells =
    ap (comma_at format) (blanks_again format blanks (44 ∷ more) are refl)
    ∙ comma_again format p more after is spells

others_again_in : (format : Format) (ps : List Pair) (rest bytes : List ℕ) (n : ℕ)
    → AllByRecursion (λ (p : Pair). IsName Label p.0) ps → SpellsOthers format ps rest bytes
    → length ps < n → until_end (next_at format) reason.Many n bytes ≡ Ok (ps, rest)
unfolding until_end
others_again_in format [] rest bytes zero are is lt = absurd (omega arith)
others_again_in format [] rest bytes (suc n) are is lt =
    let one = ap (next_at format) is.4 ∙ end_again format is.0 is.1 rest is.2 is.3 in
    rw one refl
others_again_in format (p ∷ ps) rest bytes zero are is lt = absurd (omega arith)
others_again_in format (p ∷ ps) rest bytes (suc n) are is lt =
    let one = ap (next_at format) is.4 ∙ next_again format p is.0 is.1 is.2 is.3 are.0 is.5 in
    let others = others_again_in format ps rest is.2 n are.1 is.6 (omega arith) in
    rw (one, others) refl

within_again : (format : Format) (labels : List Pair) (rest bytes : List ℕ)
    → AllByRecursion (λ (p : Pair). IsName Label p.0) labels → length labels ≤ 64
    → SpellsWithin format labels rest bytes → within_at format bytes ≡ Ok (labels, rest)
unfolding within_at others_at
within_again format [] rest bytes are few is =
    let brace =
    ap (after_blanks format) is.2 ∙ blanks_again format is.0 (125 ∷ rest) is.1 refl in
    rw brace refl
within_again format (p ∷ ps) rest bytes are few is =
    let no = pair_no_end format p is.0 bytes are.0 is.1 in
    let one = pair_again format p is.0 bytes are.0 is.1 in
    let others = others_again_in format ps rest is.0 64 are.1 is.2 (omega arith) in
    rw (no, one, others) refl

same_labels : (ls : List Pair) (a b : List ℕ) → [] ≡ ls → a ≡ b
    → ◌≡◌ {A = Result (List Pair × List ℕ) Fault} (Ok ([], a)) (Ok (ls, b))
same_labels ls a b e f =
    ap (λ (r : List ℕ). let y : Result (List Pair × List ℕ) Fault = Ok ([], r) in y) f
    ∙ ap (λ (x : List Pair). let y : Result (List Pair × List ℕ) Fault = Ok (x, b) in y) e

-- no labels stand where a gap does
none_again : (format : Format) (gap rest : List ℕ) → IsGap format gap
    → labels_at format (gap ++ rest) ≡ Ok ([], gap ++ rest)
unfolding labels_at
none_again OpenMetrics gap rest is =
    subst (λ (g : List ℕ). labels_at OpenMetrics (g ++ rest)
    ≡ (let y : Result (List Pair × List ℕ) Fault = Ok ([], g ++ rest) in y)) (sym is) refl
none_again Prometheus [] rest is = absurd (omega (arith, is.0))
none_again Prometheus (b ∷ bs) rest is =
    elim (cases_Bool (eqb b 123)) [
      | inl e ↦ absurd (true_is_false
          (sym (subst (λ (x : ℕ). goes_on Blank x ≡ true) (eqb-true b 123 e) is.1.0) ∙ refl))
      | inr e ↦ rw e refl
    ]

pub labels_again : (format : Format) (labels : List Pair) (gap rest bytes : List ℕ)
    → AllByRecursion (λ (p : Pair). IsName Label p.0) labels → length labels ≤ 64
    → IsGap format gap → SpellsLabels format labels (gap ++ rest) bytes
    → labels_at format bytes ≡ Ok (labels, gap ++ rest)
unfolding labels_at
labels_again format labels gap rest bytes are few is (inl spells) =
    ap (labels_at format) spells.1
    ∙ within_again format labels (gap ++ rest) spells.0 are few spells.2
labels_again format labels gap rest bytes are few is (inr spells) =
    ap (labels_at format) spells.1
    ∙ (none_again format gap rest is
    ∙ same_labels labels (gap ++ rest) (gap ++ rest) (sym spells.0) refl)

stops_tail : (format : Format) (tail : List ℕ) (exemplar : Bool) → IsTail format tail exemplar
    → Stops Word tail
stops_tail format [] exemplar is = tt
stops_tail OpenMetrics (c ∷ cs) exemplar is = subst (Stops Word) (sym is.0.is) refl
stops_tail Prometheus (c ∷ cs) exemplar is = absurd is

tail_again : (format : Format) (tail : List ℕ) (exemplar : Bool) → IsTail format tail exemplar
    → tail_at format tail ≡ Ok exemplar
unfolding tail_at exemplar_at byte_at
tail_again format [] exemplar is = ap (λ (b : Bool). let r : Result Bool Fault = Ok b in r) (sym is)
tail_again OpenMetrics (c ∷ cs) exemplar is =
    ap (tail_at OpenMetrics) is.0.is
    ∙ ap (λ (b : Bool). let r : Result Bool Fault = Ok b in r) (sym is.1)
tail_again Prometheus (c ∷ cs) exemplar is = absurd is

same_sampled : (s t : Sampled) → s ≡ t → ◌≡◌ {A = Result Sampled Fault} (Ok s) (Ok t)
same_sampled s t e = ap (λ (x : Sampled). let r : Result Sampled Fault = Ok x in r) e

stops_labels : (format : Format) (labels : List Pair) (gap rest bytes : List ℕ)
    → IsGap format gap → SpellsLabels format labels (gap ++ rest) bytes → Stops Metric bytes
stops_labels format labels gap rest bytes is (inl spells) =
    subst (Stops Metric) (sym spells.1) refl
stops_labels format labels gap rest bytes is (inr spells) =
    subst (Stops Metric) (sym spells.1) (gap_stops Metric format gap rest refl refl is)

-- a number has a byte
number_begins : (value : List ℕ) (places : ℕ) (v : Value) (rest : List ℕ)
    → number_at value places ≡ Some v → AreIn Word value → Begins (value ++ rest)
unfolding number_at signed_at exponent_at scaled_at count_front nearest_at digits_at fraction_at
    digits_in_front
number_begins [] places v rest is are = absurd cc
number_begins (c ∷ cs) places v rest is are = not_both Word refl refl c are.0

-- behind its blanks a sample begins with its name
pub begins_with : (format : Format) (places : ℕ) (line : List ℕ) (s : Sampled)
    (is : IsSample format places line s) → after_blanks format line ≡ s.name ++ is.from_labels
begins_with format places line s is =
    ap (after_blanks format) is.line_is
    ∙ blanks_again format is.lead (s.name ++ is.from_labels) is.lead_is
    (name_begins Metric s.name is.from_labels refl refl is.name_is)

pub sample_again : (format : Format) (places : ℕ) (line : List ℕ) (s : Sampled)
    → IsSample format places line s → sample_at format places (after_blanks format line) ≡ Ok s
unfolding sample_at value_at time_at
sample_again format places line s is =
    let from_time = is.time ++ is.tail in
    let from_pause = is.pause ++ from_time in
    let from_value = is.value ++ from_pause in
    let after_labels = is.gap ++ from_value in
    let first = begins_with format places line s is in
    let stop_name =
    stops_labels format s.labels is.gap from_value is.from_labels is.gap_is is.labels_are in
    let name = name_again Metric reason.Name s.name is.from_labels is.name_is stop_name in
    let labels =
    labels_again format s.labels is.gap from_value is.from_labels is.label_names is.few is.gap_is
    is.labels_are in
    let gap =
    gap_again format reason.Value is.gap from_value is.gap_is
    (number_begins is.value places s.value from_pause is.value_is is.value_word) in
    let stop_value = gap_stops Word format is.pause from_time refl refl is.pause_is in
    let value_front = front_again Word is.value from_pause is.value_word stop_value in
    let value_rest = behind_again Word is.value from_pause is.value_word stop_value in
    let pause =
    gap_again format reason.Time is.pause from_time is.pause_is
    (number_begins is.time (time_places format) (Parts s.time) is.tail is.time_is is.time_word) in
    let stop = stops_tail format is.tail s.exemplar is.tail_is in
    let time_front = front_again Word is.time is.tail is.time_word stop in
    let time_rest = behind_again Word is.time is.tail is.time_word stop in
    let tail = tail_again format is.tail s.exemplar is.tail_is in
    ap (sample_at format places) first
    ∙ rw (
      name,
      labels,
      gap,
      value_front,
      value_rest,
      is.value_is,
      pause,
      time_front,
      time_rest,
      is.time_is,
      tail,
    )
    (ap (λ (x : Sampled). let r : Result Sampled Fault = Ok x in r)
    (λ i. record {
      name = s.name;
      labels = s.labels;
      value = s.value;
      time = s.time;
      exemplar = s.exemplar;
      from_value = sym is.value_from i;
      from_time = sym is.time_from i;
    }))
