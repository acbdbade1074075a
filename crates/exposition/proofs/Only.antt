-- A text says one thing.
use Rattle.std.specs.Prelude.{◌≡◌, ◌≢◌, ℕ, ℤ, suc, ◌+◌, T, List, [], ◌∷◌, ◌++◌, get_or}
use Rattle.std.specs.Prelude.{Option, None, Some, Result, Ok, Err, IfOk, IfErr, refl}
use Rattle.std.specs.List.{AllByRecursion}
use Rattle.std.specs.Str.{bytes_eq}
use Rattle.std.specs.Ordering.{is_lt, eq_by_cmp}
use Rattle.std.specs.declared.cmp.Ordering.TheVariants.{Less}
use Rattle.std.specs.Cmp.Lexicographic.{texts_ties}
use Rattle.std.specs.FinMap.Entries.{find, below_all, is_sorted, same_entries}
use Rattle.std.proofs.Common.{sym, ap, subst, ◌∙◌, arith, inl, inr}
use Rattle.std.proofs.lemmas.Bool.{cases_Bool}
use Rattle.std.proofs.lemmas.List.Elements.{recursion_from_All}
use Rattle.wire.proofs.Steps.{same_value}
use Rattle.stored_doubles.proofs.Numbers.{one_number}
use Rattle.double_text.specs.Texts.{double_at}
use Rattle.labels.specs.Labels.{Labels, IsByName, text_cmp, value_of}
use Rattle.labels.specs.LabelSets.{IsMadeOf}
use Rattle.labels.proofs.Texts.{text_total, text_exact, bytes_turn}
use Rattle.labels.proofs.Times.{both_T, T_of}
use Rattle.open_metrics.specs.declared.comments.Format.{Format}
use Rattle.open_metrics.specs.declared.comments.Format.TheVariants.{OpenMetrics, Prometheus}
use Rattle.open_metrics.specs.declared.numbers.Value.{Value}
use Rattle.open_metrics.specs.declared.numbers.Value.TheVariants.{Parts, Near, Other}
use Rattle.open_metrics.specs.Labels.{Pair}
use Rattle.open_metrics.specs.Lines.{Sampled, Meaning, nothing, end, sampled}
use Rattle.exposition.specs.declared.error.ReadError.{ReadError}
use Rattle.exposition.specs.declared.error.ReadError.TheVariants.{Memory, Refused}
use Rattle.exposition.specs.declared.error.Refusal.{Refusal}
use Rattle.exposition.specs.declared.text.Exposition.{Exposition}
use Rattle.exposition.specs.declared.text.Fractions.{Fractions}
use Rattle.exposition.specs.declared.text.Fractions.TheVariants.{Beside, Rounded}
use Rattle.exposition.specs.declared.text.Left.{Left}
use Rattle.exposition.specs.declared.text.Reading.{Reading}
use Rattle.exposition.specs.declared.text.Reading.TheVariants.{Decimals, Doubles}
use Rattle.exposition.specs.Faults.{line_fault, meaning_fault}
use Rattle.exposition.specs.Reading.{Said, AddsValue, AddsSample, Adds, AddsLine, AddAll, IsText}
use Rattle.exposition.specs.Reading.{IsValueAs, fractions_in, place_of}
use Rattle.exposition.specs.Reading.{IsBeside, IsCutInto, IsPutOver, lines_in, told_in, unsaid}
use Rattle.exposition.specs.Refusing.{Gives, IfRefused, IsRefused, MissesEnd}
use Rattle.exposition.specs.Values.{IsKeptFor, text_before}
use Rattle.exposition.proofs.Endings.{end_of, one_cut}

-- LABEL SETS
tail : (p : Pair) (ps : Labels) → IsByName (p ∷ ps) → IsByName ps
tail p ps by k d lt =
    let moved : suc k + 1 ≡ suc (k + 1) = omega arith in
    subst (λ (n : ℕ). text_cmp (get_or ps k d).0 (get_or (p ∷ ps) n d).0 ≡ Less) moved
    (by (suc k) d (omega (arith, lt)))

below : (x : List ℕ) (p : Pair) (ps : Labels) → text_cmp x p.0 ≡ Less → IsByName (p ∷ ps)
    → T (below_all text_cmp x (p ∷ ps))
below x p [] less by = both_T _ _ (T_of _ (ap is_lt less)) tt
below x p (q ∷ qs) less by =
    both_T _ _ (T_of _ (ap is_lt less))
    (below x q qs (text_total.trans x p.0 q.0 less (by 0 p (omega arith))) (tail p (q ∷ qs) by))

sorted : (ps : Labels) → IsByName ps → T (is_sorted text_cmp ps)
sorted [] by = tt
sorted (p ∷ []) by = tt
sorted (p ∷ q ∷ qs) by =
    both_T _ _ (below p.0 q qs (by 0 p (omega arith)) (tail p (q ∷ qs) by))
    (sorted (q ∷ qs) (tail p (q ∷ qs) by))

-- a text that is not empty
abbrev given : List ℕ → Option (List ℕ)
given [] = None
given (c ∷ cs) = Some (c ∷ cs)

is_given : (text : List ℕ) → text ≢ [] → given text ≡ Some text
is_given [] some = absurd (some refl)
is_given (c ∷ cs) some = refl

tie : (q x : List ℕ) → eq_by_cmp text_cmp q x ≡ bytes_eq x q
tie q x = sym (texts_ties q x) ∙ bytes_turn q x

found_value : (q : List ℕ) (ps : Labels) → AllByRecursion (λ (p : Pair). p.1 ≢ []) ps
    → find text_cmp q ps ≡ given (value_of ps q)
found_value q [] all = refl
found_value q (p ∷ ps) all =
    elim (cases_Bool (bytes_eq p.0 q)) [
      | inl e ↦ rw (tie q p.0, e) (sym (is_given p.1 all.0))
      | inr e ↦ rw (tie q p.0, e) (found_value q ps all.1)
    ]

-- pairs make one label set
made_once : (a b : Labels) (pairs : List Pair) → IsMadeOf a pairs → IsMadeOf b pairs → a ≡ b
made_once a b pairs p q =
    same_entries text_cmp text_total (λ x y e. text_exact x y e) a b
    (sorted a p.label_set.by_name) (sorted b q.label_set.by_name)
    (λ n.
    found_value n a (recursion_from_All _ a p.label_set.valued)
    ∙ (ap given (p.values n ∙ sym (q.values n))
    ∙ sym (found_value n b (recursion_from_All _ b q.label_set.valued))))

-- LINES
pub same_said : (a b : Said) → a.content ≡ b.content → a.count ≡ b.count → a.others ≡ b.others
    → a.rounded ≡ b.rounded → a ≡ b
same_said a b e f g h =
    ap (λ x. record { content = x; count = a.count; others = a.others; rounded = a.rounded }) e
    ∙ (ap (λ x. record { content = b.content; count = x; others = a.others; rounded = a.rounded }) f
    ∙ (ap (λ x. record { content = b.content; count = b.count; others = x; rounded = a.rounded }) g
    ∙ ap (λ x. record {
      content = b.content;
      count = b.count;
      others = b.others;
      rounded = x;
    }) h))

put_once : (v : ℤ) (l : Labels) (place : Left) (old a b : Said) → a.rounded ≡ b.rounded
    → IsPutOver v l place old a → IsPutOver v l place old b → a ≡ b
put_once v l place old a b h p q =
    same_said a b (p.0 ∙ sym q.0) (p.1 ∙ sym q.1) (p.2 ∙ sym q.2) h

beside_once : (place : Left) (old a b : Said) → IsBeside place old a → IsBeside place old b → a ≡ b
beside_once place old a b p q =
    same_said a b (p.0 ∙ sym q.0) (p.1 ∙ sym q.1) (p.2 ∙ sym q.2) (p.3 ∙ sym q.3)

value_once : (f : Fractions) (v : Value) (l : Labels) (place : Left) (old a b : Said)
    → AddsValue f v l place old a → AddsValue f v l place old b → a ≡ b
value_once f (Parts v) l place old a b p q =
    put_once v l place old a b (p.1 ∙ sym q.1) p.0 q.0
value_once Rounded (Near v) l place old a b p q =
    put_once v l place old a b (p.1 ∙ sym q.1) p.0 q.0
value_once Beside (Near v) l place old a b p q = beside_once place old a b p q
value_once f Other l place old a b p q = beside_once place old a b p q

kept_once : (o : Option ℕ) (v w : Value) → IsKeptFor o v → IsKeptFor o w → v ≡ w
kept_once None v w a b = a ∙ sym b
kept_once (Some bits) v w a b =
    a.1 ∙ (ap (λ (z : ℤ). Parts z) (one_number bits a.0 b.0 a.2 b.2 a.3 b.3) ∙ sym b.1)

value_as_once : (r : Reading) (line : List ℕ) (s : Sampled) (v w : Value) → IsValueAs r line s v
    → IsValueAs r line s w → v ≡ w
value_as_once (Decimals f) line s v w a b = a ∙ sym b
value_as_once Doubles line s v w a b =
    kept_once (double_at (text_before line s.from_value)) v w a b

sample_once : (f : Reading) (n : ℕ) (line : List ℕ) (s : Sampled) (old a b : Said)
    → AddsSample f n line s old a → AddsSample f n line s old b → a ≡ b
sample_once f n line s old a b p q =
    let place = place_of n line s in
    let same = value_as_once f line s p.value q.value p.is q.is in
    value_once (fractions_in f) q.value q.labels place old a b
    (subst (λ (l : Labels). AddsValue (fractions_in f) q.value l place old a)
    (made_once p.labels q.labels _ p.made q.made)
    (subst (λ (v : Value). AddsValue (fractions_in f) v p.labels place old a) same p.adds))
    q.adds

adds_once : (f : Reading) (n : ℕ) (line : List ℕ) (m : Meaning) (old a b : Said)
    → Adds f n line m old a → Adds f n line m old b → a ≡ b
adds_once f n line nothing old a b p q = p ∙ sym q
adds_once f n line end old a b p q = absurd p
adds_once f n line (sampled s) old a b p q = sample_once f n line s old a b p q

line_once : (format : Format) (places : ℕ) (f : Reading) (n : ℕ) (line : List ℕ) (old a b : Said)
    → AddsLine format places f n line old a → AddsLine format places f n line old b → a ≡ b
line_once format places f n line old a b p q =
    let same = same_value p.meaning q.meaning (sym p.read ∙ q.read) in
    adds_once f n line q.meaning old a b
    (subst (λ (m : Meaning). Adds f n line m old a) same p.adds) q.adds

all_once : (format : Format) (places : ℕ) (f : Reading) (n : ℕ) (lines : List (List ℕ))
    (old a b : Said) → AddAll format places f n lines old a → AddAll format places f n lines old b → a ≡ b
all_once format places f n [] old a b p q = p ∙ sym q
all_once format places f n (line ∷ lines) old a b p q =
    let same = line_once format places f n line old p.0 q.0 p.1 q.1 in
    all_once format places f (n + 1) lines q.0 a b
    (subst (λ (x : Said). AddAll format places f (n + 1) lines x a) same p.2) q.2

no_fault : (f : Reading) (n : ℕ) (line : List ℕ) (m : Meaning) (old new : Said)
    → Adds f n line m old new → meaning_fault line (Ok m) ≡ None
no_fault f n line nothing old new p = refl
no_fault f n line end old new p = absurd p
no_fault f n line (sampled s) old new p = p.faultless

line_faultless : (format : Format) (places : ℕ) (f : Reading) (n : ℕ) (line : List ℕ)
    (old new : Said) → AddsLine format places f n line old new → line_fault format places line ≡ None
line_faultless format places f n line old new p =
    ap (meaning_fault line) p.read ∙ no_fault f n line p.meaning old new p.adds

-- a line among those that say something has no fault
among : (format : Format) (places : ℕ) (f : Reading) (n : ℕ) (before : List (List ℕ))
    (line : List ℕ) (after : List (List ℕ)) (old new : Said)
    → AddAll format places f n (before ++ line ∷ after) old new
    → line_fault format places line ≡ None
among format places f n [] line after old new p = line_faultless format places f n line old p.0 p.1
among format places f n (l ∷ ls) line after old new p =
    among format places f (n + 1) ls line after p.0 new p.2

-- TEXTS
not_endless : (format : Format) (all lines : List (List ℕ)) (r : Refusal)
    → MissesEnd format all r → IsCutInto format all lines → ⊥
not_endless OpenMetrics all lines r p cut =
    p.2.no_end lines (end_of all p.0 lines p.1 cut)
not_endless Prometheus all lines r p cut = p

no_place : {A : Type 0} (x : A) (o : Option A) → o ≡ Some x → o ≡ None → ⊥
no_place x o e f = absurd (let g : Some x ≡ None = sym e ∙ f in cc)

not_refused : (format : Format) (places : ℕ) (f : Reading) (text : List ℕ) (said : Said)
    (r : Refusal) → IsText format places f text said → IsRefused format places f text r → ⊥
not_refused format places f text said r is (inl p) =
    not_endless format (lines_in text) is.lines r p is.cut
not_refused format places f text said r is (inr p) =
    let wrong = p.2 in
    let same = one_cut format (lines_in text) is.lines p.0 is.cut p.1 ∙ wrong.parts in
    no_place _ (line_fault format places wrong.line) wrong.wrong.1
    (among format places f 1 wrong.before wrong.line wrong.after unsaid said
    (subst (λ (ls : List (List ℕ)). AddAll format places f 1 ls unsaid said) same is.says))

text_once : (format : Format) (places : ℕ) (f : Reading) (text : List ℕ) (a b : Said)
    → IsText format places f text a → IsText format places f text b → a ≡ b
text_once format places f text a b p q =
    let same = one_cut format (lines_in text) p.lines q.lines p.cut q.cut in
    all_once format places f 1 q.lines unsaid a b
    (subst (λ (ls : List (List ℕ)). AddAll format places f 1 ls unsaid a) same p.says) q.says

pub only_in : (format : Format) (places : ℕ) (f : Reading) (text : List ℕ)
    (r : Result Exposition ReadError) (said : Said) → IfOk r (λ e. IsText format places f text (told_in e))
    → IfErr r (λ e. IfRefused e (IsRefused format places f text))
    → IsText format places f text said → Gives told_in r (Ok said)
only_in format places f text (Ok e) said found refused is =
    ap Ok (text_once format places f text said (told_in e) is found)
only_in format places f text (Err Memory) said found refused is = tt
only_in format places f text (Err (Refused r)) said found refused is =
    absurd (not_refused format places f text said r is refused)
