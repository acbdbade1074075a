-- What stands in the language is read by the machine, and as the matchers that it stands for.
use Rattle.std.proofs.Common.{◌≡◌, ℕ, true, false, ◌==◌, List, [], ◌∷◌, ◌++◌, Some, option_map, refl, sym, ap, subst, ◌∙◌, append_assoc}
use Rattle.std.specs.List.{list_all}
use Rattle.labels.specs.Names.{starts_name, continues_name, is_name}
use Rattle.matchers.specs.declared.matcher.Op.{Op}
use Rattle.matchers.specs.declared.matcher.Op.TheVariants as op
use Rattle.matchers.specs.declared.scanner.State.{State}
use Rattle.matchers.specs.declared.scanner.State.TheVariants.{Start, Metric, AfterMetric, Open, Comma, Label, AfterLabel, Equals, Bang, BeforeText, Text, Escape, AfterText, End}
use Rattle.matchers.specs.declared.scanner.Mark.{Mark}
use Rattle.matchers.specs.declared.scanner.Mark.TheVariants as mark
use Rattle.matchers.specs.Grammar.{is_space, IsSpace, starts_metric, continues_metric, is_metric, metric_matcher, op_text, escaped, written, BeginsMatcher, BeginsFurther, BeginsBraces, IsSelector, by_metric, by_braces, by_both}
use Rattle.matchers.specs.Scanner.{Move, step, marked, reads}
use Rattle.matchers.specs.Views.{MatcherView}
use Rattle.matchers.proofs.Branches.{cond_true, cond_false, by_cases, both_true, at_byte, space_fails, no_space}
use Rattle.matchers.proofs.Residues.{read_on}

abbrev view : List ℕ → Op → List ℕ → MatcherView
view name op text = record { name = name; op = op; text = text }

goes : (s : State) (b : ℕ) (bs : List ℕ) (next : State) (m : Mark) (ms : List MatcherView) →
    step s b ≡ Some (next, m) → reads bs next ≡ Some ms → reads (b ∷ bs) s ≡ Some (marked b m ms)
unfolding reads
goes s b bs next m ms e h =
    let P : Move → Type 0 = λ o. read_on b bs o ≡ Some (marked b m ms) in
    subst P (sym e) (ap (option_map (marked b m)) h)

abbrev Stays : State → Type 0
Stays s = (b : ℕ) → is_space b ≡ true → step s b ≡ Some (s, mark.Skip)

spaces : (s : State) → Stays s → (w bs : List ℕ) (ms : List MatcherView) → IsSpace w → reads bs s ≡ Some ms → reads (w ++ bs) s ≡ Some ms
spaces s stays [] bs ms each h = h
spaces s stays (b ∷ w) bs ms each h =
    let both = both_true (is_space b) (list_all is_space w) each in
    goes s b (w ++ bs) s mark.Skip ms (stays b both.0) (spaces s stays w bs ms both.1 h)

start_stays : Stays Start
unfolding step
start_stays b t = cond_true (is_space b) _ _ t

after_metric_stays : Stays AfterMetric
unfolding step
after_metric_stays b t = cond_true (is_space b) _ _ t

open_stays : Stays Open
unfolding step
open_stays b t = cond_true (is_space b) _ _ t

comma_stays : Stays Comma
unfolding step
comma_stays b t = cond_true (is_space b) _ _ t

after_label_stays : Stays AfterLabel
unfolding step
after_label_stays b t = cond_true (is_space b) _ _ t

before_text_stays : (op : Op) → Stays (BeforeText op)
unfolding step
before_text_stays op b t = cond_true (is_space b) _ _ t

after_text_stays : Stays AfterText
unfolding step
after_text_stays b t = cond_true (is_space b) _ _ t

end_stays : Stays End
unfolding step
end_stays b t = cond_true (is_space b) _ _ t

-- the texts in quotes

plain : (b : ℕ) → (b == 34) ≡ false → (b == 92) ≡ false → (b == 10) ≡ false → escaped b ≡ b ∷ []
plain b e f g = cond_false (b == 34) _ _ e ∙ cond_false (b == 92) _ _ f ∙ cond_false (b == 10) _ _ g

text_byte : (op : Op) (b : ℕ) (bs value : List ℕ) (ms : List MatcherView) →
    reads bs (Text op) ≡ Some (view [] op value ∷ ms) → reads (escaped b ++ bs) (Text op) ≡ Some (view [] op (b ∷ value) ∷ ms)
unfolding step
text_byte op b bs value ms h =
    let P : ℕ → Type 0 = λ x. reads (escaped x ++ bs) (Text op) ≡ Some (view [] op (x ∷ value) ∷ ms) in
    by_cases (b == 34)
    (λ t. at_byte P b 34 t (goes (Text op) 92 (34 ∷ bs) (Escape op) mark.Skip _ refl (goes (Escape op) 34 bs (Text op) mark.Text _ refl h)))
    (λ e. by_cases (b == 92)
    (λ t. at_byte P b 92 t (goes (Text op) 92 (92 ∷ bs) (Escape op) mark.Skip _ refl (goes (Escape op) 92 bs (Text op) mark.Text _ refl h)))
    (λ f. by_cases (b == 10)
    (λ t. at_byte P b 10 t (goes (Text op) 92 (110 ∷ bs) (Escape op) mark.Skip _ refl (goes (Escape op) 110 bs (Text op) mark.LineFeed _ refl h)))
    (λ g. rw (plain b e f g)
    (goes (Text op) b bs (Text op) mark.Text _ (cond_false (b == 34) _ _ e ∙ cond_false (b == 92) _ _ f ∙ cond_false (b == 10) _ _ g) h))))

in_text : (op : Op) (value tail : List ℕ) (ms : List MatcherView) → reads tail AfterText ≡ Some ms →
    reads (written value ++ (34 ∷ tail)) (Text op) ≡ Some (view [] op value ∷ ms)
unfolding step
in_text op [] tail ms h = goes (Text op) 34 tail AfterText (mark.Matcher op) ms refl h
in_text op (b ∷ value) tail ms h =
    rw (append_assoc (escaped b) (written value) (34 ∷ tail)) (text_byte op b (written value ++ (34 ∷ tail)) value ms (in_text op value tail ms h))

-- white space, and a text in quotes
abbrev quoted : List ℕ → List ℕ → List ℕ → List ℕ
quoted space value tail = space ++ (34 ∷ (written value ++ (34 ∷ tail)))

at_quote : (op : Op) (value tail : List ℕ) (ms : List MatcherView) → reads tail AfterText ≡ Some ms →
    reads (34 ∷ (written value ++ (34 ∷ tail))) (BeforeText op) ≡ Some (view [] op value ∷ ms)
unfolding step
at_quote op value tail ms h = goes (BeforeText op) 34 _ (Text op) mark.Skip _ refl (in_text op value tail ms h)

before_quote : (op : Op) (space value tail : List ℕ) (ms : List MatcherView) → IsSpace space → reads tail AfterText ≡ Some ms →
    reads (quoted space value tail) (BeforeText op) ≡ Some (view [] op value ∷ ms)
before_quote op space value tail ms each h = spaces (BeforeText op) (before_text_stays op) space _ _ each (at_quote op value tail ms h)

behind_equals : (space value tail : List ℕ) (ms : List MatcherView) → IsSpace space → reads tail AfterText ≡ Some ms →
    reads (quoted space value tail) Equals ≡ Some (view [] op.Equal value ∷ ms)
unfolding step
behind_equals [] value tail ms each h = goes Equals 34 _ (Text op.Equal) mark.Skip _ refl (in_text op.Equal value tail ms h)
behind_equals (b ∷ space) value tail ms each h =
    let both = both_true (is_space b) (list_all is_space space) each in
    goes Equals b (quoted space value tail) (BeforeText op.Equal) mark.Skip _
    (cond_false (b == 126) _ _ (space_fails (λ x. x == 126) refl refl refl refl b both.0) ∙ cond_true (is_space b) _ _ both.0)
    (before_quote op.Equal space value tail ms both.1 h)

at_op : (op : Op) (space value tail : List ℕ) (ms : List MatcherView) → IsSpace space → reads tail AfterText ≡ Some ms →
    reads (op_text op ++ quoted space value tail) AfterLabel ≡ Some (view [] op value ∷ ms)
unfolding step
at_op op.Equal space value tail ms each h = goes AfterLabel 61 _ Equals mark.Skip _ refl (behind_equals space value tail ms each h)
at_op op.NotEqual space value tail ms each h =
    goes AfterLabel 33 _ Bang mark.Skip _ refl (goes Bang 61 _ (BeforeText op.NotEqual) mark.Skip _ refl (before_quote op.NotEqual space value tail ms each h))
at_op op.Like space value tail ms each h =
    goes AfterLabel 61 _ Equals mark.Skip _ refl (goes Equals 126 _ (BeforeText op.Like) mark.Skip _ refl (before_quote op.Like space value tail ms each h))
at_op op.NotLike space value tail ms each h =
    goes AfterLabel 33 _ Bang mark.Skip _ refl (goes Bang 126 _ (BeforeText op.NotLike) mark.Skip _ refl (before_quote op.NotLike space value tail ms each h))

-- a label name ends where its operator begins
name_ends : (op : Op) (bs : List ℕ) (ms : List MatcherView) → reads (op_text op ++ bs) AfterLabel ≡ Some ms → reads (op_text op ++ bs) Label ≡ Some ms
unfolding reads step
name_ends op.Equal bs ms h = h
name_ends op.NotEqual bs ms h = h
name_ends op.Like bs ms h = h
name_ends op.NotLike bs ms h = h

behind_name : (op : Op) (before space value tail : List ℕ) (ms : List MatcherView) → IsSpace before → IsSpace space → reads tail AfterText ≡ Some ms →
    reads (before ++ (op_text op ++ quoted space value tail)) Label ≡ Some (view [] op value ∷ ms)
unfolding step
behind_name op [] space value tail ms first each h = name_ends op (quoted space value tail) _ (at_op op space value tail ms each h)
behind_name op (b ∷ before) space value tail ms first each h =
    let both = both_true (is_space b) (list_all is_space before) first in
    goes Label b (before ++ (op_text op ++ quoted space value tail)) AfterLabel mark.Skip _
    (cond_false (continues_name b) _ _ (space_fails continues_name refl refl refl refl b both.0) ∙ cond_true (is_space b) _ _ both.0)
    (spaces AfterLabel after_label_stays before _ _ both.1 (at_op op space value tail ms each h))

in_name : (name bs : List ℕ) (op : Op) (value : List ℕ) (ms : List MatcherView) → list_all continues_name name ≡ true →
    reads bs Label ≡ Some (view [] op value ∷ ms) → reads (name ++ bs) Label ≡ Some (view name op value ∷ ms)
unfolding step
in_name [] bs op value ms each h = h
in_name (b ∷ name) bs op value ms each h =
    let both = both_true (continues_name b) (list_all continues_name name) each in
    goes Label b (name ++ bs) Label mark.Name _ (cond_true (continues_name b) _ _ both.0) (in_name name bs op value ms both.1 h)

abbrev TakesName : State → Type 0
TakesName s = (b : ℕ) → starts_name b ≡ true → step s b ≡ Some (Label, mark.Name)

open_takes_name : TakesName Open
unfolding step
open_takes_name b t = cond_false (is_space b) _ _ (no_space starts_name refl refl refl refl b t) ∙ cond_true (starts_name b) _ _ t

comma_takes_name : TakesName Comma
unfolding step
comma_takes_name b t = cond_false (is_space b) _ _ (no_space starts_name refl refl refl refl b t) ∙ cond_true (starts_name b) _ _ t

whole_matcher : (s : State) → TakesName s → (name : List ℕ) (op : Op) (value before after tail : List ℕ) (ms : List MatcherView) →
    is_name name ≡ true → IsSpace before → IsSpace after → reads tail AfterText ≡ Some ms →
    reads (name ++ (before ++ (op_text op ++ quoted after value tail))) s ≡ Some (view name op value ∷ ms)
whole_matcher s takes [] op value before after tail ms named first each h = absurd cc
whole_matcher s takes (b ∷ name) op value before after tail ms named first each h =
    let both = both_true (starts_name b) (list_all continues_name name) named in
    goes s b _ Label mark.Name _ (takes b both.0) (in_name name _ op value ms both.1 (behind_name op before after value tail ms first each h))

at_matcher : (s : State) → TakesName s → (m : MatcherView) (text past : List ℕ) (ms : List MatcherView) → BeginsMatcher m text past →
    reads past AfterText ≡ Some ms → reads text s ≡ Some (m ∷ ms)
at_matcher s takes m text past ms r h =
    rw r.is (whole_matcher s takes m.name m.op m.text r.before r.after past ms r.named r.before_space r.after_space h)

-- the braces

at_end : (bs : List ℕ) → IsSpace bs → reads bs End ≡ Some []
unfolding reads
at_end [] each = refl
at_end (b ∷ bs) each =
    let both = both_true (is_space b) (list_all is_space bs) each in
    goes End b bs End mark.Skip [] (end_stays b both.0) (at_end bs both.1)

at_further : (ms : List MatcherView) (text rest : List ℕ) → BeginsFurther ms text rest → IsSpace rest → reads text AfterText ≡ Some ms
unfolding step
at_further [] text rest r space =
    rw r.is (spaces AfterText after_text_stays r.space (125 ∷ rest) [] r.each (goes AfterText 125 rest End mark.Skip [] refl (at_end rest space)))
at_further (m ∷ ms) text rest r space =
    let next = r.1 in
    rw next.is (spaces AfterText after_text_stays next.before _ _ next.before_space
    (goes AfterText 44 (next.after ++ next.start) Comma mark.Skip _ refl
    (spaces Comma comma_stays next.after next.start _ next.after_space
    (at_matcher Comma comma_takes_name m next.start r.0 ms next.matcher (at_further ms r.0 rest r.2 space)))))

-- a text of braces, behind the opening one
record Inside (text : List ℕ) (ms : List MatcherView) : Type 0 where
  pub inside : List ℕ
  pub is : text ≡ 123 ∷ inside
  pub read : reads inside Open ≡ Some ms

at_braces : (ms : List MatcherView) (text rest : List ℕ) → BeginsBraces ms text rest → IsSpace rest → Inside text ms
unfolding step
at_braces [] text rest r space = record {
  inside = r.0;
  is = r.1;
  read = rw r.2.is (spaces Open open_stays r.2.space (125 ∷ rest) [] r.2.each (goes Open 125 rest End mark.Skip [] refl (at_end rest space)));
}
at_braces (m ∷ ms) text rest r space = record {
  inside = r.1.space ++ r.1.start;
  is = r.1.is;
  read = spaces Open open_stays r.1.space r.1.start _ r.1.each
      (at_matcher Open open_takes_name m r.1.start r.0 ms r.1.matcher (at_further ms r.0 rest r.2 space));
}

-- the metric name

behind_metric : (bs : List ℕ) → IsSpace bs → reads bs AfterMetric ≡ Some []
unfolding reads
behind_metric [] each = refl
behind_metric (b ∷ bs) each =
    let both = both_true (is_space b) (list_all is_space bs) each in
    goes AfterMetric b bs AfterMetric mark.Skip [] (after_metric_stays b both.0) (behind_metric bs both.1)

metric_space : (b : ℕ) → is_space b ≡ true → step Metric b ≡ Some (AfterMetric, mark.Metric)
unfolding step
metric_space b t = cond_false (continues_metric b) _ _ (space_fails continues_metric refl refl refl refl b t) ∙ cond_true (is_space b) _ _ t

metric_ends : (bs : List ℕ) → IsSpace bs → reads bs Metric ≡ Some (metric_matcher [] ∷ [])
unfolding reads
metric_ends [] each = refl
metric_ends (b ∷ bs) each =
    let both = both_true (is_space b) (list_all is_space bs) each in
    goes Metric b bs AfterMetric mark.Metric [] (metric_space b both.0) (behind_metric bs both.1)

metric_opens : (w inside : List ℕ) (ms : List MatcherView) → IsSpace w → reads inside Open ≡ Some ms →
    reads (w ++ (123 ∷ inside)) Metric ≡ Some (metric_matcher [] ∷ ms)
unfolding step
metric_opens [] inside ms each h = goes Metric 123 inside Open mark.Metric ms refl h
metric_opens (b ∷ w) inside ms each h =
    let both = both_true (is_space b) (list_all is_space w) each in
    goes Metric b (w ++ (123 ∷ inside)) AfterMetric mark.Metric ms (metric_space b both.0)
    (spaces AfterMetric after_metric_stays w (123 ∷ inside) ms both.1 (goes AfterMetric 123 inside Open mark.Skip ms refl h))

in_metric : (name bs : List ℕ) (ms : List MatcherView) → list_all continues_metric name ≡ true →
    reads bs Metric ≡ Some (metric_matcher [] ∷ ms) → reads (name ++ bs) Metric ≡ Some (metric_matcher name ∷ ms)
unfolding step
in_metric [] bs ms each h = h
in_metric (b ∷ name) bs ms each h =
    let both = both_true (continues_metric b) (list_all continues_metric name) each in
    goes Metric b (name ++ bs) Metric mark.Text _ (cond_true (continues_metric b) _ _ both.0) (in_metric name bs ms both.1 h)

start_metric : (b : ℕ) → starts_metric b ≡ true → step Start b ≡ Some (Metric, mark.Text)
unfolding step
start_metric b t = cond_false (is_space b) _ _ (no_space starts_metric refl refl refl refl b t) ∙ cond_true (starts_metric b) _ _ t

at_metric : (name bs : List ℕ) (ms : List MatcherView) → is_metric name ≡ true →
    reads bs Metric ≡ Some (metric_matcher [] ∷ ms) → reads (name ++ bs) Start ≡ Some (metric_matcher name ∷ ms)
at_metric [] bs ms named h = absurd cc
at_metric (b ∷ name) bs ms named h =
    let both = both_true (starts_metric b) (list_all continues_metric name) named in
    goes Start b (name ++ bs) Metric mark.Text _ (start_metric b both.0) (in_metric name bs ms both.1 h)

pub complete : (text : List ℕ) (ms : List MatcherView) → IsSelector text ms → reads text Start ≡ Some ms
unfolding step
complete text ms (by_metric r) =
    rw (r.is, r.stands_for) (spaces Start start_stays r.front _ _ r.front_space (at_metric r.name r.back [] r.named (metric_ends r.back r.back_space)))
complete text ms (by_braces r) =
    let in_braces = at_braces ms r.start r.back r.braces r.back_space in
    rw (r.is, in_braces.is) (spaces Start start_stays r.front _ _ r.front_space (goes Start 123 in_braces.inside Open mark.Skip ms refl in_braces.read))
complete text ms (by_both r) =
    let in_braces = at_braces r.further r.start r.back r.braces r.back_space in
    rw (r.is, in_braces.is, r.stands_for) (spaces Start start_stays r.front _ _ r.front_space
    (at_metric r.name _ r.further r.named (metric_opens r.between in_braces.inside r.further r.between_space in_braces.read)))
