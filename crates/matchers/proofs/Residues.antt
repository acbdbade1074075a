-- What the rest of a text is, for each state that the machine can stand in before it.
use Rattle.std.proofs.Common.{◌≡◌, ℕ, true, List, [], ◌∷◌, ◌++◌, ◌⊎◌, Option, None, Some, option_map, codes}
use Rattle.std.specs.List.{list_all}
use Rattle.labels.specs.Names.{continues_name}
use Rattle.matchers.specs.declared.matcher.Op.{Op}
use Rattle.matchers.specs.declared.matcher.Op.TheVariants as op
use Rattle.matchers.specs.declared.scanner.State.{State}
use Rattle.matchers.specs.declared.scanner.State.TheVariants.{Start, Metric, AfterMetric, Open, Comma, Label, AfterLabel, Equals, Bang, BeforeText, Text, Escape, AfterText, End}
use Rattle.matchers.specs.declared.scanner.Mark.{Mark}
use Rattle.matchers.specs.Grammar.{IsSpace, continues_metric, op_text, escaped, written, BeginsMatcher, BeginsFurther, BeginsBraces, IsSelector}
use Rattle.matchers.specs.Scanner.{Move, marked, reads}
use Rattle.matchers.specs.Views.{MatcherView}

-- the matchers behind one, the closing brace and white space
pub record Closing (ms : List MatcherView) (text : List ℕ) : Type 0 where
  pub rest : List ℕ
  pub further : BeginsFurther ms text rest
  pub space : IsSpace rest

pub record InText (value : List ℕ) (ms : List MatcherView) (text : List ℕ) : Type 0 where
  pub tail : List ℕ
  pub is : text ≡ written value ++ (34 ∷ tail)
  pub closing : Closing ms tail

pub record InEscape (value : List ℕ) (ms : List MatcherView) (text : List ℕ) : Type 0 where
  pub byte : ℕ
  pub code : ℕ
  pub values : List ℕ
  pub tail : List ℕ
  pub begins : value ≡ byte ∷ values
  pub escapes : escaped byte ≡ 92 ∷ code ∷ []
  pub is : text ≡ code ∷ tail
  pub inside : InText values ms tail

pub record BeforeQuote (value : List ℕ) (ms : List MatcherView) (text : List ℕ) : Type 0 where
  pub space : List ℕ
  pub tail : List ℕ
  pub each : IsSpace space
  pub is : text ≡ space ++ (34 ∷ tail)
  pub inside : InText value ms tail

-- behind the first bytes of an operator
pub record InOp (first : List ℕ) (op : Op) (value : List ℕ) (ms : List MatcherView) (text : List ℕ) : Type 0 where
  pub tail : List ℕ
  pub is : first ++ text ≡ op_text op ++ tail
  pub after : BeforeQuote value ms tail

pub record BeforeOp (op : Op) (value : List ℕ) (ms : List MatcherView) (text : List ℕ) : Type 0 where
  pub space : List ℕ
  pub tail : List ℕ
  pub each : IsSpace space
  pub is : text ≡ space ++ tail
  pub at : InOp [] op value ms tail

pub record InLabel (name : List ℕ) (op : Op) (value : List ℕ) (ms : List MatcherView) (text : List ℕ) : Type 0 where
  pub tail : List ℕ
  pub each : list_all continues_name name ≡ true
  pub is : text ≡ name ++ tail
  pub after : BeforeOp op value ms tail

pub record AtMatcher (m : MatcherView) (ms : List MatcherView) (text : List ℕ) : Type 0 where
  pub past : List ℕ
  pub matcher : BeginsMatcher m text past
  pub closing : Closing ms past

pub record BeforeMatcher (m : MatcherView) (ms : List MatcherView) (text : List ℕ) : Type 0 where
  pub space : List ℕ
  pub start : List ℕ
  pub each : IsSpace space
  pub is : text ≡ space ++ start
  pub at : AtMatcher m ms start

-- braces and white space
pub record AtBraces (ms : List MatcherView) (text : List ℕ) : Type 0 where
  pub rest : List ℕ
  pub braces : BeginsBraces ms text rest
  pub space : IsSpace rest

pub record BeforeBraces (ms : List MatcherView) (text : List ℕ) : Type 0 where
  pub space : List ℕ
  pub start : List ℕ
  pub each : IsSpace space
  pub is : text ≡ space ++ start
  pub at : AtBraces ms start

abbrev pub AfterName : List MatcherView → List ℕ → Type 0
AfterName ms text = ((ms ≡ []) × IsSpace text) ⊎ BeforeBraces ms text

pub record InMetric (m : MatcherView) (ms : List MatcherView) (text : List ℕ) : Type 0 where
  pub tail : List ℕ
  pub named : m.name ≡ codes "__name__"
  pub equal : m.op ≡ op.Equal
  pub each : list_all continues_metric m.text ≡ true
  pub is : text ≡ m.text ++ tail
  pub after : AfterName ms tail

abbrev pub Rest : State → List MatcherView → List ℕ → Type 0
Rest Start ms text = IsSelector text ms
Rest Metric [] text = ⊥
Rest Metric (m ∷ ms) text = InMetric m ms text
Rest AfterMetric ms text = AfterName ms text
Rest Open ms text = AtBraces ms (123 ∷ text)
Rest Comma [] text = ⊥
Rest Comma (m ∷ ms) text = BeforeMatcher m ms text
Rest Label [] text = ⊥
Rest Label (m ∷ ms) text = InLabel m.name m.op m.text ms text
Rest AfterLabel [] text = ⊥
Rest AfterLabel (m ∷ ms) text = (m.name ≡ []) × BeforeOp m.op m.text ms text
Rest Equals [] text = ⊥
Rest Equals (m ∷ ms) text = (m.name ≡ []) × InOp (61 ∷ []) m.op m.text ms text
Rest Bang [] text = ⊥
Rest Bang (m ∷ ms) text = (m.name ≡ []) × InOp (33 ∷ []) m.op m.text ms text
Rest (BeforeText op) [] text = ⊥
Rest (BeforeText op) (m ∷ ms) text = (m.name ≡ []) × (m.op ≡ op) × BeforeQuote m.text ms text
Rest (Text op) [] text = ⊥
Rest (Text op) (m ∷ ms) text = (m.name ≡ []) × (m.op ≡ op) × InText m.text ms text
Rest (Escape op) [] text = ⊥
Rest (Escape op) (m ∷ ms) text = (m.name ≡ []) × (m.op ≡ op) × InEscape m.text ms text
Rest AfterText ms text = Closing ms text
Rest End ms text = (ms ≡ []) × IsSpace text

abbrev pub move : State → Mark → State × Mark
move s m = (s, m)

-- what is read behind a byte
abbrev pub read_on : ℕ → List ℕ → Move → Option (List MatcherView)
read_on b bs None = None
read_on b bs (Some move) = option_map (marked b move.1) (reads bs move.0)
