-- The language of selectors, over bytes: which texts stand for which matchers.
-- A piece is told by the text that begins with it and the rest that follows it there.
use Rattle.std.specs.Prelude.{◌≡◌, ℕ, ◌<◌, ◌≤◌, Bool, true, false, ◌&&◌, ◌||◌, ◌==◌, List, [], ◌∷◌}
use Rattle.std.specs.Prelude.{◌++◌, length, take, codes, if◌then◌else◌}
use Rattle.std.specs.List.{list_all}
use Rattle.labels.specs.Names.{starts_name, continues_name, is_name}
use Rattle.matchers.specs.declared.matcher.Op.{Op}
use Rattle.matchers.specs.declared.matcher.Op.TheVariants.{Equal, NotEqual, Like, NotLike}
use Rattle.matchers.specs.Views.{MatcherView}

-- a space, a tab, a carriage return or a line feed
abbrev pub is_space : ℕ → Bool
is_space b = b == 32 || b == 9 || b == 13 || b == 10

-- white space, maybe none
abbrev pub IsSpace : List ℕ → Type 0
IsSpace text = list_all is_space text ≡ true

abbrev pub starts_metric : ℕ → Bool
starts_metric b = starts_name b || b == 58

abbrev pub continues_metric : ℕ → Bool
continues_metric b = continues_name b || b == 58

-- a metric name: [a-zA-Z_:][a-zA-Z0-9_:]*
abbrev pub is_metric : List ℕ → Bool
is_metric [] = false
is_metric (b ∷ bs) = starts_metric b && list_all continues_metric bs

-- what a metric name stands for
abbrev pub metric_matcher : List ℕ → MatcherView
metric_matcher name = record { name = codes "__name__"; op = Equal; text = name }

abbrev pub op_text : Op → List ℕ
op_text Equal = codes "="
op_text NotEqual = codes "!="
op_text Like = codes "=~"
op_text NotLike = codes "!~"

-- a byte as it stands between quotes: \" \\ and \n for a quote, a backslash and a line feed, each
-- other byte for itself
abbrev pub escaped : ℕ → List ℕ
escaped b =
    if b == 34 then 92 ∷ 34 ∷ []
    else (if b == 92 then 92 ∷ 92 ∷ []
    else (if b == 10 then 92 ∷ 110 ∷ []
    else b ∷ []))

-- a text as it stands between quotes
abbrev pub written : List ℕ → List ℕ
written [] = []
written (b ∷ bs) = escaped b ++ written bs

-- label name, operator and quoted text, with white space round the operator
pub record BeginsMatcher (m : MatcherView) (text rest : List ℕ) : Type 0 where
  pub before : List ℕ
  pub after : List ℕ
  pub named : is_name m.name ≡ true
  pub before_space : IsSpace before
  pub after_space : IsSpace after
  pub is : text
      ≡ m.name ++ (before ++ (op_text m.op ++ (after ++ (34 ∷ (written m.text ++ (34 ∷ rest))))))

-- white space and the closing brace
pub record BeginsClosing (text rest : List ℕ) : Type 0 where
  pub space : List ℕ
  pub each : IsSpace space
  pub is : text ≡ space ++ (125 ∷ rest)

-- a comma with white space round it, and a further matcher
pub record BeginsNext (m : MatcherView) (text rest : List ℕ) : Type 0 where
  pub before : List ℕ
  pub after : List ℕ
  pub start : List ℕ
  pub before_space : IsSpace before
  pub after_space : IsSpace after
  pub is : text ≡ before ++ (44 ∷ (after ++ start))
  pub matcher : BeginsMatcher m start rest

-- what follows a matcher in braces: these matchers, each after a comma, and the closing brace
abbrev pub BeginsFurther : List MatcherView → List ℕ → List ℕ → Type 0
BeginsFurther [] text rest = BeginsClosing text rest
BeginsFurther (m ∷ ms) text rest =
    (past : List ℕ) × BeginsNext m text past × BeginsFurther ms past rest

-- the opening brace, white space and the first matcher
pub record BeginsFirst (m : MatcherView) (text rest : List ℕ) : Type 0 where
  pub space : List ℕ
  pub start : List ℕ
  pub each : IsSpace space
  pub is : text ≡ 123 ∷ (space ++ start)
  pub matcher : BeginsMatcher m start rest

-- braces round matchers that commas separate
abbrev pub BeginsBraces : List MatcherView → List ℕ → List ℕ → Type 0
BeginsBraces [] text rest = (inside : List ℕ) × (text ≡ 123 ∷ inside) × BeginsClosing inside rest
BeginsBraces (m ∷ ms) text rest =
    (past : List ℕ) × BeginsFirst m text past × BeginsFurther ms past rest

-- white space, a metric name, white space
pub record IsMetricAlone (text : List ℕ) (ms : List MatcherView) : Type 0 where
  pub front : List ℕ
  pub name : List ℕ
  pub back : List ℕ
  pub front_space : IsSpace front
  pub back_space : IsSpace back
  pub named : is_metric name ≡ true
  pub is : text ≡ front ++ (name ++ back)
  pub stands_for : ms ≡ metric_matcher name ∷ []

-- white space, braces, white space
pub record IsBracesAlone (text : List ℕ) (ms : List MatcherView) : Type 0 where
  pub front : List ℕ
  pub start : List ℕ
  pub back : List ℕ
  pub front_space : IsSpace front
  pub back_space : IsSpace back
  pub is : text ≡ front ++ start
  pub braces : BeginsBraces ms start back

-- white space, a metric name, white space, braces, white space
pub record IsMetricWithBraces (text : List ℕ) (ms : List MatcherView) : Type 0 where
  pub front : List ℕ
  pub name : List ℕ
  pub between : List ℕ
  pub start : List ℕ
  pub back : List ℕ
  pub further : List MatcherView
  pub front_space : IsSpace front
  pub between_space : IsSpace between
  pub back_space : IsSpace back
  pub named : is_metric name ≡ true
  pub is : text ≡ front ++ (name ++ (between ++ start))
  pub braces : BeginsBraces further start back
  pub stands_for : ms ≡ metric_matcher name ∷ further

-- the text is a selector of these matchers
pub data IsSelector (text : List ℕ) (ms : List MatcherView) : Type 0 where
  by_metric : IsMetricAlone text ms → IsSelector text ms
  by_braces : IsBracesAlone text ms → IsSelector text ms
  by_both : IsMetricWithBraces text ms → IsSelector text ms

-- some selector begins so
abbrev pub BeginsSelector : List ℕ → Type 0
BeginsSelector text = (rest : List ℕ) × (ms : List MatcherView) × IsSelector (text ++ rest) ms

-- the length of the longest prefix of the text that also begins a selector
pub record IsLongestPrefix (text : List ℕ) (at : ℕ) : Type 0 where
  pub within : at ≤ length text
  pub begins : BeginsSelector (take at text)
  pub longest : (n : ℕ) → at < n → n ≤ length text → BeginsSelector (take n text) → ⊥

-- the text is no selector, and this long is the longest prefix that it has in common with one
pub record IsNoSelector (text : List ℕ) (at : ℕ) : Type 0 where
  pub none : (ms : List MatcherView) → IsSelector text ms → ⊥
  pub longest : IsLongestPrefix text at

-- no text is a selector of two lists of matchers
abbrev pub HasOneReading : Type 0
HasOneReading =
    (text : List ℕ) (ms ns : List MatcherView) → IsSelector text ms → IsSelector text ns → ms ≡ ns
