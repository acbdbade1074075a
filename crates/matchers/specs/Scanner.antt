-- The machine that reads selectors byte by byte, and the matchers that it reads.
use Rattle.std.specs.Prelude.{◌≡◌, ℕ, ◌||◌, ◌==◌, List, [], ◌∷◌, ◌++◌, length, Option, None, Some}
use Rattle.std.specs.Prelude.{option_map, codes, if◌then◌else◌}
use Rattle.labels.specs.Names.{starts_name, continues_name}
use Rattle.matchers.specs.declared.matcher.Op.{Op}
use Rattle.matchers.specs.declared.matcher.Op.TheVariants as op
use Rattle.matchers.specs.declared.scanner.State.{State}
use Rattle.matchers.specs.declared.scanner.State.TheVariants.{Start, Metric, AfterMetric, Open}
use Rattle.matchers.specs.declared.scanner.State.TheVariants.{Comma, Label, AfterLabel, Equals}
use Rattle.matchers.specs.declared.scanner.State.TheVariants.{Bang, BeforeText, Text, Escape}
use Rattle.matchers.specs.declared.scanner.State.TheVariants.{AfterText, End}
use Rattle.matchers.specs.declared.scanner.Mark.{Mark}
use Rattle.matchers.specs.declared.scanner.Mark.TheVariants as mark
use Rattle.matchers.specs.Grammar.{is_space, starts_metric, continues_metric, metric_matcher}
use Rattle.matchers.specs.Views.{MatcherView}

abbrev pub Move : Type 0
Move = Option (State × Mark)

abbrev pub from_start : ℕ → Move
from_start c =
    if is_space c then Some (Start, mark.Skip)
    else (if starts_metric c then Some (Metric, mark.Text)
    else (if c == 123 then Some (Open, mark.Skip) else None))

abbrev pub from_metric : ℕ → Move
from_metric c =
    if continues_metric c then Some (Metric, mark.Text)
    else (if is_space c then Some (AfterMetric, mark.Metric)
    else (if c == 123 then Some (Open, mark.Metric) else None))

abbrev pub from_after_metric : ℕ → Move
from_after_metric c =
    if is_space c then Some (AfterMetric, mark.Skip)
    else (if c == 123 then Some (Open, mark.Skip) else None)

abbrev pub from_open : ℕ → Move
from_open c =
    if is_space c then Some (Open, mark.Skip)
    else (if starts_name c then Some (Label, mark.Name)
    else (if c == 125 then Some (End, mark.Skip) else None))

abbrev pub from_comma : ℕ → Move
from_comma c =
    if is_space c then Some (Comma, mark.Skip)
    else (if starts_name c then Some (Label, mark.Name) else None)

abbrev pub from_after_label : ℕ → Move
from_after_label c =
    if is_space c then Some (AfterLabel, mark.Skip)
    else (if c == 61 then Some (Equals, mark.Skip)
    else (if c == 33 then Some (Bang, mark.Skip) else None))

abbrev pub from_label : ℕ → Move
from_label c = if continues_name c then Some (Label, mark.Name) else from_after_label c

abbrev pub from_before_text : Op → ℕ → Move
from_before_text op c =
    if is_space c then Some (BeforeText op, mark.Skip)
    else (if c == 34 then Some (Text op, mark.Skip) else None)

abbrev pub from_equals : ℕ → Move
from_equals c =
    if c == 126 then Some (BeforeText op.Like, mark.Skip) else from_before_text op.Equal c

abbrev pub from_bang : ℕ → Move
from_bang c =
    if c == 61 then Some (BeforeText op.NotEqual, mark.Skip)
    else (if c == 126 then Some (BeforeText op.NotLike, mark.Skip) else None)

abbrev pub from_text : Op → ℕ → Move
from_text op c =
    if c == 34 then Some (AfterText, mark.Matcher op)
    else (if c == 92 then Some (Escape op, mark.Skip)
    else (if c == 10 then None else Some (Text op, mark.Text)))

abbrev pub from_escape : Op → ℕ → Move
from_escape op c =
    if c == 34 || c == 92 then Some (Text op, mark.Text)
    else (if c == 110 then Some (Text op, mark.LineFeed) else None)

abbrev pub from_after_text : ℕ → Move
from_after_text c =
    if is_space c then Some (AfterText, mark.Skip)
    else (if c == 44 then Some (Comma, mark.Skip)
    else (if c == 125 then Some (End, mark.Skip) else None))

abbrev pub from_end : ℕ → Move
from_end c = if is_space c then Some (End, mark.Skip) else None

-- the next state, where the byte may come, and what it is there
unfoldable pub step : State → ℕ → Move
step Start c = from_start c
step Metric c = from_metric c
step AfterMetric c = from_after_metric c
step Open c = from_open c
step Comma c = from_comma c
step Label c = from_label c
step AfterLabel c = from_after_label c
step Equals c = from_equals c
step Bang c = from_bang c
step (BeforeText op) c = from_before_text op c
step (Text op) c = from_text op c
step (Escape op) c = from_escape op c
step AfterText c = from_after_text c
step End c = from_end c

-- what the end of the text is, where it may come
abbrev pub end_mark : State → Option Mark
end_mark Start = None
end_mark Metric = Some mark.Metric
end_mark AfterMetric = Some mark.Skip
end_mark Open = None
end_mark Comma = None
end_mark Label = None
end_mark AfterLabel = None
end_mark Equals = None
end_mark Bang = None
end_mark (BeforeText op) = None
end_mark (Text op) = None
end_mark (Escape op) = None
end_mark AfterText = None
end_mark End = Some mark.Skip

-- the matchers that stand from here on, from those that stand after this byte; the first may be cut
abbrev pub marked : ℕ → Mark → List MatcherView → List MatcherView
marked b mark.Skip ms = ms
marked b mark.Name [] = []
marked b mark.Name (m ∷ ms) = record { name = b ∷ m.name; op = m.op; text = m.text } ∷ ms
marked b mark.Text [] = []
marked b mark.Text (m ∷ ms) = record { name = m.name; op = m.op; text = b ∷ m.text } ∷ ms
marked b mark.LineFeed [] = []
marked b mark.LineFeed (m ∷ ms) = record { name = m.name; op = m.op; text = 10 ∷ m.text } ∷ ms
marked b mark.Metric ms = metric_matcher [] ∷ ms
marked b (mark.Matcher op) ms = record { name = []; op = op; text = [] } ∷ ms

-- the matchers that the rest of a text stands for, read on from a state
unfoldable pub reads : List ℕ → State → Option (List MatcherView)
reads [] s = option_map (λ end. marked 0 end []) (end_mark s)
reads (b ∷ bs) s =
    elim (step s b) [ None ↦ None | Some move ↦ option_map (marked b move.1) (reads bs move.0) ]

-- what was read so far: whole matchers, and the name and the text of the next
pub record Progress : Type 0 where
  pub done : List MatcherView
  pub name : List ℕ
  pub text : List ℕ

abbrev pub nothing_read : Progress
nothing_read = record { done = []; name = []; text = [] }

abbrev pub closed : Op → Progress → Progress
closed op p = record {
  done = p.done ++ record { name = p.name; op = op; text = p.text } ∷ [];
  name = [];
  text = [];
}

-- what was read, with these bytes of one character
abbrev pub taken : Mark → List ℕ → Progress → Progress
taken mark.Skip bytes p = p
taken mark.Name bytes p = record { done = p.done; name = p.name ++ bytes; text = p.text }
taken mark.Text bytes p = record { done = p.done; name = p.name; text = p.text ++ bytes }
taken mark.LineFeed bytes p = record { done = p.done; name = p.name; text = p.text ++ 10 ∷ [] }
taken mark.Metric bytes p =
    closed op.Equal (record { done = p.done; name = p.name ++ codes "__name__"; text = p.text })
taken (mark.Matcher op) bytes p = closed op p

-- the matchers, where the name and the text of the first begin with these
abbrev pub begun_by : List ℕ → List ℕ → List MatcherView → List MatcherView
begun_by name text [] = []
begun_by name text (m ∷ ms) =
    record { name = name ++ m.name; op = m.op; text = text ++ m.text } ∷ ms

-- the matchers of the whole, from what was read and those that the rest stands for
abbrev pub forward : Progress → List MatcherView → List MatcherView
forward p ms = p.done ++ begun_by p.name p.text ms

-- whatever follows the front, the machine reads it on from this state and this progress
pub record Reached (front : List ℕ) (s : State) (p : Progress) : Type 0 where
  pub each : (more : List ℕ) → reads (front ++ more) Start ≡ option_map (forward p) (reads more s)

-- the text is read up to the rest
pub record ReadUpTo (text rest : List ℕ) (s : State) (p : Progress) (at : ℕ) : Type 0 where
  pub front : List ℕ
  pub whole : text ≡ front ++ rest
  pub place : at ≡ length front
  pub reached : Reached front s p
