-- What the machine reads stands in the language.
use Rattle.std.proofs.Common.{◌≡◌, ℕ, true, false, ◌||◌, ◌==◌, List, [], ◌∷◌, ◌++◌, inl, inr, Option, None, Some, option_map, codes, refl, sym, ap, subst, ◌∙◌}
use Rattle.labels.specs.Names.{starts_name, continues_name}
use Rattle.matchers.specs.declared.matcher.Op.{Op}
use Rattle.matchers.specs.declared.matcher.Op.TheVariants as op
use Rattle.matchers.specs.declared.scanner.State.{State}
use Rattle.matchers.specs.declared.scanner.State.TheVariants.{Start, Metric, AfterMetric, Open, Comma, Label, AfterLabel, Equals, Bang, BeforeText, Text, Escape, AfterText, End}
use Rattle.matchers.specs.declared.scanner.Mark.{Mark}
use Rattle.matchers.specs.declared.scanner.Mark.TheVariants as mark
use Rattle.matchers.specs.Grammar.{is_space, IsSpace, starts_metric, continues_metric, metric_matcher, op_text, escaped, IsSelector, by_metric, by_braces, by_both}
use Rattle.matchers.specs.Scanner.{Move, from_start, from_metric, from_after_metric, from_open, from_comma, from_label, from_after_label, from_equals, from_bang, from_before_text, from_text, from_escape, from_after_text, from_end, step, end_mark, marked, reads}
use Rattle.matchers.specs.Views.{MatcherView}
use Rattle.matchers.proofs.Branches.{cond_false, either, never, same_some, one_true, all_more, at_byte}
use Rattle.matchers.proofs.Residues.{Closing, InText, InEscape, BeforeQuote, InLabel, AtMatcher, AtBraces, AfterName, InMetric, Rest, move, read_on}

-- the rest behind a byte makes the rest that begins with it
abbrev Back : State → ℕ → List ℕ → State → Mark → Type 0
Back s b bs next m = (ms : List MatcherView) → Rest next ms bs → Rest s (marked b m ms) (b ∷ bs)

moved : (s : State) (b : ℕ) (bs : List ℕ) (to next : State) (n m : Mark) → Some (move to n) ≡ Some (move next m) → Back s b bs to n → Back s b bs next m
moved s b bs to next n m e back =
    let P : State × Mark → Type 0 = λ v. Back s b bs v.0 v.1 in
    subst P (same_some (move to n) (move next m) e) back

on : (s : State) (b k : ℕ) (bs : List ℕ) (next : State) (m : Mark) → (b == k) ≡ true → Back s k bs next m → Back s b bs next m
on s b k bs next m t back = at_byte (λ x. Back s x bs next m) b k t back

-- the texts in quotes

text_end : (op : Op) (bs : List ℕ) → Back (Text op) 34 bs AfterText (mark.Matcher op)
text_end op bs ms r = (refl, refl, record { tail = bs; is = refl; closing = r })

text_more : (op : Op) (b : ℕ) (bs : List ℕ) → escaped b ≡ b ∷ [] → Back (Text op) b bs (Text op) mark.Text
text_more op b bs e [] r = absurd r
text_more op b bs e (m ∷ ms) r = (r.0, r.1, record { tail = r.2.tail; is = rw e (ap (λ x. b ∷ x) r.2.is); closing = r.2.closing })

from_escaped : (value : List ℕ) (ms : List MatcherView) (bs : List ℕ) → InEscape value ms bs → InText value ms (92 ∷ bs)
from_escaped value ms bs r =
    record { tail = r.inside.tail; is = rw (r.begins, r.escapes, r.is) (ap (λ x. 92 ∷ r.code ∷ x) r.inside.is); closing = r.inside.closing }

text_backslash : (op : Op) (bs : List ℕ) → Back (Text op) 92 bs (Escape op) mark.Skip
text_backslash op bs [] r = absurd r
text_backslash op bs (m ∷ ms) r = (r.0, r.1, from_escaped m.text ms bs r.2)

escape_same : (op : Op) (b : ℕ) (bs : List ℕ) → escaped b ≡ 92 ∷ b ∷ [] → Back (Escape op) b bs (Text op) mark.Text
escape_same op b bs e [] r = absurd r
escape_same op b bs e (m ∷ ms) r =
    (r.0, r.1, record { byte = b; code = b; values = m.text; tail = bs; begins = refl; escapes = e; is = refl; inside = r.2 })

escape_line_feed : (op : Op) (bs : List ℕ) → Back (Escape op) 110 bs (Text op) mark.LineFeed
escape_line_feed op bs [] r = absurd r
escape_line_feed op bs (m ∷ ms) r =
    (r.0, r.1, record { byte = 10; code = 110; values = m.text; tail = bs; begins = refl; escapes = refl; is = refl; inside = r.2 })

plain : (b : ℕ) → (b == 34) ≡ false → (b == 92) ≡ false → (b == 10) ≡ false → escaped b ≡ b ∷ []
plain b e f g = cond_false (b == 34) _ _ e ∙ cond_false (b == 92) _ _ f ∙ cond_false (b == 10) _ _ g

back_text : (op : Op) (b : ℕ) (bs : List ℕ) (next : State) (m : Mark) → from_text op b ≡ Some (next, m) → Back (Text op) b bs next m
back_text op b bs next m e =
    either (b == 34) _ _ _ e
    (λ t q. moved (Text op) b bs AfterText next (mark.Matcher op) m q (on (Text op) b 34 bs AfterText (mark.Matcher op) t (text_end op bs)))
    (λ f q. either (b == 92) _ _ _ q
    (λ t q. moved (Text op) b bs (Escape op) next mark.Skip m q (on (Text op) b 92 bs (Escape op) mark.Skip t (text_backslash op bs)))
    (λ g q. either (b == 10) _ _ _ q
    (λ t q. never (next, m) q)
    (λ h q. moved (Text op) b bs (Text op) next mark.Text m q (text_more op b bs (plain b f g h)))))

back_escape : (op : Op) (b : ℕ) (bs : List ℕ) (next : State) (m : Mark) → from_escape op b ≡ Some (next, m) → Back (Escape op) b bs next m
back_escape op b bs next m e =
    either (b == 34 || b == 92) _ _ _ e
    (λ t q. moved (Escape op) b bs (Text op) next mark.Text m q
    (elim (one_true (b == 34) (b == 92) t) [
      | inl s ↦ on (Escape op) b 34 bs (Text op) mark.Text s (escape_same op 34 bs refl)
      | inr s ↦ on (Escape op) b 92 bs (Text op) mark.Text s (escape_same op 92 bs refl)
    ]))
    (λ _ q. either (b == 110) _ _ _ q
    (λ t q. moved (Escape op) b bs (Text op) next mark.LineFeed m q (on (Escape op) b 110 bs (Text op) mark.LineFeed t (escape_line_feed op bs)))
    (λ _ q. never (next, m) q))

-- the operators

quote_space : (value : List ℕ) (ms : List MatcherView) (b : ℕ) (bs : List ℕ) → is_space b ≡ true → BeforeQuote value ms bs → BeforeQuote value ms (b ∷ bs)
quote_space value ms b bs t r =
    record { space = b ∷ r.space; tail = r.tail; each = all_more is_space b r.space t r.each; is = ap (λ x. b ∷ x) r.is; inside = r.inside }

before_text_space : (op : Op) (b : ℕ) (bs : List ℕ) → is_space b ≡ true → Back (BeforeText op) b bs (BeforeText op) mark.Skip
before_text_space op b bs t [] r = absurd r
before_text_space op b bs t (m ∷ ms) r = (r.0, r.1, quote_space m.text ms b bs t r.2)

before_text_quote : (op : Op) (bs : List ℕ) → Back (BeforeText op) 34 bs (Text op) mark.Skip
before_text_quote op bs [] r = absurd r
before_text_quote op bs (m ∷ ms) r = (r.0, r.1, record { space = []; tail = bs; each = refl; is = refl; inside = r.2 })

back_before_text : (op : Op) (b : ℕ) (bs : List ℕ) (next : State) (m : Mark) → from_before_text op b ≡ Some (next, m) → Back (BeforeText op) b bs next m
back_before_text op b bs next m e =
    either (is_space b) _ _ _ e
    (λ t q. moved (BeforeText op) b bs (BeforeText op) next mark.Skip m q (before_text_space op b bs t))
    (λ _ q. either (b == 34) _ _ _ q
    (λ t q. moved (BeforeText op) b bs (Text op) next mark.Skip m q (on (BeforeText op) b 34 bs (Text op) mark.Skip t (before_text_quote op bs)))
    (λ _ q. never (next, m) q))

-- an operator is behind its first byte where only the quote is to come
equals_of : (ms : List MatcherView) (text : List ℕ) → Rest (BeforeText op.Equal) ms text → Rest Equals ms text
equals_of [] text r = absurd r
equals_of (m ∷ ms) text r = (r.0, record { tail = text; is = rw r.1 refl; after = r.2 })

equals_like : (bs : List ℕ) → Back Equals 126 bs (BeforeText op.Like) mark.Skip
equals_like bs [] r = absurd r
equals_like bs (m ∷ ms) r = (r.0, record { tail = bs; is = rw r.1 refl; after = r.2 })

back_equals : (b : ℕ) (bs : List ℕ) (next : State) (m : Mark) → from_equals b ≡ Some (next, m) → Back Equals b bs next m
back_equals b bs next m e =
    either (b == 126) _ _ _ e
    (λ t q. moved Equals b bs (BeforeText op.Like) next mark.Skip m q (on Equals b 126 bs (BeforeText op.Like) mark.Skip t (equals_like bs)))
    (λ _ q ms r. equals_of (marked b m ms) (b ∷ bs) (back_before_text op.Equal b bs next m q ms r))

bang_not_equal : (bs : List ℕ) → Back Bang 61 bs (BeforeText op.NotEqual) mark.Skip
bang_not_equal bs [] r = absurd r
bang_not_equal bs (m ∷ ms) r = (r.0, record { tail = bs; is = rw r.1 refl; after = r.2 })

bang_not_like : (bs : List ℕ) → Back Bang 126 bs (BeforeText op.NotLike) mark.Skip
bang_not_like bs [] r = absurd r
bang_not_like bs (m ∷ ms) r = (r.0, record { tail = bs; is = rw r.1 refl; after = r.2 })

back_bang : (b : ℕ) (bs : List ℕ) (next : State) (m : Mark) → from_bang b ≡ Some (next, m) → Back Bang b bs next m
back_bang b bs next m e =
    either (b == 61) _ _ _ e
    (λ t q. moved Bang b bs (BeforeText op.NotEqual) next mark.Skip m q (on Bang b 61 bs (BeforeText op.NotEqual) mark.Skip t (bang_not_equal bs)))
    (λ _ q. either (b == 126) _ _ _ q
    (λ t q. moved Bang b bs (BeforeText op.NotLike) next mark.Skip m q (on Bang b 126 bs (BeforeText op.NotLike) mark.Skip t (bang_not_like bs)))
    (λ _ q. never (next, m) q))

-- the label names

after_label_space : (b : ℕ) (bs : List ℕ) → is_space b ≡ true → Back AfterLabel b bs AfterLabel mark.Skip
after_label_space b bs t [] r = absurd r
after_label_space b bs t (m ∷ ms) r =
    (r.0, record { space = b ∷ r.1.space; tail = r.1.tail; each = all_more is_space b r.1.space t r.1.each; is = ap (λ x. b ∷ x) r.1.is; at = r.1.at })

after_label_equals : (bs : List ℕ) → Back AfterLabel 61 bs Equals mark.Skip
after_label_equals bs [] r = absurd r
after_label_equals bs (m ∷ ms) r =
    (r.0, record { space = []; tail = 61 ∷ bs; each = refl; is = refl; at = record { tail = r.1.tail; is = r.1.is; after = r.1.after } })

after_label_bang : (bs : List ℕ) → Back AfterLabel 33 bs Bang mark.Skip
after_label_bang bs [] r = absurd r
after_label_bang bs (m ∷ ms) r =
    (r.0, record { space = []; tail = 33 ∷ bs; each = refl; is = refl; at = record { tail = r.1.tail; is = r.1.is; after = r.1.after } })

back_after_label : (b : ℕ) (bs : List ℕ) (next : State) (m : Mark) → from_after_label b ≡ Some (next, m) → Back AfterLabel b bs next m
back_after_label b bs next m e =
    either (is_space b) _ _ _ e
    (λ t q. moved AfterLabel b bs AfterLabel next mark.Skip m q (after_label_space b bs t))
    (λ _ q. either (b == 61) _ _ _ q
    (λ t q. moved AfterLabel b bs Equals next mark.Skip m q (on AfterLabel b 61 bs Equals mark.Skip t (after_label_equals bs)))
    (λ _ q. either (b == 33) _ _ _ q
    (λ t q. moved AfterLabel b bs Bang next mark.Skip m q (on AfterLabel b 33 bs Bang mark.Skip t (after_label_bang bs)))
    (λ _ q. never (next, m) q)))

label_of : (ms : List MatcherView) (text : List ℕ) → Rest AfterLabel ms text → Rest Label ms text
label_of [] text r = absurd r
label_of (m ∷ ms) text r = record { tail = text; each = rw r.0 refl; is = rw r.0 refl; after = r.1 }

label_more : (b : ℕ) (bs : List ℕ) → continues_name b ≡ true → Back Label b bs Label mark.Name
label_more b bs t [] r = absurd r
label_more b bs t (m ∷ ms) r =
    record { tail = r.tail; each = all_more continues_name b m.name t r.each; is = ap (λ x. b ∷ x) r.is; after = r.after }

back_label : (b : ℕ) (bs : List ℕ) (next : State) (m : Mark) → from_label b ≡ Some (next, m) → Back Label b bs next m
back_label b bs next m e =
    either (continues_name b) _ _ _ e
    (λ t q. moved Label b bs Label next mark.Name m q (label_more b bs t))
    (λ _ q ms r. label_of (marked b m ms) (b ∷ bs) (back_after_label b bs next m q ms r))

-- a whole matcher, from its first byte
matcher_at : (b : ℕ) (bs : List ℕ) (m : MatcherView) (ms : List MatcherView) → starts_name b ≡ true → InLabel m.name m.op m.text ms bs →
    AtMatcher (record { name = b ∷ m.name; op = m.op; text = m.text }) ms (b ∷ bs)
matcher_at b bs m ms t r =
    let before = r.after in
    let after = before.at.after in
    record {
      past = after.inside.tail;
      matcher = record {
        before = before.space;
        after = after.space;
        named = rw t r.each;
        before_space = before.each;
        after_space = after.each;
        is = ap (λ x. b ∷ x) (r.is ∙ ap (λ x. m.name ++ x) (before.is ∙ ap (λ x. before.space ++ x) (before.at.is
            ∙ ap (λ x. op_text m.op ++ x) (after.is ∙ ap (λ x. after.space ++ (34 ∷ x)) after.inside.is))));
      };
      closing = after.inside.closing;
    }

-- the braces

comma_space : (b : ℕ) (bs : List ℕ) → is_space b ≡ true → Back Comma b bs Comma mark.Skip
comma_space b bs t [] r = absurd r
comma_space b bs t (m ∷ ms) r =
    record { space = b ∷ r.space; start = r.start; each = all_more is_space b r.space t r.each; is = ap (λ x. b ∷ x) r.is; at = r.at }

comma_label : (b : ℕ) (bs : List ℕ) → starts_name b ≡ true → Back Comma b bs Label mark.Name
comma_label b bs t [] r = absurd r
comma_label b bs t (m ∷ ms) r = record { space = []; start = b ∷ bs; each = refl; is = refl; at = matcher_at b bs m ms t r }

back_comma : (b : ℕ) (bs : List ℕ) (next : State) (m : Mark) → from_comma b ≡ Some (next, m) → Back Comma b bs next m
back_comma b bs next m e =
    either (is_space b) _ _ _ e
    (λ t q. moved Comma b bs Comma next mark.Skip m q (comma_space b bs t))
    (λ _ q. either (starts_name b) _ _ _ q
    (λ t q. moved Comma b bs Label next mark.Name m q (comma_label b bs t))
    (λ _ q. never (next, m) q))

closing_space : (b : ℕ) (bs : List ℕ) (ms : List MatcherView) → is_space b ≡ true → Closing ms bs → Closing ms (b ∷ bs)
closing_space b bs [] t r =
    record { rest = r.rest; space = r.space; further = record { space = b ∷ r.further.space; each = all_more is_space b r.further.space t r.further.each; is = ap (λ x. b ∷ x) r.further.is } }
closing_space b bs (m ∷ ms) t r =
    let next = r.further.1 in
    record {
      rest = r.rest;
      space = r.space;
      further = (
        r.further.0,
        record {
          before = b ∷ next.before;
          after = next.after;
          start = next.start;
          before_space = all_more is_space b next.before t next.before_space;
          after_space = next.after_space;
          is = ap (λ x. b ∷ x) next.is;
          matcher = next.matcher;
        },
        r.further.2,
      );
    }

after_text_comma : (bs : List ℕ) → Back AfterText 44 bs Comma mark.Skip
after_text_comma bs [] r = absurd r
after_text_comma bs (m ∷ ms) r =
    record {
      rest = r.at.closing.rest;
      space = r.at.closing.space;
      further = (
        r.at.past,
        record {
          before = [];
          after = r.space;
          start = r.start;
          before_space = refl;
          after_space = r.each;
          is = ap (λ x. 44 ∷ x) r.is;
          matcher = r.at.matcher;
        },
        r.at.closing.further,
      );
    }

no_more : (ms : List MatcherView) (bs : List ℕ) → ms ≡ [] → IsSpace bs → Closing ms (125 ∷ bs)
no_more [] bs e space = record { rest = bs; space = space; further = record { space = []; each = refl; is = refl } }
no_more (m ∷ ms) bs e space = absurd cc

after_text_end : (bs : List ℕ) → Back AfterText 125 bs End mark.Skip
after_text_end bs ms r = no_more ms bs r.0 r.1

back_after_text : (b : ℕ) (bs : List ℕ) (next : State) (m : Mark) → from_after_text b ≡ Some (next, m) → Back AfterText b bs next m
back_after_text b bs next m e =
    either (is_space b) _ _ _ e
    (λ t q. moved AfterText b bs AfterText next mark.Skip m q (λ ms r. closing_space b bs ms t r))
    (λ _ q. either (b == 44) _ _ _ q
    (λ t q. moved AfterText b bs Comma next mark.Skip m q (on AfterText b 44 bs Comma mark.Skip t (after_text_comma bs)))
    (λ _ q. either (b == 125) _ _ _ q
    (λ t q. moved AfterText b bs End next mark.Skip m q (on AfterText b 125 bs End mark.Skip t (after_text_end bs)))
    (λ _ q. never (next, m) q)))

back_end : (b : ℕ) (bs : List ℕ) (next : State) (m : Mark) → from_end b ≡ Some (next, m) → Back End b bs next m
back_end b bs next m e =
    either (is_space b) _ _ _ e
    (λ t q. moved End b bs End next mark.Skip m q (λ ms r. (r.0, all_more is_space b bs t r.1)))
    (λ _ q. never (next, m) q)

tail_same : (a b : ℕ) (xs ys : List ℕ) → a ∷ xs ≡ b ∷ ys → xs ≡ ys
tail_same a b xs ys e = cc

open_space : (b : ℕ) (bs : List ℕ) → is_space b ≡ true → Back Open b bs Open mark.Skip
open_space b bs t [] r =
    let inside = r.braces.2 in
    record {
      rest = r.rest;
      space = r.space;
      braces = (
        b ∷ bs,
        refl,
        record {
          space = b ∷ inside.space;
          each = all_more is_space b inside.space t inside.each;
          is = ap (λ x. b ∷ x) (tail_same 123 123 bs r.braces.0 r.braces.1 ∙ inside.is);
        },
      );
    }
open_space b bs t (m ∷ ms) r =
    let first = r.braces.1 in
    record {
      rest = r.rest;
      space = r.space;
      braces = (
        r.braces.0,
        record {
          space = b ∷ first.space;
          start = first.start;
          each = all_more is_space b first.space t first.each;
          is = ap (λ x. 123 ∷ b ∷ x) (tail_same 123 123 bs (first.space ++ first.start) first.is);
          matcher = first.matcher;
        },
        r.braces.2,
      );
    }

open_label : (b : ℕ) (bs : List ℕ) → starts_name b ≡ true → Back Open b bs Label mark.Name
open_label b bs t [] r = absurd r
open_label b bs t (m ∷ ms) r =
    let at = matcher_at b bs m ms t r in
    record {
      rest = at.closing.rest;
      space = at.closing.space;
      braces = (
        at.past,
        record {
          space = [];
          start = b ∷ bs;
          each = refl;
          is = refl;
          matcher = at.matcher;
        },
        at.closing.further,
      );
    }

no_matcher : (ms : List MatcherView) (bs : List ℕ) → ms ≡ [] → IsSpace bs → AtBraces ms (123 ∷ 125 ∷ bs)
no_matcher [] bs e space = record { rest = bs; space = space; braces = (125 ∷ bs, refl, record { space = []; each = refl; is = refl }) }
no_matcher (m ∷ ms) bs e space = absurd cc

back_open : (b : ℕ) (bs : List ℕ) (next : State) (m : Mark) → from_open b ≡ Some (next, m) → Back Open b bs next m
back_open b bs next m e =
    either (is_space b) _ _ _ e
    (λ t q. moved Open b bs Open next mark.Skip m q (open_space b bs t))
    (λ _ q. either (starts_name b) _ _ _ q
    (λ t q. moved Open b bs Label next mark.Name m q (open_label b bs t))
    (λ _ q. either (b == 125) _ _ _ q
    (λ t q. moved Open b bs End next mark.Skip m q (on Open b 125 bs End mark.Skip t (λ ms r. no_matcher ms bs r.0 r.1)))
    (λ _ q. never (next, m) q)))

-- the metric name

name_space : (b : ℕ) (bs : List ℕ) (ms : List MatcherView) → is_space b ≡ true → AfterName ms bs → AfterName ms (b ∷ bs)
name_space b bs ms t (inl r) = inl (r.0, all_more is_space b bs t r.1)
name_space b bs ms t (inr r) =
    inr (record { space = b ∷ r.space; start = r.start; each = all_more is_space b r.space t r.each; is = ap (λ x. b ∷ x) r.is; at = r.at })

name_braces : (bs : List ℕ) (ms : List MatcherView) → AtBraces ms (123 ∷ bs) → AfterName ms (123 ∷ bs)
name_braces bs ms r = inr (record { space = []; start = 123 ∷ bs; each = refl; is = refl; at = r })

back_after_metric : (b : ℕ) (bs : List ℕ) (next : State) (m : Mark) → from_after_metric b ≡ Some (next, m) → Back AfterMetric b bs next m
back_after_metric b bs next m e =
    either (is_space b) _ _ _ e
    (λ t q. moved AfterMetric b bs AfterMetric next mark.Skip m q (λ ms r. name_space b bs ms t r))
    (λ _ q. either (b == 123) _ _ _ q
    (λ t q. moved AfterMetric b bs Open next mark.Skip m q (on AfterMetric b 123 bs Open mark.Skip t (λ ms r. name_braces bs ms r)))
    (λ _ q. never (next, m) q))

metric_end : (ms : List MatcherView) (text : List ℕ) → AfterName ms text → InMetric (metric_matcher []) ms text
metric_end ms text r = record { tail = text; named = refl; equal = refl; each = refl; is = refl; after = r }

metric_more : (b : ℕ) (bs : List ℕ) → continues_metric b ≡ true → Back Metric b bs Metric mark.Text
metric_more b bs t [] r = absurd r
metric_more b bs t (m ∷ ms) r =
    record { tail = r.tail; named = r.named; equal = r.equal; each = all_more continues_metric b m.text t r.each; is = ap (λ x. b ∷ x) r.is; after = r.after }

back_metric : (b : ℕ) (bs : List ℕ) (next : State) (m : Mark) → from_metric b ≡ Some (next, m) → Back Metric b bs next m
back_metric b bs next m e =
    either (continues_metric b) _ _ _ e
    (λ t q. moved Metric b bs Metric next mark.Text m q (metric_more b bs t))
    (λ _ q. either (is_space b) _ _ _ q
    (λ t q. moved Metric b bs AfterMetric next mark.Metric m q (λ ms r. metric_end ms (b ∷ bs) (name_space b bs ms t r)))
    (λ _ q. either (b == 123) _ _ _ q
    (λ t q. moved Metric b bs Open next mark.Metric m q
    (on Metric b 123 bs Open mark.Metric t (λ ms r. metric_end ms (123 ∷ bs) (name_braces bs ms r))))
    (λ _ q. never (next, m) q)))

start_space : (b : ℕ) (bs : List ℕ) → is_space b ≡ true → Back Start b bs Start mark.Skip
start_space b bs t ms (by_metric r) = by_metric (record {
  front = b ∷ r.front;
  name = r.name;
  back = r.back;
  front_space = all_more is_space b r.front t r.front_space;
  back_space = r.back_space;
  named = r.named;
  is = ap (λ x. b ∷ x) r.is;
  stands_for = r.stands_for;
})
start_space b bs t ms (by_braces r) = by_braces (record {
  front = b ∷ r.front;
  start = r.start;
  back = r.back;
  front_space = all_more is_space b r.front t r.front_space;
  back_space = r.back_space;
  is = ap (λ x. b ∷ x) r.is;
  braces = r.braces;
})
start_space b bs t ms (by_both r) = by_both (record {
  front = b ∷ r.front;
  name = r.name;
  between = r.between;
  start = r.start;
  back = r.back;
  further = r.further;
  front_space = all_more is_space b r.front t r.front_space;
  between_space = r.between_space;
  back_space = r.back_space;
  named = r.named;
  is = ap (λ x. b ∷ x) r.is;
  braces = r.braces;
  stands_for = r.stands_for;
})

stands : (m : MatcherView) (b : ℕ) (ms : List MatcherView) → m.name ≡ codes "__name__" → m.op ≡ op.Equal →
    record { name = m.name; op = m.op; text = b ∷ m.text } ∷ ms ≡ metric_matcher (b ∷ m.text) ∷ ms
stands m b ms e f = rw (e, f) refl

start_metric : (b : ℕ) (bs : List ℕ) → starts_metric b ≡ true → Back Start b bs Metric mark.Text
start_metric b bs t [] r = absurd r
start_metric b bs t (m ∷ ms) r = named_start r.after
  where
    named_start : AfterName ms r.tail → IsSelector (b ∷ bs) (record { name = m.name; op = m.op; text = b ∷ m.text } ∷ ms)
    named_start (inl a) = by_metric (record {
      front = [];
      name = b ∷ m.text;
      back = r.tail;
      front_space = refl;
      back_space = a.1;
      named = rw t r.each;
      is = ap (λ x. b ∷ x) r.is;
      stands_for = stands m b ms r.named r.equal ∙ ap (λ x. metric_matcher (b ∷ m.text) ∷ x) a.0;
    })
    named_start (inr a) = by_both (record {
      front = [];
      name = b ∷ m.text;
      between = a.space;
      start = a.start;
      back = a.at.rest;
      further = ms;
      front_space = refl;
      between_space = a.each;
      back_space = a.at.space;
      named = rw t r.each;
      is = ap (λ x. b ∷ x) (r.is ∙ ap (λ x. m.text ++ x) a.is);
      braces = a.at.braces;
      stands_for = stands m b ms r.named r.equal;
    })

back_start : (b : ℕ) (bs : List ℕ) (next : State) (m : Mark) → from_start b ≡ Some (next, m) → Back Start b bs next m
back_start b bs next m e =
    either (is_space b) _ _ _ e
    (λ t q. moved Start b bs Start next mark.Skip m q (start_space b bs t))
    (λ _ q. either (starts_metric b) _ _ _ q
    (λ t q. moved Start b bs Metric next mark.Text m q (start_metric b bs t))
    (λ _ q. either (b == 123) _ _ _ q
    (λ t q. moved Start b bs Open next mark.Skip m q (on Start b 123 bs Open mark.Skip t (λ ms r. by_braces (record {
      front = [];
      start = 123 ∷ bs;
      back = r.rest;
      front_space = refl;
      back_space = r.space;
      is = refl;
      braces = r.braces;
    }))))
    (λ _ q. never (next, m) q)))

back : (s : State) (b : ℕ) (bs : List ℕ) (next : State) (m : Mark) → step s b ≡ Some (next, m) → Back s b bs next m
unfolding step
back Start b bs next m e = back_start b bs next m e
back Metric b bs next m e = back_metric b bs next m e
back AfterMetric b bs next m e = back_after_metric b bs next m e
back Open b bs next m e = back_open b bs next m e
back Comma b bs next m e = back_comma b bs next m e
back Label b bs next m e = back_label b bs next m e
back AfterLabel b bs next m e = back_after_label b bs next m e
back Equals b bs next m e = back_equals b bs next m e
back Bang b bs next m e = back_bang b bs next m e
back (BeforeText op) b bs next m e = back_before_text op b bs next m e
back (Text op) b bs next m e = back_text op b bs next m e
back (Escape op) b bs next m e = back_escape op b bs next m e
back AfterText b bs next m e = back_after_text b bs next m e
back End b bs next m e = back_end b bs next m e

ends : (s : State) (ms : List MatcherView) → option_map (λ end. marked 0 end []) (end_mark s) ≡ Some ms → Rest s ms []
ends Start ms e = never ms e
ends Metric ms e = let P : List MatcherView → Type 0 = λ x. Rest Metric x [] in subst P (same_some _ _ e) (metric_end [] [] (inl (refl, refl)))
ends AfterMetric ms e = inl (sym (same_some _ _ e), refl)
ends Open ms e = never ms e
ends Comma ms e = never ms e
ends Label ms e = never ms e
ends AfterLabel ms e = never ms e
ends Equals ms e = never ms e
ends Bang ms e = never ms e
ends (BeforeText op) ms e = never ms e
ends (Text op) ms e = never ms e
ends (Escape op) ms e = never ms e
ends AfterText ms e = never ms e
ends End ms e = (sym (same_some _ _ e), refl)

inner : {X Y : Type 0} (f : X → Y) (o : Option X) (y : Y) → option_map f o ≡ Some y → (x : X) × (o ≡ Some x) × (f x ≡ y)
inner f None y e = absurd cc
inner f (Some x) y e = (x, refl, same_some (f x) y e)

by_move : (s : State) (b : ℕ) (bs : List ℕ) (o : Move) (ms : List MatcherView) → step s b ≡ o → read_on b bs o ≡ Some ms →
    ((next : State) (inside : List MatcherView) → reads bs next ≡ Some inside → Rest next inside bs) → Rest s ms (b ∷ bs)
by_move s b bs None ms e h deeper = never ms h
by_move s b bs (Some move) ms e h deeper =
    let found = inner (marked b move.1) (reads bs move.0) ms h in
    let P : List MatcherView → Type 0 = λ x. Rest s x (b ∷ bs) in
    subst P found.2 (back s b bs move.0 move.1 e found.0 (deeper move.0 found.0 found.1))

pub sound : (bs : List ℕ) (s : State) (ms : List MatcherView) → reads bs s ≡ Some ms → Rest s ms bs
unfolding reads
sound [] s ms e = ends s ms e
sound (b ∷ bs) s ms e = by_move s b bs (step s b) ms refl (on_move e) (λ next inside h. sound bs next inside h)
  where
    on_move : reads (b ∷ bs) s ≡ Some ms → read_on b bs (step s b) ≡ Some ms
    on_move h = h
