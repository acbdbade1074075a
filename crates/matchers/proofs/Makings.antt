-- The names of what a selector stands for, and lists of matchers that can be made.
use Rattle.std.proofs.Common.{◌≡◌, ◌≢◌, List, [], ◌∷◌, ◌++◌, ap, sym, ◌∙◌, append_assoc, ℕ, ◌<◌, ◌≤◌, length, true, refl, subst, arith, Result, Ok, Err, IfOk, OnOk, Vec, Global}
use Rattle.labels.specs.Names.{is_name}
use Rattle.matchers.specs.Grammar.{BeginsFurther, BeginsBraces, IsSelector, by_metric, by_braces, by_both}
use Rattle.matchers.specs.Views.{MatcherView}
use Rattle.matchers.specs.Selectors.{AreNamed, AreMade, IsFaultOf, OrMemory, long, refused}
use Rattle.matchers.specs.Selectors.{RefusedBy, IsTextRefusal, none, empty, many, faulty}
use Rattle.matchers.specs.Limits.{most_matchers, AreMadeWithin, IsMadeWithin, IsFaultWithin}
use Rattle.matchers.specs.Limits.{HasFaultWithin, IsAcceptedWithin, IsFaulty, IsRefusalWithin}
use Rattle.matchers.specs.Limits.{IsUnread}
use Rattle.matchers.specs.declared.limits.Limits.{Limits}
use Rattle.matchers.specs.declared.limits.Limits.TheVariants.{Short, Long}
use Rattle.matchers.specs.declared.error.SelectorError.{SelectorError}
use Rattle.matchers.specs.declared.error.SelectorError.TheVariants.{Syntax, Empty, TooMany, PatternTooLong, PatternRefused, Memory}

further_named : (ms : List MatcherView) (text rest : List ℕ) → BeginsFurther ms text rest → AreNamed ms
further_named [] text rest r = tt
further_named (m ∷ ms) text rest r = (r.1.matcher.named, further_named ms r.0 rest r.2)

braces_named : (ms : List MatcherView) (text rest : List ℕ) → BeginsBraces ms text rest → AreNamed ms
braces_named [] text rest r = tt
braces_named (m ∷ ms) text rest r = (r.1.matcher.named, further_named ms r.0 rest r.2)

-- the matchers of a selector have the names of labels
pub names_of : (text : List ℕ) (ms : List MatcherView) → IsSelector text ms → AreNamed ms
names_of text ms (by_metric r) = subst AreNamed (sym r.stands_for) (refl, tt)
names_of text ms (by_braces r) = braces_named ms r.start r.back r.braces
names_of text ms (by_both r) = subst AreNamed (sym r.stands_for) (refl, braces_named r.further r.start r.back r.braces)

named_behind : (front : List MatcherView) (m : MatcherView) (after : List MatcherView) → AreNamed (front ++ (m ∷ after)) → is_name m.name ≡ true
named_behind [] m after named = named.0
named_behind (n ∷ front) m after named = named_behind front m after named.1

-- the next of those that are left has the name of a label
pub next_named : (ms front left after : List MatcherView) (m : MatcherView) → ms ≡ front ++ left → left ≡ m ∷ after → AreNamed ms → is_name m.name ≡ true
next_named ms front left after m is e named = named_behind front m after (subst AreNamed (is ∙ ap (λ x. front ++ x) e) named)

pub AreMadeWithin-push : (limits : Limits) (ms : List MatcherView) (m : MatcherView)
    → AreMadeWithin limits ms → IsMadeWithin limits m → AreMadeWithin limits (ms ++ m ∷ [])
AreMadeWithin-push limits [] m a b = (b, tt)
AreMadeWithin-push limits (n ∷ ms) m a b = (a.0, AreMadeWithin-push limits ms m a.1 b)

-- a fault of the first matcher that can't be made, or want of memory
pub fault_of : (limits : Limits) (ms front : List MatcherView) (first : MatcherView)
    (back : List MatcherView) (e : SelectorError) → ms ≡ front ++ (first ∷ back)
    → AreMadeWithin limits front → OrMemory (IsFaultWithin limits first) e
    → OrMemory (HasFaultWithin limits ms) e
fault_of limits ms front first back Memory is made fault = tt
fault_of limits ms front first back (Syntax at) is made fault = absurd fault
fault_of limits ms front first back Empty is made fault = absurd fault
fault_of limits ms front first back TooMany is made fault = absurd fault
fault_of limits ms front first back PatternTooLong is made fault = record {
  front = front;
  first = first;
  back = back;
  is = is;
  made = made;
  fault = fault;
}
fault_of limits ms front first back PatternRefused is made fault = record {
  front = front;
  first = first;
  back = back;
  is = is;
  made = made;
  fault = fault;
}

-- a text that is no selector is refused so
pub unread_refused : (limits : Limits) (text : List ℕ) (e : SelectorError)
    → OrMemory (IsUnread text) e → OrMemory (IsRefusalWithin limits text) e
unread_refused limits text Memory fault = tt
unread_refused limits text (Syntax at) fault = fault
unread_refused limits text Empty fault = absurd fault
unread_refused limits text TooMany fault = absurd fault
unread_refused limits text PatternTooLong fault = absurd fault
unread_refused limits text PatternRefused fault = absurd fault

-- the text of the matchers is refused so
pub refused_of : (limits : Limits) (text : List ℕ) (ms : List MatcherView) (e : SelectorError)
    → IsSelector text ms → 0 < length ms → length ms ≤ most_matchers limits
    → OrMemory (HasFaultWithin limits ms) e → OrMemory (IsRefusalWithin limits text) e
refused_of limits text ms Memory selector some few fault = tt
refused_of limits text ms (Syntax at) selector some few fault = absurd fault.fault
refused_of limits text ms Empty selector some few fault = absurd fault.fault
refused_of limits text ms TooMany selector some few fault = absurd fault.fault
refused_of limits text ms PatternTooLong selector some few fault =
    record { matchers = ms; selector = selector; some = some; few = few; fault = fault }
refused_of limits text ms PatternRefused selector some few fault =
    record { matchers = ms; selector = selector; some = some; few = few; fault = fault }

-- matchers that were made of what a selector stands for
pub accepted_of : (limits : Limits) (text : List ℕ) (ms : List MatcherView)
    (r : Result (Vec MatcherView Global) SelectorError) → IfOk r (λ v. v.items ≡ ms)
    → OnOk r (AreMadeWithin limits ms) → IsSelector text ms → 0 < length ms
    → length ms ≤ most_matchers limits → IfOk r (λ v. IsAcceptedWithin limits text v.items)
accepted_of limits text ms (Err e) is made selector some few = tt
accepted_of limits text ms (Ok v) is made selector some few =
    rw is (record { selector = selector; some = some; few = few; made = made })

made_short : (ms : List MatcherView) → AreMadeWithin Short ms → AreMade ms
made_short [] made = tt
made_short (m ∷ ms) made = (record { pattern = made.0 }, made_short ms made.1)

-- what is accepted within the shorter limits has matchers that can be made
pub accepted_short : (text : List ℕ) (ms : List MatcherView) → IsAcceptedWithin Short text ms
    → AreMade ms
accepted_short text ms is = made_short ms is.made

fault_short : (m : MatcherView) (e : SelectorError) → IsFaultWithin Short m e → IsFaultOf m e
fault_short m PatternTooLong fault = long fault.0 fault.1
fault_short m PatternRefused fault = refused fault.0 fault.1
fault_short m (Syntax at) fault = absurd fault
fault_short m Empty fault = absurd fault
fault_short m TooMany fault = absurd fault
fault_short m Memory fault = absurd fault

faulty_short : (text : List ℕ) (e : SelectorError) → IsFaulty Short text e → IsTextRefusal text e
faulty_short text e is =
    faulty is.matchers e is.selector is.some is.few (record {
      front = is.fault.front;
      first = is.fault.first;
      back = is.fault.back;
      is = is.fault.is;
      made = made_short is.fault.front is.fault.made;
      fault = fault_short is.fault.first e is.fault.fault;
    })

-- what is refused within the shorter limits
pub refused_short : (text : List ℕ) (e : SelectorError) → OrMemory (IsRefusalWithin Short text) e
    → RefusedBy text e
refused_short text Memory is = tt
refused_short text (Syntax at) is = none at is
refused_short text Empty is = empty is
refused_short text TooMany is = many is.matchers is.selector is.many
refused_short text PatternTooLong is = faulty_short text PatternTooLong is
refused_short text PatternRefused is = faulty_short text PatternRefused is

pub most_within : (limits : Limits) → most_matchers limits ≤ 64
most_within Short = omega arith
most_within Long = omega arith

no_fault : (m : MatcherView) → IsFaultOf m Memory → ⊥
no_fault m fault = elim fault [ ]

-- what a text is refused for is no want of memory
pub not_memory : (text : List ℕ) (e : SelectorError) → IsTextRefusal text e → e ≢ Memory
not_memory text e p same = no_refusal (subst (IsTextRefusal text) same p)
  where
    no_refusal : IsTextRefusal text Memory → ⊥
    no_refusal (faulty ms e selector some few fault) = no_fault fault.first fault.fault

-- one matcher more has been taken from those that are left
pub one_more : (ms front left after : List MatcherView) (m : MatcherView) → ms ≡ front ++ left → left ≡ m ∷ after → ms ≡ (front ++ m ∷ []) ++ after
one_more ms front left after m is e = is ∙ ap (λ x. front ++ x) e ∙ sym (append_assoc front (m ∷ []) after)

pub one_made : (new made front : List MatcherView) (m n : MatcherView) → new ≡ made ++ n ∷ [] → made ≡ front → n ≡ m → new ≡ front ++ m ∷ []
one_made new made front m n is e f = is ∙ ap (λ x. x ++ n ∷ []) e ∙ ap (λ x. front ++ x ∷ []) f
