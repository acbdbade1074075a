-- What a head that is admitted, or is not, gives the whole.
use Rattle.std.proofs.Common.{◌≡◌, ◌≤◌, ℕ, List, ◌++◌, length, Option, None, Some, IfSome}
use Rattle.std.proofs.Common.{Result, Ok, Err, inl, inr, refl, sym, ap, ◌∙◌, subst, arith}
use Rattle.std.proofs.Common.{length-append, true, false, codes}
use Rattle.std.specs.Prelude.{Bool, ◌&&◌, if◌then◌else◌}
use Rattle.std.specs.Str.{bytes_eq}
use Rattle.std.specs.Io.KnownBytes.{Consumes}
use Rattle.httparse.specs.Grammar.{RequestHead, ReadsRequest, print_request}
use Rattle.httparse.proofs.GrammarLemmas.{ReadsRequest-append, request_unique}
use Rattle.guard.specs.declared.rules.Denial.TheVariants.{Guarded}
use Rattle.guard.specs.declared.rules.Rules.{Rules}
use Rattle.guard.specs.Hosts.{Claimed}
use Rattle.guard.specs.Judging.{judgement, no_rules}
use Rattle.requests.specs.declared.refusal.Refusal.{Refusal}
use Rattle.requests.specs.declared.refusal.Refusal.TheVariants as refusals
use Rattle.requests.specs.declared.request.Request.{Request}
use Rattle.requests.specs.declared.request.ReadError.{ReadError}
use Rattle.requests.specs.declared.request.ReadError.TheVariants.{Closed, Fault, Memory, Refused}
use Rattle.requests.specs.Admitting.{IsAdmission, admission, refused_by, AdmittedMeans}
use Rattle.requests.specs.Admitting.{MeansUnder, AnswersUnder, IsBarred, refusal_of}
use Rattle.requests.specs.Requests.{Meaning}
use Rattle.requests.specs.Reading.{HeadMeans, Means, Answers, AsksWith, AsksAfter}

-- a head in what has come, under rules, with what follows
under : (rules : Rules) (come x y : List ℕ) (h : RequestHead) (rest : List ℕ)
    → ReadsRequest come h rest → length h.fields ≤ 64 → x ≡ come ++ y → length come ≤ 8192
    → (m : Meaning) → AdmittedMeans (admission rules h) h (rest ++ y) m → MeansUnder rules x m
under rules come x y h rest reads few e short m asks = inl (record {
  h = h;
  rest = rest ++ y;
  reads = rw e (ReadsRequest-append come h rest y reads);
  few = few;
  short = omega (arith, short, ap length reads.1, length-append (print_request h) rest);
  asks = asks;
})

-- a head that is not admitted
pub denied : (rules : Rules) (a b : Option (List ℕ)) (come : List ℕ) (refusal : Refusal)
    → Consumes a b come → length come ≤ 8192 → IsAdmission rules come (Err refusal)
    → IfSome a (AnswersUnder rules (Err (Refused refusal)))
denied rules None b come refusal taken short p = tt
denied rules (Some x) None come refusal taken short p = absurd taken
denied rules (Some x) (Some y) come refusal taken short p =
    under rules come x y p.h p.rest p.reads p.few taken short (Err refusal)
    (subst (λ (r : Result (Unit {0}) Refusal). AdmittedMeans r p.h (p.rest ++ y) (Err refusal))
    p.is refl)

-- one that is, with what it asks
asked : (rules : Rules) (come x y : List ℕ) (result : Result Request ReadError) (u : Unit {0})
    → x ≡ come ++ y → length come ≤ 8192 → IsAdmission rules come (Ok u)
    → (p : AsksWith come y result) → (m : Meaning) → HeadMeans p.h (p.rest ++ y) m
    → MeansUnder rules x m
asked rules come x y result u e short here p m asks =
    let same = request_unique come here.h p.h here.rest p.rest here.reads p.reads in
    let is : Ok u ≡ admission rules p.h = here.is ∙ ap (admission rules) same.0 in
    under rules come x y p.h p.rest p.reads p.few e short m
    (subst (λ (r : Result (Unit {0}) Refusal). AdmittedMeans r p.h (p.rest ++ y) m) is asks)

pub admitted : (rules : Rules) (a b : Option (List ℕ)) (come : List ℕ) (u : Unit {0})
    (result : Result Request ReadError)
    → Consumes a b come → length come ≤ 8192 → IsAdmission rules come (Ok u)
    → AsksAfter come b result → IfSome a (AnswersUnder rules result)
admitted rules None b come u result taken short here p = tt
admitted rules (Some x) None come u result taken short here p = absurd taken
admitted rules (Some x) (Some y) come u (Ok request) taken short here p =
    asked rules come x y (Ok request) u taken short here p (Ok request) p.asks
admitted rules (Some x) (Some y) come u (Err Closed) taken short here p = absurd p.asks
admitted rules (Some x) (Some y) come u (Err Fault) taken short here p = tt
admitted rules (Some x) (Some y) come u (Err Memory) taken short here p = tt
admitted rules (Some x) (Some y) come u (Err (Refused refusal)) taken short here p =
    asked rules come x y (Err (Refused refusal)) u taken short here p (Err refusal) p.asks

-- what the rules do not admit asks nothing
pub asks_nothing : (rules : Rules) (input : List ℕ) (request : Request)
    → IsBarred rules input → MeansUnder rules input (Ok request) → ⊥
asks_nothing rules input request b (inl p) =
    let same =
    request_unique input b.are.h p.h b.are.rest p.rest b.are.reads p.reads in
    let is : admission rules p.h ≡ Err (refusal_of b.why) =
    ap (admission rules) (sym same.0)
    ∙ ap (λ (c : Claimed). refused_by (judgement rules c)) (sym b.are.claims_are)
    ∙ ap refused_by b.denied in
    let no : Ok request ≡ Err (refusal_of b.why) =
    subst (λ (r : Result (Unit {0}) Refusal). AdmittedMeans r p.h p.rest (Ok request)) is p.asks in
    cc
asks_nothing rules input request b (inr (inl q)) =
    let no : Ok request ≡ Err refusals.BadHead = q.1 in cc
asks_nothing rules input request b (inr (inr q)) =
    let no : Ok request ≡ Err refusals.HeadTooLong = q.1 in cc

-- no rules admit each head
all_admitted : (h : RequestHead) → admission no_rules h ≡ Ok tt
all_admitted h = go (bytes_eq h.method (codes "POST"))
  where
    go : (b : Bool) → refused_by (if b && false then Err Guarded else Ok tt) ≡ Ok tt
    go false = refl
    go true = refl

-- what bytes mean under no rules is what they mean
pub means_unruled : (input : List ℕ) (m : Meaning) → MeansUnder no_rules input m → Means input m
means_unruled input m (inl p) = inl (record {
  h = p.h;
  rest = p.rest;
  reads = p.reads;
  few = p.few;
  short = p.short;
  asks =
      subst (λ (r : Result (Unit {0}) Refusal). AdmittedMeans r p.h p.rest m) (all_admitted p.h)
      p.asks;
})
means_unruled input m (inr p) = inr p

-- and so of an answer
unruled : (input : Option (List ℕ)) (result : Result Request ReadError)
    → IfSome input (AnswersUnder no_rules result) → IfSome input (Answers result)
unruled None result p = tt
unruled (Some bytes) (Ok request) p = means_unruled bytes (Ok request) p
unruled (Some bytes) (Err Closed) p = p
unruled (Some bytes) (Err Fault) p = tt
unruled (Some bytes) (Err Memory) p = tt
unruled (Some bytes) (Err (Refused refusal)) p = means_unruled bytes (Err refusal) p

pub answers_unruled : (rules : Rules) (input : Option (List ℕ)) (result : Result Request ReadError)
    → rules ≡ no_rules → IfSome input (AnswersUnder rules result) → IfSome input (Answers result)
answers_unruled rules input result e p =
    unruled input result (subst (λ (r : Rules). IfSome input (AnswersUnder r result)) e p)
