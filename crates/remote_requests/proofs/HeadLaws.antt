-- What a head gives the whole.
use Rattle.std.proofs.Common.{◌≡◌, ◌≤◌, ℕ, ℤ, List, ◌++◌, length, drop, Result, Ok, Err, inl}
use Rattle.std.proofs.Common.{inr, refl, sym, ap, ◌∙◌, subst, arith, length-append, length-take, take}
use Rattle.guard.specs.declared.rules.Denial.{Denial}
use Rattle.guard.specs.declared.rules.Rules.{Rules}
use Rattle.guard.specs.Hosts.{claimed}
use Rattle.guard.specs.Judging.{judgement}
use Rattle.httparse.specs.Grammar.{RequestHead, ReadsRequest, print_request}
use Rattle.httparse.proofs.GrammarLemmas.{ReadsRequest-append}
use Rattle.httparse.specs.Grammar.{Field}
use Rattle.httparse.specs.Spans.{AreFieldsAt, header_bytes, name_and_value}
use Rattle.httparse.specs.declared.spans.HeaderSpan.{HeaderSpan}
use Rattle.std.proofs.lemmas.List.{length-map}
use Rattle.requests.specs.Fields.{fields_of}
use Rattle.remote_requests.specs.declared.asked.Asked.{Asked}
use Rattle.remote_requests.specs.declared.asked.ReadError.{ReadError}
use Rattle.remote_requests.specs.declared.asked.ReadError.TheVariants.{Closed, Lost, Memory}
use Rattle.remote_requests.specs.declared.asked.ReadError.TheVariants.{Refused}
use Rattle.remote_requests.specs.declared.head.Head.{Head}
use Rattle.remote_requests.specs.declared.path.Path.{Path}
use Rattle.remote_requests.specs.declared.refusal.Refusal.{Refusal}
use Rattle.remote_requests.specs.declared.refusal.Refusal.TheVariants as refusals
use Rattle.remote_requests.specs.Admitting.{admission, refused_by, refusal_of}
use Rattle.remote_requests.specs.Fields.{length_asked}
use Rattle.remote_requests.specs.Heads.{IsHeadIn, IsNoHead}
use Rattle.remote_requests.specs.Meaning.{AdmittedMeans, MeansUnder, PathMeans}
use Rattle.remote_requests.specs.Paths.{path_asked}
use Rattle.remote_requests.specs.Writing.{Meaning, Told}
use Rattle.std.proofs.lemmas.List.{drop-append-le}

-- a head in the front of bytes is one in the bytes
pub head_before : (front more : List ℕ) (head : Head) (h : RequestHead) → IsHeadIn front head h
    → IsHeadIn (front ++ more) head h
head_before front more head h p = record {
  reads =
      subst (ReadsRequest (front ++ more) h) (sym (drop-append-le head.end front more p.within))
      (ReadsRequest-append front h (drop head.end front) more p.reads);
  within = omega (arith, p.within, length-append front more);
  few = p.few;
  claims = p.claims;
  target = p.target;
  path = p.path;
  length = p.length;
  form = p.form;
}

pub head_short : (front : List ℕ) (head : Head) (h : RequestHead) → IsHeadIn front head h
    → length (print_request h) ≤ length front
head_short front head h p =
    omega (arith, ap length p.reads.1, length-append (print_request h) (drop head.end front))

under_head : (rules : Rules) (now : ℤ) (bytes : List ℕ) (head : Head) (h : RequestHead)
    → IsHeadIn bytes head h → length (print_request h) ≤ 8192 → (m : Meaning)
    → AdmittedMeans (admission rules h) h now (drop head.end bytes) m
    → MeansUnder rules now bytes m
under_head rules now bytes head h p short m asks = inl (record {
  h = h;
  rest = drop head.end bytes;
  reads = p.reads;
  few = p.few;
  short = short;
  asks = asks;
})

admission_is : (rules : Rules) (bytes : List ℕ) (head : Head) (h : RequestHead)
    (r : Result (Unit {0}) Denial) → IsHeadIn bytes head h
    → r ≡ judgement rules (claimed head.claims) → admission rules h ≡ refused_by r
admission_is rules bytes head h r p e =
    ap refused_by (ap (judgement rules) (sym p.claims) ∙ sym e)

admitted : (rules : Rules) (now : ℤ) (bytes : List ℕ) (head : Head) (h : RequestHead)
    (u : Unit {0}) → IsHeadIn bytes head h → length (print_request h) ≤ 8192
    → Ok u ≡ judgement rules (claimed head.claims) → (m : Meaning)
    → PathMeans head.path head.target.now head.length head.form now (drop head.end bytes) m
    → MeansUnder rules now bytes m
admitted rules now bytes head h u p short e m asks =
    let rest = drop head.end bytes in
    let target = subst (λ (x : List ℕ). PathMeans head.path x head.length head.form now rest m)
    p.target asks in
    let path = subst (λ (x : Result Path Refusal). PathMeans x h.target head.length head.form now
    rest m) p.path target in
    let length = subst (λ (x : Result ℕ Refusal). PathMeans (path_asked h.method h.target) h.target x
    head.form now rest m) p.length path in
    let form = subst (λ (x : Result (Unit {0}) Refusal). PathMeans
    (path_asked h.method h.target) h.target (length_asked (fields_of h)) x now rest m) p.form length
    in
    under_head rules now bytes head h p short m
    (subst (λ (r : Result (Unit {0}) Refusal). AdmittedMeans r h now rest m)
    (sym (admission_is rules bytes head h (Ok u) p e)) form)

pub denied : (rules : Rules) (now : ℤ) (bytes : List ℕ) (head : Head) (h : RequestHead)
    (denial : Denial) → IsHeadIn bytes head h → length (print_request h) ≤ 8192
    → Err denial ≡ judgement rules (claimed head.claims)
    → MeansUnder rules now bytes (Err (refusal_of denial))
denied rules now bytes head h denial p short e =
    under_head rules now bytes head h p short (Err (refusal_of denial))
    (subst (λ (r : Result (Unit {0}) Refusal). AdmittedMeans r h now (drop head.end bytes)
    (Err (refusal_of denial))) (sym (admission_is rules bytes head h (Err denial) p e)) refl)

pub told_admitted : (rules : Rules) (now : ℤ) (bytes : List ℕ) (head : Head) (h : RequestHead)
    (u : Unit {0}) (result : Result Asked ReadError) → IsHeadIn bytes head h
    → length (print_request h) ≤ 8192 → Ok u ≡ judgement rules (claimed head.claims)
    → Told (PathMeans head.path head.target.now head.length head.form now (drop head.end bytes)) result
    → Told (MeansUnder rules now bytes) result
told_admitted rules now bytes head h u (Ok asked) p short e asks =
    admitted rules now bytes head h u p short e (Ok asked) asks
told_admitted rules now bytes head h u (Err Closed) p short e asks = absurd asks
told_admitted rules now bytes head h u (Err Lost) p short e asks = absurd asks
told_admitted rules now bytes head h u (Err Memory) p short e asks = tt
told_admitted rules now bytes head h u (Err (Refused r)) p short e asks =
    admitted rules now bytes head h u p short e (Err r) asks

pub no_head : (rules : Rules) (now : ℤ) (bytes : List ℕ) (refusal : Refusal)
    → IsNoHead bytes refusal → MeansUnder rules now bytes (Err refusal)
no_head rules now bytes refusals.BadHead p = inr (inl (p, refl))
no_head rules now bytes refusals.HeadTooLong p = inr (inr (p, refl))
no_head rules now bytes refusals.Guarded p = absurd p
no_head rules now bytes refusals.NoSuchPath p = absurd p
no_head rules now bytes refusals.Method p = absurd p
no_head rules now bytes refusals.NoLength p = absurd p
no_head rules now bytes refusals.BadLength p = absurd p
no_head rules now bytes refusals.Encoding p = absurd p
no_head rules now bytes refusals.Form p = absurd p
no_head rules now bytes (refusals.BadBody fault) p = absurd p
no_head rules now bytes refusals.TooMany p = absurd p
no_head rules now bytes (refusals.BadQuery fault) p = absurd p
no_head rules now bytes refusals.NoLabel p = absurd p
no_head rules now bytes refusals.NoMatch p = absurd p
no_head rules now bytes refusals.BadParameter p = absurd p
no_head rules now bytes (refusals.BadSelector error) p = absurd p
no_head rules now bytes (refusals.BadPage refusal) p = absurd p
no_head rules now bytes refusals.NoMetric p = absurd p
no_head rules now bytes refusals.ClockBehind p = absurd p
no_head rules now bytes refusals.Unavailable p = absurd p
no_head rules now bytes refusals.NotKept p = absurd p

-- as many fields as there is room for
pub fields_few : (buf : List ℕ) (headers : List HeaderSpan) (count : ℕ) (fields : List Field)
    → AreFieldsAt buf headers count fields → length headers ≡ 64 → length fields ≤ 64
fields_few buf headers count fields are room =
    let same = ap length are in
    let left = length-map (take count headers) (header_bytes buf) in
    let right = length-map fields name_and_value in
    let taken = length-take count headers in
    grind (arith, same, left, right, taken, room)
