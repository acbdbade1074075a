-- What the parts of a connection give the whole.
use Rattle.std.proofs.Common.{◌≡◌, ◌+◌, ◌-◌, ◌≤◌, ℕ, false, List, ◌++◌, length, take, drop}
use Rattle.std.proofs.Common.{slice_range, Option, None, Some, Result, Ok, Err, inr}
use Rattle.std.proofs.Common.{sym, ap, ◌∙◌, subst, arith, append_assoc, length-append, length-drop}
use Rattle.std.proofs.Common.{true≢false}
use lib.Seq.{drop-append-le}
use Rattle.std.proofs.lemmas.List.{take-append-le}
use Rattle.std.specs.Io.KnownBytes.{Consumes}
use Rattle.httparse.specs.Grammar.{RequestHead}
use Rattle.requests.specs.declared.fields.Head.{Head}
use Rattle.requests.specs.declared.request.Request.{Request}
use Rattle.requests.specs.declared.request.ReadError.{ReadError}
use Rattle.requests.specs.declared.request.ReadError.TheVariants.{Closed, Fault, Memory, Refused}
use Rattle.requests.specs.declared.target.Path.{Path}
use Rattle.requests.specs.declared.target.Path.TheVariants.{Select, Write, Delete, Cut}
use Rattle.requests.specs.Fields.{IsHeadIn, fields_of, length_asked}
use Rattle.requests.specs.Requests.{Meaning, Told}
use Rattle.requests.specs.Targets.{path_asked, takes_query}
use Rattle.requests.specs.Reading.{BodyMeans, PostMeans, PathMeans, HeadMeans}
use Rattle.requests.specs.Reading.{AnswersAfter, AsksAfter}

told_after : (P Q : Meaning → Type 0) → ((m : Meaning) → P m → Q m) → (r : Result Request ReadError)
    → Told P r → AnswersAfter Q r
told_after P Q f (Ok request) p = f (Ok request) p
told_after P Q f (Err Closed) p = absurd p
told_after P Q f (Err Fault) p = tt
told_after P Q f (Err Memory) p = tt
told_after P Q f (Err (Refused refusal)) p = f (Err refusal) p

post_path : (path : Path) (h : RequestHead) (rest : List ℕ) (m : Meaning) → takes_query path ≡ false
    → PostMeans path (length_asked (fields_of h)) rest m → PathMeans (Ok path) h rest m
post_path Select h rest m e p = absurd (true≢false e)
post_path Write h rest m e p = p
post_path Delete h rest m e p = p
post_path Cut h rest m e p = p

path_of_head : (come : List ℕ) (head : Head) (h : RequestHead) → IsHeadIn come head h
    → path_asked head.method.now head.target.now ≡ path_asked h.method h.target
path_of_head come head h is = rw (is.method, is.target)

-- the bytes of a body, where the head's end, what came and what was left are known
body_is : (come bs y body : List ℕ) (end n : ℕ) → end ≤ length come → end + n ≤ length (come ++ bs)
    → body ≡ slice_range (come ++ bs) end (end + n)
    → (n ≤ length (drop end come ++ (bs ++ y))) × (body ≡ take n (drop end come ++ (bs ++ y)))
body_is come bs y body end n within whole is =
    let parts : drop end (come ++ bs) ≡ drop end come ++ bs = drop-append-le end come bs within in
    let size : length (come ++ bs) ≡ length come + length bs = length-append come bs in
    let room : n ≤ length (drop end come ++ bs) = rw (length-append, length-drop)
    (omega (arith, whole, size, within)) in
    let same : end + n - end ≡ n = omega arith in
    let grown : drop end come ++ (bs ++ y) ≡ (drop end come ++ bs) ++ y = sym
    (append_assoc (drop end come) bs y) in (
      rw (grown, length-append (drop end come ++ bs) y) (omega (arith, room)),
      is ∙ ap (λ k. take k (drop end (come ++ bs))) same ∙ ap (take n) parts
          ∙ sym (take-append-le n (drop end come ++ bs) y room) ∙ ap (take n) (sym grown),
    )

pub asked_body : (come all bs body : List ℕ) (a b : Option (List ℕ)) (head : Head) (h : RequestHead)
    (path : Path) (n : ℕ) (result : Result Request ReadError)
    → IsHeadIn come head h → Ok path ≡ path_asked head.method.now head.target.now → takes_query path
    ≡ false → head.length ≡ Ok n
    → all ≡ come ++ bs → Consumes a b bs → head.end + n ≤ length all → body
    ≡ slice_range all head.end (head.end + n)
    → Told (BodyMeans path body) result → AsksAfter come a result
asked_body come all bs body None b head h path n result is asked post long grown taken whole cut
    told = tt
asked_body come all bs body (Some x) None head h path n result is asked post long grown taken whole
    cut told = absurd taken
asked_body come all bs body (Some x) (Some y) head h path n result is asked post long grown taken
    whole cut told =
    let found = body_is come bs y body head.end n is.within (rw grown at whole) (rw grown at cut) in
    let path_is : Ok path ≡ path_asked h.method h.target = asked ∙ path_of_head come head h is in
    let length_is : Ok n ≡ length_asked (fields_of h) = sym long ∙ is.length_is in
    record {
      h = h;
      rest = drop head.end come;
      reads = is.reads;
      few = is.few;
      asks = rw taken (told_after (BodyMeans path body)
          (HeadMeans h (drop head.end come ++ (bs ++ y)))
          (λ m p. subst (λ asked. PathMeans asked h (drop head.end come ++ (bs ++ y)) m) path_is
          (post_path path h _ m post (subst (λ told. PostMeans path told
          (drop head.end come ++ (bs ++ y)) m) length_is
          (inr (found.0, subst (λ bytes. BodyMeans path bytes m) found.1 p))))) result told);
    }
