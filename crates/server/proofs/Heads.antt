-- What a request of `HEAD` asks for, and what one of `GET` does.
use Rattle.std.proofs.Common.{◌≡◌, ◌++◌, ℕ, Bool, true, false, List, [], ◌∷◌, length, codes, inl}
use Rattle.std.proofs.Common.{refl, ap, sym, subst, ◌∙◌, append_assoc}
use Rattle.std.specs.Prelude.{◌≢◌}
use Rattle.server.proofs.Asking.{end_past, lacking, lacks_behind, lacks_both, one_way}
use Rattle.server.specs.Status.{Lacks, IsParted, HasEnd, IsLine, IsFirstLine, IsRequest, AsksAt}
use Rattle.server.specs.Status.{Asks, is_bare, allow_of, head_text, reply_text, IsReplyTo}
use Rattle.server.specs.Status.{IsHeadOfReply}
use Rattle.server.specs.declared.status.Asked.{Asked}
use Rattle.server.specs.declared.status.Asked.TheVariants.{Metrics, Healthy, Ready, NoPath}
use Rattle.server.specs.declared.status.Asked.TheVariants.{NoMethod, NoRequest}

-- a word that a method may be
record IsWord (word : List ℕ) : Type 0 where
  whole : Lacks 32 word
  plain : Lacks 13 word
  some : word ≢ []

ended_behind : (word rest : List ℕ) → Lacks 13 word → HasEnd (word ++ rest) → HasEnd rest
ended_behind [] rest plain h = h
ended_behind (x ∷ word) rest plain h =
    ended_behind word rest plain.1 (end_past x (word ++ rest) plain.0 h)

ended_before : (word rest : List ℕ) → HasEnd rest → HasEnd (word ++ rest)
ended_before word rest h = (
  word ++ h.0,
  h.1,
  ap (λ (t : List ℕ). word ++ t) h.2
      ∙ sym (append_assoc word h.0 (codes "\r\n\r\n" ++ h.1)),
)

-- the same line with another method
other_line : (a b rest m t line tail : List ℕ) → IsWord a → IsWord b
    → IsParted 13 (a ++ 32 ∷ rest) line tail → IsLine line m t
    → (m ≡ a) × IsFirstLine (b ++ 32 ∷ rest) b t
other_line a b rest m t line tail is_a is_b parts is =
    let behind : List ℕ = t ++ 32 ∷ (codes "HTTP/1." ++ is.minor) in
    let text : a ++ 32 ∷ rest ≡ m ++ 32 ∷ (behind ++ 13 ∷ tail) =
    parts.1 ∙ ap (λ (l : List ℕ). l ++ 13 ∷ tail) is.spelled
    ∙ append_assoc m (32 ∷ behind) (13 ∷ tail) in
    let same : (a ≡ m) × (rest ≡ behind ++ 13 ∷ tail) =
    one_way 32 a rest m (behind ++ 13 ∷ tail) is_a.whole is.words.0 text in
    let plain : Lacks 13 (32 ∷ behind) =
    lacks_behind 13 m (32 ∷ behind) (subst (Lacks 13) is.spelled parts.0) in
    let again : b ++ 32 ∷ rest ≡ (b ++ 32 ∷ behind) ++ 13 ∷ tail =
    ap (λ (r : List ℕ). b ++ 32 ∷ r) same.1 ∙ sym (append_assoc b (32 ∷ behind) (13 ∷ tail)) in
    let turned : IsLine (b ++ 32 ∷ behind) b t =
    record {
      minor = is.minor;
      spelled = refl;
      words = (is_b.whole, is.words.1);
      some = (is_b.some, is.some.1);
    } in (
      sym same.0,
      (
        b ++ 32 ∷ behind,
        tail,
        (lacks_both 13 b (32 ∷ behind) is_b.plain plain, again),
        turned,
      ),
    )

-- the same request with another method
other_method : (a b rest m t : List ℕ) → IsWord a → IsWord b
    → IsRequest (a ++ 32 ∷ rest) m t → (m ≡ a) × IsRequest (b ++ 32 ∷ rest) b t
other_method a b rest m t is_a is_b r =
    let one : (m ≡ a) × IsFirstLine (b ++ 32 ∷ rest) b t =
    other_line a b rest m t r.1.0 r.1.1 is_a is_b r.1.2 r.1.3 in
    let ended : HasEnd (b ++ 32 ∷ rest) =
    ended_before b (32 ∷ rest) (ended_behind a (32 ∷ rest) is_a.plain r.0) in
    (one.0, (ended, one.1))

is_head : IsWord (codes "HEAD")
is_head =
    record {
      whole = lacking 32 (codes "HEAD") refl;
      plain = lacking 13 (codes "HEAD") refl;
      some = λ (e : codes "HEAD" ≡ []). cc;
    }

is_get : IsWord (codes "GET")
is_get =
    record {
      whole = lacking 32 (codes "GET") refl;
      plain = lacking 13 (codes "GET") refl;
      some = λ (e : codes "GET" ≡ []). cc;
    }

by_get : (rest path : List ℕ) → AsksAt (codes "HEAD " ++ rest) path
    → AsksAt (codes "GET " ++ rest) path
by_get rest path r = (
  codes "GET",
  r.1,
  (other_method (codes "HEAD") (codes "GET") rest r.0 r.1 is_head is_get r.2).1,
  inl refl,
  r.4,
)

asked_alike : (rest : List ℕ) (asked : Asked) → Asks (codes "HEAD " ++ rest) asked
    → Asks (codes "GET " ++ rest) asked
asked_alike rest Metrics r = by_get rest (codes "/metrics") r
asked_alike rest Healthy r = by_get rest (codes "/healthy") r
asked_alike rest Ready r = by_get rest (codes "/ready") r
asked_alike rest NoPath r = (r.0, by_get rest r.0 r.1, r.2, r.3, r.4)
asked_alike rest NoMethod r =
    absurd (r.4 (other_method (codes "HEAD") (codes "GET") rest r.0 r.1 is_head is_get r.2).0)
asked_alike rest NoRequest r =
    λ m t q. r (codes "HEAD") t
    (other_method (codes "GET") (codes "HEAD") rest m t is_get is_head q).1

bare : (rest : List ℕ) → is_bare (codes "HEAD " ++ rest) ≡ true
bare rest = refl

whole : (rest : List ℕ) → is_bare (codes "GET " ++ rest) ≡ false
whole rest = refl

-- the reply to `HEAD` is the head of one to `GET`
pub head_replied : (rest reply : List ℕ) (ready : Bool)
    → IsReplyTo (codes "HEAD " ++ rest) ready reply
    → IsHeadOfReply (codes "GET " ++ rest) ready reply
head_replied rest reply ready r =
    let asked : Asked = r.0 in
    let line : List ℕ = r.2.0 in
    let body : List ℕ = r.2.1 in
    let head : reply ≡ head_text line (allow_of asked) (length body) =
    r.2.3 ∙ ap (λ (b : Bool). reply_text b line (allow_of asked) body) (bare rest) in
    let all : reply ++ body
    ≡ reply_text (is_bare (codes "GET " ++ rest)) line (allow_of asked) body =
    ap (λ (t : List ℕ). t ++ body) head
    ∙ sym (ap (λ (b : Bool). reply_text b line (allow_of asked) body) (whole rest)) in (
      line,
      allow_of asked,
      body,
      head,
      (asked, asked_alike rest asked r.1, (line, body, r.2.2, all)),
    )
