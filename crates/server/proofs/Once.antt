-- Bytes ask for one thing.
use Rattle.std.proofs.Common.{◌≡◌, ◌++◌, ℕ, true, false, List, ◌∷◌, codes, inl, inr, refl, ap}
use Rattle.std.proofs.Common.{sym, subst, ◌∙◌}
use Rattle.std.specs.Prelude.{◌≢◌, ◌⊎◌, if◌then◌else◌}
use Rattle.std.specs.Str.{bytes_eq}
use Rattle.std.proofs.lemmas.Bool.{false_from_ne_true}
use Rattle.std.proofs.lemmas.Slice.Eq.{bytes_eq-Decides}
use Rattle.server.proofs.Asking.{AreWords, not_parted, one_way, parted_once, words_are}
use Rattle.server.specs.Status.{IsLine, IsRequest, IsPath, AsksAt, Asks}
use Rattle.server.specs.declared.status.Asked.{Asked}
use Rattle.server.specs.declared.status.Asked.TheVariants.{Metrics, Healthy, Ready, NoPath}
use Rattle.server.specs.declared.status.Asked.TheVariants.{NoMethod, NoRequest}

line_once : (line m t n u : List ℕ) → IsLine line m t → IsLine line n u → (m ≡ n) × (t ≡ u)
line_once line m t n u a b =
    let version : List ℕ = codes "HTTP/1." ++ a.minor in
    let same : AreWords m t version n u =
    words_are line m (t ++ 32 ∷ version) t version (a.words.0, a.spelled) (a.words.1, refl) n u b in
    (same.method_is, same.target_is)

request_once : (bytes m t n u : List ℕ) → IsRequest bytes m t → IsRequest bytes n u
    → (m ≡ n) × (t ≡ u)
request_once bytes m t n u a b =
    let same : a.1.0 ≡ b.1.0 = (parted_once 13 bytes a.1.0 a.1.1 b.1.0 b.1.1 a.1.2 b.1.2).0 in
    line_once b.1.0 m t n u (subst (λ (l : List ℕ). IsLine l m t) same a.1.3) b.1.3

path_once : (target p q : List ℕ) → IsPath target p → IsPath target q → p ≡ q
path_once target p q a b =
    elim a.1 [
      | inl e ↦
          elim b.1 [
            | inl f ↦ sym e ∙ f
            | inr f ↦ absurd (not_parted 63 p q f.0 a.0 (b.0, sym e ∙ f.1))
          ]
      | inr e ↦
          elim b.1 [
            | inl f ↦ absurd (not_parted 63 q p e.0 b.0 (a.0, sym f ∙ e.1))
            | inr f ↦ (one_way 63 p e.0 q f.0 a.0 b.0 (sym e.1 ∙ f.1)).0
          ]
    ]

at_once : (bytes p q : List ℕ) → AsksAt bytes p → AsksAt bytes q → p ≡ q
at_once bytes p q a b =
    let same : (a.0 ≡ b.0) × (a.1 ≡ b.1) = request_once bytes a.0 a.1 b.0 b.1 a.2 b.2 in
    path_once b.1 p q (subst (λ (t : List ℕ). IsPath t p) same.1 a.4) b.4

-- what is asked for at a path
named : List ℕ → Asked
named path =
    if bytes_eq path (codes "/metrics") then Metrics
    else if bytes_eq path (codes "/healthy") then Healthy
    else if bytes_eq path (codes "/ready") then Ready
    else NoPath

other : (path text : List ℕ) → path ≢ text → bytes_eq path text ≡ false
other path text differs =
    false_from_ne_true (bytes_eq path text)
    (λ (e : bytes_eq path text ≡ true). differs ((bytes_eq-Decides path text).0 e))

named_none : (path : List ℕ) → path ≢ codes "/metrics" → path ≢ codes "/healthy"
    → path ≢ codes "/ready" → named path ≡ NoPath
unfolding named
named_none path a b c =
    rw (
      other path (codes "/metrics") a,
      other path (codes "/healthy") b,
      other path (codes "/ready") c,
    )

-- the ways to ask
abbrev Way : List ℕ → Asked → Type 0
Way bytes asked =
    (((m t : List ℕ) → IsRequest bytes m t → ⊥) × (asked ≡ NoRequest))
    ⊎ (((m t : List ℕ) × IsRequest bytes m t × (m ≢ codes "GET") × (m ≢ codes "HEAD")
    × (asked ≡ NoMethod))
    ⊎ ((path : List ℕ) × AsksAt bytes path × (asked ≡ named path)))

way : (bytes : List ℕ) (asked : Asked) → Asks bytes asked → Way bytes asked
unfolding named
way bytes Metrics r = inr (inr (codes "/metrics", r, refl))
way bytes Healthy r = inr (inr (codes "/healthy", r, refl))
way bytes Ready r = inr (inr (codes "/ready", r, refl))
way bytes NoPath r = inr (inr (r.0, r.1, sym (named_none r.0 r.2 r.3 r.4)))
way bytes NoMethod r = inr (inl (r.0, r.1, r.2, r.3, r.4, refl))
way bytes NoRequest r = inl (r, refl)

not_taken : (bytes m t path : List ℕ) → IsRequest bytes m t → m ≢ codes "GET" → m ≢ codes "HEAD"
    → AsksAt bytes path → ⊥
not_taken bytes m t path r get head at =
    let same : (m ≡ at.0) × (t ≡ at.1) = request_once bytes m t at.0 at.1 r at.2 in
    elim at.3 [ inl e ↦ get (same.0 ∙ e) | inr e ↦ head (same.0 ∙ e) ]

one_of : (bytes : List ℕ) (a b : Asked) → Way bytes a → Way bytes b → a ≡ b
one_of bytes a b (inl x) (inl y) = x.1 ∙ sym y.1
one_of bytes a b (inl x) (inr (inl y)) = absurd (x.0 y.0 y.1 y.2)
one_of bytes a b (inl x) (inr (inr y)) = absurd (x.0 y.1.0 y.1.1 y.1.2)
one_of bytes a b (inr (inl x)) (inl y) = absurd (y.0 x.0 x.1 x.2)
one_of bytes a b (inr (inl x)) (inr (inl y)) = x.5 ∙ sym y.5
one_of bytes a b (inr (inl x)) (inr (inr y)) = absurd (not_taken bytes x.0 x.1 y.0 x.2 x.3 x.4 y.1)
one_of bytes a b (inr (inr x)) (inl y) = absurd (y.0 x.1.0 x.1.1 x.1.2)
one_of bytes a b (inr (inr x)) (inr (inl y)) = absurd (not_taken bytes y.0 y.1 x.0 y.2 y.3 y.4 x.1)
one_of bytes a b (inr (inr x)) (inr (inr y)) =
    x.2 ∙ ap named (at_once bytes x.0 y.0 x.1 y.1) ∙ sym y.2

pub asked_once : (bytes : List ℕ) (a b : Asked) → Asks bytes a → Asks bytes b → a ≡ b
asked_once bytes a b x y = one_of bytes a b (way bytes a x) (way bytes b y)
