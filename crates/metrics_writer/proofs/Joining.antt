-- Texts that are joined, and rows that are grouped, one by one.
use Rattle.std.proofs.Common.{◌≡◌, ℕ, suc, ◌+◌, ◌<◌, ◌≤◌, List, [], ◌∷◌, ◌++◌, length, take, get_or, map}
use Rattle.std.proofs.Common.{ℤ, Bool, true, false, refl, sym, ap, subst, ◌∙◌, append_assoc, add-one, inl, inr}
use Rattle.std.proofs.lemmas.Bool.{cases_Bool}
use Rattle.std.proofs.Common.{take-suc}
use Rattle.std.proofs.lemmas.List.{append-nil, take_all}
use Rattle.std.proofs.lemmas.List.Concat.{flat_map-append}
use Rattle.std.specs.List.{flat_map, list_any}
use Rattle.std.specs.Str.{bytes_eq}
use Rattle.labels.specs.Rows.{Row}
use Rattle.metrics_writer.specs.Doubles.{AreJoined, IsDoubleLine, IsValueText}
use Rattle.metrics_writer.specs.Groups.{metrics_of, of_metric}
use Rattle.metrics_writer.specs.Numbers.{number_text}
use Rattle.metrics_writer.specs.Series.{metric_of}
use Rattle.metrics_writer.proofs.Grouping.{left_of, metrics_more, of_metrics, with_metric}

-- behind what was there stand the texts of some
abbrev pub Appended : {X : Type 0} → (X → List ℕ → Type 0) → List X → List ℕ → List ℕ → Type 0
Appended is xs start out = (text : List ℕ) × (out ≡ start ++ text) × AreJoined is xs text

joined_next : {X : Type 0} (is : X → List ℕ → Type 0) (xs : List X) (x : X) (text one : List ℕ)
    → AreJoined is xs text → is x one → AreJoined is (xs ++ x ∷ []) (text ++ one)
joined_next is [] x text one none here =
    (one, [], ap (λ (t : List ℕ). t ++ one) none ∙ sym (append-nil one), here, refl)
joined_next is (y ∷ ys) x text one more here = (
  more.0,
  more.1 ++ one,
  ap (λ (t : List ℕ). t ++ one) more.2 ∙ append_assoc more.0 more.1 one,
  more.3,
  joined_next is ys x more.1 one more.4 here,
)

next_of : {X : Type 0} (xs : List X) (i : ℕ) (x : X) → i < length xs → x ≡ get_or xs i x
    → take (i + 1) xs ≡ take i xs ++ x ∷ []
next_of {X} xs i x lt is =
    rw (add-one, take-suc xs i x lt) (ap (λ (y : X). take i xs ++ y ∷ []) (sym is))

pub appended_none : {X : Type 0} (is : X → List ℕ → Type 0) (start : List ℕ)
    → Appended is [] start start
appended_none is start = ([], sym (append-nil start), refl)

pub appended_next : {X : Type 0} (is : X → List ℕ → Type 0) (xs : List X) (i : ℕ) (x : X)
    (start old new : List ℕ) → i < length xs → x ≡ get_or xs i x
    → Appended is (take i xs) start old
    → (one : List ℕ) → new ≡ old ++ one → is x one → Appended is (take (i + 1) xs) start new
appended_next {X} is xs i x start old new lt at before one wrote here =
    subst (λ (ys : List X). Appended is ys start new) (sym (next_of xs i x lt at)) (
      before.0 ++ one,
      wrote ∙ ap (λ (t : List ℕ). t ++ one) before.1 ∙ append_assoc start before.0 one,
      joined_next is (take i xs) x before.0 one before.2 here,
    )

pub appended_all : {X : Type 0} (is : X → List ℕ → Type 0) (xs : List X) (i : ℕ)
    (start out : List ℕ) → length xs ≤ i → Appended is (take i xs) start out
    → Appended is xs start out
appended_all {X} is xs i start out le a =
    subst (λ (ys : List X). Appended is ys start out) (take_all i xs le) a

-- the rows of the metric of one more row, unless they were before
rows_more : (rows front : List Row) (row : Row)
    → of_metrics rows (metrics_of front) ++ left_of (metric_of row.0) (metrics_of front) rows
    ≡ of_metrics rows (metrics_of (front ++ row ∷ []))
rows_more rows front row =
    let m = metric_of row.0 in
    let ms = metrics_of front in
    ◌∙◌ (elim (cases_Bool (list_any (bytes_eq m) ms)) [
      | inl f ↦ rw f (append-nil (of_metrics rows ms))
      | inr f ↦ rw f
          (ap (λ (r : List Row). of_metrics rows ms ++ r) (sym (append-nil (of_metric m rows)))
          ∙ sym (flat_map-append (λ metric. of_metric metric rows) ms (m ∷ [])))
    ]) (ap (λ (x : List (List ℕ)). of_metrics rows x) (sym (metrics_more front row)))

pub rows_next : (rows front next : List Row) (row : Row) → next ≡ front ++ row ∷ []
    → (name : List ℕ) → name ≡ metric_of row.0 → (group : List Row)
    → group ≡ left_of name (metrics_of front) rows → (old new : List Row)
    → old ≡ of_metrics rows (metrics_of front) → new ≡ old ++ group
    → new ≡ of_metrics rows (metrics_of next)
rows_next rows front next row is name named group taken old new before pushed =
    pushed
    ∙ (ap (λ (r : List Row). r ++ group) before
    ∙ (ap (λ (r : List Row). of_metrics rows (metrics_of front) ++ r)
    (taken ∙ ap (λ (n : List ℕ). left_of n (metrics_of front) rows) named)
    ∙ (rows_more rows front row
    ∙ ap (λ (t : List Row). of_metrics rows (metrics_of t)) (sym is))))

-- texts for what is seen of some
joined_of : {X Y : Type 0} (is : Y → List ℕ → Type 0) (seen : X → Y) (xs : List X)
    (text : List ℕ) → AreJoined (λ x. is (seen x)) xs text → AreJoined is (map seen xs) text
joined_of is seen [] text none = none
joined_of is seen (x ∷ xs) text more =
    (more.0, more.1, more.2, more.3, joined_of is seen xs more.1 more.4)

pub appended_of : {X Y : Type 0} (is : Y → List ℕ → Type 0) (seen : X → Y) (xs : List X)
    (start out : List ℕ) → Appended (λ x. is (seen x)) xs start out
    → Appended is (map seen xs) start out
appended_of is seen xs start out a = (a.0, a.1, joined_of is seen xs a.0 a.2)

-- pieces, one after the other
all_pieces : (o s x v t e : List ℕ)
    → ((((o ++ s) ++ x) ++ v) ++ t) ++ e ≡ o ++ (s ++ (x ++ (v ++ (t ++ e))))
all_pieces o s x v t e =
    append_assoc (((o ++ s) ++ x) ++ v) t e
    ∙ (append_assoc ((o ++ s) ++ x) v (t ++ e)
    ∙ (append_assoc (o ++ s) x (v ++ (t ++ e)) ∙ append_assoc o s (x ++ (v ++ (t ++ e)))))

left_pieces : (o s x v t e : List ℕ)
    → ((((o ++ s) ++ x) ++ v) ++ t) ++ e ≡ o ++ (((s ++ (x ++ v)) ++ t) ++ e)
left_pieces o s x v t e =
    all_pieces o s x v t e
    ∙ ap (λ (y : List ℕ). o ++ y)
    (sym (append_assoc (s ++ (x ++ v)) t e
    ∙ (append_assoc s (x ++ v) (t ++ e)
    ∙ ap (λ (y : List ℕ). s ++ y) (append_assoc x v (t ++ e)))))

put_pieces : (o s x v t e a b c d f : List ℕ) → a ≡ o ++ s → b ≡ a ++ x → c ≡ b ++ v → d ≡ c ++ t
    → f ≡ d ++ e → f ≡ o ++ (((s ++ (x ++ v)) ++ t) ++ e)
put_pieces o s x v t e a b c d f p q r u w =
    w
    ∙ (ap (λ (y : List ℕ). y ++ e) (u ∙ ap (λ (y : List ℕ). y ++ t)
    (r ∙ ap (λ (y : List ℕ). y ++ v) (q ∙ ap (λ (y : List ℕ). y ++ x) p)))
    ∙ left_pieces o s x v t e)

-- a line, piece by piece
pub line_made : (series : List ℕ) (s : ℤ × ℤ) (old a b c d e value : List ℕ) → a ≡ old ++ series
    → b ≡ a ++ 32 ∷ [] → c ≡ b ++ value → IsValueText s.1 value
    → d ≡ c ++ (32 ∷ number_text 3 s.0) → e ≡ d ++ 10 ∷ []
    → (line : List ℕ) × (e ≡ old ++ line) × IsDoubleLine series s line
line_made series s old a b c d e value p q r is u w = (
  ((series ++ (32 ∷ value)) ++ (32 ∷ number_text 3 s.0)) ++ (10 ∷ []),
  put_pieces old series (32 ∷ []) value (32 ∷ number_text 3 s.0) (10 ∷ []) a b c d e p q r u w,
  record { value = value; is = is; written = refl },
)
