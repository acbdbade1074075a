-- What one sample that joins changes, and what it leaves.
use Rattle.std.specs.Prelude.{◌≡◌, ◌≤◌, ℕ, suc, ℤ, Bool, true, false, cond, not, ◌&&◌, ◌||◌, [], ◌∷◌, Option, None, Some, refl, length, nat_le, int_lt, is_none}
use Rattle.std.specs.declared.cmp.Ordering.TheVariants.{Less, Equal, Greater}
use Rattle.std.specs.Ordering.{int_eq, eq_by_cmp}
use Rattle.std.specs.FinMap.Entries.{find, put, where_key, find-put, by_order}
use Rattle.std.proofs.Common.{sym, ◌∙◌, ap, subst, arith}
use Rattle.std.proofs.lemmas.Bool.{leb-true, le-leb, or_right}
use Rattle.labels.specs.Labels.{Labels, Point, labels_cmp, point_cmp, same_labels}
use Rattle.head.specs.Worlds.{World, Newest, with_newest, with_sample, is_earlier, is_level, is_repeated, is_full}
use Rattle.labels.specs.Contents.{Content, held_from}
use Rattle.head.specs.Limits.{max_series, max_samples}
use Rattle.head.specs.Sifting.{has, has_value, is_newest, is_hidden}
use Rattle.labels.proofs.OrderLaws.{point_total, same_self, same_turn}
use Rattle.labels.proofs.Times.{true_not_false, later}
use Rattle.head.proofs.HeadLaws.{same_path}
use Rattle.head.proofs.Points.{point_path, point_self, int_path, int_self, lt_trans}

abbrev pub Item : Type 0
Item = Labels × (ℤ × ℤ)

abbrev pub newest_at : World → Labels → Option (ℤ × ℤ)
newest_at w l = find labels_cmp l w.newest

abbrev pub after : World → Item → World
after w y = with_sample w y.0 y.1

abbrev pub value_at : World → Item → Option ℤ
value_at w x = find point_cmp (x.0, x.1.0) w.content

-- no sample can join at the point of this one
abbrev pub closed_to : World → Item → Option (ℤ × ℤ) → Bool
closed_to w x newest =
    int_lt x.1.0 w.floor || (is_earlier x.1 newest || (is_level x.1 newest || is_full w x.0 newest))

abbrev pub closed : World → Item → Bool
closed w x = closed_to w x (newest_at w x.0)

-- a point that is not closed
pub record IsOpen (w : World) (x : Item) (newest : Option (ℤ × ℤ)) : Type 0 where
  pub above : int_lt x.1.0 w.floor ≡ false
  pub late : is_earlier x.1 newest ≡ false
  pub new : is_level x.1 newest ≡ false
  pub room : is_full w x.0 newest ≡ false

pub clash : {P : Type 0} (b : Bool) → b ≡ true → b ≡ false → P
clash b e f = absurd (true_not_false (sym e ∙ f))

pub by_closed : {P : Type 0} (a b c d : Bool) → (a || (b || (c || d))) ≡ true → (a ≡ true → P) → (b ≡ true → P) → (c ≡ true → P) → (d ≡ true → P) → P
by_closed true b c d e f g h k = f refl
by_closed false true c d e f g h k = g refl
by_closed false false true d e f g h k = h refl
by_closed false false false d e f g h k = k e

first_is : (a r : Bool) → a ≡ true → (a || r) ≡ true
first_is a r e = ap (λ k. k || r) e

rest_is : (a r : Bool) → r ≡ true → (a || r) ≡ true
rest_is a r e = or_right a r e

-- closed and open exclude one another
pub no_both : {P : Type 0} (w : World) (x : Item) (n : Option (ℤ × ℤ)) → closed_to w x n ≡ true → IsOpen w x n → P
no_both w x n c o = by_closed (int_lt x.1.0 w.floor) (is_earlier x.1 n) (is_level x.1 n) (is_full w x.0 n) c
    (λ e. clash _ e o.above) (λ e. clash _ e o.late) (λ e. clash _ e o.new) (λ e. clash _ e o.room)

-- the newest of each label set after one sample more
find_newest_by : (k l : Labels) (s : ℤ × ℤ) (e : Labels × (ℤ × ℤ)) (rest : Option (ℤ × ℤ)) (a b c : Bool) → (a ≡ true → b ≡ c) → (a ≡ false → b ≡ true → c ≡ false) →
    (a ≡ true → cond b (Some s) rest ≡ cond c (Some s) (cond b (Some e.1) rest)) × (a ≡ false → cond b (Some e.1) (cond c (Some s) rest) ≡ cond c (Some s) (cond b (Some e.1) rest))
find_newest_by k l s e rest a true true same other = (λ _. refl, λ f. absurd (true_not_false (other f refl)))
find_newest_by k l s e rest a true false same other = (λ f. absurd (true_not_false (same f)), λ _. refl)
find_newest_by k l s e rest a false true same other = (λ f. absurd (true_not_false (sym (same f))), λ _. refl)
find_newest_by k l s e rest a false false same other = (λ _. refl, λ _. refl)

pub find-with_newest : (k l : Labels) (s : ℤ × ℤ) (n : Newest) → find labels_cmp k (with_newest l s n) ≡ cond (same_labels k l) (Some s) (find labels_cmp k n)
find-with_newest k l s [] = refl
find-with_newest k l s (e ∷ es) =
    let both = find_newest_by k l s e (find labels_cmp k es) (same_labels l e.0) (same_labels k e.0) (same_labels k l)
    (λ f. ap (same_labels k) (sym (same_path l e.0 f)))
    (λ f g. elim (same_labels k l) as (λ c. same_labels k l ≡ c → c ≡ false) [
      | true ↦ λ h. sym (same_turn l e.0 ∙ ap (same_labels e.0) (sym (same_path k l h)) ∙ same_turn e.0 k ∙ g) ∙ f
      | false ↦ λ h. refl
    ] refl) in
    elim (same_labels l e.0) as (λ a. same_labels l e.0 ≡ a → find labels_cmp k (cond a ((e.0, s) ∷ es) (e ∷ with_newest l s es)) ≡ cond (same_labels k l) (Some s) (cond (same_labels k e.0) (Some e.1) (find labels_cmp k es))) [
      | true ↦ λ f. both.0 f
      | false ↦ λ f. ap (cond (same_labels k e.0) (Some e.1)) (find-with_newest k l s es) ∙ both.1 f
    ] refl

length-with_newest : (l : Labels) (s : ℤ × ℤ) (n : Newest) → length n ≤ length (with_newest l s n)
length-with_newest l s [] = omega arith
length-with_newest l s (e ∷ es) =
    let rest = length-with_newest l s es in
    elim (same_labels l e.0) as (λ a. suc (length es) ≤ length (cond a ((e.0, s) ∷ es) (e ∷ with_newest l s es))) [
      | true ↦ omega arith
      | false ↦ omega (arith, rest)
    ]

abbrev passing : (Point → Bool) → Content → Content
passing p c = where_key {X = ℤ} point_cmp p c

one_in : (b : Bool) (k : Point × ℤ) (c : Content) (n : ℕ) → n ≤ length c → n ≤ length (cond b (k ∷ c) c)
one_in true k c n h = omega (arith, h)
one_in false k c n h = h

one_each : (b : Bool) (k j : Point × ℤ) (c d : Content) → length c ≤ length d → length (cond b (k ∷ c) c) ≤ length (cond b (j ∷ d) d)
one_each true k j c d h = omega (arith, h)
one_each false k j c d h = h

-- a sample more leaves no point out
passing-put : (p : Point → Bool) (k : Point) (v : ℤ) (c : Content) → length (passing p c) ≤ length (passing p (put point_cmp k v c))
passing-put p k v [] = omega arith
passing-put p k v (e ∷ es) =
    elim (point_cmp k e.0) as (λ o. length (passing p (e ∷ es)) ≤ length (passing p (by_order o ((k, v) ∷ e ∷ es) ((e.0, v) ∷ es) (e ∷ put point_cmp k v es)))) [
      | Less ↦ one_in (p k) (k, v) (passing p (e ∷ es)) (length (passing p (e ∷ es))) (omega arith)
      | Equal ↦ one_each (p e.0) e (e.0, v) (passing p es) (passing p es) (omega arith)
      | Greater ↦ one_each (p e.0) e e (passing p es) (passing p (put point_cmp k v es)) (passing-put p k v es)
    ]

up_to : (m a b : ℕ) → a ≤ b → nat_le m a ≡ true → nat_le m b ≡ true
up_to m a b h e = let f = leb-true m a e in le-leb m b (omega (arith, f, h))

full_by : (o p q r s : Bool) → (p ≡ true → q ≡ true) → (r ≡ true → s ≡ true) → ((o && p) || r) ≡ true → ((o && q) || s) ≡ true
full_by true true q r s f g e = ap (λ k. k || s) (f refl)
full_by true false q r s f g e = or_right q s (g e)
full_by false p q r s f g e = g e

-- there is no more room after a sample more
full_more : (w : World) (y : Item) (l : Labels) (n : Option (ℤ × ℤ)) → is_full w l n ≡ true → is_full (after w y) l n ≡ true
full_more w y l n e = full_by (is_none n) (nat_le max_series (length w.newest)) (nat_le max_series (length (with_newest y.0 y.1 w.newest)))
    (nat_le max_samples (held_from w.floor l w.content)) (nat_le max_samples (held_from w.floor l (after w y).content))
    (up_to max_series (length w.newest) (length (with_newest y.0 y.1 w.newest)) (length-with_newest y.0 y.1 w.newest))
    (up_to max_samples (held_from w.floor l w.content) (held_from w.floor l (after w y).content)
    (passing-put (λ p. same_labels l p.0 && not (int_lt p.1 w.floor)) (y.0, y.1.0) y.1.1 w.content))
    e

-- a sample of the same label set joined
closed_same : (w : World) (x y : Item) (n : Option (ℤ × ℤ)) → x.0 ≡ y.0 → IsOpen w y n → closed_to w x n ≡ true → closed_to (after w y) x (Some y.1) ≡ true
closed_same w x y None same o c = by_closed (int_lt x.1.0 w.floor) false false (is_full w x.0 None) c
    (λ e. first_is _ _ e)
    (λ e. clash false e refl)
    (λ e. clash false e refl)
    (λ e. clash (is_full w x.0 None) e (ap (λ l. is_full w l None) same ∙ o.room))
closed_same w x y (Some n) same o c =
    let next : int_lt n.0 y.1.0 ≡ true = later y.1.0 n.0 o.late o.new in
    by_closed (int_lt x.1.0 w.floor) (int_lt x.1.0 n.0) (int_eq x.1.0 n.0) (is_full w x.0 (Some n)) c
    (λ e. first_is _ _ e)
    (λ e. rest_is (int_lt x.1.0 w.floor) _ (first_is _ _ (lt_trans x.1.0 n.0 y.1.0 e next)))
    (λ e. rest_is (int_lt x.1.0 w.floor) _ (first_is _ _ (ap (λ t. int_lt t y.1.0) (int_path x.1.0 n.0 e) ∙ next)))
    (λ e. clash (is_full w x.0 (Some n)) e (ap (λ l. is_full w l (Some n)) same ∙ o.room))

-- a sample of another label set joined
closed_other : (w : World) (x y : Item) (n : Option (ℤ × ℤ)) → closed_to w x n ≡ true → closed_to (after w y) x n ≡ true
closed_other w x y n c = by_closed (int_lt x.1.0 w.floor) (is_earlier x.1 n) (is_level x.1 n) (is_full w x.0 n) c
    (λ e. first_is _ _ e)
    (λ e. rest_is (int_lt x.1.0 w.floor) _ (first_is _ _ e))
    (λ e. rest_is (int_lt x.1.0 w.floor) _ (rest_is (is_earlier x.1 n) _ (first_is _ _ e)))
    (λ e. rest_is (int_lt x.1.0 w.floor) _ (rest_is (is_earlier x.1 n) _ (rest_is (is_level x.1 n) _ (full_more w y x.0 n e))))

abbrev pub IsNext : World → Item → Type 0
IsNext w y = IsOpen w y (newest_at w y.0)

newest_after : (w : World) (y : Item) (l : Labels) (b : Bool) → same_labels l y.0 ≡ b → newest_at (after w y) l ≡ cond b (Some y.1) (newest_at w l)
newest_after w y l b e = find-with_newest l y.0 y.1 w.newest ∙ ap (λ k. cond k (Some y.1) (newest_at w l)) e

by_same : {P : Type 0} (a b : Labels) → (same_labels a b ≡ true → P) → (same_labels a b ≡ false → P) → P
by_same {P} a b f g = elim (same_labels a b) as (λ c. same_labels a b ≡ c → P) [ true ↦ f | false ↦ g ] refl

-- what is closed stays closed
pub closed_more : (w : World) (x y : Item) → IsNext w y → closed w x ≡ true → closed (after w y) x ≡ true
closed_more w x y o c = by_same x.0 y.0
    (λ e. let same = same_path x.0 y.0 e in
    ap (closed_to (after w y) x) (newest_after w y x.0 true e)
    ∙ closed_same w x y (newest_at w y.0) same o (ap (λ l. closed_to w x (newest_at w l)) (sym same) ∙ c))
    (λ e. ap (closed_to (after w y) x) (newest_after w y x.0 false e) ∙ closed_other w x y (newest_at w x.0) c)

-- the point of a sample that joins is not one that is closed
apart : (w : World) (x y : Item) → IsNext w y → closed w x ≡ true → (b : Bool) → eq_by_cmp point_cmp (x.0, x.1.0) (y.0, y.1.0) ≡ b → b ≡ false
apart w x y o c true e =
    let same : (x.0, x.1.0) ≡ (y.0, y.1.0) = point_path (x.0, x.1.0) (y.0, y.1.0) e in
    no_both w y (newest_at w y.0) (ap (λ (p : Point). closed w (p.0, (p.1, y.1.1))) (sym same) ∙ c) o
apart w x y o c false e = refl

-- what the content has at a closed point stays
pub value_more : (w : World) (x y : Item) → IsNext w y → closed w x ≡ true → value_at (after w y) x ≡ value_at w x
value_more w x y o c =
    find-put point_cmp point_total (x.0, x.1.0) (y.0, y.1.0) y.1.1 w.content
    ∙ ap (λ b. cond b (Some y.1.1) (value_at w x)) (apart w x y o c _ refl)

both_true : (a b : Bool) → (a && b) ≡ true → (a ≡ true) × (b ≡ true)
both_true true b e = (refl, e)
both_true false b e = absurd (true_not_false (sym e))

pub false_if : (b : Bool) → (b ≡ true → ⊥) → b ≡ false
false_if true f = absurd (f refl)
false_if false f = refl

-- a closed sample that is not its newest does not become so
pub other_more : (w : World) (x y : Item) → IsNext w y → closed w x ≡ true → is_newest w x ≡ false → is_newest (after w y) x ≡ false
other_more w x y o c not = by_same x.0 y.0
    (λ e. ap (is_repeated x.1) (newest_after w y x.0 true e)
    ∙ false_if (int_eq x.1.0 y.1.0 && int_eq x.1.1 y.1.1) (λ f.
    let times : y.1.0 ≡ x.1.0 = sym (int_path x.1.0 y.1.0 (both_true (int_eq x.1.0 y.1.0) (int_eq x.1.1 y.1.1) f).0) in
    let labels : y.0 ≡ x.0 = sym (same_path x.0 y.0 e) in
    no_both w y (newest_at w y.0) ((λ i. closed w (labels i, (times i, y.1.1))) ∙ c) o))
    (λ e. ap (is_repeated x.1) (newest_after w y x.0 false e) ∙ not)

-- the sample that joined
pub joined_value : (w : World) (y : Item) → value_at (after w y) y ≡ Some y.1.1
joined_value w y =
    find-put point_cmp point_total (y.0, y.1.0) (y.0, y.1.0) y.1.1 w.content
    ∙ ap (λ b. cond b (Some y.1.1) (value_at w y)) (point_self (y.0, y.1.0))

pub joined_has : (w : World) (y : Item) → has (after w y) y ≡ true
joined_has w y = ap (has_value y.1.1) (joined_value w y) ∙ int_self y.1.1

pub joined_closed : (w : World) (y : Item) → closed (after w y) y ≡ true
joined_closed w y =
    ap (closed_to (after w y) y) (newest_after w y y.0 true (same_self y.0))
    ∙ rest_is (int_lt y.1.0 w.floor) _ (rest_is (int_lt y.1.0 y.1.0) _ (first_is _ _ (int_self y.1.0)))

pub and_false : (a b : Bool) → b ≡ true → (a && not b) ≡ false
and_false true b e = ap not e
and_false false b e = refl

has_from : (w : World) (x : Item) → value_at w x ≡ Some x.1.1 → has w x ≡ true
has_from w x e = ap (has_value x.1.1) e ∙ int_self x.1.1

-- a point of another label set
elsewhere : (x y : Item) → same_labels x.0 y.0 ≡ false → eq_by_cmp point_cmp (x.0, x.1.0) (y.0, y.1.0) ≡ false
elsewhere x y e = false_if (eq_by_cmp point_cmp (x.0, x.1.0) (y.0, y.1.0)) (λ f.
    true_not_false (sym (same_self x.0) ∙ ap (λ (p : Point). same_labels x.0 p.0) (point_path (x.0, x.1.0) (y.0, y.1.0) f) ∙ e))

-- a sample that is not hidden does not become so
pub shown_more : (w : World) (x y : Item) → is_hidden w x ≡ false → is_hidden (after w y) x ≡ false
shown_more w x y h = by_same x.0 y.0
    (λ e. ap (λ n. is_repeated x.1 n && not (has (after w y) x)) (newest_after w y x.0 true e)
    ∙ elim (int_eq x.1.0 y.1.0 && int_eq x.1.1 y.1.1) as (λ b. (int_eq x.1.0 y.1.0 && int_eq x.1.1 y.1.1) ≡ b → (b && not (has (after w y) x)) ≡ false) [
      | true ↦ λ f.
          let parts = both_true (int_eq x.1.0 y.1.0) (int_eq x.1.1 y.1.1) f in
          let times : y.1.0 ≡ x.1.0 = sym (int_path x.1.0 y.1.0 parts.0) in
          let values : y.1.1 ≡ x.1.1 = sym (int_path x.1.1 y.1.1 parts.1) in
          let labels : y.0 ≡ x.0 = sym (same_path x.0 y.0 e) in
          let is : value_at (after w y) x ≡ Some x.1.1 = subst (λ (z : Item). value_at (after w y) z ≡ Some z.1.1) (λ i. (labels i, (times i, values i))) (joined_value w y) in
          ap not (has_from (after w y) x is)
      | false ↦ λ f. refl
    ] refl)
    (λ e. (λ i. is_repeated x.1 (newest_after w y x.0 false e i) && not (has_value x.1.1 ((
    find-put point_cmp point_total (x.0, x.1.0) (y.0, y.1.0) y.1.1 w.content
    ∙ ap (λ b. cond b (Some y.1.1) (value_at w x)) (elsewhere x y e)) i)))
    ∙ h)
