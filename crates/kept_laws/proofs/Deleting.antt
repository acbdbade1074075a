-- A deletion, in the store and in the replay.
use Rattle.std.proofs.Common.{◌≡◌, ℤ, suc, Bool, true, false, not, cond, List, [], ◌∷◌, Option, Some, None, map, filter, length, refl, sym, ap, ◌∙◌}
use Rattle.std.specs.Prelude.{◌&&◌, if◌then◌else◌}
use Rattle.std.specs.declared.cmp.Ordering.TheVariants.{Less, Equal, Greater}
use Rattle.std.specs.Ordering.{int_cmp, is_eq}
use Rattle.std.specs.FinMap.{int_cmp-IsAntisymmetric}
use Rattle.std.specs.FinMap.Entries.{find-where_key, is_sorted-where_key}
use Rattle.labels.specs.Labels.{Labels, Point, point_cmp, labels_cmp}
use Rattle.labels.specs.Contents.{in_range}
use Rattle.labels.specs.Rows.{Row}
use Rattle.labels.specs.Parts.{Part, rows_in}
use Rattle.labels.proofs.OrderLaws.{labels_exact, point_exact}
use Rattle.head.specs.Worlds.{World, Newest}
use Rattle.head.specs.Worlds as worlds
use Rattle.kept_world.specs.States.{Born, HeadSeries, State, shown, shown_row, samples_of, struck_series, struck_row, struck_part, deleted}
use Rattle.kept_laws.specs.Likeness.{or_else, at_time, in_rows, in_parts, newest_of, IsLike}

nothing : (b : Bool) → cond {A = Option ℤ} b None None ≡ None
nothing true = refl
nothing false = refl

or-none : (x : Option ℤ) → or_else x None ≡ x
or-none None = refl
or-none (Some v) = refl

-- a sample of another time, whether it stays or not
elsewhere : (a b t : ℤ) (k : (ℤ × ℤ)) (ks : List (ℤ × ℤ)) → is_eq (int_cmp t k.0) ≡ false → at_time t (cond (not (in_range a b k.0)) (k ∷ filter (λ x. not (in_range a b x.0)) ks) (filter (λ x. not (in_range a b x.0)) ks)) ≡ at_time t (filter (λ x. not (in_range a b x.0)) ks)
elsewhere a b t k ks h =
    let rest = filter (λ (x : (ℤ × ℤ)). not (in_range a b x.0)) ks in
    elim (not (in_range a b k.0)) as (λ v. at_time t (cond v (k ∷ rest) rest) ≡ at_time t rest) [
      | true ↦ ap (λ v. or_else (at_time t rest) (cond v (Some k.1) None)) h ∙ or-none (at_time t rest)
      | false ↦ refl
    ]

-- a sample of this time
here : (v : Bool) (t : ℤ) (k : (ℤ × ℤ)) (ks rest : List (ℤ × ℤ)) → is_eq (int_cmp t k.0) ≡ true → at_time t rest ≡ cond v (at_time t ks) None → at_time t (cond v (k ∷ rest) rest) ≡ cond v (or_else (at_time t ks) (Some k.1)) None
here true t k ks rest h e = ap (λ v. or_else (at_time t rest) (cond v (Some k.1) None)) h ∙ ap (λ z. or_else z (Some k.1)) e
here false t k ks rest h e = e

-- samples that stay
at-struck : (a b t : ℤ) (ks : List (ℤ × ℤ)) → at_time t (filter (λ x. not (in_range a b x.0)) ks) ≡ cond (not (in_range a b t)) (at_time t ks) None
at-struck a b t [] = sym (nothing (not (in_range a b t)))
at-struck a b t (k ∷ ks) =
    elim (int_cmp t k.0) as (λ r. int_cmp t k.0 ≡ r → at_time t (cond (not (in_range a b k.0)) (k ∷ filter (λ x. not (in_range a b x.0)) ks) (filter (λ x. not (in_range a b x.0)) ks)) ≡ cond (not (in_range a b t)) (or_else (at_time t ks) (cond (is_eq r) (Some k.1) None)) None) [
      | Less ↦ λ e. elsewhere a b t k ks (ap is_eq e) ∙ at-struck a b t ks ∙ ap (λ z. cond (not (in_range a b t)) z None) (sym (or-none (at_time t ks)))
      | Equal ↦ λ e.
          let q : t ≡ k.0 = int_cmp-IsAntisymmetric t k.0 e in
          ap (λ i. at_time t (cond (not (in_range a b i)) (k ∷ filter (λ x. not (in_range a b x.0)) ks) (filter (λ x. not (in_range a b x.0)) ks))) (sym q)
          ∙ here (not (in_range a b t)) t k ks (filter (λ x. not (in_range a b x.0)) ks) (ap is_eq e) (at-struck a b t ks)
      | Greater ↦ λ e. elsewhere a b t k ks (ap is_eq e) ∙ at-struck a b t ks ∙ ap (λ z. cond (not (in_range a b t)) z None) (sym (or-none (at_time t ks)))
    ] refl

-- what is found in a row, and in rows
abbrev struck_one : (Labels → Bool) → ℤ → ℤ → Row → Row
struck_one sat a b r = if sat r.0 then (r.0, filter (λ (x : ℤ × ℤ). not (in_range a b x.0)) r.1) else r

row-struck : (sat : Labels → Bool) (a b t : ℤ) (r : Row) → at_time t (struck_one sat a b r).1 ≡ cond (not (sat r.0 && in_range a b t)) (at_time t r.1) None
row-struck sat a b t r =
    elim (sat r.0) as (λ v. at_time t (if v then (r.0, filter (λ (x : ℤ × ℤ). not (in_range a b x.0)) r.1) else r).1 ≡ cond (not (v && in_range a b t)) (at_time t r.1) None) [
      | true ↦ at-struck a b t r.1
      | false ↦ refl
    ]

label-struck : (sat : Labels → Bool) (a b : ℤ) (r : Row) → (struck_one sat a b r).0 ≡ r.0
label-struck sat a b r = elim (sat r.0) as (λ v. (if v then (r.0, filter (λ (x : ℤ × ℤ). not (in_range a b x.0)) r.1) else r).0 ≡ r.0) [ true ↦ refl | false ↦ refl ]

rows-struck : (sat : Labels → Bool) (a b : ℤ) (l : Labels) (t : ℤ) (p : List Row) → in_rows l t (map (struck_one sat a b) p) ≡ cond (not (sat l && in_range a b t)) (in_rows l t p) None
rows-struck sat a b l t [] = sym (nothing (not (sat l && in_range a b t)))
rows-struck sat a b l t (r ∷ rs) =
    ap (λ i. cond (is_eq (labels_cmp l i)) (at_time t (struck_one sat a b r).1) (in_rows l t (map (struck_one sat a b) rs))) (label-struck sat a b r)
    ∙ ap (λ z. cond (is_eq (labels_cmp l r.0)) z (in_rows l t (map (struck_one sat a b) rs))) (row-struck sat a b t r)
    ∙ ap (λ z. cond (is_eq (labels_cmp l r.0)) (cond (not (sat r.0 && in_range a b t)) (at_time t r.1) None) z) (rows-struck sat a b l t rs)
    ∙ elim (labels_cmp l r.0) as (λ o. labels_cmp l r.0 ≡ o → cond (is_eq o) (cond (not (sat r.0 && in_range a b t)) (at_time t r.1) None) (cond (not (sat l && in_range a b t)) (in_rows l t rs) None) ≡ cond (not (sat l && in_range a b t)) (cond (is_eq o) (at_time t r.1) (in_rows l t rs)) None) [
      | Less ↦ λ e. refl
      | Equal ↦ λ e. ap (λ i. cond (not (sat i && in_range a b t)) (at_time t r.1) None) (sym (labels_exact l r.0 e))
      | Greater ↦ λ e. refl
    ] refl

shared : (v : Bool) (x y : Option ℤ) → or_else (cond v x None) (cond v y None) ≡ cond v (or_else x y) None
shared true x y = refl
shared false x y = refl

-- references do not matter
rows-in : (sat : Labels → Bool) (a b : ℤ) (p : Part) → rows_in (struck_part sat a b p) ≡ map (struck_one sat a b) (rows_in p)
rows-in sat a b [] = refl
rows-in sat a b (r ∷ rs) = (λ i. one i ∷ rows-in sat a b rs i)
  where
    one : (struck_row sat a b r).1 ≡ struck_one sat a b r.1
    one = elim (sat r.1.0) as (λ v. (if v then (r.0, (r.1.0, filter (λ (x : ℤ × ℤ). not (in_range a b x.0)) r.1.1)) else r).1 ≡ (if v then (r.1.0, filter (λ (x : ℤ × ℤ). not (in_range a b x.0)) r.1.1) else r.1)) [ true ↦ refl | false ↦ refl ]

pub parts-struck : (sat : Labels → Bool) (a b : ℤ) (l : Labels) (t : ℤ) (ps : List Part) → in_parts l t (map (struck_part sat a b) ps) ≡ cond (not (sat l && in_range a b t)) (in_parts l t ps) None
parts-struck sat a b l t [] = sym (nothing (not (sat l && in_range a b t)))
parts-struck sat a b l t (p ∷ ps) =
    ap (λ z. or_else z (in_rows l t (rows_in (struck_part sat a b p)))) (parts-struck sat a b l t ps)
    ∙ ap (or_else (cond (not (sat l && in_range a b t)) (in_parts l t ps) None)) (ap (in_rows l t) (rows-in sat a b p) ∙ rows-struck sat a b l t (rows_in p))
    ∙ shared (not (sat l && in_range a b t)) (in_parts l t ps) (in_rows l t (rows_in p))

-- births do not matter
samples-struck : (a b : ℤ) (ks : List Born) → samples_of (filter (λ (k : Born). not (in_range a b k.1.0)) ks) ≡ filter (λ (x : ℤ × ℤ). not (in_range a b x.0)) (samples_of ks)
samples-struck a b [] = refl
samples-struck a b (k ∷ ks) =
    elim (not (in_range a b k.1.0)) as (λ v. samples_of (cond v (k ∷ filter (λ (k : Born). not (in_range a b k.1.0)) ks) (filter (λ (k : Born). not (in_range a b k.1.0)) ks)) ≡ cond v (k.1 ∷ filter (λ (x : ℤ × ℤ). not (in_range a b x.0)) (samples_of ks)) (filter (λ (x : ℤ × ℤ). not (in_range a b x.0)) (samples_of ks))) [
      | true ↦ ap (λ (r : List (ℤ × ℤ)). k.1 ∷ r) (samples-struck a b ks)
      | false ↦ samples-struck a b ks
    ]

row-shown : (sat : Labels → Bool) (a b : ℤ) (e : HeadSeries) → shown_row (struck_series sat a b e) ≡ struck_one sat a b (shown_row e)
row-shown sat a b e =
    elim (sat e.labels) as (λ v. shown_row (if v then record e { samples = filter (λ (k : Born). not (in_range a b k.1.0)) e.samples } else e) ≡ (if v then (e.labels, filter (λ (x : ℤ × ℤ). not (in_range a b x.0)) (samples_of e.samples)) else shown_row e)) [
      | true ↦ ap (λ (r : List (ℤ × ℤ)). (e.labels, r)) (samples-struck a b e.samples)
      | false ↦ refl
    ]

head-shown : (sat : Labels → Bool) (a b : ℤ) (head : List HeadSeries) → shown (map (struck_series sat a b) head) ≡ map (struck_one sat a b) (shown head)
head-shown sat a b [] = refl
head-shown sat a b (e ∷ es) = (λ i. row-shown sat a b e i ∷ head-shown sat a b es i)

-- no newest sample changes
newest-struck : (sat : Labels → Bool) (a b : ℤ) (head : List HeadSeries) → newest_of (map (struck_series sat a b) head) ≡ newest_of head
newest-struck sat a b [] = refl
newest-struck sat a b (e ∷ es) =
    elim (sat e.labels) as (λ v. newest_of ((if v then record e { samples = filter (λ (k : Born). not (in_range a b k.1.0)) e.samples } else e) ∷ map (struck_series sat a b) es) ≡ newest_of (e ∷ map (struck_series sat a b) es)) [ true ↦ refl | false ↦ refl ]
    ∙ ap (λ (r : Newest). (e.labels, e.newest) ∷ r) (newest-struck sat a b es)

length-struck : (sat : Labels → Bool) (a b : ℤ) (ps : List Part) → length (map (struck_part sat a b) ps) ≡ length ps
length-struck sat a b [] = refl
length-struck sat a b (p ∷ ps) = ap suc (length-struck sat a b ps)

pub deletions_agree : (s : State) (w : World) (sat : Labels → Bool) (a b : ℤ) → IsLike s w → IsLike (deleted sat a b s) (worlds.deleted w sat a b)
deletions_agree s w sat a b h = record {
  floor = h.floor;
  newest = newest-struck sat a b s.head ∙ h.newest;
  blocks = length-struck sat a b s.blocks ∙ h.blocks;
  content = λ l t.
      let stays : Point → Bool = λ p. not (sat p.0 && in_range a b p.1) in
      find-where_key point_cmp stays (l, t) (λ x e. ap stays (sym (point_exact (l, t) x e))) w.content
      ∙ ap (λ z. cond (stays (l, t)) z None) (h.content l t)
      ∙ sym (shared (stays (l, t)) (in_rows l t (shown s.head)) (in_parts l t s.blocks))
      ∙ ap (λ z. or_else z (cond (stays (l, t)) (in_parts l t s.blocks) None)) (sym (ap (in_rows l t) (head-shown sat a b s.head) ∙ rows-struck sat a b l t (shown s.head)))
      ∙ ap (or_else (in_rows l t (shown (map (struck_series sat a b) s.head)))) (sym (parts-struck sat a b l t s.blocks));
  sorted = is_sorted-where_key point_cmp (λ (p : Point). not (sat p.0 && in_range a b p.1)) w.content h.sorted;
}
