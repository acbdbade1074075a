-- The labels of a body that was read make a label set.
use Rattle.std.proofs.Common.{◌≡◌, ◌≢◌, ℕ, zero, suc, ◌+◌, ◌<◌, ◌≤◌, Bool, true, false, ◌&&◌, List, [], ◌∷◌, length, get_or, Ok, refl, ap, subst, arith}
use Rattle.std.specs.Prelude.{nat_le, nat_lt}
use Rattle.std.proofs.lemmas.Bool.{ltb-true, leb-true}
use Rattle.std.proofs.lemmas.List.{length-map}
use Rattle.wire.specs.Reading.{uvarint_at}
use Rattle.labels.specs.Names.{is_name}
use Rattle.labels.specs.LabelSets.{IsLabelSet}
use Rattle.block_walk.specs.declared.error.WalkError.TheVariants.{Series}
use Rattle.block_walk.specs.IndexFile.Layout.{SeriesEntry, ascending, Label, Body}
use Rattle.wire.specs.Outcome.{or_refused}
use Rattle.block_walk.specs.IndexFile.Labelled.{IsLabel, AreLabels}
use Rattle.block_walk.specs.IndexFile.Steps.{steps}
use Rattle.block_walk.specs.IndexFile.Bodies.{is_label, label_at, labels_at, chunks_at, body_at}
use Rattle.block_walk.specs.IndexFile.Each.{each}
use Rattle.block_walk.specs.IndexFile.Flat.{body_of_entry}
use Rattle.block_walk.specs.IndexFile.Series.{pair_of, named}
use Rattle.block_walk.proofs.IndexFile.WalkLoops.{guard_ended}
use Rattle.wire.proofs.Steps.{bind_ok}
use Rattle.block_walk.proofs.IndexFile.Walks.{ok_is}
use Rattle.block_walk.proofs.IndexFile.Orders.{symbols_less}

both : (p q : Bool) → (p && q) ≡ true → (p ≡ true) × (q ≡ true)
both true q h = (refl, h)
both false q h = absurd cc

label_is : (symbols : List (List ℕ)) (low name value : ℕ) → is_label symbols low name value ≡ true
    → IsLabel symbols low (name, value)
unfolding is_label
label_is symbols low name value h =
    let b1 = nat_le low name in
    let b2 = nat_lt name (length symbols) in
    let b3 = nat_lt value (length symbols) in
    let b4 = is_name (get_or symbols name []) in
    let b5 = nat_lt 0 (length (get_or symbols value [])) in
    let p4 = both (b1 && b2 && b3 && b4) b5 h in
    let p3 = both (b1 && b2 && b3) b4 p4.0 in
    let p2 = both (b1 && b2) b3 p3.0 in
    let p1 = both b1 b2 p2.0 in
    record {
      from = leb-true low name p1.0;
      name_in = ltb-true name (length symbols) p1.1;
      value_in = ltb-true value (length symbols) p2.1;
      name = p3.1;
      value = ltb-true 0 _ p4.1;
    }

label_takes : (symbols : List (List ℕ)) (s : ℕ × List ℕ) (y : Label × (ℕ × List ℕ))
    → label_at symbols s ≡ Ok y → IsLabel symbols s.0 y.0 × (y.1.0 ≡ y.0.0 + 1)
unfolding label_at
label_takes symbols s y h =
    let a = bind_ok (or_refused Series (uvarint_at s.1)) _ y h in
    let b = bind_ok (or_refused Series (uvarint_at a.0.1)) _ y a.2 in
    let made : Label × (ℕ × List ℕ) = ((a.0.0, b.0.0), (a.0.0 + 1, b.0.1)) in
    let g = guard_ended (is_label symbols s.0 a.0.0 b.0.0) Series made y b.2 in
    subst (λ (z : Label × (ℕ × List ℕ)). IsLabel symbols s.0 z.0 × (z.1.0 ≡ z.0.0 + 1)) g.1
    (label_is symbols s.0 a.0.0 b.0.0 g.0, refl)

steps_take : (symbols : List (List ℕ)) (n : ℕ) (s : ℕ × List ℕ) (x : List Label × (ℕ × List ℕ))
    → steps (label_at symbols) n s ≡ Ok x → AreLabels symbols s.0 x.0
unfolding steps
steps_take symbols zero s x h =
    let made : List Label × (ℕ × List ℕ) = ([], s) in
    let e : made ≡ x = ok_is made x h in
    subst (λ (z : List Label × (ℕ × List ℕ)). AreLabels symbols s.0 z.0) e tt
steps_take symbols (suc n) s x h =
    let a = bind_ok (label_at symbols s) _ x h in
    let b = bind_ok (steps (label_at symbols) n a.0.1) _ x a.2 in
    let made : List Label × (ℕ × List ℕ) = (a.0.0 ∷ b.0.0, b.0.1) in
    let e : made ≡ x = ok_is made x b.2 in
    let first = label_takes symbols s a.0 a.1 in
    let others =
    subst (λ (low : ℕ). AreLabels symbols low b.0.0) first.1 (steps_take symbols n a.0.1 b.0 b.1) in
    subst (λ (z : List Label × (ℕ × List ℕ)). AreLabels symbols s.0 z.0) e (first.0, others)

pub body_takes : (symbols : List (List ℕ)) (bytes : List ℕ) (b : Body)
    → body_at symbols bytes ≡ Ok b → AreLabels symbols 0 b.labels
unfolding body_at labels_at
body_takes symbols bytes b h =
    let ls = bind_ok (labels_at symbols bytes) _ b h in
    let cs = bind_ok (chunks_at ls.0.1.1) _ b ls.2 in
    let made : Body = record { labels = ls.0.0; chunks = cs.0.0 } in
    let g = guard_ended _ Series made b cs.2 in
    let n = bind_ok (or_refused Series (uvarint_at bytes)) _ ls.0 ls.1 in
    subst (λ (z : Body). AreLabels symbols 0 z.labels) g.1
    (steps_take symbols n.0.0 (0, n.0.1) ls.0 n.2)

at_each : (symbols : List (List ℕ)) (b : Body) (others : List Body) → AreLabels symbols 0 b.labels
    → ((k : ℕ) (d : Body) → k < length others → AreLabels symbols 0 (get_or others k d).labels)
    → (k : ℕ) (d : Body) → k < suc (length others)
    → AreLabels symbols 0 (get_or (b ∷ others) k d).labels
at_each symbols b others one more zero d lt = one
at_each symbols b others one more (suc k) d lt = more k d (omega arith)

behind_first : (symbols : List (List ℕ)) (b : Body) (others bs : List Body) → b ∷ others ≡ bs
    → AreLabels symbols 0 b.labels
    → ((k : ℕ) (d : Body) → k < length others → AreLabels symbols 0 (get_or others k d).labels)
    → (k : ℕ) (d : Body) → k < length bs → AreLabels symbols 0 (get_or bs k d).labels
behind_first symbols b others bs e one more k d lt =
    subst (λ (zs : List Body). k < length zs → AreLabels symbols 0 (get_or zs k d).labels) e
    (at_each symbols b others one more k d) lt

pub bodies_take : (symbols : List (List ℕ)) (ps : List SeriesEntry) (bs : List Body)
    → each (body_of_entry symbols) ps ≡ Ok bs → (k : ℕ) (d : Body) → k < length bs
    → AreLabels symbols 0 (get_or bs k d).labels
unfolding each
bodies_take symbols [] bs h k d lt =
    let e : [] ≡ bs = ok_is [] bs h in absurd (omega (arith, ap length e))
bodies_take symbols (p ∷ ps) bs h k d lt =
    let b = bind_ok (body_of_entry symbols p) _ bs h in
    let others = bind_ok (each (body_of_entry symbols) ps) _ bs b.2 in
    let e : b.0 ∷ others.0 ≡ bs = ok_is (b.0 ∷ others.0) bs others.2 in
    behind_first symbols b.0 others.0 bs e (body_takes symbols p.body b.0 b.1)
    (λ j c l. bodies_take symbols ps others.0 others.1 j c l) k d lt

-- ---- names in order

pub first_below : (symbols : List (List ℕ)) (low : ℕ) (ls : List Label) (k : ℕ) (d : Label)
    → AreLabels symbols low ls → k < length ls → IsLabel symbols low (get_or ls k d)
first_below symbols low [] k d h lt = absurd (omega arith)
first_below symbols low (l ∷ ls) zero d h lt = h.0
first_below symbols low (l ∷ ls) (suc k) d h lt =
    let o = first_below symbols (l.0 + 1) ls k d h.1 (omega arith) in
    record {
      from = omega (arith, o.from, h.0.from);
      name_in = o.name_in;
      value_in = o.value_in;
      name = o.name;
      value = o.value;
    }

in_order : (symbols : List (List ℕ)) (low : ℕ) (ls : List Label) → AreLabels symbols low ls
    → (k : ℕ) (d : Label) → k + 1 < length ls → (get_or ls k d).0 < (get_or ls (k + 1) d).0
in_order symbols low [] h k d lt = absurd (omega arith)
in_order symbols low (l ∷ ls) h zero d lt =
    let o = first_below symbols (l.0 + 1) ls 0 d h.1 (omega arith) in omega (arith, o.from)
in_order symbols low (l ∷ ls) h (suc k) d lt =
    let e : suc k + 1 ≡ suc (k + 1) = omega arith in
    rw e (in_order symbols (l.0 + 1) ls h.1 k d (omega arith))

named_at : (symbols : List (List ℕ)) (ls : List Label) (k : ℕ) (d : List ℕ × List ℕ) (c : Label)
    → k < length ls → get_or (named symbols ls) k d ≡ pair_of symbols (get_or ls k c)
named_at symbols [] k d c lt = absurd (omega arith)
named_at symbols (l ∷ ls) zero d c lt = refl
named_at symbols (l ∷ ls) (suc k) d c lt = named_at symbols ls k d c (omega arith)

full : (xs : List ℕ) → 0 < length xs → xs ≢ []
full xs lt = λ e. absurd (omega (arith, ap length e))

-- labels that were read, at most 64 of them
pub is_label_set : (symbols : List (List ℕ)) (ls : List Label) → ascending symbols ≡ true
    → AreLabels symbols 0 ls → length ls ≤ 64 → IsLabelSet (named symbols ls)
is_label_set symbols ls sorted h few = record {
  by_name = λ k d lt.
      let n = length-map ls (pair_of symbols) in
      let c : Label = (0, 0) in
      let a = named_at symbols ls k d c (omega (arith, n)) in
      let b = named_at symbols ls (k + 1) d c (omega (arith, n)) in
      let o = first_below symbols 0 ls (k + 1) c h (omega (arith, n)) in
      rw (a, b) (symbols_less symbols (get_or ls k c).0 (get_or ls (k + 1) c).0 sorted
      (in_order symbols 0 ls h k c (omega (arith, n))) o.name_in);
  named = λ k d lt.
      let n = length-map ls (pair_of symbols) in
      let c : Label = (0, 0) in
      rw (named_at symbols ls k d c (omega (arith, n)))
      (first_below symbols 0 ls k c h (omega (arith, n))).name;
  valued = λ k d lt.
      let n = length-map ls (pair_of symbols) in
      let c : Label = (0, 0) in
      rw (named_at symbols ls k d c (omega (arith, n)))
      (full _ (first_below symbols 0 ls k c h (omega (arith, n))).value);
  few = omega (arith, few, length-map ls (pair_of symbols));
}
