-- What the checks of the head leave.
use Rattle.std.proofs.Common.{◌≡◌, ℕ, ◌-◌, ◌≤◌, Bool, true, false, ◌&&◌, ◌||◌, cond, ltb, eqb, List, length, drop, Ok, Err, refl, ◌⊎◌, inl, inr, arith}
use Rattle.std.specs.Prelude.{slice_index, nat_le}
use Rattle.std.proofs.lemmas.Bool.{leb-true, ltb-true, ltb-false, eqb-true}
use Rattle.wire.proofs.KnownReads.{chosen}
use Rattle.block_walk.specs.declared.contents.Contents.{Contents}
use Rattle.block_walk.specs.declared.error.WalkError.TheVariants.{ContentsOrder}
use Rattle.block_walk.specs.IndexFile.Layout.{IsPlaced}
use Rattle.block_walk.specs.IndexFile.Reading.{in_order, has_magic, table_of, head_of}
use Rattle.block_walk.proofs.IndexFile.WalkLoops.{guard_ended}
use Rattle.wire.proofs.Steps.{bind_ok}

both : (p q : Bool) → (p && q) ≡ true → (p ≡ true) × (q ≡ true)
both true q h = (refl, h)
both false q h = absurd cc

either : (p q : Bool) → (p || q) ≡ true → (p ≡ true) ⊎ (q ≡ true)
either true q h = inl refl
either false q h = inr h

le_true : (a b : ℕ) → nat_le a b ≡ true → a ≤ b
le_true a b h = leb-true a b h

between : (a b c : ℕ) → (eqb b 0 || (nat_le a b && nat_le b c)) ≡ true
    → (b ≡ 0) ⊎ ((a ≤ b) × (b ≤ c))
between a b c h =
    elim (either (eqb b 0) (nat_le a b && nat_le b c) h) [
      | inl t ↦ inl (eqb-true b 0 t)
      | inr t ↦ let p = both (nat_le a b) (nat_le b c) t in inr (le_true a b p.0, le_true b c p.1)
    ]

pub order_placed : (t : Contents) (len : ℕ) → 57 ≤ len → len ≤ 0x4000_0000
    → in_order t (len - 52) ≡ true → IsPlaced t len
order_placed t len long short h =
    let a6 = both _ _ h in
    let a5 = both _ _ a6.0 in
    let a4 = both _ _ a5.0 in
    let a3 = both _ _ a4.0 in
    let a2 = both _ _ a3.0 in
    let a1 = both _ _ a2.0 in
    record {
      long = long;
      short = short;
      symbols = eqb-true t.symbols 5 a1.0;
      series = ltb-true 5 t.series a1.1;
      postings = le_true t.series t.postings a2.1;
      postings_offsets = le_true t.postings t.postings_offsets a3.1;
      end = omega (arith, ltb-true t.postings_offsets (len - 52) a4.1);
      label_indices = between t.series t.label_indices t.postings a5.1;
      label_offsets = between t.postings t.label_offsets t.postings_offsets a6.1;
    }

pub head_placed : (file : List ℕ) (t : Contents) → head_of file ≡ Ok t → IsPlaced t (length file)
unfolding head_of
head_placed file t h =
    elim (chosen (ltb 0x4000_0000 (length file)) _ _ _ h) [
      | inl a ↦ absurd (let f = a.1 in cc)
      | inr a ↦
          elim (chosen (ltb (length file) 57) _ _ _ a.1) [
            | inl b ↦ absurd (let f = b.1 in cc)
            | inr b ↦
                elim (chosen (has_magic file) _ _ _ b.1) [
                  | inr m ↦ absurd (let f = m.1 in cc)
                  | inl m ↦
                      elim (chosen (eqb (slice_index file 4) 2) _ _ _ m.1) [
                        | inr v ↦ absurd (let f = v.1 in cc)
                        | inl v ↦
                            let s =
                            bind_ok (table_of (drop (length file - 52) file))
                            (λ t. cond (in_order t (length file - 52)) (Ok t) (Err ContentsOrder)) t
                            v.1 in
                            let g =
                            guard_ended (in_order s.0 (length file - 52)) ContentsOrder s.0 t s.2 in
                            rw (← g.1) (order_placed s.0 (length file) (ltb-false _ _ b.0)
                            (ltb-false _ _ a.0) g.0)
                      ]
                ]
          ]
    ]
