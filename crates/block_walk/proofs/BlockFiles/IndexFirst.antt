-- The first check of an index that fails, from the bodies of its series entries on.
use Rattle.std.proofs.Common.{◌≡◌, ℕ, ◌^◌, ◌<◌, Bool, true, false, List, ◌∷◌, length, Ok, Err, refl, sym, subst, inl, inr, arith}
use Rattle.std.specs.Prelude.{nat_lt}
use Rattle.std.specs.List.{list_all}
use Rattle.wire.specs.Spelling.{IsBytes}
use Rattle.wire.proofs.KnownReads.{chosen}
use Rattle.block_walk.specs.declared.error.WalkError.{WalkError}
use Rattle.block_walk.specs.declared.error.WalkError.TheVariants.{Series, SeriesOrder, Limit}
use Rattle.block_walk.specs.IndexFile.Layout.{Layout, rounded, series_end, Body}
use Rattle.block_walk.specs.IndexFile.Reading.{layout_of}
use Rattle.block_walk.specs.IndexFile.Grammar.{IsLayout}
use Rattle.block_walk.specs.IndexFile.Each.{each, rises}
use Rattle.block_walk.specs.IndexFile.Flat.{body_of_entry, is_before, gaps_zero}
use Rattle.block_walk.specs.IndexFile.Whole.{labels_of_each, bodies_of, is_small, Read, read_of, series_in, indexed_of}
use Rattle.block_walk.specs.IndexFile.Series as indexes
use Rattle.block_walk.specs.IndexFile.Spelled.{IsIndex}
use Rattle.block_walk.specs.BlockFiles.Checks.{Files, Check, FirstFailing, HasFrame, HasBodies}
use Rattle.wire.proofs.Steps.{bind_ok}
use Rattle.block_walk.proofs.IndexFile.Walks.{ok_is}
use Rattle.block_walk.proofs.IndexFile.Whole.{parts_take, parts_again}
use Rattle.block_walk.proofs.IndexFile.Sound.{few_symbols}
use Rattle.block_walk.proofs.IndexFile.Gaps.{zeros_of, gaps_in}
use Rattle.block_walk.proofs.IndexFile.Spelling.{walk_bytes, bodies_spelled}
use Rattle.block_walk.proofs.IndexFile.BodyAgain.{bodies_again}
use Rattle.block_walk.proofs.IndexFile.Facts.{bodied, chain, in_order_so, is_index}
use Rattle.block_walk.proofs.IndexFile.Again.{walk_sizes, order_again, index_again}
use Rattle.block_walk.proofs.IndexFile.Codes.{of_bodies}
use Rattle.block_walk.proofs.BlockFiles.HeadFirst.{not_both, ok_not, is_refusal, same_value, bind_err, head_passes, parts_first}

true_not : (b : Bool) → b ≡ true → b ≡ false → ⊥
true_not true a b = absurd cc
true_not false a b = absurd cc

-- ---- checks that pass

-- a layout passes the checks of an index up to those of its entries
parts_pass : (f : Files) (e : WalkError) (rest : List Check) (x : Layout) → IsLayout f.index x
    → FirstFailing rest f e
    → FirstFailing (Check.index_size ∷ Check.head_room ∷ Check.magic ∷ Check.version
    ∷ Check.contents_sum ∷ Check.contents_order ∷ Check.symbols_frame ∷ Check.symbols
    ∷ Check.entries ∷ rest) f e
parts_pass f e rest x p more =
    let framed : HasFrame f.index p.symbols.0 = record {
      start = p.start;
      t = x.contents;
      contents = p.contents;
      placed = p.placed;
      stands = p.symbols.1;
    } in
    head_passes f e (Check.symbols_frame ∷ Check.symbols ∷ Check.entries ∷ rest) x.contents
    p.start p.contents p.placed
    (inr (
      (p.symbols.0, framed),
      inr ((p.symbols.0, x.symbols, framed, p.symbols.2), inr ((x, p), more)),
    ))

-- series pass all checks of an index
pub index_passes : (f : Files) (e : WalkError) (rest : List Check) (ss : List indexes.Series)
    → IsIndex f.index ss → FirstFailing rest f e
    → FirstFailing (Check.index_size ∷ Check.head_room ∷ Check.magic ∷ Check.version
    ∷ Check.contents_sum ∷ Check.contents_order ∷ Check.symbols_frame ∷ Check.symbols
    ∷ Check.entries ∷ Check.bodies ∷ Check.series_order ∷ Check.series_counts ∷ rest) f e
index_passes f e rest ss i more =
    let bodied_so : HasBodies f.index ss = record {
      parts = i.parts;
      layout = i.layout;
      bodies = i.bodies;
      spelled = i.spelled;
      gaps = i.gaps;
      series_are = i.series_are;
    } in
    parts_pass f e (Check.bodies ∷ Check.series_order ∷ Check.series_counts ∷ rest) i.parts i.layout
    (inr ((ss, bodied_so), inr ((ss, bodied_so, i.in_order), inr ((ss, i), more))))

-- ---- bodies

-- what bodies are read as
bodies_are : (file : List ℕ) (p : Layout) (ss : List indexes.Series) → IsBytes file
    → layout_of file ≡ Ok p → (h : HasBodies file ss)
    → (h.parts ≡ p) × (each (body_of_entry p.symbols) p.entries ≡ Ok h.bodies)
bodies_are file p ss fits read h =
    let x = h.parts in
    let same : x ≡ p = same_value (layout_of file) x p (parts_again file x fits h.layout) read in
    let small : length file < 2 ^ 32 = omega (arith, h.layout.placed.short) in
    let here =
    bodies_again x.symbols x.entries h.bodies (few_symbols file x h.layout) (walk_sizes x.entries
    file (series_end x.contents) (rounded x.contents.series) small h.layout.entries) h.spelled in
    (same, subst (λ (y : Layout). each (body_of_entry y.symbols) y.entries ≡ Ok h.bodies) same here)

has_bodies : (file : List ℕ) (p : Layout) (bs : List Body) → IsBytes file → IsLayout file p
    → each (body_of_entry p.symbols) p.entries ≡ Ok bs
    → gaps_zero file (series_end p.contents) p.symbols_end p.entries ≡ true
    → HasBodies file (indexes.series_of p.symbols p.entries bs)
has_bodies file p bs fits layout read gaps = record {
  parts = p;
  layout = layout;
  bodies = bs;
  spelled =
      bodies_spelled p.symbols p.entries bs (walk_bytes p.entries file (series_end p.contents)
      (rounded p.contents.series) fits layout.entries) read;
  gaps = zeros_of p.entries file (series_end p.contents) p.symbols_end gaps;
  series_are = refl;
}

bodies_first : (f : Files) (e : WalkError) (rest : List Check) (p : Layout) → IsBytes f.index
    → layout_of f.index ≡ Ok p → bodies_of f.index p ≡ Err e
    → FirstFailing (Check.bodies ∷ Check.series_order ∷ rest) f e
unfolding bodies_of
bodies_first f e rest p fits parts h =
    let file = f.index in
    let layout = parts_take file p fits parts in
    let read = each (body_of_entry p.symbols) p.entries in
    let gaps = gaps_zero file (series_end p.contents) p.symbols_end p.entries in
    elim (bind_err read _ e h) [
      | inl a ↦ inl (
        λ o. not_both read o.1.bodies e (bodies_are file p o.0 fits parts o.1).1 a,
        sym (of_bodies p.symbols p.entries e a),
      )
      | inr a ↦
          elim (chosen gaps _ _ _ a.2) [
            | inr g ↦ inl (
              λ o.
                  let b = bodies_are file p o.0 fits parts o.1 in
                  let moved =
                  subst (λ (y : Layout). gaps_zero file (series_end y.contents) y.symbols_end
                  y.entries ≡ true) b.0 (gaps_in file o.1.parts o.1.layout o.1.gaps) in
                  true_not gaps moved g.0,
              is_refusal (List Body) Series e g.1,
            )
            | inl g ↦
                let held = has_bodies file p a.0 fits layout a.1 g.0 in
                inr (
                  (indexes.series_of p.symbols p.entries a.0, held),
                  elim (chosen (rises is_before (labels_of_each a.0)) _ _ _ g.1) [
                    | inl r ↦ absurd (ok_not _ _ r.1)
                    | inr r ↦ inl (
                      λ o.
                          let b = bodies_are file p o.0 fits parts o.1 in
                          let same : o.1.bodies ≡ a.0 = same_value read o.1.bodies a.0 b.1 a.1 in
                          let up =
                          order_again file o.1.parts o.1.bodies o.0 o.1.layout o.1.spelled
                          o.1.series_are o.2 in
                          true_not _ (subst (λ (bs : List Body). rises is_before (labels_of_each bs)
                          ≡ true) same up) r.0,
                      is_refusal (List Body) SeriesOrder e r.1,
                    )
                  ],
                )
          ]
    ]

-- ---- all of it

counts_first : (f : Files) (e : WalkError) (rest : List Check) → IsBytes f.index
    → read_of f.index ≡ Err e → e ≡ Limit → FirstFailing (Check.series_counts ∷ rest) f e
unfolding indexed_of
counts_first f e rest fits h is =
    inl
    (λ o. not_both (indexed_of f.index) o.0 e (index_again f.index o.0 fits o.1) (rw h refl), is)

pub index_first : (f : Files) (e : WalkError) (rest : List Check) → IsBytes f.index
    → read_of f.index ≡ Err e
    → FirstFailing (Check.index_size ∷ Check.head_room ∷ Check.magic ∷ Check.version
    ∷ Check.contents_sum ∷ Check.contents_order ∷ Check.symbols_frame ∷ Check.symbols
    ∷ Check.entries ∷ Check.bodies ∷ Check.series_order ∷ Check.series_counts ∷ rest) f e
unfolding read_of
index_first f e rest fits h =
    let file = f.index in
    elim (bind_err (layout_of file) _ e h) [
      | inl a ↦
          parts_first f e (Check.bodies ∷ Check.series_order ∷ Check.series_counts ∷ rest) fits a
      | inr a ↦
          let p = a.0 in
          let layout = parts_take file p fits a.1 in
          parts_pass f e (Check.bodies ∷ Check.series_order ∷ Check.series_counts ∷ rest) p layout
          (elim (bind_err (bodies_of file p) _ e a.2) [
            | inl b ↦ bodies_first f e (Check.series_counts ∷ rest) p fits a.1 b
            | inr b ↦
                let r = bodied file p b.0 b.1 in
                let held = has_bodies file p b.0 fits layout r.read r.gaps in
                let ss = indexes.series_of p.symbols p.entries b.0 in
                let limit : e ≡ Limit = elim (chosen (nat_lt 1048576 (length b.0)) _ _ _ b.2) [
                  | inl n ↦ is_refusal Read Limit e n.1
                  | inr n ↦ elim (chosen (list_all is_small (labels_of_each b.0)) _ _ _ n.1) [
                    | inl s ↦ absurd (ok_not _ _ s.1)
                    | inr s ↦ is_refusal Read Limit e s.1
                  ]
                ] in
                inr (
                  (ss, held),
                  inr (
                    (ss, held, in_order_so file p b.0 layout r),
                    counts_first f e rest fits h limit,
                  ),
                )
          ])
    ]

-- what was read is an index
pub index_found : (file : List ℕ) (ss : List indexes.Series) → IsBytes file
    → indexed_of file ≡ Ok ss → IsIndex file ss
unfolding indexed_of
index_found file ss fits h =
    let r = bind_ok (read_of file) _ ss h in
    let c = chain file r.0 r.1 in
    let made : IsIndex file (series_in r.0) =
    is_index file r.0 fits (parts_take file r.0.parts fits c.parts) r.1 in
    subst (IsIndex file) (ok_is (series_in r.0) ss r.2) made
