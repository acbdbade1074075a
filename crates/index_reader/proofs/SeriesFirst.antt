-- The first check of an index that fails, of the bodies of its series entries.
use Rattle.std.proofs.Common.{◌≡◌, ℕ, ◌^◌, ◌<◌, true, List, ◌∷◌, length, Ok, Err}
use Rattle.std.proofs.Common.{refl, sym, subst, inl, inr, arith}
use Rattle.wire.specs.Spelling.{IsBytes}
use Rattle.wire.proofs.KnownReads.{chosen}
use Rattle.index_reader.specs.declared.error.IndexError.{IndexError}
use Rattle.index_reader.specs.declared.error.IndexError.TheVariants.{Series, SeriesOrder}
use Rattle.index_reader.specs.Layout.{Layout, rounded, series_end, Body, rises}
use Rattle.index_reader.specs.Grammar.{IsLayout}
use Rattle.index_reader.specs.Reading.Steps.{each}
use Rattle.index_reader.specs.Reading.Entries.{gaps_zero}
use Rattle.index_reader.specs.Reading.Flat.{body_of_entry, labels_before}
use Rattle.index_reader.specs.Reading.Whole.{layout_of, labels_of_each, bodies_of}
use Rattle.index_reader.specs.Indexes as indexes
use Rattle.index_reader.specs.Checks.{Check, FirstFailing, HasSymbols, HasBodies, AreInOrder}
use Rattle.index_reader.proofs.Whole.{parts_take, parts_again}
use Rattle.index_reader.proofs.Sound.{few_symbols}
use Rattle.index_reader.proofs.Gaps.{zeros_of, gaps_in}
use Rattle.index_reader.proofs.Spelling.{walk_bytes, bodies_spelled}
use Rattle.index_reader.proofs.BodyAgain.{bodies_again}
use Rattle.index_reader.proofs.Again.{walk_sizes, order_again}
use Rattle.index_reader.proofs.OnlyErr.{of_bodies}
use Rattle.index_reader.proofs.HeadFirst.{not_both, ok_not, is_refusal, same_value, bind_err}
use Rattle.index_reader.proofs.HeadFirst.{true_not, head_passes}

-- ---- checks that pass

-- a layout passes the checks of an index up to those of its entries
pub parts_pass : (file : List ℕ) (e : IndexError) (rest : List Check) (x : Layout)
    → IsLayout file x → FirstFailing rest file e
    → FirstFailing (Check.file_size ∷ Check.head_room ∷ Check.magic ∷ Check.version
    ∷ Check.contents_sum ∷ Check.contents_order ∷ Check.symbols_frame ∷ Check.symbols
    ∷ Check.entries ∷ rest) file e
parts_pass file e rest x p more =
    let framed : HasSymbols file p.symbols.0 = record {
      start = p.start;
      t = x.contents;
      contents = p.contents;
      placed = p.placed;
      stands = p.symbols.1;
    } in
    head_passes file e (Check.symbols_frame ∷ Check.symbols ∷ Check.entries ∷ rest) x.contents
    p.start p.contents p.placed
    (inr (
      (p.symbols.0, framed),
      inr ((p.symbols.0, x.symbols, framed, p.symbols.2), inr ((x, p), more)),
    ))

-- series pass the checks of an index up to that of their order
pub series_pass : (file : List ℕ) (e : IndexError) (rest : List Check) (x : Layout)
    (ss : List indexes.Series) → HasBodies file x ss → AreInOrder ss → FirstFailing rest file e
    → FirstFailing (Check.file_size ∷ Check.head_room ∷ Check.magic ∷ Check.version
    ∷ Check.contents_sum ∷ Check.contents_order ∷ Check.symbols_frame ∷ Check.symbols
    ∷ Check.entries ∷ Check.bodies ∷ Check.series_order ∷ rest) file e
series_pass file e rest x ss b up more =
    parts_pass file e (Check.bodies ∷ Check.series_order ∷ rest) x b.layout
    (inr ((x, ss, b), inr ((x, ss, b, up), more)))

-- ---- bodies

-- what bodies are read as
pub bodies_are : (file : List ℕ) (p x : Layout) (ss : List indexes.Series) → IsBytes file
    → layout_of file ≡ Ok p → (h : HasBodies file x ss)
    → (x ≡ p) × (each (body_of_entry p.symbols) p.entries ≡ Ok h.bodies)
bodies_are file p x ss fits read h =
    let same : x ≡ p = same_value (layout_of file) x p (parts_again file x fits h.layout) read in
    let small : length file < 2 ^ 32 = omega (arith, h.layout.placed.short) in
    let here =
    bodies_again x.symbols x.entries h.bodies (few_symbols file x h.layout) (walk_sizes x.entries
    file (series_end x.contents) (rounded x.contents.series) small h.layout.entries) h.spelled in
    (same, subst (λ (y : Layout). each (body_of_entry y.symbols) y.entries ≡ Ok h.bodies) same here)

pub has_bodies : (file : List ℕ) (p : Layout) (bs : List Body) → IsBytes file → IsLayout file p
    → each (body_of_entry p.symbols) p.entries ≡ Ok bs
    → gaps_zero file (series_end p.contents) p.symbols_end p.entries ≡ true
    → HasBodies file p (indexes.series_of p.symbols p.entries bs)
has_bodies file p bs fits layout read gaps = record {
  layout = layout;
  bodies = bs;
  spelled =
      bodies_spelled p.symbols p.entries bs (walk_bytes p.entries file (series_end p.contents)
      (rounded p.contents.series) fits layout.entries) read;
  gaps = zeros_of p.entries file (series_end p.contents) p.symbols_end gaps;
  series_are = refl;
}

pub bodies_first : (file : List ℕ) (e : IndexError) (rest : List Check) (p : Layout) → IsBytes file
    → layout_of file ≡ Ok p → bodies_of file p ≡ Err e
    → FirstFailing (Check.bodies ∷ Check.series_order ∷ rest) file e
unfolding bodies_of
bodies_first file e rest p fits parts h =
    let layout = parts_take file p fits parts in
    let read = each (body_of_entry p.symbols) p.entries in
    let gaps = gaps_zero file (series_end p.contents) p.symbols_end p.entries in
    elim (bind_err read _ e h) [
      | inl a ↦ inl (
        λ o. not_both read o.2.bodies e (bodies_are file p o.0 o.1 fits parts o.2).1 a,
        sym (of_bodies p.symbols p.entries e a),
      )
      | inr a ↦
          elim (chosen gaps _ _ _ a.2) [
            | inr g ↦ inl (
              λ o.
                  let b = bodies_are file p o.0 o.1 fits parts o.2 in
                  let moved =
                  subst (λ (y : Layout). gaps_zero file (series_end y.contents) y.symbols_end
                  y.entries ≡ true) b.0 (gaps_in file o.0 o.2.layout o.2.gaps) in
                  true_not gaps moved g.0,
              is_refusal (List Body) Series e g.1,
            )
            | inl g ↦
                let held = has_bodies file p a.0 fits layout a.1 g.0 in
                inr (
                  (p, indexes.series_of p.symbols p.entries a.0, held),
                  elim (chosen (rises labels_before (labels_of_each a.0)) _ _ _ g.1) [
                    | inl r ↦ absurd (ok_not _ _ r.1)
                    | inr r ↦ inl (
                      λ o.
                          let b = bodies_are file p o.0 o.1 fits parts o.2 in
                          let same : o.2.bodies ≡ a.0 = same_value read o.2.bodies a.0 b.1 a.1 in
                          let up =
                          order_again file o.0 o.2.bodies o.1 o.2.layout o.2.spelled
                          o.2.series_are o.3 in
                          true_not _ (subst (λ (bs : List Body).
                          rises labels_before (labels_of_each bs) ≡ true) same up) r.0,
                      is_refusal (List Body) SeriesOrder e r.1,
                    )
                  ],
                )
          ]
    ]
