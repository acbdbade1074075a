use Rattle.std.proofs.Common.{◌≡◌, ◌+◌, ◌++◌, ◌∷◌, ℕ, List, length, drop, ap, subst, ◌∙◌, arith}
use Rattle.std.proofs.Common.{length-append}
use Rattle.std.specs.Prelude.{map}
use Rattle.std.specs.List.{flat_map}
use Rattle.std.proofs.lemmas.List.{length-map}
use Rattle.byteorder.specs.Endian.{big_bytes}
use Rattle.std.proofs.lemmas.Result.{err_from_is_err_and}
use Rattle.labels.specs.Pairs.{texts_of}
use Rattle.block_writer.specs.IndexText.{section_text}
use Rattle.block_writer.specs.Written.{IsReason}
use Rattle.block_writer.proofs.Lengths.{longer, too_many, sections_long}
use Rattle.block_writer.proofs.Walking.{flat_on, grouped}
use Rattle.block_writer.proofs.Building.{listed_first, listed_on, listed_done, part_long}
use Rattle.block_writer.proofs.Shown.{pair_here, item_here}
use Rattle.block_writer.proofs.sections.put_sections.Goals as goal

pub returns-in_err-within-clause-reason : goal.returns-in_err-within-clause-reason
returns-in_err-within-clause-reason c =
    let p = err_from_is_err_and c.from_residual.result c.from_residual.ensures.1 in
    let lists : List (List ℕ) = c.args.all.now ∷ map (λ l. l.items) c.args.lists.now in
    rw p.1 (too_many p.0 _ (flat_map section_text lists) (omega (
      arith,
      sections_long lists,
      length-map {B = List ℕ} c.args.lists.now (λ l. l.items),
      c.requires,
    )) c.in_err-within.ensures.long)

pub loop-i-init : goal.loop-i-init
loop-i-init c =
    let pairs = texts_of c.args.pairs.now in
    let lists : List (List ℕ) = map (λ l. l.items) c.args.lists.now in
    let out : c.put_listed.new.out.items ≡ c.args.out.now.items ++ section_text c.args.all.now =
    c.in_ok-put_listed.ensures.text in (
      ap (λ (xs : List ℕ). xs ++ flat_map section_text lists) out
          ∙ grouped c.args.out.now.items (section_text c.args.all.now)
          (flat_map section_text lists),
      listed_first pairs lists c.args.all.now c.args.out.now.items c.put_listed.new.out.items
          c.put_be32.new.out.items c.put_listed.new.table.items c.in_ok-within.field-0 (omega (
            arith,
            length-map {B = List ℕ} c.args.lists.now (λ l. l.items),
            length-map {B = List ℕ × List ℕ} c.args.pairs.now (λ p. (p.0.now, p.1.now)),
            c.requires,
          )) (omega (
            arith,
            c.in_ok-within.ensures.same,
            length-map {B = List ℕ × List ℕ} c.args.pairs.now (λ p. (p.0.now, p.1.now)),
          ))
          (c.in_ok-put_be32.ensures.ok
          ∙ ap (λ (xs : List ℕ). xs ++ big_bytes 4 c.in_ok-within.field-0)
          c.new-table.ensures.items) c.in_ok-put_listed.ensures.listed out,
    )

pub returns-in_err-put_listed-2-clause-reason : goal.returns-in_err-put_listed-2-clause-reason
returns-in_err-put_listed-2-clause-reason c =
    let p =
    err_from_is_err_and c.from_residual-in_err-put_listed-2.result
    c.from_residual-in_err-put_listed-2.ensures.1 in
    let lists : List (List ℕ) = map (λ l. l.items) c.args.lists.now in
    let item : List ℕ = c.index-lists-i.result.items in
    let here : drop c.loop-i.i lists ≡ item ∷ drop (c.loop-i.i + 1) lists =
    item_here (λ l. l.items) c.args.lists.now c.loop-i.i c.index-lists-i.result
    (omega (arith, c.requires)) c.index-lists-i.is in
    rw (p.1, p.2) (longer c.in_err-put_listed-2.field-0.0 (section_text item)
    (flat_map section_text (c.args.all.now ∷ lists)) (omega (
      arith,
      part_long section_text lists c.loop-i.i item (drop (c.loop-i.i + 1) lists) here,
      length-append (section_text c.args.all.now) (flat_map section_text lists),
    )) (subst (λ (xs : List ℕ). IsReason (section_text xs) c.in_err-put_listed-2.field-0.0)
    c.deref.ensures.value c.in_err-put_listed-2.ensures.reason))

pub loop-i-preserved : goal.loop-i-preserved
loop-i-preserved c =
    let pairs : List (List ℕ × List ℕ) = texts_of c.args.pairs.now in
    let lists : List (List ℕ) = map (λ l. l.items) c.args.lists.now in
    let item : List ℕ = c.index-lists-i.result.items in
    let here : drop c.loop-i.i lists ≡ item ∷ drop (c.loop-i.i + 1) lists =
    item_here (λ l. l.items) c.args.lists.now c.loop-i.i c.index-lists-i.result
    (omega (arith, c.requires)) c.index-lists-i.is in
    let text : c.put_listed-in-loop-i.new.out.items ≡ c.loop-i.out.items ++ section_text item =
    c.in_ok-put_listed-2.ensures.text
    ∙ ap (λ (xs : List ℕ). c.loop-i.out.items ++ section_text xs) c.deref.ensures.value in (
      flat_on section_text c.loop-i.out.items c.put_listed-in-loop-i.new.out.items lists c.loop-i.i
          item _ here text c.loop-i.invariant.0,
      listed_on pairs lists c.loop-i.i _ item c.loop-i.out.items
          c.put_listed-in-loop-i.new.out.items c.loop-i.table.items
          c.put_listed-in-loop-i.new.table.items _ (pair_here c.args.pairs.now c.loop-i.i _
          (omega arith)) here c.in_ok-put_listed-2.ensures.listed text c.loop-i.invariant.1,
    )

pub returns-clause-table : goal.returns-clause-table
returns-clause-table c =
    listed_done (texts_of c.args.pairs.now) (map (λ l. l.items) c.args.lists.now) c.loop-i.i
    (length c.loop-i.out.items) c.loop-i.table.items _ (omega (
      arith,
      length-map {B = List ℕ × List ℕ} c.args.pairs.now (λ p. (p.0.now, p.1.now)),
    )) c.loop-i.invariant.1
