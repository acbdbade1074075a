use Rattle.std.proofs.Common.{◌≡◌, ◌++◌, ℕ, List, [], ◌∷◌, length, ap, subst, ◌∙◌, arith}
use Rattle.std.specs.Prelude.{map}
use Rattle.std.proofs.lemmas.Result.{err_from_is_err_and}
use Rattle.labels.specs.Pairs.{texts_of}
use Rattle.index_reader.specs.Seen.{bytes_of}
use Rattle.block_writer.specs.IndexText.{lists_of, postings_text}
use Rattle.block_writer.specs.Written.{IsReason}
use Rattle.block_writer.proofs.Building.{start_reason, entries_reason, postings_reason, index_is}
use Rattle.block_writer.proofs.Building.{references_many}
use Rattle.block_writer.proofs.index_file.spell_index.Goals as goal

pub returns-in_err-file-clause-reason : goal.returns-in_err-file-clause-reason
returns-in_err-file-clause-reason c =
    let p = err_from_is_err_and c.from_residual.result c.from_residual.ensures.1 in
    rw (p.1, p.2) (start_reason _ (bytes_of c.args.symbols.now) (texts_of c.args.pairs.now)
    c.args.rows.now c.in_err-file.ensures.reason)

pub returns-in_err-references-clause-reason : goal.returns-in_err-references-clause-reason
returns-in_err-references-clause-reason c =
    let p =
    err_from_is_err_and c.from_residual-in_err-references.result
    c.from_residual-in_err-references.ensures.1 in
    rw (p.1, p.2)
    (entries_reason _ (bytes_of c.args.symbols.now) (texts_of c.args.pairs.now) c.args.rows.now
    c.in_ok-file.file.items c.in_ok-file.ensures.text c.in_err-references.ensures.reason)

pub lists_of-requires-clause-each : goal.lists_of-requires-clause-each
lists_of-requires-clause-each c =
    ap length c.deref.ensures.value
    ∙ ap length c.in_ok-references.ensures.references
    ∙ references_many (bytes_of c.args.symbols.now) c.args.rows.now 8
    (length c.in_ok-file.file.items)

pub returns-in_err-put_postings-clause-reason : goal.returns-in_err-put_postings-clause-reason
returns-in_err-put_postings-clause-reason c =
    let p =
    err_from_is_err_and c.from_residual-in_err-put_postings.result
    c.from_residual-in_err-put_postings.ensures.1 in
    let pairs : List (List ℕ × List ℕ) = texts_of c.args.pairs.now in
    let refs : List ℕ = c.in_ok-references.references.items in
    let lists : List (List ℕ) = map (λ l. l.items) c.in_ok-lists.lists.items in
    let series : c.len-series.result ≡ length c.in_ok-file.file.items =
    omega (arith, c.len-series.ensures, c.in_ok-file.file.ok.0) in
    let listed : lists ≡ lists_of pairs c.args.rows.now refs =
    c.in_ok-lists.ensures ∙ ap (lists_of pairs c.args.rows.now) c.deref.ensures.value in
    let text : postings_text c.len-series.result (length c.put_entries.new.out.items)
    (([], []) ∷ pairs) (c.deref-2.result.now ∷ map (λ l. l.items) c.deref-3.result.now)
    ≡ postings_text (length c.in_ok-file.file.items) (length c.put_entries.new.out.items)
    (([], []) ∷ pairs) (refs ∷ lists) =
    λ j. postings_text (series j) (length c.put_entries.new.out.items) (([], []) ∷ pairs)
    (c.deref-2.ensures.value j ∷ map (λ l. l.items) (c.deref-3.ensures.value j)) in
    rw (p.1, p.2) (postings_reason c.in_err-put_postings.field-0.0 (bytes_of c.args.symbols.now)
    pairs c.args.rows.now c.in_ok-file.file.items c.put_entries.new.out.items refs lists
    c.in_ok-file.ensures.text c.in_ok-references.ensures.text c.in_ok-references.ensures.references
    listed
    (subst (λ (xs : List ℕ). IsReason xs c.in_err-put_postings.field-0.0) text
    c.in_err-put_postings.ensures.reason))

pub returns-clause-text : goal.returns-clause-text
returns-clause-text c =
    let pairs : List (List ℕ × List ℕ) = texts_of c.args.pairs.now in
    let refs : List ℕ = c.in_ok-references.references.items in
    let lists : List (List ℕ) = map (λ l. l.items) c.in_ok-lists.lists.items in
    let series : c.len-series.result ≡ length c.in_ok-file.file.items =
    omega (arith, c.len-series.ensures, c.in_ok-file.file.ok.0) in
    let listed : lists ≡ lists_of pairs c.args.rows.now refs =
    c.in_ok-lists.ensures ∙ ap (lists_of pairs c.args.rows.now) c.deref.ensures.value in
    let text : c.put_postings.new.out.items
    ≡ c.put_entries.new.out.items ++ postings_text (length c.in_ok-file.file.items)
    (length c.put_entries.new.out.items) (([], []) ∷ pairs) (refs ∷ lists) =
    c.in_ok-put_postings.ensures.text
    ∙ (λ j.
    c.put_entries.new.out.items ++ postings_text (series j) (length c.put_entries.new.out.items) ((
      [],
      [],
    ) ∷ pairs) (c.deref-2.ensures.value j ∷ map (λ l. l.items) (c.deref-3.ensures.value j))) in
    index_is (bytes_of c.args.symbols.now) pairs c.args.rows.now c.in_ok-file.file.items
    c.put_entries.new.out.items c.put_postings.new.out.items refs lists c.in_ok-file.ensures.text
    c.in_ok-references.ensures.text c.in_ok-references.ensures.references listed text
