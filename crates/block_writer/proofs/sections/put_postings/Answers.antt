use Rattle.std.proofs.Common.{◌≡◌, ◌++◌, [], ◌∷◌, length, ◌∙◌, arith}
use Rattle.std.specs.Prelude.{map}
use Rattle.labels.specs.Pairs.{texts_of}
use Rattle.wire.specs.Checksum.{checked}
use Rattle.index_reader.specs.Grammar.{frame, contents_text}
use Rattle.block_writer.specs.IndexText.{contents_of}
use Rattle.block_writer.proofs.Building.{postings_is}
use Rattle.block_writer.proofs.sections.put_postings.Goals as goal

pub returns-clause-text : goal.returns-clause-text
returns-clause-text c =
    let framed : c.put_frame.new.out.items
    ≡ c.put_sections.new.out.items ++ frame c.in_ok-table.table.items = grind arith in
    let begins : c.len-postings.result ≡ length c.args.out.now.items =
    omega (arith, c.len-postings.ensures, c.args.out.now.ok.0) in
    let behind : c.len-offsets.result ≡ length c.put_sections.new.out.items =
    omega (arith, c.len-offsets.ensures, c.put_sections.new.out.ok.0) in
    let ends : c.put_contents.new.out.items
    ≡ c.put_frame.new.out.items ++ checked (contents_text (contents_of c.args.series
    (length c.args.out.now.items) (length c.put_sections.new.out.items))) =
    c.in_ok-put_contents.ensures
    ∙ (λ j. c.put_frame.new.out.items
    ++ checked (contents_text (contents_of c.args.series (begins j) (behind j)))) in
    postings_is c.args.out.now.items c.put_sections.new.out.items c.put_frame.new.out.items
    c.put_contents.new.out.items c.in_ok-table.table.items c.args.series
    (([], []) ∷ texts_of c.args.pairs.now) (c.args.all.now ∷ map (λ l. l.items) c.args.lists.now)
    c.in_ok-table.ensures.text c.in_ok-table.ensures.table framed ends
