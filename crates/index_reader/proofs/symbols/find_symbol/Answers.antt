use Rattle.std.proofs.Common.{rules, string_bytes, sym, subst, ap, ◌∙◌}
use Rattle.std.specs.Ordering.{is_eq}
use Rattle.std.proofs.lemmas.Cmp.{nat_list_cmp_total}
use Rattle.std.proofs.lemmas.Fn.{always_returns_same}
use Rattle.labels.specs.Labels.{text_cmp}
use Rattle.index_reader.specs.Lookups.{index_of}
use Rattle.index_reader.specs.Seen.{strings_of}
use Rattle.index_reader.proofs.Searching.{Strict, strict_from_rises, ascending_is, search_is}
use Rattle.index_reader.proofs.symbols.find_symbol.Goals as goal

pub returns-clause-exact : goal.returns-clause-exact
returns-clause-exact c =
    let same = ap (λ texts. strings_of texts) c.deref.ensures.value in
    let texts = c.args.symbols.now.texts.items in
    let strict =
    strict_from_rises text_cmp nat_list_cmp_total (strings_of texts)
    (sym (ascending_is (strings_of texts)) ∙ c.args.symbols.now.order) in
    c.ok.ensures.value
    ∙ search_is (λ s. string_bytes s) text_cmp nat_list_cmp_total c.args.text.now
    c.deref.result.now c.binary_search_by.result (subst (Strict text_cmp) (sym same) strict)
    c.binary_search_by.ensures.bound
    (c.binary_search_by.ensures.position (λ s. text_cmp (string_bytes s) c.args.text.now)
    (always_returns_same _ _ _ (λ a r f' k. search rules)))
    ∙ ap (index_of (λ s. is_eq (text_cmp s c.args.text.now))) same
