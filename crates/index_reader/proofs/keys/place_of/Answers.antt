use Rattle.std.proofs.Common.{ap, sym, subst, ◌∙◌}
use Rattle.std.specs.Ordering.{is_eq}
use Rattle.std.proofs.lemmas.List.{map-id}
use Rattle.index_reader.specs.Layout.{Label}
use Rattle.index_reader.specs.Lookups.{key_cmp, index_of}
use Rattle.index_reader.proofs.Searching.{Strict, keys_total, strict_from_rises, search_is}
use Rattle.index_reader.proofs.keys.place_of.Goals as goal

pub returns-clause-exact : goal.returns-clause-exact
returns-clause-exact c =
    let keys = c.args.keys.now.pairs.items in
    let same = map-id c.deref.result.now ∙ c.deref.ensures.value in
    let strict = strict_from_rises key_cmp keys_total keys c.args.keys.now.rising in
    c.ok.ensures.value
    ∙ search_is (λ (k : Label). k) key_cmp keys_total c.args.key c.deref.result.now
    c.binary_search.result (subst (Strict key_cmp) (sym same) strict)
    c.binary_search.ensures.bound c.binary_search.ensures.position
    ∙ ap (index_of (λ a. is_eq (key_cmp a c.args.key))) same
