use Rattle.std.proofs.Common.{refl, ap, ◌∙◌, arith, rules}
use Rattle.std.proofs.lemmas.Grind.{common_steps}
use Rattle.sha2.specs.Sha256.{sha256}
use Rattle.explain.proofs.answer.page_of.Goals as goal

pub write_found-requires : goal.write_found-requires
write_found-requires c = record {
  selector = refl;
  query = refl;
  told = refl;
  tables = c.as_slice.ensures.value;
  lines = c.as_slice-2.ensures.value;
  state = rw c.as_ref.ensures.value c.said_in-said.ensures;
  values = refl;
  about = c.as_ref-2.ensures.value;
  length_is = first_of (search rules, omega arith, grind (arith, common_steps));
  digest_is = c.digest.ensures ∙ ap sha256 c.as_slice-3.ensures.value;
}
