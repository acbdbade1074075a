use Rattle.std.proofs.Common.{refl, arith, rules}
use Rattle.std.proofs.lemmas.Grind.{common_steps}
use Rattle.answer_pages.proofs.write.page_of.Goals as goal

pub write_shown-requires : goal.write_shown-requires
write_shown-requires c = record {
  selector = c.as_str.ensures.value;
  query = refl;
  told = c.requires;
  tables = refl;
  lines = refl;
  state = refl;
  values = refl;
  about = c.as_ref.ensures.value;
  length_is = first_of (search rules, omega arith, grind (arith, common_steps));
  digest_is = c.digest.ensures;
}
