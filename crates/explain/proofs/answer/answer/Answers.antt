use Rattle.explain.proofs.answer.answer.Goals as goal

pub returns-clause-ok : goal.returns-clause-ok
returns-clause-ok g c = record {
  found = c.in_ok-found.found;
  has_read = c.in_ok-found.ensures.ok;
  page_of_found = c.in_ok-page_of.ensures;
}
