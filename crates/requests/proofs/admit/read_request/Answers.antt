use Rattle.requests.proofs.AdmittedTexts.{answers_unruled}
use Rattle.requests.proofs.admit.read_request.Goals as goal

pub returns-clause-means : goal.returns-clause-means
returns-clause-means g c =
    answers_unruled c.none.result (g.R.Inlet.input c.args.reader.now) c.read_admitted_into.result
    c.none.ensures c.read_admitted_into.ensures.means
