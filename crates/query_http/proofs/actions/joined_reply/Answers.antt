use Rattle.std.proofs.Common.{◌∙◌}
use Rattle.query_http.proofs.actions.joined_reply.Goals as goal

pub returns-clause-spelled : goal.returns-clause-spelled
returns-clause-spelled c = c.new.ensures.spelled ∙ c.in_ok-append_text.ensures
