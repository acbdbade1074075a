use Rattle.std.proofs.Common.{sym, ◌∙◌}
use Rattle.serde_json.proofs.Views.{members_len-members_view}
use Rattle.requests.proofs.JsonTexts.{many_when}
use Rattle.requests.proofs.values.has_members.Goals as goal

pub returns-in-Some : goal.returns-in-Some
returns-in-Some c = many_when _ _ _ _ c.in-Some.ensures (c.len.ensures.len
    ∙ sym (members_len-members_view _))
