-- A reply as it is made: its head, and its body.
use Rattle.std.specs.Prelude.{ℕ, List, ◌++◌}
use Rattle.remote_http.specs.declared.reply.Reply.{Reply}

-- the whole text of a reply
abbrev pub text_of : Reply → List ℕ
text_of reply = reply.head.items ++ reply.body.items
