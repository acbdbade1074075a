-- What a call answered, against what was said.
use Rattle.std.specs.Prelude.{◌≡◌, Option, Some, None, Result, Ok, Err}
use Rattle.reply_reader.specs.declared.reply.ReplyError.{ReplyError}
use Rattle.reply_reader.specs.declared.reply.ReplyError.TheVariants.{BadReply, Memory}

-- what was answered, seen by view, is what is said, and a bad reply says nothing; no memory says
-- nothing of it
abbrev pub ReadsAs : {X Y : Type 0} → (X → Y) → Result X ReplyError → Option Y → Type 0
ReadsAs view (Ok x) said = said ≡ Some (view x)
ReadsAs view (Err BadReply) said = said ≡ None
ReadsAs view (Err Memory) said = Unit {0}
