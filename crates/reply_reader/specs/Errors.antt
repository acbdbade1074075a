-- Why a text is not read as a reply, for people.
use Rattle.std.specs.Prelude.{ℕ, List, codes}
use Rattle.reply_reader.specs.declared.reply.ReplyError.{ReplyError}
use Rattle.reply_reader.specs.declared.reply.ReplyError.TheVariants as reply

-- why a text is not read as a reply, in a line
abbrev pub reply_error_text : ReplyError → List ℕ
reply_error_text reply.BadReply = codes "bad reply"
reply_error_text reply.Memory = codes "no memory"
