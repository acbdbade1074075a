use Rattle.std.proofs.Common.{◌≡◌, ◌++◌, ◌∷◌, [], ◌∙◌, ℕ, List, refl, ap, codes, length, map, string_bytes, subst}
use Rattle.std.specs.Io.KnownBytes.{Appends}
use Rattle.std.proofs.lemmas.Result.{err_from_is_err_and}
use Rattle.audit_command.proofs.Endings.{keeps_itself}
use Rattle.kept_folder.specs.declared.reading.FoundJournal.{FoundJournal}
use Rattle.kept_walk.specs.Kept.{event_of}
use Rattle.kept_walk.specs.declared.journal_state.Change.{Change}
use Rattle.store_command.specs.Marks.{mark_at, mark_text}
use Rattle.store_command.specs.Running.{by_writing, mark_line}
use Rattle.store_command.specs.declared.mark.Mark.{Mark}
use Rattle.store_command.proofs.OverStore.{counted}
use Rattle.store_command.proofs.program.write_mark.Goals as goal

-- the line with the text of the mark is the line of the mark
line_of_mark : (found : FoundJournal) (changes : List Change) (mark : Mark) (text : List ℕ)
    → map event_of changes ≡ found.kept.events → mark ≡ mark_at found.head (length changes)
    → text ≡ mark_text mark → codes "mark " ++ (text ++ 10 ∷ []) ≡ mark_line found
line_of_mark found changes mark text events marked told =
    ap (λ (l : List ℕ). codes "mark " ++ (l ++ 10 ∷ []))
    (told
    ∙ ap mark_text
    (marked ∙ ap (mark_at found.head) (counted changes found.kept.events (length changes) events refl)))

pub returns-in_err-mark : goal.returns-in_err-mark
returns-in_err-mark g c =
    let p = err_from_is_err_and c.from_residual-in_err-mark.result c.from_residual-in_err-mark.ensures.1 in
    rw (p.1, p.2)
    (by_writing c.in_ok-found.found c.in_ok-found.ensures.ok tt, keeps_itself (g.W.Write.contents c.args.out.now))

pub returns-in_err-line : goal.returns-in_err-line
returns-in_err-line g c =
    let p = err_from_is_err_and c.from_residual-in_err-line.result c.from_residual-in_err-line.ensures.1 in
    rw (p.1, p.2)
    (by_writing c.in_ok-found.found c.in_ok-found.ensures.ok tt, keeps_itself (g.W.Write.contents c.args.out.now))

pub returns-in_err-send : goal.returns-in_err-send
returns-in_err-send g c =
    let p = err_from_is_err_and c.from_residual-in_err-send.result c.from_residual-in_err-send.ensures.1 in
    rw (p.1, p.2) (by_writing c.in_ok-found.found c.in_ok-found.ensures.ok tt, tt)

pub returns : goal.returns
returns g c =
    let line =
    line_of_mark c.in_ok-found.found c.changes.result.now c.at.result (string_bytes c.in_ok-mark.mark)
    c.changes.ensures c.at.ensures c.in_ok-mark.ensures in
    record {
      found = c.in_ok-found.found;
      is_found = c.in_ok-found.ensures.ok;
      written = subst (λ (bytes : List ℕ). Appends (g.W.Write.contents c.args.out.now) (g.W.Write.contents c.send.new.out) bytes)
          (c.as_bytes.ensures.value ∙ (c.in_ok-line.ensures.ok ∙ line)) c.in_ok-send.ensures;
    }
