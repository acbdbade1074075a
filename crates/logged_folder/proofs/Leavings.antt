-- What a crash leaves of a log, entry by entry.
use Rattle.std.proofs.Common.{◌≡◌, ℕ, ◌+◌, Bool, true, false, List, [], ◌∷◌, ◌++◌, Some}
use Rattle.std.proofs.Common.{take, sym, ap, subst, ◌∙◌}
use Rattle.std.specs.Prelude.{if◌then◌else◌, slice_get, string_bytes}
use Rattle.std.specs.Str.{bytes_eq}
use Rattle.std.proofs.lemmas.List.{take_more}
use Rattle.std.proofs.lemmas.Option.{get_or_from_slice_get, slice_get_within}
use Rattle.data_folder.specs.Folders.{MayLeaveOf}
use Rattle.logged_folder.specs.declared.Entry.{Entry}
use Rattle.logged_folder.specs.Logged.{IsLeftOf, MayLeaveAll, State, bytes_of, files_of, nothing}
use Rattle.logged_folder.specs.Logged.{state_in, state_of}
use Rattle.logged_folder.proofs.Logs.{after_push}

either_left : (b : Bool) (e x : Entry) (s t : State)
    → MayLeaveOf e.synced (bytes_of e.bytes) (bytes_of x.bytes)
    → MayLeaveOf s.synced s.bytes t.bytes
    → MayLeaveOf (if b then state_in e else s).synced (if b then state_in e else s).bytes
    (if b then state_in x else t).bytes
either_left true e x s t own other = own
either_left false e x s t own other = other

pub left_further : (log new : List Entry) (at : ℕ) (e x : Entry) → slice_get log at ≡ Some e
    → IsLeftOf e x → MayLeaveAll (take at log) (files_of new)
    → MayLeaveAll (take (at + 1) log) (files_of (new ++ x ∷ []))
left_further log new at e x is left all name =
    let before : state_of name (take (at + 1) log)
    ≡ (if bytes_eq (string_bytes e.name) name then state_in e else state_of name (take at log)) =
    ap (λ (l : List Entry). state_of name l)
    (take_more log at e (slice_get_within log at e is)
    ∙ ap (λ (y : Entry). take at log ++ y ∷ []) (get_or_from_slice_get log at e e is))
    ∙ after_push name nothing (take at log) e in
    let after : state_of name (new ++ x ∷ [])
    ≡ (if bytes_eq (string_bytes e.name) name then state_in x else state_of name new) =
    after_push name nothing new x
    ∙ ap (λ (n : List ℕ). if bytes_eq n name then state_in x else state_of name new) left.named in
    subst (λ (s : State). MayLeaveOf s.synced s.bytes (state_of name (new ++ x ∷ [])).bytes)
    (sym before)
    (subst (λ (t : State). MayLeaveOf
    (if bytes_eq (string_bytes e.name) name then state_in e else state_of name (take at log)).synced
    (if bytes_eq (string_bytes e.name) name then state_in e else state_of name (take at log)).bytes
    t.bytes) (sym after)
    (either_left (bytes_eq (string_bytes e.name) name) e x (state_of name (take at log))
    (state_of name new) left.bytes (all name)))
