-- What the parts of a body give the whole.
use Rattle.std.proofs.Common.{◌≡◌, ℕ, ℤ, List, Bool, true, false, Option, Some, None, Err, refl}
use Rattle.std.proofs.Common.{sym, IsUtf8, nat_eq}
use Rattle.std.specs.Prelude.{if◌then◌else◌}
use Rattle.std.specs.Str.{is_utf8}
use Rattle.std.proofs.lemmas.Str.{IsUtf8-from_is_utf8, is_utf8-from_IsUtf8}
use Rattle.serde_json.specs.Data.{Data, Members}
use Rattle.serde_json.specs.Events.{members_len}
use Rattle.serde_json.specs.Read.{read}
use Rattle.requests.specs.declared.refusal.Refusal.TheVariants.{BadHead, HeadTooLong, NoSuchPath}
use Rattle.requests.specs.declared.refusal.Refusal.TheVariants.{Method, BadQuery, BadSelector}
use Rattle.requests.specs.declared.refusal.Refusal.TheVariants.{BadBody, BodyTooLong}
use Rattle.requests.specs.declared.refusal.Refusal.TheVariants.{Refused as RefusedEvent}
use Rattle.requests.specs.declared.refusal.Refusal.TheVariants.{Unavailable, NotKept, Guarded}
use Rattle.requests.specs.declared.refusal.Refusal.TheVariants.{NoRoom}
use Rattle.requests.specs.declared.request.ReadError.{ReadError}
use Rattle.requests.specs.declared.request.ReadError.TheVariants.{Closed, Fault, Memory, Refused}
use Rattle.requests.specs.Json.{json_of, are_many}
use Rattle.requests.specs.Changes.{deletion_in, deletion_of, DeleteMeans}
use Rattle.requests.specs.Requests.{Told}
use Rattle.requests.specs.Selecting.{IsSelectorError}

pub json_when : (b : List ℕ) (d : Data) → IsUtf8 b → read b ≡ Some d → Some d ≡ json_of b
json_when b d u e = rw (is_utf8-from_IsUtf8 b u, e)

unless_at : (b : List ℕ) (t : Bool) → is_utf8 b ≡ t → (IsUtf8 b → read b ≡ None) → None
    ≡ (if t then read b else None)
unless_at b true e none = sym (none (IsUtf8-from_is_utf8 b e))
unless_at b false e none = refl

pub json_unless : (b : List ℕ) → (IsUtf8 b → read b ≡ None) → None ≡ json_of b
json_unless b none = unless_at b (is_utf8 b) refl none

pub many_when : (count n : ℕ) (o : Option Members) (ms : Members) → Some ms ≡ o → n ≡ members_len ms
    → nat_eq n count ≡ are_many count o
many_when count n o ms e same = rw (← e, same)

pub deletion_when : (body : List ℕ) (d : Data) (form : List ℕ × ℤ × ℤ) → Some d ≡ json_of body
    → Some form ≡ deletion_in d
    → deletion_of body ≡ Some form
deletion_when body d form e f = rw (← e, ← f)

pub refused_delete : (body : List ℕ) (form : List ℕ × ℤ × ℤ) → deletion_of body ≡ Some form
    → (e : ReadError) → IsSelectorError form.0 e → Told (DeleteMeans body) (Err e)
refused_delete body form is Closed p = absurd p
refused_delete body form is Fault p = absurd p
refused_delete body form is Memory p = tt
refused_delete body form is (Refused BadHead) p = absurd p
refused_delete body form is (Refused HeadTooLong) p = absurd p
refused_delete body form is (Refused NoSuchPath) p = absurd p
refused_delete body form is (Refused Method) p = absurd p
refused_delete body form is (Refused BadQuery) p = absurd p
refused_delete body form is (Refused (BadSelector error)) p = (form, is, p)
refused_delete body form is (Refused BadBody) p = absurd p
refused_delete body form is (Refused BodyTooLong) p = absurd p
refused_delete body form is (Refused (RefusedEvent cause)) p = absurd p
refused_delete body form is (Refused Unavailable) p = absurd p
refused_delete body form is (Refused NotKept) p = absurd p
refused_delete body form is (Refused Guarded) p = absurd p
refused_delete body form is (Refused NoRoom) p = absurd p
