-- What is told of the samples that were left out, by the request and by the store.
use Rattle.std.specs.Prelude.{ℕ, ◌+◌, ◌==◌, List, [], ◌∷◌, fold, codes, Option, None, Some}
use Rattle.std.specs.Prelude.{if◌then◌else◌}
use Rattle.serde_json.specs.Data.{Data, object, string, number, unsigned, Members, no_members}
use Rattle.serde_json.specs.Data.{member, put}
use Rattle.serde_json.specs.Written.{compact_text}
use Rattle.head.specs.declared.left.Left.{Left as StoreLeft}
use Rattle.head.specs.declared.left.Reason.{Reason}
use Rattle.head.specs.declared.left.Reason.TheVariants as reasons
use Rattle.head.specs.Telling.{reason_code, told_of}
use Rattle.remote_requests.specs.declared.asked.Received.{Received}
use Rattle.remote_requests.specs.declared.left.Left.{Left}
use Rattle.remote_requests.specs.declared.left.LeftOut.{LeftOut}
use Rattle.remote_requests.specs.declared.left.LeftOut.TheVariants as before
use Rattle.remote_requests.specs.declared.status.Status.{Status}
use Rattle.remote_requests.specs.declared.status.Status.TheVariants.{Done, BadRequest}
use Rattle.remote_requests.specs.Left.{counted, left_code, place_of}
use Rattle.remote_http.specs.Text.{json_text, done_data}

abbrev pub first_of : Option Reason → Option Reason → Option Reason
first_of None later = later
first_of (Some why) later = Some why

-- what one part and a later one left out
abbrev pub then_left : StoreLeft → StoreLeft → StoreLeft
then_left a b = record {
  out_of_bounds = a.out_of_bounds + b.out_of_bounds;
  out_of_order = a.out_of_order + b.out_of_order;
  duplicate = a.duplicate + b.duplicate;
  limit = a.limit + b.limit;
  first = first_of a.first b.first;
}

-- what parts left out, one after another
abbrev pub all_left : List StoreLeft → StoreLeft
all_left lefts = fold then_left (told_of []) lefts

-- why the first was left out: the first that the request shows by itself, else the first that the
-- store tells; none if nothing was left out
abbrev pub cause_by : Option LeftOut → Option Reason → Option (List ℕ)
cause_by (Some why) later = Some (left_code why)
cause_by None (Some why) = Some (reason_code why)
cause_by None None = None

-- how many the request left out for a reason, by its code
abbrev pub left_one : Left → LeftOut → List ℕ × ℕ
left_one left why = (left_code why, counted left (place_of why))

-- how many the store did
abbrev pub store_one : Reason → ℕ → List ℕ × ℕ
store_one why n = (reason_code why, n)

-- how many were left out for each code, in the order of the codes: `A2`, `E1` to `E4`, `L1` to
-- `L5`, `N2`, `N3` and `N4`
abbrev pub counts_of : Left → StoreLeft → List (List ℕ × ℕ)
counts_of left store =
    left_one left before.NoTime ∷ store_one reasons.OutOfBounds store.out_of_bounds
    ∷ store_one reasons.OutOfOrder store.out_of_order
    ∷ store_one reasons.Duplicate store.duplicate ∷ store_one reasons.Limit store.limit
    ∷ left_one left before.BadName ∷ left_one left before.Repeated ∷ left_one left before.TooMany
    ∷ left_one left before.BadText ∷ left_one left before.TooLong
    ∷ left_one left before.BadMetric ∷ left_one left before.Histogram
    ∷ left_one left before.TooFarAhead ∷ []

-- a member for each count that is not 0
abbrev pub with_count : Members → List ℕ × ℕ → Members
with_count members pair =
    if pair.1 == 0 then members else put pair.0 (number (unsigned pair.1)) members

abbrev pub count_members : List (List ℕ × ℕ) → Members
count_members counts = fold with_count no_members counts

-- what is said where something was left out, of so many samples and histograms
abbrev pub left_data : List ℕ → List (List ℕ × ℕ) → ℕ → Data
left_data cause counts total =
    object (member (codes "cause") (string cause)
    (member (codes "left") (object (count_members counts))
    (member (codes "of") (number (unsigned total))
    (member (codes "refused") (string (codes "G5")) no_members))))

abbrev pub status_by : Option (List ℕ) → Status
status_by None = Done
status_by (Some cause) = BadRequest

abbrev pub text_by : Option (List ℕ) → List (List ℕ × ℕ) → ℕ → List ℕ
text_by None counts total = json_text Done (compact_text done_data)
text_by (Some cause) counts total =
    json_text BadRequest (compact_text (left_data cause counts total))

-- the status of the reply to a write of which the store left this out: 200 exactly if nothing was
-- left out, by the request or by the store
abbrev pub kept_status : Received → StoreLeft → Status
kept_status received store = status_by (cause_by received.left.first store.first)

-- and its text
abbrev pub kept_text : Received → StoreLeft → List ℕ
kept_text received store =
    text_by (cause_by received.left.first store.first) (counts_of received.left store) received.of
