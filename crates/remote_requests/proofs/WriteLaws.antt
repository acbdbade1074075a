-- What the steps of a write give the whole.
use Rattle.std.proofs.Common.{◌≡◌, ◌≤◌, ℕ, ℤ, List, length, map, true, Ok, Err, subst}
use Rattle.snappy.specs.Format.{IsStream}
use Rattle.snappy.specs.Reading.{text_at}
use Rattle.remote_write.specs.Format.{SeriesValue, IsRequest}
use Rattle.remote_write.specs.Reading.{request_at, series_seen}
use Rattle.remote_write.specs.declared.series.Series.{Series}
use Rattle.remote_requests.specs.declared.asked.Asked.TheVariants.{Write}
use Rattle.remote_requests.specs.declared.asked.ReadError.{ReadError}
use Rattle.remote_requests.specs.declared.asked.ReadError.TheVariants.{Closed, Lost, Memory}
use Rattle.remote_requests.specs.declared.asked.ReadError.TheVariants.{Refused}
use Rattle.remote_requests.specs.declared.asked.Received.{Received}
use Rattle.remote_requests.specs.Series.{are_few, points_in}
use Rattle.remote_requests.specs.Writing.{IsTold, Told, WriteMeans, IsReceived, body_series}
use Rattle.remote_requests.specs.Writing.{packed, points_at, series_in}
use Rattle.remote_requests.proofs.CountTurns.{points_back, series_told, told_past}

told_write : (now : ℤ) (body : List ℕ) (e : ReadError) → IsTold e (body_series body)
    → Told (WriteMeans now body) (Err e)
told_write now body Closed p = p
told_write now body Lost p = p
told_write now body Memory p = tt
told_write now body (Refused r) p = p

pub not_packed : (now : ℤ) (body : List ℕ) (e : ReadError)
    → IsTold e (packed (text_at 16777216 body)) → Told (WriteMeans now body) (Err e)
unfolding body_series
not_packed now body e p =
    told_write now body e (told_past e (packed (text_at 16777216 body)) series_in p)

past_text : (body text : List ℕ) (e : ReadError) → packed (text_at 16777216 body) ≡ Ok text
    → IsTold e (series_in text) → IsTold e (body_series body)
unfolding body_series
past_text body text e read p = rw read p

pub not_spelled : (now : ℤ) (body text : List ℕ) (e : ReadError)
    → packed (text_at 16777216 body) ≡ Ok text → IsTold e (points_at text)
    → Told (WriteMeans now body) (Err e)
not_spelled now body text e read p =
    told_write now body e (past_text body text e read (series_told text e p))

pub written : (now : ℤ) (body text : List ℕ) (all : List SeriesValue) (of : ℕ)
    (received : Received) → IsStream body text → length text ≤ 16777216 → IsRequest text all
    → request_at text ≡ Ok all → points_at text ≡ Ok of → IsReceived now all received
    → WriteMeans now body (Ok (Write received))
written now body text all of received stream short request read points is =
    let back = points_back text all of read points in (
      all,
      record { text = text; stream = stream; short = short; request = request; few = back.0 },
      is,
    )

pub points_both : (a b text : List ℕ) (all : List SeriesValue) (of : ℕ) → a ≡ text → b ≡ text
    → request_at a ≡ Ok all → points_at b ≡ Ok of → (are_few all ≡ true) × (of ≡ points_in all)
points_both a b text all of same other read points =
    points_back text all of
    (subst (λ (t : List ℕ). request_at t ≡ Ok all) same read)
    (subst (λ (t : List ℕ). points_at t ≡ Ok of) other points)

pub written_all : (a now : ℤ) (body text t1 t2 : List ℕ) (xs ys : List Series) (of : ℕ)
    (received : Received) → a ≡ now → t1 ≡ text → t2 ≡ text → xs ≡ ys
    → IsStream body text × (length text ≤ 16777216)
    → IsRequest t2 (map series_seen ys) × (request_at t2 ≡ Ok (map series_seen ys))
    → points_at t1 ≡ Ok of → IsReceived a (map series_seen xs) received
    → WriteMeans now body (Ok (Write received))
written_all a now body text t1 t2 xs ys of received same first second all stream request points is =
    let here = subst (λ (z : ℤ). IsReceived z (map series_seen xs) received) same is in
    let got = subst (λ (l : List Series). IsReceived now (map series_seen l) received) all here in
    written now body text (map series_seen ys) of received stream.0 stream.1
    (subst (λ (t : List ℕ). IsRequest t (map series_seen ys)) second request.0)
    (subst (λ (t : List ℕ). request_at t ≡ Ok (map series_seen ys)) second request.1)
    (subst (λ (t : List ℕ). points_at t ≡ Ok of) first points) got

pub not_spelled_at : (now : ℤ) (body text t : List ℕ) (e : ReadError) → t ≡ text
    → packed (text_at 16777216 body) ≡ Ok text → IsTold e (points_at t)
    → Told (WriteMeans now body) (Err e)
not_spelled_at now body text t e same read p =
    not_spelled now body text e read (subst (λ (u : List ℕ). IsTold e (points_at u)) same p)
