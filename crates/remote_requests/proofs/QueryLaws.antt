-- What the steps of a read give the whole.
use Rattle.std.proofs.Common.{◌≡◌, ◌<◌, ℕ, List, length, true, Result, Ok, Err, refl, inl}
use Rattle.std.proofs.Common.{lt-ltb, sym, subst}
use Rattle.std.specs.Prelude.{nat_lt}
use Rattle.snappy.specs.Reading.{text_at}
use Rattle.wire.specs.Outcome.{Fails}
use Rattle.protobuf_fields.specs.Reading as fields
use Rattle.remote_read.specs.Format.{QueryValue}
use Rattle.remote_read.specs.Reading.{request_at}
use Rattle.remote_write.specs.Reading.{is_memory, or_error}
use Rattle.remote_write.specs.declared.error.ReadError as write_errors
use Rattle.remote_requests.specs.declared.asked.ReadError.{ReadError}
use Rattle.remote_requests.specs.declared.asked.ReadError.TheVariants.{Closed, Lost, Memory}
use Rattle.remote_requests.specs.declared.asked.ReadError.TheVariants.{Refused}
use Rattle.remote_requests.specs.declared.refusal.Refusal.TheVariants.{TooMany}
use Rattle.remote_requests.specs.Reading.{ReadMeans, body_queries, if_few_queries}
use Rattle.remote_requests.specs.Reading.{queries_in}
use Rattle.remote_requests.specs.Writing.{IsTold, Told, misspelled, packed, spelled}
use Rattle.remote_requests.proofs.CountTurns.{told_fault, told_past}

told_read : (body : List ℕ) (e : ReadError) → IsTold e (body_queries body)
    → Told (ReadMeans body) (Err e)
told_read body Closed p = p
told_read body Lost p = p
told_read body Memory p = tt
told_read body (Refused r) p = inl p

pub not_packed : (body : List ℕ) (e : ReadError) → IsTold e (packed (text_at 1048576 body))
    → Told (ReadMeans body) (Err e)
unfolding body_queries
not_packed body e p = told_read body e (told_past e (packed (text_at 1048576 body)) queries_in p)

past_text : (body text : List ℕ) (e : ReadError) → packed (text_at 1048576 body) ≡ Ok text
    → IsTold e (queries_in text) → IsTold e (body_queries body)
unfolding body_queries
past_text body text e read p = rw read p

queries_told : (text : List ℕ) (e : ReadError) → IsTold e (spelled (request_at text))
    → IsTold e (queries_in text)
unfolding queries_in
queries_told text e p = told_past e (spelled (request_at text)) if_few_queries p

pub not_spelled : (body text : List ℕ) (e : write_errors.ReadError)
    → packed (text_at 1048576 body) ≡ Ok text → Fails is_memory e (or_error (request_at text))
    → Told (ReadMeans body) (Err (misspelled e))
not_spelled body text e read p =
    told_read body (misspelled e) (past_text body text (misspelled e) read
    (queries_told text (misspelled e) (told_fault e (request_at text) p)))

too_many : (text : List ℕ) (all : List QueryValue) → request_at text ≡ Ok all
    → nat_lt 64 (length all) ≡ true → queries_in text ≡ Err TooMany
unfolding queries_in if_few_queries
too_many text all read many = rw (read, many) refl

pub too_many_queries : (body text : List ℕ) (all : List QueryValue)
    → packed (text_at 1048576 body) ≡ Ok text → request_at text ≡ Ok all → 64 < length all
    → Told (ReadMeans body) (Err (Refused TooMany))
too_many_queries body text all read queries many =
    told_read body (Refused TooMany) (past_text body text (Refused TooMany) read
    (too_many text all queries (lt-ltb 64 (length all) many)))

-- what was read without a fault
pub from_error : (text : List ℕ) (all : List QueryValue) → or_error (request_at text) ≡ Ok all
    → request_at text ≡ Ok all
from_error text all e = at (request_at text) e
  where
    at : (r : Result (List QueryValue) fields.Refusal) → or_error r ≡ Ok all → r ≡ Ok all
    at (Ok x) same = let here : x ≡ all = cc in rw here refl
    at (Err x) same = absurd (cc)

pub not_spelled_at : (body text t : List ℕ) (e : write_errors.ReadError) (told : ReadError)
    → t ≡ text → told ≡ misspelled e → packed (text_at 1048576 body) ≡ Ok text
    → Fails is_memory e (or_error (request_at t)) → Told (ReadMeans body) (Err told)
not_spelled_at body text t e told same is read p =
    subst (λ (x : ReadError). Told (ReadMeans body) (Err x)) (sym is)
    (not_spelled body text e read
    (subst (λ (u : List ℕ). Fails is_memory e (or_error (request_at u))) same p))

pub too_many_at : (body text t : List ℕ) (all : List QueryValue) → t ≡ text
    → packed (text_at 1048576 body) ≡ Ok text → or_error (request_at t) ≡ Ok all
    → 64 < length all → Told (ReadMeans body) (Err (Refused TooMany))
too_many_at body text t all same read queries many =
    too_many_queries body text all read (from_error text all
    (subst (λ (u : List ℕ). or_error (request_at u) ≡ Ok all) same queries)) many
