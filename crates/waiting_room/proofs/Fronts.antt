-- What a front of some bytes shows, the bytes show.
use Rattle.std.proofs.Common.{◌≡◌, ◌+◌, ◌-◌, ℕ, List, [], ◌++◌, length, take, Result, Ok, Err}
use Rattle.std.proofs.Common.{sym, ap, ◌∙◌, subst, arith, inl, inr, append_assoc, append-nil}
use Rattle.std.specs.Prelude.{⊤}
use Rattle.std.proofs.Math.Seq.{take-append_seam, take-append-add}
use Rattle.httparse.specs.Grammar.{RequestHead, ReadsRequest, HasNoRequest, print_request}
use Rattle.httparse.proofs.GrammarLemmas.{ReadsRequest-append, request_unique}
use Rattle.waiting_room.specs.declared.frame.LengthFault.{LengthFault}
use Rattle.waiting_room.specs.declared.reading.End.{End}
use Rattle.waiting_room.specs.declared.reading.End.TheVariants.{Whole, Astray, Closed, CutShort}
use Rattle.waiting_room.specs.declared.reading.End.TheVariants.{Silent, Late, Failed}
use Rattle.waiting_room.specs.Fields.{fields_of, length_asked}
use Rattle.waiting_room.specs.Framing.{Framing, Request, BadHead, LongHead, NoLength}
use Rattle.waiting_room.specs.Framing.{HasHead, IsFrontOf, IsFramed, IsRequest, IsAstray}
use Rattle.waiting_room.specs.Coming.{Comes, IsSettled}

front_kept : (front bytes more : List ℕ) → IsFrontOf front bytes → IsFrontOf front (bytes ++ more)
front_kept front bytes more (rest, same) =
    (rest ++ more, ap (λ l. l ++ more) same ∙ append_assoc front rest more)

head_kept : (bytes more : List ℕ) (h : RequestHead) (rest : List ℕ) → HasHead bytes h rest
    → HasHead (bytes ++ more) h (rest ++ more)
head_kept bytes more h rest head = record {
  reads = ReadsRequest-append bytes h rest more head.reads;
  few = head.few;
  short = head.short;
}

pub framing_kept : (most : ℕ) (bytes more : List ℕ) (f : Framing) → IsFramed most bytes f
    → IsFramed most (bytes ++ more) f
framing_kept most bytes more (Request h body) (rest, head, told) = (
  rest ++ more,
  subst (HasHead (bytes ++ more) h) (append_assoc body rest more)
      (head_kept bytes more h (body ++ rest) head),
  told,
)
framing_kept most bytes more BadHead (front, is, fits, over) =
    (front, front_kept front bytes more is, fits, over)
framing_kept most bytes more LongHead (front, is, long, none, may) =
    (front, front_kept front bytes more is, long, none, may)
framing_kept most bytes more (NoLength h fault) (rest, head, told) =
    (rest ++ more, head_kept bytes more h rest head, told)

-- a whole request as what its bytes show
pub framing_of : (most : ℕ) (bytes : List ℕ) (p : IsRequest most bytes)
    → IsFramed most bytes (Request p.h p.body)
framing_of most bytes p =
    ([], subst (HasHead bytes p.h) (sym (append-nil p.body)) p.head, p.length_is)

shown : (most : ℕ) (bytes : List ℕ) → IsAstray most bytes → (f : Framing) × IsFramed most bytes f
shown most bytes (inl bad) = (BadHead, bad)
shown most bytes (inr (inl long)) = (LongHead, long)
shown most bytes (inr (inr (h, fault, is))) = (NoLength h fault, is)

pub settled : (most : ℕ) (bytes : List ℕ) (end : End) → IsSettled end → Comes most bytes end
    → (f : Framing) × IsFramed most bytes f
settled most bytes Whole is p = (Request p.h p.body, framing_of most bytes p)
settled most bytes Astray is p = shown most bytes p
settled most bytes Closed is p = absurd is
settled most bytes CutShort is p = absurd is
settled most bytes Silent is p = absurd is
settled most bytes Late is p = absurd is
settled most bytes Failed is p = absurd is

abbrev length_in_result : Result ℕ LengthFault → ℕ
length_in_result (Ok n) = n
length_in_result (Err e) = 0

abbrev is_length : Result ℕ LengthFault → Type 0
is_length (Ok n) = ⊤
is_length (Err e) = ⊥

-- two bodies of one length at one front
same_body : (a b x y : List ℕ) → a ++ x ≡ b ++ y → length a ≡ length b → a ≡ b
same_body a b x y same count =
    sym (take-append_seam a x) ∙ ap (take (length a)) same ∙ ap (λ n. take n (b ++ y)) count
    ∙ take-append_seam b y

-- a head that ends within a front is in it
head_within : (bytes front : List ℕ) (h : RequestHead) (rest : List ℕ) → HasHead bytes h rest
    → IsFrontOf front bytes → length front ≡ 8192 → HasNoRequest front → ⊥
head_within bytes front h rest head (more, same) long none =
    let n = length front - length (print_request h) in
    let short = head.short in
    let count : length front ≡ length (print_request h) + n = omega (arith, short, long) in
    let spelled : front ≡ print_request h ++ take n rest =
    sym (take-append_seam front more) ∙ ap (take (length front)) (sym same ∙ head.reads.1)
    ∙ ap (λ k. take k (print_request h ++ rest)) count ∙ take-append-add (print_request h) rest n in
    none h (take n rest) (head.reads.0, spelled)

pub only_framing : (most : ℕ) (bytes : List ℕ) (f : Framing) (h : RequestHead) (body : List ℕ)
    → IsFramed most bytes (Request h body) → IsFramed most bytes f → f ≡ Request h body
only_framing most bytes (Request k other) h body (x, head, told) (y, head2, told2) =
    let one = request_unique bytes k h (other ++ y) (body ++ x) head2.reads head.reads in
    let count : length other ≡ length body = ap length_in_result
    (sym told2 ∙ ap (λ j. length_asked most (fields_of j)) one.0 ∙ told) in
    ap (λ j. Request j other) one.0 ∙ ap (Request h) (same_body other body y x one.1 count)
only_framing most bytes BadHead h body (x, head, told) (front, (rest, same), fits, over) =
    let many = over rest h (body ++ x) (subst (λ l. ReadsRequest l h (body ++ x)) same head.reads) in
    let few = head.few in
    absurd (omega (arith, many, few))
only_framing most bytes LongHead h body (x, head, told) (front, is, long, none, may) =
    absurd (head_within bytes front h (body ++ x) head is long none)
only_framing most bytes (NoLength k fault) h body (x, head, told) (y, head2, told2) =
    let one = request_unique bytes h k (body ++ x) y head.reads head2.reads in
    absurd (subst is_length (sym told ∙ ap (λ j. length_asked most (fields_of j)) one.0 ∙ told2) tt)

pub only_request : (most : ℕ) (a b x y : List ℕ) → IsRequest most a → IsRequest most b
    → a ++ x ≡ b ++ y → a ≡ b
only_request most a b x y p q same =
    let left = ReadsRequest-append a p.h p.body x p.head.reads in
    let right : ReadsRequest (a ++ x) q.h (q.body ++ y) =
    subst (λ l. ReadsRequest l q.h (q.body ++ y)) (sym same)
    (ReadsRequest-append b q.h q.body y q.head.reads) in
    let one = request_unique (a ++ x) p.h q.h (p.body ++ x) (q.body ++ y) left right in
    let count : length p.body ≡ length q.body = ap length_in_result
    (sym p.length_is ∙ ap (λ h. length_asked most (fields_of h)) one.0 ∙ q.length_is) in
    let body : p.body ≡ q.body = same_body p.body q.body x y one.1 count in
    p.head.reads.1 ∙ ap (λ h. print_request h ++ p.body) one.0
    ∙ ap (λ l. print_request q.h ++ l) body ∙ sym q.head.reads.1
