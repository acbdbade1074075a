-- What a judgement says of a request that is admitted.
use Rattle.std.proofs.Common.{◌≡◌, true, false, refl, Result, Ok, Err, OnOk, sym, subst}
use Rattle.std.specs.Prelude.{Bool, ◌&&◌, not, is_some, if◌then◌else◌}
use Rattle.guard.specs.Hosts.{Claimed, is_local}
use Rattle.guard.specs.Judging.{has_token, judgement, IsAdmitted}
use Rattle.guard.specs.declared.rules.Denial.{Denial}
use Rattle.guard.specs.declared.rules.Denial.TheVariants.{ReadOnly, Guarded}
use Rattle.guard.specs.declared.rules.Rules.{Rules}

abbrev Admits : Bool → Bool → Bool → Bool → Bool → Type 0
Admits guarded own reading changes borne =
    (guarded ≡ true → own ≡ true) × (changes ≡ true → reading ≡ false) × (changes ≡ true → borne ≡ true)

abbrev judged : Bool → Bool → Bool → Bool → Bool → Result (Unit {0}) Denial
judged guarded own reading changes borne =
    if guarded && not own then Err Guarded
    else if reading && changes then Err ReadOnly
    else if changes && not borne then Err Guarded
    else Ok tt

abbrev changed : Bool → Bool → Bool → Result (Unit {0}) Denial
changed reading changes borne =
    if reading && changes then Err ReadOnly else if changes && not borne then Err Guarded else Ok tt

posted : (guarded own reading borne : Bool) → (guarded ≡ true → own ≡ true)
    → OnOk (changed reading true borne) (Admits guarded own reading true borne)
posted guarded own true borne h = tt
posted guarded own false false h = tt
posted guarded own false true h = (h, λ e. refl, λ e. refl)

asked : (guarded own reading changes borne : Bool) → (guarded ≡ true → own ≡ true)
    → OnOk (changed reading changes borne) (Admits guarded own reading changes borne)
asked guarded own reading true borne h = posted guarded own reading borne h
asked guarded own true false borne h = (h, λ e. cc, λ e. cc)
asked guarded own false false borne h = (h, λ e. cc, λ e. cc)

all : (guarded own reading changes borne : Bool)
    → OnOk (judged guarded own reading changes borne) (Admits guarded own reading changes borne)
all false own reading changes borne = asked false own reading changes borne (λ e. cc)
all true false reading changes borne = tt
all true true reading changes borne = asked true true reading changes borne (λ e. refl)

kept : (r : Result (Unit {0}) Denial) (rules : Rules) (claims : Claimed)
    → OnOk r (Admits (is_some rules.token) (is_local claims) rules.read_only claims.changes
    (has_token rules.token claims.authorization))
    → OnOk r (IsAdmitted rules claims)
kept (Ok u) rules claims h = record { own = h.0; can_change = h.1; bears_it = h.2 }
kept (Err e) rules claims h = tt

-- a request that is admitted
pub admits : (rules : Rules) (claims : Claimed) (r : Result (Unit {0}) Denial)
    → r ≡ judgement rules claims → OnOk r (IsAdmitted rules claims)
admits rules claims r is = kept r rules claims
    (subst (λ (s : Result (Unit {0}) Denial). OnOk s (Admits (is_some rules.token)
    (is_local claims) rules.read_only claims.changes (has_token rules.token claims.authorization)))
    (sym is) (all (is_some rules.token) (is_local claims) rules.read_only claims.changes
    (has_token rules.token claims.authorization)))
