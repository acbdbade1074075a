-- Why a store is not served.
use Rattle.std.proofs.Common.{◌≡◌, ℕ, List, map, refl, sym, subst, Option, None, Some, Result, Ok}
use Rattle.std.proofs.Common.{Err, IfErr, OnOk, min, arith}
use Rattle.std.specs.Borrow.{Bor}
use Rattle.std.specs.List.{All}
use Rattle.std.proofs.lemmas.List.Elements.{All-map}
use Rattle.snapshots.specs.Seats.{IsRoom}
use Rattle.snapshots.specs.declared.error.OpenError.{OpenError}
use Rattle.snapshots.specs.declared.error.OpenError.TheVariants as store
use Rattle.server.specs.declared.error.ServeError.{ServeError}
use Rattle.server.specs.declared.error.ServeError.TheVariants as late
use Rattle.server.specs.Shifts.{EachServed, served_in}
use Rattle.server.specs.declared.worker.Shift.{Shift}
use Rattle.commands.specs.Faults.{open_fault, serve_fault}
use Rattle.guard.specs.declared.rules.Rules.{Rules}
use Rattle.commands.specs.Guarding.{AreRulesOf}
use Rattle.commands.specs.Reading.{Host}
use Rattle.commands.specs.ServingRuns.{IsStoreFault, IsLateFault, IsDirectoriesFault, IsFaultOf}
use Rattle.commands.specs.ServingRuns.{IsFolderRunFault, IsListening, IsServeFault, IsServing}
use Rattle.commands.specs.ServingRuns.{TellsOf, TellsPort, by_store, passes_of, seats_of}
use Rattle.commands.specs.declared.command.Serving.{Serving}
use Rattle.commands.specs.declared.fault.Fault.{Fault}
use Rattle.commands.specs.declared.fault.Fault.TheVariants.{CannotListen}

-- for as many passes and seats as there is room for, as many are counted as there are to be
pub room_counted : (passes seats p s : ℕ) → passes ≡ min p 18446744073709551615
    → seats ≡ min s 18446744073709551615 → IsRoom p s → IsRoom passes seats
room_counted passes seats p s is_p is_s room = (
  omega (arith, is_p, is_s, room.0),
  omega (arith, is_p, is_s, room.1),
  omega (arith, is_p, is_s, room.2),
  omega (arith, is_p, is_s, room.3),
)

-- of seats for which there is room, none was left out when they were counted
pub seats_counted : (passes seats opened s : ℕ) → seats ≡ min s 18446744073709551615
    → opened ≡ seats → IsRoom passes seats → opened ≡ s
seats_counted passes seats opened s is same room = omega (arith, is, same, room.3)

-- a store that is not opened
pub not_opened : (serving : Serving) (e : OpenError)
    → (e ≡ store.BadPasses → ¬ IsRoom (passes_of serving) (seats_of serving))
    → (e ≡ store.Limit → ⊥)
    → IsStoreFault serving (open_fault e)
not_opened serving store.BadPasses few many = few refl
not_opened serving store.Limit few many = absurd (many refl)
not_opened serving store.Unavailable few many = tt
not_opened serving store.Memory few many = tt

-- a port that is not listened on
pub not_listened : (serving : Serving) (fault : Fault) → fault ≡ CannotListen serving.port
    → IsStoreFault serving fault
not_listened serving fault e = subst (IsStoreFault serving) (sym e) refl

-- a server that ends too early
pub ended_early : (e : ServeError) → IsLateFault (serve_fault e)
ended_early late.NoListener = tt
ended_early late.NoThread = tt
ended_early late.Memory = tt

-- how many connections each worker served, of what each has done
pub all_counted : (shifts : List Shift) (counts : List ℕ) (n : ℕ)
    → counts ≡ map served_in shifts → EachServed n shifts → All (λ (m : ℕ). m ≡ n) counts
all_counted shifts counts n e each =
    subst (λ (ms : List ℕ). All (λ (m : ℕ). m ≡ n) ms) (sym e)
    (All-map (λ (m : ℕ). m ≡ n) served_in shifts each)

module _ {T : Type 0} (reads : Host) (directories : List (List ℕ)) (serving : Serving)
    (old new : Option (List ℕ)) where
  -- of the options that name a folder
  pub folder_told : (folder : Bor (List ℕ)) (result : Result T Fault)
      → serving.folder ≡ Some folder → (rules : Rules) → AreRulesOf reads serving rules
      → OnOk result (TellsPort old new) → OnOk result (IsServing reads serving directories old new)
  folder_told folder (Ok x) is rules ruled told =
      subst (λ (d : Option (Bor (List ℕ))). TellsOf d reads serving directories old new) (sym is)
      (record { rules = rules; ruled = ruled; told = told })
  folder_told folder (Err e) is rules ruled told = tt

  pub folder_fault : (folder : Bor (List ℕ)) (result : Result T Fault)
      → serving.folder ≡ Some folder
      → IfErr result (λ fault. IsFolderRunFault folder.now serving old new fault)
      → IfErr result (λ fault. IsServeFault reads directories serving old new fault)
  folder_fault folder (Ok x) is h = tt
  folder_fault folder (Err e) is h =
      by_store (subst (λ (d : Option (Bor (List ℕ))).
      IsFaultOf d reads directories serving old new e) (sym is) h)

  -- of options that name none
  pub directories_told : (result : Result T Fault) → serving.folder ≡ None
      → OnOk result (IsListening reads serving directories old new)
      → OnOk result (IsServing reads serving directories old new)
  directories_told (Ok x) is told =
      subst (λ (d : Option (Bor (List ℕ))). TellsOf d reads serving directories old new) (sym is)
      told
  directories_told (Err e) is told = tt

  pub directories_fault : (result : Result T Fault) → serving.folder ≡ None
      → IfErr result (λ fault. IsDirectoriesFault reads directories serving old new fault)
      → IfErr result (λ fault. IsServeFault reads directories serving old new fault)
  directories_fault (Ok x) is h = tt
  directories_fault (Err e) is h =
      by_store (subst (λ (d : Option (Bor (List ℕ))).
      IsFaultOf d reads directories serving old new e) (sym is) h)
