use Rattle.std.proofs.Common.{List, ℕ, ◌-◌, sym, subst, arith}
use Rattle.journal.specs.Records.{Recovers, whole_in}
use Rattle.journal.proofs.Scans.{by_found, by_len, by_only, by_checksum, by_length, by_damaged}
use Rattle.journal.proofs.Scans.{by_bad, by_magic, by_version, by_kept, by_reading}
use Rattle.journal.proofs.Files.{cut_recovers}
use Rattle.journal.proofs.recovery.recover.Goals as goal

pub returns-clause-found : goal.returns-clause-found
returns-clause-found c = by_found c.args.file.now c.scan.result (λ i. omega (arith, c.type_inv.file i)) c.scan.ensures

pub returns-clause-len : goal.returns-clause-len
returns-clause-len c = by_len c.args.file.now c.scan.result c.scan.ensures

pub returns-clause-only : goal.returns-clause-only
returns-clause-only c contents h =
    by_only c.args.file.now c.scan.result contents (λ i. omega (arith, c.type_inv.file i)) c.scan.ensures h

pub returns-clause-crash : goal.returns-clause-crash
returns-clause-crash c contents n each le cut =
    by_only c.args.file.now c.scan.result _ (λ i. omega (arith, c.type_inv.file i)) c.scan.ensures
    (subst (λ (f : List ℕ). Recovers f (whole_in (n - 5) contents)) (sym cut) (cut_recovers n contents each le))

pub returns-clause-kept : goal.returns-clause-kept
returns-clause-kept c contents tail each whole =
    by_kept c.args.file.now c.scan.result contents tail c.scan.ensures each whole

pub returns-clause-checksum : goal.returns-clause-checksum
returns-clause-checksum c at e =
    by_checksum c.args.file.now c.scan.result at (λ i. omega (arith, c.type_inv.file i)) c.scan.ensures e

pub returns-clause-damaged : goal.returns-clause-damaged
returns-clause-damaged c contents h =
    by_damaged c.args.file.now c.scan.result contents (λ i. omega (arith, c.type_inv.file i)) c.scan.ensures h

pub returns-clause-length : goal.returns-clause-length
returns-clause-length c at e =
    by_length c.args.file.now c.scan.result at (λ i. omega (arith, c.type_inv.file i)) c.scan.ensures e

pub returns-clause-bad_length : goal.returns-clause-bad_length
returns-clause-bad_length c contents h =
    by_bad c.args.file.now c.scan.result contents (λ i. omega (arith, c.type_inv.file i)) c.scan.ensures h

pub returns-clause-magic : goal.returns-clause-magic
returns-clause-magic c = by_magic c.args.file.now c.scan.result (λ i. omega (arith, c.type_inv.file i)) c.scan.ensures

pub returns-clause-version : goal.returns-clause-version
returns-clause-version c =
    by_version c.args.file.now c.scan.result (λ i. omega (arith, c.type_inv.file i)) c.scan.ensures

pub returns-clause-reading : goal.returns-clause-reading
returns-clause-reading c = by_reading c.args.file.now c.scan.result c.scan.ensures
