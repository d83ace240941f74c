-- Views one after another, and what is due where memory may be refused too.
use Rattle.std.proofs.Common.{◌≡◌, ◌⊎◌, Bool, true, false, Result, Err, IsTrue, inl, inr, ◌∙◌, arith}
use Rattle.std.specs.Prelude.{⊤, MatchBool}
use Rattle.sqlite_disk.specs.Disk.{MoreFaults}
use Rattle.sqlite.proofs.StateLemmas.{survives_then}
use Rattle.up_canon.specs.declared.refusal.Refusal.{Refusal}
use Rattle.up_canon.specs.Refusals.{is_memory}
use Rattle.up_sign.specs.Schemes.{Rules}
use Rattle.up_machine.specs.Deciding.{Outcome}
use Rattle.up_records.specs.Reads.{DiskFailed, Reads}
use Rattle.up_records.specs.Standing.{HasCleanDisk, Standing}

-- ---- reads

pub clean_before : {k : Rules} {old new : Standing} → Reads k old new → HasCleanDisk new → HasCleanDisk old
clean_before {k} {old} {new} reads now = let before : HasCleanDisk old = omega (arith, reads.survives.clean) in before

pub reads_then : {k : Rules} {a b c : Standing} → Reads k a b → Reads k b c → Reads k a c
reads_then {k} {a} {b} {c} ab bc = record {
  keeps = λ s was. bc.keeps s (ab.keeps s was);
  same = λ s was now is_open.
      let second : IsTrue b.connection.is_open × (c.connection.now ≡ b.connection.now) = bc.same s (ab.keeps s was) now is_open in
      let first : IsTrue a.connection.is_open × (b.connection.now ≡ a.connection.now) = ab.same s was (clean_before bc now) second.0 in
      (first.0, second.1 ∙ first.1);
  survives = survives_then a.connection b.connection c.connection (λ _. ⊥) (λ _. ⊥) (λ _. ⊥) (λ _ db none. none) (λ _ db none. none) ab.survives bc.survives;
  can = λ can. bc.can (ab.can can);
}

-- a fault of the disk behind a read, or one that shut the connection in it
pub failed_behind : {k : Rules} {old mid new : Standing} → Reads k old mid → Reads k mid new → HasCleanDisk new → DiskFailed mid new → DiskFailed old new
failed_behind {k} {old} {mid} {new} first second clean failed is_open unlimited = by_closing (first.survives.closes (clean_before second clean) is_open)
  where
    by_closing : IsTrue mid.connection.is_open ⊎ MoreFaults old.connection.faults mid.connection.faults → MoreFaults old.connection.faults new.connection.faults
    by_closing (inl still) = let more = failed still (first.survives.limit ∙ unlimited) in omega (arith, first.survives.counts, more)
    by_closing (inr more) = omega (arith, second.survives.counts, more)

-- ---- refusals

-- what is due is due where memory may be refused too
pub or_memory : {computed : Result Outcome Refusal} (r : Refusal) → computed ≡ Err r → MatchBool (is_memory r) ⊤ (computed ≡ Err r)
or_memory {computed} r is = by_memory (is_memory r)
  where
    by_memory : (b : Bool) → MatchBool b ⊤ (computed ≡ Err r)
    by_memory true = tt
    by_memory false = is
