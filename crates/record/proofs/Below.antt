-- What an answer from below tells, met at a spot of the text.
use Rattle.std.proofs.Common.{◌≡◌, Ok, Err, Result, refl, sym, ap}
use Rattle.std.specs.Result.{MatchResult, IsErrAnd}
use Rattle.record.specs.declared.faults.RecordFault.{RecordFault}

module _ {T F : Type 0} (fault : F → RecordFault) where
  -- an answer from below, where each refusal becomes one of the record
  abbrev pub met_at : Result T F → Result T RecordFault
  met_at (Ok value) = Ok value
  met_at (Err below) = Err (fault below)

  pub met_by : (answer : Result T F) (r : Result T RecordFault) (P : F → RecordFault → Type 0) → MatchResult answer (λ value. r ≡ Ok value) (λ below. IsErrAnd r (P below))
      → ((below : F) (f : RecordFault) → P below f → f ≡ fault below) → r ≡ met_at answer
  met_by (Ok value) r P cases gives = cases
  met_by (Err below) (Err f) P cases gives = ap (λ (g : RecordFault). Err g) (gives below f cases)
  met_by (Err below) (Ok value) P cases gives = absurd cases

  pub met_value : (answer : Result T F) {value : T} → Ok value ≡ met_at answer → answer ≡ Ok value
  met_value (Ok other) {value} e =
      let same : value ≡ other = cc in
      ap (λ (x : T). Ok x) (sym same)
  met_value (Err below) e = cc

  pub met_refused : (answer : Result T F) {f : RecordFault} → Err f ≡ met_at answer → (below : F) × (answer ≡ Err below) × (f ≡ fault below)
  met_refused (Ok other) e = absurd cc
  met_refused (Err below) e = (below, refl, cc)
