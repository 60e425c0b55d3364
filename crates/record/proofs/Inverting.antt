-- What is known of a part of the reading that was made.
use Rattle.std.proofs.Common.{◌≡◌, ℕ, List, ℤ, Some, None, Ok, Err, Option, Result, refl, ap, arith}
use Rattle.cost.specs.declared.refusals.CostFault.{CostFault}
use Rattle.ledger.specs.declared.faults.DraftFault.{DraftFault}
use Rattle.text.specs.Steps.{Step}
use Rattle.record.specs.Readings.{Stage, formed, go_on, up_to, unless_refused, accepted_row}
use Rattle.record.specs.declared.faults.RecordFault.{RecordFault}
use Rattle.record.specs.declared.faults.Spot.{Spot}

-- where two parts are made one after the other, each is made
pub both_stages : {S T : Type 0} (stage : Stage S) (next : S → ℕ → Stage T) (read : T × ℕ) → go_on stage next ≡ Ok read
    → (first : S × ℕ) × (stage ≡ Ok first) × (next first.0 first.1 ≡ Ok read)
both_stages (Ok first) next read e = (first, refl, e)
both_stages (Err fault) next read e = absurd (let z : ◌≡◌ {A = ℕ} 0 1 = cc in omega arith)

pub formed_made : {T : Type 0} (step : Step T) (read : T × ℕ) → formed step ≡ Ok read → step ≡ Ok read
formed_made {T} (Ok other) read e = ap (λ (r : T × ℕ). Ok r) cc
formed_made (Err offset) read e = absurd (let z : ◌≡◌ {A = ℕ} 0 1 = cc in omega arith)

pub up_to_made : {T : Type 0} (next : ℕ) (r : Result T RecordFault) (read : T × ℕ) → up_to next r ≡ Ok read → (r ≡ Ok read.0) × (next ≡ read.1)
up_to_made {T} next (Ok value) read e =
    let same : (value, next) ≡ read = cc in
    (ap (λ (p : T × ℕ). Ok p.0) same, ap (λ (p : T × ℕ). p.1) same)
up_to_made next (Err fault) read e = absurd (let z : ◌≡◌ {A = ℕ} 0 1 = cc in omega arith)

pub not_refused : {T : Type 0} (r : Option DraftFault) (place : Spot) (rest : Result T RecordFault) (value : T) → unless_refused r place rest ≡ Ok value → (r ≡ None) × (rest ≡ Ok value)
not_refused None place rest value e = (refl, e)
not_refused (Some fault) place rest value e = absurd (let z : ◌≡◌ {A = ℕ} 0 1 = cc in omega arith)

pub row_accepted : (r : Option CostFault) (line : ℕ) (row other : List ℤ) → accepted_row r line row ≡ Ok other → (r ≡ None) × (row ≡ other)
row_accepted None line row other e = (refl, cc)
row_accepted (Some fault) line row other e = absurd (let z : ◌≡◌ {A = ℕ} 0 1 = cc in omega arith)
