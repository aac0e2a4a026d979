-- The numbers and the rows that are left to say, and the sheet behind a check that passed.
use Rattle.std.proofs.Common.{◌≡◌, ℕ, suc, ◌+◌, ◌-◌, ◌≤◌, ◌++◌, Ok, Err, Result, sym, refl, ap, arith}
use Rattle.std.specs.List.{flat_map}
use Rattle.rules.specs.Refusals.{Refusal}
use Rattle.rules.specs.Tables.{Table}
use Rattle.rules.specs.Sheets.{Sheet, run}
use Rattle.sheets.specs.Told.{without_records}
use Rattle.sheet_commands.specs.Lines.{cell_text, row_line, rows_from}

-- the next number of a row
pub cell_next : (T : Table) (k n u : ℕ) → u ≤ n →
    flat_map (cell_text T) (run k u (n + 1 - u)) ≡ cell_text T (k, u) ++ flat_map (cell_text T) (run k (u + 1) (n + 1 - (u + 1)))
cell_next T k n u h =
    let e : n + 1 - u ≡ suc (n + 1 - (u + 1)) = omega arith in ap (λ m. flat_map (cell_text T) (run k u m)) e

-- the next row
pub row_next : (T : Table) (n k : ℕ) → k ≤ n → rows_from T n k (n + 1 - k) ≡ row_line T n k ++ rows_from T n (k + 1) (n + 1 - (k + 1))
row_next T n k h = let e : n + 1 - k ≡ suc (n + 1 - (k + 1)) = omega arith in ap (rows_from T n k) e

-- what a check that passed says is read
pub read_from : {E : Type 0} (m : Result (Sheet E) Refusal) (k : ℕ) (T : Table) → Ok (k, T) ≡ without_records m →
    (p : Sheet E) × (m ≡ Ok p) × (p.writer ≡ k) × (p.table ≡ T)
read_from (Ok p) k T e =
    let f : (k, T) ≡ (p.writer, p.table) = cc in (p, refl, ap (λ (q : ℕ × Table). q.0) (sym f), ap (λ (q : ℕ × Table). q.1) (sym f))
read_from (Err x) k T e = let z : ◌≡◌ {A = ℕ} 0 1 = cc in absurd (omega arith)
