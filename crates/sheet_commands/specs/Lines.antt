-- What a sheet says, in lines.
-- Assumes nothing.
use Rattle.std.specs.Prelude.{ℕ, zero, suc, ◌+◌, List, [], ◌∷◌, ◌++◌, None, Ok, Err, codes, decimal, Result}
use Rattle.std.specs.List.{flat_map}
use Rattle.rules.specs.Refusals.{Refusal}
use Rattle.rules.specs.Records.{Body, booked, struck, Record}
use Rattle.rules.specs.Tables.{Table}
use Rattle.rules.specs.Sheets.{Sheet, run}
use Rattle.rules.specs.Reading.{read}
use Rattle.kinds.specs.Formats.{Format, rule_of}
use Rattle.readers.specs.declared.refusal.SheetRefusal.{SheetRefusal}
use Rattle.readers.specs.Words.{sheet_refusal_text}
use Rattle.sheets.specs.Judged.{sheet_judged}

-- a number of the table, behind a blank
abbrev pub cell_text : Table → ℕ × ℕ → List ℕ
cell_text T c = 32 ∷ decimal (T c.0 c.1)

-- the row of site k in a group of N, on a line of its own, as: row 1: 1 0 0
abbrev pub row_line : Table → (N k : ℕ) → List ℕ
row_line T N k = (10 ∷ codes "row ") ++ (decimal k ++ (58 ∷ flat_map (cell_text T) (run k 1 N)))

-- m rows from site k on, and all rows
abbrev pub rows_from : Table → (N k m : ℕ) → List ℕ
rows_from T N k zero = []
rows_from T N k (suc m) = row_line T N k ++ rows_from T N (k + 1) m

abbrev pub rows_text : Table → ℕ → List ℕ
rows_text T N = rows_from T N 1 N

-- a stamp, as: 3.1
abbrev pub stamp_words : (u n : ℕ) → List ℕ
stamp_words u n = decimal u ++ (46 ∷ decimal n)

module _ {E : Type 0} (words : E → List ℕ) where
  -- what an event does, as: books line 7 .., or: strikes 1.1
  abbrev pub body_words : Body E → List ℕ
  body_words (booked e) = codes " books " ++ words e
  body_words (struck v m) = codes " strikes " ++ stamp_words v m

  -- a record on a line of its own
  abbrev pub record_line : Record E → List ℕ
  record_line r = 10 ∷ (stamp_words r.0 r.1 ++ body_words r.2)

  abbrev pub records_text : List (Record E) → List ℕ
  records_text rs = flat_map record_line rs

  -- a sheet in a group of N: a line for who wrote it for whom, one for each row, one for each record
  abbrev pub sheet_text : ℕ → Sheet E → List ℕ
  sheet_text N p =
      codes "sheet from site " ++ (decimal p.writer ++ (codes " for site " ++ (decimal p.addressee
      ++ (rows_text p.table N ++ records_text p.records))))

  -- the sheet that was read, or why it is turned away; a sheet that passes the check is always read
  abbrev pub told_of : ℕ → Result (ℕ × Table) SheetRefusal → Result (Sheet E) Refusal → List ℕ
  told_of N (Ok q) (Ok p) = sheet_text N p
  told_of N (Ok q) (Err x) = []
  told_of N (Err x) r = sheet_refusal_text x

-- what is said of bytes as a sheet for site i of N, which has no own row at hand
abbrev pub said_of : {E : Type 0} → Format E → (E → List ℕ) → (N i : ℕ) → List ℕ → List ℕ
said_of f words N i bs = told_of words N (sheet_judged f N i None bs) (read (rule_of f) N i None bs)
