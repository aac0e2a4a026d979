-- A buffer that is written over.
-- Assumes nothing.
use Rattle.std.specs.Prelude.{ℕ, ◌+◌, cond, List, ◌++◌, length, take, drop, Ok, Result, nat_le}
use Rattle.rules.specs.Results.{◌>>=◌, require}
use Rattle.rules.specs.Refusals.{Refusal, short_for_writing}
use Rattle.rules.specs.Numbers.{be32}
use Rattle.rules.specs.Tables.{Table}

-- the buffer bs with the bytes ws in place of those from the place i on
abbrev pub over : (bs : List ℕ) (i : ℕ) (ws : List ℕ) → List ℕ
over bs i ws = take i bs ++ (ws ++ drop (i + length ws) bs)

-- a number of a table in bytes
abbrev pub cell_bytes : Table → ℕ × ℕ → List ℕ
cell_bytes T c = be32 (T c.0 c.1)

-- the length of a sheet, if the buffer has room for it, else 9
abbrev pub fitted : (sheet buffer : List ℕ) → Result ℕ Refusal
fitted sheet buffer = do
  _ ← require (nat_le (length sheet) (length buffer)) (short_for_writing (length sheet))
  Ok (length sheet)

-- the buffer afterwards: the sheet and behind it what was there, if there is room, else as it was
abbrev pub filled : (sheet buffer : List ℕ) → List ℕ
filled sheet buffer = cond (nat_le (length sheet) (length buffer)) (sheet ++ drop (length sheet) buffer) buffer
