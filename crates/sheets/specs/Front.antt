-- The front of a sheet: its head and its table.
-- Assumes nothing.
use Rattle.rules.specs.Tables.{Table}
use Rattle.rules.specs.Reading.{table_at}
use Rattle.sheets.specs.declared.front.Front.{Front}

-- the table in the bytes of a front
abbrev pub front_table : Front → Table
front_table f = table_at f.seat.sites f.bytes.now
