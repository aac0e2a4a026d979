-- A site's place in its group: the group's size and the site's own number.
-- Assumes nothing.
use Rattle.std.specs.Prelude.{ℕ, ◌&&◌, Ok, Err, Result, nat_le}
use Rattle.rules.specs.Refusals.{Refusal}
use Rattle.rules.specs.Results.{◌>>=◌, require}
use Rattle.rules.specs.Stamps.{within}
use Rattle.tables.specs.declared.refusal.SeatRefusal.{SeatRefusal}
use Rattle.tables.specs.declared.refusal.SeatRefusal.TheVariants.{Sites, Own}
use Rattle.tables.specs.declared.seat.Seat.{Seat}
use Rattle.tables.specs.Refused.{refusal_of}

-- the check of a seat: the group's size, then the site
abbrev pub seat_ranged : (N i : ℕ) → Result (ℕ × ℕ) SeatRefusal
seat_ranged N i = do
  _ ← require (nat_le 2 N && nat_le N 8) Sites
  _ ← require (within N i) Own
  Ok (N, i)

-- an answer that is a seat, by its two numbers, and as the rules have it
abbrev pub seat_shown : Result Seat SeatRefusal → Result (ℕ × ℕ) SeatRefusal
seat_shown (Ok s) = Ok (s.sites, s.own)
seat_shown (Err x) = Err x

abbrev pub seat_told : Result Seat SeatRefusal → Result (Unit {0}) Refusal
seat_told (Ok s) = Ok tt
seat_told (Err x) = Err (refusal_of x)
