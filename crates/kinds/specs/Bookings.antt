-- Bookings: line, first day and last day in two bytes each, the work and the crew in one.
-- Assumes nothing.
use Rattle.std.specs.Prelude.{ℕ, zero, suc, cond, List, [], ◌∷◌, ◌++◌, length, Some, None, Ok, Err, codes, decimal, Option, Result, slice_index}
use Rattle.std.specs.Str.{bytes_eq}
use Rattle.std.proofs.Math.Decide.{dec_le, ℕ_discrete}
use Rattle.std.proofs.Common.{lit≤}
use Rattle.rules.specs.Numbers.{be16, at16}
use Rattle.dates.specs.Days.{date_of_day, date_text}
use Rattle.kinds.specs.declared.refusal.EntryRefusal.{EntryRefusal}
use Rattle.kinds.specs.declared.refusal.EntryRefusal.TheVariants as refused
use Rattle.kinds.specs.declared.refusal.Field.TheVariants as fields
use Rattle.kinds.specs.declared.booking.Booking.{Booking}
use Rattle.kinds.specs.declared.booking.Work.{Work}
use Rattle.kinds.specs.declared.booking.Work.TheVariants.{Retrofit, Trial, Freeze}
use Rattle.kinds.specs.Choice.{choose, pick}
use Rattle.kinds.specs.Formats.{Format}

abbrev pub work_byte : Work → ℕ
work_byte Retrofit = 1
work_byte Trial = 2
work_byte Freeze = 3

abbrev pub work_of : ℕ → Option Work
work_of zero = None
work_of (suc zero) = Some Retrofit
work_of (suc (suc zero)) = Some Trial
work_of (suc (suc (suc zero))) = Some Freeze
work_of (suc (suc (suc (suc n)))) = None

abbrev pub booking_bytes : Booking → List ℕ
booking_bytes b = be16 b.line ++ be16 b.first ++ be16 b.last ++ work_byte b.work ∷ b.crew ∷ []

-- the booking with these fields, or the first bad one and the place of its first byte
abbrev pub booking_from : (line first last : ℕ) → Option Work → (crew : ℕ) → Result Booking EntryRefusal
booking_from line first last work crew =
    choose (dec_le 1 line) (Err (refused.Field fields.Line 0)) λ a.
    choose (dec_le line 999) (Err (refused.Field fields.Line 0)) λ b.
    choose (dec_le first 36524) (Err (refused.Field fields.FirstDay 2)) λ _.
    choose (dec_le first last) (Err (refused.Field fields.LastDay 4)) λ c.
    choose (dec_le last 36524) (Err (refused.Field fields.LastDay 4)) λ d.
    pick work (Err (refused.Field fields.Work 6)) λ w.
    choose (dec_le crew 99) (Err (refused.Field fields.Crew 7)) λ e.
    Ok (record { line = line; first = first; last = last; work = w; crew = crew; line_ok = (a, b); days_ok = (c, d); crew_ok = e })

abbrev pub booking_of : List ℕ → Result Booking EntryRefusal
booking_of bs =
    choose (ℕ_discrete (length bs) 8) (Err (refused.Length (length bs) 8)) λ _.
    booking_from (at16 bs 0) (at16 bs 2) (at16 bs 4) (work_of (slice_index bs 6)) (slice_index bs 7)

abbrev pub sample_booking : Booking
sample_booking =
    record {
      line = 1;
      first = 0;
      last = 0;
      work = Retrofit;
      crew = 0;
      line_ok = (lit≤ tt, lit≤ tt);
      days_ok = (lit≤ tt, lit≤ tt);
      crew_ok = lit≤ tt;
    }

abbrev pub bookings : Format Booking
bookings = record { code = 1; width = 8; encoded = booking_bytes; decoded = booking_of; sample = sample_booking }

-- in words
abbrev pub work_text : Work → List ℕ
work_text Retrofit = codes "retrofit"
work_text Trial = codes "trial"
work_text Freeze = codes "freeze"

-- the work of a name
abbrev pub work_of_name : List ℕ → Option Work
work_of_name w =
    cond (bytes_eq w (codes "retrofit")) (Some Retrofit)
    (cond (bytes_eq w (codes "trial")) (Some Trial) (cond (bytes_eq w (codes "freeze")) (Some Freeze) None))

abbrev pub booking_text : Booking → List ℕ
booking_text b =
    codes "line " ++ (decimal b.line ++ (codes " from " ++ (date_text (date_of_day b.first) ++ (codes " to "
    ++ (date_text (date_of_day b.last) ++ (codes ", " ++ (work_text b.work ++ (codes ", crew " ++ decimal b.crew))))))))
