-- Notices: a tag, and then the line and the day in two bytes each, or four letters.
-- Assumes nothing.
use Rattle.std.specs.Prelude.{ℕ, ◌+◌, List, [], ◌∷◌, ◌++◌, length, Ok, Err, codes, decimal, Result, slice_index, refl}
use Rattle.std.proofs.Math.Decide.{dec_le, ℕ_discrete}
use Rattle.std.proofs.Common.{lit≤}
use Rattle.rules.specs.Numbers.{be16, at16}
use Rattle.dates.specs.Days.{date_of_day, date_text}
use Rattle.kinds.specs.declared.refusal.EntryRefusal.{EntryRefusal}
use Rattle.kinds.specs.declared.refusal.EntryRefusal.TheVariants as refused
use Rattle.kinds.specs.declared.refusal.Field.TheVariants as fields
use Rattle.kinds.specs.declared.notice.Notice.{Notice}
use Rattle.kinds.specs.declared.notice.Notice.TheVariants.{LineOut, Word}
use Rattle.kinds.specs.Letters.{front}
use Rattle.kinds.specs.Choice.{choose}
use Rattle.kinds.specs.Formats.{Format}

abbrev pub notice_bytes : Notice → List ℕ
notice_bytes (LineOut x) = 1 ∷ be16 x.line ++ be16 x.day
notice_bytes (Word w) = 3 ∷ w.letters

-- the notice that a line is out on a day, or the first bad field and the place of its first byte
abbrev pub line_out_from : (line day : ℕ) → Result Notice EntryRefusal
line_out_from line day =
    choose (dec_le 1 line) (Err (refused.Field fields.Line 1)) λ a.
    choose (dec_le line 999) (Err (refused.Field fields.Line 1)) λ b.
    choose (dec_le day 36524) (Err (refused.Field fields.Day 3)) λ c.
    Ok (LineOut (record { line = line; day = day; line_ok = (a, b); day_ok = c }))

-- the notice of four letters, or the place of the first that is none
abbrev pub word_from : (a b c d : ℕ) → Result Notice EntryRefusal
word_from a b c d =
    let letters = a ∷ b ∷ c ∷ d ∷ [] in
    choose (ℕ_discrete (front letters) 4) (Err (refused.Field fields.Letter (front letters + 1))) λ h.
    Ok (Word (record { letters = letters; long = refl; spelled = h }))

abbrev pub notice_of : List ℕ → Result Notice EntryRefusal
notice_of bs =
    choose (ℕ_discrete (length bs) 5) (Err (refused.Length (length bs) 5)) λ _.
    choose (ℕ_discrete (slice_index bs 0) 1)
    (choose (ℕ_discrete (slice_index bs 0) 3) (Err (refused.Field fields.Tag 0)) λ _.
    word_from (slice_index bs 1) (slice_index bs 2) (slice_index bs 3) (slice_index bs 4))
    λ _. line_out_from (at16 bs 1) (at16 bs 3)

abbrev pub sample_notice : Notice
sample_notice = LineOut (record { line = 1; day = 0; line_ok = (lit≤ tt, lit≤ tt); day_ok = lit≤ tt })

abbrev pub notices : Format Notice
notices = record { code = 2; width = 5; encoded = notice_bytes; decoded = notice_of; sample = sample_notice }

-- in words
abbrev pub notice_text : Notice → List ℕ
notice_text (LineOut x) = codes "line " ++ (decimal x.line ++ (codes " out on " ++ date_text (date_of_day x.day)))
notice_text (Word w) = codes "word " ++ w.letters
