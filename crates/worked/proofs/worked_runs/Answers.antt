use Rattle.std.proofs.Common.{refl}
use native.Mathlib.Decide.{dec_le, ℕ_discrete}
use Rattle.worked.proofs.worked_runs.Goals as goal

pub returns : goal.returns
unfolding ℕ_discrete dec_le
returns c =
    record {
      answer_1 = refl;
      rows_1 = refl;
      log_1 = refl;
      entries_1 = refl;
      write_2 = refl;
      sheet_2 = refl;
      answer_3 = refl;
      rows_3 = refl;
      answer_4 = refl;
      rows_4 = refl;
      log_4 = refl;
      entries_4 = refl;
      answer_5 = refl;
      log_5 = refl;
      entries_5 = refl;
      answer_6 = refl;
      sheet_6 = refl;
      length_6 = refl;
      accept_6 = refl;
      entries_6 = refl;
      log_6 = refl;
      other_site_7 = refl;
      credits_8 = refl;
      cut_9 = refl;
      more_9 = refl;
      ring_10 = refl;
      calendar_10 = refl;
      line_999 = refl;
      line_1000 = refl;
      write_11 = refl;
    }
