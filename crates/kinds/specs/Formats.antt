-- The format of a kind of entry over the code's own values and refusals, and the kind that it is by the rules.
-- Assumes nothing.
use Rattle.std.specs.Prelude.{ℕ, ◌-◌, List, ◌++◌, length, replicate, Result}
use Rattle.rules.specs.Results.{refused_as}
use Rattle.rules.specs.Kinds.{Kind}
use Rattle.kinds.specs.declared.refusal.EntryRefusal.{EntryRefusal}
use Rattle.kinds.specs.Refused.{unlawful_of}

-- the code byte, how many bytes an entry has, which these are, what bytes stand for, and one of the values
pub record Format (E : Type 0) : Type 0 where
  pub code : ℕ
  pub width : ℕ
  pub encoded : E → List ℕ
  pub decoded : List ℕ → Result E EntryRefusal
  pub sample : E

-- the kind that it is by the rules
abbrev pub rule_of : {E : Type 0} → Format E → Kind E
rule_of f =
    record {
      code = f.code;
      width = f.width;
      encoded = f.encoded;
      decoded = λ bs. refused_as unlawful_of (f.decoded bs);
    }

-- bytes, and zeros behind them up to sixteen
abbrev pub padded : List ℕ → List ℕ
padded bs = bs ++ replicate (16 - length bs) 0
