-- A value chosen by a decision.
-- Assumes nothing.
use Rattle.std.specs.Prelude.{Some, None, Option}

-- y at a proof of P, and n where there is none
abbrev pub choose : {P X : Type 0} → Dec P → X → (P → X) → X
choose (yes p) n y = y p
choose (no e) n y = n

-- y at what o holds, and n where it holds nothing
abbrev pub pick : {A X : Type 0} → Option A → X → (A → X) → X
pick (Some a) n y = y a
pick None n y = n
