-- Kinds of entry: how an entry is kept in bytes.
-- Assumes nothing.
use Rattle.std.specs.Prelude.{◌≡◌, ℕ, ◌<◌, ◌≤◌, min, List, length, Ok, Err, Result, ◌≢◌, slice_index}
use Rattle.rules.specs.Refusals.{Unlawful}

-- every number is below 256
abbrev pub Bytes : List ℕ → Type 0
Bytes bs = (j : ℕ) → slice_index bs j < 256

-- a kind: its code, how many bytes an entry has, which these are, and what bytes stand for
pub record Kind (E : Type 0) : Type 0 where
  pub code : ℕ
  pub width : ℕ
  pub encoded : E → List ℕ
  pub decoded : List ℕ → Result E Unlawful

-- what every kind shows
pub record LawfulKind {E : Type 0} (K : Kind E) : Type 0 where
  pub code_byte : K.code < 256
  pub width_range : (1 ≤ K.width) × (K.width ≤ 16)
  pub long : (e : E) → length (K.encoded e) ≡ K.width
  pub bytes : (e : E) → Bytes (K.encoded e)
  -- values and lawful byte strings match one to one
  pub there : (e : E) → K.decoded (K.encoded e) ≡ Ok e
  pub back : (bs : List ℕ) (e : E) → Bytes bs → K.decoded bs ≡ Ok e → K.encoded e ≡ bs
  -- a string of another length is refused with the smaller of its length and the width
  pub short : (bs : List ℕ) → (length bs ≢ K.width) → K.decoded bs ≡ Err (record { place = min (length bs) K.width })
  -- a bad field lies within the entry
  pub near : (bs : List ℕ) (x : Unlawful) → length bs ≡ K.width → K.decoded bs ≡ Err x → x.place < K.width
