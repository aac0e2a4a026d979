-- A number of a date in two digits.
use Rattle.std.proofs.Common.{◌≡◌, ℕ, ◌+◌, ◌-◌, ◌/◌, ◌%◌, ◌^◌, ◌<◌, ◌≤◌, false, List, [], ◌∷◌, ◌++◌, length, decimal, sym, ap, ◌∙◌, arith, append-nil, length-append, replicate, inl, inr}
use Rattle.std.proofs.lemmas.Bool.{cases_lt}
use Rattle.std.proofs.lemmas.Fmt.{decimal_digit, decimal_step, decimal_nonempty}
use Rattle.std.specs.Fmt.{padded_integral, format_spec, char_count}
use Rattle.dates.specs.Days.{two_digits}

-- what `{:02}` writes of a number with these digits
abbrev pub padded : List ℕ → List ℕ
padded ds = padded_integral (format_spec 32 0 4 2 (2 ^ 64 - 1)) false [] ds

not_padded : (ds : List ℕ) → 2 ≤ length ds → padded ds ≡ ds
unfolding padded_integral char_count
not_padded ds h =
    let e : 2 - length ds - 0 - 0 ≡ 0 = omega arith in
    ap (λ n. replicate n 48 ++ (ds ++ [])) e ∙ append-nil ds

one_digit : (n : ℕ) → n < 10 → padded (decimal n) ≡ two_digits n
unfolding padded_integral char_count
one_digit n h =
    let high : n / 10 ≡ 0 = omega arith in
    let low : n % 10 ≡ n = omega arith in
    rw (decimal_digit n h, high, low, decimal_digit n h, decimal_digit 0 (omega arith))

more_digits : (n : ℕ) → 10 ≤ n → n < 2 ^ 64 → padded (decimal n) ≡ two_digits n
more_digits n h k =
    let e = decimal_step n h k in
    let last = decimal_digit (n % 10) (omega arith) in
    let front = decimal_nonempty (n / 10) (omega arith) in
    not_padded (decimal n) (rw e (omega (arith, length-append (decimal (n / 10)) ((48 + n % 10) ∷ []))))
    ∙ e ∙ ap (λ ds. decimal (n / 10) ++ ds) (sym last)

-- it is the number in two digits, or in all of them where two are too few
pub two_written : (n : ℕ) → n < 256 → padded (decimal n) ≡ two_digits n
two_written n h = elim (cases_lt n 10) [
  | inl l ↦ one_digit n l
  | inr l ↦ more_digits n l (omega arith)
]
