-- Bytes in hexadecimal digits are those of the crate hex, and what is written is read back.
use Rattle.std.proofs.Common.{◌≡◌, ℕ, suc, ◌+◌, ◌*◌, ◌/◌, ◌%◌, ◌<◌, List, [], ◌∷◌, length, slice_index, Some, None, Option, is_some, Ok, Err, Result, sym, refl, ap, ◌∙◌, arith, Bool, true, false, ◌&&◌, ◌==◌}
use borrow.Author.Tests.{eqb-true}
use Rattle.std.proofs.lemmas.Bool.{agree_below_at}
use Rattle.std.proofs.lemmas.Bool.Decides.{nat_tests}
use Rattle.std.specs.List.{list_all}
use Rattle.std.specs.Result.{result_ok}
use Rattle.hex.specs.Hex.{IsBytes, decode_of, decode_pairs, digit_or_error, hex_digit_value, encode_upper, encode_with, upper_digits, ◌>>=◌}
use Rattle.hex.specs.declared.error.FromHexError.{FromHexError}
use Rattle.hex.proofs.HexLemmas.{decode_of-encode_upper}
use Rattle.text.specs.Hexadecimals.{hex_value, is_digit, hex_digit, paired, led, hex_bytes_of, hex_text_of}

same_value : (c : ℕ) → hex_digit_value c ≡ hex_value c
same_value c = grind (arith, nat_tests)

-- the byte of two digits, and the bytes behind it
joined : (c d i : ℕ) (x y : Option ℕ) (r : Result (List ℕ) FromHexError) →
    result_ok ((digit_or_error c i x >>= λ h. digit_or_error d (i + 1) y >>= λ l. Ok (h * 16 + l)) >>= λ b. r >>= λ bs. Ok (b ∷ bs))
    ≡ led (paired x y) (result_ok r)
joined c d i None y r = refl
joined c d i (Some x) None r = refl
joined c d i (Some x) (Some y) (Ok bs) = refl
joined c d i (Some x) (Some y) (Err e) = refl

pairs_read : (i : ℕ) (cs : List ℕ) → result_ok (decode_pairs i cs) ≡ hex_bytes_of cs
unfolding decode_pairs
pairs_read i [] = refl
pairs_read i (c ∷ []) = refl
pairs_read i (c ∷ d ∷ cs) =
    joined c d i (hex_digit_value c) (hex_digit_value d) (decode_pairs (i + 2) cs)
    ∙ (λ j. led (paired (same_value c j) (same_value d j)) (pairs_read (i + 2) cs j))

odd_read : (cs : List ℕ) → length cs % 2 ≡ 1 → hex_bytes_of cs ≡ None
odd_read [] h = absurd (omega arith)
odd_read (c ∷ []) h = refl
odd_read (c ∷ d ∷ cs) h = ap (led (paired (hex_value c) (hex_value d))) (odd_read cs (omega arith)) ∙ led_none (paired (hex_value c) (hex_value d))
  where
    led_none : (x : Option ℕ) → led x None ≡ None
    led_none None = refl
    led_none (Some x) = refl

-- a text with a byte that is no digit writes no bytes
pub bad_read : (cs : List ℕ) → list_all is_digit cs ≡ false → hex_bytes_of cs ≡ None
bad_read [] h = absurd (cc h)
bad_read (c ∷ []) h = refl
bad_read (c ∷ d ∷ cs) h = bad (hex_value c) (hex_value d) (list_all is_digit cs) h (bad_read cs)
  where
    bad : (x y : Option ℕ) (b : Bool) {o : Option (List ℕ)} → (is_some x && (is_some y && b)) ≡ false → (b ≡ false → o ≡ None) → led (paired x y) o ≡ None
    bad None y b h k = refl
    bad (Some x) None b h k = refl
    bad (Some x) (Some y) b h k = ap (led (Some (x * 16 + y))) (k h)

-- a text of digits, two by two, writes some
pub good_read : (cs : List ℕ) → length cs % 2 ≡ 0 → list_all is_digit cs ≡ true → is_some (hex_bytes_of cs) ≡ true
good_read [] n h = refl
good_read (c ∷ []) n h = absurd (omega arith)
good_read (c ∷ d ∷ cs) n h = good (hex_value c) (hex_value d) (list_all is_digit cs) (hex_bytes_of cs) h (good_read cs (omega arith))
  where
    good : (x y : Option ℕ) (b : Bool) (o : Option (List ℕ)) → (is_some x && (is_some y && b)) ≡ true → (b ≡ true → is_some o ≡ true) →
        is_some (led (paired x y) o) ≡ true
    good None y b o h k = absurd (cc h)
    good (Some x) None b o h k = absurd (cc h)
    good (Some x) (Some y) b None h k = k h
    good (Some x) (Some y) b (Some bs) h k = refl

-- the bytes that are read
pub read_is : (cs : List ℕ) → hex_bytes_of cs ≡ result_ok (decode_of cs)
read_is cs = let e = pairs_read 0 cs in grind (arith, nat_tests, odd_read cs)

digit_is : (n : ℕ) → n < 16 → slice_index upper_digits n ≡ hex_digit n
digit_is n h = eqb-true _ _ (agree_below_at (λ k. slice_index upper_digits k == hex_digit k) (λ _. true) 16 n refl h)

-- the text that is written
pub written_is : (bs : List ℕ) → IsBytes bs → encode_upper bs ≡ hex_text_of bs
unfolding encode_with
written_is [] h = refl
written_is (b ∷ bs) h =
    let small = h 0 in
    let p = digit_is (b / 16) (omega arith) in
    let q = digit_is (b % 16) (omega arith) in
    λ i. p i ∷ q i ∷ written_is bs (λ j. h (suc j)) i

-- what is written is read back
pub read_back : (bs : List ℕ) → IsBytes bs → hex_bytes_of (hex_text_of bs) ≡ Some bs
read_back bs h =
    ap hex_bytes_of (sym (written_is bs h)) ∙ read_is (encode_upper bs) ∙ ap result_ok (decode_of-encode_upper bs h)
