-- Notices and their bytes: values and lawful strings match one to one.
use Rattle.std.specs.Prelude.{◌≡◌, ℕ, zero, suc, ◌+◌, ◌*◌, ◌/◌, ◌%◌, ◌<◌, ◌≤◌, List, [], ◌∷◌, ◌++◌, length, drop, Ok, Err, ◌≢◌, slice_index, not, refl}
use Rattle.std.proofs.Common.{sym, ◌∙◌, ap, subst, arith}
use mathlib.Core.HLevel.{hedberg}
use Rattle.std.proofs.Math.Decide.{dec_le, ℕ_discrete}
use Rattle.std.proofs.Math.Utf8.{encode}
use Rattle.std.proofs.lemmas.Str.Ascii.{encode_ascii}
use Rattle.std.proofs.lemmas.List.{get_or_past}
use Rattle.std.proofs.lemmas.List.Sums.{prefix_len-drop_yes, prefix_len-drop_no, prefix_len-le-length, prefix_len_passes}
use Rattle.std.specs.Char.{is_ascii_uppercase}
use Rattle.std.proofs.lemmas.Bool.Decides.{nat_tests}
use Rattle.rules.specs.Numbers.{be16, at16}
use Rattle.rules.specs.Kinds.{LawfulKind}
use Rattle.rules.specs.Results.{refused_as}
use Rattle.kinds.specs.declared.refusal.EntryRefusal.TheVariants as refused
use Rattle.kinds.specs.declared.refusal.Field.TheVariants as fields
use Rattle.kinds.specs.declared.notice.Notice.{Notice}
use Rattle.kinds.specs.declared.notice.Notice.TheVariants.{LineOut, Word}
use Rattle.kinds.specs.declared.notice.LineOut as lines
use Rattle.kinds.specs.declared.notice.Word as words
use Rattle.kinds.specs.Letters.{front}
use Rattle.kinds.specs.Choice.{choose}
use Rattle.kinds.specs.Formats.{rule_of}
use Rattle.kinds.specs.Refused.{unlawful_of}
use Rattle.kinds.specs.Notices.{notice_bytes, notice_of, line_out_from, word_from, notices}
use Rattle.kinds.specs.Decide.{le_yes, eq_yes, spell_at, below_all, choose_no, choose_inv, clash, ok_same, ok_back, choose_both, choose_by, Near, near_err}
use Rattle.kinds.specs.Booked.{be16_of}

pub front_more : (xs : List ℕ) (i : ℕ) → i < length xs → 65 ≤ slice_index xs i → slice_index xs i ≤ 90 → front (drop i xs) ≡ front (drop (i + 1) xs) + 1
front_more xs i h a b = grind (arith, nat_tests, prefix_len-drop_yes (λ x. not (not (is_ascii_uppercase x))) xs i 0 h)

pub front_stop : (xs : List ℕ) (i : ℕ) → i < length xs → (65 ≤ slice_index xs i → slice_index xs i ≤ 90 → ⊥) → front (drop i xs) ≡ 0
front_stop xs i h a = grind (arith, nat_tests, prefix_len-drop_no (λ x. not (not (is_ascii_uppercase x))) xs i 0 h)

pub front_le : (xs : List ℕ) → front xs ≤ length xs
front_le xs = prefix_len-le-length (λ x. not (not (is_ascii_uppercase x))) xs

-- what stands in front is at most Z
front_small : (xs : List ℕ) → front xs ≡ length xs → (i : ℕ) → slice_index xs i ≤ 90
front_small xs e i = grind (arith, nat_tests, prefix_len_passes (λ x. not (not (is_ascii_uppercase x))) xs i 0, get_or_past xs i 0)

pub letter_small : (w : words.Word) (i : ℕ) → slice_index w.letters i ≤ 90
letter_small w i = front_small w.letters (w.spelled ∙ sym w.long) i

-- the fields of a notice make it again
pub line_out_ok : (v : lines.LineOut) → line_out_from v.line v.day ≡ Ok (LineOut v)
line_out_ok v = rw (le_yes 1 v.line v.line_ok.0, le_yes v.line 999 v.line_ok.1, le_yes v.day 36524 v.day_ok)

word : (xs : List ℕ) → length xs ≡ 4 → front xs ≡ 4 → words.Word
word xs n h = record { letters = xs; long = n; spelled = h }

-- two words of the same letters are one
pub same_letters : (v u : words.Word) → v.letters ≡ u.letters → v ≡ u
unfolding word
same_letters v u p =
    let P : List ℕ → Type 0 = λ zs. (n : length zs ≡ 4) (h : front zs ≡ 4) → v ≡ word zs n h in
    subst P p
    (λ n h i. word v.letters (hedberg ℕ_discrete (length v.letters) 4 v.long n i) (hedberg ℕ_discrete (front v.letters) 4 v.spelled h i))
    u.long u.spelled

-- the letters as characters
pub letters_written : (w : words.Word) (a b c d : ℕ) → a ≡ slice_index w.letters 0 → b ≡ slice_index w.letters 1 → c ≡ slice_index w.letters 2 → d ≡ slice_index w.letters 3 →
    encode a ++ (encode b ++ (encode c ++ encode d)) ≡ w.letters
letters_written w a b c d p q r s =
    (λ i. letter 0 a p i ++ (letter 1 b q i ++ (letter 2 c r i ++ letter 3 d s i))) ∙ sym (spell_at 4 w.letters w.long)
  where
    letter : (i n : ℕ) → n ≡ slice_index w.letters i → encode n ≡ slice_index w.letters i ∷ []
    letter i n e = let h = letter_small w i in encode_ascii n (omega arith) ∙ ap (λ x. x ∷ []) e

pub word_ok : (w : words.Word) (a b c d : ℕ) → w.letters ≡ a ∷ b ∷ c ∷ d ∷ [] → word_from a b c d ≡ Ok (Word w)
word_ok w a b c d e =
    let h : front (a ∷ b ∷ c ∷ d ∷ []) ≡ 4 = ap front (sym e) ∙ w.spelled in
    rw (eq_yes (front (a ∷ b ∷ c ∷ d ∷ [])) 4 h)
    (ap (λ v. Ok (Word v)) (same_letters (record { letters = a ∷ b ∷ c ∷ d ∷ []; long = refl; spelled = h }) w (sym e)))

-- a notice by its tag
of_line : (bs : List ℕ) → length bs ≡ 5 → slice_index bs 0 ≡ 1 → notice_of bs ≡ line_out_from (at16 bs 1) (at16 bs 3)
of_line bs n t = rw (eq_yes (length bs) 5 n, eq_yes (slice_index bs 0) 1 t)

of_other : (bs : List ℕ) → length bs ≡ 5 → (slice_index bs 0 ≢ 1) →
    notice_of bs
    ≡ choose (ℕ_discrete (slice_index bs 0) 3) (Err (refused.Field fields.Tag 0)) λ _. word_from (slice_index bs 1) (slice_index bs 2) (slice_index bs 3) (slice_index bs 4)
of_other bs n t = rw (eq_yes (length bs) 5 n) (choose_no (ℕ_discrete (slice_index bs 0) 1) _ _ t)

of_word : (bs : List ℕ) → length bs ≡ 5 → slice_index bs 0 ≡ 3 → notice_of bs ≡ word_from (slice_index bs 1) (slice_index bs 2) (slice_index bs 3) (slice_index bs 4)
of_word bs n t = of_other bs n (omega arith) ∙ rw (eq_yes (slice_index bs 0) 3 t)

notice_long : (v : Notice) → length (notice_bytes v) ≡ 5
notice_long (LineOut x) = refl
notice_long (Word w) = let n = w.long in omega arith

notice_there : (v : Notice) → notice_of (notice_bytes v) ≡ Ok v
notice_there (LineOut x) =
    let p : (x.line / 256 % 256) * 256 + x.line % 256 ≡ x.line = omega arith in
    let q : (x.day / 256 % 256) * 256 + x.day % 256 ≡ x.day = omega arith in
    of_line (notice_bytes (LineOut x)) refl refl ∙ (λ i. line_out_from (p i) (q i)) ∙ line_out_ok x
notice_there (Word w) = of_word (3 ∷ w.letters) (notice_long (Word w)) refl ∙ word_ok w _ _ _ _ (spell_at 4 w.letters w.long)

notice_small : (v : Notice) (i : ℕ) → slice_index (notice_bytes v) i < 256
notice_small (LineOut x) i = below_all (notice_bytes (LineOut x)) (omega arith) i
notice_small (Word w) zero = omega arith
notice_small (Word w) (suc i) = let h = letter_small w i in omega arith

line_back : (l d : ℕ) (v : Notice) → line_out_from l d ≡ Ok v → notice_bytes v ≡ 1 ∷ be16 l ++ be16 d
line_back l d v e =
    let s₁ = choose_inv (dec_le 1 l) _ _ (Ok v) (clash _ v) e in
    let s₂ = choose_inv (dec_le l 999) _ _ (Ok v) (clash _ v) s₁.1 in
    let s₃ = choose_inv (dec_le d 36524) _ _ (Ok v) (clash _ v) s₂.1 in
    ap notice_bytes (sym (ok_same _ v s₃.1))

word_back : (a b c d : ℕ) (v : Notice) → word_from a b c d ≡ Ok v → notice_bytes v ≡ 3 ∷ a ∷ b ∷ c ∷ d ∷ []
word_back a b c d v e =
    let s = choose_inv (ℕ_discrete (front (a ∷ b ∷ c ∷ d ∷ [])) 4) _ _ (Ok v) (clash _ v) e in
    ap notice_bytes (sym (ok_same _ v s.1))

-- by whether the tag is 1
by_tag : {A : Type 0} (t : ℕ) → (t ≡ 1 → A) → ((t ≢ 1) → A) → A
by_tag t x y = elim (ℕ_discrete t 1) [ yes p ↦ x p | no q ↦ y q ]

notice_back : (bs : List ℕ) (v : Notice) → ((i : ℕ) → slice_index bs i < 256) → notice_of bs ≡ Ok v → notice_bytes v ≡ bs
notice_back bs v h e =
    let s = choose_inv (ℕ_discrete (length bs) 5) _ _ (Ok v) (clash _ v) e in
    let n = s.0 in
    by_tag (slice_index bs 0)
    (λ t.
    line_back (at16 bs 1) (at16 bs 3) v (sym (of_line bs n t) ∙ e)
    ∙ (λ i. sym t i ∷ be16_of (slice_index bs 1) (slice_index bs 2) (h 1) (h 2) i ++ be16_of (slice_index bs 3) (slice_index bs 4) (h 3) (h 4) i)
    ∙ sym (spell_at 5 bs n))
    (λ t.
    let u = choose_inv (ℕ_discrete (slice_index bs 0) 3) _ _ (Ok v) (clash _ v) (sym (of_other bs n t) ∙ e) in
    word_back (slice_index bs 1) (slice_index bs 2) (slice_index bs 3) (slice_index bs 4) v u.1
    ∙ ap (λ k. k ∷ slice_index bs 1 ∷ slice_index bs 2 ∷ slice_index bs 3 ∷ slice_index bs 4 ∷ []) (sym u.0)
    ∙ sym (spell_at 5 bs n))

word_near : (a b c d : ℕ) → Near 5 (word_from a b c d)
word_near a b c d =
    let n = front (a ∷ b ∷ c ∷ d ∷ []) in
    let h : n ≤ 4 = front_le (a ∷ b ∷ c ∷ d ∷ []) in
    choose_by (Near 5) (ℕ_discrete n 4) _ _ (λ e. below n h e) λ _. tt
  where
    below : (n : ℕ) → n ≤ 4 → (n ≢ 4) → n + 1 < 5
    below n h e = omega arith

line_near : (l d : ℕ) → Near 5 (line_out_from l d)
line_near l d =
    choose_both (Near 5) (dec_le 1 l) _ _ (omega arith) λ _.
    choose_both (Near 5) (dec_le l 999) _ _ (omega arith) λ _.
    choose_both (Near 5) (dec_le d 36524) _ _ (omega arith) λ _.
    tt

notice_near : (bs : List ℕ) → length bs ≡ 5 → Near 5 (notice_of bs)
notice_near bs n =
    by_tag (slice_index bs 0) (λ t. rw (of_line bs n t) (line_near (at16 bs 1) (at16 bs 3)))
    (λ t.
    rw (of_other bs n t)
    (choose_both (Near 5) (ℕ_discrete (slice_index bs 0) 3) _ _ (omega arith) λ _. word_near (slice_index bs 1) (slice_index bs 2) (slice_index bs 3) (slice_index bs 4)))

pub notices_lawful : LawfulKind (rule_of notices)
notices_lawful =
    record {
      code_byte = omega arith;
      width_range = omega arith;
      long = notice_long;
      bytes = notice_small;
      there = λ v. ap (refused_as unlawful_of) (notice_there v);
      back = λ bs v h e. notice_back bs v h (ok_back (notice_of bs) v e);
      short = λ bs e. ap (refused_as unlawful_of) (choose_no (ℕ_discrete (length bs) 5) _ _ e);
      near = λ bs x n e. near_err 5 (notice_of bs) x (notice_near bs n) e;
    }
