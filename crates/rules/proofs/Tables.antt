-- The table in the bytes of a sheet: it is read as it was written.
-- Assumes nothing.
use Rattle.std.proofs.Common.{◌≡◌, ℕ, zero, suc, ◌+◌, ◌-◌, ◌*◌, ◌<◌, ◌≤◌, Bool, true, false, cond, not, ◌&&◌, eqb, ltb, leb, List, ◌∷◌, ◌++◌, length, drop, Ok, sym, refl, ap, ◌∙◌, ap₂, inl, inr, suc-mul, arith}
use mathlib.Core.Path.{fun_ext}
use Rattle.std.proofs.lemmas.List.{append_assoc, length-append}
use Rattle.std.proofs.lemmas.Bool.{cases_eq, ne_eqb, and_left, leb-true, le-leb, le-ltb, eq-eqb, and_parts, and_from, or_from, and_right, not_from_true, cond-true}
use Rattle.std.specs.List.{flat_map}
use Rattle.rules.specs.Results.{◌>>=◌, none_of}
use Rattle.rules.specs.Refusals.{ends_early, bad_table}
use Rattle.rules.specs.Numbers.{be32, at32}
use Rattle.rules.specs.Stamps.{within, Within}
use Rattle.rules.specs.Tables.{restricted}
use Rattle.rules.specs.Sheets.{run, runs, cells, stamps, table_bytes, place_of, front_length}
use Rattle.rules.specs.Reading.{table_at, table_read, table_checked, bad_number}
use Rattle.rules.proofs.Refusing.{passes}
use Rattle.rules.proofs.Searching.{first_none}
use Rattle.rules.proofs.Sequences.{runs_in}
use Rattle.rules.proofs.Bytes.{at32_here, joined_append, drop_front}

module _ (S : ℕ → ℕ → ℕ) where
  abbrev cell_bytes : ℕ × ℕ → List ℕ
  cell_bytes c = be32 (S c.0 c.1)

  pub row_long : (k n m : ℕ) → length (flat_map cell_bytes (run k n m)) ≡ 4 * m
  row_long k n zero = refl
  row_long k n (suc m) = let h = row_long k (n + 1) m in omega arith

  row_drop : (k n m q u : ℕ) (t : List ℕ) → u ≡ n + q → q < m →
      (rest : List ℕ) × (drop (4 * q) (flat_map cell_bytes (run k n m) ++ t) ≡ be32 (S k u) ++ rest)
  row_drop k n zero q u t e h = absurd (omega arith)
  row_drop k n (suc m) zero u t e h =
      let d : u ≡ n = omega arith in (flat_map cell_bytes (run k (n + 1) m) ++ t, rw d refl)
  row_drop k n (suc m) (suc q) u t e h =
      let r = row_drop k (n + 1) m q u t (omega arith) (omega arith) in
      let d : 4 * suc q ≡ suc (suc (suc (suc (4 * q)))) = omega arith in (r.0, rw d r.1)

  pub rows_long : (N v m : ℕ) → length (flat_map cell_bytes (runs (λ _. 1) (λ _. N) v m)) ≡ 4 * (m * N)
  rows_long N v zero = omega arith
  rows_long N v (suc m) =
      let h = rows_long N (v + 1) m in
      let g = row_long v 1 N in
      let j = joined_append cell_bytes (run v 1 N) (runs (λ _. 1) (λ _. N) (v + 1) m) in
      ap length j ∙ length-append (flat_map cell_bytes (run v 1 N)) (flat_map cell_bytes (runs (λ _. 1) (λ _. N) (v + 1) m))
      ∙ omega (arith, suc-mul m N)

  rows_drop : (N v m p q k u : ℕ) (t : List ℕ) → k ≡ v + p → p < m → u ≡ 1 + q → q < N →
      (rest : List ℕ) × (drop (4 * (p * N + q)) (flat_map cell_bytes (runs (λ _. 1) (λ _. N) v m) ++ t) ≡ be32 (S k u) ++ rest)
  rows_drop N v zero p q k u t e h f g = absurd (omega arith)
  rows_drop N v (suc m) zero q k u t e h f g =
      let A = run v 1 N in
      let B = runs (λ _. 1) (λ _. N) (v + 1) m in
      let r = row_drop v 1 N q u (flat_map cell_bytes B ++ t) f g in
      let d : k ≡ v = omega arith in
      let z : 4 * (0 * N + q) ≡ 4 * q = omega arith in
      let a : flat_map cell_bytes (A ++ B) ++ t ≡ flat_map cell_bytes A ++ (flat_map cell_bytes B ++ t) =
      ap (λ xs. xs ++ t) (joined_append cell_bytes A B) ∙ append_assoc (flat_map cell_bytes A) (flat_map cell_bytes B) t in
      (r.0, ap₂ drop z a ∙ r.1 ∙ ap (λ x. be32 (S x u) ++ r.0) (sym d))
  rows_drop N v (suc m) (suc p) q k u t e h f g =
      let A = run v 1 N in
      let B = runs (λ _. 1) (λ _. N) (v + 1) m in
      let r = rows_drop N (v + 1) m p q k u t (omega arith) (omega arith) f g in
      let z : 4 * (suc p * N + q) ≡ 4 * N + 4 * (p * N + q) = omega (arith, suc-mul p N) in
      let a : flat_map cell_bytes (A ++ B) ++ t ≡ flat_map cell_bytes A ++ (flat_map cell_bytes B ++ t) =
      ap (λ xs. xs ++ t) (joined_append cell_bytes A B) ∙ append_assoc (flat_map cell_bytes A) (flat_map cell_bytes B) t in (
        r.0,
        ap₂ drop z a ∙ drop_front (flat_map cell_bytes A) (flat_map cell_bytes B ++ t) (4 * N) (4 * (p * N + q)) (row_long v 1 N) ∙ r.1,
      )

  -- the number for k and u stands at its place behind five bytes
  number_there : (N k u a b c d e : ℕ) (t : List ℕ) → Within N k → Within N u → S k u < 4294967296 →
      at32 (a ∷ b ∷ c ∷ d ∷ e ∷ (table_bytes N S ++ t)) (place_of N k u) ≡ S k u
  number_there N k u a b c d e t hk hu small =
      let r = rows_drop N 1 N (k - 1) (u - 1) k u t (omega arith) (omega arith) (omega arith) (omega arith) in
      let x = 4 * ((k - 1) * N + (u - 1)) in
      let z : place_of N k u ≡ suc (suc (suc (suc (suc x)))) = omega arith in
      at32_here (a ∷ b ∷ c ∷ d ∷ e ∷ (table_bytes N S ++ t)) (place_of N k u) (S k u) r.0
      (ap (λ n. drop n (a ∷ b ∷ c ∷ d ∷ e ∷ (table_bytes N S ++ t))) z ∙ r.1) small

pub within_true : (N u : ℕ) → Within N u → within N u ≡ true
within_true N u h = and_from (leb 1 u) (leb u N) (le-leb 1 u h.0) (le-leb u N h.1)

pub true_within : (N u : ℕ) → within N u ≡ true → Within N u
true_within N u h = let p = and_parts (leb 1 u) (leb u N) h in (leb-true 1 u p.0, leb-true u N p.1)

-- in the group the table is itself
pub inside : (N : ℕ) (S : ℕ → ℕ → ℕ) (k u : ℕ) → Within N k → Within N u → restricted N S k u ≡ S k u
inside N S k u hk hu =
    cond-true (within N k && within N u) (S k u) 0
    (and_from (within N k) (within N u) (within_true N k hk) (within_true N u hu))

cond_same : (b : Bool) (x y : ℕ) → (b ≡ true → x ≡ y) → cond b x 0 ≡ cond b y 0
cond_same true x y h = h refl
cond_same false x y h = refl

-- tables that agree in the group
pub same_restricted : (N : ℕ) (S S' : ℕ → ℕ → ℕ) → ((k u : ℕ) → Within N k → Within N u → S k u ≡ S' k u) →
    restricted N S ≡ restricted N S'
same_restricted N S S' h =
    fun_ext (λ k. fun_ext (λ u. cond_same (within N k && within N u) (S k u) (S' k u)
    (λ e. let p = and_parts (within N k) (within N u) e in h k u (true_within N k p.0) (true_within N u p.1))))

table_there : (N : ℕ) (S : ℕ → ℕ → ℕ) (a b c d e : ℕ) (t : List ℕ) →
    ((k u : ℕ) → Within N k → Within N u → S k u ≤ 1000000) →
    table_at N (a ∷ b ∷ c ∷ d ∷ e ∷ (table_bytes N S ++ t)) ≡ restricted N S
table_there N S a b c d e t small =
    same_restricted N (λ k u. at32 (a ∷ b ∷ c ∷ d ∷ e ∷ (table_bytes N S ++ t)) (place_of N k u)) S
    (λ k u hk hu. number_there S N k u a b c d e t hk hu (let h = small k u hk hu in omega arith))

-- a table without a bad number
table_passes : (N k : ℕ) (S : ℕ → ℕ → ℕ) →
    ((r u : ℕ) → Within N r → Within N u → (S r u ≤ 1000000) × (S r u ≤ S k u)) →
    ((u : ℕ) → Within N u → S u u ≡ S k u) →
    table_checked N k S ≡ Ok tt
table_passes N k S small own =
    ap (λ o. none_of o (λ c. bad_table (place_of N c.0 c.1)))
    (first_none (bad_number S k) (cells N)
    (λ c m.
    let w = runs_in (λ _. 1) (λ _. N) 1 N c m in
    let r = c.0 in
    let u = c.1 in
    let h = small r u (w.0, omega arith) (w.2, omega arith) in
    or_from (ltb 1000000 (S r u)) _ (le-ltb 1000000 (S r u) h.0)
    (or_from (ltb (S k u) (S r u)) _ (le-ltb (S k u) (S r u) h.1) (diagonal r u (w.2, omega arith)))))
  where
    diagonal : (r u : ℕ) → Within N u → (eqb r u && not (eqb (S r u) (S k u))) ≡ false
    diagonal r u h =
        elim (cases_eq r u) [
          | inl e ↦
              and_right (eqb r u) (not (eqb (S r u) (S k u)))
              (not_from_true (eqb (S r u) (S k u)) (eq-eqb (S r u) (S k u) (ap (λ x. S x u) e ∙ own u h)))
          | inr d ↦ and_left (eqb r u) (not (eqb (S r u) (S k u))) (ne_eqb r u d)
        ]

-- the table of a sheet
pub table_reads : (N k : ℕ) (S : ℕ → ℕ → ℕ) (a b c d e : ℕ) (t : List ℕ) → Within N k →
    ((r u : ℕ) → Within N r → Within N u → S r u ≤ S k u) →
    ((u : ℕ) → Within N u → S u u ≡ S k u) →
    ((u : ℕ) → Within N u → S k u ≤ 1000000) →
    table_read N k (a ∷ b ∷ c ∷ d ∷ e ∷ (table_bytes N S ++ t)) ≡ Ok (restricted N S)
table_reads N k S a b c d e t hk tops own small =
    let bs = a ∷ b ∷ c ∷ d ∷ e ∷ (table_bytes N S ++ t) in
    let low : (r u : ℕ) → Within N r → Within N u → S r u ≤ 1000000 =
    λ r u hr hu. let x = tops r u hr hu in let y = small u hu in omega arith in
    let here = table_there N S a b c d e t low in
    let long : front_length N ≤ length bs =
    let x = length-append (table_bytes N S) t in let y = rows_long S N 1 N in omega arith in
    let fine : table_checked N k (restricted N S) ≡ Ok tt =
    table_passes N k (restricted N S)
    (λ r u hr hu.
    let x = inside N S r u hr hu in let y = inside N S k u hk hu in let z = tops r u hr hu in let w = low r u hr hu in
    omega arith)
    (λ u hu. inside N S u u hu hu ∙ own u hu ∙ sym (inside N S k u hk hu)) in
    passes (leb (front_length N) (length bs)) (ends_early (length bs)) _ _ (le-leb (front_length N) (length bs) long)
    (ap (λ X. table_checked N k X >>= λ _. Ok X) here ∙ ap (λ m. m >>= λ _. Ok (restricted N S)) fine)

-- the runs of the same origins with the same numbers
pub same_runs : (f c f' c' : ℕ → ℕ) (v m : ℕ) → ((u : ℕ) → v ≤ u → u < v + m → (f u ≡ f' u) × (c u ≡ c' u)) →
    runs f c v m ≡ runs f' c' v m
same_runs f c f' c' v zero h = refl
same_runs f c f' c' v (suc m) h =
    let x = h v (omega arith) (omega arith) in
    ap₂ ◌++◌ (ap₂ (run v) x.0 x.1) (same_runs f c f' c' (v + 1) m (λ u a b. h u (omega arith) (omega arith)))

pub same_stamps : (N k i : ℕ) (S : ℕ → ℕ → ℕ) → Within N k → Within N i → stamps N k i (restricted N S) ≡ stamps N k i S
same_stamps N k i S hk hi =
    same_runs (λ u. restricted N S i u + 1) (λ u. restricted N S k u - restricted N S i u) (λ u. S i u + 1) (λ u. S k u - S i u) 1 N
    (λ u a b.
    let x = inside N S i u hi (a, omega arith) in let y = inside N S k u hk (a, omega arith) in
    (ap (λ n. n + 1) x, ap₂ ◌-◌ y x))

same_row : (S S' : ℕ → ℕ → ℕ) (k n m : ℕ) → ((u : ℕ) → n ≤ u → u < n + m → S k u ≡ S' k u) →
    flat_map (λ (c : ℕ × ℕ). be32 (S c.0 c.1)) (run k n m) ≡ flat_map (λ (c : ℕ × ℕ). be32 (S' c.0 c.1)) (run k n m)
same_row S S' k n zero h = refl
same_row S S' k n (suc m) h =
    ap₂ (λ x ys. be32 x ++ ys) (h n (omega arith) (omega arith)) (same_row S S' k (n + 1) m (λ u a b. h u (omega arith) (omega arith)))

same_rows : (S S' : ℕ → ℕ → ℕ) (N v m : ℕ) → ((k u : ℕ) → v ≤ k → k < v + m → 1 ≤ u → u ≤ N → S k u ≡ S' k u) →
    flat_map (λ (c : ℕ × ℕ). be32 (S c.0 c.1)) (runs (λ _. 1) (λ _. N) v m)
    ≡ flat_map (λ (c : ℕ × ℕ). be32 (S' c.0 c.1)) (runs (λ _. 1) (λ _. N) v m)
same_rows S S' N v zero h = refl
same_rows S S' N v (suc m) h =
    let B = runs (λ _. 1) (λ _. N) (v + 1) m in
    joined_append (λ (c : ℕ × ℕ). be32 (S c.0 c.1)) (run v 1 N) B
    ∙ ap₂ ◌++◌ (same_row S S' v 1 N (λ u a b. h v u (omega arith) (omega arith) a (omega arith)))
    (same_rows S S' N (v + 1) m (λ k u a b. h k u (omega arith) (omega arith)))
    ∙ sym (joined_append (λ (c : ℕ × ℕ). be32 (S' c.0 c.1)) (run v 1 N) B)

-- tables that agree in the group have the same bytes
pub same-table_bytes : (N : ℕ) (S S' : ℕ → ℕ → ℕ) → ((k u : ℕ) → Within N k → Within N u → S k u ≡ S' k u) → table_bytes N S ≡ table_bytes N S'
same-table_bytes N S S' h = same_rows S S' N 1 N (λ k u a b c d. h k u (a, omega arith) (c, d))
