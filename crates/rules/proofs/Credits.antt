-- The numbers of a table after one is raised, and what the table credits every site with.
-- Assumes nothing.
use Rattle.std.proofs.Common.{◌≡◌, ℕ, zero, suc, ◌≤◌, true, cond, eqb, leb, sym, refl, ◌∙◌, subst, inl, inr, arith}
use native.Mathlib.Decide.{ℕ_discrete}
use Rattle.std.proofs.lemmas.Bool.{leb-true, le-leb, eqb-true, eq-eqb, cond_both, cond-true, and_parts, and_from}
use Rattle.rules.specs.Tables.{Table, Credited, credits_all, least_credited, raised}
use Rattle.rules.proofs.Count.{split}

-- a raised number
pub raised_there : (T : ℕ → ℕ → ℕ) (i v : ℕ) → raised T i i v i i ≡ v
raised_there T i v =
    cond-true (eqb i i) (cond (eqb i i) v (T i i)) (T i i) (eq-eqb i i refl)
    ∙ cond-true (eqb i i) v (T i i) (eq-eqb i i refl)

pub raised_else : (T : ℕ → ℕ → ℕ) (i v k u : ℕ) → ((k ≡ i) × (u ≡ i) → ⊥) → raised T i i v k u ≡ T k u
raised_else T i v k u d =
    cond_both (eqb k i) (cond (eqb u i) v (T k u)) (T k u) (λ x. x ≡ T k u)
    (λ e.
    cond_both (eqb u i) v (T k u) (λ x. x ≡ T k u) (λ f. absurd (d (eqb-true k i e, eqb-true u i f))) (λ f. refl))
    (λ e. refl)

-- the test of what is credited to every site
pub credits_true : (N : ℕ) (T : ℕ → ℕ → ℕ) (u n : ℕ) → credits_all N T u n ≡ true → Credited N T u n
credits_true zero T u n e k w = absurd (omega arith)
credits_true (suc N) T u n e k w =
    let x = and_parts (leb n (T (suc N) u)) (credits_all N T u n) e in
    elim (split k N) [
      | inl l ↦ credits_true N T u n x.1 k (w.0, l)
      | inr l ↦
          let q : suc N ≡ k = omega arith in subst (λ (a : ℕ). n ≤ T a u) q (leb-true n (T (suc N) u) x.0)
    ]

pub credits_from : (N : ℕ) (T : ℕ → ℕ → ℕ) (u n : ℕ) → Credited N T u n → credits_all N T u n ≡ true
credits_from zero T u n c = refl
credits_from (suc N) T u n c =
    and_from (leb n (T (suc N) u)) (credits_all N T u n) (le-leb n (T (suc N) u) (c (suc N) (omega arith)))
    (credits_from N T u n (λ k w. c k (omega arith)))

-- the smallest number of a column
pub least_all : (N : ℕ) (T : Table) (u n : ℕ) → n ≤ least_credited N T u → Credited N T u n
least_all zero T u n l k w = absurd (omega arith)
least_all (suc zero) T u n l k w = let e : k ≡ 1 = omega arith in subst (λ (a : ℕ). n ≤ T a u) (sym e) l
least_all (suc (suc m)) T u n l k w =
    elim (ℕ_discrete k (suc (suc m))) [
      | yes e ↦ subst (λ (a : ℕ). n ≤ T a u) (sym e) (omega arith)
      | no d ↦ least_all (suc m) T u n (omega arith) k (w.0, omega arith)
    ]

pub all_least : (N : ℕ) (T : Table) (u n : ℕ) → 1 ≤ N → Credited N T u n → n ≤ least_credited N T u
all_least zero T u n one c = absurd (omega arith)
all_least (suc zero) T u n one c = c 1 (omega arith)
all_least (suc (suc m)) T u n one c =
    let a = c (suc (suc m)) (omega arith) in
    let b = all_least (suc m) T u n (omega arith) (λ k w. c k (w.0, omega arith)) in omega arith
