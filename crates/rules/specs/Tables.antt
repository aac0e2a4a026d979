-- The time table of a site: how many events of each origin it credits each site with.
-- Assumes nothing.
use Rattle.std.specs.Prelude.{ℕ, zero, suc, ◌≤◌, min, max, Bool, true, cond, ◌&&◌, ◌==◌, nat_le}
use Rattle.rules.specs.Stamps.{Within, within}

-- T k u is the number of u's events that site k is credited with
abbrev pub Table : Type 0
Table = ℕ → ℕ → ℕ

-- T credits every site of the group of N with event n of u: each has at least n of u's events
abbrev pub Credited : ℕ → Table → (u n : ℕ) → Type 0
Credited N T u n = (k : ℕ) → Within N k → n ≤ T k u

-- the test of Credited
abbrev pub credits_all : ℕ → Table → (u n : ℕ) → Bool
credits_all zero T u n = true
credits_all (suc k) T u n = nat_le n (T (suc k) u) && credits_all k T u n

-- the smallest number of column u: how many of u's events T credits every site from 1 to N with
abbrev pub least_credited : ℕ → Table → ℕ → ℕ
least_credited zero T u = 0
least_credited (suc zero) T u = T 1 u
least_credited (suc (suc k)) T u = min (T (suc (suc k)) u) (least_credited (suc k) T u)

-- the table in the group of N, and 0 outside
abbrev pub restricted : ℕ → Table → Table
restricted N T = λ k u. cond (within N k && within N u) (T k u) 0

-- the table with the number for k and u set to n, and all others as they were
abbrev pub raised : Table → (k u n : ℕ) → Table
raised T k u n = λ a w. cond (a == k) (cond (w == u) n (T a w)) (T a w)

-- T after site i accepts the table S from k: at each place the larger number, and in row i also no less than row k of S
abbrev pub merged : (i k : ℕ) → Table → Table → Table
merged i k T S = λ a u. cond (a == i) (max (max (T a u) (S a u)) (S k u)) (max (T a u) (S a u))
