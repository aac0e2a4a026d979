-- One site: its state, and what each call answers and leaves. A call that is turned away leaves the state as it was.
-- Assumes nothing.
use Rattle.std.specs.Prelude.{ℕ, ◌+◌, ◌-◌, Bool, false, not, ◌&&◌, ◌||◌, ltb, List, [], ◌∷◌, ◌++◌, length, drop, Some, Ok, Err, filter, Result, ◌==◌, nat_le, nat_lt}
use Rattle.rules.specs.Results.{◌>>=◌, require}
use Rattle.rules.specs.Refusals.{Refusal, bad_site, short_for_writing, bad_addressee, no_entry, events_used}
use Rattle.rules.specs.Stamps.{Stamp, within, same, insert}
use Rattle.rules.specs.Records.{Body, booked, struck, Record, Entry}
use Rattle.rules.specs.Kinds.{Kind}
use Rattle.rules.specs.Stores.{Limits, log_within}
use Rattle.rules.specs.Entries.{join, leave, holds, entries_within}
use Rattle.rules.specs.Tables.{Table, restricted, raised, merged, credits_all}
use Rattle.rules.specs.Sheets.{Sheet, written}
use Rattle.rules.specs.Reading.{read}

-- what a call is given: the group's size N, the site's own number, the kind of entry, the store's limits,
-- and how many entries the calendar that is handed in can hold
pub record Setting (E : Type 0) : Type 0 where
  pub sites : ℕ
  pub own : ℕ
  pub kind : Kind E
  pub limits : Limits
  pub room : ℕ

-- the table, the log and the calendar's entries, the two lists in stamp order
pub record State (E : Type 0) : Type 0 where
  pub table : Table
  pub log : List (Record E)
  pub entries : List (Entry E)

-- the check of site i in a group of N, 1
abbrev pub site_checked : (N i : ℕ) → Result (Unit {0}) Refusal
site_checked N i = do
  _ ← require (nat_le 2 N && nat_le N 8) (bad_site 0)
  require (within N i) (bad_site 1)

-- nothing is known, logged or entered
abbrev pub fresh : {E : Type 0} → State E
fresh = record { table = λ k u. 0; log = []; entries = [] }

-- making a site: whatever the store and the calendar hold that it is given leaves
abbrev pub make : {E : Type 0} → List (Record E) → List (Entry E) → State E
make rs es = fresh

module _ {E : Type 0} where
  -- the number of site i's next event
  abbrev pub next : ℕ → State E → ℕ
  next i s = s.table i i + 1

  -- the entries after event n of i: what it books joins, what it strikes leaves
  abbrev pub changed : (i n : ℕ) → Body E → List (Entry E) → List (Entry E)
  changed i n (booked e) es = join (i, n, e) es
  changed i n (struck v m) es = leave v m es

  -- site i after its next event, which does b
  abbrev pub after_making : ℕ → Body E → State E → State E
  after_making i b s =
      record {
        table = raised s.table i i (next i s);
        log = insert (i, next i s, b) s.log;
        entries = changed i (next i s) b s.entries;
      }

  -- the records that T does not credit k with
  abbrev pub unknown : Table → ℕ → List (Record E) → List (Record E)
  unknown T k rs = filter (λ r. ltb (T k r.0) r.1) rs

  -- what the sheet of k for i says in a group of N: the whole table, and the log's records that it does not credit i with
  abbrev pub sheet_for : (N k i : ℕ) → State E → Sheet E
  sheet_for N k i s = record { writer = k; addressee = i; table = restricted N s.table; records = unknown s.table i s.log }

  -- the new records of a sheet: those that the table does not credit i with
  abbrev pub new_records : ℕ → Sheet E → State E → List (Record E)
  new_records i p s = unknown s.table i p.records

  -- records join a log one after the other
  abbrev pub all_inserted : List (Record E) → List (Record E) → List (Record E)
  all_inserted [] xs = xs
  all_inserted (r ∷ rs) xs = all_inserted rs (insert r xs)

  -- the entry that event n of u books, if it books one, joins
  abbrev pub with_booked : (u n : ℕ) → Body E → List (Entry E) → List (Entry E)
  with_booked u n (booked e) es = join (u, n, e) es
  with_booked u n (struck v m) es = es

  -- the entries that records book join one after the other
  abbrev pub all_booked : List (Record E) → List (Entry E) → List (Entry E)
  all_booked [] es = es
  all_booked (r ∷ rs) es = all_booked rs (with_booked r.0 r.1 r.2 es)

  -- an event strikes the stamp u.n
  abbrev pub strikes : Body E → (u n : ℕ) → Bool
  strikes (booked e) u n = false
  strikes (struck v m) u n = same v m u n

  -- some record strikes the stamp u.n
  abbrev pub struck_by : List (Record E) → (u n : ℕ) → Bool
  struck_by [] u n = false
  struck_by (r ∷ rs) u n = strikes r.2 u n || struck_by rs u n

  -- site i of N after it accepts p: the larger numbers in the table; the log and the new records, without those that the table then
  -- credits every site with; the entries and those that new records book, without those that new records strike
  abbrev pub after_accepting : (N i : ℕ) → Sheet E → State E → State E
  after_accepting N i p s =
      record {
        table = merged i p.writer s.table p.table;
        log =
            filter (λ r. not (credits_all N (merged i p.writer s.table p.table) r.0 r.1))
            (all_inserted (new_records i p s) s.log);
        entries =
            filter (λ e. not (struck_by (new_records i p s) e.0 e.1)) (all_booked (new_records i p s) s.entries);
      }

  -- how many records are taken: the new ones
  abbrev pub taken : ℕ → Sheet E → State E → ℕ
  taken i p s = length (new_records i p s)

  -- how many records are dropped: the old log's count and the taken, less the new log's count
  abbrev pub dropped : (N i : ℕ) → Sheet E → State E → ℕ
  dropped N i p s = length s.log + taken i p s - length (after_accepting N i p s).log

  -- the answer, and the state afterwards: as before if the call is turned away
  abbrev pub settled : {A : Type 0} → State E → Result (A × State E) Refusal → Result A Refusal × State E
  settled s (Ok r) = (Ok r.0, r.1)
  settled s (Err x) = (Err x, s)

-- the calls at a site in its setting and its state
module _ {E : Type 0} (S : Setting E) (s : State E) where
  -- booking e, 24, 21, 22: the stamp of its event, and the state after it
  abbrev pub booking : E → Result (Stamp × State E) Refusal
  booking e =
      let t = after_making S.own (booked e) s in do
        _ ← require (nat_lt (s.table S.own S.own) 1000000) events_used
        _ ← log_within S.limits t.log
        _ ← entries_within S.room t.entries
        Ok ((S.own, next S.own s), t)

  -- the answer of booking, and what it leaves
  abbrev pub book : E → Result Stamp Refusal × State E
  book e = settled s (booking e)

  -- striking v.m, 23, 24, 21: the strike's own stamp, and the state after it
  abbrev pub striking : (v m : ℕ) → Result (Stamp × State E) Refusal
  striking v m =
      let t = after_making S.own (struck v m) s in do
        _ ← require (holds v m s.entries && nat_le m (s.table S.own v)) (no_entry m)
        _ ← require (nat_lt (s.table S.own S.own) 1000000) events_used
        _ ← log_within S.limits t.log
        Ok ((S.own, next S.own s), t)

  -- the answer of striking, and what it leaves
  abbrev pub strike : (v m : ℕ) → Result Stamp Refusal × State E
  strike v m = settled s (striking v m)

  -- the bytes of the sheet for site k
  abbrev pub sheet_bytes : ℕ → List ℕ
  sheet_bytes k = written S.kind S.sites S.own k s.table (unknown s.table k s.log)

  -- writing for k into a buffer, 10, 9: the sheet's length
  abbrev pub writing : ℕ → List ℕ → Result ℕ Refusal
  writing k buffer = do
    _ ← require (within S.sites k && not (k == S.own)) (bad_addressee k)
    _ ← require (nat_le (length (sheet_bytes k)) (length buffer)) (short_for_writing (length (sheet_bytes k)))
    Ok (length (sheet_bytes k))

  -- the buffer afterwards: the sheet, and behind it what was there
  abbrev pub filled : ℕ → List ℕ → Result ℕ Refusal → List ℕ
  filled k buffer (Ok n) = sheet_bytes k ++ drop n buffer
  filled k buffer (Err x) = buffer

  -- the answer of writing, and the buffer afterwards
  abbrev pub write : ℕ → List ℕ → Result ℕ Refusal × List ℕ
  write k buffer = (writing k buffer, filled k buffer (writing k buffer))

  -- the site after writing for k: as it was
  abbrev pub after_writing : ℕ → State E
  after_writing k = s

  -- accepting a sheet's bytes, the reading's grounds, then 21, 22: how many records are taken and how many dropped, and the state after it
  abbrev pub accepting : List ℕ → Result ((ℕ × ℕ) × State E) Refusal
  accepting bs = do
    p ← read S.kind S.sites S.own (Some (s.table S.own)) bs
    _ ← log_within S.limits (after_accepting S.sites S.own p s).log
    _ ← entries_within S.room (after_accepting S.sites S.own p s).entries
    Ok ((taken S.own p s, dropped S.sites S.own p s), after_accepting S.sites S.own p s)

  -- the answer of accepting, and what it leaves
  abbrev pub accept : List ℕ → Result (ℕ × ℕ) Refusal × State E
  accept bs = settled s (accepting bs)
