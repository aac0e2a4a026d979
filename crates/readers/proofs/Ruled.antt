-- A record is judged as the rules judge it: the refusals differ only in what they say is wrong.
use Rattle.std.proofs.Common.{◌≡◌, ℕ, ◌+◌, Bool, true, false, cond, ◌&&◌, eqb, ltb, leb, List, length, get_or, Ok, Err, Result, refl, ap, ◌∙◌}
use Rattle.rules.specs.Results.{◌>>=◌, require, refused_as}
use Rattle.rules.specs.Refusals.{bad_record, bad_entry_at}
use Rattle.rules.specs.Numbers.{at32}
use Rattle.rules.specs.Stamps.{within}
use Rattle.rules.specs.Records.{Body, booked, struck}
use Rattle.rules.specs.Reading.{Part, entry_part, stamp_part, cut, part_at, body_of, record_at}
use Rattle.kinds.specs.declared.refusal.EntryRefusal.{EntryRefusal}
use Rattle.kinds.specs.Formats.{Format, rule_of}
use Rattle.kinds.specs.Refused.{unlawful_of}
use Rattle.readers.specs.declared.refusal.RecordByte.TheVariants.{StruckSite, StruckNumber}
use Rattle.readers.specs.declared.refusal.SheetRefusal.TheVariants.{EndsEarly, Record, Entry}
use Rattle.readers.specs.Refused.{refusal_of}
use Rattle.readers.specs.Judged.{cut_judged, part_judged, body_judged, record_judged}

-- step by step
pub then_as : {A B X Y : Type 0} (g : X → Y) (m : Result A X) (h : A → Result B X) (n : Result A Y) (k : A → Result B Y) →
    refused_as g m ≡ n → ((a : A) → refused_as g (h a) ≡ k a) → refused_as g (m >>= h) ≡ (n >>= k)
then_as g (Ok a) h n k e f = f a ∙ ap (λ z. z >>= k) e
then_as g (Err x) h n k e f = ap (λ z. z >>= k) e

pub test_as : {A X Y : Type 0} (g : X → Y) (b : Bool) (x : X) (m : Result A X) (n : Result A Y) →
    refused_as g m ≡ n → refused_as g (require b x >>= λ _. m) ≡ (require b (g x) >>= λ _. n)
test_as g true x m n e = e
test_as g false x m n e = refl

cond_as : {A X Y : Type 0} (g : X → Y) (b : Bool) (m m' : Result A X) (n n' : Result A Y) →
    refused_as g m ≡ n → refused_as g m' ≡ n' → refused_as g (cond b m m') ≡ cond b n n'
cond_as g true m m' n n' e f = e
cond_as g false m m' n n' e f = f

cut_ruled : (bs : List ℕ) (f : List ℕ → ℕ → Part) (at n : ℕ) → refused_as refusal_of (cut_judged bs f at n) ≡ cut bs f at n
cut_ruled bs f at n = test_as refusal_of (leb (at + n) (length bs)) (EndsEarly (length bs)) _ _ refl

part_ruled : (width : ℕ) (bs : List ℕ) (at : ℕ) → refused_as refusal_of (part_judged width bs at) ≡ part_at width bs at
part_ruled width bs at =
    test_as refusal_of (ltb at (length bs)) (EndsEarly (length bs)) _ _
    (cond_as refusal_of (eqb (get_or bs at 0) 1) _ _ _ _ (cut_ruled bs entry_part (at + 1) width)
    (cond_as refusal_of (eqb (get_or bs at 0) 2) _ _ _ _ (cut_ruled bs stamp_part (at + 1) 5) refl))

module _ {E : Type 0} (f : Format E) (N : ℕ) (known : ℕ → ℕ) where
  entry_ruled : (at : ℕ) (d : Result E EntryRefusal) →
      refused_as refusal_of (refused_as (λ x. Entry (at + (unlawful_of x).place) x) d >>= λ e. Ok (booked e))
      ≡ (refused_as (bad_entry_at at) (refused_as unlawful_of d) >>= λ e. Ok (booked e))
  entry_ruled at (Ok e) = refl
  entry_ruled at (Err x) = refl

  body_ruled : (p : Part) → refused_as refusal_of (body_judged f N known p) ≡ body_of (rule_of f) N known p
  body_ruled (entry_part xs at) = entry_ruled at (f.decoded xs)
  body_ruled (stamp_part xs at) =
      tests (within N (get_or xs 0 0)) (leb 1 (at32 xs 1) && leb (at32 xs 1) (known (get_or xs 0 0))) (get_or xs 0 0, at32 xs 1)
    where
      tests : (a b : Bool) (s : ℕ × ℕ) →
          refused_as {A = Body E} refusal_of
          ((require a (Record at StruckSite) >>= λ _. require b (Record (at + 1) StruckNumber) >>= λ _. Ok s) >>= λ z. Ok (struck z.0 z.1))
          ≡ (require a (bad_record at) >>= λ _. require b (bad_record (at + 1)) >>= λ _. Ok (struck s.0 s.1))
      tests false b s = refl
      tests true false s = refl
      tests true true s = refl

  pub record_ruled : (bs : List ℕ) (at : ℕ) → refused_as refusal_of (record_judged f N known bs at) ≡ record_at (rule_of f) N known bs at
  record_ruled bs at =
      then_as refusal_of (part_judged f.width bs at) _ (part_at f.width bs at) _ (part_ruled f.width bs at)
      (λ p. then_as refusal_of (body_judged f N known p.0) _ (body_of (rule_of f) N known p.0) _ (body_ruled p.0) (λ b. refl))
