-- Pieces put into a run of bytes: two that follow each other are one, a store is a piece of one byte, and pieces from the start on fill the run.
use mathlib.Core.List.{List, [], ◌∷◌, ◌++◌, append_assoc}
use mathlib.Core.Path.{◌≡◌, refl, sym, ap, ◌∙◌}
use Prim.Native.Nat.{ℕ, suc, ◌+◌, ◌/◌, ◌%◌, ◌≤◌, ◌<◌}
use native.Mathlib.Nat.{zero-add}
use native.Mathlib.Numerals.{add-one}
use native.Mathlib.Omega.{arith}
use lib.ListN.{length, get_or, set, take, drop, length-append, length-drop, length-set, take-append-drop}
use lib.Seq.{paste, paste-zero, take-length, length-take-le, take-suc, take_at, drop-append-add, drop-drop, set_at, set_split, append_snoc}
use Rattle.law.specs.Reading.{decimal}
use Rattle.law.proofs.TextDecimal.{decimal_ten}
use Rattle.law.proofs.TextWrite.{Left, left_start, left_next, left_last, left_fits}
use Rattle.refusal.specs.declared.Refusal.{Refusal}
use Rattle.refusal.specs.declared.Refusal.TheVariants.{NotWholeRows, NoRows, ManyRows, Id, T, D, C, K, M, Repeated, Unschedulable, Text, Room, State, Clock, P, NotOld, Log}
use Rattle.refusal.specs.Shown.{number_of}
use Rattle.line.specs.Put.{put_at, line_of}

module _ (old : List ℕ) (at : ℕ) where
  -- two pieces, the second where the first ended, are one
  pub put_put : (a b : List ℕ) → at + length a ≤ length old → put_at (put_at old at a) (at + length a) b ≡ put_at old at (a ++ b)
  unfolding put_at
  put_put a b h =
      let front : List ℕ = take at old ++ a in
      let rest : List ℕ = drop (at + length a) old in
      let n : length front ≡ at + length a = length-append (take at old) a ∙ omega (arith, length-take-le at old (omega arith)) in
      let same : take at old ++ (a ++ rest) ≡ front ++ rest = sym (append_assoc (take at old) a rest) in
      let place : at + length a + length b ≡ at + length (a ++ b) = omega (arith, length-append a b) in
      let back : drop (at + length a + length b) (front ++ rest) ≡ drop (at + length (a ++ b)) old =
      ap (λ (z : ℕ). drop (z + length b) (front ++ rest)) (sym n) ∙ drop-append-add front rest (length b)
      ∙ drop-drop (length b) (at + length a) old ∙ ap (λ (z : ℕ). drop z old) place in
      rw same
      (rw (take_at front rest (at + length a) n, back)
      (append_assoc (take at old) a (b ++ drop (at + length (a ++ b)) old)
      ∙ ap (λ (z : List ℕ). take at old ++ z) (sym (append_assoc a b (drop (at + length (a ++ b)) old)))))

  pub put_none : put_at old at [] ≡ old
  unfolding put_at
  put_none = sym (paste-zero old at [] ∙ append_assoc (take at old) [] (drop (at + 0) old))

  pub put_paste : (a : List ℕ) → paste old at a (length a) ≡ put_at old at a
  unfolding put_at
  put_paste a = append_assoc (take at old) (take (length a) a) (drop (at + length a) old) ∙ rw take-length

  pub put_one : (b : ℕ) → at < length old → set old at b ≡ put_at old at (b ∷ [])
  unfolding put_at
  put_one b h = set_split old at b h ∙ ap (λ (z : ℕ). take at old ++ (b ∷ drop z old)) (sym (add-one at))

  pub put_length : (a : List ℕ) → at + length a ≤ length old → length (put_at old at a) ≡ length old
  unfolding put_at
  put_length a h =
      length-append (take at old) (a ++ drop (at + length a) old)
      ∙ omega (arith, length-take-le at old (omega arith), length-append a (drop (at + length a) old), length-drop (at + length a) old)

  -- the next store of a run that is filled from behind
  pub back_next : (out rest : List ℕ) (b : ℕ) → at < length old → out ≡ take (suc at) old ++ rest → set out at b ≡ take at old ++ (b ∷ rest)
  back_next out rest b h e =
      ap (λ (z : List ℕ). set z at b) (e ∙ ap (λ (z : List ℕ). z ++ rest) (take-suc old at 0 h) ∙ append_snoc (take at old) (get_or old at 0) rest)
      ∙ set_at (take at old) (get_or old at 0) rest b at (length-take-le at old (omega arith))

pub put_front : (old a : List ℕ) → put_at old 0 a ≡ a ++ drop (length a) old
unfolding put_at
put_front old a = ap (λ (z : ℕ). a ++ drop z old) (zero-add (length a))

pub front_taken : {out : List ℕ} {n : ℕ} (old a : List ℕ) → out ≡ put_at old 0 a → n ≡ length a → take n out ≡ a
front_taken {out} {n} old a e i =
    ap (λ (z : List ℕ). take n z) (e ∙ put_front old a) ∙ take_at a (drop (length a) old) n (sym i)

-- a line: its length, and that it is put by its three pieces
pub line_length : (key : List ℕ) (v : ℕ) → length (line_of key v) ≡ length key + length (decimal v) + 1
unfolding line_of
line_length key v = length-append key (decimal v ++ (10 ∷ [])) ∙ omega (arith, length-append (decimal v) (10 ∷ []))

module _ (old : List ℕ) (at : ℕ) where
  -- a piece behind another
  pub put_then : {out : List ℕ} {next : ℕ} (a b : List ℕ) → at + length a ≤ length old → out ≡ put_at old at a → next ≡ at + length a
      → put_at out next b ≡ put_at old at (a ++ b)
  put_then {next = next} a b h e n =
      ap (λ (z : List ℕ). put_at z next b) e ∙ ap (λ (z : ℕ). put_at (put_at old at a) z b) n ∙ put_put old at a b h

  pub line_put : (key : List ℕ) (v : ℕ) {first second : List ℕ} {value end : ℕ} → at + length (line_of key v) ≤ length old
      → first ≡ put_at old at key → value ≡ at + length key → second ≡ put_at first value (decimal v) → end ≡ value + length (decimal v)
      → set second end 10 ≡ put_at old at (line_of key v)
  unfolding line_of
  line_put key v {second = second} {end = end} h e i f j =
      let n = line_length key v in
      let l = length-append key (decimal v) in
      let both : second ≡ put_at old at (key ++ decimal v) = f ∙ put_then key (decimal v) (omega (arith, n)) e i in
      let next : end ≡ at + length (key ++ decimal v) = omega arith in
      let fits : at + length (key ++ decimal v) ≤ length old = omega arith in
      let long : length second ≡ length old = ap length both ∙ put_length old at (key ++ decimal v) fits in
      put_one second end 10 (omega arith) ∙ put_then (key ++ decimal v) (10 ∷ []) fits both next
      ∙ ap (λ (z : List ℕ). put_at old at z) (append_assoc key (decimal v) (10 ∷ []))

-- A number whose last digits are put, from behind: where the next one goes, and what the run holds.
pub record Filling (old : List ℕ) (at v end : ℕ) (out : List ℕ) (place rest : ℕ) : Type 0 where
  pub digits : List ℕ
  pub left : Left v rest digits
  pub ends : end ≡ at + length (decimal v)
  pub fits : end ≤ length old
  pub next : suc place + length digits ≡ end
  pub kept : length out ≡ length old
  pub bytes : out ≡ take (suc place) old ++ (digits ++ drop end old)

pub filling_start : (old : List ℕ) (at v end place : ℕ) → v ≤ 4294967295 → end ≡ at + length (decimal v) → end ≤ length old → suc place ≡ end
    → Filling old at v end old place v
filling_start old at v end place h e l n =
    record {
      digits = [];
      left = left_start v h;
      ends = e;
      fits = l;
      next = omega arith;
      kept = refl;
      bytes = sym (ap (λ (z : ℕ). take z old ++ drop end old) n ∙ take-append-drop end old);
    }

module _ {old : List ℕ} {at v end : ℕ} {out : List ℕ} {place rest : ℕ} (f : Filling old at v end out place rest) where
  -- the next digit goes in front of those that stand there, and inside the run
  pub filling_in : (at ≤ place) × (place < length out)
  filling_in = omega (arith, f.ends, f.fits, f.next, f.kept, left_fits v rest f.digits f.left)

  -- and where more than one digit is left, it is not the first
  pub filling_far : 10 ≤ rest → at < place
  filling_far h = omega (arith, f.ends, f.next, left_fits v (rest / 10) _ (left_next v rest f.digits f.left h))

  pub filling_next : (place' : ℕ) → 10 ≤ rest → suc place' ≡ place → Filling old at v end (set out place (48 + rest % 10)) place' (rest / 10)
  filling_next place' h e =
      record {
        digits = (48 + rest % 10) ∷ f.digits;
        left = left_next v rest f.digits f.left h;
        ends = f.ends;
        fits = f.fits;
        next = omega (arith, f.next);
        kept = length-set out place (48 + rest % 10) ∙ f.kept;
        bytes = back_next old place out (f.digits ++ drop end old) (48 + rest % 10) (omega (arith, f.kept, filling_in.1)) f.bytes
            ∙ ap (λ (z : ℕ). take z old ++ ((48 + rest % 10) ∷ (f.digits ++ drop end old))) (sym e);
      }

  pub filling_last : rest < 10 → set out place (48 + rest) ≡ put_at old at (decimal v)
  unfolding put_at
  filling_last h =
      let whole = left_last v rest f.digits f.left h in
      let e : place ≡ at = omega (arith, f.ends, f.next, ap length whole) in
      back_next old place out (f.digits ++ drop end old) (48 + rest) (omega (arith, f.kept, filling_in.1)) f.bytes
      ∙ ap (λ (z : ℕ). take z old ++ (((48 + rest) ∷ f.digits) ++ drop end old)) e
      ∙ ap (λ (z : List ℕ). take at old ++ (z ++ drop end old)) whole
      ∙ ap (λ (z : ℕ). take at old ++ (decimal v ++ drop z old)) f.ends

pub line_most : (key : List ℕ) (v : ℕ) → length (line_of key v) ≤ length key + 11
line_most key v = omega (arith, line_length key v, decimal_ten v)

-- the numbers that there are
pub number_small : (r : Refusal) → number_of r ≤ 18
number_small NotWholeRows = omega arith
number_small NoRows = omega arith
number_small ManyRows = omega arith
number_small (Id row) = omega arith
number_small (T row) = omega arith
number_small (D row) = omega arith
number_small (C row) = omega arith
number_small (K row) = omega arith
number_small (M row) = omega arith
number_small (Repeated row) = omega arith
number_small (Unschedulable row) = omega arith
number_small (Text place) = omega arith
number_small Room = omega arith
number_small State = omega arith
number_small Clock = omega arith
number_small (P row) = omega arith
number_small (NotOld row) = omega arith
number_small (Log place) = omega arith

-- a piece put behind what stands on a page
pub page_put : (bytes piece : List ℕ) {out now : List ℕ} {len next : ℕ} → take len bytes ≡ now → len ≤ length bytes
    → length now + length piece ≤ length bytes → out ≡ put_at bytes len piece → next ≡ len + length piece → take next out ≡ now ++ piece
unfolding put_at
page_put bytes piece {out} {now} {len} {next} v low h e n =
    let m : length (take len bytes ++ piece) ≡ next = length-append (take len bytes) piece ∙ omega (arith, length-take-le len bytes low, n) in
    ap (λ (z : List ℕ). take next z) (e ∙ sym (append_assoc (take len bytes) piece (drop (len + length piece) bytes)))
    ∙ take_at (take len bytes ++ piece) (drop (len + length piece) bytes) next m
    ∙ ap (λ (z : List ℕ). z ++ piece) v
