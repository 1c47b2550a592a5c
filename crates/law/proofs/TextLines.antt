-- The lines of a list of keys, one after the other: reading finds exactly them, a fault stands where the good part can still be made such lines, and
-- nothing past the place that was reached plays a part. By induction over the keys, from the same facts of one line.
use mathlib.Core.Bool.{true}
use mathlib.Core.List.{List, [], ◌∷◌, ◌++◌, map, append_assoc}
use mathlib.Core.Path.{◌≡◌, refl, sym, ap, ◌∙◌}
use Prim.Native.Nat.{ℕ, zero, suc, ◌+◌, ◌≤◌}
use native.Mathlib.Nat.{add-zero}
use native.Mathlib.Omega.{arith}
use lib.ListN.{length, take, drop, length-append}
use lib.Seq.{take-append_seam, take-add, drop-drop, take_at, drop_at}
use Rattle.law.specs.Sums.{every}
use Rattle.law.specs.Text.{keys_of, is_value, number_of, lines}
use Rattle.law.specs.Reading.{Found, found, fault, behind, values_of, line_at, lines_at}
use Rattle.law.proofs.Tests.{both_left, both_right, both_true}
use Rattle.law.proofs.Lists.{every_append}
use Rattle.law.proofs.TextLine.{is_key, reached, Line, Stuck, zero_good, line_whole, line_sound, line_stuck, line_low, line_local}

-- what a reading came to
pub data Outcome (r : Found) : Type 0 where
  came : (values : List ℕ) (next : ℕ) → r ≡ found values next → Outcome r
  fell : (j : ℕ) → r ≡ fault j → Outcome r

pub outcome : (r : Found) → Outcome r
outcome (found values next) = came values next refl
outcome (fault j) = fell j refl

pub came_fell : {r : Found} {values : List ℕ} {next j : ℕ} → r ≡ found values next → r ≡ fault j → ⊥
came_fell e f = let z : ◌≡◌ {A = ℕ} 0 1 = cc in omega arith

-- one line, then the others
module _ (text : List ℕ) (at : ℕ) (key : List ℕ) (keys : List (List ℕ)) where
  pub lines_on : (values : List ℕ) (next : ℕ) → line_at text at key ≡ found values next
      → lines_at text at (key ∷ keys) ≡ behind values (lines_at text next keys)
  unfolding lines_at
  lines_on values next e = rw e

  pub lines_off : (j : ℕ) → line_at text at key ≡ fault j → lines_at text at (key ∷ keys) ≡ fault j
  unfolding lines_at
  lines_off j e = rw e

pub lines_none : (text : List ℕ) (at : ℕ) → lines_at text at [] ≡ found [] at
unfolding lines_at
lines_none text at = refl

-- a line by itself, and the text behind it
line_apart : (key v rest : List ℕ) → key ++ (v ++ (10 ∷ rest)) ≡ (key ++ (v ++ (10 ∷ []))) ++ rest
line_apart key v rest = simp append_assoc

line_length : (key v : List ℕ) → length (key ++ (v ++ (10 ∷ []))) ≡ length key + suc (length v)
line_length key v = simp length-append (omega arith)

module _ (text : List ℕ) (at : ℕ) (key v rest : List ℕ) (e : drop at text ≡ key ++ (v ++ (10 ∷ rest))) where
  pub line_ahead : drop (at + (length key + suc (length v))) text ≡ rest
  line_ahead =
      sym (drop-drop (length key + suc (length v)) at text) ∙ ap (drop (length key + suc (length v))) (e ∙ line_apart key v rest)
      ∙ drop_at (key ++ (v ++ (10 ∷ []))) rest _ (line_length key v)

  line_front : take (at + (length key + suc (length v))) text ≡ take at text ++ (key ++ (v ++ (10 ∷ [])))
  line_front =
      take-add at (length key + suc (length v)) text
      ∙ ap (λ (l : List ℕ). take at text ++ take (length key + suc (length v)) l) (e ∙ line_apart key v rest)
      ∙ ap (λ (l : List ℕ). take at text ++ l) (take_at (key ++ (v ++ (10 ∷ []))) rest _ (line_length key v))

pub lines_whole : (text : List ℕ) (at : ℕ) (keys values : List (List ℕ)) (rest : List ℕ) → every is_value values ≡ true
    → length values ≡ length keys → drop at text ≡ lines keys values ++ rest
    → lines_at text at keys ≡ found (map number_of values) (at + length (lines keys values))
unfolding lines every
lines_whole text at [] [] rest good many e = lines_none text at ∙ ap (λ (z : ℕ). found [] z) (sym (add-zero at))
lines_whole text at [] (v ∷ values) rest good many e = absurd (omega arith)
lines_whole text at (key ∷ keys) [] rest good many e = absurd (omega arith)
lines_whole text at (key ∷ keys) (v ∷ values) rest good many e =
    let split : drop at text ≡ key ++ (v ++ (10 ∷ (lines keys values ++ rest))) = e ∙ simp append_assoc in
    let next = at + (length key + suc (length v)) in
    lines_on text at key keys _ next (line_whole text at key v _ (both_left _ _ good) split)
    ∙ ap (behind (number_of v ∷ []))
    (lines_whole text next keys values rest (both_right (is_value v) _ good) (omega arith) (line_ahead text at key v _ split))
    ∙ ap (λ (z : ℕ). found (number_of v ∷ map number_of values) z) (sym (simp length-append (omega arith)))

-- lines that were found
pub record Lines (text : List ℕ) (at : ℕ) (keys : List (List ℕ)) (values : List ℕ) (next : ℕ) : Type 0 where
  pub digits : List (List ℕ)
  pub good : every is_value digits ≡ true
  pub many : length digits ≡ length keys
  pub words : values ≡ map number_of digits
  pub there : drop at text ≡ lines keys digits ++ drop next text
  pub after : next ≡ at + length (lines keys digits)
  pub fits : next ≤ length text

lines_nil : {text : List ℕ} {at next : ℕ} {values : List ℕ} → at ≤ length text → found [] at ≡ found values next → Lines text at [] values next
unfolding lines every
lines_nil {text} {at} {next} h e =
    let ends : at ≡ next = ap reached e in
    record {
      digits = [];
      good = refl;
      many = refl;
      words = sym (ap values_of e);
      there = ap (λ (n : ℕ). drop n text) ends;
      after = omega arith;
      fits = omega arith;
    }

lines_cons : {text : List ℕ} {at mid next : ℕ} {key : List ℕ} {keys : List (List ℕ)} {word more values : List ℕ}
    → Line text at key word mid → Lines text mid keys more next → values ≡ word ++ more → Lines text at (key ∷ keys) values next
unfolding lines every
lines_cons {text} {next} {key} {keys} line others e =
    record {
      digits = line.digits ∷ others.digits;
      good = both_true _ _ line.good others.good;
      many = ap suc others.many;
      words = cc (line.word, others.words);
      there = line.there ∙ ap (λ (l : List ℕ). key ++ (line.digits ++ (10 ∷ l))) others.there ∙ sym (simp append_assoc);
      after = simp length-append (omega (arith, line.after, others.after));
      fits = others.fits;
    }

pub lines_sound : (text : List ℕ) (at : ℕ) (keys : List (List ℕ)) (values : List ℕ) (next : ℕ) → at ≤ length text
    → lines_at text at keys ≡ found values next → Lines text at keys values next
lines_sound text at [] values next h e = lines_nil h (sym (lines_none text at) ∙ e)
lines_sound text at (key ∷ keys) values next h e =
    elim (outcome (line_at text at key)) [
      | fell j f ↦ absurd (came_fell e (lines_off text at key keys j f))
      | came word mid f ↦ elim (outcome (lines_at text mid keys)) [
        | fell j g ↦ absurd (came_fell e (lines_on text at key keys word mid f ∙ ap (behind word) g))
        | came more last g ↦
            let line = line_sound text at key word mid f in
            let joined : found (word ++ more) last ≡ found values next = sym (lines_on text at key keys word mid f ∙ ap (behind word) g) ∙ e in
            let ends : last ≡ next = ap reached joined in
            lines_cons line (lines_sound text mid keys more next line.fits (g ∙ ap (found more) ends)) (sym (ap values_of joined))
      ]
    ]

-- the text as far as lines were read
pub lines_front : {text : List ℕ} {at next : ℕ} {keys : List (List ℕ)} {values : List ℕ} (l : Lines text at keys values next)
    → take next text ≡ take at text ++ lines keys l.digits
lines_front {text} {at} {next} {keys} l =
    let all = lines keys l.digits in
    ap (λ (n : ℕ). take n text) l.after ∙ take-add at (length all) text
    ∙ ap (λ (back : List ℕ). take at text ++ back) (ap (take (length all)) l.there ∙ take-append_seam all (drop next text))

-- lines of zeros, for keys that nothing was read for yet
pub zeros : List (List ℕ) → List (List ℕ)
zeros [] = []
zeros (key ∷ keys) = (48 ∷ []) ∷ zeros keys

pub zeros_good : (keys : List (List ℕ)) → every is_value (zeros keys) ≡ true
unfolding zeros every
zeros_good [] = refl
zeros_good (key ∷ keys) = both_true _ _ zero_good (zeros_good keys)

pub zeros_many : (keys : List (List ℕ)) → length (zeros keys) ≡ length keys
unfolding zeros
zeros_many [] = refl
zeros_many (key ∷ keys) = ap suc (zeros_many keys)

-- the good part before a fault, and what makes it lines of the keys
pub record LinesStuck (text : List ℕ) (at : ℕ) (keys : List (List ℕ)) (j : ℕ) : Type 0 where
  pub low : at ≤ j
  pub high : j ≤ length text
  pub digits : List (List ℕ)
  pub good : every is_value digits ≡ true
  pub many : length digits ≡ length keys
  pub rest : List ℕ
  pub whole : take j text ++ rest ≡ take at text ++ lines keys digits

-- a line that can be made whole, and any lines behind it
pub whole_behind : {text : List ℕ} {at j : ℕ} {key : List ℕ} (s : Stuck text at key j) (others : List ℕ)
    → take j text ++ (s.rest ++ others) ≡ take at text ++ (key ++ (s.digits ++ (10 ∷ others)))
whole_behind {text} {at} {j} {key} s others =
    sym (append_assoc (take j text) s.rest others)
    ∙ ap (λ (l : List ℕ). l ++ others) s.whole
    ∙ append_assoc (take at text) (key ++ (s.digits ++ (10 ∷ []))) others
    ∙ ap (λ (l : List ℕ). take at text ++ l) (sym (line_apart key s.digits others))

stuck_here : {text : List ℕ} {at j : ℕ} {key : List ℕ} (keys : List (List ℕ)) → Stuck text at key j → LinesStuck text at (key ∷ keys) j
unfolding lines every
stuck_here keys s =
    record {
      low = s.low;
      high = s.high;
      digits = s.digits ∷ zeros keys;
      good = both_true _ _ s.good (zeros_good keys);
      many = ap suc (zeros_many keys);
      rest = s.rest ++ lines keys (zeros keys);
      whole = whole_behind s (lines keys (zeros keys));
    }

-- a line that was found, and what makes the text behind it whole
pub line_before : {text : List ℕ} {at mid : ℕ} {key word : List ℕ} (l : Line text at key word mid) (others : List ℕ)
    → take mid text ++ others ≡ take at text ++ (key ++ (l.digits ++ (10 ∷ others)))
line_before {text} {at} {mid} {key} l others =
    ap (λ (n : ℕ). take n text ++ others) l.after
    ∙ ap (λ (front : List ℕ). front ++ others) (line_front text at key l.digits _ l.there)
    ∙ append_assoc (take at text) (key ++ (l.digits ++ (10 ∷ []))) others
    ∙ ap (λ (back : List ℕ). take at text ++ back) (sym (line_apart key l.digits others))

stuck_later : {text : List ℕ} {at mid j : ℕ} {key word : List ℕ} {keys : List (List ℕ)} → Line text at key word mid
    → LinesStuck text mid keys j → LinesStuck text at (key ∷ keys) j
unfolding lines every
stuck_later {keys} line s =
    record {
      low = omega (arith, line.after, s.low);
      high = s.high;
      digits = line.digits ∷ s.digits;
      good = both_true _ _ line.good s.good;
      many = ap suc s.many;
      rest = s.rest;
      whole = s.whole ∙ line_before line (lines keys s.digits);
    }

pub lines_stuck : (text : List ℕ) (at : ℕ) (keys : List (List ℕ)) (j : ℕ) → every is_key keys ≡ true → at ≤ length text
    → lines_at text at keys ≡ fault j → LinesStuck text at keys j
unfolding every
lines_stuck text at [] j bytes h e = absurd (came_fell (lines_none text at) e)
lines_stuck text at (key ∷ keys) j bytes h e =
    elim (outcome (line_at text at key)) [
      | fell i f ↦
          let same : fault i ≡ fault j = sym (lines_off text at key keys i f) ∙ e in
          stuck_here keys (line_stuck text at key (both_left _ _ bytes) h j (f ∙ same))
      | came word mid f ↦ elim (outcome (lines_at text mid keys)) [
        | came more last g ↦ absurd (came_fell (lines_on text at key keys word mid f ∙ ap (behind word) g) e)
        | fell i g ↦
            let line = line_sound text at key word mid f in
            let same : fault i ≡ fault j = sym (lines_on text at key keys word mid f ∙ ap (behind word) g) ∙ e in
            stuck_later line (lines_stuck text mid keys j (both_right (is_key key) _ bytes) line.fits (g ∙ same))
      ]
    ]

-- the keys of rows are keys
pub keys_bytes : (keys : List (List ℕ)) (n : ℕ) → every is_key keys ≡ true → every is_key (keys_of keys n) ≡ true
unfolding keys_of every
keys_bytes keys zero h = refl
keys_bytes keys (suc n) h = every_append is_key keys (keys_of keys n) h (keys_bytes keys n h)

-- readings of texts with the same beginning
pub reached_behind : (values : List ℕ) (r : Found) → reached (behind values r) ≡ reached r
reached_behind values (found more next) = refl
reached_behind values (fault j) = refl

pub lines_low : (text : List ℕ) (at : ℕ) (keys : List (List ℕ)) → at ≤ reached (lines_at text at keys)
lines_low text at [] = omega (arith, ap reached (lines_none text at))
lines_low text at (key ∷ keys) =
    elim (outcome (line_at text at key)) [
      | fell j f ↦ omega (arith, line_low text at key, ap reached f, ap reached (lines_off text at key keys j f))
      | came word mid f ↦ omega (
        arith,
        line_low text at key,
        ap reached f,
        ap reached (lines_on text at key keys word mid f),
        reached_behind word (lines_at text mid keys),
        lines_low text mid keys,
      )
    ]

module _ (text other : List ℕ) (reach : ℕ) (same : take reach other ≡ take reach text) where
  pub lines_local : (at : ℕ) (keys : List (List ℕ)) → reached (lines_at text at keys) ≤ reach → lines_at other at keys ≡ lines_at text at keys
  lines_local at [] h = lines_none other at ∙ sym (lines_none text at)
  lines_local at (key ∷ keys) h =
      elim (outcome (line_at text at key)) [
        | fell j f ↦
            let here = lines_off text at key keys j f in
            let local = line_local text at key other reach same (omega (arith, ap reached f, ap reached here)) in
            lines_off other at key keys j (local ∙ f) ∙ sym here
        | came word mid f ↦
            let here = lines_on text at key keys word mid f in
            let more : reached (lines_at text mid keys) ≤ reach = omega (arith, ap reached here, reached_behind word (lines_at text mid keys)) in
            let local = line_local text at key other reach same (omega (arith, ap reached f, lines_low text mid keys)) in
            lines_on other at key keys word mid (local ∙ f) ∙ ap (behind word) (lines_local mid keys more) ∙ sym here
      ]
