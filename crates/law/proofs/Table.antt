-- A table of words: its rows, and that the checks find just the well-formed ones.
use mathlib.Core.Bool.{Bool, true, false, not}
use mathlib.Core.List.{List, [], ◌∷◌}
use mathlib.Core.Logic.{◌⊎◌, inl, inr, ⊎_elim}
use mathlib.Core.Path.{◌≡◌, refl, sym, ap, ◌∙◌, subst}
use Prim.Native.Nat.{ℕ, suc, ◌/◌, ◌%◌, ◌≤◌, ◌<◌}
use native.Mathlib.Decide.{dec_lt}
use native.Mathlib.Nat.{le_of_eq, ne_of_lt}
use native.Mathlib.Omega.{arith}
use lib.Dec.{leb, ltb, eqb}
use lib.ListN.{length}
use borrow.Author.Tests.{ltb-false, ltb-true, leb-true, eqb-true, eqb-false, le-leb, lt-ltb, le-ltb, eq-eqb, ne_eqb, not-true, not-false}
use Rattle.law.specs.Sums.{pick, first}
use Rattle.law.specs.Refusal.{Answer, accepted, refused, or_refused, within, code_of}
use Rattle.law.specs.Table.{Task, width, task_at, table_of, row, no_task, Ranged, WellFormed, repeated, RowNumber, fault_of, row_fault, faulty, rows_checked, checked}
use Rattle.law.proofs.Question.{within_low, within_high, within_is, in_range}
use Rattle.law.proofs.First.{first_before, first_found_lem, first_high, first_is, build_length, build_at}

pub table_length : (words : List ℕ) → length (table_of words) ≡ length words / width
unfolding table_of
table_length words = build_length (task_at words) (length words / width)

pub table_row : (words : List ℕ) (i : ℕ) → i < length words / width → row (table_of words) i ≡ task_at words i
unfolding table_of
table_row words i h = build_at (task_at words) (length words / width) i no_task h

-- a test that passed, and the tests after it
passed : (b : Bool) (n x : ℕ) → pick (not b) (suc n) x ≡ 0 → (b ≡ true) × (x ≡ 0)
passed true n x e = (refl, e)
passed false n x e = absurd (omega arith)

-- a row without a fault is in its ranges, and its id stands in no earlier row
pub fault_none : (r : Task) (twice : Bool) → fault_of r twice ≡ 0 → (Ranged r) × (twice ≡ false)
unfolding fault_of
fault_none r twice e =
    let id = passed (within 1 65535 r.id) 3 _ e in
    let t = passed (within 1 65535 r.t) 4 _ id.1 in
    let d = passed (within 1 r.t r.d) 5 _ t.1 in
    let c = passed (within 1 65535 r.c) 6 _ d.1 in
    let k = passed (within 1 64 r.k) 7 _ c.1 in
    let m = passed (within 1 r.k r.m) 8 _ k.1 in
    let p = passed (leb r.p 1) 15 _ m.1 in (
      record {
        id_low = within_low 1 65535 r.id id.0;
        id_high = within_high 1 65535 r.id id.0;
        t_low = within_low 1 65535 r.t t.0;
        t_high = within_high 1 65535 r.t t.0;
        d_low = within_low 1 r.t r.d d.0;
        d_high = within_high 1 r.t r.d d.0;
        c_low = within_low 1 65535 r.c c.0;
        c_high = within_high 1 65535 r.c c.0;
        pair = in_range r.m r.k k.0 m.0;
        p_high = leb-true r.p 1 p.0;
      },
      single twice p.1,
    )
  where
    single : (b : Bool) → pick {A = ℕ} b 10 0 ≡ 0 → b ≡ false
    single true e = absurd (omega arith)
    single false e = refl

-- the numbers of a row's faults
Numbered : ℕ → Type 0
Numbered x = (x ≡ 0) ⊎ (RowNumber x)

numbered_pick : (b : Bool) (n x : ℕ) → RowNumber n → Numbered x → Numbered (pick b n x)
unfolding Numbered
numbered_pick true n x h q = inr h
numbered_pick false n x h q = q

fault_numbered : (r : Task) (twice : Bool) → Numbered (fault_of r twice)
unfolding fault_of Numbered
fault_numbered r twice =
    numbered_pick (not (within 1 65535 r.id)) 4 _ (inl (omega arith, omega arith))
    (numbered_pick (not (within 1 65535 r.t)) 5 _ (inl (omega arith, omega arith))
    (numbered_pick (not (within 1 r.t r.d)) 6 _ (inl (omega arith, omega arith))
    (numbered_pick (not (within 1 65535 r.c)) 7 _ (inl (omega arith, omega arith))
    (numbered_pick (not (within 1 64 r.k)) 8 _ (inl (omega arith, omega arith))
    (numbered_pick (not (within 1 r.k r.m)) 9 _ (inl (omega arith, omega arith))
    (numbered_pick (not (leb r.p 1)) 16 _ (inr refl) (numbered_pick twice 10 0 (inl (omega arith, omega arith)) (inl refl))))))))

pub fault_range : (r : Task) (twice : Bool) → (fault_of r twice ≡ 0 → ⊥) → RowNumber (fault_of r twice)
unfolding Numbered
fault_range r twice h = ⊎_elim (λ e. absurd (h e)) (λ q. q) (fault_numbered r twice)

-- none of the numbers from 11 to 15 is a row's
pub row_number_not : {n : ℕ} → RowNumber n → 10 < n → n < 16 → ⊥
row_number_not (inl h) l g = omega (arith, h.1)
row_number_not (inr e) l g = omega arith

-- the rows are refused at the first that has a fault, and accepted where none has
pub rows_refused : (tasks : List Task) (i : ℕ) → faulty tasks ≡ i → i < length tasks
    → rows_checked tasks ≡ refused (row_fault tasks i) (i ∷ [])
unfolding rows_checked
rows_refused tasks i e h = rw (e, ne_eqb i (length tasks) (λ q. omega arith))

pub rows_accepted : (tasks : List Task) → faulty tasks ≡ length tasks → rows_checked tasks ≡ accepted (length tasks ∷ [])
unfolding rows_checked
rows_accepted tasks e = rw (eq-eqb (faulty tasks) (length tasks) e)

-- so the rows are refused by the numbers of a row's faults alone
pub rows_number : (tasks : List Task) (n : ℕ) (also : List ℕ) → rows_checked tasks ≡ refused n also → RowNumber n
unfolding faulty
rows_number tasks n also e =
    elim (dec_lt (faulty tasks) (length tasks)) [
      | yes h ↦
          let number : row_fault tasks (faulty tasks) ≡ n = ap code_of (sym (rows_refused tasks (faulty tasks) refl h) ∙ e) in
          let range = fault_range (row tasks (faulty tasks)) (repeated tasks (faulty tasks))
          (eqb-false _ 0 (not-true _ (first_found_lem (λ i. not (eqb (row_fault tasks i) 0)) 0 (length tasks) (omega arith)))) in
          subst RowNumber number range
      | no h ↦
          let clean = rows_accepted tasks (omega (arith, first_high (λ i. not (eqb (row_fault tasks i) 0)) 0 (length tasks))) in
          absurd (let z : ◌≡◌ {A = ℕ} 0 1 = cc in omega arith)
    ]

module _ (tasks : List Task) (all : faulty tasks ≡ length tasks) where
  -- no row has a fault
  pub row_clean : (i : ℕ) → i < length tasks → row_fault tasks i ≡ 0
  unfolding faulty
  row_clean i h =
      eqb-true _ _
      (not-false _ (first_before (λ i. not (eqb (row_fault tasks i) 0)) 0 (length tasks) i (omega arith) (omega (arith, all))))

  earlier_differs : (i j : ℕ) → i < length tasks → j < i → (row tasks j).id ≡ (row tasks i).id → ⊥
  unfolding repeated
  earlier_differs i j h l e =
      let none = (fault_none (row tasks i) (repeated tasks i) (row_clean i h)).1 in
      eqb-false _ _
      (first_before (λ j. eqb (row tasks j).id (row tasks i).id) 0 i j (omega arith) (omega (arith, ltb-false _ i none)))
      e

  pub clean_well_formed : 1 ≤ length tasks → length tasks ≤ 32 → WellFormed tasks
  clean_well_formed low high =
      record {
        rows_low = low;
        rows_high = high;
        ranged = λ i h. (fault_none (row tasks i) (repeated tasks i) (row_clean i h)).0;
        once = λ i j hi hj e. elim (dec_lt i j) [
          | yes l ↦ absurd (earlier_differs j i hj l e)
          | no l ↦ elim (dec_lt j i) [
            | yes q ↦ absurd (earlier_differs i j hi q (sym e))
            | no q ↦ omega arith
          ]
        ];
      }

-- and a well-formed table has no fault
failed : (b : Bool) (n x : ℕ) → b ≡ true → x ≡ 0 → pick (not b) n x ≡ 0
failed b n x e f = rw e f

no_fault : (r : Task) (twice : Bool) → Ranged r → twice ≡ false → fault_of r twice ≡ 0
unfolding fault_of
no_fault r twice g e =
    failed _ 4 _ (within_is 1 65535 r.id g.id_low g.id_high)
    (failed _ 5 _ (within_is 1 65535 r.t g.t_low g.t_high)
    (failed _ 6 _ (within_is 1 r.t r.d g.d_low g.d_high)
    (failed _ 7 _ (within_is 1 65535 r.c g.c_low g.c_high)
    (failed _ 8 _ (within_is 1 64 r.k (omega (arith, g.pair.m_low, g.pair.m_high)) g.pair.k_high)
    (failed _ 9 _ (within_is 1 r.k r.m g.pair.m_low g.pair.m_high) (failed _ 16 _ (le-leb r.p 1 g.p_high) (rw e)))))))

pub well_formed_clean : (tasks : List Task) → WellFormed tasks → faulty tasks ≡ length tasks
unfolding faulty repeated
well_formed_clean tasks w =
    first_is _ 0 (length tasks) (length tasks) (omega arith) (omega arith) (λ h. absurd (omega arith))
    (λ i l h. ap not (eq-eqb _ 0 (no_fault (row tasks i) (repeated tasks i) (w.ranged i h) (single i h))))
  where
    single : (i : ℕ) → i < length tasks → ltb (first (λ j. eqb (row tasks j).id (row tasks i).id) i) i ≡ false
    single i h =
        le-ltb _ i
        (le_of_eq
        (sym
        (first_is (λ j. eqb (row tasks j).id (row tasks i).id) 0 i i (omega arith) (omega arith) (λ q. absurd (omega arith))
        (λ j l q. ne_eqb _ _ (λ e. ne_of_lt q (w.once j i (omega arith) h e))))))

-- a refusal is given where its test fails, and only there
pub passed_on : (b : Bool) (n : ℕ) (also vs : List ℕ) (next : Answer) → or_refused b (refused n also) next ≡ accepted vs
    → (b ≡ true) × (next ≡ accepted vs)
passed_on true n also vs next e = (refl, e)
passed_on false n also vs next e = absurd (let z : ◌≡◌ {A = ℕ} 0 1 = cc in omega arith)

-- what an accepted run of words says
pub record Accepted (words : List ℕ) (vs : List ℕ) : Type 0 where
  pub whole : length words % width ≡ 0
  pub table : WellFormed (table_of words)
  pub rows : vs ≡ length (table_of words) ∷ []

pub checked_accepted : (words vs : List ℕ) → checked words ≡ accepted vs → Accepted words vs
unfolding checked rows_checked
checked_accepted words vs e =
    let whole = passed_on (eqb (length words % width) 0) 1 [] vs _ e in
    let some = passed_on (ltb 0 (length words / width)) 2 [] vs _ whole.1 in
    let few = passed_on (leb (length words / width) 32) 3 [] vs _ some.1 in
    let clean =
    passed_on (eqb (faulty (table_of words)) (length (table_of words))) (row_fault (table_of words) (faulty (table_of words))) (faulty (table_of words) ∷ []) vs _ few.1 in
    record {
      whole = eqb-true _ 0 whole.0;
      table = clean_well_formed (table_of words) (eqb-true _ _ clean.0)
          (omega (arith, table_length words, ltb-true 0 (length words / width) some.0))
          (omega (arith, table_length words, leb-true (length words / width) 32 few.0));
      rows = cc clean.1;
    }

-- and words of whole rows whose table is well formed are accepted
pub well_formed_accepted : (words : List ℕ) → length words % width ≡ 0 → WellFormed (table_of words)
    → checked words ≡ accepted (length (table_of words) ∷ [])
unfolding checked
well_formed_accepted words e w =
    let many = table_length words in
    rw (
      eq-eqb (length words % width) 0 e,
      lt-ltb 0 (length words / width) (omega (arith, w.rows_low)),
      le-leb (length words / width) 32 (omega (arith, w.rows_high)),
    )
    (rows_accepted (table_of words) (well_formed_clean (table_of words) w))
