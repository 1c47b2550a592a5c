-- `tick::choose` meets its contract: no row passed is urgent, and `optional` is the first live one among them, if any.
use mathlib.Core.Bool.{Bool, true, false}
use mathlib.Core.List.{List}
use mathlib.Core.Path.{◌≡◌, refl, sym, ap, ◌∙◌, subst}
use Prim.Native.Nat.{ℕ, ◌+◌, ◌*◌, ◌≤◌, ◌<◌}
use native.Mathlib.Omega.{arith}
use lib.Dec.{eqb}
use lib.ListN.{length, get_or}
use borrow.Author.Tests.{lt-ltb, le-ltb}
use Rattle.std.proofs.Common.{Option, None, Some}
use Rattle.std.specs.Option.{option_or, unwrap_or}
use Rattle.law.specs.Sums.{first}
use Rattle.law.specs.Tick.{Row, core_at, choose}
use Rattle.law.specs.State.{row_of, state_of}
use Rattle.law.proofs.First.{searched_hit, searched_next, searched_end}
use Rattle.rows.proofs.Words.{row_read}
use Rattle.tick.proofs.choose.Invariants.{urgents, lives, Best, Choosing}
use Rattle.tick.proofs.choose.Goals.{else-word-gt0, then-word-gt0+else-is_mandatory}
use Rattle.tick.proofs.choose.Goals as goal

-- the first live row found, after one more that is not live, or is
best_dead : {p : ℕ → Bool} {n i : ℕ} {best : Option ℕ} → Best p n i best → i < n → p i ≡ false → Best p n (i + 1) best
best_dead s h e = record { found = s.found; still = λ g. searched_next (s.still g) h e }

best_live : {p : ℕ → Bool} {n i : ℕ} (best : Option ℕ) → Best p n i best → i < n → p i ≡ true → Best p n (i + 1) (option_or best (Some i))
best_live (Some r) s h e = record { found = s.found; still = λ g. absurd (cc g) }
best_live {i = i} None s h e =
    record { found = λ q g. let w : i ≡ q = cc g in (omega arith, searched_hit (s.still refl) h e ∙ w); still = λ g. absurd (cc g) }

best_end : {p : ℕ → Bool} {n i : ℕ} (best : Option ℕ) → Best p n i best → n ≤ i → unwrap_or best n ≡ first p n
best_end (Some r) s h = sym (s.found r refl).1
best_end None s h = sym (searched_end (s.still refl) h)

module _ {words : List ℕ} {n i : ℕ} {best : Option ℕ} (s : Choosing words n i best) where
  -- an urgent row is the choice
  chosen_urgent : i < n → urgents words i ≡ true → i ≡ choose (state_of words).rows
  unfolding choose urgents
  chosen_urgent h e =
      let u : first (urgents words) (length (state_of words).rows) ≡ i = ap (first (urgents words)) (sym s.total) ∙ searched_hit s.searched h e in
      sym (rw (u, lt-ltb i (length (state_of words).rows) (omega (arith, s.total))))

  choosing-next : (x : Option ℕ) → i < n → urgents words i ≡ false → Best (lives words) n (i + 1) x → Choosing words n (i + 1) x
  choosing-next x h e b = record { laid = s.laid; total = s.total; searched = searched_next s.searched h e; best-live = b }

  -- without one it is the first live row
  chosen_live : n ≤ i → unwrap_or best n ≡ choose (state_of words).rows
  unfolding choose urgents lives
  chosen_live h =
      let u : first (urgents words) (length (state_of words).rows) ≡ length (state_of words).rows = ap (first (urgents words)) (sym s.total) ∙ searched_end s.searched h ∙ s.total in
      best_end best s.best-live h ∙ ap (first (lives words)) s.total
      ∙ sym (rw (u, le-ltb (length (state_of words).rows) (length (state_of words).rows) (omega arith)))

-- the two words of a row that are read are its work and its kind
module _ (words : List ℕ) (i : ℕ) (h : i < length (state_of words).rows) where
  work-is : get_or words (i * 20 + (3 + 9)) 0 ≡ (core_at (state_of words).rows i).work
  unfolding row_of
  work-is = ap (λ (z : Row). z.core.work) (row_read words i h)

  kind-is : get_or words (i * 20 + (3 + 11)) 0 ≡ (core_at (state_of words).rows i).kind
  unfolding row_of
  kind-is = ap (λ (z : Row). z.core.kind) (row_read words i h)

  is-live : 0 < get_or words (i * 20 + (3 + 9)) 0 → lives words i ≡ true
  unfolding lives
  is-live w = lt-ltb 0 (core_at (state_of words).rows i).work (omega (arith, work-is))

  not-live : get_or words (i * 20 + (3 + 9)) 0 ≤ 0 → lives words i ≡ false
  unfolding lives
  not-live w = le-ltb 0 (core_at (state_of words).rows i).work (omega (arith, work-is))

  -- b tells whether the kind that is read is 1
  urgent-is : (b : Bool) → 0 < get_or words (i * 20 + (3 + 9)) 0 → b ≡ eqb (get_or words (i * 20 + (3 + 11)) 0) 1 → urgents words i ≡ b
  unfolding urgents lives
  urgent-is b w e = rw (is-live w) (ap (λ (z : ℕ). eqb z 1) (sym kind-is) ∙ sym e)

  dead-calm : get_or words (i * 20 + (3 + 9)) 0 ≤ 0 → urgents words i ≡ false
  unfolding urgents lives
  dead-calm w = rw (not-live w)

pub returns-then-is_mandatory-clause-row : goal.returns-then-is_mandatory-clause-row
returns-then-is_mandatory-clause-row c =
    let words = c.args.words.now in
    let h : c.loop-i.i < length (state_of words).rows = omega (arith, c.rows_of-i-end.ensures, c.loop-i-test.true) in
    chosen_urgent c.loop-i.invariant h (urgent-is words _ h c.is_mandatory.result (omega (arith, c.if-word-gt0.true, c.word.ensures)) (c.is_mandatory.ensures ∙ ap (λ (z : ℕ). eqb z 1) c.word-then-word-gt0.ensures) ∙ c.if-is_mandatory.true)

pub loop-i-preserved : goal.loop-i-preserved
loop-i-preserved c =
    let words = c.args.words.now in
    let g = c.loop-i.invariant in
    let h : c.loop-i.i < length (state_of words).rows = omega (arith, c.rows_of-i-end.ensures, c.loop-i-test.true) in
    elim c.if-word-gt0.branch [
      | else-word-gt0 w ↦ let off : get_or words (c.loop-i.i * 20 + (3 + 9)) 0 ≤ 0 = omega (arith, w.if-word-gt0.false, c.word.ensures) in
          choosing-next g _ h (dead-calm words _ h off) (subst (Best (lives words) _ _) (sym w.optional-is) (best_dead g.best-live h (not-live words _ h off)))
      | then-word-gt0+else-is_mandatory w ↦ let on : 0 < get_or words (c.loop-i.i * 20 + (3 + 9)) 0 = omega (arith, w.if-word-gt0.true, c.word.ensures) in
          choosing-next g _ h (urgent-is words _ h w.is_mandatory.result on (w.is_mandatory.ensures ∙ ap (λ (z : ℕ). eqb z 1) w.word-then-word-gt0.ensures) ∙ w.if-is_mandatory.false)
          (subst (Best (lives words) _ _) (sym (w.optional-is ∙ w.or-optional.ensures)) (best_live _ g.best-live h (is-live words _ h on)))
    ]

pub returns-clause-row : goal.returns-clause-row
returns-clause-row c = chosen_live c.loop-i.invariant (omega (arith, c.loop-i-test.false, c.rows_of-i-end.ensures))
