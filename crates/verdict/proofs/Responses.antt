-- The rows tried so far: each fits, and its response time is laid; and what that says of the verdict.
use mathlib.Core.Bool.{Bool, true, false, not}
use mathlib.Core.List.{List, [], ◌∷◌, ◌++◌}
use mathlib.Core.Path.{◌≡◌, refl, sym, ap, ◌∙◌}
use Prim.Native.Nat.{ℕ, ◌+◌, ◌≤◌, ◌<◌}
use native.Mathlib.Decide.{dec_lt}
use native.Mathlib.Omega.{arith}
use lib.ListN.{length, take, drop, set}
use borrow.Author.Tests.{leb-true, eq-eqb, ne_eqb}
use Rattle.std.specs.Prelude.{None, Some}
use Rattle.law.specs.Sums.{pick}
use Rattle.law.specs.Refusal.{accepted, refused}
use Rattle.law.specs.Table.{Task, WellFormed, table_of, checked}
use Rattle.law.specs.Verdict.{response, fits, misfit, admitted, responses, verdict, verdict_room}
use Rattle.law.proofs.First.{Searched, searched_start, searched_hit, searched_next, searched_end}
use Rattle.law.proofs.Verdict.{misfit_most, verdict_late, verdict_admitted}
use Rattle.verdict.specs.Said.{fit_of, tried}
use Rattle.verdict.proofs.Laid.{IsLaidUpTo, laid_none, laid_next, laid_all, laid_front}

-- what the search of a row tells
module _ (tasks : List Task) (i : ℕ) where
  some_fits : {t : ℕ} → Some t ≡ fit_of tasks i → (fits tasks i ≡ true) × (t ≡ response tasks i)
  unfolding fit_of
  some_fits {t} e = by (fits tasks i) refl e
    where
      by : (b : Bool) → fits tasks i ≡ b → Some t ≡ pick b (Some (response tasks i)) None → (fits tasks i ≡ true) × (t ≡ response tasks i)
      by true f q = (f, cc)
      by false f q = absurd (let z : ◌≡◌ {A = ℕ} 0 1 = cc in omega arith)

  none_fits : None ≡ fit_of tasks i → fits tasks i ≡ false
  unfolding fit_of
  none_fits e = by (fits tasks i) refl e
    where
      by : (b : Bool) → fits tasks i ≡ b → None ≡ pick b (Some (response tasks i)) None → fits tasks i ≡ false
      by true f q = absurd (let z : ◌≡◌ {A = ℕ} 0 1 = cc in omega arith)
      by false f q = f

  pub time_small : WellFormed tasks → i < length tasks → {t : ℕ} → Some t ≡ fit_of tasks i → t ≤ 65535
  unfolding fits
  time_small w h e =
      let f = some_fits e in
      let r = w.ranged i h in
      omega (arith, leb-true (response tasks i) _ f.0, f.1, r.d_high, r.t_high)

-- what is answered of all rows
tried_late : (tasks : List Task) → misfit tasks < length tasks → tried tasks ≡ refused 11 (misfit tasks ∷ [])
unfolding tried admitted
tried_late tasks h = rw (ne_eqb (misfit tasks) (length tasks) (λ (e : misfit tasks ≡ length tasks). omega arith))

tried_all : (tasks : List Task) → misfit tasks ≡ length tasks → tried tasks ≡ accepted (responses tasks)
unfolding tried admitted
tried_all tasks e = rw (eq-eqb (misfit tasks) (length tasks) e)

unfoldable pub is_misfit : List Task → ℕ → Bool
is_misfit tasks i = not (fits tasks i)

pub record IsFittingUpTo (tasks : List Task) (start times : List ℕ) (i : ℕ) : Type 0 where
  pub searched : Searched (is_misfit tasks) (length tasks) i
  pub laid : IsLaidUpTo (response tasks) (length tasks) start times i

pub fitting_none : (tasks : List Task) (m : ℕ) (run : List ℕ) → m ≡ length tasks → length tasks ≤ length run
    → IsFittingUpTo tasks (take m run) (take m run) 0
fitting_none tasks m run e h = record { searched = searched_start _ _; laid = laid_none _ m _ run e h }

module _ (tasks : List Task) (start times : List ℕ) (i : ℕ) (s : IsFittingUpTo tasks start times i) where
  pub fitting_next : i < length start → (t : ℕ) → Some t ≡ fit_of tasks i → IsFittingUpTo tasks start (set times i t) (i + 1)
  unfolding is_misfit
  fitting_next l t e =
      let f = some_fits tasks i e in
      record { searched = searched_next s.searched (omega (arith, s.laid.long)) (ap not f.0); laid = laid_next _ _ _ _ _ s.laid l t f.1 }

  pub turned_down : i < length start → None ≡ fit_of tasks i → refused 11 (i ∷ []) ≡ tried tasks
  unfolding misfit is_misfit
  turned_down h e =
      let found = searched_hit s.searched (omega (arith, s.laid.long)) (ap not (none_fits tasks i e)) in
      ap (λ (z : ℕ). refused 11 (z ∷ [])) (sym found) ∙ sym (tried_late tasks (omega (arith, found, s.laid.long)))

  pub all_told : length start ≤ i → i ≤ length start → (rest : List ℕ) → accepted (take (length tasks) (times ++ rest)) ≡ tried tasks
  unfolding misfit is_misfit responses
  all_told h l rest =
      ap accepted (laid_front _ _ rest _ (laid_all _ _ _ _ _ s.laid h l))
      ∙ sym (tried_all tasks (searched_end s.searched (omega (arith, s.laid.long))))

-- so the verdict is known, where the table is accepted and the room is long enough
module _ (words room vs : List ℕ) (good : checked words ≡ accepted vs) (h : length (table_of words) ≤ length room) where
  pub judged_late : {n : ℕ} {also : List ℕ} → refused n also ≡ tried (table_of words)
      → (verdict words (length room) ≡ refused n also) × (verdict_room words room ≡ room)
  judged_late e =
      elim (dec_lt (misfit (table_of words)) (length (table_of words))) [
        | yes l ↦ let late = verdict_late words room vs good h l in (late.0 ∙ sym (tried_late (table_of words) l) ∙ sym e, late.1)
        | no l ↦ absurd (let z : ◌≡◌ {A = ℕ} 0 1 = cc (tried_all (table_of words) (omega (arith, misfit_most (table_of words)))) in omega arith)
      ]

  pub judged_times : {times : List ℕ} → accepted times ≡ tried (table_of words)
      → (verdict words (length room) ≡ accepted (length (table_of words) ∷ []))
      × (verdict_room words room ≡ times ++ drop (length (table_of words)) room)
  judged_times {times} e =
      elim (dec_lt (misfit (table_of words)) (length (table_of words))) [
        | yes l ↦ absurd (let z : ◌≡◌ {A = ℕ} 0 1 = cc (tried_late (table_of words) l) in omega arith)
        | no l ↦
            let all : misfit (table_of words) ≡ length (table_of words) = omega (arith, misfit_most (table_of words)) in
            let told = verdict_admitted words room vs good h all in
            let same : responses (table_of words) ≡ times = cc (tried_all (table_of words) all) in
            (told.0, told.1 ∙ ap (λ (z : List ℕ). z ++ drop (length (table_of words)) room) same)
      ]
