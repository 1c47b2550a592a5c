-- `replay::step::release_logged` meets its contract: the rows passed have released, each with the next number, and none of these is out of range.
use mathlib.Core.Bool.{true, false}
use mathlib.Core.List.{List, [], ◌∷◌}
use mathlib.Core.Path.{◌≡◌, refl, sym, ap, ◌∙◌, subst}
use Prim.Native.Nat.{ℕ, suc, ◌+◌, ◌-◌, ◌≤◌, ◌<◌}
use native.Mathlib.Numerals.{add-one}
use native.Mathlib.Omega.{arith}
use lib.ListN.{length, get_or}
use borrow.Author.Tests.{lt-ltb, le-ltb}
use Rattle.law.specs.Sums.{bit, first}
use Rattle.law.specs.Table.{word_of}
use Rattle.law.specs.Tick.{Core, Row, no_row, core_at, due, release_row, release_all, begin}
use Rattle.law.specs.State.{state_of, laid, with_row}
use Rattle.law.specs.Replay.{unfit, Replay, place_of, logged, used_then, out_of_range, bad_row, is_bad}
use Rattle.law.specs.Sound.{SoundRow}
use Rattle.law.proofs.First.{searched_start, searched_hit, searched_next, searched_end}
use Rattle.law.proofs.Tests.{never_both}
use Rattle.law.proofs.Replay.{releases_none, releases_next, releases_more}
use Rattle.rows.specs.Said.{Timed}
use Rattle.tick.proofs.Loops.{mapped_start, mapped_laid, mapped_rows, mapped_row, mapped_next, mapped_end}
use Rattle.law.specs.Refusal.{accepted, refused}
use Rattle.refusal.proofs.Passed.{passed_on}
use Rattle.replay.proofs.Steps.{good_step, next_step, bad_step, place_step}
use Rattle.replay.specs.Shown.{under}
use Rattle.replay.proofs.step.release_logged.Invariants.{Going}
use Rattle.replay.proofs.step.release_logged.Goals as goal

module _ {log patterns : List ℕ} {x : Replay} {words : List ℕ} {rows next i : ℕ} (g : Going log patterns x words rows next i) where
  core-same : core_at (state_of words).rows i ≡ core_at x.state.rows i
  core-same = ap (λ (z : Row). z.core) (mapped_row g.mapped)

  -- the number is judged as the law judges it
  judged : unfit log next (core_at (state_of words).rows i) ≡ out_of_range log x i
  unfolding out_of_range
  judged = ap (unfit log next) core-same ∙ ap (λ (z : ℕ). unfit log z (core_at x.state.rows i)) g.so

  place-next : next + bit (due (core_at (state_of words).rows i)) ≡ place_of x (suc i)
  place-next =
      let same : bit (due (core_at (state_of words).rows i)) ≡ bit (due (core_at x.state.rows i)) = ap (λ (z : Core). bit (due z)) core-same in
      omega (arith, g.so, same, releases_next x.state.rows i)

  -- and the log has it
  there : i < rows → next + bit (due (core_at (state_of words).rows i)) ≤ length log
  there h =
      let n : ℕ = length x.state.rows in
      let all : n - suc i + suc i ≡ n = omega (arith, g.mapped.total) in
      omega (arith, place-next, g.enough, rw all at (releases_more x.state.rows (suc i) (n - suc i)))

  timed : i < rows → Timed 0 (get_or (state_of words).rows i no_row)
  timed h =
      record {
        time = _;
        early = g.sound.time;
        sound = subst (SoundRow 0 _) (sym (mapped_row g.mapped)) (g.sound.rows i (omega (arith, g.mapped.total)));
      }

  found : i < rows → unfit log next (core_at (state_of words).rows i) ≡ true → bad_row log x ≡ i
  unfolding bad_row
  found h e = ap (first (out_of_range log x)) (sym g.mapped.total) ∙ searched_hit g.searched h (sym judged ∙ e)

  found_bad : i < rows → unfit log next (core_at (state_of words).rows i) ≡ true → is_bad log x ≡ true
  found_bad h e = lt-ltb (bad_row log x) (length x.state.rows) (omega (arith, found h e, g.mapped.total))

  going_next : (again : List ℕ) (y : ℕ) → i < rows → unfit log next (core_at (state_of words).rows i) ≡ false
      → y ≡ next + bit (due (core_at (state_of words).rows i))
      → again ≡ laid (with_row (state_of words) i (release_row (get_or log next 0) (get_or (state_of words).rows i no_row)))
      → Going log patterns x again rows y (i + 1)
  going_next again y h e q is =
      let number : get_or log next 0 ≡ logged log x i = ap (λ (z : ℕ). get_or log z 0) g.so in
      record {
        mapped = mapped_next g.mapped again _ h (ap (λ (z : Row). release_row (get_or log next 0) z) (mapped_row g.mapped) ∙ ap (λ (z : ℕ). release_row z (get_or x.state.rows i no_row)) number) is;
        sound = g.sound;
        fetched = g.fetched;
        enough = g.enough;
        so = q ∙ place-next ∙ ap (place_of x) (sym (add-one i));
        searched = searched_next g.searched h (sym judged ∙ e);
      }

  none : rows ≤ i → is_bad log x ≡ false
  unfolding bad_row
  none h =
      le-ltb (bad_row log x) (length x.state.rows)
      (omega (arith, g.mapped.total, ap (first (out_of_range log x)) (sym g.mapped.total) ∙ searched_end g.searched h))

  all-used : rows ≤ i → next ≡ used_then x
  all-used h = let e : i ≡ length x.state.rows = omega (arith, g.mapped.total, g.mapped.reached) in g.so ∙ ap (place_of x) e

  all-begun : rows ≤ i → words ≡ laid (begin (logged log x) x.state)
  unfolding begin release_all
  all-begun h = mapped_end g.mapped h

pub loop-i-init : goal.loop-i-init
loop-i-init c =
    let rows = (state_of c.args.words.now).rows in
    record {
      mapped = mapped_start _ _ _ c.requires.0.laid refl;
      sound = c.requires.0.sound;
      fetched = c.requires.2;
      enough = c.requires.3;
      so = omega (arith, releases_none rows);
      searched = searched_start _ _;
    }

pub release_next-requires : goal.release_next-requires
release_next-requires c =
    let l = c.loop-i in
    let g = l.invariant in
    let h : l.i < length (state_of c.args.words.now).rows = omega (arith, c.loop-i-test.true, c.rows_of-i-end.ensures) in (
      mapped_laid g.mapped,
      omega (arith, mapped_rows g.mapped, h),
      timed g h,
      g.fetched.at l.i h ∙ ap (λ (z : Core). word_of z.task) (sym (core-same g)),
      there g h,
    )

pub returns-in_err-next : goal.returns-in_err-next
returns-in_err-next c =
    let e = c.release_next.ensures.next in
    let g = c.loop-i.invariant in
    let h : c.loop-i.i < length (state_of c.args.words.now).rows = omega (arith, c.loop-i-test.true, c.rows_of-i-end.ensures) in
    let u = bad_step _ _ _ _ e _ c.in_err-next.was in
    let x = under (state_of c.args.words.now) c.args.used in
    let bad = found_bad g h u in record {
      next = passed_on _ _ c.from_residual.ensures.1 ∙ place_step _ _ _ _ e _ c.in_err-next.was ∙ ap (λ (z : ℕ). refused 18 (z ∷ [])) (g.so ∙ ap (place_of x) (sym (found g h u))) ∙ sym (rw bad);
      words = record { is = λ e. absurd (never_both _ bad e) };
    }

pub loop-i-preserved : goal.loop-i-preserved
loop-i-preserved c =
    let k = c.release_next.ensures in
    let good = good_step _ _ _ _ k.next _ c.in_ok-next.was in
    going_next c.loop-i.invariant _ _ (omega (arith, c.loop-i-test.true, c.rows_of-i-end.ensures)) good (next_step _ _ _ _ k.next _ c.in_ok-next.was) (rw good at k.words)

pub returns : goal.returns
returns c =
    let g = c.loop-i.invariant in
    let h : length (state_of c.args.words.now).rows ≤ c.loop-i.i = omega (arith, c.loop-i-test.false, c.rows_of-i-end.ensures) in
    let fine = none g h in
    record { next = ap (λ (z : ℕ). accepted (z ∷ [])) (all-used g h) ∙ sym (rw fine); words = record { is = λ e. all-begun g h } }
