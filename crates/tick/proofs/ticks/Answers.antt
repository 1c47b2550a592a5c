-- `tick::ticks` meets its contract: after `done` ticks the words are those of the law's run so far.
use mathlib.Core.List.{List}
use mathlib.Core.Path.{◌≡◌, sym, ap, ◌∙◌, subst}
use Prim.Native.Nat.{ℕ, ◌+◌, ◌≤◌, ◌<◌}
use native.Mathlib.Numerals.{add-one}
use native.Mathlib.Omega.{arith}
use Rattle.law.specs.Tick.{State, tick, run, clock_end}
use Rattle.law.specs.State.{state_of, laid}
use Rattle.law.proofs.Ticks.{run_sound, run_time, run_tasks}
use Rattle.rows.specs.Said.{Held, Fetched}
use Rattle.rows.proofs.Words.{says}
use Rattle.tick.proofs.Chain.{held_as, fetched_still}
use Rattle.tick.proofs.ticks.Invariants.{Ran}
use Rattle.tick.proofs.ticks.Goals as goal

module _ {s : State} {patterns words : List ℕ} {n done : ℕ} (r : Ran s patterns words n done) where
  ran-held : Held 0 words
  ran-held = held_as (run done s) r.is (run_sound done s r.sound (omega (arith, r.early, r.reached)))

  ran-early : done < n → (state_of words).time < clock_end
  ran-early h = omega (arith, ap (λ (z : State). z.time) (says (run done s) r.is), run_time done s, r.early)

  ran-fetched : Fetched (state_of words).rows patterns
  ran-fetched =
      subst (λ (z : State). Fetched z.rows patterns) (sym (says (run done s) r.is))
      (fetched_still (run_tasks done s) r.fetched)

  ran-next : (again : List ℕ) → done < n → again ≡ laid (tick (state_of words)) → Ran s patterns again n (done + 1)
  unfolding run
  ran-next again h e =
      record {
        sound = r.sound;
        early = r.early;
        fetched = r.fetched;
        reached = omega arith;
        is = e ∙ ap (λ (z : State). laid (tick z)) (says (run done s) r.is) ∙ ap (λ (z : ℕ). laid (run z s)) (sym (add-one done));
      }

  ran-all : n ≤ done → words ≡ laid (run n s)
  ran-all h = let e : done ≡ n = omega (arith, r.reached) in r.is ∙ ap (λ (z : ℕ). laid (run z s)) e

pub loop-done-init : goal.loop-done-init
unfolding run
loop-done-init c =
    let p = c.requires in
    record { sound = p.0.sound; early = p.1; fetched = p.2; reached = omega arith; is = p.0.laid.is }

pub tick-requires : goal.tick-requires
tick-requires c =
    let r = c.loop-done.invariant in
    (ran-held r, ran-early r (omega (arith, c.loop-done-test.true)), ran-fetched r)

pub loop-done-preserved : goal.loop-done-preserved
loop-done-preserved c = ran-next c.loop-done.invariant _ (omega (arith, c.loop-done-test.true)) c.tick.ensures
