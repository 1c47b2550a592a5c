-- `replay::replay_ticks` meets its contract: each way out of the loop is a case of the law.
use mathlib.Core.Bool.{true}
use mathlib.Core.Path.{◌≡◌, refl, sym, ap, ◌∙◌}
use mathlib.Core.List.{[], ◌∷◌}
use Prim.Native.Nat.{ℕ, ◌-◌}
use native.Mathlib.Omega.{arith}
use lib.Dec.{leb}
use lib.ListN.{length}
use Rattle.law.specs.Refusal.{refused}
use Rattle.law.specs.State.{state_of}
use Rattle.law.specs.Replay.{releases}
use Rattle.law.proofs.Replay.{told_bad, stopped_there}
use Rattle.replay.proofs.Walk.{walk_start, walk_held, walk_early, walk_fetched, walk_begun, walk_next, walk_told, walk_all, bad_now, place_now, on_now, off_now, room_now, never_accepted}
use Rattle.replay.proofs.Passed.{replay_passed_on}
use Rattle.replay.proofs.Steps.{good_step, next_step, bad_step, place_step}
use Rattle.replay.proofs.replay_ticks.Goals.{Else-not-enough}
use Rattle.replay.proofs.replay_ticks.Goals as goal

-- the log has a number for each job of the tick
has : (c : Else-not-enough)
    → leb (releases (state_of c.loop-done.words).rows (length (state_of c.loop-done.words).rows)) (length c.args.log.now - c.loop-done.used) ≡ true
has c = sym c.enough.ensures ∙ c.if-not-enough.false

pub loop-done-init : goal.loop-done-init
loop-done-init c = let p = c.requires in walk_start _ _ _ _ p.0 p.1 p.2

pub enough-requires : goal.enough-requires
enough-requires c = (walk_held c.loop-done.invariant).laid

pub release_logged-requires : goal.release_logged-requires
release_logged-requires c =
    let w = c.loop-done.invariant in
    (walk_held w, walk_early w c.loop-done-test.true, walk_fetched w, room_now w (has (goal.at.release_logged-requires c).Else-not-enough))

pub returns-in_err-used : goal.returns-in_err-used
returns-in_err-used c =
    let w = c.loop-done.invariant in
    let e = c.release_logged.ensures.next in
    let told = told_bad w.all c.args.n c.loop-done-test.true (on_now w (has (goal.at.returns-in_err-used c).Else-not-enough)) (sym (bad_now w) ∙ bad_step _ _ _ _ e _ c.in_err-used.was) in
    let so = replay_passed_on _ _ c.from_residual.ensures.1 ∙ place_step _ _ _ _ e _ c.in_err-used.was in
    record { answer = so ∙ ap (λ (z : ℕ). refused 18 (z ∷ [])) (place_now w) ∙ sym told; words = record { is = λ vs e. absurd (never_accepted (sym so ∙ e)) } }

pub finish-requires : goal.finish-requires
finish-requires c =
    let w = c.loop-done.invariant in
    let k = c.release_logged.ensures in
    let good = good_step _ _ _ _ k.next _ c.in_ok-used.was in
    walk_begun w c.loop-done-test.true good _ (rw good at k.words)

pub loop-done-preserved : goal.loop-done-preserved
loop-done-preserved c =
    let w = c.loop-done.invariant in
    let k = c.release_logged.ensures in
    let good = good_step _ _ _ _ k.next _ c.in_ok-used.was in
    walk_next w c.loop-done-test.true good _ (rw good at k.words) _ _ (on_now w (has (goal.at.loop-done-preserved c).Else-not-enough)) (next_step _ _ _ _ k.next _ c.in_ok-used.was) c.finish.ensures

pub returns : goal.returns
returns c =
    let w = c.loop-done.invariant in
    let all : c.loop-done.done ≡ c.args.n = omega (arith, w.reached, c.loop-done-test.false) in
    let both = walk_told (walk_all w all) refl in record { answer = both.0; words = both.1 }

pub returns-then-not-enough : goal.returns-then-not-enough
returns-then-not-enough c =
    let w = c.loop-done.invariant in
    let off = sym c.enough.ensures ∙ c.if-not-enough.true in
    let both = walk_told w (stopped_there w.all _ w.reached (off_now w off)) in record { answer = both.0; words = both.1 }
