-- Two results that a public contract allows are equal: each Result can be told from what its reading as an answer says, so an equation of the reading
-- leaves one result; and a state by value is told by its words.
use mathlib.Core.Bool.{Bool, true, false}
use mathlib.Core.List.{List}
use mathlib.Core.Path.{◌≡◌, refl, sym, ap, ◌∙◌}
use Prim.Native.Nat.{ℕ}
use lib.Dec.{eqb}
use Rattle.std.specs.Prelude.{Result, Ok, Err}
use Rattle.law.specs.Sums.{pick}
use Rattle.law.specs.Refusal.{Answer, accepted, refused, head, second}
use Rattle.refusal.specs.Shown as refusal
use Rattle.refusal.specs.declared.Refusal.{Refusal}
use Rattle.refusal.specs.declared.Refusal.TheVariants.{NotWholeRows, NoRows, ManyRows, Id, T, D, C, K, M, Repeated, Unschedulable, Text, Room, State, Clock, P, NotOld, Log}
use Rattle.book.specs.Shown as book
use Rattle.replay.specs.Shown as replay
use Rattle.replay.specs.declared.Progress.{Progress}
use Rattle.rows.specs.declared.State.{State as SavedState}

-- what can be told from its reading has one value for each
once : {A : Type 0} (reading : A → Answer) (back : Answer → A) → ((x : A) → back (reading x) ≡ x) → {x y : A} → reading x ≡ reading y → x ≡ y
once reading back told {x} {y} e = sym (told x) ∙ ap back e ∙ told y

-- a refusal, from its number and what is also returned
refusal_of : ℕ → List ℕ → Refusal
refusal_of n also =
    pick (eqb n 1) NotWholeRows (pick (eqb n 2) NoRows (pick (eqb n 3) ManyRows (pick (eqb n 4) (Id (head also)) (pick (eqb n 5) (T (head also)) (pick (eqb n 6) (D (head also)) (pick (eqb n 7) (C (head also)) (pick (eqb n 8) (K (head also)) (pick (eqb n 9) (M (head also)) (pick (eqb n 10) (Repeated (head also)) (pick (eqb n 11) (Unschedulable (head also)) (pick (eqb n 12) (Text (head also)) (pick (eqb n 13) Room (pick (eqb n 14) State (pick (eqb n 15) Clock (pick (eqb n 16) (P (head also)) (pick (eqb n 17) (NotOld (head also)) (Log (head also))))))))))))))))))

refusal_told : (r : Refusal) → refusal_of (refusal.number_of r) (refusal.also_of r) ≡ r
unfolding refusal_of
refusal_told NotWholeRows = refl
refusal_told NoRows = refl
refusal_told ManyRows = refl
refusal_told (Id row) = refl
refusal_told (T row) = refl
refusal_told (D row) = refl
refusal_told (C row) = refl
refusal_told (K row) = refl
refusal_told (M row) = refl
refusal_told (Repeated row) = refl
refusal_told (Unschedulable row) = refl
refusal_told (Text place) = refl
refusal_told Room = refl
refusal_told State = refl
refusal_told Clock = refl
refusal_told (P row) = refl
refusal_told (NotOld row) = refl
refusal_told (Log place) = refl

-- an answer that gives a value, or a refusal
back : {A : Type 0} → (List ℕ → A) → Answer → Result A Refusal
back value (accepted vs) = Ok (value vs)
back value (refused n also) = Err (refusal_of n also)

answered_told : (x : Result ℕ Refusal) → back head (refusal.answered x) ≡ x
unfolding back
answered_told (Ok n) = refl
answered_told (Err r) = ap Err (refusal_told r)

-- the answers that give one number
pub answered_once : {x y : Result ℕ Refusal} → refusal.answered x ≡ refusal.answered y → x ≡ y
answered_once = once refusal.answered (back head) answered_told

done_told : (x : Result Unit Refusal) → back (λ vs. tt) (refusal.done x) ≡ x
unfolding back
done_told (Ok tt) = refl
done_told (Err r) = ap Err (refusal_told r)

-- those that give nothing more
pub done_once : {x y : Result Unit Refusal} → refusal.done x ≡ refusal.done y → x ≡ y
done_once = once refusal.done (back (λ vs. tt)) done_told

job_told : (x : Result Bool Refusal) → back (λ vs. eqb (head vs) 1) (book.job_shown x) ≡ x
unfolding back
job_told (Ok true) = refl
job_told (Ok false) = refl
job_told (Err r) = ap Err (refusal_told r)

-- the one that gives a kind
pub job_once : {x y : Result Bool Refusal} → book.job_shown x ≡ book.job_shown y → x ≡ y
job_once = once book.job_shown (back (λ vs. eqb (head vs) 1)) job_told

replayed_told : (x : Result Progress Refusal) → back (λ vs. record { ticks = head vs; used = second vs }) (replay.replayed_shown x) ≡ x
unfolding back
replayed_told (Ok p) = refl
replayed_told (Err r) = ap Err (refusal_told r)

-- the one that has two values
pub replayed_once : {x y : Result Progress Refusal} → replay.replayed_shown x ≡ replay.replayed_shown y → x ≡ y
replayed_once = once replay.replayed_shown (back (λ vs. record { ticks = head vs; used = second vs })) replayed_told

-- a state by value is its words
pub state_once : {s t : SavedState} → s.words ≡ t.words → s ≡ t
state_once e = λ i. record { words = e i }
