-- Numbers only: work that waits above a job and work that is released above it bound when the job ends, by the busy stretch before its release.
use mathlib.Core.Path.{◌≡◌}
use Prim.Native.Nat.{ℕ, zero, suc, ◌+◌, ◌-◌, ◌≤◌, ◌<◌}
use native.Mathlib.Decide.{dec_le}
use native.Mathlib.Nat.{add-suc, add-zero}
use native.Mathlib.Omega.{arith}

-- Of the work above, `waits t` is left at the start of tick t and `asked t` was released before it. A tick is busy (one unit of it is done)
-- or calm (nothing of it is left).
pub data Tick (waits asked : ℕ → ℕ) (t : ℕ) : Type 0 where
  busy : waits (suc t) + 1 + asked t ≤ waits t + asked (suc t) → Tick waits asked t
  calm : waits (suc t) ≡ 0 → Tick waits asked t

-- since s the work above got every tick
pub record Stretch (waits asked : ℕ → ℕ) (s t : ℕ) : Type 0 where
  pub begun : s ≤ t
  pub full : (u : ℕ) → s ≤ u → u ≤ t → waits u + asked s + u ≤ s + asked u

module _ (waits asked : ℕ → ℕ) where
  stretch_now : (t : ℕ) → waits t ≡ 0 → Stretch waits asked t t
  stretch_now t e =
      record { begun = omega arith; full = λ u l h. let same : u ≡ t = omega arith in rw same (omega arith) }

  stretch_on : (s t : ℕ) → Stretch waits asked s t → waits (suc t) + 1 + asked t ≤ waits t + asked (suc t) → Stretch waits asked s (suc t)
  stretch_on s t b step =
      record {
        begun = omega arith;
        full = λ u l h. elim (dec_le u t) [
          | yes k ↦ b.full u l k
          | no k ↦ let same : u ≡ suc t = omega arith in rw same (omega (arith, b.full t b.begun (omega arith)))
        ];
      }

  -- every tick has a busy stretch up to it
  pub busy_start : waits 0 ≡ 0 → ((t : ℕ) → Tick waits asked t) → (t : ℕ) → (s : ℕ) × Stretch waits asked s t
  busy_start e ticks zero = (0, stretch_now 0 e)
  busy_start e ticks (suc t) =
      elim (ticks t) [
        | busy step ↦ ((busy_start e ticks t).0, stretch_on _ t (busy_start e ticks t).1 step)
        | calm done ↦ (suc t, stretch_now (suc t) done)
      ]

  -- a job of at most c work with `rest n` of it left n ticks after its release at r: with the work above it gets all of its first `span` ticks
  module _ (r c span : ℕ) (rest : ℕ → ℕ) (size : rest 0 ≤ c)
      (held : (n : ℕ) → n < span → waits (suc (r + n)) + rest (suc n) + 1 + asked (r + n) ≤ waits (r + n) + rest n + asked (suc (r + n))) where
    job_full : (s : ℕ) → Stretch waits asked s r → (n : ℕ) → n ≤ span → waits (r + n) + rest n + asked s + (r + n) ≤ s + asked (r + n) + c
    job_full s b zero h = rw add-zero (omega (arith, b.full r b.begun (omega arith)))
    job_full s b (suc n) h = rw add-suc (omega (arith, job_full s b n (omega arith), held n h))

    -- so it does not last as long as a span in which that work and c fit
    pub not_lasting : (s : ℕ) → Stretch waits asked s r → asked (s + span) ≤ asked s + asked span → c + asked span ≤ span
        → ((n : ℕ) → n ≤ span → 1 ≤ rest n) → ⊥
    not_lasting s b most fits lasts =
        elim (dec_le (s + span) r) [
          | yes h ↦ omega (arith, lasts 0 (omega arith), b.full (s + span) (omega arith) h)
          | no h ↦
              let e : r + (s + span - r) ≡ s + span = omega arith in
              omega (arith, lasts (s + span - r) (omega arith), rw e at (job_full s b (s + span - r) (omega arith)))
        ]

  -- a job of c work, released at r: where no tick up to its end does more than one unit and nothing is dropped, it ends no sooner than all
  -- that was asked is done
  pub not_sooner : (r c span : ℕ) (rest : ℕ → ℕ) → c + asked r ≤ waits r + rest 0 + r
      → ((n : ℕ) → n < span → waits (r + n) + rest n + asked (suc (r + n)) ≤ waits (suc (r + n)) + rest (suc n) + 1 + asked (r + n))
      → (n : ℕ) → n ≤ span → c + asked (r + n) ≤ waits (r + n) + rest n + (r + n)
  not_sooner r c span rest e step zero h = rw add-zero e
  not_sooner r c span rest e step (suc n) h = rw add-suc (omega (arith, not_sooner r c span rest e step n (omega arith), step n h))
