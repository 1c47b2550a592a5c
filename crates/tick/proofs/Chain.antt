-- From one routine of a tick to the next: what the words are after each, and that the whole is the law's tick.
use mathlib.Core.Bool.{Bool, true, false, not}
use mathlib.Core.List.{List}
use mathlib.Core.Path.{◌≡◌, refl, sym, ap, ◌∙◌, subst}
use mir.Val.{bool_byte}
use Prim.Native.Nat.{ℕ, ◌+◌, ◌<◌}
use native.Mathlib.Decide.{ℕ_discrete}
use native.Mathlib.Omega.{arith}
use borrow.Author.Tests.{eq-eqb, ne_eqb}
use Rattle.std.proofs.Common.{Option, None, Some, IfSome}
use Rattle.std.specs.Option.{is_some, unwrap_or, option_eq}
use lib.Dec.{eqb}
use lib.ListN.{length, get_or, set}
use Rattle.law.specs.Sums.{bit}
use Rattle.law.specs.Table.{Task, row, word_of}
use Rattle.law.specs.Tick.{Row, State, choose, begin, finish, tick_with, clock_end}
use Rattle.law.specs.State.{state_of, laid, tasks_of}
use Rattle.law.specs.Sound.{SoundState, Lengths}
use Rattle.law.proofs.Ticks.{finished_length, begin_sound, task_at_lem, tasks_length}
use Rattle.rows.specs.Said.{Laid, Held, Fetched, advanced_state, counted_tick}
use Rattle.rows.proofs.Words.{says, laid_as}

-- words that are the words of a well-formed state
pub held_as : {words : List ℕ} {phase : ℕ} (s : State) → words ≡ laid s → SoundState phase s → Held phase words
held_as {words} {phase} s e f =
    record {
      laid = laid_as s e (omega (arith, f.table.rows_high, tasks_length s.rows));
      sound = subst (SoundState phase) (sym (says s e)) f;
    }

pub time_word : (words : List ℕ) → get_or words 1 0 ≡ (state_of words).time
unfolding state_of
time_word words = refl

pub idle_word : (words : List ℕ) → get_or words 2 0 ≡ (state_of words).idle
unfolding state_of
idle_word words = refl

-- a truth value as a number
pub byte_bit : (b : Bool) → bool_byte b ≡ bit b
byte_bit true = refl
byte_bit false = refl

-- the two words that a tick writes last
pub counted : {words : List ℕ} → Laid words → (x : ℕ) (b : Bool) → x ≡ bit b
    → set (set words 1 (get_or words 1 0 + 1)) 2 (get_or (set words 1 (get_or words 1 0 + 1)) 2 0 + x) ≡ laid (counted_tick b (state_of words))
unfolding laid
counted {words} l x b e =
    ap (λ (z : List ℕ). set (set z 1 (get_or z 1 0 + 1)) 2 (get_or (set z 1 (get_or z 1 0 + 1)) 2 0 + x)) l.is
    ∙ ap (λ (z : ℕ). laid (record { time = (state_of words).time + 1; idle = (state_of words).idle + z; rows = (state_of words).rows })) e

-- the releases of a tick, with lengths from 1 to C
pub begun_held : {w₀ w₁ : List ℕ} (work : ℕ → ℕ) → Held 0 w₀ → (state_of w₀).time < clock_end → Lengths work (state_of w₀).rows
    → w₁ ≡ laid (begin work (state_of w₀)) → Held 1 w₁
begun_held {w₀} work h early g begun = held_as (begin work (state_of w₀)) begun (begin_sound work (state_of w₀) h.sound early g)

-- the rest of it
module _ {w₁ w₂ : List ℕ} (h : Held 1 w₁) (chosen : ℕ) (advanced : w₂ ≡ laid (advanced_state chosen (state_of w₁))) where
  pub advanced_laid : Laid w₂
  advanced_laid = laid_as (advanced_state chosen (state_of w₁)) advanced (omega (arith, finished_length chosen (state_of w₁).rows, h.laid.few))

  pub advanced_time : (state_of w₂).time ≡ (state_of w₁).time
  advanced_time = ap (λ (z : State). z.time) (says (advanced_state chosen (state_of w₁)) advanced)

  pub advanced_idle : (state_of w₂).idle ≡ (state_of w₁).idle
  advanced_idle = ap (λ (z : State). z.idle) (says (advanced_state chosen (state_of w₁)) advanced)

  pub finished : {w₃ : List ℕ} (idle : Bool) → chosen ≡ choose (state_of w₁).rows → idle ≡ eqb chosen (length (state_of w₁).rows)
      → w₃ ≡ laid (counted_tick idle (state_of w₂)) → w₃ ≡ laid (finish (state_of w₁))
  unfolding finish
  finished idle ec ei e =
      e ∙ ap (λ (z : State). laid (counted_tick idle z)) (says (advanced_state chosen (state_of w₁)) advanced)
      ∙ ap (λ (z : Bool). laid (counted_tick z (advanced_state chosen (state_of w₁)))) ei
      ∙ ap (λ (z : ℕ). laid (counted_tick (eqb z (length (state_of w₁).rows)) (advanced_state z (state_of w₁)))) ec

-- the tick is idle where no row is chosen
pub none_chosen : (chosen : Option ℕ) (rows : ℕ) (idle : Bool) → IfSome chosen (λ i. i < rows) → is_some chosen ≡ not idle → idle ≡ eqb (unwrap_or chosen rows) rows
none_chosen None rows true h e = sym (eq-eqb rows rows refl)
none_chosen None rows false h e = absurd (cc e)
none_chosen (Some i) rows false h e = sym (ne_eqb i rows (λ e. omega (arith, h)))
none_chosen (Some i) rows true h e = absurd (cc e)

-- whether row i is the chosen one
pub row_chosen : (chosen : Option ℕ) (rows i : ℕ) → i < rows → option_eq eqb chosen (Some i) ≡ eqb i (unwrap_or chosen rows)
row_chosen None rows i h = sym (ne_eqb i rows (λ e. omega arith))
row_chosen (Some j) rows i h =
    elim (ℕ_discrete j i) [ yes e ↦ eq-eqb j i e ∙ sym (eq-eqb i j (sym e)) | no e ↦ ne_eqb j i e ∙ sym (ne_eqb i j (λ z. e (sym z))) ]

-- all of a tick
pub ticked_with : (w₀ : List ℕ) {w₁ w₂ : List ℕ} (work : ℕ → ℕ) → w₁ ≡ laid (begin work (state_of w₀)) → w₂ ≡ laid (finish (state_of w₁))
    → w₂ ≡ laid (tick_with work (state_of w₀))
ticked_with w₀ work begun e = e ∙ ap (λ (z : State). laid (finish z)) (says (begin work (state_of w₀)) begun)

-- the pattern words serve every state of a run, since its tasks stay
pub fetched_still : {rows again : List Row} {patterns : List ℕ} → tasks_of again ≡ tasks_of rows → Fetched rows patterns → Fetched again patterns
fetched_still {rows} {again} {patterns} e f =
    let same : length again ≡ length rows = sym (tasks_length again) ∙ ap length e ∙ tasks_length rows in
    record {
      enough = omega (arith, f.enough);
      at = λ i h. f.at i (omega arith)
          ∙ ap word_of (sym (task_at_lem rows i) ∙ ap (λ (z : List Task). row z i) (sym e) ∙ task_at_lem again i);
    }
