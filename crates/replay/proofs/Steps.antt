-- The answer of a step taken apart: a place is handed on, or its refusal.
use mathlib.Core.Bool.{Bool, true, false}
use mathlib.Core.List.{List, [], ◌∷◌}
use mathlib.Core.Path.{◌≡◌, refl, sym, ap, ◌∙◌}
use Prim.Native.Nat.{ℕ}
use Rattle.std.proofs.Common.{Result, Ok, Err}
use Rattle.law.specs.Refusal.{accepted, refused}
use Rattle.refusal.specs.Shown.{shown, answered}
use Rattle.refusal.specs.declared.Refusal.{Refusal}
use Rattle.replay.specs.Shown.{stepped}

never_refused : {vs ws : List ℕ} {k : ℕ} → accepted vs ≡ refused k ws → ⊥
never_refused e = cc

first_value : {n m : ℕ} → accepted (n ∷ []) ≡ accepted (m ∷ []) → n ≡ m
first_value e = cc

never_shown : (x : Refusal) {vs : List ℕ} → shown x ≡ accepted vs → ⊥
never_shown x e = cc

pub good_step : (r : Result ℕ Refusal) (b : Bool) (place next : ℕ) → answered r ≡ stepped b place next → (n : ℕ) → r ≡ Ok n → b ≡ false
good_step r false place next e n is = refl
good_step r true place next e n is = absurd (never_refused (sym (ap answered is) ∙ e))

pub next_step : (r : Result ℕ Refusal) (b : Bool) (place next : ℕ) → answered r ≡ stepped b place next → (n : ℕ) → r ≡ Ok n → n ≡ next
next_step r false place next e n is = first_value (sym (ap answered is) ∙ e)
next_step r true place next e n is = absurd (never_refused (sym (ap answered is) ∙ e))

pub bad_step : (r : Result ℕ Refusal) (b : Bool) (place next : ℕ) → answered r ≡ stepped b place next → (x : Refusal) → r ≡ Err x → b ≡ true
bad_step r false place next e x is = absurd (never_shown x (sym (ap answered is) ∙ e))
bad_step r true place next e x is = refl

pub place_step : (r : Result ℕ Refusal) (b : Bool) (place next : ℕ) → answered r ≡ stepped b place next → (x : Refusal) → r ≡ Err x
    → shown x ≡ refused 18 (place ∷ [])
place_step r false place next e x is = absurd (never_shown x (sym (ap answered is) ∙ e))
place_step r true place next e x is = sym (ap answered is) ∙ e
