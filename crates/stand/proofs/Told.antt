-- What was printed for the bytes that were read is what is printed for all that the input had; and the room is never too short for it.
use Rattle.std.proofs.Common.{◌≡◌, ◌≤◌, List, [], ◌∷◌, Option, Some, None, Result, Ok, Err, OnOk, IfSome, take, drop, length, ap, ap₂, refl, sym, ◌∙◌, subst, arith, ℕ, IsOk}
use Rattle.std.proofs.Math.Seq.{take-append_seam}
use Rattle.std.specs.Io.KnownBytes.{Appends}
use Rattle.law.specs.Refusal.{accepted, value_of}
use Rattle.law.specs.Report.{printed, report_answer, report_room}
use Rattle.law.proofs.Report.{printed_cut, printed_most, report_accepted}
use Rattle.refusal.specs.Shown.{answered}
use Rattle.refusal.specs.declared.Refusal.{Refusal}

pub told : {E : Type 0} (r : Result (Unit {0}) E) (known old new : Option (List ℕ)) (seen put : List ℕ) (size : ℕ) → size ≡ 2048
    → IfSome known (λ bytes. seen ≡ take size bytes) → put ≡ printed seen → OnOk r (Appends old new put)
    → OnOk r (IfSome known (λ bytes. Appends old new (printed bytes)))
told (Ok x) None old new seen put size long first is wrote = tt
told (Ok x) (Some bytes) old new seen put size long first is wrote =
    subst (Appends old new) (is ∙ ap printed first ∙ printed_cut bytes size (omega (arith, long))) wrote
told (Err e) known old new seen put size long first is wrote = tt

-- the room takes all that is printed
module _ (input room : List ℕ) (size : length room ≡ 5632) (r : Result ℕ Refusal)
    (answer : answered r ≡ report_answer input (length room)) where
  enough : length (printed input) ≤ length room
  enough = omega (arith, printed_most input, size)

  accepts : answered r ≡ accepted (length (printed input) ∷ [])
  accepts = answer ∙ (report_accepted input room enough).0

  pub has_room : IsOk r
  has_room = by r accepts
    where
      by : (s : Result ℕ Refusal) → answered s ≡ accepted (length (printed input) ∷ []) → IsOk s
      by (Ok m) e = refl
      by (Err x) e = cc e

  pub put_length : (m : ℕ) → r ≡ Ok m → m ≡ length (printed input)
  put_length m is = ap (λ (s : Result ℕ Refusal). value_of (answered s)) (sym is) ∙ ap value_of accepts

  pub put_whole : (new : List ℕ) (m : ℕ) → r ≡ Ok m → new ≡ report_room input room
      → take m new ≡ printed input
  put_whole new m is e =
      ap₂ take (put_length m is) (e ∙ (report_accepted input room enough).1)
      ∙ take-append_seam (printed input) (drop (length (printed input)) room)
