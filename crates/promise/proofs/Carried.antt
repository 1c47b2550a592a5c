-- Document 02, 4/14, from the law's trips: there and back, back and there, and what an old text says.
use mathlib.Core.List.{List, [], ◌∷◌}
use mathlib.Core.Path.{◌≡◌, sym, ap, ◌∙◌, subst}
use Prim.Native.Nat.{ℕ, ◌≤◌}
use native.Mathlib.Omega.{arith}
use lib.ListN.{length, take}
use lib.Seq.{take_at}
use Rattle.law.specs.Refusal.{accepted, head}
use Rattle.law.specs.Table.{checked}
use Rattle.law.specs.Text.{row_keys, old_keys, IsText}
use Rattle.law.specs.Reading.{text_of}
use Rattle.law.specs.Carry.{new_text, old_text, new_words, to_new_answer, to_old_answer}
use Rattle.law.proofs.TextLongest.{text_longest}
use Rattle.law.proofs.Carry.{new_says, new_filled, old_says, old_filled}
use Rattle.law.proofs.CarryTrips.{new_is_text, new_back, new_back_answer, old_is_text, old_even, old_words_back, old_back, old_back_answer, old_of_table, even_turned, red_refused}
use Rattle.law.proofs.CarrySizes.{old_longest}
use Rattle.promise.specs.Carried.{new_left, old_left, ThereAndBack, BackAndThere, Said, Convertible}

-- the text that an accepted call left, whatever text it was called with
new_left_lem : (text bytes : List ℕ) (n : ℕ) → to_new_answer text (length bytes) ≡ accepted (n ∷ []) → new_left text bytes n ≡ new_text text
new_left_lem text bytes n e =
    let b = new_says text (length bytes) (n ∷ []) e in
    ap (take n) (new_filled text bytes e) ∙ take_at (new_text text) _ n (sym (ap head b.wrote))

old_left_lem : (text bytes : List ℕ) (n : ℕ) → to_old_answer text (length bytes) ≡ accepted (n ∷ []) → old_left text bytes n ≡ old_text text
old_left_lem text bytes n e =
    let b = old_says text (length bytes) (n ∷ []) e in
    ap (take n) (old_filled text bytes e) ∙ take_at (old_text text) _ n (sym (ap head b.wrote))

module _ (text bytes : List ℕ) (n : ℕ) (e : to_new_answer text (length bytes) ≡ accepted (n ∷ [])) where
  left : new_left text bytes n ≡ new_text text
  left = new_left_lem text bytes n e

  back : (room : List ℕ) → length text ≤ length room → to_old_answer (new_left text bytes n) (length room) ≡ accepted (length text ∷ [])
  back room h =
      ap (λ (z : List ℕ). to_old_answer z (length room)) left ∙ new_back_answer text (length bytes) (n ∷ []) e (length room) h

  -- "There and back gives the same bytes."
  pub there_and_back : ThereAndBack text bytes n
  there_and_back =
      record {
        form = subst (IsText row_keys) (sym left) (new_is_text text (length bytes) (n ∷ []) e);
        answer = back;
        same = λ room h. old_left_lem (new_left text bytes n) room (length text) (back room h) ∙ ap old_text left ∙ new_back text (length bytes) (n ∷ []) e;
      }

module _ (text bytes : List ℕ) (n : ℕ) (e : to_old_answer text (length bytes) ≡ accepted (n ∷ [])) where
  turned : old_left text bytes n ≡ old_text text
  turned = old_left_lem text bytes n e

  again : (room : List ℕ) → length text ≤ length room → to_new_answer (old_left text bytes n) (length room) ≡ accepted (length text ∷ [])
  again room h =
      ap (λ (z : List ℕ). to_new_answer z (length room)) turned ∙ old_back_answer text (length bytes) (n ∷ []) e (length room) h

  pub back_and_there : BackAndThere text bytes n
  back_and_there =
      record {
        form = subst (IsText old_keys) (sym turned) (old_is_text text (length bytes) (n ∷ []) e);
        answer = again;
        same = λ room h. new_left_lem (old_left text bytes n) room (length text) (again room h) ∙ ap new_text turned ∙ old_back text (length bytes) (n ∷ []) e;
      }

  -- "It never writes an old text for a table that the old form cannot say."
  pub said : Said text bytes n
  said =
      record {
        even = old_even text (length bytes) (n ∷ []) e;
        words = ap new_words turned ∙ old_words_back text (length bytes) (n ∷ []) e;
      }

-- "turns a new text into an old one when every p is 0"; "17, a row with p 1, with its row"
pub convertible : (words vs : List ℕ) → checked words ≡ accepted vs → Convertible words
convertible words vs good =
    record {
      back = λ even room h. even_turned words vs good even room (omega (arith, old_longest words vs good));
      over = λ even room h.
          let text = text_of row_keys words in
          let turned = even_turned words vs good even 1384 (old_longest words vs good) in
          ap (λ (t : List ℕ). to_new_answer t room) (sym (old_of_table words vs good))
          ∙ old_back_answer text 1384 _ turned room (omega (arith, text_longest words vs good));
      red = red_refused words vs good;
    }
