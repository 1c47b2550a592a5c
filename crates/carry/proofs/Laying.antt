-- How far a loop has come: words laid anew, and rows that the old form can say.
use mathlib.Core.Bool.{Bool}
use mathlib.Core.List.{List, [], ◌∷◌, ◌++◌}
use mathlib.Core.Path.{◌≡◌, refl, sym, ap, ◌∙◌}
use Prim.Native.Nat.{ℕ, suc, ◌+◌, ◌*◌, ◌/◌, ◌%◌, ◌≤◌, ◌<◌}
use native.Mathlib.Nat.{suc-mul, mul-le-mul_right}
use native.Mathlib.Numerals.{add-one}
use native.Mathlib.Omega.{arith}
use lib.Dec.{ltb, eqb}
use lib.ListN.{length, get_or, take, set, length-set}
use lib.Seq.{take-suc, take-suc-set, take_all}
use borrow.Author.Tests.{eq-eqb, ne_eqb}
use Rattle.law.specs.Sums.{pick, first}
use Rattle.law.specs.Refusal.{accepted, refused}
use Rattle.law.specs.Table.{Task, table_of, row, is_red, task_at}
use Rattle.law.specs.Carry.{relaid, unsaid, sayable}
use Rattle.law.proofs.First.{Searched, searched_hit, searched_next, searched_end}
use Rattle.law.proofs.Relaid.{row_of_lem, relaid_length, relaid_at}
use Rattle.law.proofs.Table.{table_length, table_row}
use Rattle.law.proofs.Carry.{sayable_refused, sayable_accepted}

-- the first l words are laid
pub record Laid (words : List ℕ) (rows from to : ℕ) (out : List ℕ) (l : ℕ) : Type 0 where
  pub whole : length words ≡ rows * from
  pub long : length out ≡ rows * to
  pub from_some : 0 < from
  pub to_some : 0 < to
  pub so : take l out ≡ take l (relaid from to words)

module _ {words : List ℕ} {rows from to : ℕ} {out : List ℕ} {l : ℕ} (i : Laid words rows from to out l) where
  relaid_long : length (relaid from to words) ≡ rows * to
  relaid_long = relaid_length from to words rows i.from_some i.whole

  module _ (h : l < length out) where
    pub in_row : l / to * from + from ≤ length words
    in_row =
        omega
        (arith, i.whole, suc-mul (l / to) from, mul-le-mul_right {m = suc (l / to)} {n = rows} from (row_of_lem to rows l i.to_some (omega (arith, i.long))))

    pub laid_next : {v : ℕ} → v ≡ pick (ltb (l % to) from) (get_or words (l / to * from + l % to) 0) 0 → Laid words rows from to (set out l v) (l + 1)
    laid_next {v} e =
        let new : List ℕ = relaid from to words in
        let same : v ≡ get_or new l 0 = e ∙ sym (relaid_at from to words rows i.from_some i.whole l (omega (arith, i.long))) in
        record {
          whole = i.whole;
          long = length-set out l v ∙ i.long;
          from_some = i.from_some;
          to_some = i.to_some;
          so = rw (add-one l)
              (take-suc-set out l v h ∙ ap (λ (ws : List ℕ). ws ++ (v ∷ [])) i.so
              ∙ ap (λ (z : ℕ). take l new ++ (z ∷ [])) same ∙ sym (take-suc new l 0 (omega (arith, relaid_long, i.long))));
        }

  pub laid_all : l ≡ length out → out ≡ relaid from to words
  laid_all e =
      let a : l ≡ length (relaid from to words) = omega (arith, relaid_long, i.long) in
      sym (take_all l out (omega arith)) ∙ i.so ∙ take_all l (relaid from to words) (omega arith)

-- whether a row is one that the old form cannot say
unfoldable pub red : List ℕ → ℕ → Bool
red words i = is_red (row (table_of words) i)

-- the first i rows are not
pub record SaidSo (words : List ℕ) (i : ℕ) : Type 0 where
  pub searched : Searched (red words) (length words / 7) i

unsaid_is : (words : List ℕ) {n : ℕ} → first (red words) (length words / 7) ≡ n → unsaid (table_of words) ≡ n
unfolding unsaid red
unsaid_is words e = ap (first (red words)) (table_length words) ∙ e

module _ {words : List ℕ} {i : ℕ} (s : SaidSo words i) where
  module _ (h : i < length words / 7) {t : Task} (e : t ≡ task_at words i) where
    red_is : red words i ≡ eqb t.p 1
    unfolding red
    red_is = ap is_red (table_row words i h ∙ sym e)

    pub said_next : (t.p ≡ 1 → ⊥) → SaidSo words (i + 1)
    said_next n = record { searched = searched_next s.searched h (red_is ∙ ne_eqb t.p 1 n) }

    pub said_not : t.p ≡ 1 → refused 17 (i ∷ []) ≡ sayable (table_of words)
    said_not n = sym (sayable_refused _ i (unsaid_is words (searched_hit s.searched h (red_is ∙ eq-eqb t.p 1 n))) (omega (arith, table_length words)))

  pub said_all : length words / 7 ≤ i → accepted (length words / 7 ∷ []) ≡ sayable (table_of words)
  said_all h =
      ap (λ (z : ℕ). accepted (z ∷ [])) (sym (table_length words))
      ∙ sym (sayable_accepted _ (unsaid_is words (searched_end s.searched h) ∙ sym (table_length words)))
