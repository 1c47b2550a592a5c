-- A table admitted with some rows deeply-red is admitted with those rows even: the theory's `evened`, over the verdict's answers and rooms.
use mathlib.Core.List.{List, [], ◌∷◌}
use mathlib.Core.Path.{◌≡◌, sym, ap, ◌∙◌}
use Prim.Native.Nat.{ℕ, ◌%◌}
use native.Mathlib.Omega.{arith}
use lib.ListN.{length}
use Rattle.law.specs.Refusal.{accepted}
use Rattle.law.specs.Table.{table_of, checked}
use Rattle.law.specs.Verdict.{verdict}
use Rattle.law.specs.Easing.{Eased}
use Rattle.law.proofs.Table.{Accepted, checked_accepted, well_formed_accepted}
use Rattle.law.proofs.Verdict.{AdmittedBy, admitted_says, verdict_admitted}
use Rattle.theory.proofs.Easing.{evened}
use Rattle.promise.specs.EvenToo.{WithEven, EvenToo}
use Rattle.promise.proofs.Demands.{admitted_all, reported_is}

module _ (table even room vs : List ℕ) (with-even : WithEven table even) (e : verdict table (length room) ≡ accepted vs) where
  w : AdmittedBy table (length room)
  w = admitted_says table (length room) vs e

  a : Accepted table w.vs
  a = checked_accepted table w.vs w.good

  eased : Eased (table_of table) (table_of even)
  eased = evened (table_of table) (table_of even) a.table with-even.rows

  good : checked even ≡ accepted (length (table_of even) ∷ [])
  good = well_formed_accepted even (ap (λ (z : ℕ). z % 7) with-even.long ∙ a.whole) eased.well_formed

  again : AdmittedBy even (length room)
  again =
      record {
        vs = length (table_of even) ∷ [];
        good = good;
        fits = omega (arith, with-even.rows.many, w.fits);
        all = eased.still_admitted w.all;
      }

  pub even_too : EvenToo table even room
  even_too =
      let all = admitted_all (table_of table) w.all in
      record {
        answer = (verdict_admitted even room again.vs again.good again.fits (admitted_all (table_of even) again.all)).0
            ∙ ap (λ (z : ℕ). accepted (z ∷ [])) with-even.rows.many
            ∙ sym (verdict_admitted table room w.vs w.good w.fits all).0;
        no_longer = λ i h.
            omega (
              arith,
              reported_is even room again i (omega (arith, with-even.rows.many)),
              reported_is table room w i h,
              eased.no_longer i h,
            );
      }
