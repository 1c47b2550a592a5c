-- What a read puts into the room behind what was filled is what it took of the input.
use Rattle.std.proofs.Common.{◌≡◌, ℕ, ◌+◌, ◌≤◌, List, ◌++◌, Option, length, take, sym, ap, ◌∙◌, ap₂, subst, le_refl, drop_at, length-take-le}
use Rattle.std.proofs.lemmas.Slice.{take-put_mid_below}
use Rattle.std.specs.Io.KnownBytes.{Consumes, Keeps}
use Rattle.std.proofs.KnownBytes.{Consumes-trans, Consumes-kept}
use borrow.Rule.Slice.PartMut.{put_mid, post_of}
use lib.Seq.{take-add, take-append-le}

-- the bytes that were filled, and n of those that were put behind them, are the first a + n
pub filled_more : (a k n : ℕ) (room got : List ℕ) → a ≤ length room → n ≤ length got → take a room ++ take n got ≡ take (a + n) (put_mid a k room got)
filled_more a k n room got within fits =
    let front = take-put_mid_below a k room got a (le_refl a) within in
    let after = post_of a k room in
    let behind = ap (take n) (drop_at (take a room) (got ++ after) a (length-take-le a room within)) ∙ take-append-le n got after fits in
    sym (take-add a n (put_mid a k room got) ∙ ap₂ (λ l m. l ++ m) front behind)

pub read_more : (old mid new : Option (List ℕ)) (a k n filled : ℕ) (room got : List ℕ) → a ≤ length room → n ≤ length got → filled ≡ a + n → Consumes old mid (take a room) → Consumes mid new (take n got) → Consumes old new (take filled (put_mid a k room got))
read_more old mid new a k n filled room got within fits is one two =
    subst (Consumes old new) (filled_more a k n room got within fits ∙ ap (λ m. take m (put_mid a k room got)) (sym is)) (Consumes-trans _ _ _ _ _ one two)

pub read_none : (old mid new : Option (List ℕ)) (a k filled : ℕ) (room got : List ℕ) → a ≤ length room → filled ≡ a → Consumes old mid (take a room) → Keeps mid new → Consumes old new (take filled (put_mid a k room got))
read_none old mid new a k filled room got within is one two =
    subst (Consumes old new) (sym (take-put_mid_below a k room got a (le_refl a) within) ∙ ap (λ m. take m (put_mid a k room got)) (sym is)) (Consumes-kept _ _ _ _ one two)
