-- `line::put::put_line` meets its contract: three pieces, each behind the one before.
use mathlib.Core.Path.{◌≡◌}
use Prim.Native.Nat.{◌+◌}
use native.Mathlib.Omega.{arith}
use lib.ListN.{length}
use Rattle.law.specs.Reading.{decimal}
use Rattle.line.specs.Put.{line_of}
use Rattle.line.proofs.Pieces.{line_length, line_put}
use Rattle.line.proofs.put.put_line.Goals.{After-slice_known-3-1, Start}
use Rattle.line.proofs.put.put_line.Goals as goal

line : (s : Start) → length (line_of s.args.key.now s.args.v) ≡ length s.args.key.now + length (decimal s.args.v) + 1
line s = line_length s.args.key.now s.args.v

pub put_bytes-value-requires : goal.put_bytes-value-requires
put_bytes-value-requires c = omega (arith, line (goal.at.put_bytes-value-requires c).Start)

pub put_decimal-end-requires : goal.put_decimal-end-requires
put_decimal-end-requires c =
    let b = c.put_bytes-value in
    (c.requires.0, omega (arith, c.requires.1, line (goal.at.put_decimal-end-requires c).Start, b.ensures.place, b.auto.out))

ended : (c : After-slice_known-3-1)
    → (c.put_decimal-end.result + 1 ≡ c.args.at + length (line_of c.args.key.now c.args.v))
    × (length c.put_decimal-end.new.out ≡ length c.args.out.now)
ended c =
    let b = c.put_bytes-value in
    let d = c.put_decimal-end in
    (omega (arith, line c.before.before.before.before.before.before.before.before.before.before.before, b.ensures.place, d.ensures.place), omega (arith, b.auto.out, d.auto.out))

pub bounds-out-end : goal.bounds-out-end
bounds-out-end c = omega (arith, (ended c).0, (ended c).1, c.requires.1)

pub overflow_add-result : goal.overflow_add-result
overflow_add-result c = omega (arith, (ended c).0, (ended c).1, c.requires.1, c.well_formed)

pub returns : goal.returns
returns c =
    let b = c.put_bytes-value in
    let d = c.put_decimal-end in
    let a = c.args in
    record { place = (ended c).0; bytes = line_put a.out.now a.at a.key.now a.v c.requires.1 b.ensures.bytes b.ensures.place d.ensures.bytes d.ensures.place }
