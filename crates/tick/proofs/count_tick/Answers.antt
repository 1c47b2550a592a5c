-- `tick::count_tick` meets its contract: two words of a state change, and both still fit.
use mathlib.Core.Path.{◌∙◌}
use Rattle.law.proofs.Tests.{bit_most}
use Prim.Native.Nat.{◌+◌}
use native.Mathlib.Omega.{arith}
use lib.ListN.{get_or, length-set}
use lib.Seq.{get_or-set_other}
use Rattle.rows.proofs.Words.{words_long}
use Rattle.tick.proofs.Chain.{byte_bit, time_word, idle_word, counted}
use Rattle.tick.proofs.count_tick.Goals as goal

pub overflow_add-words : goal.overflow_add-words
overflow_add-words c = omega (arith, time_word c.args.words.now)

pub bounds-words-2 : goal.bounds-words-2
bounds-words-2 c = simp length-set (omega (arith, words_long c.requires.0))

pub overflow_add-words-2 : goal.overflow_add-words-2
overflow_add-words-2 c =
    let w = c.args.words.now in
    omega (arith, c.from.ensures, byte_bit c.args.idle, bit_most c.args.idle, idle_word w, get_or-set_other w 1 2 (get_or w 1 0 + 1) 0 (omega arith))

pub bounds-words-2-2 : goal.bounds-words-2-2
bounds-words-2-2 c = simp length-set (omega (arith, words_long c.requires.0))

pub returns : goal.returns
returns c = counted c.requires.0 c.from.result c.args.idle (c.from.ensures ∙ byte_bit c.args.idle)
