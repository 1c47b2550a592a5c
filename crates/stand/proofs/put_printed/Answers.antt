-- The room takes all that is printed.
use Rattle.std.proofs.Common.{arith}
use Rattle.law.proofs.Report.{printed_most}
use Rattle.stand.proofs.Told.{has_room, put_length, put_whole}
use Rattle.stand.proofs.put_printed.Goals as goal

pub unwrap-requires : goal.unwrap-requires
unwrap-requires c = has_room _ _ c.told-room _ c.report.ensures.answer

pub returns-clause-fits : goal.returns-clause-fits
returns-clause-fits c =
    omega (arith, put_length c.args.input.now _ c.told-room _ c.report.ensures.answer _ c.unwrap.ensures, printed_most c.args.input.now)

pub returns-clause-bytes : goal.returns-clause-bytes
returns-clause-bytes c =
    put_whole c.args.input.now _ c.told-room _ c.report.ensures.answer _ _ c.unwrap.ensures c.report.ensures.room
