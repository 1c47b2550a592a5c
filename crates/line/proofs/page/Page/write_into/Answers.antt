use mathlib.Core.Path.{sym}
use lib.ListN.{length}
use Rattle.law.proofs.TextAnswers.{put_short, put_accepted, put_filled, put_kept}
use Rattle.line.proofs.page.Page.write_into.Goals as goal

pub returns-then-room-text : goal.returns-then-room-text
returns-then-room-text g c =
    let e = put_short c.args.self.now (length c.args.room.now) (rw c.as_slice-text.ensures at c.if-room-text.true) in
    record { answer = sym e; room = sym (put_kept c.args.self.now c.args.room.now e) }

pub returns : goal.returns
returns g c =
    let text = c.args.self.now in
    let room = c.args.room.now in
    let e = put_accepted text (length room) (rw c.as_slice-text.ensures at c.if-room-text.false) in
    record {
      answer = rw c.as_slice-text.ensures (sym e);
      room = rw (c.copy_from_slice.ensures.after, c.as_slice-text.ensures) (sym (put_filled text room e));
    }
