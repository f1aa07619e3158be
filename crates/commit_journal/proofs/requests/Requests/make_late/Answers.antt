use Rattle.std.proofs.Common.{◌+◌, arith}
use Rattle.commit_journal.specs.Requests.{made_count}
use Rattle.commit_journal.proofs.LateOnes.{made_late}
use Rattle.commit_journal.proofs.requests.Requests.make_late.Goals as goal

pub make-requires-clause-room : goal.make-requires-clause-room
make-requires-clause-room c =
    let has = c.make_room.ensures.kept.room (made_count c.args.self.now + 1) c.requires.room in
    omega (arith, has.late, c.make_room.ensures.kept.few, c.make_room.ensures.free)

pub returns : goal.returns
returns c =
    made_late c.args.self.now c.make_room.new.self c.make.new.made c.args.request c.args.place c.make_room.ensures.kept c.make_room.ensures.free c.make.ensures.items c.make.ensures.capacity
