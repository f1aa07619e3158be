use Rattle.std.proofs.Common.{refl, [], ◌∷◌, ◌++◌}
use Rattle.ssm_frames.specs.Spelling.{encode_of}
use Rattle.ssm_stub.specs.Reads.{read_ask}
use Rattle.ssm_stub.specs.Runs.{told_of}
use Rattle.session_way.proofs.GoingOn.{read_same, read_step_of, write_same, write_step_of, written_on}
use Rattle.session_way.proofs.laws.runs_go_on.Goals as goal

pub returns-clause-read_begins : goal.returns-clause-read_begins
returns-clause-read_begins g c = λ start l. record { events = []; ran = record { fitting = tt; made = refl; ends = refl }; same = refl }

pub returns-clause-read : goal.returns-clause-read
returns-clause-read g c = λ start here after old mid new h step.
    let laws = c.runs_join.ensures in
    let ask = encode_of (read_ask start) in
    let own = read_step_of g.L.Link.makes start here mid after new h.same step in
    record {
      events = h.events ++ own.event ∷ [];
      ran = laws.read ask start here after old mid new h.events (own.event ∷ []) h.ran (laws.read_once ask here after mid new own);
      same = read_same start here after (told_of own.event) h.same own.hears;
    }

pub returns-clause-write_begins : goal.returns-clause-write_begins
returns-clause-write_begins g c = λ start l. record { events = []; ran = record { fitting = tt; made = refl; ends = refl }; same = refl }

pub returns-clause-write : goal.returns-clause-write
returns-clause-write g c = λ passes start here after old mid new h wants step.
    let laws = c.runs_join.ensures in
    let ask = encode_of start.ask in
    let own = write_step_of g.L.Link.makes start here mid after new h.same step in
    let begun = laws.answered ask start here old mid h.events h.ran in
    let joined = laws.write ask start here after old mid new h.events (own.event ∷ []) begun (laws.write_once ask here after mid new own) in
    written_on g.L.Link.makes start here after old mid new h wants own joined

pub returns-clause-settle_begins : goal.returns-clause-settle_begins
returns-clause-settle_begins g c = λ start here old new h.
    record { events = h.events; ran = c.runs_join.ensures.answered (encode_of start.ask) start here old new h.events h.ran; same = h.same }

pub returns-clause-settle : goal.returns-clause-settle
returns-clause-settle g c = λ start here after old mid new h step.
    let laws = c.runs_join.ensures in
    let ask = encode_of start.ask in
    let own = write_step_of g.L.Link.makes start here mid after new h.same step in
    record {
      events = h.events ++ own.event ∷ [];
      ran = laws.write ask start here after old mid new h.events (own.event ∷ []) h.ran (laws.write_once ask here after mid new own);
      same = write_same start here after (told_of own.event) h.same own.hears;
    }
