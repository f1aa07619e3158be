use Rattle.std.proofs.Common.{subst, map, List}
use Rattle.outside.specs.declared.link.LinkEvent.{LinkEvent}
use Rattle.outside.specs.Link.{Made}
use Rattle.ssm_stub.specs.Reads.{read_machine}
use Rattle.ssm_stub.specs.Runs.{told_of}
use Rattle.ssm_stub.specs.Writes.{write_machine}
use Rattle.ssm_stub.proofs.LinkTelling.{until-fits, until-calls}
use Rattle.ssm_stub.proofs.Running.{made_join, ran_once, ran_join}
use Rattle.ssm_stub.proofs.stepping.runs_join.Goals as goal

pub returns-clause-made : goal.returns-clause-made
returns-clause-made g c = λ old mid new first more h k. made_join g.L.Link.makes old first mid more new h k

pub returns-clause-write_once : goal.returns-clause-write_once
returns-clause-write_once g c = λ ask start end old new step. ran_once write_machine g.L.Link.makes ask start old end new step

pub returns-clause-write : goal.returns-clause-write
returns-clause-write g c = λ ask start mid end old reached new first more h k. ran_join write_machine g.L.Link.makes ask start old first mid reached more end new h k

pub returns-clause-answered : goal.returns-clause-answered
returns-clause-answered g c = λ ask start end old new events ran.
    let Making : List LinkEvent → Type 0 = λ calls. Made g.L.Link.makes old calls new in
    record {
      fitting = until-fits (map told_of events) start ran.fitting;
      made = subst Making (until-calls ask events start ran.fitting) ran.made;
      ends = ran.ends;
    }

pub returns-clause-read_once : goal.returns-clause-read_once
returns-clause-read_once g c = λ ask start end old new step. ran_once read_machine g.L.Link.makes ask start old end new step

pub returns-clause-read : goal.returns-clause-read
returns-clause-read g c = λ ask start mid end old reached new first more h k. ran_join read_machine g.L.Link.makes ask start old first mid reached more end new h k
