-- Steps without a gap, as one run over a link.
use Rattle.std.specs.Prelude.{◌≡◌, List}
use Rattle.outside.specs.declared.link.LinkEvent.{LinkEvent}
use Rattle.ssm_frames.specs.Spelling.{encode_of}
use Rattle.ssm_stub.specs.declared.event.StubEvent.{StubEvent}
use Rattle.ssm_stub.specs.Reads.{ReadState, read_ask, read_machine}
use Rattle.ssm_stub.specs.Runs.{Ran}
use Rattle.ssm_stub.specs.Writes.{WriteState, write_machine, write_until}

-- A read has run so far, from its begin: the link made the calls that it wanted, and no other.
pub record HasRead {L : Type 0} (makes : L → LinkEvent → L → Type 0) (start : ReadState) (old : L) (here : ReadState) (new : L) : Type 0 where
  pub events : List StubEvent
  pub ran : Ran read_machine makes (encode_of (read_ask start)) start old events here new
  pub same : here ≡ record start { asks = here.asks }

-- A write has run so far, from its begin, and at most to its answer.
pub record HasWritten {L : Type 0} (makes : L → LinkEvent → L → Type 0) (start : WriteState) (old : L) (here : WriteState) (new : L) : Type 0 where
  pub events : List StubEvent
  pub ran : Ran write_until makes (encode_of start.ask) start old events here new
  pub same : here ≡ record start { asks = here.asks }

-- A write has run so far, from its begin, beyond its answer where it has one.
pub record HasSettled {L : Type 0} (makes : L → LinkEvent → L → Type 0) (start : WriteState) (old : L) (here : WriteState) (new : L) : Type 0 where
  pub events : List StubEvent
  pub ran : Ran write_machine makes (encode_of start.ask) start old events here new
  pub same : here ≡ record start { asks = here.asks }
