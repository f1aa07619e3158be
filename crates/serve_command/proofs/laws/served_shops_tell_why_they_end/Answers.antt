use Rattle.std.proofs.Common.{◌∙◌, ap, inl, inr}
use Rattle.service_log.specs.Ending.{status_of}
use Rattle.serve_command.proofs.Ended.{not_started, with_reason, without_reason, last_line, no_last_line}
use Rattle.serve_command.proofs.laws.served_shops_tell_why_they_end.Goals as goal

pub returns-clause-ended : goal.returns-clause-ended
returns-clause-ended c words status keeper before after (inl (fault, is, told)) = inl (not_started fault status before after is told)
returns-clause-ended c words status keeper before after (inr (serving, line, (left, told, run, closed))) = inr (
  serving,
  told,
  run.end,
  left,
  run.sink.handed,
  run.sink.faults,
  run.sink.kept,
  run.reason,
  closed.0,
  line,
  run.ran,
  λ is. run.status_is ∙ ap status_of is,
  λ is. run.status_is ∙ ap status_of is,
  λ id is. run.status_is ∙ ap status_of is,
  λ is. run.status_is ∙ ap status_of is,
  λ is. run.status_is ∙ ap status_of is,
  run.told,
  run.count,
  closed.1,
  closed.2,
  closed.3,
)

pub returns-clause-behind : goal.returns-clause-behind
returns-clause-behind c reason kept is = with_reason reason kept (last_line kept is)

pub returns-clause-others : goal.returns-clause-others
returns-clause-others c reason kept failed spent wanted row = without_reason reason kept (no_last_line kept failed spent wanted row)
