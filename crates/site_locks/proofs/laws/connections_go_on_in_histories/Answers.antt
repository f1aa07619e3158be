use Rattle.site_locks.proofs.laws.connections_go_on_in_histories.Goals as goal

pub returns : goal.returns
returns g c = record {
  told = λ history container s tells goes_on. record { container = container; tells = tells; goes_on = goes_on };
  goes_on = λ history s goes. (goes.container, goes.tells, goes.goes_on);
}
