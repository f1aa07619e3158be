use Rattle.std.proofs.Common.{ℕ, ◌<◌, List, length, ap, arith}
use Rattle.commit_journal.specs.declared.made.Made.{Made}
use Rattle.commit_journal.specs.Requests.{HaveRoom}
use Rattle.commit_journal.proofs.Reserving.{on_err}
use Rattle.commit_journal.proofs.requests.Requests.reserve.Goals as goal

pub returns-in_err-reserve-clause-needed : goal.returns-in_err-reserve-clause-needed
returns-in_err-reserve-clause-needed c =
    let short : (n : ℕ) → HaveRoom c.args.self.now n → n < c.args.places = λ n had. omega (arith, had.most, c.in_err-reserve.ensures.full) in
    on_err _ short

pub returns-in_err-reserve-2-clause-needed : goal.returns-in_err-reserve-2-clause-needed
returns-in_err-reserve-2-clause-needed c =
    let empty = ap (λ (xs : List Made). length xs) c.requires.order.merged in
    let short : (n : ℕ) → HaveRoom c.args.self.now n → n < c.args.places = λ n had. omega (arith, had.merged, c.in_err-reserve-2.ensures.full, empty) in
    on_err _ short

pub returns-in_err-reserve-3-clause-needed : goal.returns-in_err-reserve-3-clause-needed
returns-in_err-reserve-3-clause-needed c =
    let short : (n : ℕ) → HaveRoom c.args.self.now n → n < c.args.places = λ n had. omega (arith, had.late, c.in_err-reserve-3.ensures.full) in
    on_err _ short
