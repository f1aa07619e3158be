use Rattle.std.proofs.Common.{◌≡◌, ◌∙◌, ◌≤◌, Some, ℕ, Bool, List, true, false, refl, sym, ap, subst, arith}
use Rattle.std.proofs.lemmas.Bool.Decides.{nat_tests}
use Rattle.std.proofs.lemmas.Result.{IfOk-weaker}
use Rattle.container_core.specs.Container.{ContainerValue}
use Rattle.scenario_text.specs.Answer.{Answer, Refused, answer_of, refused_if}
use Rattle.scenario_text.specs.declared.answer.LineAnswer.{LineAnswer}
use Rattle.scenario_text.specs.declared.seat_line.SeatLine.{SeatLine}
use Rattle.scenario_text.specs.declared.seat_line.SeatLine.TheVariants as lines
use Rattle.scenario_text.specs.declared.seat_line.TheConstants.{MAX_SEAT}
use Rattle.session_steps.specs.Sessions.{SessionsState}
use Rattle.seat_lines.specs.Handing.{HasDone}
use Rattle.seat_lines.specs.Lines.{bytes_line, is_beyond, open_line}
use Rattle.seat_lines.specs.Site.{SeatsState, SiteState, site_in}
use Rattle.seat_lines.proofs.Placing.{not_beyond}
use Rattle.seat_lines.proofs.RunSteps.{still_done}
use Rattle.seat_lines.proofs.seats.Seats.line.Goals as goal

pub returns-else-number-gt-MAX_SEAT-clause-goes : goal.returns-else-number-gt-MAX_SEAT-clause-goes
returns-else-number-gt-MAX_SEAT-clause-goes g c = c.conn_line-answer.ensures.goes c.args.container.now c.requires.goes

pub returns-in-Bytes-clause-goes : goal.returns-in-Bytes-clause-goes
returns-in-Bytes-clause-goes g c = c.bytes_line-answer.ensures.goes c.args.container.now c.requires.goes

pub returns-in-End-clause-goes : goal.returns-in-End-clause-goes
returns-in-End-clause-goes g c = c.end_line-answer.ensures.goes c.args.container.now c.requires.goes

-- the answer of a line that makes no step, where the connections became these
still_by : (line is : SeatLine) (c : ContainerValue) (sessions : SessionsState) (seats : SeatsState) (answer : Answer SiteState) → line ≡ is → HasDone is c sessions seats answer c → HasDone line c sessions seats answer c
still_by line is c sessions seats answer same done = subst (λ (l : SeatLine). HasDone l c sessions seats answer c) (sym same) done

pub returns-then-number-gt-MAX_SEAT-clause-answer : goal.returns-then-number-gt-MAX_SEAT-clause-answer
returns-then-number-gt-MAX_SEAT-clause-answer g c =
    let n : ℕ = c.in-Conn.number in
    let s : SiteState = site_in c.args.container.now c.args.sessions c.args.self.now in
    let beyond : is_beyond n ≡ true = grind (arith, nat_tests, c.if-number-gt-MAX_SEAT.true) in
    still_by c.args.line (lines.Conn n) c.args.container.now c.args.sessions c.args.self.now Refused c.in-Conn.is
    (still_done (lines.Conn n) c.args.container.now c.args.sessions c.args.self.now Refused refl (ap (λ (b : Bool). Some (refused_if b (open_line s n))) (sym beyond)))

pub returns-else-number-gt-MAX_SEAT-clause-answer : goal.returns-else-number-gt-MAX_SEAT-clause-answer
returns-else-number-gt-MAX_SEAT-clause-answer g c =
    let n : ℕ = c.in-Conn.number in
    let old : ContainerValue = c.args.container.now in
    let seats : SeatsState = c.args.self.now in
    let new : SeatsState = c.conn_line-answer.new.self in
    let s : SiteState = site_in old c.args.sessions seats in
    let t : SiteState = site_in old c.args.sessions new in
    let fits : n ≤ MAX_SEAT = grind (arith, nat_tests, c.if-number-gt-MAX_SEAT.false) in
    let near : is_beyond n ≡ false = not_beyond n fits in
    IfOk-weaker c.conn_line-answer.result
    (λ (a : LineAnswer). (x : SiteState) → x.seats ≡ seats → answer_of a (record x { seats = new }) ≡ open_line x n)
    (λ (a : LineAnswer). HasDone c.args.line old c.args.sessions seats (answer_of a t) old)
    (λ a is.
    still_by c.args.line (lines.Conn n) old c.args.sessions seats (answer_of a t) c.in-Conn.is
    (still_done (lines.Conn n) old c.args.sessions seats (answer_of a t) refl
    (ap (λ (x : Answer SiteState). Some x) (is s refl) ∙ ap (λ (b : Bool). Some (refused_if b (open_line s n))) (sym near))))
    c.conn_line-answer.ensures.answer

pub returns-in-Bytes-clause-answer : goal.returns-in-Bytes-clause-answer
returns-in-Bytes-clause-answer g c =
    let n : ℕ = c.in-Bytes.number in
    let bytes : List ℕ = c.in-Bytes.bytes in
    let old : ContainerValue = c.args.container.now in
    let seats : SeatsState = c.args.self.now in
    let new : SeatsState = c.bytes_line-answer.new.self in
    let s : SiteState = site_in old c.args.sessions seats in
    let t : SiteState = site_in old c.args.sessions new in
    IfOk-weaker c.bytes_line-answer.result
    (λ (a : LineAnswer). (x : SiteState) → x.seats ≡ seats → answer_of a (record x { seats = new }) ≡ bytes_line x n bytes)
    (λ (a : LineAnswer). HasDone c.args.line old c.args.sessions seats (answer_of a t) old)
    (λ a is.
    still_by c.args.line (lines.Bytes n bytes) old c.args.sessions seats (answer_of a t) c.in-Bytes.is
    (still_done (lines.Bytes n bytes) old c.args.sessions seats (answer_of a t) refl (ap (λ (x : Answer SiteState). Some x) (is s refl))))
    c.bytes_line-answer.ensures.answer

pub returns-in-End-clause-answer : goal.returns-in-End-clause-answer
returns-in-End-clause-answer g c =
    let n : ℕ = c.in-End.number in
    let old : ContainerValue = c.args.container.now in
    let seats : SeatsState = c.args.self.now in
    let new : SeatsState = c.end_line-answer.new.self in
    let s : SiteState = site_in old c.args.sessions seats in
    let t : SiteState = site_in old c.args.sessions new in
    let a : LineAnswer = c.end_line-answer.result in
    still_by c.args.line (lines.End n) old c.args.sessions seats (answer_of a t) c.in-End.is
    (still_done (lines.End n) old c.args.sessions seats (answer_of a t) refl (ap (λ (x : Answer SiteState). Some x) (c.end_line-answer.ensures.answer s refl)))
