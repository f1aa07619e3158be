use Rattle.seat_steps.proofs.Functions.{reads-rightly as texts-rightly}
use Rattle.seat_laws.proofs.Asking.{AskLaws, BearLaws}
use Rattle.seat_laws.proofs.Expiring.{taken-late}
use Rattle.seat_laws.proofs.Holding.{stays-heard}
use Rattle.seat_laws.proofs.OwnCookies.{BeginsBy, begins-so}
use Rattle.seat_laws.proofs.OwnReads.{same-order}
use Rattle.seat_laws.proofs.Spending.{spent-is-next}
use Rattle.seat_laws.proofs.TellingReads.{tells-heard}
use Rattle.seat_laws.proofs.reading.seats_read_their_own_sessions.Goals as goal

pub returns-clause-borne : goal.returns-clause-borne
returns-clause-borne c =
    let ask : AskLaws = record {
      rightly = texts-rightly c.cookies_are_accepted_of_their_texts.ensures.cookie c.cookies_are_accepted_of_their_texts.ensures.none c.tokens_are_read_once.ensures.read;
      decides = c.requests_are_decided_as_read.ensures;
      accepted = c.cookies_are_of_the_key.ensures.accepted;
    } in
    let bear : BearLaws = record {
      reads = c.cookies_are_accepted_of_their_texts.ensures.cookie;
      taken = c.cookies_are_of_the_key.ensures.taken;
    } in
    λ g seat w r none waits. (let it : BeginsBy g.key seat.connection.received g.now r = begins-so ask bear g seat w r none waits in (it.head, it.cookie, it.bears, it.asks, it.moment_is, it.early))

pub returns-clause-same : goal.returns-clause-same
returns-clause-same c = λ g seat w r after waits still. same-order g seat w r after waits still

pub returns-clause-late : goal.returns-clause-late
returns-clause-late c =
    let ask : AskLaws = record {
      rightly = texts-rightly c.cookies_are_accepted_of_their_texts.ensures.cookie c.cookies_are_accepted_of_their_texts.ensures.none c.tokens_are_read_once.ensures.read;
      decides = c.requests_are_decided_as_read.ensures;
      accepted = c.cookies_are_of_the_key.ensures.accepted;
    } in
    let bear : BearLaws = record {
      reads = c.cookies_are_accepted_of_their_texts.ensures.cookie;
      taken = c.cookies_are_of_the_key.ensures.taken;
    } in
    λ g seat w head cookie rests memory bears past. taken-late ask bear g seat w head cookie rests memory bears past

pub returns-clause-held : goal.returns-clause-held
returns-clause-held c = λ g seat w outcome hears none. stays-heard g seat w outcome hears none

pub returns-clause-told : goal.returns-clause-told
returns-clause-told c = λ g seat w. tells-heard g seat w

pub returns-clause-spent : goal.returns-clause-spent
returns-clause-spent c = spent-is-next
