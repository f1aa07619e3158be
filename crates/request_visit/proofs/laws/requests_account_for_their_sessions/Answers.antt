use Rattle.std.proofs.Common.{refl, Ok, Err}
use Rattle.outcome_items.specs.declared.outcome.ItemOutcome.TheVariants as item
use Rattle.ssm_stub.proofs.Distinct.{holders-differ}
use Rattle.ssm_stub.proofs.ReadFacts.{read_facts}
use Rattle.ssm_stub.proofs.ReadOutcomes.{lost, read_so}
use Rattle.ssm_stub.specs.declared.read_call.ReadRefusal.TheVariants as read_refusal
use Rattle.request_visit.specs.Sessions.{MakesAmong}
use Rattle.request_visit.specs.declared.visit.Work.TheVariants.{Opening, Decided}
use Rattle.request_visit.proofs.Chaining.{missed_so, written_so}
use Rattle.request_visit.proofs.Standing.{advance_stands, answered_stands, back_stands, cookie_stays, cookie_told_by, dropped_stands, holders_stand, inside_stands, item_stands, leave_stands, meanwhile_stands, opened_stands, outside_stands, reading_begins, unread_begins, windows_stand}
use Rattle.request_visit.proofs.Plain.{expired_by, full_by, overload_by, set_by, unset_by}
use Rattle.request_visit.proofs.laws.requests_account_for_their_sessions.Goals as goal

pub returns-clause-begins : goal.returns-clause-begins
returns-clause-begins g c = λ history facts counts nonce cookie v is. reading_begins g.L.Link.makes history facts counts nonce cookie v is

pub returns-clause-unread : goal.returns-clause-unread
returns-clause-unread g c = λ history facts counts v is. unread_begins g.L.Link.makes history facts counts Opening v is (tt, refl, refl)

pub returns-clause-refused : goal.returns-clause-refused
returns-clause-refused g c = λ history facts counts why v is.
    unread_begins g.L.Link.makes history facts counts (Decided (item.Refused why)) v is ((tt, refl), refl)

pub returns-clause-spent : goal.returns-clause-spent
returns-clause-spent g c = λ history facts counts seen v is.
    unread_begins g.L.Link.makes history facts counts (Decided (item.SerialsSpent seen)) v is ((tt, refl), refl)

pub returns-clause-opens : goal.returns-clause-opens
returns-clause-opens g c = λ begin history v tries program is s. opened_stands g.L.Link.makes begin history v tries program is s

pub returns-clause-dropped : goal.returns-clause-dropped
returns-clause-dropped g c = λ begin history v s. dropped_stands g.L.Link.makes begin history v s

pub returns-clause-meanwhile : goal.returns-clause-meanwhile
returns-clause-meanwhile g c = λ begin history more v s. meanwhile_stands g.L.Link.makes begin history more v s

pub returns-clause-inside : goal.returns-clause-inside
returns-clause-inside g c = λ begin old new container after visits longer s.
    inside_stands g.L.Link.makes begin g.P.Program.asks old new container after visits longer s

pub returns-clause-outside : goal.returns-clause-outside
returns-clause-outside g c = λ begin history v way counts link after turned steps s.
    outside_stands g.L.Link.makes begin c.answers_stay.ensures.write history v way counts link after turned steps s

pub returns-clause-stays : goal.returns-clause-stays
returns-clause-stays g c = λ begin history v way link after steps s fate is.
    cookie_stays g.L.Link.makes begin c.answers_stay.ensures.write history v way link after fate steps s is

pub returns-clause-answered : goal.returns-clause-answered
returns-clause-answered g c = λ begin history v place again s is. answered_stands g.L.Link.makes begin history v place again s is

pub returns-clause-windows : goal.returns-clause-windows
returns-clause-windows g c = λ begin history old new windows after some few visits s.
    windows_stand g.L.Link.makes begin history old new windows after some few visits s

pub returns-clause-holders : goal.returns-clause-holders
returns-clause-holders g c = λ begin history v turned s.
    holders_stand g.L.Link.makes begin c.ways_have_answers.ensures.write history v turned s

pub returns-clause-advance : goal.returns-clause-advance
returns-clause-advance g c = λ begin key history old new turned advances s.
    advance_stands g.L.Link.makes begin c.ways_have_answers.ensures.write key history old new turned advances s

pub returns-clause-leave : goal.returns-clause-leave
returns-clause-leave g c = λ begin history v turned s. leave_stands g.L.Link.makes begin history v turned s

pub returns-clause-back : goal.returns-clause-back
returns-clause-back g c = λ begin history old new fate back is s. back_stands g.L.Link.makes begin history old new fate back is s

pub returns-clause-item : goal.returns-clause-item
returns-clause-item g c = λ begin history v i turned is s. item_stands g.L.Link.makes begin history v i turned is s

pub returns-clause-cookie : goal.returns-clause-cookie
returns-clause-cookie g c = λ begin facts es i cookie told some. cookie_told_by g.L.Link.makes begin es facts i cookie told some

pub returns-clause-found : goal.returns-clause-found
returns-clause-found g c = λ now nonce cookie value holders ends.
    read_so (MakesAmong g.L.Link.makes) now nonce cookie tt tt value
    (read_facts (MakesAmong g.L.Link.makes) now nonce cookie tt tt (Ok value) (holders-differ cookie.bricks holders.2) ends)

pub returns-clause-lost : goal.returns-clause-lost
returns-clause-lost g c = λ now nonce cookie causes holders ends.
    lost (MakesAmong g.L.Link.makes) now nonce cookie tt tt causes
    (read_facts (MakesAmong g.L.Link.makes) now nonce cookie tt tt (Err (read_refusal.Lost causes)) (holders-differ cookie.bricks holders.2) ends)

pub returns-clause-written : goal.returns-clause-written
returns-clause-written g c = λ order cookie w. (w.writing.has_begun.old, written_so g.L.Link.makes order cookie w)

pub returns-clause-missed : goal.returns-clause-missed
returns-clause-missed g c = λ order causes w. (w.writing.has_begun.old, missed_so g.L.Link.makes order causes w)

pub returns-clause-unset : goal.returns-clause-unset
returns-clause-unset g c = λ begin facts es i place again told is none. unset_by g.L.Link.makes begin facts es i place again told is none

pub returns-clause-set : goal.returns-clause-set
returns-clause-set g c = λ begin facts es i place again cookie told is some. set_by g.L.Link.makes begin facts es i place again cookie told is some

pub returns-clause-full : goal.returns-clause-full
returns-clause-full g c = λ begin facts es i place again full told is. full_by g.L.Link.makes begin facts es i place again full told is

pub returns-clause-overload : goal.returns-clause-overload
returns-clause-overload g c = λ old new windows after place told again once shown full visits was is.
    overload_by old new windows after place told again once shown full visits was is

pub returns-clause-expired : goal.returns-clause-expired
returns-clause-expired g c = λ now at expiry nonce cookie ends. expired_by g.L.Link.makes now at expiry nonce cookie ends
