use Rattle.std.proofs.Common.{◌∙◌, ap, sym, refl, subst, List, map, Ok, Err}
use Rattle.send_windows.specs.declared.pass.Pass.{Pass}
use Rattle.ssm_stub.specs.declared.read_call.ReadRefusal.TheVariants.{Expired, Lost}
use Rattle.ssm_stub.specs.declared.write_call.WriteRefusal.TheVariants.{Missed}
use Rattle.ssm_stub.specs.Ends.{ReadEnds, WriteEnds}
use Rattle.ssm_stub.specs.Reads.{read_answer, read_start}
use Rattle.ssm_stub.specs.Writes.{pass_of}
use Rattle.session_way.specs.Runs.{HasWritten}
use Rattle.session_way.specs.Way.{passes_for}
use Rattle.session_way.specs.Writing.{WritingState, write_begun}
use Rattle.session_way.proofs.Ending.{answered_expired, expired_answer, untouched}
use Rattle.session_way.proofs.Holders.{written_holders}
use Rattle.session_way.proofs.PassesKept.{begun_of}
use Rattle.session_way.proofs.laws.ways_end_as_calls_do.Goals as goal

pub returns-clause-read : goal.returns-clause-read
returns-clause-read g c = λ now nonce cookie here old new answer h answers.
    record { events = h.events; end = here; ran = h.ran; answers = answers }

pub returns-clause-expired : goal.returns-clause-expired
returns-clause-expired g c = λ now nonce cookie here old new h past.
    let start = read_start now nonce cookie in (
      ap read_answer h.same ∙ expired_answer (record start { asks = here.asks }) past,
      untouched g.L.Link.makes start old h.events here new (Err (Expired now cookie.expiry)) (expired_answer start past) h.ran,
    )

pub returns-clause-expired_only : goal.returns-clause-expired_only
returns-clause-expired_only g c = λ now nonce cookie here old new at expiry h answers.
    answered_expired (record (read_start now nonce cookie) { asks = here.asks }) at expiry (sym (ap read_answer h.same) ∙ answers)

pub returns-clause-found : goal.returns-clause-found
returns-clause-found g c = λ now nonce cookie here old new value holders h answers.
    let ends : ReadEnds g.L.Link.makes (read_start now nonce cookie) old new (Ok value) = record { events = h.events; end = here; ran = h.ran; answers = answers } in
    c.read_values_were_found.ensures old new now nonce cookie value holders ends

pub returns-clause-lost : goal.returns-clause-lost
returns-clause-lost g c = λ now nonce cookie here old new causes holders h answers.
    let ends : ReadEnds g.L.Link.makes (read_start now nonce cookie) old new (Err (Lost causes)) = record { events = h.events; end = here; ran = h.ran; answers = answers } in (
      c.lost_reads_have_causes.ensures old new now nonce cookie causes holders ends,
      c.causes_are_counted.ensures.lost old new now nonce cookie causes holders ends,
    )

pub returns-clause-write : goal.returns-clause-write
returns-clause-write g c = λ order least passes here old new answer h answers.
    record { events = h.events; end = here; ran = h.ran; answers = answers; marks = refl }

pub returns-clause-written : goal.returns-clause-written
returns-clause-written g c = λ order least passes here old new cookie distinct h answers.
    let ends : WriteEnds g.L.Link.makes (write_begun order least passes).write old new (map pass_of here.asks) (Ok cookie) = record { events = h.events; end = here; ran = h.ran; answers = answers; marks = refl } in
    c.written_cookies_name_who_stored.ensures old new passes (map pass_of here.asks) least order.nonce order.key order.value order.expiry cookie distinct ends

pub returns-clause-holders : goal.returns-clause-holders
returns-clause-holders g c = λ order least passes here old new cookie distinct some few h answers.
    let ends : WriteEnds g.L.Link.makes (write_begun order least passes).write old new (map pass_of here.asks) (Ok cookie) = record { events = h.events; end = here; ran = h.ran; answers = answers; marks = refl } in
    written_holders g.L.Link.makes passes least order.nonce order.key order.expiry old new cookie distinct some few (c.written_cookies_name_who_stored.ensures old new passes (map pass_of here.asks) least order.nonce order.key order.value order.expiry cookie distinct ends)

pub returns-clause-many : goal.returns-clause-many
returns-clause-many g c = λ order windows taken w here old new cookie is h answers.
    let passes : List Pass = passes_for order windows in
    let begun : WritingState = write_begun order windows.wq passes in
    let Run : WritingState → Type 0 = λ v. HasWritten g.L.Link.makes v.write old here new in
    let ran : HasWritten g.L.Link.makes begun.write old here new = subst Run (begun_of order windows taken w is) h in
    let ends : WriteEnds g.L.Link.makes begun.write old new (map pass_of here.asks) (Ok cookie) = record { events = ran.events; end = here; ran = ran.ran; answers = answers; marks = refl } in
    (c.written_cookies_name_who_stored.ensures old new passes (map pass_of here.asks) windows.wq order.nonce order.key order.value order.expiry cookie is.lawful.distinct ends).enough

pub returns-clause-missed : goal.returns-clause-missed
returns-clause-missed g c = λ order least passes here old new causes distinct h answers.
    let ends : WriteEnds g.L.Link.makes (write_begun order least passes).write old new (map pass_of here.asks) (Err (Missed causes)) = record { events = h.events; end = here; ran = h.ran; answers = answers; marks = refl } in (
      c.missed_writes_have_causes.ensures old new passes (map pass_of here.asks) least order.nonce order.key order.value order.expiry causes distinct ends,
      c.causes_are_counted.ensures.missed old new passes (map pass_of here.asks) least order.nonce order.key order.value order.expiry causes distinct ends,
    )
