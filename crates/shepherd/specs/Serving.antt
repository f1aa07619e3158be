-- How a request that is admitted begins.
use Rattle.std.specs.Prelude.{◌≡◌, Option, Some, None}
use Rattle.crash_base.specs.declared.numbers.Moment.{Moment}
use Rattle.request_intake.specs.declared.intake.Admission.{Admission}
use Rattle.request_visit.specs.declared.visit.Visit.{Visit}
use Rattle.request_visit.specs.declared.visit.Work.TheVariants.{Reading, Opening}
use Rattle.session_cookie.specs.declared.cookie.Cookie.{Cookie}
use Rattle.session_way.specs.declared.way.SessionWay.TheVariants as way
use Rattle.ssm_stub.specs.Reads.{read_start}
use Rattle.shepherd.specs.declared.shepherd.AskedCall.{AskedCall}

-- A request that is admitted at a moment is served with what it was admitted with: its session is read first, by the
-- cookie that it bears and with the nonce that was drawn for that; and where it bears none, its program is to be made
-- at once.
pub record IsServedWith {P : Type 0} (a : Admission) (now : Moment) (v : Visit P) (call : Option AskedCall) : Type 0 where
  pub request_is : v.facts.request ≡ Some a.request
  pub moment_is : v.facts.now ≡ now
  pub key_is : v.facts.key ≡ a.call.key
  pub nonce_is : v.facts.write ≡ a.write
  pub call_is : call ≡ Some (record { request = a.request; call = a.call })
  pub read : (c : Cookie) → a.cookie ≡ Some c → (v.way ≡ way.Reading (read_start now a.read c)) × (v.work ≡ Reading)
  pub bare : a.cookie ≡ None → (v.way ≡ way.Resting) × (v.work ≡ Opening)
