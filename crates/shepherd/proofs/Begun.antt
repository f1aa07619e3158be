-- Requests are served as they came.
use Rattle.std.proofs.Common.{◌≡◌, Option, Some, None, refl, sym, ap, subst, ◌∙◌}
use Rattle.crash_base.specs.declared.numbers.Moment.{Moment}
use Rattle.crash_base.specs.declared.numbers.Place.{Place}
use Rattle.http_wire.specs.declared.taken.Head.{Head}
use Rattle.outside.specs.declared.link.LinkCounts.{LinkCounts}
use Rattle.request_intake.specs.declared.intake.Admission.{Admission}
use Rattle.request_intake.specs.declared.intake.Arrival.{Arrival}
use Rattle.request_intake.specs.declared.intake.Arrival.TheVariants.{Admitted}
use Rattle.session_cookie.specs.declared.cookie.Cookie.{Cookie}
use Rattle.session_way.specs.declared.way.SessionWay.TheVariants as way
use Rattle.ssm_stub.specs.Reads.{read_start}
use Rattle.shepherd.specs.Serving.{IsServedWith}
use Rattle.shepherd.specs.Steps.{OnVisit, admitted_visit, begun_by, facts_of}
use Rattle.shepherd.specs.declared.shepherd.Stage.{Stage}

by_cookie : (P : Type 0) (front : Place) (counts : LinkCounts) (head : Head) (now : Moment) (a : Admission) (cookie : Option Cookie) → a.cookie ≡ cookie
    → OnVisit {P = P} (admitted_visit (facts_of a now front head) counts a cookie) (λ v call. IsServedWith a now v call)
by_cookie P front counts head now a None is = record {
  request_is = refl;
  moment_is = refl;
  key_is = refl;
  nonce_is = refl;
  call_is = refl;
  read = λ c some. absurd (let no = sym is ∙ some in cc);
  bare = λ none. (refl, refl);
}
by_cookie P front counts head now a (Some cookie) is = record {
  request_is = refl;
  moment_is = refl;
  key_is = refl;
  nonce_is = refl;
  call_is = refl;
  read = λ c some. let same : cookie ≡ c = (let e = sym is ∙ some in cc) in
      (ap (λ (x : Cookie). way.Reading (read_start now a.read x)) same, refl);
  bare = λ none. absurd (let no = sym is ∙ none in cc);
}

pub begins_so : {P : Type 0} (front : Place) (counts : LinkCounts) (head : Head) (now : Moment) (arrival : Arrival) (a : Admission) (stage : Stage P)
    → stage ≡ begun_by front counts head now arrival → arrival ≡ Admitted a → OnVisit stage (λ v call. IsServedWith a now v call)
begins_so {P} front counts head now arrival a stage is admitted =
    subst (λ (x : Stage P). OnVisit x (λ v call. IsServedWith a now v call))
    (sym (is ∙ ap (λ (x : Arrival). begun_by {P = P} front counts head now x) admitted))
    (by_cookie P front counts head now a a.cookie refl)
