-- Ends of requests that stand in their history.
use Rattle.std.specs.Prelude.{All, IfSome, not, option_and_then}
use Rattle.std.proofs.Common.{◌≡◌, ◌⊎◌, ℕ, ◌+◌, ◌<◌, ◌≤◌, Bool, true, false, List, [], ◌∷◌, ◌++◌, length, take, Option, Some, None, refl, sym, ap, ◌∙◌, subst, arith, length-append, inl, inr}
use Rattle.std.proofs.lemmas.Bool.{and_parts, cases_lt, eqb-true}
use Rattle.std.proofs.lemmas.List.{take-append-le, take_all}
use Rattle.std.proofs.lemmas.List.Elements.{All-head, All-tail}
use Rattle.crash_base.specs.declared.fault_plans.FaultKind.{FaultKind}
use Rattle.crash_base.specs.declared.numbers.ComponentNo.{ComponentNo}
use Rattle.crash_base.specs.declared.numbers.GroupNo.{GroupNo}
use Rattle.crash_base.specs.declared.numbers.Place.{Place}
use Rattle.component_pool.specs.Journal.{reboots_in}
use Rattle.component_pool.specs.Plans.{counted}
use Rattle.component_pool.specs.Pool.{times}
use Rattle.component_pool.proofs.Finding.{active_found}
use Rattle.deployment.specs.Groups.{group_of}
use Rattle.deployment.specs.Parts.{component_no}
use Rattle.journal_model.specs.declared.entry.DoneText.{DoneText}
use Rattle.journal_model.specs.declared.entry.Entry.{Entry}
use Rattle.journal_model.specs.declared.entry.Touch.{Touch}
use Rattle.journal_model.specs.declared.stale.Stale.{Stale}
use Rattle.journal_model.specs.Reboots.{down_of}
use Rattle.journal_model.specs.Revoked.{IsFirstStale}
use Rattle.journal_model.specs.Stale.{IsSince, IsTouch, stale_in}
use Rattle.journal_model.proofs.Revoking.{first_stale}
use Rattle.call_ticket.specs.declared.next.Answer.{Answer}
use Rattle.call_ticket.specs.declared.next.Next.{Next}
use Rattle.boot_core.specs.Boot.{BootValue}
use Rattle.boot_core.specs.declared.boot.Start.{Start}
use Rattle.container_core.specs.Container.{ContainerValue, events_of}
use Rattle.container_core.specs.History.{entries_in}
use Rattle.container_core.specs.declared.history.Event.{Event}
use Rattle.call_attempts.specs.Attempt.{AttemptValue, EntersGroup, EntersOnce, FailsOnItsWay, IsUnderWay, stop_of_attempt, wanted}
use Rattle.call_attempts.specs.declared.stop.Stop.TheVariants as stops
use Rattle.call_attempts.proofs.Stopping.{MeetsFault, sentinel_is}
use Rattle.request_tries.specs.Ends.{Errand, AreAll, HasUncuredPlan, OutcomeStands, EndStands, WasRevoked, WasInConflict, copied_for, done_at, done_of, page_of}
use Rattle.request_tries.specs.Serving.{TriesValue, IsServing, errand_of, with_try}
use Rattle.request_tries.specs.Steps.{EndsTry, ended_at, from_of, front_at, outcome_by, try_ended}
use Rattle.request_tries.specs.Tries.{CauseStands, AreTries, first_begin, last_front}
use Rattle.request_tries.specs.declared.outcome.Ended.{Ended}
use Rattle.request_tries.specs.declared.outcome.RequestOutcome.{RequestOutcome}
use Rattle.request_tries.specs.declared.outcome.Try.{Try}
use Rattle.request_tries.specs.declared.outcome.TryCause.{TryCause}
use Rattle.request_tries.specs.declared.outcome.TryCause.TheVariants as cause
use Rattle.request_tries.specs.declared.outcome.TheConstants.{MAX_TRIES}
use Rattle.request_tries.proofs.Trying.{first_before, from_first, stands_now, tries_more}

-- An end stands in each longer history.
pub end_longer : (start : Start) (events more : List Event) (a : Errand) (e : Ended) → EndStands start events a e → EndStands start (events ++ more) a e
end_longer start events more a e s = record {
  begun = s.begun;
  held = omega (arith, s.held, length-append events more);
  front = rw (take-append-le e.held events more s.held) s.front;
  from = s.from;
  outcome = rw (take-append-le e.held events more s.held) s.outcome;
  done = rw (take-append-le e.held events more s.held) s.done;
}

-- What an end answers, it answers in each longer history.
pub answers_longer : (events more : List Event) (e : Ended) → e.held ≤ length events → done_of (events ++ more) e ≡ done_of events e
answers_longer events more e held = ap (λ (es : List Event). option_and_then (done_at (entries_in es)) (page_of e.outcome)) (take-append-le e.held events more held)

-- an end stands where the container is as it shows
pub stands : (c : ContainerValue) (a : Errand) (from : Place) (o : RequestOutcome) (done : Option DoneText) → entries_in c.since ≡ c.boot.entries → from.0 ≤ length c.boot.entries
    → OutcomeStands c.boot.start (events_of c) a from.0 o → done ≡ copied_for c.boot.entries o → EndStands c.boot.start (events_of c) a (ended_at (front_at c) from o done)
stands c a from o done seen le shows is =
    let whole : take (length (events_of c)) (events_of c) ≡ events_of c = take_all (length (events_of c)) (events_of c) (omega arith) in
    record {
      begun = omega arith;
      held = omega arith;
      front = subst (λ (es : List Event). length (entries_in es) ≡ length c.boot.entries) (sym whole) (ap (λ (es : List Entry). length es) seen);
      from = le;
      outcome = subst (λ (es : List Event). OutcomeStands c.boot.start es a from.0 o) (sym whole) shows;
      done = subst (λ (es : List Event). done ≡ copied_for (entries_in es) o) (sym whole) (is ∙ sym (ap (λ (es : List Entry). copied_for es o) seen));
    }

-- what holds of each holds of one in the middle
pub all_middle : {A : Type 0} (P : A → Type 0) (before : List A) (x : A) (after : List A) → All P (before ++ x ∷ after) → P x
all_middle P [] x after each = All-head P x after each
all_middle P (y ∷ ys) x after each = all_middle P ys x after (All-tail P y (ys ++ x ∷ after) each)

-- An attempt that is under way and has a stale touch was revoked.
pub revoked_shows : (boot : BootValue) (asks : List Answer → Next) (a : AttemptValue) (s : Stale) → IsUnderWay boot asks a
    → stale_in boot.entries a.ticket.call.touched ≡ Some s → CauseStands boot.start.deployment asks boot.entries a.ticket.call.at.0 (cause.Revoked s)
revoked_shows boot asks a s way is =
    let first : IsFirstStale boot.entries a.ticket.call.touched s = first_stale boot.entries a.ticket.call.touched s is in
    let since : IsSince a.ticket.call.at.0 first.touch = all_middle (IsSince a.ticket.call.at.0) first.before first.touch first.after (rw (sym first.parts) way.since) in
    let entered : EntersGroup boot.start.deployment asks first.touch.group = all_middle (λ (t : Touch). EntersGroup boot.start.deployment asks t.group) first.before first.touch first.after (rw (sym first.parts) way.groups) in
    let touch : IsTouch boot.entries first.touch = all_middle (IsTouch boot.entries) first.before first.touch first.after (rw (sym first.parts) way.fits.journal.touches) in
    let P : Stale → Type 0 = λ shown. CauseStands boot.start.deployment asks boot.entries a.ticket.call.at.0 (cause.Revoked shown) in
    let later = first.stale.since in
    subst P (sym first.shown) (
      record {
        place = first.stale.place;
        since = omega (arith, since, later);
        scope = first.stale.scope;
        down = first.stale.down;
        holding = first.stale.holding;
        front = first.touch.front.0;
        after = since;
        within = touch.within;
        had = refl;
        now = refl;
      },
      entered,
    )

-- An attempt that met a group that is down asked to enter a component of it.
pub sentinel_shows : (boot : BootValue) (asks : List Answer → Next) (a : AttemptValue) (group : GroupNo) (down : Place) → stop_of_attempt boot asks a ≡ Some (stops.Sentinel group down)
    → (down_of boot.entries group.0 ≡ Some down) × EntersGroup boot.start.deployment asks group
sentinel_shows boot asks a group down is =
    let met = (sentinel_is boot a.ticket.call (wanted asks a) group down).0 is in
    let enters = met.1 in
    (ap (λ (g : GroupNo). down_of boot.entries g.0) enters.3 ∙ enters.4, record { answers = a.answers; component = enters.0; method = enters.1; asked = enters.2; group_is = enters.3 })

-- what is not true is false
is_false : (b : Bool) → not b ≡ true → b ≡ false
is_false true e = sym e
is_false false e = refl

-- An attempt that met a component which fails asked to enter it on its way, and it fails by a plan of the start.
pub fault_shows : (boot : BootValue) (asks : List Answer → Next) (a : AttemptValue) (component : ComponentNo) (fault : ℕ) (kind : FaultKind) → IsUnderWay boot asks a → MeetsFault boot (wanted asks a) component fault kind
    → HasUncuredPlan boot.start boot.entries component fault kind × FailsOnItsWay asks component (a.entered ++ component ∷ [])
fault_shows boot asks a component fault kind way (method, asked, up, fails) =
    let found = active_found boot.start.plans component.0 (counted (times boot.entered component.0)) (reboots_in boot.entries (group_of boot.start.deployment component.0)) fault kind fails in
    let active = and_parts _ _ found.1.active in
    let uncured = and_parts _ _ active.1 in (
      record {
        plan = found.0;
        here = found.1.here;
        component_is = ap component_no (eqb-true found.0.component.0 component.0 active.0);
        kind_is = found.2;
        uncured = is_false _ uncured.1;
      },
      record {
        answers = a.answers;
        method = method;
        asked = asked;
        path_is = ap (λ (cs : List ComponentNo). cs ++ component ∷ []) way.entered;
      },
    )

-- what a request brings to the end of a try
pub record TryMayEnd (c : ContainerValue) (asks : List Answer → Next) (s : TriesValue) (at : Place) (why : TryCause) (repeats : Bool) : Type 0 where
  pub seen : entries_in c.since ≡ c.boot.entries
  pub few : length s.tries < MAX_TRIES
  pub tries : AreTries c.boot.start.deployment asks c.boot.entries 0 s.tries
  pub after : last_front 0 s.tries ≤ at.0
  pub within : at.0 ≤ length c.boot.entries
  pub shows : CauseStands c.boot.start.deployment asks c.boot.entries at.0 why
  pub once : repeats ≡ false → EntersOnce c.boot.start.deployment asks × WasRevoked why

-- the tries with the one that ends now
pub with_last : (c : ContainerValue) (asks : List Answer → Next) (s : TriesValue) (at : Place) (why : TryCause) (repeats : Bool) → TryMayEnd c asks s at why repeats
    → AreTries c.boot.start.deployment asks c.boot.entries 0 (s.tries ++ try_ended (front_at c) at why ∷ [])
with_last c asks s at why repeats h =
    tries_more c.boot.start.deployment asks c.boot.entries 0 s.tries (try_ended (front_at c) at why) h.tries h.after
    (stands_now c.boot.start.deployment asks c.boot.entries (try_ended (front_at c) at why) refl h.within h.shows)

-- the outcome of a request whose last try ends now
outcome_shows : (c : ContainerValue) (asks : List Answer → Next) (s : TriesValue) (at : Place) (why : TryCause) (repeats : Bool) → TryMayEnd c asks s at why repeats
    → ((MAX_TRIES ≤ length s.tries + 1) ⊎ (repeats ≡ false))
    → OutcomeStands c.boot.start (events_of c) (errand_of s asks) (first_begin s.tries at.0) (outcome_by why (s.tries ++ try_ended (front_at c) at why ∷ []))
outcome_shows c asks s at why repeats h enough = go why refl
  where
    last : Try
    last = try_ended (front_at c) at why

    ts : List Try
    ts = s.tries ++ last ∷ []

    here : AreTries c.boot.start.deployment asks (entries_in (events_of c)) (first_begin s.tries at.0) ts
    here = subst (λ (es : List Entry). AreTries c.boot.start.deployment asks es (first_begin s.tries at.0) ts) (sym h.seen)
        (from_first c.boot.start.deployment asks c.boot.entries s.tries last (with_last c asks s at why repeats h))

    all : (MAX_TRIES ≤ length s.tries + 1) → length ts ≡ MAX_TRIES
    all le = let few = h.few in omega (arith, le, few, length-append s.tries (last ∷ []))

    fewer : EntersOnce c.boot.start.deployment asks → AreAll c.boot.start.deployment asks ts
    fewer once = elim (cases_lt (length ts) MAX_TRIES) [ inl lt ↦ inr (lt, once) | inr ge ↦ inl (let few = h.few in omega (arith, ge, few, length-append s.tries (last ∷ []))) ]

    go : (w : TryCause) → why ≡ w → OutcomeStands c.boot.start (events_of c) (errand_of s asks) (first_begin s.tries at.0) (outcome_by w ts)
    go (cause.Revoked shown) is = (here, record { before = s.tries; last = last; parts = refl; ended_so = subst WasRevoked (sym is) tt }, elim enough [ inl le ↦ inl (all le) | inr no_more ↦ fewer (h.once no_more).0 ])
    go (cause.Conflict mark newest) is = (
      here,
      record { before = s.tries; last = last; parts = refl; ended_so = subst WasInConflict (sym is) tt },
      elim enough [ inl le ↦ all le | inr no_more ↦ absurd (subst WasRevoked is (h.once no_more).1) ],
    )

-- an end of a try answers nothing
none_answered : (es : List Entry) (why : TryCause) (ts : List Try) → None ≡ copied_for es (outcome_by why ts)
none_answered es (cause.Revoked shown) ts = refl
none_answered es (cause.Conflict mark newest) ts = refl

-- A try that ends leaves a request that is served still, or an end that stands.
pub try_ends : (c : ContainerValue) (asks : List Answer → Next) (s : TriesValue) (at : Place) (why : TryCause) (repeats : Bool) (e : Option Ended) (new : TriesValue)
    → TryMayEnd c asks s at why repeats → EndsTry (front_at c) s at why repeats e new
    → (e ≡ None → IsServing c.boot asks new) × IfSome e (λ x. EndStands c.boot.start (events_of c) (errand_of s asks) x)
try_ends c asks s at why repeats None new h ends =
    let more : IsServing c.boot asks (with_try s (try_ended (front_at c) at why)) = record { few = let low = ends.0 in omega (arith, low, length-append s.tries (try_ended (front_at c) at why ∷ [])); tries = with_last c asks s at why repeats h; attempt = tt } in
    ((λ none. subst (λ (x : TriesValue). IsServing c.boot asks x) (sym ends.2) more), tt)
try_ends c asks s at why repeats (Some x) new h ends =
    let ts : List Try = s.tries ++ try_ended (front_at c) at why ∷ [] in
    let le = first_before c.boot.start.deployment asks c.boot.entries s.tries at.0 h.tries h.after in
    let within = h.within in
    let end = stands c (errand_of s asks) (from_of s at) (outcome_by why ts) None h.seen (omega (arith, le, within)) (outcome_shows c asks s at why repeats h ends.0) (none_answered c.boot.entries why ts) in
    ((λ none. absurd (cc)), subst (λ (y : Ended). EndStands c.boot.start (events_of c) (errand_of s asks) y) (sym ends.1) end)
