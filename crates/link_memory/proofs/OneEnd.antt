-- A run over the link follows from its start.
use Rattle.std.proofs.Common.{◌≡◌, ◌∙◌, ap, sym, refl, subst, ℕ, IsTrue, List, [], ◌∷◌, map, Option, Some, None}
use Rattle.ssm_frames.specs.declared.frame.Frame.{Frame}
use Rattle.outside.specs.Link.{Made}
use Rattle.ssm_stub.specs.declared.event.StubEvent.{StubEvent}
use Rattle.ssm_stub.specs.declared.event.StubEvent.TheVariants as event
use Rattle.ssm_stub.specs.declared.event.StubNext.{StubNext}
use Rattle.ssm_stub.specs.declared.event.StubNext.TheVariants.{Send, Receive, Ended}
use Rattle.ssm_stub.specs.Runs.{Machine, told_of, fits, Fits, call_of, calls, after}
use Rattle.link_lanes.specs.Lanes.{lane_of, IsFirst}
use Rattle.link_memory.specs.Lane.{LaneValue}
use Rattle.link_memory.specs.Leaving.{HasOneEnd}
use Rattle.link_memory.specs.Script.{ScriptValue, IsQuiet, Gives, ScriptMakes}
use Rattle.link_memory.proofs.Asking.{nothing_fits}
use Rattle.link_memory.proofs.Steps.{no_lane, made_split}

-- the same event and the same link
record Same (e f : StubEvent) (mid other : ScriptValue) : Type 0 where
  event_is : e ≡ f
  link_is : mid ≡ other

one_front : (bytes others : List ℕ) (queue : List Frame) → IsFirst bytes queue → IsFirst others queue → bytes ≡ others
one_front bytes others [] h k = absurd h
one_front bytes others (frame ∷ rest) h k = h.0 ∙ sym k.0

one_given : (bytes others : List ℕ) (found : Option LaneValue) → Gives bytes found → Gives others found → bytes ≡ others
one_given bytes others None h k = absurd h
one_given bytes others (Some lane) h k = one_front bytes others lane.queue h k

empty_front : (bytes : List ℕ) (queue : List Frame) → IsFirst bytes queue → queue ≡ [] → ⊥
empty_front bytes [] h k = h
empty_front bytes (frame ∷ rest) h k = absurd cc

not_both : (bytes : List ℕ) (found : Option LaneValue) → Gives bytes found → IsQuiet found → ⊥
not_both bytes None h k = h
not_both bytes (Some lane) h k = empty_front bytes lane.queue h k

one_call : (ask : List ℕ) (next : StubNext) (e f : StubEvent) (link mid other : ScriptValue) → IsTrue (fits next (told_of e)) → IsTrue (fits next (told_of f)) → Made ScriptMakes link (call_of ask next e) mid → Made ScriptMakes link (call_of ask next f) other → Same e f mid other
one_call ask (Send brick) event.Sent event.Sent link mid other first second (m, (there, is), end) (n, (too, its), last) = record { event_is = refl; link_is = sym end ∙ (is ∙ (sym its ∙ last)) }
one_call ask (Send brick) event.Sent event.Silent link mid other first second (m, (there, is), end) (n, (none, fit, its), last) = absurd (no_lane (lane_of link brick.0) none there)
one_call ask (Send brick) event.Silent event.Sent link mid other first second (m, (none, fit, is), end) (n, (there, its), last) = absurd (no_lane (lane_of link brick.0) none there)
one_call ask (Send brick) event.Silent event.Silent link mid other first second (m, (none, fit, is), end) (n, (too, fit2, its), last) = record { event_is = refl; link_is = sym end ∙ (is ∙ (sym its ∙ last)) }
one_call ask (Send brick) (event.Frame bytes) f link mid other first second made more = absurd cc
one_call ask (Send brick) event.Sent (event.Frame bytes) link mid other first second made more = absurd cc
one_call ask (Send brick) event.Silent (event.Frame bytes) link mid other first second made more = absurd cc
one_call ask (Receive brick) (event.Frame bytes) (event.Frame others) link mid other first second (m, (gives, few, is), end) (n, (too, few2, its), last) =
    record { event_is = ap (λ (xs : List ℕ). event.Frame xs) (one_given bytes others (lane_of link brick.0) gives too); link_is = sym end ∙ (is ∙ (sym its ∙ last)) }
one_call ask (Receive brick) (event.Frame bytes) event.Silent link mid other first second (m, (gives, few, is), end) (n, (quiet, fit, its), last) = absurd (not_both bytes (lane_of link brick.0) gives quiet)
one_call ask (Receive brick) event.Silent (event.Frame bytes) link mid other first second (m, (quiet, fit, is), end) (n, (gives, few, its), last) = absurd (not_both bytes (lane_of link brick.0) gives quiet)
one_call ask (Receive brick) event.Silent event.Silent link mid other first second (m, (quiet, fit, is), end) (n, (too, fit2, its), last) = record { event_is = refl; link_is = sym end ∙ (is ∙ (sym its ∙ last)) }
one_call ask (Receive brick) event.Sent f link mid other first second made more = absurd cc
one_call ask (Receive brick) (event.Frame bytes) event.Sent link mid other first second made more = absurd cc
one_call ask (Receive brick) event.Silent event.Sent link mid other first second made more = absurd cc
one_call ask Ended e f link mid other first second made more = absurd (nothing_fits (told_of e) first)

module _ {S : Type 0} (m : Machine S) (ask : List ℕ) where
  abbrev Agree : List StubEvent → List StubEvent → ScriptValue → ScriptValue → Type 0
  Agree events more new beside = (events ≡ more) × (new ≡ beside)

  wants_more : (s : S) (e : StubEvent) → m.next s ≡ Ended → IsTrue (fits (m.next s) (told_of e)) → ⊥
  wants_more s e over fit = (let P : StubNext → Type 0 = λ next. IsTrue (fits next (told_of e)) in nothing_fits (told_of e) (subst P over fit))

  agree : (events more : List StubEvent) (s : S) (link new beside : ScriptValue) → Fits m s (map told_of events) → Made ScriptMakes link (calls m ask s events) new → m.next (after m s (map told_of events)) ≡ Ended
      → Fits m s (map told_of more) → Made ScriptMakes link (calls m ask s more) beside → m.next (after m s (map told_of more)) ≡ Ended → Agree events more new beside
  agree [] [] s link new beside fit made over fit2 made2 over2 = (refl, sym made ∙ made2)
  agree [] (f ∷ more) s link new beside fit made over fit2 made2 over2 = absurd (wants_more s f over fit2.0)
  agree (e ∷ events) [] s link new beside fit made over fit2 made2 over2 = absurd (wants_more s e over2 fit.0)
  agree (e ∷ events) (f ∷ more) s link new beside fit made over fit2 made2 over2 =
      let first = made_split (call_of ask (m.next s) e) (calls m ask (m.hear s (told_of e)) events) link new made in
      let second = made_split (call_of ask (m.next s) f) (calls m ask (m.hear s (told_of f)) more) link beside made2 in
      let same = one_call ask (m.next s) e f link first.0 second.0 fit.0 fit2.0 first.1 second.1 in
      let F : StubEvent → Type 0 = λ x. Fits m (m.hear s (told_of x)) (map told_of more) in
      let O : StubEvent → Type 0 = λ x. m.next (after m (m.hear s (told_of x)) (map told_of more)) ≡ Ended in
      let M : StubEvent → Type 0 = λ x. Made ScriptMakes second.0 (calls m ask (m.hear s (told_of x)) more) beside in
      let L : ScriptValue → Type 0 = λ l. Made ScriptMakes l (calls m ask (m.hear s (told_of e)) more) beside in
      let back = sym same.event_is in
      let later = agree events more (m.hear s (told_of e)) first.0 new beside fit.1 first.2 over (subst F back fit2.1) (subst L (sym same.link_is) (subst M back second.2)) (subst O back over2) in
      (ap (λ x. x ∷ events) same.event_is ∙ ap (λ xs. f ∷ xs) later.0, later.1)

pub one_end : {S : Type 0} (m : Machine S) → HasOneEnd m
one_end {S} m ask start old events more end other new beside ran over ran2 over2 =
    let P : S → Type 0 = λ s. m.next s ≡ Ended in
    let same = agree m ask events more start old new beside ran.fitting ran.made (subst P ran.ends over) ran2.fitting ran2.made (subst P ran2.ends over2) in
    (same.0, ran.ends ∙ (ap (λ xs. after m start (map told_of xs)) same.0 ∙ sym ran2.ends), same.1)
