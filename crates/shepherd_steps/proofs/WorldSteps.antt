-- What a step of a connection leaves is what the function gives.
use Rattle.std.proofs.Common.{◌≡◌, ℕ, List, [], Option, refl, sym, ap, ◌∙◌, subst}
use Rattle.auction_calls.specs.declared.action.ActionCall.{ActionCall}
use Rattle.boot_core.specs.Boot.{BootValue}
use Rattle.container_core.specs.declared.history.Event.{Event}
use Rattle.http_wire.specs.declared.taken.Head.{Head}
use Rattle.outcome_items.specs.declared.item.Item.{Item}
use Rattle.outside.specs.declared.link.LinkEvent.{LinkEvent}
use Rattle.request_decisions.specs.Decisions.{IsDecided}
use Rattle.request_decisions.specs.declared.decision.Decision.{Decision}
use Rattle.request_intake.specs.Intakes.{Gives, Looks}
use Rattle.request_visit.specs.Stepping.{VisitsInside, VisitsWindows, counted}
use Rattle.request_visit.specs.declared.visit.Visit.{Visit}
use Rattle.send_windows.specs.Windows.{WindowsValue}
use Rattle.shepherd.specs.Shepherds.{turn}
use Rattle.shepherd.specs.Steps.{OnVisit, TakesRequest, VisitsOutside}
use Rattle.shepherd.specs.declared.shepherd.AskedCall.{AskedCall}
use Rattle.shepherd.specs.declared.shepherd.Shepherd.{Shepherd}
use Rattle.shepherd.specs.declared.shepherd.ShepherdTurn.{ShepherdTurn}
use Rattle.shepherd.specs.declared.shepherd.ShepherdTurn.TheVariants as turns
use Rattle.shepherd.specs.declared.shepherd.Stage.{Stage}
use Rattle.shepherd.specs.declared.shepherd.Stage.TheVariants.{Resting, Serving, Refusing, Over}
use Rattle.shepherd_steps.specs.Inside.{HasReplied, Inside, added_to, handed}
use Rattle.shepherd_steps.specs.Outside.{outside}
use Rattle.shepherd_steps.specs.Passes.{windows_step}
use Rattle.shepherd_steps.specs.Alone.{gone_alone}
use Rattle.shepherd_steps.specs.Events.{event_of}
use Rattle.shepherd_steps.specs.Stepping.{AreFunctions, Calling, Calls, CallsContainer, CallsLink, CallsNothing, CallsOutput, CallsRequest, CallsWindows, Givens, Leaves, MakesStep, World, at_stage, event_at, alone_after, step, step_inside, steps_in, world_of}
use Rattle.shepherd_steps.specs.Taking.{Counts, take_request}
use Rattle.shepherd_steps.proofs.InsideSteps.{inside-so}
use Rattle.shepherd_steps.proofs.OpeningSteps.{output-fixed}
use Rattle.shepherd_steps.proofs.OutsideSteps.{outside-fixed}
use Rattle.shepherd_steps.proofs.GoingAlone.{gone-alone-fixed}
use Rattle.shepherd_steps.proofs.TakingSteps.{take-fixed}
use Rattle.shepherd_steps.proofs.WindowSteps.{windows-fixed}

-- a request that is open made a step, and this is so of it before and after
abbrev Stepped : {P : Type 0} → (Visit P → Visit P → Type 0) → Stage P → Stage P → Type 0
Stepped {P} So old new = OnVisit old (λ (v : Visit P) (call : Option AskedCall). (after : Visit P) × So v after × (new ≡ Serving after call))

-- a stage after a step of the request that is open, and what that stepped in
in-so : {P X : Type 0} (So : Visit P → Visit P → Type 0) (by : Visit P → X → Visit P × X) (old new : Stage P) (x y : X)
    → ((v w : Visit P) → So v w → (w, y) ≡ by v x) → Stepped So old new → (new, y) ≡ steps_in by old x
in-so So by Resting new x y so h = absurd h
in-so {P} {X} So by (Serving v call) new x y so h =
    ap (λ (s : Stage P). (s, y)) h.2 ∙ ap (λ (z : Visit P × X). (Serving z.0 call, z.1)) (so v h.0 h.1)
in-so So by (Refusing why bytes) new x y so h = absurd h
in-so So by (Over end) new x y so h = absurd h

-- a step of which two things are so
with-both : {P : Type 0} (So : Visit P → Visit P → Type 0) (Also : Visit P → Type 0) (old new : Stage P)
    → Stepped So old new → OnVisit old (λ (v : Visit P) (call : Option AskedCall). Also v) → Stepped (λ (v w : Visit P). So v w × Also v) old new
with-both So Also Resting new h also = absurd h
with-both So Also (Serving v call) new h also = (h.0, (h.1, also), h.2)
with-both So Also (Refusing why bytes) new h also = absurd h
with-both So Also (Over end) new h also = absurd h

-- what an event left
record Seen {P L C R S : Type 0} (words : ℕ → R) (serials : ℕ → S) (new : Calling P L C R S) (bytes : List ℕ) (event : World P L × List ℕ) : Type 0 where
  world : world_of new event.0.drawn ≡ event.0
  bytes_are : bytes ≡ event.1
  random : new.random ≡ words event.0.drawn.words
  serials_are : new.serials ≡ serials event.0.drawn.serials

module _ {P L M C R S : Type 0} (makes : L → LinkEvent → L → Type 0) (opens : M → ActionCall → List ℕ → P → Type 0) (told : C → ℕ) (gives : Gives R) (looks : Looks S) (g : Givens P L)
    (maker : M) (words : ℕ → R) (serials : ℕ → S) (functions : AreFunctions makes opens told gives looks g maker words serials)
    (one : (head : Head) (decision : Decision) → IsDecided g.service.key g.service.home.boot head decision → decision ≡ g.service.decides head)
    (old : Calling P L C R S) (drawn : Counts) (at_random : old.random ≡ words drawn.words) (at_serials : old.serials ≡ serials drawn.serials) where
  nothing-so : (t : ShepherdTurn) (new : Calling P L C R S) (bytes : List ℕ) → event_at g t (world_of old drawn) ≡ (world_of old drawn, [])
      → CallsNothing makes opens told gives looks g old new bytes → Seen words serials new bytes (event_at g t (world_of old drawn))
  nothing-so t new bytes none calls = subst (λ (e : World P L × List ℕ). Seen words serials new bytes e) (sym none) (record {
    world = ap (λ (n : Calling P L C R S). world_of n drawn) calls.same;
    bytes_are = calls.bytes_are;
    random = ap (λ (n : Calling P L C R S). n.random) calls.same ∙ at_random;
    serials_are = ap (λ (n : Calling P L C R S). n.serials) calls.same ∙ at_serials;
  })

  request-so : (new : Calling P L C R S) (bytes : List ℕ) → CallsRequest makes opens told gives looks g old new bytes
      → Seen words serials new bytes (event_at g turns.Request (world_of old drawn))
  request-so new bytes calls =
      let seen = counted (g.tally old.link) in
      let at_r : TakesRequest told gives looks g.service.key g.service.home seen old.connection old.clock (words drawn.words) old.serials new.connection new.clock new.random new.serials =
      subst (λ (r : R). TakesRequest told gives looks g.service.key g.service.home seen old.connection old.clock r old.serials new.connection new.clock new.random new.serials) at_random calls.takes in
      let at_s : TakesRequest told gives looks g.service.key g.service.home seen old.connection old.clock (words drawn.words) (serials drawn.serials) new.connection new.clock new.random new.serials =
      subst (λ (s : S). TakesRequest told gives looks g.service.key g.service.home seen old.connection old.clock (words drawn.words) s new.connection new.clock new.random new.serials) at_serials at_r in
      let so = take-fixed looks gives g.service.numbers serials words functions.in_turn.serials_in_turn functions.in_turn.words_in_turn
      told g.service.key g.service.home g.service.decides seen g.now old.connection old.clock drawn new.connection new.clock new.random new.serials one calls.told_is at_s in
      let after = take_request g.service seen g.now old.connection drawn in
      record {
        world = ap (λ (n : Calling P L C R S). world_of n after.1) calls.rest
            ∙ ap (λ (s : Shepherd P). let w : World P L = record { connection = s; boot = old.container.boot; since = old.container.since; windows = old.windows; link = old.link; drawn = after.1 } in w) so.connection;
        bytes_are = calls.bytes_are;
        random = so.word_state;
        serials_are = so.serial_state;
      }

  link-so : (new : Calling P L C R S) (bytes : List ℕ) → CallsLink makes opens told gives looks g old new bytes
      → Seen words serials new bytes (event_at g turns.Outside (world_of old drawn))
  link-so new bytes calls = record {
    world = ap (λ (n : Calling P L C R S). world_of n drawn) calls.rest
        ∙ (ap (λ (s : Shepherd P). record (world_of old drawn) { connection = s; link = new.link }) calls.steps.rest
        ∙ ap (λ (z : Stage P × L). record (at_stage (world_of old drawn) z.0) { link = z.1 })
        (in-so (λ (v w : Visit P). VisitsOutside makes g.tally v old.link w new.link) (outside g.replies g.tally) old.connection.stage new.connection.stage old.link new.link
        (λ v w so. outside-fixed makes g.tally g.replies v old.link w new.link functions.answers so) calls.steps.steps));
    bytes_are = calls.bytes_are;
    random = ap (λ (n : Calling P L C R S). n.random) calls.rest ∙ at_random;
    serials_are = ap (λ (n : Calling P L C R S). n.serials) calls.rest ∙ at_serials;
  }

  windows-so : (new : Calling P L C R S) (bytes : List ℕ) → CallsWindows makes opens told gives looks g old new bytes
      → Seen words serials new bytes (event_at g turns.Windows (world_of old drawn))
  windows-so new bytes calls = record {
    world = ap (λ (n : Calling P L C R S). world_of n drawn) calls.rest
        ∙ (ap (λ (s : Shepherd P). record (world_of old drawn) { connection = s; windows = new.windows }) calls.steps.rest
        ∙ ap (λ (z : Stage P × WindowsValue). record (at_stage (world_of old drawn) z.0) { windows = z.1 })
        (in-so (λ (v w : Visit P). VisitsWindows v old.windows w new.windows) windows_step old.connection.stage new.connection.stage old.windows new.windows
        (λ v w so. windows-fixed v old.windows w new.windows so) calls.steps.steps));
    bytes_are = calls.bytes_are;
    random = ap (λ (n : Calling P L C R S). n.random) calls.rest ∙ at_random;
    serials_are = ap (λ (n : Calling P L C R S). n.serials) calls.rest ∙ at_serials;
  }

  -- the step of a request in the container, as what it stepped in
  inside-pair : (new : Calling P L C R S) (v w : Visit P) → HasReplied g.keeps (handed g.asks v old.container.boot) (added_to old.container.since new.container.since)
      → VisitsInside g.asks v old.container w new.container
      → (w, (new.container.boot, new.container.since)) ≡ step_inside g.asks g.keeps v (old.container.boot, old.container.since)
  inside-pair new v w replies visits =
      ap (λ (i : Inside P). (i.visit, (i.boot, i.since))) (inside-so g.asks g.keeps v w old.container new.container replies visits)

  container-so : (new : Calling P L C R S) (bytes : List ℕ) → CallsContainer makes opens told gives looks g old new bytes
      → Seen words serials new bytes (event_at g turns.Inside (world_of old drawn))
  container-so new bytes calls = record {
    world = ap (λ (n : Calling P L C R S). world_of n drawn) calls.rest
        ∙ (ap (λ (s : Shepherd P). record (world_of old drawn) { connection = s; boot = new.container.boot; since = new.container.since }) calls.steps.rest
        ∙ ap (λ (z : Stage P × (BootValue × List Event)). record (at_stage (world_of old drawn) z.0) { boot = z.1.0; since = z.1.1 })
        (in-so (λ (v w : Visit P). VisitsInside g.asks v old.container w new.container × HasReplied g.keeps (handed g.asks v old.container.boot) (added_to old.container.since new.container.since))
        (step_inside g.asks g.keeps) old.connection.stage new.connection.stage (old.container.boot, old.container.since) (new.container.boot, new.container.since)
        (λ v w so. inside-pair new v w so.1 so.0)
        (with-both (λ (v w : Visit P). VisitsInside g.asks v old.container w new.container) (λ (v : Visit P). HasReplied g.keeps (handed g.asks v old.container.boot) (added_to old.container.since new.container.since))
        old.connection.stage new.connection.stage calls.steps.steps calls.replies)));
    bytes_are = calls.bytes_are;
    random = ap (λ (n : Calling P L C R S). n.random) calls.rest ∙ at_random;
    serials_are = ap (λ (n : Calling P L C R S). n.serials) calls.rest ∙ at_serials;
  }

  output-so : (new : Calling P L C R S) (bytes : List ℕ) → CallsOutput makes opens told gives looks g old new bytes
      → Seen words serials new bytes (event_at g turns.Output (world_of old drawn))
  output-so new bytes calls =
      let so = output-fixed old.connection.stage bytes new.connection.stage calls.puts in
      record {
        world = ap (λ (n : Calling P L C R S). world_of n drawn) calls.rest
            ∙ ap (λ (z : List ℕ × Stage P). at_stage (world_of old drawn) z.1) so;
        bytes_are = ap (λ (z : List ℕ × Stage P). z.0) so;
        random = ap (λ (n : Calling P L C R S). n.random) calls.rest ∙ at_random;
        serials_are = ap (λ (n : Calling P L C R S). n.serials) calls.rest ∙ at_serials;
      }

  event-so : (t : ShepherdTurn) (new : Calling P L C R S) (bytes : List ℕ) → Calls makes opens told gives looks g t old new bytes
      → Seen words serials new bytes (event_at g t (world_of old drawn))
  event-so turns.Bytes new bytes calls = nothing-so turns.Bytes new bytes refl calls
  event-so turns.Request new bytes calls = request-so new bytes calls
  event-so turns.Outside new bytes calls = link-so new bytes calls
  event-so turns.Windows new bytes calls = windows-so new bytes calls
  event-so turns.Inside new bytes calls = container-so new bytes calls
  event-so turns.Program new bytes calls = nothing-so turns.Program new bytes refl calls
  event-so turns.Own new bytes calls = nothing-so turns.Own new bytes refl calls
  event-so turns.Output new bytes calls = output-so new bytes calls
  event-so turns.Item new bytes calls = nothing-so turns.Item new bytes refl calls
  event-so (turns.Ended end) new bytes calls = nothing-so (turns.Ended end) new bytes refl calls

  pub event-fixed : (new : Calling P L C R S) (bytes : List ℕ) → Calls makes opens told gives looks g (turn old.connection) old new bytes
      → Leaves words serials new bytes [] (event_of g (world_of old drawn))
  unfolding event_of
  event-fixed new bytes calls =
      let seen = event-so (turn old.connection) new bytes calls in
      record { world_is = seen.world; bytes_are = seen.bytes_are; items_are = refl; random_is = seen.random; serials_is = seen.serials_are }

  pub step-fixed : (new : Calling P L C R S) (bytes : List ℕ) (items : List Item) → MakesStep makes opens told gives looks g maker old new bytes items
      → Leaves words serials new bytes items (step g (world_of old drawn))
  unfolding step
  step-fixed new bytes items made = by (event_at g (turn old.connection) (world_of old drawn)) (event-so (turn old.connection) made.mid bytes made.calls) where
    by : (event : World P L × List ℕ) → Seen words serials made.mid bytes event → Leaves words serials new bytes items (alone_after g.making event)
    by event seen =
        let alone = (gone-alone-fixed opens maker g.making functions.made made.through made.mid.connection new.connection items made.alone).1 in
        let from : (new.connection, items) ≡ gone_alone g.making event.0.connection =
        alone ∙ ap (λ (w : World P L). gone_alone g.making w.connection) seen.world in
        record {
          world_is = ap (λ (n : Calling P L C R S). world_of n event.0.drawn) made.rest
              ∙ (ap (λ (w : World P L). record w { connection = new.connection }) seen.world
              ∙ ap (λ (z : Shepherd P × List Item). record event.0 { connection = z.0 }) from);
          bytes_are = seen.bytes_are;
          items_are = ap (λ (z : Shepherd P × List Item). z.1) from;
          random_is = ap (λ (n : Calling P L C R S). n.random) made.rest ∙ seen.random;
          serials_is = ap (λ (n : Calling P L C R S). n.serials) made.rest ∙ seen.serials_are;
        }
